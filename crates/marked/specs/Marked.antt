-- A table of small plans, and what is so of each.
--   Question  what may be asked of a plan
--   Says      what it means that the answer is yes, by the definitions that the contracts use
--   Row       the calls that draw a plan, and a question
--   table     the rows
use Rattle.std.specs.Prelude.{◌≡◌, ℕ, List, [], ◌∷◌, ◌++◌, ℤ, pos, negsuc, codes}
use Prim.{Unit}
use Rattle.refusals.specs.declared.refusal.Refusal.{Refusal}
use Rattle.refusals.specs.Table.{number_of, place_of}
use Rattle.tenths.specs.Text.{text_of}
use Rattle.plan.specs.declared.statement.Statement.TheVariants.{Idle, Wait, Set, Send, Probe, Add}
use Rattle.plan.specs.declared.call.Call.{Call}
use Rattle.plan.specs.declared.call.Call.TheVariants.{Lay, Fork, Arc, Ends, Change}
use Rattle.plan.specs.Drawn.{Drawn}
use Rattle.plan.specs.Calls.{drawn}
use Rattle.plan.specs.Paths.{Whole}
use Rattle.sweep.specs.Swept.{Refused}
use Rattle.report.specs.Strikes.{RedundantStep}
use Rattle.report.specs.Unread.{DeadStep}
use Rattle.report.specs.Fixing.{FixedTo}
use Rattle.report.specs.Reported.{line, Reported}

-- ---- what may be asked

pub data Question : Type 0 where
  -- is step n redundant, or is it not
  IsRedundant : (n : ℕ) → Question
  NotRedundant : (n : ℕ) → Question
  -- is step n dead, or is it not, where the variables of a mask are kept
  IsDead : (kept n : ℕ) → Question
  NotDead : (kept n : ℕ) → Question
  -- is variable v fixed before node n to a number of tenths, or to none
  Fixed : (v n : ℕ) (c : ℤ) → Question
  Unfixed : (v n : ℕ) → Question
  -- is this the report, where the variables of a mask are kept
  Reports : (kept : ℕ) (text : List ℕ) → Question
  -- is a sweep refused with this number and place, and with no other, however large its buffers
  SweepRefused : (number place : ℕ) → Question
  -- is this the text of a number of tenths; no plan matters
  Text : (c : ℤ) (text : List ℕ) → Question

-- the refusal has this number and place
abbrev pub Names : ℕ → ℕ → Refusal → Type 0
Names number place e = (number_of e ≡ number) × (place_of e ≡ place)

abbrev pub Says : Drawn → Question → Type 0
Says p (IsRedundant n) = Whole p × RedundantStep p n
Says p (NotRedundant n) = Whole p × (RedundantStep p n → ⊥)
Says p (IsDead kept n) = Whole p × DeadStep p kept n
Says p (NotDead kept n) = Whole p × (DeadStep p kept n → ⊥)
Says p (Fixed v n c) = Whole p × FixedTo p v n c
Says p (Unfixed v n) = Whole p × ((c : ℤ) → FixedTo p v n c → ⊥)
Says p (Reports kept text) = Whole p × Reported p kept text
Says p (SweepRefused number place) =
    (k l m : ℕ) → ((e : Refusal) × Refused p k l m e × Names number place e) × ((e : Refusal) → Refused p k l m e → Names number place e)
Says p (Text c text) = text_of c ≡ text

-- ---- the table

pub record Row : Type 0 where
  pub calls : List Call
  pub question : Question

abbrev pub Holds : Row → Type 0
Holds row = Says (drawn row.calls) row.question

abbrev pub AllHold : List Row → Type 0
AllHold [] = Unit {0}
AllHold (row ∷ rows) = Holds row × AllHold rows

-- Node 0 sets a number, node 1 forks, and behind the fork node 2 sends the number.
-- The one branch reads a probe twice, in nodes 3 and 4; the other is node 5, which does nothing.
abbrev pub base : List Call
base =
    Lay 0 (Set 2 (negsuc 3)) ∷
    Fork 0 2 ∷
    Lay 0 (Send 2) ∷
    Arc 0 1 ∷
    Arc 1 2 ∷
    Ends 0 0 2 ∷
    Lay 1 (Probe 0 3) ∷
    Lay 1 (Probe 1 3) ∷
    Arc 3 4 ∷
    Ends 1 3 4 ∷
    Lay 2 Idle ∷
    Ends 2 5 5 ∷
    []

-- one step that may be repeated
abbrev pub loop : List Call
loop = Lay 0 (Probe 0 1) ∷ Arc 0 0 ∷ Ends 0 0 0 ∷ []

abbrev pub base_report : List ℕ
base_report = line (codes "2 sends -0.4") ++ (line (codes "4 redundant") ++ line (codes "nodes 6 redundant 1 dead 0"))

abbrev pub row : List Call → Question → Row
row calls question = record { calls = calls; question = question }

abbrev pub table : List Row
table =
    -- the second reading of the probe is redundant, and what is sent is known
    row base (Reports 3 base_report) ∷
    -- a wait in the other branch disturbs the probe
    row (base ++ (Change 5 Wait ∷ [])) (NotRedundant 4) ∷
    -- what is neither used nor kept is dead
    row base (IsDead 0 3) ∷
    row base (IsDead 0 4) ∷
    -- behind the fork the reading of a branch still counts, unless the other branch waits
    row (base ++ (Change 2 (Probe 4 3) ∷ [])) (IsRedundant 2) ∷
    row (base ++ (Change 2 (Probe 4 3) ∷ Change 5 Wait ∷ [])) (NotRedundant 2) ∷
    -- what the other branch sets may come before a step of the one or after it, and comes before what is behind the fork
    row (base ++ (Change 5 (Set 2 (pos 10)) ∷ [])) (Unfixed 2 3) ∷
    row (base ++ (Change 5 (Set 2 (pos 10)) ∷ [])) (Fixed 2 2 (pos 10)) ∷
    -- the other branch may read what the one assigns, and then it is not dead
    row (base ++ (Change 3 (Set 5 (pos 10)) ∷ Change 5 (Send 5) ∷ [])) (NotDead 0 3) ∷
    row (base ++ (Change 3 (Set 5 (pos 10)) ∷ [])) (IsDead 0 3) ∷
    -- a step that assigns to what it adds finds the sum, and leaves it disturbed
    row (base ++ (Change 3 (Add 6 0 1) ∷ Change 4 (Add 0 0 1) ∷ Change 2 (Add 7 0 1) ∷ [])) (IsRedundant 4) ∷
    row (base ++ (Change 3 (Add 6 0 1) ∷ Change 4 (Add 0 0 1) ∷ Change 2 (Add 7 0 1) ∷ [])) (NotRedundant 2) ∷
    -- a step that may be repeated finds nothing when it is first reached
    row loop (NotRedundant 0) ∷
    -- the texts of a number between 0 and -1, of 0, and of the least and the greatest of 32 bits
    row [] (Text (negsuc 3) (codes "-0.4")) ∷
    row [] (Text (pos 0) (codes "0.0")) ∷
    row [] (Text (negsuc 2147483647) (codes "-214748364.8")) ∷
    row [] (Text (pos 2147483647) (codes "214748364.7")) ∷
    -- a new plan has a region, which has no ends
    row [] (SweepRefused 8 0) ∷
    []

abbrev pub MarkedPlans : Type 0
MarkedPlans = AllHold table
