-- The rows of the table: a certificate or a run for each fact of a plan, and all of them as one.
use Rattle.std.proofs.Common.{◌≡◌, ℕ, ◌<◌, true, false, cond, eqb, ◌↔◌, [], ◌∷◌, ◌++◌, ℤ, pos, negsuc, Some, None, refl, ap, subst, inl, inr, arith, lit<}
use borrow.Author.Tests.{clash}
use Rattle.std.specs.Fmt.{digits}
use Rattle.refusals.specs.declared.refusal.Refusal.{Refusal}
use Rattle.refusals.specs.declared.refusal.Refusal.TheVariants.{Missing, Operand, Branches, Outside, Repeated, NotStep, Full, NoEnds, Unreached, Stranded, TooManyExpressions, Short, NotTenths}
use Rattle.plan.specs.declared.statement.Statement.{Statement}
use Rattle.plan.specs.declared.statement.Statement.TheVariants.{Idle, Wait, Set, Send, Probe, Add}
use Rattle.plan.specs.declared.call.Call.TheVariants.{Change}
use Rattle.plan.specs.Drawn.{Drawn, blank, node_at}
use Rattle.plan.specs.Paths.{Whole, Fault}
use Rattle.plan.proofs.Soundness.{drawn_sound}
use Rattle.expressions.specs.declared.expression.Expression.TheVariants as expression
use Rattle.bitset.specs.Bits.{bit}
use Rattle.sweep.specs.Swept.{Refused}
use Rattle.report.specs.Strikes.{RedundantStep}
use Rattle.report.specs.Unread.{used_by, DeadStep}
use Rattle.report.specs.Fixing.{FixedTo}
use Rattle.report.specs.Reported.{SendsFixed, Findings}
use Rattle.marked.specs.Marked.{IsRedundant, NotRedundant, IsDead, NotDead, Fixed, Unfixed, Reports, SweepRefused, Names, Says, base, base_report, MarkedPlans}
use Rattle.marked.proofs.Changes.{loses, never, keeps, gains}
use Rattle.marked.proofs.Certified.{Certificate}
use Rattle.marked.proofs.Facts.{not_redundant, nothing_computed, not_dead, nothing_assigned, left_fixed, not_fixed, redundant, dead, fixed_to}
use Rattle.marked.proofs.Shapes.{◌and◌, each, varied, varied_whole, run_one, run_one_late, run_two_late, run_behind, back_two, back_one_late, back_start, loop_plan, loop_whole, run_first}

-- ---- certificates

-- gained at the first step of the one branch, for the second
abbrev gained_in_branch : Certificate
gained_in_branch = record {
  ways = keeps ∷ keeps ∷ loses ∷ keeps ∷ gains ∷ keeps ∷ [];
  fulls = loses ∷ loses ∷ keeps ∷ [];
  spared = false ∷ false ∷ true ∷ [];
  nears = gains ∷ gains ∷ never ∷ [];
}

-- gained in the one branch, for the step behind the fork
abbrev gained_by_one : Certificate
gained_by_one = record {
  ways = keeps ∷ keeps ∷ gains ∷ keeps ∷ gains ∷ keeps ∷ [];
  fulls = loses ∷ gains ∷ keeps ∷ [];
  spared = [];
  nears = gains ∷ never ∷ never ∷ [];
}

-- gained in the other branch, for the step behind the fork
abbrev gained_by_other : Certificate
gained_by_other = record {
  ways = keeps ∷ loses ∷ gains ∷ keeps ∷ keeps ∷ keeps ∷ [];
  fulls = loses ∷ keeps ∷ gains ∷ [];
  spared = [];
  nears = gains ∷ never ∷ never ∷ [];
}

-- gained before the fork, for the step behind it
abbrev gained_before : Certificate
gained_before = record {
  ways = keeps ∷ gains ∷ gains ∷ keeps ∷ keeps ∷ keeps ∷ [];
  fulls = loses ∷ keeps ∷ keeps ∷ [];
  spared = [];
  nears = gains ∷ never ∷ never ∷ [];
}

-- kept by every step, for a step of the one branch
abbrev kept_throughout : Certificate
kept_throughout = record {
  ways = keeps ∷ keeps ∷ keeps ∷ keeps ∷ keeps ∷ keeps ∷ [];
  fulls = keeps ∷ keeps ∷ keeps ∷ [];
  spared = true ∷ true ∷ true ∷ [];
  nears = keeps ∷ keeps ∷ never ∷ [];
}

-- ---- the report of the base

abbrev base_plan : Drawn
base_plan = varied (Send 2) (Probe 0 3) (Probe 1 3) Idle

base_whole : Whole base_plan
base_whole = varied_whole (Send 2) (Probe 0 3) (Probe 1 3) Idle

abbrev findings : Findings
findings = record { redundant = λ n. eqb n 4; dead = λ n. false; sent = λ n. cond (eqb n 2) (Some (negsuc 3)) None }

yes : {P : Type 0} → P → (true ≡ true) ↔ P
yes h = (λ e. h, λ k. refl)

no : {P : Type 0} → (P → ⊥) → (false ≡ true) ↔ P
no h = (λ e. absurd (clash e), λ k. absurd (h k))

base_redundant : (n : ℕ) → n < 6 → (eqb n 4 ≡ true) ↔ RedundantStep base_plan n
base_redundant =
    each (λ n. (eqb n 4 ≡ true) ↔ RedundantStep base_plan n) 6 (
    no (nothing_computed base_plan 0 refl) and
    no (nothing_computed base_plan 1 refl) and
    no (nothing_computed base_plan 2 refl) and
    no (not_redundant base_plan 3 (expression.Probe 3) (0 ∷ []) refl (run_one _ _ _ _) refl) and
    yes (redundant base_plan (drawn_sound base) base_whole 4 (expression.Probe 3) refl gained_in_branch refl) and
    no (nothing_computed base_plan 5 refl) and
    tt)

base_dead : (n : ℕ) → n < 6 → (false ≡ true) ↔ DeadStep base_plan 3 n
unfolding bit
base_dead =
    each (λ n. (false ≡ true) ↔ DeadStep base_plan 3 n) 6 (
    no (not_dead base_plan 3 0 2 (2 ∷ 4 ∷ 3 ∷ 5 ∷ []) false refl refl (back_start _ _ _ _) refl) and
    no (nothing_assigned base_plan 3 1 refl) and
    no (nothing_assigned base_plan 3 2 refl) and
    no (not_dead base_plan 3 3 0 (2 ∷ 4 ∷ 5 ∷ []) true refl refl (back_one_late _ _ _ _) refl) and
    no (not_dead base_plan 3 4 1 (2 ∷ []) true refl refl (back_two _ _ _ _) refl) and
    no (nothing_assigned base_plan 3 5 refl) and
    tt)

base_fixed : FixedTo base_plan 2 2 (negsuc 3)
base_fixed = fixed_to base_plan (drawn_sound base) base_whole 2 2 (negsuc 3) gained_before refl

-- what uses no variable sends none
not_sent : (n : ℕ) → used_by (node_at base_plan n) ≡ [] → (c : ℤ) → (None ≡ Some c) ↔ SendsFixed base_plan n c
not_sent n unused c = (
  λ e. absurd (let z : ◌≡◌ {A = ℕ} 0 1 = cc in omega arith),
  λ (r, a, is, all). absurd (let uses : used_by (node_at base_plan n) ≡ a ∷ [] = ap used_by is in let z : ◌≡◌ {A = ℕ} 0 1 = cc in omega arith),
)

sent : (c : ℤ) → (Some (negsuc 3) ≡ Some c) ↔ SendsFixed base_plan 2 c
sent c = (
  λ e. (0, 2, refl, subst (FixedTo base_plan 2 2) (cc) base_fixed),
  λ (r, a, is, all).
      let same : a ≡ 2 = cc in
      ap Some (left_fixed base_plan 2 2 (0 ∷ 3 ∷ 4 ∷ 5 ∷ []) (negsuc 3) c (run_behind _ _ _ _) refl (subst (λ (v : ℕ). FixedTo base_plan v 2 c) same all)),
)

base_sent : (n : ℕ) → n < 6 → (c : ℤ) → (findings.sent n ≡ Some c) ↔ SendsFixed base_plan n c
base_sent =
    each (λ n. (c : ℤ) → (findings.sent n ≡ Some c) ↔ SendsFixed base_plan n c) 6
    (not_sent 0 refl and not_sent 1 refl and sent and not_sent 3 refl and not_sent 4 refl and not_sent 5 refl and tt)

base_reports : Says base_plan (Reports 3 base_report)
unfolding digits
base_reports = (base_whole, (findings, record { redundant_is = base_redundant; dead_is = base_dead; sent_is = base_sent }, refl))

-- ---- a new plan

blank_fault : Fault blank (NoEnds 0)
blank_fault = record { within = lit< tt; lacks = λ h. h refl; least = λ k l. absurd (omega arith) }

fault_named : (e : Refusal) → Fault blank e → Names 8 0 e
fault_named Missing f = absurd f
fault_named Operand f = absurd f
fault_named Branches f = absurd f
fault_named Outside f = absurd f
fault_named Repeated f = absurd f
fault_named NotStep f = absurd f
fault_named Full f = absurd f
fault_named (NoEnds r) f = (refl, omega (arith, f.within))
fault_named (Unreached n) f = absurd (f.0 0 (lit< tt) refl)
fault_named (Stranded n) f = absurd (f.0 0 (lit< tt) refl)
fault_named (TooManyExpressions n) f = absurd f
fault_named Short f = absurd f
fault_named NotTenths f = absurd f

refused_named : (k l m : ℕ) (e : Refusal) → Refused blank k l m e → Names 8 0 e
refused_named k l m e (inl f) = fault_named e f
refused_named k l m e (inr r) = absurd (r.1.ended 0 (lit< tt) refl)

-- ---- the other rows

-- a wait in the other branch
abbrev waiting : Drawn
waiting = varied (Send 2) (Probe 0 3) (Probe 1 3) Wait

read_again : Says waiting (NotRedundant 4)
read_again = (varied_whole _ _ _ _, not_redundant waiting 4 (expression.Probe 3) (0 ∷ 3 ∷ 5 ∷ []) refl (run_two_late _ _ _ _) refl)

dead_one : Says base_plan (IsDead 0 3)
unfolding bit
dead_one = (base_whole, dead base_plan (drawn_sound base) base_whole 0 3 0 false refl refl kept_throughout refl)

dead_two : Says base_plan (IsDead 0 4)
unfolding bit
dead_two = (base_whole, dead base_plan (drawn_sound base) base_whole 0 4 1 false refl refl kept_throughout refl)

-- the probe is read behind the fork
abbrev reading : Statement → Drawn
reading other = varied (Probe 4 3) (Probe 0 3) (Probe 1 3) other

read_before : Says (reading Idle) (IsRedundant 2)
read_before =
    (varied_whole _ _ _ _, redundant (reading Idle) (drawn_sound (base ++ (Change 2 (Probe 4 3) ∷ []))) (varied_whole _ _ _ _) 2 (expression.Probe 3) refl gained_by_one refl)

read_anew : Says (reading Wait) (NotRedundant 2)
read_anew = (varied_whole _ _ _ _, not_redundant (reading Wait) 2 (expression.Probe 3) (0 ∷ 3 ∷ 4 ∷ 5 ∷ []) refl (run_behind _ _ _ _) refl)

-- the other branch sets what is sent
abbrev setting : Drawn
setting = varied (Send 2) (Probe 0 3) (Probe 1 3) (Set 2 (pos 10))

set_or_not_yet : Says setting (Unfixed 2 3)
set_or_not_yet =
    (varied_whole _ _ _ _, not_fixed setting 2 3 (0 ∷ []) (0 ∷ 5 ∷ []) (negsuc 3) (pos 10) (run_one _ _ _ _) refl (run_one_late _ _ _ _) refl refl)

set_by_then : Says setting (Fixed 2 2 (pos 10))
set_by_then =
    (varied_whole _ _ _ _, fixed_to setting (drawn_sound (base ++ (Change 5 (Set 2 (pos 10)) ∷ []))) (varied_whole _ _ _ _) 2 2 (pos 10) gained_by_other refl)

-- the one branch sets what the other may send
abbrev sending : Statement → Drawn
sending other = varied (Send 2) (Set 5 (pos 10)) (Probe 1 3) other

sent_beside : Says (sending (Send 5)) (NotDead 0 3)
unfolding bit
sent_beside = (varied_whole _ _ _ _, not_dead (sending (Send 5)) 0 3 5 (2 ∷ 4 ∷ 5 ∷ []) false refl refl (back_one_late _ _ _ _) refl)

not_sent_beside : Says (sending Idle) (IsDead 0 3)
unfolding bit
not_sent_beside =
    (varied_whole _ _ _ _, dead (sending Idle) (drawn_sound (base ++ (Change 3 (Set 5 (pos 10)) ∷ []))) (varied_whole _ _ _ _) 0 3 5 false refl refl kept_throughout refl)

-- a sum is made, then again by a step that assigns one of its variables, and then once more
abbrev adding : Drawn
adding = varied (Add 7 0 1) (Add 6 0 1) (Add 0 0 1) Idle

added_before : Says adding (IsRedundant 4)
added_before = (
  varied_whole _ _ _ _,
  redundant adding (drawn_sound (base ++ (Change 3 (Add 6 0 1) ∷ Change 4 (Add 0 0 1) ∷ Change 2 (Add 7 0 1) ∷ []))) (varied_whole _ _ _ _)
      4 (expression.Add 0 1) refl gained_in_branch refl,
)

added_anew : Says adding (NotRedundant 2)
added_anew = (varied_whole _ _ _ _, not_redundant adding 2 (expression.Add 0 1) (0 ∷ 3 ∷ 4 ∷ 5 ∷ []) refl (run_behind _ _ _ _) refl)

read_first : Says loop_plan (NotRedundant 0)
read_first = (loop_whole, not_redundant loop_plan 0 (expression.Probe 1) [] refl run_first refl)

no_ends : Says blank (SweepRefused 8 0)
no_ends = λ k l m. ((NoEnds 0, inl blank_fault, (refl, refl)), refused_named k l m)

pub marked_plans : MarkedPlans
unfolding digits
marked_plans =
    base_reports and
    read_again and
    dead_one and
    dead_two and
    read_before and
    read_anew and
    set_or_not_yet and
    set_by_then and
    sent_beside and
    not_sent_beside and
    added_before and
    added_anew and
    read_first and
    -- the texts
    refl and
    refl and
    refl and
    refl and
    no_ends and
    tt
