-- The report of a plan, as text.
--   SendsFixed   the step sends a variable that is fixed to c before it
--   Findings     for each node, whether it is redundant, whether it is dead, and the number that it sends if that is fixed
--   report_text  the text of some findings: the lines of each node in order, and a last line with the totals
--   Reported     a text is the report of a plan
--   Reports      what a report leaves in the bytes that it is lent
use Rattle.std.specs.Prelude.{◌≡◌, ℕ, zero, suc, ◌+◌, ◌<◌, ◌≤◌, Bool, true, cond, ◌↔◌, List, [], ◌∷◌, ◌++◌, length, drop, ℤ, Some, None, codes, decimal, Option, slice_index_or}
use Rattle.tenths.specs.Text.{text_of}
use Rattle.plan.specs.declared.statement.Statement.TheVariants.{Send}
use Rattle.plan.specs.declared.node.Node.TheVariants.{Step}
use Rattle.plan.specs.Drawn.{Drawn, node_at}
use Rattle.plan.specs.Paths.{Whole}
use Rattle.report.specs.Strikes.{RedundantStep}
use Rattle.report.specs.Unread.{DeadStep}
use Rattle.report.specs.Fixing.{FixedTo}
use Rattle.report.specs.Listing.{listed_in, Uncrowded}

-- ---- what is found of each node

abbrev pub SendsFixed : Drawn → ℕ → ℤ → Type 0
SendsFixed p n c = (r a : ℕ) × (node_at p n ≡ Step r (Send a)) × FixedTo p a n c

pub record Findings : Type 0 where
  pub redundant : ℕ → Bool
  pub dead : ℕ → Bool
  pub sent : ℕ → Option ℤ

-- the findings are those of a plan of which the variables in a mask are kept
pub record Found (p : Drawn) (kept : ℕ) (f : Findings) : Type 0 where
  pub redundant_is : (n : ℕ) → n < length p.nodes → (f.redundant n ≡ true) ↔ RedundantStep p n
  pub dead_is : (n : ℕ) → n < length p.nodes → (f.dead n ≡ true) ↔ DeadStep p kept n
  pub sent_is : (n : ℕ) → n < length p.nodes → (c : ℤ) → (f.sent n ≡ Some c) ↔ SendsFixed p n c

-- ---- how it is written

-- byte 10 ends each line
abbrev pub line : List ℕ → List ℕ
line text = text ++ (10 ∷ [])

abbrev pub send_line : ℕ → Option ℤ → List ℕ
send_line n None = []
send_line n (Some c) = line (decimal n ++ (codes " sends " ++ text_of c))

abbrev pub lines_of : ℕ → Bool → Bool → Option ℤ → List ℕ
lines_of n redundant dead sent =
    cond redundant (line (decimal n ++ codes " redundant")) [] ++ (cond dead (line (decimal n ++ codes " dead")) [] ++ send_line n sent)

abbrev pub node_lines : Findings → ℕ → List ℕ
node_lines f n = lines_of n (f.redundant n) (f.dead n) (f.sent n)

-- the lines of the first so many nodes
abbrev pub lines_to : Findings → ℕ → List ℕ
lines_to f zero = []
lines_to f (suc n) = lines_to f n ++ node_lines f n

-- how many of the first so many nodes have it
abbrev pub count_to : (ℕ → Bool) → ℕ → ℕ
count_to has zero = 0
count_to has (suc n) = count_to has n + cond (has n) 1 0

abbrev pub total_line : ℕ → ℕ → ℕ → List ℕ
total_line nodes redundant dead = line (codes "nodes " ++ (decimal nodes ++ (codes " redundant " ++ (decimal redundant ++ (codes " dead " ++ decimal dead)))))

abbrev pub report_text : Findings → ℕ → List ℕ
report_text f nodes = lines_to f nodes ++ total_line nodes (count_to f.redundant nodes) (count_to f.dead nodes)

abbrev pub Reported : Drawn → ℕ → List ℕ → Type 0
Reported p kept text = (f : Findings) × Found p kept f × (text ≡ report_text f (length p.nodes))

-- what is written down of each node: bytes that list it or not, and numbers
abbrev pub findings_in : List ℕ → List ℕ → List (Option ℤ) → Findings
findings_in redundant dead sent = record { redundant = listed_in redundant; dead = listed_in dead; sent = λ n. slice_index_or sent n None }

-- what a report writes: its text at the front, and the bytes behind it as they were
pub record Reports (p : Drawn) (kept : ℕ) (before after : List ℕ) (written : ℕ) : Type 0 where
  -- nothing refuses it
  pub whole : Whole p
  pub uncrowded : Uncrowded p
  pub room : 8192 ≤ length before
  pub text : List ℕ
  pub reported : Reported p kept text
  pub long : written ≡ length text
  pub bytes : after ≡ text ++ drop written before
