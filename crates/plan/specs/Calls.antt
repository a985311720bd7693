-- What each call answers, and what it makes of a plan.
--   rows      the refusals in the order of testing, each with its test
--   refusal   the first of them whose test holds
--   after     the plan after a call; refused, it is as it was
--   answer    what the call returns
--   drawn     the plan that a row of calls makes, and `answers_of` what they return
use Rattle.std.specs.Prelude.{ℕ, ◌+◌, Bool, true, false, cond, not, ◌&&◌, ◌||◌, List, [], ◌∷◌, ◌++◌, length, replicate, Some, None, Ok, Err, Option, Result, ◌==◌, nat_le, nat_lt, slice_set}
use Rattle.std.specs.List.{list_any}
use Rattle.refusals.specs.declared.refusal.Refusal.{Refusal}
use Rattle.refusals.specs.declared.refusal.Refusal.TheVariants as refused
use Rattle.plan.specs.declared.node.Node.{Node}
use Rattle.plan.specs.declared.node.Node.TheVariants as node
use Rattle.plan.specs.declared.node.Arc as declared
use Rattle.plan.specs.declared.call.Call.{Call}
use Rattle.plan.specs.declared.call.Call.TheVariants.{Lay, Fork, Arc, Ends, Change}
use Rattle.plan.specs.Drawn.{Drawn, blank, node_at, region_of}
use Rattle.plan.specs.Statements.{in_range}

abbrev pub no_region : Drawn → ℕ → Bool
no_region p r = nat_le (length p.ends) r

abbrev pub no_node : Drawn → ℕ → Bool
no_node p n = nat_le (length p.nodes) n

-- the node lies in another region
abbrev pub outside : Drawn → ℕ → ℕ → Bool
outside p r n = not (region_of (node_at p n) == r)

abbrev pub is_fork : Node → Bool
is_fork (node.Step r s) = false
is_fork (node.Fork r b k) = true

-- an arc from m to n is among the arcs
abbrev pub has_arc : ℕ → ℕ → List declared.Arc → Bool
has_arc m n arcs = list_any (λ a. a.from == m && a.to == n) arcs

-- The tests, each for the calls that it may refuse.

abbrev pub missing : Drawn → Call → Bool
missing p (Lay r s) = no_region p r
missing p (Fork r k) = no_region p r
missing p (Arc m n) = no_node p m || no_node p n
missing p (Ends r f l) = no_region p r || (no_node p f || no_node p l)
missing p (Change n s) = no_node p n

abbrev pub bad_operand : Call → Bool
bad_operand (Lay r s) = not (in_range s)
bad_operand (Fork r k) = false
bad_operand (Arc m n) = false
bad_operand (Ends r f l) = false
bad_operand (Change n s) = not (in_range s)

abbrev pub bad_count : Call → Bool
bad_count (Lay r s) = false
bad_count (Fork r k) = nat_lt k 2 || nat_lt 8 k
bad_count (Arc m n) = false
bad_count (Ends r f l) = false
bad_count (Change n s) = false

abbrev pub crosses : Drawn → Call → Bool
crosses p (Lay r s) = false
crosses p (Fork r k) = false
crosses p (Arc m n) = outside p (region_of (node_at p m)) n
crosses p (Ends r f l) = outside p r f || outside p r l
crosses p (Change n s) = false

abbrev pub repeated : Drawn → Call → Bool
repeated p (Lay r s) = false
repeated p (Fork r k) = false
repeated p (Arc m n) = has_arc m n p.arcs
repeated p (Ends r f l) = false
repeated p (Change n s) = false

abbrev pub of_fork : Drawn → Call → Bool
of_fork p (Lay r s) = false
of_fork p (Fork r k) = false
of_fork p (Arc m n) = false
of_fork p (Ends r f l) = false
of_fork p (Change n s) = is_fork (node_at p n)

-- a plan has at most 256 nodes, 64 regions and 1024 arcs
abbrev pub too_many : Drawn → Call → Bool
too_many p (Lay r s) = nat_le 256 (length p.nodes)
too_many p (Fork r k) = nat_le 256 (length p.nodes) || nat_lt 64 (length p.ends + k)
too_many p (Arc m n) = nat_le 1024 (length p.arcs)
too_many p (Ends r f l) = false
too_many p (Change n s) = false

abbrev pub rows : Drawn → Call → List (Bool × Refusal)
rows p c =
    (missing p c, refused.Missing) ∷
    (bad_operand c, refused.Operand) ∷
    (bad_count c, refused.Branches) ∷
    (crosses p c, refused.Outside) ∷
    (repeated p c, refused.Repeated) ∷
    (of_fork p c, refused.NotStep) ∷
    (too_many p c, refused.Full) ∷
    []

abbrev pub first_of : List (Bool × Refusal) → Option Refusal
first_of [] = None
first_of (row ∷ rest) = cond row.0 (Some row.1) (first_of rest)

abbrev pub refusal : Drawn → Call → Option Refusal
refusal p c = first_of (rows p c)

-- what a call that is not refused makes of the plan
abbrev pub accepted : Drawn → Call → Drawn
accepted p (Lay r s) = record { nodes = p.nodes ++ (node.Step r s ∷ []); arcs = p.arcs; ends = p.ends }
accepted p (Fork r k) = record { nodes = p.nodes ++ (node.Fork r (length p.ends) k ∷ []); arcs = p.arcs; ends = p.ends ++ replicate k None }
accepted p (Arc m n) = record { nodes = p.nodes; arcs = p.arcs ++ (record { from = m; to = n } ∷ []); ends = p.ends }
accepted p (Ends r f l) = record { nodes = p.nodes; arcs = p.arcs; ends = slice_set p.ends r (Some (record { first = f; last = l })) }
accepted p (Change n s) = record { nodes = slice_set p.nodes n (node.Step (region_of (node_at p n)) s); arcs = p.arcs; ends = p.ends }

-- the number of the node that a call makes, if it makes one
abbrev pub made_by : Drawn → Call → Option ℕ
made_by p (Lay r s) = Some (length p.nodes)
made_by p (Fork r k) = Some (length p.nodes)
made_by p (Arc m n) = None
made_by p (Ends r f l) = None
made_by p (Change n s) = None

-- x, unless it is refused
abbrev pub unless : {X : Type 0} → Option Refusal → X → Result X Refusal
unless None x = Ok x
unless (Some e) x = Err e

-- the one plan if refused, else the other
abbrev pub kept_if : Option Refusal → Drawn → Drawn → Drawn
kept_if None p q = q
kept_if (Some e) p q = p

abbrev pub after : Drawn → Call → Drawn
after p c = kept_if (refusal p c) p (accepted p c)

abbrev pub answer : Drawn → Call → Result (Option ℕ) Refusal
answer p c = unless (refusal p c) (made_by p c)

-- a row of calls, each going on from the plan as it is, refused or not
abbrev pub after_all : Drawn → List Call → Drawn
after_all p [] = p
after_all p (c ∷ cs) = after_all (after p c) cs

abbrev pub answers_of : Drawn → List Call → List (Result (Option ℕ) Refusal)
answers_of p [] = []
answers_of p (c ∷ cs) = answer p c ∷ answers_of (after p c) cs

abbrev pub drawn : List Call → Drawn
drawn cs = after_all blank cs
