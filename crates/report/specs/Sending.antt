-- The numbers that the steps of a plan send, found for four variables at a time.
--   sent_by     the variable that a node sends
--   four_from   the kinds for four variables from the first on, as a pair of pairs
--   in_order    the four values in the order of their variables
--   one_of      one of four values
--   sent_of     what is noted of a node: the value of its variable, if that is one of the four, else what was noted before
--   SendsBelow  the step sends a variable below a limit that is fixed to c before it
--   SentBelow   for every node, the number that it sends if its variable is below the limit and fixed
use Rattle.std.specs.Prelude.{◌≡◌, ℕ, ◌+◌, ◌-◌, ◌<◌, cond, ◌&&◌, ◌↔◌, List, [], ◌∷◌, length, ℤ, Some, None, Option, nat_le, nat_lt, slice_index_or}
use Rattle.plan.specs.declared.statement.Statement.{Statement}
use Rattle.plan.specs.declared.statement.Statement.TheVariants.{Idle, Wait, Set, Copy, Send, Probe, Add, Sub, Min, Max}
use Rattle.plan.specs.declared.node.Node.{Node}
use Rattle.plan.specs.declared.node.Node.TheVariants.{Step, Fork}
use Rattle.plan.specs.Drawn.{Drawn, node_at}
use Rattle.pairs.specs.declared.pair.Pair.{Pair}
use Rattle.facts.specs.declared.constant.Constant.{Constant}
use Rattle.facts.specs.declared.constant.Constant.TheVariants.{Unknown}
use Rattle.facts.specs.declared.fixed.Fixed as declared
use Rattle.facts.specs.Numbers.{number_of, Fits32}
use Rattle.report.specs.Fixing.{FixedTo}

abbrev sent_in : Statement → Option ℕ
sent_in Idle = None
sent_in Wait = None
sent_in (Set v c) = None
sent_in (Copy v a) = None
sent_in (Send a) = Some a
sent_in (Probe v p) = None
sent_in (Add v a b) = None
sent_in (Sub v a b) = None
sent_in (Min v a b) = None
sent_in (Max v a b) = None

abbrev pub sent_by : Node → Option ℕ
sent_by (Step r s) = sent_in s
sent_by (Fork r b k) = None

abbrev pub Four : Type 0
Four = Pair (Pair Constant Constant) (Pair Constant Constant)

abbrev pub four_from : ℕ → Pair (Pair declared.Fixed declared.Fixed) (Pair declared.Fixed declared.Fixed)
four_from v = record {
  left = record { left = record { variable = v }; right = record { variable = v + 1 } };
  right = record { left = record { variable = v + 2 }; right = record { variable = v + 3 } };
}

abbrev pub unknown_four : Four
unknown_four = record { left = record { left = Unknown; right = Unknown }; right = record { left = Unknown; right = Unknown } }

-- the four values in the order of their variables
abbrev pub in_order : Four → List Constant
in_order x = x.left.left ∷ x.left.right ∷ x.right.left ∷ x.right.right ∷ []

abbrev pub one_of : Four → ℕ → Constant
one_of x i = slice_index_or (in_order x) i Unknown

abbrev pub noted : ℕ → Four → Option ℤ → Option ℕ → Option ℤ
noted first x before None = before
noted first x before (Some v) = cond (nat_le first v && nat_lt v (first + 4)) (number_of (one_of x (v - first))) before

abbrev pub sent_of : Node → ℕ → Four → Option ℤ → Option ℤ
sent_of n first x before = noted first x before (sent_by n)

-- ---- what it means

abbrev pub SendsBelow : Drawn → ℕ → ℕ → ℤ → Type 0
SendsBelow p limit n c = (r v : ℕ) × (v < limit) × (node_at p n ≡ Step r (Send v)) × FixedTo p v n c

pub record SentBelow (p : Drawn) (limit : ℕ) (sent : List (Option ℤ)) : Type 0 where
  pub means : (n : ℕ) → n < length p.nodes → (c : ℤ) → (slice_index_or sent n None ≡ Some c) ↔ SendsBelow p limit n c
  pub fits : (n : ℕ) → Fits32 (slice_index_or sent n None)
