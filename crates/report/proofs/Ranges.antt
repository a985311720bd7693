-- The variables that a step with its operands in range names are below 16.
use Rattle.std.proofs.Common.{◌≡◌, ℕ, ◌<◌, ◌≤◌, true, eqb, leb, List, [], ◌∷◌, ◌++◌, inl, inr, arith}
use borrow.Author.Tests.{clash}
use Rattle.std.proofs.lemmas.Bool.{and_parts, or_cases, or_left, or_right, eqb-true, leb-true}
use Rattle.plan.specs.declared.node.Node.{Node}
use Rattle.plan.specs.declared.node.Node.TheVariants.{Step, Fork}
use Rattle.plan.specs.Drawn.{node_in_range}
use Rattle.plan.specs.Statements.{assigns, uses, probes, all_within}
use Rattle.expressions.specs.Variables.{among}
use Rattle.report.specs.Unread.{assigned_by, used_by}

within_among : (m v : ℕ) (ns : List ℕ) → all_within m ns ≡ true → among v ns ≡ true → v ≤ m
within_among m v [] h a = absurd (clash a)
within_among m v (n ∷ ns) h a =
    let parts = and_parts (leb n m) (all_within m ns) h in
    elim (or_cases (eqb n v) (among v ns) a) [
      | inl here ↦ omega (arith, leb-true n m parts.0, eqb-true n v here)
      | inr there ↦ within_among m v ns parts.1 there
    ]

among_left : (v : ℕ) (ns ms : List ℕ) → among v ns ≡ true → among v (ns ++ ms) ≡ true
among_left v [] ms a = absurd (clash a)
among_left v (n ∷ ns) ms a =
    elim (or_cases (eqb n v) (among v ns) a) [
      | inl here ↦ or_left (eqb n v) (among v (ns ++ ms)) here
      | inr there ↦ or_right (eqb n v) (among v (ns ++ ms)) (among_left v ns ms there)
    ]

among_right : (v : ℕ) (ns ms : List ℕ) → among v ms ≡ true → among v (ns ++ ms) ≡ true
among_right v [] ms a = a
among_right v (n ∷ ns) ms a = or_right (eqb n v) (among v (ns ++ ms)) (among_right v ns ms a)

pub node_assigns_low : (x : Node) (v : ℕ) → node_in_range x ≡ true → among v (assigned_by x) ≡ true → v < 16
node_assigns_low (Step r s) v h a =
    let range = and_parts (all_within 15 (assigns s ++ uses s)) (all_within 7 (probes s)) h in
    omega (arith, within_among 15 v (assigns s ++ uses s) range.0 (among_left v (assigns s) (uses s) a))
node_assigns_low (Fork r b k) v h a = absurd (clash a)

pub node_uses_low : (x : Node) (v : ℕ) → node_in_range x ≡ true → among v (used_by x) ≡ true → v < 16
node_uses_low (Step r s) v h a =
    let range = and_parts (all_within 15 (assigns s ++ uses s)) (all_within 7 (probes s)) h in
    omega (arith, within_among 15 v (assigns s ++ uses s) range.0 (among_right v (assigns s) (uses s) a))
node_uses_low (Fork r b k) v h a = absurd (clash a)
