-- The bytes that a sweep of the available expressions gives list the redundant steps.
use Rattle.std.proofs.Common.{◌≡◌, ℕ, ◌<◌, ◌≤◌, Bool, true, false, eqb, ◌⊎◌, ◌↔◌, List, length, get_or, is_some, Some, None, Option, sym, refl, ap, ◌∙◌, subst, inl, inr, arith}
use borrow.Author.Tests.{clash}
use Rattle.plan.specs.declared.node.Direction.TheVariants.{Forward}
use Rattle.plan.specs.declared.node.Node.TheVariants.{Step}
use Rattle.plan.specs.declared.statement.Statement.TheVariants.{Idle}
use Rattle.plan.specs.Drawn.{Drawn, node_at, Sound}
use Rattle.plan.specs.Paths.{Whole}
use Rattle.bitset.specs.declared.bits.Bits.{Bits}
use Rattle.expressions.specs.declared.expression.Expression.{Expression}
use Rattle.expressions.specs.declared.table.Expressions.{Expressions}
use Rattle.bitset.specs.Bits.{bit, every, none}
use Rattle.expressions.specs.Expressions.{computed_by, place, listed, Holding}
use Rattle.expressions.proofs.Numbered.{length_listed}
use Rattle.runs.specs.Runs.{Run}
use Rattle.sweep.specs.Swept.{ValuesMeet}
use Rattle.report.specs.Strikes.{Computes, Available, RedundantStep, Redundant}
use Rattle.report.specs.Listing.{listed_in, flag, Filled, bit_at, bit_of, ListsRedundant}
use Rattle.report.proofs.AvailableBits.{available, meet_available}
use Rattle.report.proofs.Backing.{strike_law}
use Rattle.report.proofs.Numbers.{place_stands, computed_placed}

pub flag_either : (b : Bool) → (flag b ≡ 0) ⊎ (flag b ≡ 1)
flag_either true = inr refl
flag_either false = inl refl

pub flag_one : (b : Bool) → eqb (flag b) 1 ≡ b
flag_one true = refl
flag_one false = refl

some_place : (o : Option ℕ) → is_some o ≡ true → (i : ℕ) × (o ≡ Some i)
some_place None h = absurd (clash h)
some_place (Some i) h = (i, refl)

module _ (p : Drawn) (sound : Sound p) (whole : Whole p) (t : Expressions) (h : Holding p.nodes t) (vs : List Bits)
    (meets : ValuesMeet (available (listed t)) p Forward none vs) (before after : List ℕ)
    (filled : Filled 0 (λ n. flag (bit_of (listed t) (get_or vs n every) (computed_by (node_at p n)))) (length p.nodes) before after) (room : length p.nodes ≤ length before) where
  listed_bit : (n : ℕ) → n < length p.nodes → listed_in after n ≡ bit_of (listed t) (get_or vs n every) (computed_by (node_at p n))
  listed_bit n l = ap (λ (b : ℕ). eqb b 1) (filled.front n l) ∙ flag_one (bit_of (listed t) (get_or vs n every) (computed_by (node_at p n)))

  by_expression : (n : ℕ) (e : Expression) → n < length p.nodes → Computes p e n → (listed_in after n ≡ true) ↔ ((w : List ℕ) → Run p Forward n w → Available p e w)
  by_expression n e l c =
      let placed = some_place (place e (listed t)) (ap (λ es. is_some (place e es)) h.holding ∙ computed_placed e p.nodes n (Step 0 Idle) l c) in
      let i = placed.0 in
      let stands = place_stands e (listed t) i placed.1 in
      let low : i < 64 = omega (arith, stands.within, length_listed t, t.small) in
      let is : listed_in after n ≡ bit i (get_or vs n every).word =
      listed_bit n l ∙ ap (bit_of (listed t) (get_or vs n every)) c ∙ ap (bit_at (get_or vs n every)) placed.1 in
      let m = meet_available (listed t) i low e stands.there p (meets n l) in
      (λ q. m.0 (sym is ∙ q), λ all. is ∙ m.1 all)

  -- a step that is listed computes something
  listed_step : (n : ℕ) → n < length p.nodes → (o : Option Expression) → computed_by (node_at p n) ≡ o → listed_in after n ≡ true → RedundantStep p n
  listed_step n l None is on = absurd (clash (sym (listed_bit n l ∙ ap (bit_of (listed t) (get_or vs n every)) is) ∙ on))
  listed_step n l (Some e) is on = (e, is, (by_expression n e l is).0 on)

  redundant : Redundant p (listed_in after)
  redundant n l = (listed_step n l (computed_by (node_at p n)) refl, λ r. (by_expression n r.0 l r.1).1 r.2)

  pub lists_redundant : ListsRedundant p before after
  lists_redundant = record {
    whole = whole;
    uncrowded = h.fitting;
    room = room;
    flags = λ n l. subst (λ (b : ℕ). (b ≡ 0) ⊎ (b ≡ 1)) (sym (filled.front n l)) (flag_either (bit_of (listed t) (get_or vs n every) (computed_by (node_at p n))));
    kept = filled.kept;
    redundant = redundant;
    strikeable = strike_law p sound whole (listed_in after) redundant;
  }
