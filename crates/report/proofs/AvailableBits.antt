-- What the bit of an expression says of a run.
use Rattle.std.proofs.Common.{◌≡◌, ℕ, ◌<◌, Bool, true, false, ◌&&◌, ◌||◌, ◌↔◌, List, [], ◌∷◌, Some, None, Option, sym, refl, ap, ◌∙◌, ap₂, inl, inr, eq-eqb}
use mathlib.Core.Bool.{or-false}
use borrow.Author.Tests.{clash}
use Rattle.std.specs.List.{slice_get}
use Rattle.plan.specs.declared.node.Node.{Node}
use Rattle.plan.specs.declared.node.Node.TheVariants.{Step, Fork}
use Rattle.plan.specs.Drawn.{Drawn, node_at}
use Rattle.bitset.specs.declared.bits.Bits.{Bits}
use Rattle.expressions.specs.declared.expression.Expression.{Expression}
use Rattle.facts.specs.Available.{tested, available_effect}
use Rattle.bitset.specs.Bits.{bit, none}
use Rattle.kinds.specs.Effects.{act, IsMeet}
use Rattle.expressions.specs.Expressions.{computed_by, disturbed, makes, holds, as_list, same, parts}
use Rattle.kinds.specs.Kinds.{Algebra}
use Rattle.facts.specs.Masks.{bitwise}
use Rattle.bitset.proofs.Digits.{bit_from}
use Rattle.expressions.proofs.Places.{same_true}
use Rattle.runs.specs.Actions.{run, of_node, steps_of}
use Rattle.report.proofs.Bitwise.{becomes, setting_bit, along, along_law, bit_meet}
use Rattle.report.proofs.Backing.{since_map}
use Rattle.report.specs.Strikes.{disturbed_by, Available}

-- whether a node computes e
abbrev pub made_by : Node → Expression → Bool
made_by n e = holds e (as_list (computed_by n))

abbrev pub available : List Expression → Algebra Bits Bits
available es = bitwise (λ node s. available_effect es s)

same_self : (e : Expression) → same e e ≡ true
same_self e = ap₂ ◌&&◌ (eq-eqb (parts e).0 (parts e).0 refl) (ap₂ ◌&&◌ (eq-eqb (parts e).1 (parts e).1 refl) (eq-eqb (parts e).2 (parts e).2 refl))

pub made_of : (e : Expression) (o : Option Expression) → holds e (as_list o) ≡ true → o ≡ Some e
made_of e None h = absurd (clash h)
made_of e (Some f) h = ap Some (same_true f e (sym (or-false (same f e)) ∙ h))

pub of_made : (e : Expression) (o : Option Expression) → o ≡ Some e → holds e (as_list o) ≡ true
of_made e o h = ap (λ t. holds e (as_list t)) h ∙ ap (λ b. b || false) (same_self e)

module _ (es : List Expression) (i : ℕ) (below : i < 64) (e : Expression) (stands : slice_get es i ≡ Some e) where
  node_bit : (n : ℕ) (x : Node) (v : Bits) → bit i (act (available es) (of_node (available es) n x) v).word ≡ becomes (disturbed_by x e) (made_by x e) (bit i v.word)
  node_bit n (Step r s) v =
      setting_bit (λ j. tested (disturbed s) (slice_get es j)) (λ j. tested (makes s) (slice_get es j)) v i below
      ∙ ap₂ (λ a b. becomes a b (bit i v.word)) (ap (tested (disturbed s)) stands) (ap (tested (makes s)) stands)
  node_bit n (Fork r b k) v = setting_bit (λ j. false) (λ j. false) v i below

  module _ (p : Drawn) where
    abbrev pub word_bit : List ℕ → Bool → Bool
    word_bit = along (λ n. disturbed_by (node_at p n) e) (λ n. made_by (node_at p n) e)

    run_bit : (w : List ℕ) (x : Bits) → bit i (run (available es) (steps_of (available es) p) w x).word ≡ word_bit w (bit i x.word)
    run_bit [] x = refl
    run_bit (n ∷ w) x = run_bit w (act (available es) (steps_of (available es) p n) x) ∙ ap (word_bit w) (node_bit n (node_at p n) x)

    -- behind a run from nothing, the bit of e is 1 exactly if the run holds a computation of e, undisturbed since
    pub run_available : (w : List ℕ) → (bit i (run (available es) (steps_of (available es) p) w none).word ≡ true) ↔ Available p e w
    run_available w =
        let l = along_law (λ n. disturbed_by (node_at p n) e) (λ n. made_by (node_at p n) e) w (bit i none.word) in (
          λ h. elim (l.0 (sym (run_bit w none) ∙ h)) [
            | inl t ↦ absurd (clash (sym (bit_from (λ j. false) i below) ∙ t.0))
            | inr t ↦ since_map (λ m. made_of e (computed_by (node_at p m))) t
          ],
          λ a. run_bit w none ∙ l.1 (inr (since_map (λ m. of_made e (computed_by (node_at p m))) a)),
        )

    -- so the meet over all runs says whether all of them do
    pub meet_available : {member : List ℕ → Type 0} {v : Bits} → IsMeet (available es) member (λ w. run (available es) (steps_of (available es) p) w none) v
        → (bit i v.word ≡ true) ↔ ((w : List ℕ) → member w → Available p e w)
    meet_available m =
        let b = bit_meet (λ node s. available_effect es s) i below m in
        (λ h w k. (run_available w).0 (b.0 h w k), λ h. b.1 (λ w k. (run_available w).1 (h w k)))
