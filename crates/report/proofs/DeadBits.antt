-- What the bit of a variable says of a run.
use Rattle.std.proofs.Common.{◌≡◌, ℕ, ◌<◌, Bool, true, false, not, ◌&&◌, ◌↔◌, List, [], ◌∷◌, sym, refl, ap, ◌∙◌, ap₂, inl, inr, arith, lt-ltb}
use Rattle.std.proofs.lemmas.Bool.{not-true, not_from_false}
use Rattle.plan.specs.declared.node.Node.{Node}
use Rattle.plan.specs.declared.node.Node.TheVariants.{Step, Fork}
use Rattle.plan.specs.Drawn.{Drawn, node_at}
use Rattle.plan.specs.Statements.{assigns, uses}
use Rattle.bitset.specs.declared.bits.Bits.{Bits}
use Rattle.bitset.specs.Bits.{bit, bits_from}
use Rattle.facts.specs.Dead.{stands_for, dead_effect}
use Rattle.kinds.specs.Effects.{act, IsMeet}
use Rattle.kinds.specs.Kinds.{Algebra}
use Rattle.facts.specs.Masks.{bitwise}
use Rattle.expressions.specs.Variables.{among}
use Rattle.bitset.proofs.Digits.{bit_from}
use Rattle.runs.specs.Actions.{run, of_node, steps_of}
use Rattle.report.specs.Unread.{assigned_by, used_by, Unread}
use Rattle.report.proofs.Bitwise.{becomes, setting_bit, along, along_law, bit_meet}

abbrev pub dead : Algebra Bits Bits
dead = bitwise (λ node s. dead_effect (uses s) (assigns s))

-- what is dead at the end: whatever is not kept
abbrev pub unkept : ℕ → Bits
unkept kept = bits_from (λ i. not (bit i kept))

module _ (v : ℕ) (below : v < 16) where
  low : v < 64
  low = omega (arith, below)

  stands : (vs : List ℕ) → stands_for vs v ≡ among v vs
  stands vs = ap (λ b. b && among v vs) (lt-ltb v 16 below)

  node_bit : (n : ℕ) (x : Node) (y : Bits) → bit v (act dead (of_node dead n x) y).word ≡ becomes (among v (used_by x)) (among v (assigned_by x)) (bit v y.word)
  node_bit n (Step r s) y = setting_bit (stands_for (uses s)) (stands_for (assigns s)) y v low ∙ ap₂ (λ a b. becomes a b (bit v y.word)) (stands (uses s)) (stands (assigns s))
  node_bit n (Fork r b k) y = setting_bit (λ j. false) (λ j. false) y v low

  module _ (p : Drawn) where
    abbrev word_bit : List ℕ → Bool → Bool
    word_bit = along (λ n. among v (used_by (node_at p n))) (λ n. among v (assigned_by (node_at p n)))

    run_bit : (w : List ℕ) (x : Bits) → bit v (run dead (steps_of dead p) w x).word ≡ word_bit w (bit v x.word)
    run_bit [] x = refl
    run_bit (n ∷ w) x = run_bit w (act dead (steps_of dead p n) x) ∙ ap (word_bit w) (node_bit n (node_at p n) x)

    run_unread : (kept : ℕ) (w : List ℕ) → (bit v (run dead (steps_of dead p) w (unkept kept)).word ≡ true) ↔ Unread p v kept w
    run_unread kept w =
        let start = bit_from (λ i. not (bit i kept)) v low in
        let l = along_law (λ n. among v (used_by (node_at p n))) (λ n. among v (assigned_by (node_at p n))) w (bit v (unkept kept).word) in (
          λ h. elim (l.0 (sym (run_bit w (unkept kept)) ∙ h)) [
            | inl t ↦ inl (not-true (bit v kept) (sym start ∙ t.0), t.1)
            | inr t ↦ inr t
          ],
          λ h. run_bit w (unkept kept) ∙ l.1 (elim h [ inl t ↦ inl (start ∙ not_from_false (bit v kept) t.0, t.1) | inr t ↦ inr t ]),
        )

    pub meet_unread : (kept : ℕ) {member : List ℕ → Type 0} {x : Bits} → IsMeet dead member (λ w. run dead (steps_of dead p) w (unkept kept)) x
        → (bit v x.word ≡ true) ↔ ((w : List ℕ) → member w → Unread p v kept w)
    meet_unread kept m =
        let b = bit_meet (λ node s. dead_effect (uses s) (assigns s)) v low m in
        (λ h w k. (run_unread kept w).0 (b.0 h w k), λ h. b.1 (λ w k. (run_unread kept w).1 (h w k)))
