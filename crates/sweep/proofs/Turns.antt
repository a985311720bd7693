-- One arc more of a round.
use Rattle.std.proofs.Common.{◌≡◌, ℕ, ◌+◌, ◌<◌, Bool, true, false, List, length, MatchBool, sym, ap, ◌∙◌, subst, arith, length-set, get_or-set_other, get_or-set_same, below_more}
use Rattle.plan.specs.declared.node.Arc.{Arc}
use Rattle.plan.specs.declared.node.Direction.{Direction}
use Rattle.plan.specs.Drawn.{Drawn, node_at, arc_at, region_of, Joins, Sound}
use Rattle.plan.specs.Paths.{turned}
use Rattle.plan.proofs.Marking.{joins_turned}
use Rattle.kinds.specs.declared.effect.Effect.{Effect}
use Rattle.kinds.specs.Kinds.{Algebra}
use Rattle.kinds.specs.Effects.{passing}
use Rattle.runs.specs.Scheme.{Lowered.lowers}
use Rattle.sweep.specs.Slots.{slot}
use Rattle.sweep.specs.Rounds.{rank_sum, brought, Lowers, Settled, SettledTo, Lowering}

module _ {V G : Type 0} (a : Algebra V G) (p : Drawn) (regions : List (Effect G V)) (d : Direction) (r : ℕ) where
  lowering_then : (es fs gs : List (Effect G V)) → Lowering a p regions d r es fs → Lowering a p regions d r fs gs → Lowering a p regions d r es gs
  lowering_then es fs gs l m = record {
    lowered = λ h. m.lowered (l.lowered h);
    others = λ n h o. m.others n h o ∙ l.others n h o;
    long = m.long ∙ l.long;
  }

  -- an arc that lowers
  lowering_one : Sound p → (before after : List (Effect G V)) (k : ℕ) (arc : Arc) → k < length p.arcs → arc ≡ turned d (arc_at p k)
      → length before ≡ length p.nodes → Lowers a p regions r before after arc → Lowering a p regions d r before after
  lowering_one s before after k arc h is many l =
      let j = subst (Joins p) (sym is) (joins_turned p d (arc_at p k) (s.joined k h)) in
      let new = brought a p regions before arc in
      record {
        lowered = λ o. lowers (slot a before) (slot a after) arc.from arc.to o (j.0, l.inside) (k, h, sym is)
            (ap (λ (es : List (Effect G V)). slot a es arc.to) l.is ∙ get_or-set_same before arc.to new (passing a) (omega (arith, many, j.1)))
            (λ n q ne. ap (λ (es : List (Effect G V)). slot a es n) l.is ∙ get_or-set_other before arc.to n new (passing a) ne);
        others = λ n q ne. ap (λ (es : List (Effect G V)). slot a es n) l.is
            ∙ get_or-set_other before arc.to n new (passing a) (λ e. ne (ap (λ (i : ℕ). region_of (node_at p i)) e ∙ sym j.2 ∙ l.inside));
        long = ap length l.is ∙ length-set before arc.to new;
      }

  -- how far a round has come: an effect is lowered, or the first n arcs are settled
  pub record Turn (changed : Bool) (start es : List (Effect G V)) (n : ℕ) : Type 0 where
    pub lowering : Lowering a p regions d r start es
    pub told : MatchBool changed (rank_sum a es < rank_sum a start) ((es ≡ start) × SettledTo a p regions d r start n)

  told_new : (b : Bool) (start es new : List (Effect G V)) (n : ℕ) → MatchBool b (rank_sum a es < rank_sum a start) ((es ≡ start) × SettledTo a p regions d r start n)
      → rank_sum a new < rank_sum a es → rank_sum a new < rank_sum a start
  told_new true start es new n t l = omega arith
  told_new false start es new n t l = omega (arith, l, ap (rank_sum a) t.0)

  told_same : (b : Bool) (start es : List (Effect G V)) (n : ℕ) → MatchBool b (rank_sum a es < rank_sum a start) ((es ≡ start) × SettledTo a p regions d r start n)
      → Settled a p regions r es (turned d (arc_at p n)) → MatchBool b (rank_sum a es < rank_sum a start) ((es ≡ start) × SettledTo a p regions d r start (n + 1))
  told_same true start es n t f = t
  told_same false start es n t f = (t.0, below_more _ _ t.1 (subst (λ (fs : List (Effect G V)). Settled a p regions r fs (turned d (arc_at p n))) t.0 f))

  pub turn_new : Sound p → (b : Bool) (start es new : List (Effect G V)) (n : ℕ) (arc : Arc) → n < length p.arcs → arc ≡ turned d (arc_at p n)
      → length start ≡ length p.nodes → Lowers a p regions r es new arc → Turn b start es n → Turn true start new (n + 1)
  turn_new s b start es new n arc h is many l t = record {
    lowering = lowering_then start es new t.lowering (lowering_one s es new n arc h is (t.lowering.long ∙ many) l);
    told = told_new b start es new n t.told l.falls;
  }

  pub turn_same : (b : Bool) (start es new : List (Effect G V)) (n : ℕ) (arc : Arc) → arc ≡ turned d (arc_at p n)
      → (new ≡ es) × Settled a p regions r es arc → Turn b start es n → Turn b start new (n + 1)
  turn_same b start es new n arc is o t =
      subst (λ (fs : List (Effect G V)). Turn b start fs (n + 1)) (sym o.0)
      (record { lowering = t.lowering; told = told_same b start es n t.told (subst (Settled a p regions r es) is o.1) })
