-- Branches given their side values one after another.
use Rattle.std.proofs.Common.{◌≡◌, ℕ, ◌+◌, ◌<◌, ◌⊎◌, List, length, take, drop, set, sym, ◌∙◌, subst, inl, inr, arith, length-set, get_or-set_other, get_or-set_same}
use Rattle.std.proofs.lemmas.Bool.{cases_eq}
use Rattle.plan.specs.Drawn.{Drawn, Sound}
use Rattle.plan.specs.Paths.{Ended}
use Rattle.kinds.specs.declared.effect.Effect.{Effect}
use Rattle.kinds.specs.Kinds.{Algebra}
use Rattle.sweep.specs.Slots.{value_slot}
use Rattle.sweep.specs.Valuing.{met_but, home, EnteredTo}
use Rattle.sweep.proofs.Homes.{home_lies, homes_differ}

module _ {V G : Type 0} (a : Algebra V G) (p : Drawn) (s : Sound p) (w : Ended p) (forces : List (Effect G V)) (b k : ℕ) (outer : V) (before : List V) where
  entered_at : (vs : List V) (i : ℕ) (v : V) → b + i < length p.ends → length vs ≡ length p.nodes → v ≡ a.meet outer (met_but a (take k (drop b forces)) i)
      → EnteredTo a p forces b k outer before vs i → EnteredTo a p forces b k outer before (set vs (home p (b + i)) v) (i + 1)
  entered_at vs i v h many is e = record {
    side = λ j l. side j l (cases_eq j i);
    kept = λ m l. get_or-set_other vs (home p (b + i)) m v a.top (homes_differ p s w (b + i) m h (λ o. omega (arith, l, o))) ∙ e.kept m l;
    long = length-set vs (home p (b + i)) v ∙ e.long;
  }
    where
      side : (j : ℕ) → j < i + 1 → ((j ≡ i) ⊎ (j ≡ i → ⊥)) → value_slot a (set vs (home p (b + i)) v) (home p (b + j)) ≡ a.meet outer (met_but a (take k (drop b forces)) j)
      side j l (inl o) =
          subst (λ (n : ℕ). value_slot a (set vs (home p (b + i)) v) (home p (b + n)) ≡ a.meet outer (met_but a (take k (drop b forces)) n)) (sym o)
          (get_or-set_same vs (home p (b + i)) v a.top (omega (arith, (home_lies p s w (b + i) h).0, many)) ∙ is)
      side j l (inr ne) =
          get_or-set_other vs (home p (b + i)) (home p (b + j)) v a.top
          (homes_differ p s w (b + i) (home p (b + j)) h (λ o. ne (omega (arith, o, (home_lies p s w (b + j) (omega (arith, l, h))).1))))
          ∙ e.side j (omega (arith, l, ne))

  pub entered_more : (vs : List V) (i n : ℕ) (v : V) → n ≡ home p (b + i) → b + i < length p.ends → length vs ≡ length p.nodes → v ≡ a.meet outer (met_but a (take k (drop b forces)) i)
      → EnteredTo a p forces b k outer before vs i → EnteredTo a p forces b k outer before (set vs n v) (i + 1)
  entered_more vs i n v at h many is e = subst (λ (m : ℕ). EnteredTo a p forces b k outer before (set vs m v) (i + 1)) (sym at) (entered_at vs i v h many is e)
