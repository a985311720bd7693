-- The side values of one fork's branches more.
use Rattle.std.proofs.Common.{◌≡◌, ℕ, ◌+◌, ◌-◌, ◌<◌, ◌≤◌, ◌⊎◌, List, length, sym, ap, ◌∙◌, subst, ap₂, inl, inr, arith}
use Rattle.std.proofs.lemmas.Bool.{cases_eq}
use Rattle.plan.specs.declared.node.Node.TheVariants.{Fork}
use Rattle.plan.specs.Drawn.{Drawn, node_at, region_of, regions_before, Sound}
use Rattle.plan.specs.Paths.{Ended}
use Rattle.plan.proofs.Forks.{branches_within, region_there}
use Rattle.kinds.specs.declared.effect.Effect.{Effect}
use Rattle.kinds.specs.Kinds.{Algebra}
use Rattle.runs.specs.Words.{branches_of, Forks}
use Rattle.runs.specs.Scheme.{met, Pick}
use Rattle.sweep.specs.Slots.{forced_slot, value_slot}
use Rattle.sweep.specs.Valuing.{home, EnteredTo, SidesTo}
use Rattle.sweep.proofs.Homes.{home_lies}
use Rattle.sweep.proofs.Meets.{but_slots}
use Rattle.sweep.proofs.Owners.{owns, owned_before, owned_within, picked_from, region_before}

module _ {V G : Type 0} (a : Algebra V G) (p : Drawn) (s : Sound p) (w : Ended p) (forces : List (Effect G V)) where
  pub sides_step : (vs : List V) (n : ℕ) → ((r b k : ℕ) → node_at p n ≡ Fork r b k → ⊥) → SidesTo a p forces vs n → SidesTo a p forces vs (n + 1)
  sides_step vs n none o = record { outermost = o.outermost; branch = λ f q qs rs l fork pick. by f q qs rs l fork pick (cases_eq f n); long = o.long }
    where
      by : (f q : ℕ) (qs rs : List ℕ) → f < n + 1 → Forks p f qs → Pick q qs rs → ((f ≡ n) ⊎ (f ≡ n → ⊥))
          → value_slot a vs (home p q) ≡ a.meet (value_slot a vs (home p (region_of (node_at p f)))) (met a (forced_slot a forces) rs)
      by f q qs rs l fork pick (inl e) =
          let x = owns p f q qs rs fork pick in
          absurd (none x.region x.first x.count (ap (node_at p) (sym e) ∙ x.is))
      by f q qs rs l fork pick (inr ne) = o.branch f q qs rs (omega (arith, l, ne)) fork pick

  pub sides_fork : (vs us : List V) (n r b k : ℕ) (outer : V) → n < length p.nodes → node_at p n ≡ Fork r b k → length forces ≡ length p.ends → outer ≡ value_slot a vs (home p (region_of (node_at p n)))
      → EnteredTo a p forces b k outer vs us k → SidesTo a p forces vs n → SidesTo a p forces us (n + 1)
  sides_fork vs us n r b k outer h is many out e o = record {
    outermost = keep 0 (omega (arith, first)) (omega (arith, first, within.1)) ∙ o.outermost;
    branch = λ f q qs rs l fork pick. by f q qs rs l fork pick (cases_eq f n);
    long = e.long ∙ o.long;
  }
    where
      first : b ≡ regions_before p n
      first = s.forked n r b k h is

      within : (r < b) × (b + k ≤ length p.ends)
      within = branches_within p s n r b k h is

      keep : (q : ℕ) → q < b → q < length p.ends → value_slot a us (home p q) ≡ value_slot a vs (home p q)
      keep q l m = e.kept (home p q) (omega (arith, l, (home_lies p s w q m).1))

      region_kept : (f : ℕ) → f < n + 1 → f < length p.nodes → value_slot a us (home p (region_of (node_at p f))) ≡ value_slot a vs (home p (region_of (node_at p f)))
      region_kept f l m = keep (region_of (node_at p f)) (early (cases_eq f n)) (region_there p s f m)
        where
          early : ((f ≡ n) ⊎ (f ≡ n → ⊥)) → region_of (node_at p f) < b
          early (inl same) = omega (arith, within.0, ap region_of is, ap (λ (i : ℕ). region_of (node_at p i)) same)
          early (inr ne) = omega (arith, first, region_before p s f n (omega (arith, l, ne)) m)

      by : (f q : ℕ) (qs rs : List ℕ) → f < n + 1 → Forks p f qs → Pick q qs rs → ((f ≡ n) ⊎ (f ≡ n → ⊥))
          → value_slot a us (home p q) ≡ a.meet (value_slot a us (home p (region_of (node_at p f)))) (met a (forced_slot a forces) rs)
      by f q qs rs l fork pick (inl same) =
          let there = subst (λ (i : ℕ). Forks p i qs) same fork in
          let picked = subst (λ (os : List ℕ). Pick q os rs) (sym there.2 ∙ ap branches_of is) pick in
          let range = picked_from b k q rs picked in
          let at : b + (q - b) ≡ q = omega (arith, range.0) in
          ap (λ (i : ℕ). value_slot a us (home p i)) (sym at) ∙ e.side (q - b) (omega (arith, range.0, range.1))
          ∙ ap₂ a.meet (out ∙ ap (λ (i : ℕ). value_slot a vs (home p (region_of (node_at p i)))) (sym same) ∙ sym (region_kept f l fork.0))
          (but_slots a forces b k q rs (omega (arith, within.1, many)) picked)
      by f q qs rs l fork pick (inr ne) =
          let x = owns p f q qs rs fork pick in
          let earlier : f < n = omega (arith, l, ne) in
          keep q (omega (arith, first, owned_before p s f q n earlier x)) (owned_within p s f q x) ∙ o.branch f q qs rs earlier fork pick
          ∙ ap (λ (v : V). a.meet v (met a (forced_slot a forces) rs)) (sym (region_kept f l fork.0))
