-- The effects and values of a solution are meets.
use Rattle.std.proofs.Common.{◌≡◌, refl}
use Rattle.plan.specs.Drawn.{node_at, region_of}
use Rattle.kinds.specs.Kinds.{Algebra, Laws}
use Rattle.kinds.specs.Effects.{IsMeet}
use Rattle.runs.specs.Runs.{Approach.direct}
use Rattle.runs.specs.Theorems.{NodesExact, RegionsExact, ValuesExact, SolutionsAgree}
use Rattle.runs.proofs.Order.{below_antisym}
use Rattle.runs.proofs.Plans.{fit}
use Rattle.runs.proofs.Tight.{tight_meet}
use Rattle.runs.proofs.Completed.{approach_way}
use Rattle.runs.proofs.Lower.{way_below, full_below}
use Rattle.runs.proofs.Attained.{way_tight, full_tight}
use Rattle.runs.proofs.Values.{value_below}
use Rattle.runs.proofs.Greatest.{value_greatest}

module _ {V G : Type 0} {a : Algebra V G} (l : Laws a) where
  -- two meets of one set
  meet_unique : {X : Type 0} {member : X → Type 0} {value : X → V} {u v : V} → IsMeet a member value u → IsMeet a member value v → u ≡ v
  meet_unique m n = below_antisym l (n.greatest _ m.lower) (m.greatest _ n.lower)

  pub nodes_exact : NodesExact a
  nodes_exact p d sound whole steps nodes regions s n there x =
      let f = fit p sound whole d in
      let r = region_of (node_at p n) in
      let m = tight_meet l steps _ (nodes n) (λ w h. way_below l f s h) (way_tight l f s r n (there, refl)) x in
      record { lower = λ w h. m.lower w (approach_way f h (there, refl)); greatest = λ z h. m.greatest z (λ w k. h w (direct k)) }

  pub regions_exact : RegionsExact a
  regions_exact p d sound whole steps nodes regions s r there x =
      let f = fit p sound whole d in
      tight_meet l steps _ (regions r) (λ w h. full_below l f s h) (full_tight l f s r there) x

  pub values_exact : ValuesExact a
  values_exact p d sound whole steps nodes regions s start forces side value v n there =
      let f = fit p sound whole d in
      record { lower = value_below l f s v n; greatest = value_greatest l f s v (region_of (node_at p n)) n (there, refl) }

  pub solutions_agree : SolutionsAgree a
  solutions_agree p d sound whole steps nodes regions nodes' regions' s s' = (
    λ n there x. meet_unique (nodes_exact p d sound whole steps nodes regions s n there x) (nodes_exact p d sound whole steps nodes' regions' s' n there x),
    λ r there x. meet_unique (regions_exact p d sound whole steps nodes regions s r there x) (regions_exact p d sound whole steps nodes' regions' s' r there x),
  )
