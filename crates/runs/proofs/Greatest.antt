-- Whatever is below what every run that reaches a node leaves of the start value, is below the value at the node.
use Rattle.std.proofs.Common.{ℕ, List, [], ◌∷◌, ◌++◌, sym, ap, ◌∙◌}
use Rattle.plan.specs.declared.node.Direction.{Direction}
use Rattle.plan.specs.Drawn.{Drawn, Lies}
use Rattle.kinds.specs.declared.effect.Effect.{Effect}
use Rattle.kinds.specs.Kinds.{Algebra, Laws}
use Rattle.kinds.specs.Effects.{Below, act, passing, followed}
use Rattle.runs.specs.Words.{IsStep, Forks}
use Rattle.runs.specs.Runs.{Approach.direct, Run}
use Rattle.runs.specs.Actions.{run}
use Rattle.runs.specs.Scheme.{Solved, Pick, met, Valued}
use Rattle.runs.proofs.Order.{below_eq, below_trans, below_is, act_mono, act_forced, act_passing, act_followed}
use Rattle.runs.proofs.Effects.{run_append}
use Rattle.runs.proofs.Lists.{In, pick_in, other_in}
use Rattle.runs.proofs.Plans.{Fit}
use Rattle.runs.proofs.Attained.{way_tight}
use Rattle.runs.proofs.Inside.{Inside, Inside.here, Inside.deeper, Nested, Nested.outermost, Nested.branch, nested}
use Rattle.runs.proofs.Reaching.{approach_on, nearing_still, branches_still, step_last}
use Rattle.runs.proofs.Forced.{met_tight, forces_tight}

module _ {V G : Type 0} {a : Algebra V G} (l : Laws a) {p : Drawn} {d : Direction} (fit : Fit p d)
    {steps nodes regions : ℕ → Effect G V} (s : Solved a p d steps nodes regions)
    {start : V} {forces side value : ℕ → V} (v : Valued a p steps nodes start forces side value) where
  open a use {meet}

  -- z is below what every run that reaches n leaves, behind the effect k
  abbrev BelowRuns : ℕ → Effect G V → V → Type 0
  BelowRuns n k z = (w : List ℕ) → Run p d n w → Below a z (act a k (run a steps w start))

  -- some run ends in any step of a branch beside n
  beside_below : {r f n q o t : ℕ} {qs rs : List ℕ} → Nested p r → Lies p r f → Forks p f qs → Pick q qs rs → In o rs → Inside p q n → Inside p o t → IsStep p t
      → (k : Effect G V) (z : V) → BelowRuns n k z → Below a z (act a k (steps t).forced)
  beside_below {t = t} out lies forks pick i x y is k z runs =
      let (w, reach) = step_last fit out lies forks pick i x y is in
      below_trans l (runs (w ++ (t ∷ [])) reach) (act_mono l k (below_trans l (below_eq l (run_append l steps w (t ∷ []) start)) (act_forced l (steps t) _)))

  side_tight : {r n : ℕ} → Nested p r → Inside p r n → (k : Effect G V) (x z : V) → BelowRuns n k z → Below a z (act a k x) → Below a z (act a k (meet x (side r)))
  side_tight outermost inside k x z runs below = below_is l below (ap (act a k) (sym (l.meet_top x) ∙ ap (meet x) (sym v.side_outermost)))
  side_tight (branch {r = r} {f = f} {q = q} {qs = qs} {rs = rs} out lies forks pick) inside k x z runs below =
      let outer : Below a z (act a k (meet x (side r))) = side_tight out (deeper lies forks (pick_in pick) inside) k x z runs below in
      let forced : (o : ℕ) → In o rs → Below a z (act a k (meet (meet x (side r)) (forces o))) =
      λ o i. forces_tight l fit v k (meet x (side r)) z outer o (fit.inner lies forks (other_in pick i)).1 (λ t y is. beside_below out lies forks pick i inside y is k z runs) in
      let sides = v.side_branch f q qs rs forks pick ∙ ap (λ (o : ℕ). meet (side o) (met a forces rs)) lies.1 in
      below_is l (met_tight l forces k (meet x (side r)) z outer rs forced) (ap (act a k) (l.meet_assoc x (side r) (met a forces rs) ∙ ap (meet x) (sym sides)))

  value_tight : {r : ℕ} → Nested p r → (n : ℕ) → Lies p r n → (k : Effect G V) (z : V) → BelowRuns n k z → Below a z (act a k (value n))
  value_tight outermost n lies k z runs =
      let own : Below a z (act a k (act a (nodes n) start)) = way_tight l fit s 0 n lies k start z (λ w h. runs w (direct h)) in
      below_is l (side_tight outermost (here lies) k (act a (nodes n) start) z runs own) (ap (act a k) (sym (v.value_outermost n lies)))
  value_tight (branch {r = r} {f = f} {q = q} {qs = qs} {rs = rs} out at_Fork forks pick) n lies k z runs =
      let through : (w : List ℕ) → Run p d f w → Below a z (act a k (act a (nodes n) (run a steps w start))) =
      λ w reach. way_tight l fit s q n lies k (run a steps w start) z (λ u h.
      below_is l (runs (w ++ u) (approach_on reach u forks (nearing_still pick (branches_still fit r f qs at_Fork forks) (direct h)))) (ap (act a k) (run_append l steps w u start))) in
      let fork : Below a z (act a (followed a (nodes n) k) (value f)) =
      value_tight out f at_Fork (followed a (nodes n) k) z (λ w reach. below_is l (through w reach) (sym (act_followed l (nodes n) k (run a steps w start)))) in
      let own : Below a z (act a k (act a (nodes n) (value f))) = below_is l fork (act_followed l (nodes n) k (value f)) in
      below_is l (side_tight (branch out at_Fork forks pick) (here lies) k (act a (nodes n) (value f)) z runs own) (ap (act a k) (sym (v.value_branch f q n qs rs forks pick lies)))

  pub value_greatest : (r n : ℕ) → Lies p r n → (z : V) → ((w : List ℕ) → Run p d n w → Below a z (run a steps w start)) → Below a z (value n)
  value_greatest r n lies z h =
      below_is l (value_tight (nested fit r (fit.within lies)) n lies (passing a) z (λ w reach. below_is l (h w reach) (sym (act_passing l _)))) (act_passing l (value n))
