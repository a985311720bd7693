-- The effects of a solution are below the words.
use Rattle.std.proofs.Common.{◌≡◌, ℕ, List, ◌++◌, sym, ap, ◌∙◌, subst, inl, inr}
use Rattle.std.proofs.lemmas.Bool.{cases_eq}
use Rattle.plan.specs.declared.node.Direction.{Direction}
use Rattle.plan.specs.Drawn.{Drawn}
use Rattle.plan.specs.Paths.{Leads}
use Rattle.kinds.specs.declared.effect.Effect.{Effect}
use Rattle.kinds.specs.Kinds.{Algebra, Laws}
use Rattle.kinds.specs.Effects.{Below, act, followed, either_way}
use Rattle.runs.specs.Words.{Begins, Closes, Way, Way.start, Written, Written.step, Written.fork, Full, Full.full, Woven}
use Rattle.runs.specs.Actions.{run, joint}
use Rattle.runs.specs.Scheme.{does, Lowered, Lowered.starts, Lowered.lowers, Solved}
use Rattle.runs.proofs.Order.{below_eq, below_trans, below_is, act_passing, act_followed, either_left, either_right}
use Rattle.runs.proofs.Effects.{run_append, run_mono, beside_below}
use Rattle.runs.proofs.Plans.{Fit}
use Rattle.runs.proofs.Scheme.{begins_same, initial_first, does_step, does_fork}

module _ {V G : Type 0} {a : Algebra V G} (l : Laws a) {p : Drawn} {d : Direction} (fit : Fit p d) where
  -- lowering leaves the first effect below passing
  first_lowered : {steps regions : ℕ → Effect G V} {r : ℕ} {nodes : ℕ → Effect G V} → Lowered a p d steps regions r nodes
      → (n : ℕ) → Begins p d r n → (x : V) → Below a (act a (nodes n) x) x
  first_lowered {r = r} (starts nodes m b is) n c x =
      below_eq l (ap (λ e. act a e x) (is n (fit.first_lies c) ∙ initial_first a (begins_same p d r n m c b)) ∙ act_passing l x)
  first_lowered {steps} {regions} (lowers nodes next m k low lies leads new old) n c x =
      let before = first_lowered low n c x in
      elim (cases_eq n k) [
        | inl same ↦
            let e = subst (λ (i : ℕ). next i ≡ either_way a (nodes i) (followed a (nodes m) (does a p steps regions m))) (sym same) new in
            below_trans l (below_eq l (ap (λ f. act a f x) e)) (below_trans l (either_left l _ _ x) before)
        | inr other ↦ below_trans l (below_eq l (ap (λ f. act a f x) (old n (fit.first_lies c) other))) before
      ]

  module _ {steps nodes regions : ℕ → Effect G V} (s : Solved a p d steps nodes regions) where
    first_below : (r n : ℕ) → Begins p d r n → (x : V) → Below a (act a (nodes n) x) x
    first_below r n b = first_lowered (s.lowered r (fit.within (fit.first_lies b))) n b

    arc_below : {m n : ℕ} → Leads p d m n → (x : V) → Below a (act a (nodes n) x) (act a (does a p steps regions m) (act a (nodes m) x))
    arc_below {m} {n} h x = below_trans l (below_eq l (ap (λ e. act a e x) (sym (s.stable m n h)))) (below_is l (either_right l _ _ x) (act_followed l _ _ x))

    pub region_is : {r n : ℕ} → Closes p d r n → regions r ≡ followed a (nodes n) (does a p steps regions n)
    region_is {r} (e, is, at) = s.region r e is ∙ ap (λ (n : ℕ). followed a (nodes n) (does a p steps regions n)) at

    -- an effect, and then another, each below a word
    both_below : (e f : Effect G V) (w v : List ℕ) → ((x : V) → Below a (act a e x) (run a steps w x)) → ((x : V) → Below a (act a f x) (run a steps v x))
        → (x : V) → Below a (act a f (act a e x)) (run a steps (w ++ v) x)
    both_below e f w v h k x = below_is l (below_trans l (k (act a e x)) (run_mono l steps v (h x))) (sym (run_append l steps w v x))

    mutual
      pub way_below : {r n : ℕ} {w : List ℕ} → Way p d r n w → (x : V) → Below a (act a (nodes n) x) (run a steps w x)
      way_below (start {r = r} {n = n} b) = first_below r n b
      way_below (Way.go {m = m} {w = w} {v = v} h k arc) =
          λ x. below_trans l (arc_below arc x) (both_below (nodes m) (does a p steps regions m) w v (way_below h) (written_below k) x)

      written_below : {n : ℕ} {v : List ℕ} → Written p d n v → (x : V) → Below a (act a (does a p steps regions n) x) (run a steps v x)
      written_below (step h) = λ x. below_eq l (ap (λ e. act a e x) (does_step a p steps regions h))
      written_below (fork f h) = λ x. below_trans l (below_eq l (ap (λ e. act a e x) (does_fork a p steps regions f))) (woven_below h x)

      pub full_below : {r : ℕ} {w : List ℕ} → Full p d r w → (x : V) → Below a (act a (regions r) x) (run a steps w x)
      full_below (full {n = n} {w = w} {v = v} h c k) =
          λ x. below_trans l (below_eq l (ap (λ e. act a e x) (region_is c) ∙ act_followed l _ _ x)) (both_below (nodes n) (does a p steps regions n) w v (way_below h) (written_below k) x)

      woven_below : {qs v : List ℕ} → Woven p d qs v → (x : V) → Below a (act a (joint a regions qs) x) (run a steps v x)
      woven_below Woven.none = λ x. below_eq l (act_passing l x)
      woven_below (Woven.more {q = q} {qs = qs} h hs m) = beside_below l steps (regions q) (joint a regions qs) (full_below h) (woven_below hs) m
