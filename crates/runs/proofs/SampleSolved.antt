-- Effects and values of the sample plan.
use Rattle.std.proofs.Common.{◌≡◌, ℕ, zero, suc, cond, eqb, [], ◌∷◌, Some, refl, lit<}
use Rattle.plan.specs.declared.node.Ends.{Ends}
use Rattle.plan.specs.declared.node.Direction.{Direction}
use Rattle.plan.specs.declared.node.Direction.TheVariants.{Forward, Backward}
use Rattle.plan.specs.Drawn.{node_at, ends_at, region_of, Lies}
use Rattle.plan.specs.Paths.{first_in, Leads, last_in}
use Rattle.kinds.specs.declared.effect.Effect.{Effect}
use Rattle.kinds.specs.Kinds.{Algebra, Laws}
use Rattle.kinds.specs.Effects.{act, passing, blocked, followed, either_way}
use Rattle.runs.specs.Words.{Begins}
use Rattle.runs.specs.Actions.{steps_of}
use Rattle.runs.specs.Scheme.{does, initial, Lowered, Lowered.starts, Lowered.lowers, Solved, met, all_force, Valued}
use Rattle.runs.specs.Sample.{sample}
use Rattle.runs.specs.Theorems.{PremisesMet}
use Rattle.runs.proofs.Settled.{settled}
use Rattle.runs.proofs.SamplePlan.{sample_sound, sample_whole, lies_0, lies_1, lies_2, sample_regions, sample_ends, sample_arcs, sample_branches}

-- a value for each of the three regions, and for each of the four nodes
abbrev three : {X : Type 0} → X → X → X → ℕ → X
three x₀ x₁ x₂ zero = x₀
three x₀ x₁ x₂ (suc zero) = x₁
three x₀ x₁ x₂ (suc (suc n)) = x₂

abbrev four : {X : Type 0} → X → X → X → X → ℕ → X
four x₀ x₁ x₂ x₃ zero = x₀
four x₀ x₁ x₂ x₃ (suc zero) = x₁
four x₀ x₁ x₂ x₃ (suc (suc zero)) = x₂
four x₀ x₁ x₂ x₃ (suc (suc (suc n))) = x₃

-- the first and the last node of region 0
abbrev first₀ : Direction → ℕ
first₀ d = first_in d (record { first = 0; last = 1 })

abbrev last₀ : Direction → ℕ
last₀ d = last_in d (record { first = 0; last = 1 })

module _ {V G : Type 0} (a : Algebra V G) where
  open a use {meet, top}

  abbrev steps : ℕ → Effect G V
  steps = steps_of a sample

  -- region 0 has the effect e at its last node, region 1 has f
  abbrev nodes : Direction → Effect G V → Effect G V → ℕ → Effect G V
  nodes d e f = four (cond (eqb 0 (first₀ d)) (passing a) e) (cond (eqb 1 (first₀ d)) (passing a) e) f (passing a)

  abbrev regions : Effect G V → Effect G V → ℕ → Effect G V
  regions e f = three e (followed a f (steps 2)) (followed a (passing a) (steps 3))

  begins_at : (d : Direction) → Begins sample d 0 (first₀ d) × Begins sample d 1 2 × Begins sample d 2 3
  begins_at Forward = ((_, refl, refl), (_, refl, refl), (_, refl, refl))
  begins_at Backward = ((_, refl, refl), (_, refl, refl), (_, refl, refl))

  start_0 : (d : Direction) (rs : ℕ → Effect G V) (f : Effect G V) → Lowered a sample d steps rs 0 (nodes d (blocked a) f)
  start_0 d rs f = starts (nodes d (blocked a) f) (first₀ d) (begins_at d).0 (lies_0 (λ n. nodes d (blocked a) f n ≡ initial a (first₀ d) n) refl refl)

  start_1 : (d : Direction) (rs : ℕ → Effect G V) (e : Effect G V) → Lowered a sample d steps rs 1 (nodes d e (passing a))
  start_1 d rs e = starts (nodes d e (passing a)) 2 (begins_at d).1 (lies_1 (λ n. nodes d e (passing a) n ≡ initial a 2 n) refl)

  start_2 : (d : Direction) (rs : ℕ → Effect G V) (e f : Effect G V) → Lowered a sample d steps rs 2 (nodes d e f)
  start_2 d rs e f = starts (nodes d e f) 3 (begins_at d).2 (lies_2 (λ n. nodes d e f n ≡ initial a 3 n) refl)

  -- what comes along the arc of region 0
  abbrev next_0 : Direction → Effect G V → Effect G V
  next_0 d f = followed a (passing a) (does a sample steps (regions (passing a) f) (first₀ d))

  -- an arc to node k leaves the other nodes as they were
  abbrev Kept : ℕ → (ℕ → Effect G V) → (ℕ → Effect G V) → ℕ → Type 0
  Kept k before after n = (n ≡ k → ⊥) → after n ≡ before n

  lowered_0 : (d : Direction) (r e f : Effect G V) → Lowered a sample d steps (regions r f) 0 (nodes d e f)
      → Lowered a sample d steps (regions r f) 0 (nodes d (either_way a e (next_0 d f)) f)
  lowered_0 Forward r e f h =
      let after = nodes Forward (either_way a e (next_0 Forward f)) f in
      lowers (nodes Forward e f) after 0 1 h (lit< tt, refl) (0, lit< tt, refl) refl (lies_0 (Kept 1 (nodes Forward e f) after) (λ other. refl) (λ other. absurd (other refl)))
  lowered_0 Backward r e f h =
      let after = nodes Backward (either_way a e (next_0 Backward f)) f in
      lowers (nodes Backward e f) after 1 0 h (lit< tt, refl) (0, lit< tt, refl) refl (lies_0 (Kept 0 (nodes Backward e f) after) (λ other. absurd (other refl)) (λ other. refl))

  repeats : (d : Direction) → Leads sample d 2 2
  repeats Forward = (1, lit< tt, refl)
  repeats Backward = (1, lit< tt, refl)

  lowered_1 : (d : Direction) (rs : ℕ → Effect G V) (e f : Effect G V) → Lowered a sample d steps rs 1 (nodes d e f)
      → Lowered a sample d steps rs 1 (nodes d e (either_way a f (followed a f (steps 2))))
  lowered_1 d rs e f h =
      let after = nodes d e (either_way a f (followed a f (steps 2))) in
      lowers (nodes d e f) after 2 2 h (lit< tt, refl) (repeats d) refl (lies_1 (Kept 2 (nodes d e f) after) (λ other. absurd (other refl)))

  -- Where lowering has come to rest: no arc lowers further, and the regions have the effects of their last nodes.

  abbrev Stable : (ℕ → Effect G V) → (ℕ → Effect G V) → ℕ → ℕ → Type 0
  Stable own rs m n = either_way a (own n) (followed a (own m) (does a sample steps rs m)) ≡ own n

  stable_0 : (d : Direction) (r e f : Effect G V) → either_way a e (next_0 d f) ≡ e → Stable (nodes d e f) (regions r f) (first₀ d) (last₀ d)
  stable_0 Forward r e f rests = rests
  stable_0 Backward r e f rests = rests

  abbrev region_0 : Direction → Effect G V → Effect G V → Effect G V
  region_0 d e f = followed a (nodes d e f (last₀ d)) (does a sample steps (regions (passing a) f) (last₀ d))

  abbrev FromLast : Direction → (ℕ → Effect G V) → (ℕ → Effect G V) → ℕ → Ends → Type 0
  FromLast d own rs r x = rs r ≡ followed a (own (last_in d x)) (does a sample steps rs (last_in d x))

  from_last : (d : Direction) (e f : Effect G V) (r : ℕ) (x : Ends) → ends_at sample r ≡ Some x → FromLast d (nodes d e f) (regions (region_0 d e f) f) r x
  from_last Forward e f = sample_ends (FromLast Forward (nodes Forward e f) (regions (region_0 Forward e f) f)) refl refl refl
  from_last Backward e f = sample_ends (FromLast Backward (nodes Backward e f) (regions (region_0 Backward e f) f)) refl refl refl

  -- What the regions force, the side values and the values, given the effects of the nodes.

  abbrev forces_1 : V
  forces_1 = all_force a steps (λ r. top) 1 0 sample.nodes

  abbrev forces_2 : V
  forces_2 = all_force a steps (λ r. top) 2 0 sample.nodes

  abbrev forces : ℕ → V
  forces = three (all_force a steps (three top forces_1 forces_2) 0 0 sample.nodes) forces_1 forces_2

  abbrev side : ℕ → V
  side = three top (meet top (met a forces (2 ∷ []))) (meet top (met a forces (1 ∷ [])))

  module _ (own : ℕ → Effect G V) (start : V) where
    abbrev outer : ℕ → V
    outer n = meet (act a (own n) start) (side 0)

    abbrev value : ℕ → V
    value = four (outer 0) (outer 1) (meet (act a (own 2) (outer 1)) (side 1)) (meet (act a (own 3) (outer 1)) (side 2))

    valued : Valued a sample steps own start forces side value
    valued = record {
      forced = sample_regions (λ r. forces r ≡ all_force a steps forces r 0 sample.nodes) refl refl refl;
      side_outermost = refl;
      side_branch = sample_branches (λ f q rs. side q ≡ meet (side (region_of (node_at sample f))) (met a forces rs)) refl refl;
      value_outermost = lies_0 (λ n. value n ≡ outer n) refl refl;
      value_branch = λ f q n. sample_branches (λ o b rs. Lies sample b n → value n ≡ meet (act a (own n) (value o)) (side b))
          (lies_1 (λ m. value m ≡ meet (act a (own m) (value 1)) (side 1)) refl n) (lies_2 (λ m. value m ≡ meet (act a (own m) (value 1)) (side 2)) refl n) f q;
    }

module _ {V G : Type 0} {a : Algebra V G} (l : Laws a) where
  solved : (d : Direction) → (e f : Effect G V) × Solved a sample d (steps a) (nodes a d e f) (regions a (region_0 a d e f) f)
  solved d =
      let (f, low-1, rests-1) =
      settled l (λ f. (rs : ℕ → Effect G V) (e : Effect G V) → Lowered a sample d (steps a) rs 1 (nodes a d e f)) (λ f. followed a f (steps a 2))
      (λ f h rs e. lowered_1 a d rs e f (h rs e)) (passing a) (start_1 a d) in
      let (e, low-0, rests-0) =
      settled l (λ e. (r : Effect G V) → Lowered a sample d (steps a) (regions a r f) 0 (nodes a d e f)) (λ e. next_0 a d f)
      (λ e h r. lowered_0 a d r e f (h r)) (blocked a) (λ r. start_0 a d (regions a r f) f) in
      let r = region_0 a d e f in
      let own = nodes a d e f in
      let rs = regions a r f in (
        e,
        f,
        record {
          lowered = sample_regions (λ o. Lowered a sample d (steps a) rs o own) (low-0 r) (low-1 rs e) (start_2 a d rs e f);
          stable = sample_arcs d (Stable a own rs) (stable_0 a d r e f rests-0) rests-1;
          region = from_last a d e f;
        },
      )

  pub premises_met : PremisesMet a
  premises_met = (
    sample_sound,
    sample_whole,
    λ d start.
        let (e, f, s) = solved d in
        let own = nodes a d e f in
        (own, regions a (region_0 a d e f) f, forces a, side a, value a own start, s, valued a own start),
  )
