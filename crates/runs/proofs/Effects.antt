-- What words and their shuffles do to values.
use Rattle.std.proofs.Common.{◌≡◌, ℕ, List, [], ◌∷◌, ◌++◌, sym, refl, ◌∙◌}
use Rattle.kinds.specs.declared.effect.Effect.{Effect}
use Rattle.kinds.specs.Kinds.{Algebra, Laws}
use Rattle.kinds.specs.Effects.{Below, act, passing, followed, beside}
use Rattle.runs.specs.Words.{Shuffle, Shuffle.none, Shuffle.left, Shuffle.right}
use Rattle.runs.specs.Actions.{run}
use Rattle.runs.proofs.Rules.{laws, sorted}
use Rattle.runs.proofs.Order.{below_refl, below_eq, below_trans, below_is, below_meet, meet_mono, below_through, act_mono, act_top, act_passing, act_followed}
use Rattle.runs.proofs.Lists.{All}

module _ {V G : Type 0} (a : Algebra V G) where
  -- the one effect acts below the other
  abbrev Under : Effect G V → Effect G V → Type 0
  Under e f = (x : V) → Below a (act a e x) (act a f x)

  -- the effect of a word
  abbrev effect_of : (ℕ → Effect G V) → List ℕ → Effect G V
  effect_of steps [] = passing a
  effect_of steps (n ∷ w) = followed a (steps n) (effect_of steps w)

module _ {V G : Type 0} {a : Algebra V G} (l : Laws a) where
  open a use {meet, top, through}

  -- beside another, an effect acts behind its gate and is met with its forced value
  beside_act : (e f : Effect G V) (x : V) → act a (beside a e f) x ≡ meet (act a f (through e.gate x)) e.forced
  beside_act e f x = simp (laws, l)

  beside_turn : (e f : Effect G V) (x : V) → act a (beside a e f) x ≡ act a (beside a f e) x
  beside_turn e f x = simp (sorted, laws, l)

  beside_mono_right : (e f f' : Effect G V) → Under a f f' → Under a (beside a e f) (beside a e f')
  beside_mono_right e f f' h x =
      below_trans l (below_eq l (beside_act e f x)) (below_is l (meet_mono l (h (through e.gate x)) (below_refl l)) (sym (beside_act e f' x)))

  beside_mono : (e f e' f' : Effect G V) → Under a e e' → Under a f f' → Under a (beside a e f) (beside a e' f')
  beside_mono e f e' f' h k x =
      below_trans l (below_is l (beside_mono_right e f f' k x) (beside_turn e f' x)) (below_is l (beside_mono_right f' e e' h x) (beside_turn f' e' x))

  -- a part of the one effect may act before all else
  beside_before : (e f g : Effect G V) (x : V) → Below a (act a (beside a (followed a e f) g) x) (act a (beside a f g) (act a e x))
  beside_before e f g x = record { is = simp (laws, l) }

  -- the two orders, met, come to no more than both at once
  pub beside_orders : (e f : Effect G V) (x : V) → Below a (meet (act a (followed a e f) x) (act a (followed a f e) x)) (act a (beside a e f) x)
  beside_orders e f x = record { is = simp (sorted, laws, l) }

  -- what the second takes away is at most its forced value
  beside_above : (e f : Effect G V) (x : V) → Below a (meet (act a e x) f.forced) (act a (beside a e f) x)
  beside_above e f x = record { is = simp (laws, l) }

  module _ (steps : ℕ → Effect G V) where
    pub run_append : (u v : List ℕ) (x : V) → run a steps (u ++ v) x ≡ run a steps v (run a steps u x)
    run_append [] v x = refl
    run_append (n ∷ u) v x = run_append u v (act a (steps n) x)

    pub run_mono : (w : List ℕ) {x y : V} → Below a x y → Below a (run a steps w x) (run a steps w y)
    run_mono [] p = p
    run_mono (n ∷ w) p = run_mono w (act_mono l (steps n) p)

    run_effect : (w : List ℕ) (x : V) → run a steps w x ≡ act a (effect_of a steps w) x
    run_effect [] x = sym (act_passing l x)
    run_effect (n ∷ w) x = run_effect w (act a (steps n) x) ∙ sym (act_followed l (steps n) (effect_of a steps w) x)

    -- a shuffle is above its two words at once
    above_words : {u v s : List ℕ} → Shuffle u v s → (x : V) → Below a (act a (beside a (effect_of a steps u) (effect_of a steps v)) x) (run a steps s x)
    above_words none x = below_eq l (simp (laws, l))
    above_words (left {n = n} {u = u} {v = v} m) x =
        below_trans l (beside_before (steps n) (effect_of a steps u) (effect_of a steps v) x) (above_words m (act a (steps n) x))
    above_words (right {n = n} {u = u} {v = v} m) x =
        let e = effect_of a steps u in
        let f = effect_of a steps v in
        let y = act a (steps n) x in
        below_trans l (below_eq l (beside_turn e (followed a (steps n) f) x))
        (below_trans l (below_is l (beside_before (steps n) f e x) (beside_turn f e y)) (above_words m y))

    -- effects below two words are, at once, below each shuffle of the words
    pub beside_below : (e f : Effect G V) {u v s : List ℕ} → ((x : V) → Below a (act a e x) (run a steps u x)) → ((x : V) → Below a (act a f x) (run a steps v x))
        → Shuffle u v s → (x : V) → Below a (act a (beside a e f) x) (run a steps s x)
    beside_below e f {u} {v} p q m x =
        below_trans l
        (beside_mono e f (effect_of a steps u) (effect_of a steps v) (λ y. below_is l (p y) (run_effect u y)) (λ y. below_is l (q y) (run_effect v y)) x)
        (above_words m x)

    -- what is below the start and below every forced value is below what a word leaves
    pub below_run : {z : V} {w : List ℕ} → All (λ n. Below a z (steps n).forced) w → (x : V) → Below a z x → Below a z (run a steps w x)
    below_run All.none x h = h
    below_run (All.more {n = n} p ps) x h = below_run ps (act a (steps n) x) (below_meet l (below_trans l h (below_through l (steps n).gate x)) p)

    -- a word shuffled in takes away at most what it leaves of the top
    pub below_shuffle : {u v s : List ℕ} {z : V} → Shuffle u v s → (x : V) → Below a z (run a steps u x) → Below a z (run a steps v top) → Below a z (run a steps s x)
    below_shuffle {u} {v} {s} {z} m x p q =
        let e = effect_of a steps u in
        let f = effect_of a steps v in
        let acts : Below a z (act a e x) = below_is l p (run_effect u x) in
        let forced : Below a z f.forced = below_is l q (run_effect v top ∙ act_top l f) in
        below_trans l (below_meet l acts forced) (below_trans l (beside_above e f x) (above_words m x))
