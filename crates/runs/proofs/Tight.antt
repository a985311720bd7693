-- When an effect is no lower than the words of a set.
use Rattle.std.proofs.Common.{ℕ, List, [], ◌++◌, sym, ap, ◌∙◌}
use Rattle.kinds.specs.declared.effect.Effect.{Effect}
use Rattle.kinds.specs.Kinds.{Algebra, Laws}
use Rattle.kinds.specs.Effects.{Below, IsMeet, act, passing, blocked, followed, either_way, beside}
use Rattle.runs.specs.Words.{Shuffle}
use Rattle.runs.specs.Actions.{run}
use Rattle.runs.proofs.Order.{below_is, below_trans, act_mono, act_top, act_forced, act_passing, act_blocked, act_followed, act_either, below_act_meet}
use Rattle.runs.proofs.Effects.{beside_orders, run_append}
use Rattle.runs.proofs.Shuffles.{shuffle_append, shuffle_turn}

-- Whatever is below what all the words of W leave, is below what e leaves; and so behind any effect k that may follow.
-- With k passing, that is half of a meet; a k that varies is what makes it last where words are joined.
abbrev pub Tight : {V G : Type 0} → Algebra V G → (ℕ → Effect G V) → (List ℕ → Type 0) → Effect G V → Type 0
Tight {V} {G} a steps W e = (k : Effect G V) (x z : V) → ((w : List ℕ) → W w → Below a z (act a k (run a steps w x))) → Below a z (act a k (act a e x))

module _ {V G : Type 0} {a : Algebra V G} (l : Laws a) (steps : ℕ → Effect G V) where
  -- the empty word leaves a value as it is
  pub tight_passing : (W : List ℕ → Type 0) → W [] → Tight a steps W (passing a)
  tight_passing W h k x z p = below_is l (p [] h) (ap (act a k) (sym (act_passing l x)))

  -- any word at all bounds the top
  pub tight_blocked : (W : List ℕ → Type 0) (w : List ℕ) → W w → Tight a steps W (blocked a)
  tight_blocked W w h k x z p =
      below_is l (below_trans l (p w h) (act_forced l k (run a steps w x))) (sym (act_top l k) ∙ ap (act a k) (sym (act_blocked l x)))

  pub tight_followed : (W U Z : List ℕ → Type 0) (e f : Effect G V) → Tight a steps W e → Tight a steps U f → ((w u : List ℕ) → W w → U u → Z (w ++ u))
      → Tight a steps Z (followed a e f)
  tight_followed W U Z e f s t h k x z p =
      let inner : (w : List ℕ) → W w → Below a z (act a k (act a f (run a steps w x))) =
      λ w hw. t k (run a steps w x) z (λ u hu. below_is l (p (w ++ u) (h w u hw hu)) (ap (act a k) (run_append l steps w u x))) in
      let outer : Below a z (act a (followed a f k) (act a e x)) =
      s (followed a f k) x z (λ w hw. below_is l (inner w hw) (sym (act_followed l f k (run a steps w x)))) in
      below_is l outer (act_followed l f k (act a e x) ∙ ap (act a k) (sym (act_followed l e f x)))

  pub tight_either : (W : List ℕ → Type 0) (e f : Effect G V) → Tight a steps W e → Tight a steps W f → Tight a steps W (either_way a e f)
  tight_either W e f s t k x z p = below_is l (below_act_meet l k (s k x z p) (t k x z p)) (ap (act a k) (sym (act_either l e f x)))

  -- both orders of two words are shuffles
  pub tight_beside : (W U Z : List ℕ → Type 0) (e f : Effect G V) → Tight a steps W e → Tight a steps U f → ((w u s : List ℕ) → W w → U u → Shuffle w u s → Z s)
      → Tight a steps Z (beside a e f)
  tight_beside W U Z e f s t h k x z p =
      let one : Below a z (act a k (act a (followed a e f) x)) = tight_followed W U Z e f s t (λ w u hw hu. h w u (w ++ u) hw hu (shuffle_append w u)) k x z p in
      let two : Below a z (act a k (act a (followed a f e) x)) = tight_followed U W Z f e t s (λ u w hu hw. h w u (u ++ w) hw hu (shuffle_turn (shuffle_append u w))) k x z p in
      below_trans l (below_act_meet l k one two) (act_mono l k (beside_orders l e f x))

  -- over a larger set
  pub tight_more : (W U : List ℕ → Type 0) (e : Effect G V) → ((w : List ℕ) → W w → U w) → Tight a steps W e → Tight a steps U e
  tight_more W U e h s k x z p = s k x z (λ w hw. p w (h w hw))

  -- below the words, and tight: so the meet
  pub tight_meet : (W : List ℕ → Type 0) (e : Effect G V) → ((w : List ℕ) → W w → (x : V) → Below a (act a e x) (run a steps w x)) → Tight a steps W e
      → (x : V) → IsMeet a W (λ w. run a steps w x) (act a e x)
  tight_meet W e low tight x = record {
    lower = λ w h. low w h x;
    greatest = λ z p. below_is l (tight (passing a) x z (λ w h. below_is l (p w h) (sym (act_passing l _)))) (act_passing l _);
  }
