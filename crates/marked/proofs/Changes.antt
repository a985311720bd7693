-- What words do to one bit, which each step of a plan makes 0, or else may make 1.
--   Change    what is sure of the words of a set
--   Does      a word does it
--   below     whether one change says no more than another
--   lower     what is sure of the words of two sets
--   followed  words of one set, and then of another
--   beside    words of two sets, interleaved
use Rattle.std.proofs.Common.{◌≡◌, ℕ, Bool, true, false, cond, not, ◌&&◌, ◌||◌, List, [], ◌∷◌, ◌++◌, refl, inl, inr}
use Prim.{Unit}
use borrow.Author.Tests.{clash}
use Rattle.std.proofs.lemmas.Bool.{and_from, and_parts, or_left, or_right}
use Rattle.runs.specs.Words.{Shuffle, Shuffle.none, Shuffle.left, Shuffle.right}
use Rattle.runs.proofs.Lists.{All}
use Rattle.runs.proofs.Shuffles.{shuffle_append}
use Rattle.report.proofs.Bitwise.{becomes, becomes_one, becomes_from, along}

pub data Change : Type 0 where
  -- nothing is sure: the bit may be 0 behind the word
  loses : Change
  -- the bit is 1 behind the word, if it is x or more before it
  sure : Bool → Change
  -- there is no such word
  never : Change

abbrev pub keeps : Change
keeps = sure true

abbrev pub gains : Change
gains = sure false

abbrev pub below : Change → Change → Bool
below loses f = true
below (sure x) loses = false
below (sure x) (sure y) = not y || x
below (sure x) never = true
below never loses = false
below never (sure y) = false
below never never = true

abbrev pub lower : Change → Change → Change
lower loses f = loses
lower (sure x) loses = loses
lower (sure x) (sure y) = sure (x || y)
lower (sure x) never = sure x
lower never f = f

abbrev pub followed : Change → Change → Change
followed loses loses = loses
followed loses (sure true) = loses
followed loses (sure false) = gains
followed loses never = never
followed (sure x) loses = loses
followed (sure x) (sure y) = sure (x && y)
followed (sure x) never = never
followed never f = never

abbrev pub beside : Change → Change → Change
beside loses loses = loses
beside loses (sure y) = loses
beside loses never = never
beside (sure x) loses = loses
beside (sure x) (sure y) = sure (x && y)
beside (sure x) never = never
beside never f = never

-- what a step does
abbrev pub step_change : Bool → Bool → Change
step_change zeroed raised = cond zeroed loses (cond raised gains keeps)

implied : (x y : Bool) → (not y || x) ≡ true → y ≡ true → x ≡ true
implied x true h e = h
implied x false h e = absurd (clash e)

module _ (zeroed raised : ℕ → Bool) where
  abbrev pub Does : Change → List ℕ → Type 0
  Does loses w = Unit {0}
  Does (sure x) w = along zeroed raised w x ≡ true
  Does never w = ⊥

  -- a bit that is no less before leaves no less behind

  becomes_more : (n : ℕ) (x y : Bool) → (x ≡ true → y ≡ true) → becomes (zeroed n) (raised n) x ≡ true → becomes (zeroed n) (raised n) y ≡ true
  becomes_more n x y more h =
      let t = becomes_from (zeroed n) (raised n) x h in
      becomes_one (zeroed n) (raised n) y t.0 (elim t.1 [ inl e ↦ inl (more e) | inr e ↦ inr e ])

  along_more : (w : List ℕ) (x y : Bool) → (x ≡ true → y ≡ true) → along zeroed raised w x ≡ true → along zeroed raised w y ≡ true
  along_more [] x y more h = more h
  along_more (n ∷ w) x y more h = along_more w (becomes (zeroed n) (raised n) x) (becomes (zeroed n) (raised n) y) (becomes_more n x y more) h

  -- a word that makes the bit 1 does so behind any other
  along_behind : (w v : List ℕ) (x : Bool) → along zeroed raised v false ≡ true → along zeroed raised (w ++ v) x ≡ true
  along_behind [] v x h = along_more v false x (λ e. absurd (clash e)) h
  along_behind (n ∷ w) v x h = along_behind w v (becomes (zeroed n) (raised n) x) h

  along_shuffle : {u v s : List ℕ} → Shuffle u v s → (x y : Bool) → along zeroed raised u x ≡ true → along zeroed raised v y ≡ true → along zeroed raised s (x && y) ≡ true
  along_shuffle none x y h k = and_from x y h k
  along_shuffle (left {n = n} {w = s} m) x y h k =
      along_more s (becomes (zeroed n) (raised n) x && y) (becomes (zeroed n) (raised n) (x && y)) (λ e.
      let t = and_parts (becomes (zeroed n) (raised n) x) y e in becomes_more n x (x && y) (λ i. and_from x y i t.1) t.0)
      (along_shuffle m (becomes (zeroed n) (raised n) x) y h k)
  along_shuffle (right {n = n} {w = s} m) x y h k =
      along_more s (x && becomes (zeroed n) (raised n) y) (becomes (zeroed n) (raised n) (x && y)) (λ e.
      let t = and_parts x (becomes (zeroed n) (raised n) y) e in becomes_more n y (x && y) (λ i. and_from x y t.0 i) t.1)
      (along_shuffle m x (becomes (zeroed n) (raised n) y) h k)

  -- a word without a step that makes the bit 0
  along_spared : {w : List ℕ} → All (λ n. zeroed n ≡ false) w → (x : Bool) → x ≡ true → along zeroed raised w x ≡ true
  along_spared All.none x e = e
  along_spared (All.more {n = n} h hs) x e = along_spared hs (becomes (zeroed n) (raised n) x) (becomes_one (zeroed n) (raised n) x h (inl e))

  -- ---- changes

  pub does_below : (e f : Change) (w : List ℕ) → below e f ≡ true → Does f w → Does e w
  does_below loses f w b h = tt
  does_below (sure x) loses w b h = absurd (clash b)
  does_below (sure x) (sure y) w b h = along_more w y x (implied x y b) h
  does_below (sure x) never w b h = absurd h
  does_below never loses w b h = absurd (clash b)
  does_below never (sure y) w b h = absurd (clash b)
  does_below never never w b h = h

  pub does_left : (e f : Change) (w : List ℕ) → Does e w → Does (lower e f) w
  does_left loses f w h = tt
  does_left (sure x) loses w h = tt
  does_left (sure x) (sure y) w h = along_more w x (x || y) (or_left x y) h
  does_left (sure x) never w h = h
  does_left never f w h = absurd h

  pub does_right : (e f : Change) (w : List ℕ) → Does f w → Does (lower e f) w
  does_right loses f w h = tt
  does_right (sure x) loses w h = tt
  does_right (sure x) (sure y) w h = along_more w y (x || y) (or_right x y) h
  does_right (sure x) never w h = absurd h
  does_right never f w h = h

  pub does_followed : (e f : Change) (w v : List ℕ) → Does e w → Does f v → Does (followed e f) (w ++ v)
  does_followed loses loses w v h k = tt
  does_followed loses (sure true) w v h k = tt
  does_followed loses (sure false) w v h k = along_behind w v false k
  does_followed loses never w v h k = k
  does_followed (sure x) loses w v h k = tt
  does_followed (sure x) (sure y) w v h k = along_shuffle (shuffle_append w v) x y h k
  does_followed (sure x) never w v h k = k
  does_followed never f w v h k = h

  pub does_beside : (e f : Change) {w v s : List ℕ} → Shuffle w v s → Does e w → Does f v → Does (beside e f) s
  does_beside loses loses m h k = tt
  does_beside loses (sure y) m h k = tt
  does_beside loses never m h k = k
  does_beside (sure x) loses m h k = tt
  does_beside (sure x) (sure y) m h k = along_shuffle m x y h k
  does_beside (sure x) never m h k = k
  does_beside never f m h k = h

  pub does_step : (n : ℕ) → Does (step_change (zeroed n) (raised n)) (n ∷ [])
  does_step n = go (zeroed n) (raised n) refl refl
    where
      go : (z r : Bool) → zeroed n ≡ z → raised n ≡ r → Does (step_change z r) (n ∷ [])
      go true r e i = tt
      go false true e i = becomes_one (zeroed n) (raised n) false e (inr i)
      go false false e i = becomes_one (zeroed n) (raised n) true e (inl refl)

  pub does_spared : (b : Bool) {w : List ℕ} → (b ≡ true → All (λ n. zeroed n ≡ false) w) → Does (cond b keeps loses) w
  does_spared true h = along_spared (h refl) true refl
  does_spared false h = tt
