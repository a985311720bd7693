-- One bit along a word, and in a meet.
use Rattle.std.proofs.Common.{◌≡◌, ℕ, ◌<◌, Bool, true, false, not, ◌&&◌, ◌||◌, eqb, ◌⊎◌, ◌↔◌, List, [], ◌∷◌, ◌++◌, sym, refl, ap, ◌∙◌, ap₂, inl, inr, eq-eqb, eqb-true}
use borrow.Author.Tests.{clash}
use Rattle.plan.specs.declared.statement.Statement.{Statement}
use Rattle.bitset.specs.declared.bits.Bits.{Bits}
use Rattle.kinds.specs.declared.effect.Effect.{Effect}
use Rattle.bitset.specs.Bits.{bit, bits_from, both}
use Rattle.kinds.specs.Effects.{Below, IsMeet}
use Rattle.facts.specs.Masks.{masked, setting, bitwise}
use Rattle.bitset.proofs.Digits.{bit_from, same_bits}
use Rattle.report.specs.Strikes.{Every, Since}

-- a bit behind a step that makes it 0, or else may make it 1
abbrev pub becomes : Bool → Bool → Bool → Bool
becomes zeroed raised x = (x || not (not (zeroed || raised))) && not zeroed

pub setting_bit : (zeroed raised : ℕ → Bool) (x : Bits) (i : ℕ) → i < 64
    → bit i (both (masked (setting zeroed raised).gate x) (setting zeroed raised).forced).word ≡ becomes (zeroed i) (raised i) (bit i x.word)
setting_bit zeroed raised x i h =
    bit_from (λ j. bit j (masked (setting zeroed raised).gate x).word && bit j (setting zeroed raised).forced.word) i h
    ∙ ap₂ ◌&&◌ (bit_from (λ j. bit j x.word || not (bit j (setting zeroed raised).gate.word)) i h
    ∙ ap (λ b. bit i x.word || not b) (bit_from (λ j. not (zeroed j || raised j)) i h)) (bit_from (λ j. not (zeroed j)) i h)

pub becomes_one : (z r x : Bool) → z ≡ false → (x ≡ true) ⊎ (r ≡ true) → becomes z r x ≡ true
becomes_one true r x e h = absurd (clash (sym e))
becomes_one false r true e h = refl
becomes_one false true false e h = refl
becomes_one false false false e h = elim h [ inl t ↦ t | inr t ↦ t ]

pub becomes_from : (z r x : Bool) → becomes z r x ≡ true → (z ≡ false) × ((x ≡ true) ⊎ (r ≡ true))
becomes_from true r true h = absurd (clash h)
becomes_from true true false h = absurd (clash h)
becomes_from true false false h = absurd (clash h)
becomes_from false r true h = (refl, inl refl)
becomes_from false true false h = (refl, inr refl)
becomes_from false false false h = absurd (clash h)

-- ---- along a word

module _ (zeroed raised : ℕ → Bool) where
  abbrev pub along : List ℕ → Bool → Bool
  along [] x = x
  along (n ∷ w) x = along w (becomes (zeroed n) (raised n) x)

  abbrev pub Raises : ℕ → Type 0
  Raises n = raised n ≡ true

  abbrev pub Leaves : ℕ → Type 0
  Leaves n = zeroed n ≡ false

  -- a bit that is 1, and is not made 0, stays
  along_kept : (w : List ℕ) (x : Bool) → x ≡ true → Every Leaves w → along w x ≡ true
  along_kept [] x e h = e
  along_kept (n ∷ w) x e (Every.more h hs) = along_kept w (becomes (zeroed n) (raised n) x) (becomes_one (zeroed n) (raised n) x h (inl e)) hs

  along_since : (u : List ℕ) (m : ℕ) (v : List ℕ) → Raises m → Every Leaves (m ∷ v) → (x : Bool) → along (u ++ (m ∷ v)) x ≡ true
  along_since [] m v r (Every.more h hs) x = along_kept v (becomes (zeroed m) (raised m) x) (becomes_one (zeroed m) (raised m) x h (inr r)) hs
  along_since (n ∷ u) m v r hs x = along_since u m v r hs (becomes (zeroed n) (raised n) x)

  later : {n : ℕ} {w : List ℕ} → Since Raises Leaves w → Since Raises Leaves (n ∷ w)
  later {n} t = record { before = n ∷ t.before; at = t.at; behind = t.behind; cut = ap (λ u. n ∷ u) t.cut; is = t.is; kept = t.kept }

  -- a bit is 1 behind a word if it was 1 and is never made 0, or if it is made 1 and then never 0
  pub along_from : (w : List ℕ) (x : Bool) → along w x ≡ true → ((x ≡ true) × Every Leaves w) ⊎ Since Raises Leaves w
  along_from [] x h = inl (h, Every.none)
  along_from (n ∷ w) x h =
      elim (along_from w (becomes (zeroed n) (raised n) x) h) [
        | inl t ↦
            let b = becomes_from (zeroed n) (raised n) x t.0 in
            elim b.1 [
              | inl one ↦ inl (one, Every.more b.0 t.1)
              | inr r ↦ inr (record { before = []; at = n; behind = w; cut = refl; is = r; kept = Every.more b.0 t.1 })
            ]
        | inr t ↦ inr (later t)
      ]

  pub along_law : (w : List ℕ) (x : Bool) → (along w x ≡ true) ↔ (((x ≡ true) × Every Leaves w) ⊎ Since Raises Leaves w)
  along_law w x = (
    along_from w x,
    λ h. elim h [
      | inl t ↦ along_kept w x t.0 t.1
      | inr t ↦ ap (λ u. along u x) t.cut ∙ along_since t.before t.at t.behind t.is t.kept x
    ],
  )

-- ---- in a meet

both_true : (a b : Bool) → a && b ≡ a → a ≡ true → b ≡ true
both_true true b h e = h
both_true false b h e = absurd (clash e)

kept_alone : (a b : Bool) → (a ≡ true → b ≡ true) → a && b ≡ a
kept_alone true b h = h refl
kept_alone false b h = refl

module _ (masks : ℕ → Statement → Effect Bits Bits) (i : ℕ) (below : i < 64) where
  bit_below : {x y : Bits} → Below (bitwise masks) x y → bit i x.word ≡ true → bit i y.word ≡ true
  bit_below {x} {y} h e = both_true (bit i x.word) (bit i y.word) (sym (bit_from (λ j. bit j x.word && bit j y.word) i below) ∙ ap (λ b. bit i b.word) h.is) e

  -- the word with bit i alone is below whatever has that bit
  abbrev alone : Bits
  alone = bits_from (λ j. eqb j i)

  alone_below : (y : Bits) → bit i y.word ≡ true → Below (bitwise masks) alone y
  alone_below y e = record {
    is = same_bits (both alone y) alone (λ j h.
        bit_from (λ k. bit k alone.word && bit k y.word) j h ∙ ap (λ b. b && bit j y.word) (bit_from (λ k. eqb k i) j h)
        ∙ kept_alone (eqb j i) (bit j y.word) (λ t. ap (λ (k : ℕ). bit k y.word) (eqb-true j i t) ∙ e) ∙ sym (bit_from (λ k. eqb k i) j h));
  }

  -- the meet has the bit if all have it
  pub bit_meet : {X : Type 0} {member : X → Type 0} {value : X → Bits} {v : Bits} → IsMeet (bitwise masks) member value v
      → (bit i v.word ≡ true) ↔ ((x : X) → member x → bit i (value x).word ≡ true)
  bit_meet {v = v} m = (
    λ e x h. bit_below (m.lower x h) e,
    λ h. bit_below (m.greatest alone (λ x k. alone_below _ (h x k))) (bit_from (λ j. eqb j i) i below ∙ eq-eqb i i refl),
  )
