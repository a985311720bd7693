-- Words whose bits are cleared one after the other, from the lowest on.
use Rattle.std.proofs.Common.{◌≡◌, ℕ, ◌+◌, ◌<◌, ◌≤◌, Bool, true, false, cond, not, ◌&&◌, ◌||◌, eqb, ltb, ap, ◌∙◌, ap₂, arith}
use Rattle.std.proofs.lemmas.Bool.Decides.{nat_tests}
use Rattle.bitset.specs.declared.bits.Bits.{Bits}
use Rattle.kinds.specs.declared.effect.Effect.{Effect}
use Rattle.bitset.specs.Bits.{bit, bits_from, every, without}
use Rattle.facts.specs.Masks.{setting}
use Rattle.bitset.proofs.Digits.{bit_from, from_bits}

-- below n the bits are those of f, and from n on they are 1
abbrev UpTo : (ℕ → Bool) → ℕ → Bits → Type 0
UpTo f n w = (i : ℕ) → i < 64 → bit i w.word ≡ cond (ltb i n) (f i) true

module _ (f : ℕ → Bool) where
  none_yet : (w : Bits) → w ≡ every → UpTo f 0 w
  none_yet w e i h = ap (λ (x : Bits). bit i x.word) e ∙ bit_from _ i h ∙ grind (arith, nat_tests)

  kept_at : (n : ℕ) (w w' : Bits) → w' ≡ w → f n ≡ true → UpTo f n w → UpTo f (n + 1) w'
  kept_at n w w' e one below i h = ap (λ (x : Bits). bit i x.word) e ∙ below i h ∙ grind (arith, nat_tests)

  cleared_at : (n : ℕ) (w w' : Bits) → w' ≡ without n w → f n ≡ false → UpTo f n w → UpTo f (n + 1) w'
  cleared_at n w w' e zero below i h =
      ap (λ (x : Bits). bit i x.word) e ∙ bit_from _ i h ∙ ap (λ (b : Bool). b && not (eqb i n)) (below i h) ∙ grind (arith, nat_tests)

  all_cleared : (n : ℕ) (w : Bits) → ((i : ℕ) → n ≤ i → f i ≡ true) → UpTo f n w → w ≡ bits_from f
  all_cleared n w past below = from_bits w f (λ i h. below i h ∙ last i)
    where
      last : (i : ℕ) → cond (ltb i n) (f i) true ≡ f i
      last i = let p = past i in grind (arith, nat_tests)

-- A mask and the forced bits, made by going through the places from the lowest on.
module _ (zeroed raised : ℕ → Bool) where
  -- done for the places below n
  pub record SetTo (n : ℕ) (gate forced : Bits) : Type 0 where
    pub masked : UpTo (λ i. not (zeroed i || raised i)) n gate
    pub made : UpTo (λ i. not (zeroed i)) n forced

  pub set_none : (gate forced : Bits) → gate ≡ every → forced ≡ every → SetTo 0 gate forced
  set_none gate forced e f = record { masked = none_yet _ gate e; made = none_yet _ forced f }

  pub set_zeroed : (n : ℕ) (g g' f f' : Bits) → g' ≡ without n g → f' ≡ without n f → zeroed n ≡ true → SetTo n g f → SetTo (n + 1) g' f'
  set_zeroed n g g' f f' eg ef z s =
      record { masked = cleared_at _ n g g' eg (ap (λ (b : Bool). not (b || raised n)) z) s.masked; made = cleared_at _ n f f' ef (ap not z) s.made }

  pub set_raised : (n : ℕ) (g g' f f' : Bits) → g' ≡ without n g → f' ≡ f → zeroed n ≡ false → raised n ≡ true → SetTo n g f → SetTo (n + 1) g' f'
  set_raised n g g' f f' eg ef z o s =
      record { masked = cleared_at _ n g g' eg (ap₂ (λ (a b : Bool). not (a || b)) z o) s.masked; made = kept_at _ n f f' ef (ap not z) s.made }

  pub set_kept : (n : ℕ) (g g' f f' : Bits) → g' ≡ g → f' ≡ f → zeroed n ≡ false → raised n ≡ false → SetTo n g f → SetTo (n + 1) g' f'
  set_kept n g g' f f' eg ef z o s =
      record { masked = kept_at _ n g g' eg (ap₂ (λ (a b : Bool). not (a || b)) z o) s.masked; made = kept_at _ n f f' ef (ap not z) s.made }

  pub set_all : (n : ℕ) (gate forced : Bits) → ((i : ℕ) → n ≤ i → (zeroed i ≡ false) × (raised i ≡ false)) → SetTo n gate forced
      → ◌≡◌ {A = Effect Bits Bits} (record { gate = gate; forced = forced }) (setting zeroed raised)
  set_all n gate forced past s = λ j. record {
    gate = all_cleared _ n gate (λ i h. ap₂ (λ (a b : Bool). not (a || b)) (past i h).0 (past i h).1) s.masked j;
    forced = all_cleared _ n forced (λ i h. ap not (past i h).0) s.made j;
  }
