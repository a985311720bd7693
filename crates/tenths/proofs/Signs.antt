-- The text of a number, by its sign.
use Rattle.std.proofs.Common.{◌≡◌, ◌≢◌, ℕ, zero, suc, ◌^◌, ◌<◌, List, ◌∷◌, get_or, drop, slice_index, Some, None, MatchOption, Option, ℤ, pos, negsuc, neg_ℤ, Ok, Err, Result, sym, refl, ap, ◌∙◌, subst, arith, w32, SFits}
use lib.Signed.{mag}
use Rattle.std.specs.Result.{OkIff, result_ok}
use Rattle.std.specs.Option.{ok_or}
use Rattle.refusals.specs.declared.refusal.Refusal.TheVariants.{NotTenths}
use Rattle.tenths.specs.Scan.{largest_size, Spelt, Named}
use Rattle.tenths.specs.Text.{size_text, text_of, Reads}
use Rattle.tenths.proofs.Sizes.{same_size, size_no_minus}

-- a text after a minus is that of no number from zero
pub minus_below_zero : (n : ℕ) (rest : List ℕ) → n < 2 ^ 64 → 45 ∷ rest ≡ size_text n → ⊥
minus_below_zero n rest fits is = size_no_minus n fits (ap (λ (xs : List ℕ). get_or xs 0 0) (sym is))

-- the text of a number has one number
pub same_text : (m n : ℤ) → mag m < 2 ^ 63 → mag n < 2 ^ 63 → text_of m ≡ text_of n → m ≡ n
same_text (pos m) (pos n) fits-m fits-n is = ap pos (same_size m n (omega arith) (omega arith) is)
same_text (pos m) (negsuc n) fits-m fits-n is = absurd (minus_below_zero m (size_text (suc n)) (omega arith) (sym is))
same_text (negsuc m) (pos n) fits-m fits-n is = absurd (minus_below_zero n (size_text (suc m)) (omega arith) is)
same_text (negsuc m) (negsuc n) fits-m fits-n is =
    let same = same_size (suc m) (suc n) (omega arith) (omega arith) (ap (drop 1) is) in
    ap negsuc (omega (arith, same))

-- a minus before a size other than 0 makes the number below zero
pub minus_size : (size : ℕ) → (size ≡ 0 → ⊥) → size < 2 ^ 32 → (45 ∷ size_text size ≡ text_of (neg_ℤ (pos size))) × (mag (neg_ℤ (pos size)) < 2 ^ 63)
minus_size zero some fits = absurd (some refl)
minus_size (suc n) some fits = (refl, omega arith)

-- a minus before 0 makes none
pub minus_zero : (n : ℤ) → SFits w32 n → 45 ∷ size_text 0 ≡ text_of n → ⊥
minus_zero (pos n) fits is = minus_below_zero n (size_text 0) (omega arith) is
minus_zero (negsuc n) fits is = omega (arith, same_size 0 (suc n) (omega arith) (omega arith) (ap (drop 1) is))

-- a number's text is that of the number if it fits, and else of none
pub named_if_fits : {E : Type 0} (text : List ℕ) (z x : ℤ) (got : Result ℤ E) → mag z < 2 ^ 63 → text ≡ text_of z → x ≡ z → OkIff got (SFits w32 x) x
    → Named text (result_ok got)
named_if_fits text z x (Ok y) bound is at got = (subst (SFits w32) (sym got.1) got.0, is ∙ ap text_of (sym (got.1 ∙ at)))
named_if_fits text z x (Err e) bound is at got =
    λ n fits other. got (subst (SFits w32) (same_text n z (omega arith) bound (sym other ∙ is) ∙ sym at) fits)

-- a text behind a minus is that of no number where it is that of no size
none_below : (rest : List ℕ) → Spelt size_text largest_size rest None → (n : ℤ) → SFits w32 n → 45 ∷ rest ≡ text_of n → ⊥
none_below rest none (pos n) fits is = minus_below_zero n rest (omega arith) is
none_below rest none (negsuc n) fits is = none (suc n) (omega arith) (ap (drop 1) is)

-- and so is a text with no minus in front
none_from : (text : List ℕ) → slice_index text 0 ≢ 45 → Spelt size_text largest_size text None → (n : ℤ) → SFits w32 n → text ≡ text_of n → ⊥
none_from text plain none (pos n) fits is = none n (omega arith) is
none_from text plain none (negsuc n) fits is = plain (ap (λ (xs : List ℕ). get_or xs 0 0) is)

-- a text behind a minus has the number of its size below zero
pub named_below : (rest : List ℕ) (size : Option ℕ) (r : Option ℤ) → Spelt size_text largest_size rest size
    → MatchOption size (r ≡ None) (λ n. Named (45 ∷ size_text n) r) → Named (45 ∷ rest) r
named_below rest (Some n) r spelt named = subst (λ (text : List ℕ). Named (45 ∷ text) r) (sym spelt.1) named
named_below rest None r spelt named = subst (Named (45 ∷ rest)) (sym named) (none_below rest spelt)

-- and a text with no minus in front has that of its size
pub named_from : (text : List ℕ) (size : Option ℕ) (r : Option ℤ) → slice_index text 0 ≢ 45 → Spelt size_text largest_size text size
    → MatchOption size (r ≡ None) (λ n. Named (size_text n) r) → Named text r
named_from text (Some n) r plain spelt named = subst (λ (xs : List ℕ). Named xs r) (sym spelt.1) named
named_from text None r plain spelt named = subst (Named text) (sym named) (none_from text plain spelt)

-- and so it is read
pub reads_named : (text : List ℕ) (r : Option ℤ) → Named text r → Reads text (ok_or r NotTenths)
reads_named text (Some n) named = named
reads_named text None named = (refl, named)
