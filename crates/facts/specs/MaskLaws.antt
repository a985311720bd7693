-- The laws of facts of 64 bits at once, bit by bit.
use Rattle.std.specs.Prelude.{◌≡◌, ℕ, zero, suc, ◌-◌, ◌/◌, ◌%◌, ◌^◌, ◌<◌, Bool, true, false, not, ◌&&◌, ◌||◌, ◌⊎◌, ◌==◌, count_ones, refl}
use Rattle.std.proofs.Common.{sym, ap, ◌∙◌, inl, inr, ⊎_elim, pow-suc, arith}
use Rattle.std.proofs.Math.Bool.{and_assoc, and_comm, and_self, and-true, or-true, or-false, or-and_distrib_right}
use Rattle.std.specs.Int.Count.{ones_step}
use Rattle.std.proofs.lemmas.Nat.{ones-le}
use Rattle.std.proofs.lemmas.Bool.{and_parts, or_left}
use Rattle.std.proofs.lemmas.Bool.Decides.{nat_tests}
use Rattle.plan.specs.declared.statement.Statement.{Statement}
use Rattle.bitset.specs.declared.bits.Bits.{Bits}
use Rattle.kinds.specs.declared.effect.Effect.{Effect}
use Rattle.bitset.specs.Bits.{bit, both, any, turned}
use Rattle.kinds.specs.Kinds.{Laws}
use Rattle.facts.specs.Masks.{masked, bitwise}
use Rattle.bitset.proofs.Digits.{same_word, same_bits, bit_from, from_bits}

-- ---- laws of one bit

pass_series : (g h x : Bool) → (x || not (g && h)) ≡ ((x || not g) || not h)
pass_series g h true = refl
pass_series true h false = refl
pass_series false h false = refl

pass_swap : (g h x : Bool) → ((x || not g) || not h) ≡ ((x || not h) || not g)
pass_swap g h true = refl
pass_swap true true false = refl
pass_swap true false false = refl
pass_swap false true false = refl
pass_swap false false false = refl

pass_either : (g h x : Bool) → (x || not (g || h)) ≡ ((x || not g) && (x || not h))
pass_either g h true = refl
pass_either true h false = refl
pass_either false h false = refl

pass_raises : (g x : Bool) → (x && (x || not g)) ≡ x
pass_raises g true = refl
pass_raises g false = refl

-- ---- the count of ones

low_less : (x y : ℕ) → x < 2 → y < 2 → ((y == 1) ≡ true → (x == 1) ≡ true) → (y ≡ x) ⊎ (y < x)
low_less x y p q e = grind (arith, nat_tests)

-- a number whose bits are all bits of another is that, or has fewer ones
fewer_ones : (k a b : ℕ) → a < 2 ^ k → b < 2 ^ k → ((i : ℕ) → i < k → bit i b ≡ true → bit i a ≡ true) → (b ≡ a) ⊎ (count_ones b < count_ones a)
unfolding bit
fewer_ones zero a b p q e = inl (omega arith)
fewer_ones (suc k) a b p q e =
    elim (fewer_ones k (a / 2) (b / 2) (omega (arith, pow-suc 2 k)) (omega (arith, pow-suc 2 k)) (λ i h. e (suc i) (omega arith))) [
      | inl f ↦ same_high f (low_less (a % 2) (b % 2) (omega arith) (omega arith) (e 0 (omega arith)))
      | inr l ↦ inr (omega (arith, l, ones_step a, ones_step b, low_less (a % 2) (b % 2) (omega arith) (omega arith) (e 0 (omega arith))))
    ]
  where
    same_high : b / 2 ≡ a / 2 → (b % 2 ≡ a % 2) ⊎ (b % 2 < a % 2) → (b ≡ a) ⊎ (count_ones b < count_ones a)
    same_high f (inl l) = inl (omega arith)
    same_high f (inr l) = inr (omega (arith, l, ones_step a, ones_step b, ap count_ones f))

-- ---- words

-- bits of which each is 1 in a word are that word, or have fewer ones
fewer : (x y : Bits) → ((i : ℕ) → i < 64 → bit i y.word ≡ true → bit i x.word ≡ true) → (y ≡ x) ⊎ (count_ones y.word < count_ones x.word)
fewer x y e = ⊎_elim (λ f. inl (same_word y x f)) inr (fewer_ones 64 x.word y.word x.fits y.fits e)

meet_falls : (x y : Bits) → (both x y ≡ x) ⊎ (count_ones (both x y).word < count_ones x.word)
meet_falls x y = fewer x (both x y) (λ i h one. (and_parts _ _ (sym (bit_from _ i h) ∙ one)).0)

either_falls : (g h : Bits) → (any g h ≡ g) ⊎ (64 - count_ones (any g h).word < 64 - count_ones g.word)
either_falls g h =
    ⊎_elim (λ e. inl (sym e)) (λ l. inr (omega (arith, l, ones-le 64 (any g h).word (any g h).fits)))
    (fewer (any g h) g (λ i l one. bit_from _ i l ∙ or_left _ _ one))

-- what passes the mask, as the code computes it
pub masked_by : (g x t r : Bits) → t ≡ turned g → r ≡ any x t → r ≡ masked g x
masked_by g x t r e f = f ∙ ap (any x) e ∙ from_bits _ _ (λ i h. simp bit_from refl)

pub laws : (masks : ℕ → Statement → Effect Bits Bits) → Laws (bitwise masks)
laws masks = record {
  meet_assoc = λ x y z. same_bits _ _ (λ i h. simp bit_from (and_assoc (bit i x.word) (bit i y.word) (bit i z.word)));
  meet_comm = λ x y. same_bits _ _ (λ i h. simp bit_from (and_comm (bit i x.word) (bit i y.word)));
  meet_idem = λ x. same_bits _ _ (λ i h. simp bit_from (and_self (bit i x.word)));
  meet_top = λ x. same_bits _ _ (λ i h. simp bit_from (and-true (bit i x.word)));
  through_open = λ x. same_bits _ _ (λ i h. simp bit_from (or-false (bit i x.word)));
  through_shut = λ x. same_bits _ _ (λ i h. simp bit_from (or-true (bit i x.word)));
  through_top = λ g. same_bits _ _ (λ i h. simp bit_from refl);
  through_series = λ g h x. same_bits _ _ (λ i l. simp bit_from (pass_series (bit i g.word) (bit i h.word) (bit i x.word)));
  through_swap = λ g h x. same_bits _ _ (λ i l. simp bit_from (pass_swap (bit i g.word) (bit i h.word) (bit i x.word)));
  through_either = λ g h x. same_bits _ _ (λ i l. simp bit_from (pass_either (bit i g.word) (bit i h.word) (bit i x.word)));
  through_meet = λ g x y. same_bits _ _ (λ i l. simp bit_from (or-and_distrib_right (bit i x.word) (bit i y.word) (not (bit i g.word))));
  through_raises = λ g x. same_bits _ _ (λ i l. simp bit_from (pass_raises (bit i g.word) (bit i x.word)));
  meet_falls = meet_falls;
  either_falls = either_falls;
}
