-- Reading and writing undo each other.
use Rattle.std.proofs.Common.{◌≡◌, ℕ, List, take, drop, ℤ, Ok, Err, Result, sym, refl, ap, ◌∙◌, subst, arith, w32, SFits}
use Rattle.refusals.specs.declared.refusal.Refusal.{Refusal}
use Rattle.std.proofs.lemmas.List.{take_at}
use Rattle.tenths.specs.Text.{text_of, Writes, Reads, Inverse}
use Rattle.tenths.proofs.Signs.{same_text}

-- the text of a number is read as no other, and not refused
read_of_text : (n : ℤ) → SFits w32 n → (r : Result ℤ Refusal) → Reads (text_of n) r → r ≡ Ok n
read_of_text n fits (Ok m) got = let small = got.0 in ap Ok (same_text m n (omega arith) (omega arith) (sym got.1))
read_of_text n fits (Err e) got = absurd (got.1 n fits refl)

-- what is written is the text
written : (n : ℤ) (before after : List ℕ) (k : ℕ) → Writes n before after (Ok k) → take k after ≡ text_of n
written n before after k wrote = ap (take k) wrote.2 ∙ take_at (text_of n) (drop k before) k (sym wrote.1)

-- each undoes the other
pub inverse : Inverse
inverse = (
  λ n fits r. (
    read_of_text n fits r,
    λ before after k wrote got. read_of_text n fits r (subst (λ (text : List ℕ). Reads text r) (written n before after k wrote) got),
  ),
  λ text n got. (sym got.1, λ before after k wrote. written n before after k wrote ∙ sym got.1),
)
