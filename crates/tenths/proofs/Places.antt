-- Bytes put before others at the end of a list.
use Rattle.std.proofs.Common.{◌≡◌, ℕ, ◌-◌, ◌≤◌, List, [], ◌∷◌, length, drop, set, ap, ◌∙◌, arith, length-set}
use Rattle.std.proofs.lemmas.List.{drop-set, drop_all}

-- a byte put just before a place stands before what was there
pub put_before : (bytes : List ℕ) (at b : ℕ) → 1 ≤ at → at ≤ length bytes → drop (at - 1) (set bytes (at - 1) b) ≡ b ∷ drop at bytes
put_before bytes at b some within = drop-set bytes (at - 1) b (omega arith) ∙ ap (λ (k : ℕ). b ∷ drop k bytes) (omega arith)

-- two bytes put at the end of twelve
pub put_last_two : (bytes : List ℕ) (a b : ℕ) → length bytes ≡ 12 → drop 10 (set (set bytes 11 b) 10 a) ≡ a ∷ b ∷ []
put_last_two bytes a b twelve =
    put_before (set bytes 11 b) 11 a (omega arith) (simp length-set (omega arith))
    ∙ ap (λ (xs : List ℕ). a ∷ xs) (put_before bytes 12 b (omega arith) (omega arith) ∙ ap (λ (xs : List ℕ). b ∷ xs) (drop_all 12 bytes (omega arith)))
