-- A buffer whose front was filled.
use Rattle.std.proofs.Common.{◌≡◌, ℕ, ◌+◌, ◌-◌, ◌<◌, ◌≤◌, List, ◌++◌, length, get_or, take, drop, ap, ◌∙◌, arith, length-append, length-drop}
use Rattle.std.proofs.lemmas.List.{length-take-le, get_or_append_left, get_or-append-add, get_or-drop}
use Rattle.sweep.specs.Swept.{KeptFrom}

module _ {X : Type 0} (part before : List X) (m n : ℕ) (is : m ≡ n) (long : length part ≡ length (take m before)) (room : n ≤ length before) where
  filled : length part ≡ n
  filled = long ∙ length-take-le m before (omega (arith, is, room)) ∙ is

  pub front_at : (k : ℕ) (t : X) → k < n → get_or (part ++ drop m before) k t ≡ get_or part k t
  front_at k t h = get_or_append_left part (drop m before) t k (omega (arith, h, filled))

  pub kept_from : KeptFrom n before (part ++ drop m before)
  kept_from = record {
    rest = λ k x h.
        let at : k ≡ length part + (k - n) = omega (arith, h, filled) in
        ap (λ (i : ℕ). get_or (part ++ drop m before) i x) at ∙ get_or-append-add part (drop m before) (k - n) x ∙ get_or-drop m before (k - n) x
        ∙ ap (λ (i : ℕ). get_or before i x) (omega (arith, h, is));
    long = length-append part (drop m before) ∙ omega (arith, length-drop m before, is, filled, room);
  }
