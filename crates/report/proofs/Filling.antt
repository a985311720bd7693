-- Slots filled one after another.
use Rattle.std.proofs.Common.{◌≡◌, ℕ, ◌+◌, ◌<◌, ◌⊎◌, List, length, get_or, set, sym, ◌∙◌, subst, inl, inr, arith, length-set, get_or-set_other, get_or-set_same}
use Rattle.std.proofs.lemmas.Bool.{cases_eq}
use Rattle.report.specs.Listing.{Filled}

module _ {X : Type 0} (d : X) (fill : ℕ → X) (start : List X) where
  pub filled_more : (xs : List X) (n : ℕ) (x : X) → n < length start → x ≡ fill n → Filled d fill n start xs → Filled d fill (n + 1) start (set xs n x)
  filled_more xs n x h is s = record {
    front = λ k l. at k l (cases_eq k n);
    kept = record {
      rest = λ k t l. get_or-set_other xs n k x t (λ same. omega (arith, l, same)) ∙ s.kept.rest k t (omega (arith, l));
      long = length-set xs n x ∙ s.kept.long;
    };
  }
    where
      at : (k : ℕ) → k < n + 1 → ((k ≡ n) ⊎ (k ≡ n → ⊥)) → get_or (set xs n x) k d ≡ fill k
      at k l (inl same) = subst (λ (i : ℕ). get_or (set xs n x) i d ≡ fill i) (sym same) (get_or-set_same xs n x d (omega (arith, h, s.kept.long)) ∙ is)
      at k l (inr other) = get_or-set_other xs n k x d other ∙ s.front k (omega (arith, l, other))
