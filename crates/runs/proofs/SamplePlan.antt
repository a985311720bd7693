-- The sample plan is sound and whole.
use Rattle.std.proofs.Common.{◌≡◌, ℕ, zero, suc, ◌<◌, List, [], ◌∷◌, Some, None, sym, refl, ap, subst, subst₂, arith, lit<}
use Rattle.std.proofs.lemmas.Bool.{true≢false}
use Rattle.plan.specs.declared.node.Node.TheVariants.{Fork}
use Rattle.plan.specs.declared.node.Ends.{Ends}
use Rattle.plan.specs.declared.node.Direction.{Direction}
use Rattle.plan.specs.declared.node.Direction.TheVariants.{Forward, Backward}
use Rattle.plan.specs.Drawn.{node_at, arc_at, ends_at, region_of, Lies, Joins, regions_before, Sound}
use Rattle.plan.specs.Paths.{first_in, Leads, Path.stay, Path.go, Reached, Leaves, Whole, last_in}
use Rattle.runs.specs.Words.{Forks}
use Rattle.runs.specs.Scheme.{Pick}
use Rattle.runs.specs.Sample.{sample}

sample_placed : (n : ℕ) → n < 4 → region_of (node_at sample n) < regions_before sample n
sample_placed zero h = lit< tt
sample_placed (suc zero) h = lit< tt
sample_placed (suc (suc zero)) h = lit< tt
sample_placed (suc (suc (suc zero))) h = lit< tt
sample_placed (suc (suc (suc (suc n)))) h = absurd (omega arith)

sample_forked : (n r b k : ℕ) → n < 4 → node_at sample n ≡ Fork r b k → b ≡ regions_before sample n
sample_forked zero r b k h e = cc
sample_forked (suc zero) r b k h e = cc
sample_forked (suc (suc zero)) r b k h e = cc
sample_forked (suc (suc (suc zero))) r b k h e = cc
sample_forked (suc (suc (suc (suc n)))) r b k h e = absurd (omega arith)

sample_joined : (k : ℕ) → k < 2 → Joins sample (arc_at sample k)
sample_joined zero h = (lit< tt, lit< tt, refl)
sample_joined (suc zero) h = (lit< tt, lit< tt, refl)
sample_joined (suc (suc k)) h = absurd (omega arith)

-- the ends of each region
pub sample_ends : (Q : ℕ → Ends → Type 0) → Q 0 (record { first = 0; last = 1 }) → Q 1 (record { first = 2; last = 2 }) → Q 2 (record { first = 3; last = 3 })
    → (r : ℕ) (e : Ends) → ends_at sample r ≡ Some e → Q r e
sample_ends Q q₀ q₁ q₂ zero e is = let at : record { first = 0; last = 1 } ≡ e = cc in subst (Q 0) at q₀
sample_ends Q q₀ q₁ q₂ (suc zero) e is = let at : record { first = 2; last = 2 } ≡ e = cc in subst (Q 1) at q₁
sample_ends Q q₀ q₁ q₂ (suc (suc zero)) e is = let at : record { first = 3; last = 3 } ≡ e = cc in subst (Q 2) at q₂
sample_ends Q q₀ q₁ q₂ (suc (suc (suc r))) e is = let z : ◌≡◌ {A = ℕ} 0 1 = cc in absurd (omega arith)

pub sample_sound : Sound sample
sample_sound = record {
  counted = refl;
  placed = sample_placed;
  forked = sample_forked;
  joined = sample_joined;
  bounded = sample_ends (λ r e. Lies sample r e.first × Lies sample r e.last)
      ((lit< tt, refl), (lit< tt, refl)) ((lit< tt, refl), (lit< tt, refl)) ((lit< tt, refl), (lit< tt, refl));
}

sample_reached : (n : ℕ) → n < 4 → Reached sample Forward n
sample_reached zero h = (_, refl, stay)
sample_reached (suc zero) h = (_, refl, go stay (0, lit< tt, refl))
sample_reached (suc (suc zero)) h = (_, refl, stay)
sample_reached (suc (suc (suc zero))) h = (_, refl, stay)
sample_reached (suc (suc (suc (suc n)))) h = absurd (omega arith)

sample_leaves : (n : ℕ) → n < 4 → Leaves sample n
sample_leaves zero h = (_, refl, go stay (0, lit< tt, refl))
sample_leaves (suc zero) h = (_, refl, stay)
sample_leaves (suc (suc zero)) h = (_, refl, stay)
sample_leaves (suc (suc (suc zero))) h = (_, refl, stay)
sample_leaves (suc (suc (suc (suc n)))) h = absurd (omega arith)

sample_ended : (r : ℕ) → r < 3 → ends_at sample r ≡ None → ⊥
sample_ended zero h e = let z : ◌≡◌ {A = ℕ} 0 1 = cc in omega arith
sample_ended (suc zero) h e = let z : ◌≡◌ {A = ℕ} 0 1 = cc in omega arith
sample_ended (suc (suc zero)) h e = let z : ◌≡◌ {A = ℕ} 0 1 = cc in omega arith
sample_ended (suc (suc (suc r))) h e = omega arith

pub sample_whole : Whole sample
sample_whole = record { ended = sample_ended; reached = sample_reached; leaves = sample_leaves }

-- What there is in the sample plan, case by case.

pub lies_0 : (Q : ℕ → Type 0) → Q 0 → Q 1 → (n : ℕ) → Lies sample 0 n → Q n
lies_0 Q q₀ q₁ zero h = q₀
lies_0 Q q₀ q₁ (suc zero) h = q₁
lies_0 Q q₀ q₁ (suc (suc zero)) h = absurd (omega arith)
lies_0 Q q₀ q₁ (suc (suc (suc zero))) h = absurd (omega arith)
lies_0 Q q₀ q₁ (suc (suc (suc (suc n)))) h = absurd (omega arith)

pub lies_1 : (Q : ℕ → Type 0) → Q 2 → (n : ℕ) → Lies sample 1 n → Q n
lies_1 Q q zero h = absurd (omega arith)
lies_1 Q q (suc zero) h = absurd (omega arith)
lies_1 Q q (suc (suc zero)) h = q
lies_1 Q q (suc (suc (suc zero))) h = absurd (omega arith)
lies_1 Q q (suc (suc (suc (suc n)))) h = absurd (omega arith)

pub lies_2 : (Q : ℕ → Type 0) → Q 3 → (n : ℕ) → Lies sample 2 n → Q n
lies_2 Q q zero h = absurd (omega arith)
lies_2 Q q (suc zero) h = absurd (omega arith)
lies_2 Q q (suc (suc zero)) h = absurd (omega arith)
lies_2 Q q (suc (suc (suc zero))) h = q
lies_2 Q q (suc (suc (suc (suc n)))) h = absurd (omega arith)

pub sample_regions : (Q : ℕ → Type 0) → Q 0 → Q 1 → Q 2 → (r : ℕ) → r < 3 → Q r
sample_regions Q q₀ q₁ q₂ zero h = q₀
sample_regions Q q₀ q₁ q₂ (suc zero) h = q₁
sample_regions Q q₀ q₁ q₂ (suc (suc zero)) h = q₂
sample_regions Q q₀ q₁ q₂ (suc (suc (suc r))) h = absurd (omega arith)

-- the two arcs
pub sample_arcs : (d : Direction) (Q : ℕ → ℕ → Type 0) → Q (first_in d (record { first = 0; last = 1 })) (last_in d (record { first = 0; last = 1 })) → Q 2 2
    → (m n : ℕ) → Leads sample d m n → Q m n
sample_arcs Forward Q q₀ q₁ m n (zero, h, e) = subst₂ Q (ap (λ x. x.from) e) (ap (λ x. x.to) e) q₀
sample_arcs Backward Q q₀ q₁ m n (zero, h, e) = subst₂ Q (ap (λ x. x.from) e) (ap (λ x. x.to) e) q₀
sample_arcs Forward Q q₀ q₁ m n (suc zero, h, e) = subst₂ Q (ap (λ x. x.from) e) (ap (λ x. x.to) e) q₁
sample_arcs Backward Q q₀ q₁ m n (suc zero, h, e) = subst₂ Q (ap (λ x. x.from) e) (ap (λ x. x.to) e) q₁
sample_arcs Forward Q q₀ q₁ m n (suc (suc k), h, e) = absurd (omega arith)
sample_arcs Backward Q q₀ q₁ m n (suc (suc k), h, e) = absurd (omega arith)

-- the two branches, each with the other
pub sample_branches : (Q : ℕ → ℕ → List ℕ → Type 0) → Q 1 1 (2 ∷ []) → Q 1 2 (1 ∷ []) → (f q : ℕ) (qs rs : List ℕ) → Forks sample f qs → Pick q qs rs → Q f q rs
sample_branches Q q₁ q₂ f q qs rs forks pick = at_fork f forks
  where
    two : (q : ℕ) (rs : List ℕ) → Pick q (1 ∷ 2 ∷ []) rs → Q 1 q rs
    two q rs Pick.here = q₁
    two q rs (Pick.there Pick.here) = q₂
    two q rs (Pick.there (Pick.there k)) = elim k [ ]

    at_fork : (f : ℕ) → Forks sample f qs → Q f q rs
    at_fork zero h = absurd (true≢false (sym h.1))
    at_fork (suc zero) h = two q rs (subst (λ (os : List ℕ). Pick q os rs) (sym h.2) pick)
    at_fork (suc (suc zero)) h = absurd (true≢false (sym h.1))
    at_fork (suc (suc (suc zero))) h = absurd (true≢false (sym h.1))
    at_fork (suc (suc (suc (suc n)))) h = absurd (omega arith)
