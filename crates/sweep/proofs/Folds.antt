-- Rows taken from the last item to the first.
use Rattle.std.proofs.Common.{◌≡◌, ℕ, zero, suc, ◌+◌, ◌<◌, List, [], ◌∷◌, length, take, drop, refl, ap, ◌∙◌, arith}
use Rattle.std.proofs.lemmas.Grind.{reverse_onto}
use Rattle.std.proofs.lemmas.List.Sums.{fold_push}
use Rattle.std.specs.List.{fold}
use Rattle.std.specs.Prelude.{reverse}
use Rattle.kinds.specs.declared.effect.Effect.{Effect}
use Rattle.kinds.specs.Kinds.{Algebra}
use Rattle.kinds.specs.Effects.{passing, beside}
use Rattle.sweep.specs.Slots.{joint_of}
use Rattle.sweep.specs.Valuing.{met_of, met_but}

-- what each item makes of the result of those after it
abbrev pub back : {A B : Type 0} → (A → B → B) → B → List A → B
back f z [] = z
back f z (x ∷ xs) = f x (back f z xs)

fold_back : {A B : Type 0} (f : A → B → B) (z : B) (xs : List A) → fold (λ all x. f x all) z (reverse xs) ≡ back f z xs
fold_back f z [] = refl
fold_back f z (x ∷ xs) =
    ap (fold (λ all x. f x all) z) (reverse_onto xs x []) ∙ fold_push (λ all x. f x all) z (reverse xs) x ∙ ap (f x) (fold_back f z xs)

module _ {V G : Type 0} (a : Algebra V G) where
  abbrev meet_forced : Effect G V → V → V
  meet_forced e v = a.meet e.forced v

  met_back : (es : List (Effect G V)) → back meet_forced a.top es ≡ met_of a es
  met_back [] = refl
  met_back (e ∷ es) = ap (a.meet e.forced) (met_back es)

  but_back : (es : List (Effect G V)) (i : ℕ) → i < length es → back meet_forced (met_of a (drop (i + 1) es)) (take i es) ≡ met_but a es i
  but_back [] i h = absurd (omega arith)
  but_back (e ∷ es) zero h = refl
  but_back (e ∷ es) (suc i) h =
      let next : suc i + 1 ≡ suc (i + 1) = omega arith in
      ap (λ (k : ℕ). back meet_forced (met_of a (drop k (e ∷ es))) (take (suc i) (e ∷ es))) next ∙ ap (a.meet e.forced) (but_back es i (omega arith))

  joint_back : (es : List (Effect G V)) → back (beside a) (passing a) es ≡ joint_of a es
  joint_back [] = refl
  joint_back (e ∷ es) = ap (beside a e) (joint_back es)

  -- the results of the chains
  pub met_folds : (es : List (Effect G V)) (z v : V) → z ≡ a.top → v ≡ fold (λ (all : V) (e : Effect G V). a.meet e.forced all) z (reverse es) → v ≡ met_of a es
  met_folds es z v is folded = folded ∙ fold_back meet_forced z es ∙ ap (λ (t : V). back meet_forced t es) is ∙ met_back es

  pub but_folds : (es : List (Effect G V)) (i : ℕ) (z v : V) → i < length es → z ≡ met_of a (drop (i + 1) es)
      → v ≡ fold (λ (all : V) (e : Effect G V). a.meet e.forced all) z (reverse (take i es)) → v ≡ met_but a es i
  but_folds es i z v h is folded = folded ∙ fold_back meet_forced z (take i es) ∙ ap (λ (t : V). back meet_forced t (take i es)) is ∙ but_back es i h

  pub joint_folds : (es : List (Effect G V)) (z f : Effect G V) → z ≡ passing a → f ≡ fold (λ (all e : Effect G V). beside a e all) z (reverse es) → f ≡ joint_of a es
  joint_folds es z f is folded = folded ∙ fold_back (beside a) z es ∙ ap (λ (t : Effect G V). back (beside a) t es) is ∙ joint_back es
