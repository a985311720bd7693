-- The number of an expression that a node computes.
use Rattle.std.proofs.Common.{◌≡◌, ℕ, zero, suc, ◌<◌, true, ◌||◌, List, [], ◌∷◌, length, get_or, is_some, Some, refl, ap, ◌∙◌, arith}
use Rattle.std.proofs.lemmas.Bool.{or_left, or_right}
use Rattle.std.proofs.lemmas.List.Folds.{list_any-append}
use Rattle.std.proofs.lemmas.List.Quantifiers.{position-Some}
use Rattle.std.proofs.lemmas.Option.{slice_get-get_or}
use Rattle.std.specs.List.{slice_get}
use Rattle.plan.specs.declared.node.Node.{Node}
use Rattle.expressions.specs.declared.expression.Expression.{Expression}
use Rattle.expressions.specs.Expressions.{same, holds, place, as_list, computed_by, all_computed, distinct, expressions}
use Rattle.expressions.proofs.Places.{same_true, some_place}
use Rattle.expressions.proofs.Numbered.{holds_beside}
use Rattle.report.proofs.AvailableBits.{of_made}

-- ---- where it stands

pub record Stands (e : Expression) (es : List Expression) (i : ℕ) : Type 0 where
  pub there : slice_get es i ≡ Some e
  pub within : i < length es

pub place_stands : (e : Expression) (es : List Expression) (i : ℕ) → place e es ≡ Some i → Stands e es i
place_stands e es i h =
    let first = position-Some (λ f. same f e) es i e h in
    record { there = slice_get-get_or es i e first.0 ∙ ap Some (same_true (get_or es i e) e first.1); within = first.0 }

-- ---- that it stands there

holds_distinct : (e : Expression) (es : List Expression) → holds e (distinct es) ≡ holds e es
holds_distinct e [] = refl
holds_distinct e (f ∷ es) = holds_beside f e (distinct es) ∙ ap (λ b. same f e || b) (holds_distinct e es)

holds_computed : (e : Expression) (ns : List Node) (n : ℕ) (d : Node) → n < length ns → computed_by (get_or ns n d) ≡ Some e → holds e (all_computed ns) ≡ true
holds_computed e [] n d h is = absurd (omega arith)
holds_computed e (x ∷ ns) zero d h is = list_any-append (λ f. same f e) (as_list (computed_by x)) (all_computed ns) ∙ or_left _ _ (of_made e (computed_by x) is)
holds_computed e (x ∷ ns) (suc n) d h is = list_any-append (λ f. same f e) (as_list (computed_by x)) (all_computed ns) ∙ or_right _ _ (holds_computed e ns n d (omega arith) is)

-- every expression that a node computes has a place
pub computed_placed : (e : Expression) (ns : List Node) (n : ℕ) (d : Node) → n < length ns → computed_by (get_or ns n d) ≡ Some e → is_some (place e (expressions ns)) ≡ true
computed_placed e ns n d h is = some_place e (expressions ns) ∙ holds_distinct e (all_computed ns) ∙ holds_computed e ns n d h is
