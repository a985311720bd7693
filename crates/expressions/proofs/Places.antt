-- Whether two expressions are one, and whether one is in a list.
use Rattle.std.proofs.Common.{◌≡◌, ℕ, zero, suc, ◌+◌, Bool, true, false, cond, not, ◌||◌, eqb, List, [], ◌∷◌, length, is_some, Some, None, sym, refl, ◌∙◌, arith}
use Rattle.std.specs.Prelude.{nat_lt}
use Rattle.std.specs.List.{list_any, position_or_len}
use Rattle.std.proofs.lemmas.Bool.{and_parts, eqb-true}
use Rattle.std.proofs.lemmas.Bool.Decides.{nat_tests}
use Rattle.expressions.specs.declared.expression.Expression.{Expression}
use Rattle.expressions.specs.declared.expression.Expression.TheVariants.{Probe, Add, Sub, Min, Max}
use Rattle.expressions.specs.Expressions.{parts, same, holds, place}

-- ---- the test of equality

-- the expression of which three numbers are the parts
from_parts : ℕ → ℕ → ℕ → Expression
from_parts zero a b = Probe a
from_parts (suc zero) a b = Add a b
from_parts (suc (suc zero)) a b = Sub a b
from_parts (suc (suc (suc zero))) a b = Min a b
from_parts (suc (suc (suc (suc n)))) a b = Max a b

whole : (e : Expression) → from_parts (parts e).0 (parts e).1 (parts e).2 ≡ e
unfolding from_parts
whole (Probe p) = refl
whole (Add a b) = refl
whole (Sub a b) = refl
whole (Min a b) = refl
whole (Max a b) = refl

pub same_true : (e f : Expression) → same e f ≡ true → e ≡ f
same_true e f t =
    let here = and_parts (eqb (parts e).0 (parts f).0) _ t in
    let rest = and_parts (eqb (parts e).1 (parts f).1) _ here.1 in
    let form = eqb-true (parts e).0 (parts f).0 here.0 in
    let left = eqb-true (parts e).1 (parts f).1 rest.0 in
    let right = eqb-true (parts e).2 (parts f).2 rest.1 in
    sym (whole e) ∙ (λ i. from_parts (form i) (left i) (right i)) ∙ whole f

-- ---- where an expression stands

-- it stands somewhere exactly if it is there
pub some_place : (e : Expression) (es : List Expression) → is_some (place e es) ≡ holds e es
some_place e es = some_if (nat_lt (position_or_len test es) (length es)) (position_or_len test es) ∙ before_end es
  where
    test : Expression → Bool
    test f = same f e

    some_if : (b : Bool) (i : ℕ) → is_some (cond b (Some i) None) ≡ b
    some_if true i = refl
    some_if false i = refl

    one_more : (m n : ℕ) → nat_lt (1 + m) (suc n) ≡ nat_lt m n
    one_more m n = grind (arith, nat_tests)

    none_first : (n : ℕ) → nat_lt 0 (suc n) ≡ true
    none_first n = grind (arith, nat_tests)

    before_end : (es : List Expression) → nat_lt (position_or_len test es) (length es) ≡ list_any test es
    before_end [] = refl
    before_end (f ∷ es) = go (test f) (before_end es)
      where
        go : (b : Bool) → nat_lt (position_or_len test es) (length es) ≡ list_any test es
            → nat_lt (cond (not b) (1 + position_or_len test es) 0) (suc (length es)) ≡ (b || list_any test es)
        go true is = none_first (length es)
        go false is = one_more (position_or_len test es) (length es) ∙ is
