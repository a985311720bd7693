-- Numbering expressions node by node.
use Rattle.std.proofs.Common.{◌≡◌, ℕ, suc, ◌+◌, ◌<◌, ◌≤◌, Bool, true, false, cond, not, ◌||◌, List, [], ◌∷◌, ◌++◌, length, get_or, take, set, Some, None, filter, Option, sym, refl, ap, ◌∙◌, subst, inl, inr, append_assoc, append-nil, add-one, arith, below_more}
use Rattle.std.proofs.lemmas.List.Elements.{filter-append}
use Rattle.std.proofs.lemmas.List.{take_more, take_more_set, length-take-le, length_push}
use Rattle.std.proofs.lemmas.Bool.{cases_Bool, cond-true, cond-false, or_left}
use Rattle.refusals.specs.declared.refusal.Refusal.TheVariants.{TooManyExpressions}
use Rattle.plan.specs.declared.node.Node.{Node}
use Rattle.expressions.specs.declared.expression.Expression.{Expression}
use Rattle.expressions.specs.declared.table.Expressions.{Expressions}
use Rattle.expressions.specs.Expressions.{same, holds, also, computed_by, as_list, all_computed, distinct, expressions, listed, Fitting, Crowded}
use Rattle.expressions.proofs.Places.{same_true}

-- ---- one more expression

-- a list without d
abbrev others : Expression → List Expression → List Expression
others d es = filter (λ f. not (same d f)) es

-- it holds what the list holds besides d
holds_kept : (d e : Expression) (es : List Expression) → same d e ≡ false → holds e (others d es) ≡ holds e es
holds_kept d e [] other = refl
holds_kept d e (f ∷ es) other =
    elim (cases_Bool (same d f)) [
      | inl t ↦ ap (holds e) (cond-false _ _ _ (ap not t)) ∙ holds_kept d e es other
          ∙ sym (ap (λ (b : Bool). b || holds e es) (ap (λ (g : Expression). same g e) (sym (same_true d f t)) ∙ other))
      | inr t ↦ ap (holds e) (cond-true _ _ _ (ap not t)) ∙ ap (λ (b : Bool). same f e || b) (holds_kept d e es other)
    ]

pub holds_beside : (d e : Expression) (es : List Expression) → (same d e || holds e (others d es)) ≡ (same d e || holds e es)
holds_beside d e es =
    elim (cases_Bool (same d e)) [
      | inl t ↦ or_left _ _ t ∙ sym (or_left _ _ t)
      | inr t ↦ ap (λ (b : Bool). same d e || b) (holds_kept d e es t)
    ]

-- one more at the end is also there, once
distinct_push : (es : List Expression) (e : Expression) → distinct (es ++ (e ∷ [])) ≡ also e (distinct es)
distinct_push [] e = refl
distinct_push (d ∷ es) e =
    ap (λ (fs : List Expression). d ∷ others d fs) (distinct_push es e) ∙ go (same d e) (holds e (distinct es)) refl
    ∙ ap (λ (b : Bool). cond b (d ∷ others d (distinct es)) ((d ∷ others d (distinct es)) ++ (e ∷ []))) (sym (holds_beside d e (distinct es)))
  where
    last : (s : Bool) → same d e ≡ s → others d (distinct es ++ (e ∷ [])) ≡ others d (distinct es) ++ cond (not s) (e ∷ []) []
    last s is = filter-append _ (distinct es) (e ∷ []) ∙ ap (λ (b : Bool). others d (distinct es) ++ cond (not b) (e ∷ []) []) is

    go : (s h : Bool) → same d e ≡ s
        → d ∷ others d (cond h (distinct es) (distinct es ++ (e ∷ []))) ≡ cond (s || h) (d ∷ others d (distinct es)) ((d ∷ others d (distinct es)) ++ (e ∷ []))
    go true true is = refl
    go true false is = ap (λ (fs : List Expression). d ∷ fs) (last true is ∙ append-nil (others d (distinct es)))
    go false true is = refl
    go false false is = ap (λ (fs : List Expression). d ∷ fs) (last false is)

-- ---- one more node

-- what an expression that a node may compute adds
abbrev pub also_if : Option Expression → List Expression → List Expression
also_if None es = es
also_if (Some e) es = also e es

computed_append : (ms ns : List Node) → all_computed (ms ++ ns) ≡ all_computed ms ++ all_computed ns
computed_append [] ns = refl
computed_append (m ∷ ms) ns = ap (λ (es : List Expression). as_list (computed_by m) ++ es) (computed_append ms ns) ∙ sym (append_assoc (as_list (computed_by m)) _ _)

expressions_more : (ns : List Node) (i : ℕ) (d : Node) (o : Option Expression) → i < length ns → o ≡ computed_by (get_or ns i d)
    → expressions (take (i + 1) ns) ≡ also_if o (expressions (take i ns))
expressions_more ns i d o h is =
    ap expressions (take_more ns i d h) ∙ ap distinct (computed_append (take i ns) (get_or ns i d ∷ []) ∙ ap (λ (es : List Expression). all_computed (take i ns) ++ es) (append-nil _ ∙ ap as_list (sym is))) ∙ go o
  where
    go : (o : Option Expression) → distinct (all_computed (take i ns) ++ as_list o) ≡ also_if o (distinct (all_computed (take i ns)))
    go None = ap distinct (append-nil _)
    go (Some e) = distinct_push (all_computed (take i ns)) e

-- ---- the table

pub length_listed : (t : Expressions) → length (listed t) ≡ t.count
length_listed t = length-take-le t.count t.items (omega arith)

module _ (e : Expression) (t : Expressions) where
  -- it is there already
  pub added_there : holds e (listed t) ≡ true → also e (listed t) ≡ listed t
  added_there h = cond-true _ _ _ h

  pub there_fits : holds e (listed t) ≡ true → length (also e (listed t)) ≤ 64
  there_fits h = omega (arith, ap length (added_there h), length_listed t)

  -- it is new
  new_length : holds e (listed t) ≡ false → length (also e (listed t)) ≡ t.count + 1
  new_length h = ap length (cond-false (holds e (listed t)) (listed t) _ h) ∙ length_push (listed t) e ∙ ap (λ (n : ℕ). n + 1) (length_listed t)

  pub new_fits : holds e (listed t) ≡ false → t.count < 64 → length (also e (listed t)) ≤ 64
  new_fits h l = omega (arith, new_length h)

  pub new_too_many : holds e (listed t) ≡ false → 64 ≤ t.count → 64 < length (also e (listed t))
  new_too_many h l = omega (arith, new_length h)

  pub added_new : holds e (listed t) ≡ false → t.count < 64 → take (t.count + 1) (set t.items t.count e) ≡ also e (listed t)
  added_new h l = take_more_set t.items t.count e (omega (arith, t.room)) ∙ sym (cond-false (holds e (listed t)) (listed t) _ h)

-- ---- the loop

-- the table holds what the first i nodes compute, and it was never too much
pub record SoFar (ns : List Node) (i : ℕ) (t : Expressions) : Type 0 where
  pub holding : listed t ≡ expressions (take i ns)
  pub fitting : (n : ℕ) → n < i → Fitting ns n

module _ (ns : List Node) where
  pub none_yet : (t : Expressions) → listed t ≡ [] → SoFar ns 0 t
  none_yet t e = record { holding = e; fitting = λ n h. absurd (omega arith) }

  pub node_more : (i : ℕ) (d : Node) (o : Option Expression) (t t' t'' : Expressions) → i < length ns → o ≡ computed_by (get_or ns i d)
      → t' ≡ t'' → listed t'' ≡ also_if o (listed t) → SoFar ns i t → SoFar ns (i + 1) t'
  node_more i d o t t' t'' h is same-table e s = record { holding = new; fitting = below_more (Fitting ns) i s.fitting fits }
    where
      new : listed t' ≡ expressions (take (i + 1) ns)
      new = ap listed same-table ∙ e ∙ ap (also_if o) s.holding ∙ sym (expressions_more ns i d o h is)

      fits : Fitting ns i
      fits = subst (λ (n : ℕ). length (expressions (take n ns)) ≤ 64) (add-one i) (omega (arith, ap length new, length_listed t'))

  pub node_too_many : (i : ℕ) (d : Node) (e : Expression) (t : Expressions) → i < length ns → Some e ≡ computed_by (get_or ns i d)
      → 64 < length (also e (listed t)) → SoFar ns i t → Crowded ns (TooManyExpressions i)
  node_too_many i d e t h is full s = (i, refl, record { within = h; lacks = lacks; least = s.fitting })
    where
      count : length (expressions (take (suc i) ns)) ≡ length (also e (listed t))
      count =
          ap (λ (n : ℕ). length (expressions (take n ns))) (sym (add-one i))
          ∙ ap length (expressions_more ns i d (Some e) h is ∙ ap (also e) (sym s.holding))

      lacks : Fitting ns i → ⊥
      lacks fits = omega (arith, fits, count, full)
