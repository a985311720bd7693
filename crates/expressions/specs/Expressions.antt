-- Expressions: which a step computes, which it disturbs, and which the nodes of a plan compute.
--   computed     the expression that a step computes
--   disturbed    whether a step may change the value of an expression
--   expressions  what some nodes compute, each once, by the first node that computes it
--   listed       what a table of expressions holds
--   place        where an expression stands in a list
--   Holding      a table holds the expressions of some nodes, and Crowded says why there is none
use Rattle.std.specs.Prelude.{◌≡◌, ℕ, suc, ◌<◌, ◌≤◌, Bool, true, false, cond, not, ◌&&◌, ◌||◌, List, [], ◌∷◌, ◌++◌, length, take, Some, None, filter, position, Option, ◌==◌}
use Rattle.std.specs.List.{list_any}
use Rattle.refusals.specs.declared.refusal.Refusal.{Refusal}
use Rattle.refusals.specs.declared.refusal.Refusal.TheVariants.{TooManyExpressions}
use Rattle.plan.specs.declared.statement.Statement.{Statement}
use Rattle.plan.specs.declared.statement.Statement.TheVariants.{Idle, Wait, Set, Copy, Send, Probe, Add, Sub, Min, Max}
use Rattle.plan.specs.declared.node.Node.{Node}
use Rattle.plan.specs.declared.node.Node.TheVariants.{Step, Fork}
use Rattle.plan.specs.Paths.{Lowest}
use Rattle.expressions.specs.declared.expression.Expression.{Expression}
use Rattle.expressions.specs.declared.expression.Expression.TheVariants as expression
use Rattle.expressions.specs.declared.table.Expressions.{Expressions}
use Rattle.expressions.specs.Variables.{assigned}

-- what probe p shows, or a number made of a and b, in this order
abbrev pub computed : Statement → Option Expression
computed Idle = None
computed Wait = None
computed (Set v c) = None
computed (Copy v a) = None
computed (Send a) = None
computed (Probe v p) = Some (expression.Probe p)
computed (Add v a b) = Some (expression.Add a b)
computed (Sub v a b) = Some (expression.Sub a b)
computed (Min v a b) = Some (expression.Min a b)
computed (Max v a b) = Some (expression.Max a b)

abbrev pub is_wait : Statement → Bool
is_wait Idle = false
is_wait Wait = true
is_wait (Set v c) = false
is_wait (Copy v a) = false
is_wait (Send a) = false
is_wait (Probe v p) = false
is_wait (Add v a b) = false
is_wait (Sub v a b) = false
is_wait (Min v a b) = false
is_wait (Max v a b) = false

-- a step disturbs what a probe shows if it waits, and a number made of a and b if it assigns a or b
abbrev pub disturbed : Statement → Expression → Bool
disturbed s (expression.Probe p) = is_wait s
disturbed s (expression.Add a b) = assigned a s || assigned b s
disturbed s (expression.Sub a b) = assigned a s || assigned b s
disturbed s (expression.Min a b) = assigned a s || assigned b s
disturbed s (expression.Max a b) = assigned a s || assigned b s

-- an expression as three numbers: which of the five it is, and its operands
abbrev pub parts : Expression → ℕ × ℕ × ℕ
parts (expression.Probe p) = (0, p, 0)
parts (expression.Add a b) = (1, a, b)
parts (expression.Sub a b) = (2, a, b)
parts (expression.Min a b) = (3, a, b)
parts (expression.Max a b) = (4, a, b)

-- whether two expressions are one
abbrev pub same : Expression → Expression → Bool
same e f = (parts e).0 == (parts f).0 && ((parts e).1 == (parts f).1 && (parts e).2 == (parts f).2)

-- whether e is in a list
abbrev pub holds : Expression → List Expression → Bool
holds e es = list_any (λ f. same f e) es

-- the first place at which e stands in a list
abbrev pub place : Expression → List Expression → Option ℕ
place e es = position (λ f. same f e) es

-- the list with e at its end, unless e is there
abbrev pub also : Expression → List Expression → List Expression
also e es = cond (holds e es) es (es ++ (e ∷ []))

abbrev pub as_list : Option Expression → List Expression
as_list None = []
as_list (Some e) = e ∷ []

-- the step computes e
abbrev pub makes : Statement → Expression → Bool
makes s e = holds e (as_list (computed s))

-- a fork computes nothing
abbrev pub computed_by : Node → Option Expression
computed_by (Step r s) = computed s
computed_by (Fork r b k) = None

-- what the nodes compute, in their order
abbrev pub all_computed : List Node → List Expression
all_computed [] = []
all_computed (n ∷ ns) = as_list (computed_by n) ++ all_computed ns

-- each once, where it stands first
abbrev pub distinct : List Expression → List Expression
distinct [] = []
distinct (e ∷ es) = e ∷ filter (λ f. not (same e f)) (distinct es)

abbrev pub expressions : List Node → List Expression
expressions ns = distinct (all_computed ns)

abbrev pub listed : Expressions → List Expression
listed t = take t.count t.items

-- the nodes up to and including n compute at most 64 expressions
abbrev pub Fitting : List Node → ℕ → Type 0
Fitting ns n = length (expressions (take (suc n) ns)) ≤ 64

-- the table holds what the nodes compute, which is never too much
pub record Holding (ns : List Node) (t : Expressions) : Type 0 where
  pub holding : listed t ≡ expressions ns
  pub fitting : (n : ℕ) → n < length ns → Fitting ns n

-- it is refused at the lowest node up to which they compute too much
abbrev pub Crowded : List Node → Refusal → Type 0
Crowded ns e = (n : ℕ) × (e ≡ TooManyExpressions n) × Lowest (length ns) (Fitting ns) n
