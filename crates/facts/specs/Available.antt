-- Available expressions: one bit for each expression of a list, at its place; the bits past them are 1.
use Rattle.std.specs.Prelude.{ℕ, Bool, false, List, Some, None, Option}
use Rattle.std.specs.List.{slice_get}
use Rattle.plan.specs.declared.statement.Statement.{Statement}
use Rattle.bitset.specs.declared.bits.Bits.{Bits}
use Rattle.kinds.specs.declared.effect.Effect.{Effect}
use Rattle.expressions.specs.declared.expression.Expression.{Expression}
use Rattle.expressions.specs.Expressions.{disturbed, makes}
use Rattle.facts.specs.Masks.{setting}

-- a test of the expression at a place; where none is, it fails
abbrev pub tested : (Expression → Bool) → Option Expression → Bool
tested test None = false
tested test (Some e) = test e

-- the step disturbs, or computes, the expression at place i
abbrev pub disturbed_at : List Expression → Statement → ℕ → Bool
disturbed_at es s i = tested (disturbed s) (slice_get es i)

abbrev pub made_at : List Expression → Statement → ℕ → Bool
made_at es s i = tested (makes s) (slice_get es i)

-- Behind a step an expression is not available if the step disturbs it. It is available if the step computes it and
-- does not disturb it. Any other is available behind the step if it is available before it.
abbrev pub available_effect : List Expression → Statement → Effect Bits Bits
available_effect es s = setting (disturbed_at es s) (made_at es s)
