-- The one value that a variable has: unknown as yet, a number, or unfixed.
use Rattle.std.specs.Prelude.{ℕ, Bool, false, cond, ℤ, pos, negsuc, ◌==◌}
use Rattle.plan.specs.declared.statement.Statement.{Statement}
use Rattle.plan.specs.declared.statement.Statement.TheVariants.{Idle, Wait, Set, Copy, Send, Probe, Add, Sub, Min, Max}
use Rattle.facts.specs.declared.constant.Constant.{Constant}
use Rattle.facts.specs.declared.constant.Constant.TheVariants.{Unknown, Number, Unfixed}
use Rattle.facts.specs.declared.constant.Door.{Door}
use Rattle.facts.specs.declared.constant.Door.TheVariants.{Open, Shut}
use Rattle.kinds.specs.declared.effect.Effect.{Effect}
use Rattle.kinds.specs.Kinds.{Algebra}
use Rattle.expressions.specs.Variables.{assigned}

-- whether two numbers are equal
abbrev pub equal : ℤ → ℤ → Bool
equal (pos a) (pos b) = a == b
equal (pos a) (negsuc b) = false
equal (negsuc a) (pos b) = false
equal (negsuc a) (negsuc b) = a == b

-- two unequal numbers are unfixed, as is anything with what is unfixed; what is unknown adds nothing
abbrev pub agreed : Constant → Constant → Constant
agreed Unknown y = y
agreed (Number m) Unknown = Number m
agreed (Number m) (Number n) = cond (equal m n) (Number m) Unfixed
agreed (Number m) Unfixed = Unfixed
agreed Unfixed y = Unfixed

-- open if both are
abbrev pub both_open : Door → Door → Door
both_open Open h = h
both_open Shut h = Shut

-- open if one is
abbrev pub one_open : Door → Door → Door
one_open Open h = Open
one_open Shut h = h

-- a shut door leaves nothing known
abbrev pub behind : Door → Constant → Constant
behind Open x = x
behind Shut x = Unknown

-- how often what is known can still fall
abbrev pub height : Constant → ℕ
height Unknown = 2
height (Number m) = 1
height Unfixed = 0

abbrev pub door_height : Door → ℕ
door_height Open = 0
door_height Shut = 1

-- what an assigned variable becomes: `set` makes it a number, all else leaves it unfixed
abbrev pub becomes : Statement → Constant
becomes Idle = Unfixed
becomes Wait = Unfixed
becomes (Set v c) = Number c
becomes (Copy v a) = Unfixed
becomes (Send a) = Unfixed
becomes (Probe v p) = Unfixed
becomes (Add v a b) = Unfixed
becomes (Sub v a b) = Unfixed
becomes (Min v a b) = Unfixed
becomes (Max v a b) = Unfixed

-- what a step makes known of variable v
abbrev pub fixed_effect : ℕ → Statement → Effect Door Constant
fixed_effect v s = cond (assigned v s) (record { gate = Shut; forced = becomes s }) (record { gate = Open; forced = Unknown })

abbrev pub fixed : ℕ → Algebra Constant Door
fixed v = record {
  meet = agreed;
  top = Unknown;
  open_gate = Open;
  shut_gate = Shut;
  series = both_open;
  either = one_open;
  through = behind;
  rank = height;
  gate_rank = door_height;
  effect = λ node. fixed_effect v;
}
