-- Room for a row of effects.
use Rattle.std.specs.Prelude.{ℕ}
use Rattle.std.specs.Mem.{FitsInMemory}
use Rattle.std.specs.Borrow.{Array}
use denote.RattleType.{RattleType}
use Rattle.kinds.specs.contracts.effect.Effect.{the_row}

-- so many effects with gates of type G and values of type V take no more memory than there can be; it is so of every kind
-- of a program, and generic code cannot know it
abbrev pub EffectsFit : RattleType → RattleType → ℕ → Type 0
EffectsFit G V n = FitsInMemory (Array (the_row G V) n)
