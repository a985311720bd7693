-- Facts of 64 bits at once. A value holds the bits that still stand, and a gate is a mask: a bit passes it where the mask is 1.
use Rattle.std.specs.Prelude.{◌≡◌, ℕ, ◌-◌, ◌<◌, ◌≤◌, Bool, false, not, ◌||◌}
use Rattle.plan.specs.declared.statement.Statement.{Statement}
use Rattle.bitset.specs.declared.bits.Bits.{Bits}
use Rattle.kinds.specs.declared.effect.Effect.{Effect}
use Rattle.bitset.specs.Bits.{is_set, ones, bits_from, every, none, both, any}
use Rattle.kinds.specs.Kinds.{Algebra}

-- every bit of x whose bit in the mask is 0 becomes 1
abbrev pub masked : Bits → Bits → Bits
masked g x = bits_from (λ i. is_set i x || not (is_set i g))

-- the effect after which bit i is 0 where `zeroed i`, else 1 where `raised i`, and else as it was:
-- its mask is 0 where it is zeroed or raised, and its forced bit is 0 where it is zeroed
abbrev pub setting : (ℕ → Bool) → (ℕ → Bool) → Effect Bits Bits
setting zeroed raised = record { gate = bits_from (λ i. not (zeroed i || raised i)); forced = bits_from (λ i. not (zeroed i)) }

-- a test that answers as f does at each place below n, where f fails from n on
pub record TestedAs (answers : ℕ → Bool → Type 0) (n : ℕ) (f : ℕ → Bool) : Type 0 where
  pub below : (i : ℕ) → i < n → (b : Bool) → answers i b → b ≡ f i
  pub past : (i : ℕ) → n ≤ i → f i ≡ false

abbrev pub bitwise : (ℕ → Statement → Effect Bits Bits) → Algebra Bits Bits
bitwise masks = record {
  meet = both;
  top = every;
  open_gate = every;
  shut_gate = none;
  series = both;
  either = any;
  through = masked;
  rank = ones;
  gate_rank = λ g. 64 - ones g;
  effect = masks;
}
