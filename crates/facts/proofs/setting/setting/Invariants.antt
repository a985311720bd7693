use Rattle.std.proofs.Common.{ℕ, Bool}
use Rattle.facts.specs.Masks.{TestedAs}
use Rattle.facts.proofs.Clearing.{SetTo}
use Rattle.facts.proofs.setting.setting.Given as goal

abbrev pub invariant-loop-place : goal.invariant-loop-place
invariant-loop-place g l =
    (z r : ℕ → Bool) → TestedAs (goal.Z-post g l.zeroed) l.places z → TestedAs (goal.R-post g l.raised) l.places r → SetTo z r l.place l.gate l.forced
