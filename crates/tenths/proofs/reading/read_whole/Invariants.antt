use Rattle.std.proofs.Common.{◌≡◌, ◌≤◌, take, IfSome}
use Rattle.tenths.specs.Scan.{largest_whole, front}
use Rattle.tenths.proofs.reading.read_whole.Given as goal

-- the digits so far are those of the whole part made of them
abbrev pub invariant-loop-byte : goal.invariant-loop-byte
invariant-loop-byte l = IfSome l.whole (λ n. n ≤ largest_whole) × (take l.byte-index l.digits ≡ front l.whole)
