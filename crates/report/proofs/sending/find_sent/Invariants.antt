use Rattle.std.proofs.Common.{◌≡◌, ◌-◌, ◌%◌, ◌≤◌}
use Rattle.plan.specs.Stored.{seen}
use Rattle.report.specs.Sending.{SentBelow}
use Rattle.report.proofs.sending.find_sent.Given as goal

-- what is sent of the variables below the first of the next four
abbrev pub invariant-loop-first : goal.invariant-loop-first
invariant-loop-first l = (l.first % 4 ≡ 0) × (l.first ≤ 16) × SentBelow (seen l.plan) l.first l.sent

abbrev pub decreases-loop-first : goal.decreases-loop-first
decreases-loop-first l = 16 - l.first
