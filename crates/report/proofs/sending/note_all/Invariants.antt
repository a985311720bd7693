use Rattle.std.proofs.Common.{ℕ, get_or, None}
use Rattle.plan.specs.declared.node.Node.TheVariants.{Step}
use Rattle.plan.specs.declared.statement.Statement.TheVariants.{Idle}
use Rattle.facts.specs.Numbers.{Fits32}
use Rattle.report.specs.Listing.{Filled}
use Rattle.report.specs.Sending.{sent_of, unknown_four}
use Rattle.report.proofs.sending.note_all.Given as goal

abbrev pub invariant-loop-n : goal.invariant-loop-n
invariant-loop-n l =
    Filled None (λ n. sent_of (get_or l.nodes n (Step 0 Idle)) l.four.first (get_or l.values n unknown_four) (get_or l.initial.sent n None)) l.n l.initial.sent l.sent
    × ((n : ℕ) → Fits32 (get_or l.sent n None))
