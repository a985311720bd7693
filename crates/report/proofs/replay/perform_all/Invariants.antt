use Rattle.std.proofs.Common.{◌≡◌, drop}
use Rattle.plan.specs.Stored.{seen}
use Rattle.plan.specs.Calls.{after_all}
use Rattle.report.specs.Replayed.{calls_in, kept_after}
use Rattle.report.proofs.replay.perform_all.Given as goal

-- the events that are left, on the plan and the conditions as they are, make those of the whole row
abbrev pub invariant-loop-event : goal.invariant-loop-event
invariant-loop-event l =
    (after_all (seen l.plan) (calls_in (drop l.event-index l.events)) ≡ after_all (seen l.initial.plan) (calls_in l.events))
    × (kept_after l.conditions.kept (drop l.event-index l.events) ≡ kept_after l.initial.conditions.kept l.events)
