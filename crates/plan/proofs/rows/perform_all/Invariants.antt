use Rattle.std.proofs.Common.{◌≡◌, ◌++◌, drop, vec_items}
use Rattle.plan.specs.Stored.{seen}
use Rattle.plan.specs.Calls.{after_all, answers_of}
use Rattle.plan.proofs.rows.perform_all.Given as goal

-- the calls that are left, on the plan as it is, make the plan of the whole row, and their answers complete the answers
abbrev pub invariant-loop-call : goal.invariant-loop-call
invariant-loop-call l =
    (after_all (seen l.plan) (drop l.call-index l.calls) ≡ after_all (seen l.initial.plan) l.calls)
    × (vec_items l.answers ++ answers_of (seen l.plan) (drop l.call-index l.calls) ≡ vec_items l.initial.answers ++ answers_of (seen l.initial.plan) l.calls)
