use Rattle.std.proofs.Common.{◌≡◌, length, ap, ◌∙◌, subst}
use Rattle.plan.specs.Drawn.{Drawn}
use Rattle.plan.specs.Stored.{seen}
use Rattle.plan.specs.Calls.{after_all, drawn}
use Rattle.report.specs.Replayed.{calls_in, Promised}
use Rattle.report.proofs.Promises.{promised}
use Rattle.report.proofs.replay.replay.Goals as goal

pub returns-clause-promise : goal.returns-clause-promise
returns-clause-promise g c =
    let a = g.K.Kind.algebra c.args.kind.now in
    let x = c.args in
    let swept = c.sweep-swept in
    let listed = c.redundant-listed in
    let is : seen c.perform_all.new.plan ≡ drawn (calls_in x.events.now) = c.perform_all.ensures.plan ∙ ap (λ (q : Drawn). after_all q (calls_in x.events.now)) c.in_ok-plan.ensures in
    subst (λ (q : Drawn). Promised a q x.direction x.start (length x.values.now) (length x.effects.now) (length x.regions.now) swept.result swept.new.values listed.result listed.new.out) is
    (promised a (seen c.perform_all.new.plan) x.direction x.start x.values.now swept.new.values x.effects.now swept.new.effects x.regions.now swept.new.regions
    swept.result listed.result x.list.now listed.new.out _ _ swept.ensures.swept listed.ensures.list)
