use Rattle.std.proofs.Common.{◌≡◌, ℕ, Err, Option, Result, rules}
use Rattle.refusals.specs.declared.refusal.Refusal.{Refusal}
use Rattle.plan.specs.declared.call.Call.TheVariants.{Lay, Change}
use Rattle.plan.specs.Calls.{refusal, made_by, unless}
use Rattle.plan.specs.Stored.{seen}
use Rattle.plan.proofs.Performed.{refused_alike}
use Rattle.plan.proofs.stored.Plan.perform.Goals as goal

pub returns-in_err-lay-in-Lay-clause-answer : goal.returns-in_err-lay-in-Lay-clause-answer
returns-in_err-lay-in-Lay-clause-answer c =
    let p = seen c.args.self.now in
    let call = Lay c.in-Lay.region c.in-Lay.statement in
    let told : ◌≡◌ {A = Result (Option ℕ) Refusal} (Err c.in_err-lay-in-Lay.field-0.0) (unless (refusal p call) (made_by p call)) = refused_alike (refusal p call) _ (made_by p call) _ c.in_err-lay-in-Lay.ensures.answer in
    rw c.in-Lay.is (search rules)

pub returns-in_err-change-in-Change-clause-answer : goal.returns-in_err-change-in-Change-clause-answer
returns-in_err-change-in-Change-clause-answer c =
    let p = seen c.args.self.now in
    let call = Change c.in-Change.node c.in-Change.statement in
    let told : ◌≡◌ {A = Result (Option ℕ) Refusal} (Err c.in_err-change-in-Change.field-0.0) (unless (refusal p call) (made_by p call)) = refused_alike (refusal p call) _ (made_by p call) _ c.in_err-change-in-Change.ensures.answer in
    rw c.in-Change.is (search rules)
