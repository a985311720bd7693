use Rattle.plan.proofs.Soundness.{drawn_sound}
use Rattle.plan.proofs.Ranges.{drawn_ranged}
use Rattle.runs.proofs.SampleSolved.{premises_met}
use Rattle.runs.proofs.premises_met.Goals as goal

pub returns : goal.returns
returns g c = record { sample = premises_met (g.met.K.Kind.lawful c.args.kind.now); sound = drawn_sound; ranged = drawn_ranged }
