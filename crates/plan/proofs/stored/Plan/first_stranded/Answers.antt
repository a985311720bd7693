use Rattle.plan.specs.Stored.{seen}
use Rattle.plan.proofs.Turning.{unreached_stranded}
use Rattle.plan.proofs.stored.Plan.first_stranded.Goals as goal

pub returns : goal.returns
returns c = unreached_stranded (seen c.args.self.now) c.first_unreached.result c.first_unreached.ensures
