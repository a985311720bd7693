use Rattle.marked.proofs.Rows.{marked_plans}
use Rattle.marked.proofs.marked_plans.Goals as goal

pub returns : goal.returns
returns c = marked_plans
