use Rattle.runs.proofs.Meets.{nodes_exact, regions_exact, values_exact, solutions_agree}
use Rattle.runs.proofs.exact.Goals as goal

pub returns : goal.returns
returns g c = let l = g.met.K.Kind.lawful c.args.kind.now in record { nodes = nodes_exact l; regions = regions_exact l; values = values_exact l; alike = solutions_agree l }
