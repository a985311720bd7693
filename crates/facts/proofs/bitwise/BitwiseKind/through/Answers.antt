use Rattle.facts.specs.MaskLaws.{masked_by}
use Rattle.facts.proofs.bitwise.BitwiseKind.through.Goals as goal

pub returns : goal.returns
returns g c = masked_by c.args.g c.args.x c.turned.result c.any.result c.turned.ensures c.any.ensures
