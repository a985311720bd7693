use Rattle.std.proofs.Common.{rules}
use Rattle.std.proofs.lemmas.Iterator.Consumers.{fold_from_yields_List}
use Rattle.std.proofs.lemmas.Iterator.Adapters.{YieldsList-from_rev_slice}
use Rattle.sweep.proofs.Folds.{joint_folds}
use Rattle.sweep.proofs.joined.joint.Goals as goal

pub returns : goal.returns
returns g c =
    joint_folds (g.K.Kind.algebra c.args.kind.now) c.args.branches.now c.passing.result c.fold.result c.passing.ensures
    (fold_from_yields_List _ _ _ _ c.fold.ensures.ran (YieldsList-from_rev_slice c.args.branches.now (cc)) (λ v x r q k. search rules))
