use Rattle.std.proofs.Common.{rules}
use Rattle.std.proofs.lemmas.Iterator.Consumers.{fold_from_yields_List}
use Rattle.std.proofs.lemmas.Iterator.Adapters.{YieldsList-from_rev_slice}
use Rattle.sweep.proofs.Folds.{met_folds}
use Rattle.sweep.proofs.forcing.meet_all.Goals as goal

pub returns : goal.returns
returns g c =
    met_folds (g.K.Kind.algebra c.args.kind.now) c.args.row.now c.top.result c.fold.result c.top.ensures
    (fold_from_yields_List _ _ _ _ c.fold.ensures.ran (YieldsList-from_rev_slice c.args.row.now (cc)) (λ v x r q k. search rules))
