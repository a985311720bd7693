use Rattle.std.proofs.Common.{◌≡◌, ◌+◌, ◌∙◌, take, drop, ap, arith, rules, length-drop, take_all}
use Rattle.std.proofs.lemmas.Iterator.Consumers.{fold_from_yields_List}
use Rattle.std.proofs.lemmas.Iterator.Adapters.{YieldsList-from_rev_slice}
use Rattle.sweep.specs.Valuing.{met_of}
use Rattle.sweep.proofs.Folds.{but_folds}
use Rattle.sweep.proofs.forcing.meet_others.Goals as goal

pub returns : goal.returns
returns g c =
    let a = g.K.Kind.algebra c.args.kind.now in
    let es = c.args.row.now in
    let rest : c.meet_all.result ≡ met_of a (drop (c.args.one + 1) es) =
    c.meet_all.ensures ∙ ap (met_of a) (take_all _ (drop (c.args.one + 1) es) (simp length-drop (omega arith))) in
    but_folds a es c.args.one c.meet_all.result c.fold.result c.requires rest
    (fold_from_yields_List _ _ _ _ c.fold.ensures.ran (YieldsList-from_rev_slice (take c.args.one es) (cc)) (λ v x r q k. search rules))
