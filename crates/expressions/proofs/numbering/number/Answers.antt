use Rattle.std.proofs.Common.{Some, None, sym, refl, subst, rules}
use Rattle.expressions.specs.Expressions.{Crowded}
use Rattle.expressions.proofs.Numbered.{node_more, node_too_many}
use Rattle.expressions.proofs.numbering.number.Goals as goal
use Rattle.expressions.proofs.numbering.number.Goals.{in-Some+in_ok-add, in_default}

pub loop-lowest-preserved : goal.loop-lowest-preserved
loop-lowest-preserved c =
    let l = c.loop-lowest in
    let ns = c.args.nodes.now in
    elim c.match-node_computes.branch [
      | in-Some+in_ok-add w ↦
          node_more ns l.lowest _ (Some w.in-Some.expression) l.table c.match-node_computes.table _ c.loop-lowest-test.true w.in-Some.ensures
          w.table-is w.in_ok-add.ensures.1 l.invariant
      | in_default w ↦
          node_more ns l.lowest _ None l.table c.match-node_computes.table _ c.loop-lowest-test.true w.in_default.ensures w.table-is refl l.invariant
    ]

pub returns-in_err-add : goal.returns-in_err-add
returns-in_err-add c =
    let l = c.loop-lowest in
    let at = node_too_many c.args.nodes.now l.lowest _ c.in-Some.expression l.table c.loop-lowest-test.true c.in-Some.ensures c.in_err-add.ensures.0 l.invariant in
    let told = subst (Crowded c.args.nodes.now) (sym c.in_err-add.ensures.1) at in
    search rules
