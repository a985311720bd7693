use Rattle.std.proofs.Common.{is_some, sym, ap, ◌∙◌}
use Rattle.expressions.specs.Expressions.{listed}
use Rattle.expressions.proofs.Numbered.{added_there, there_fits, new_fits, added_new}
use Rattle.expressions.proofs.Places.{some_place}
use Rattle.expressions.proofs.table.Expressions.add.Goals as goal

pub returns-then-is_some : goal.returns-then-is_some
returns-then-is_some c =
    let t = c.args.self.now in
    let e = c.args.expression in
    let there = sym (c.if-is_some.ensures ∙ ap is_some c.position.ensures ∙ some_place e (listed t)) in
    (there_fits e t there, sym (added_there e t there))

pub returns : goal.returns
returns c =
    let t = c.args.self.now in
    let e = c.args.expression in
    let new = sym (c.if-is_some.ensures ∙ ap is_some c.position.ensures ∙ some_place e (listed t)) in
    (new_fits e t new c.if-self-ge-PLACES.false, added_new e t new c.if-self-ge-PLACES.false)
