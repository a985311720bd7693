use Rattle.std.proofs.Common.{sym, subst}
use Rattle.tenths.specs.Scan.{Named}
use Rattle.tenths.specs.Text.{Reads}
use Rattle.tenths.proofs.Signs.{named_below, named_from, reads_named}
use Rattle.tenths.proofs.Undo.{inverse}
use Rattle.tenths.proofs.read.Goals as goal
use Rattle.tenths.proofs.read.Goals.{in-Some, in-None}

pub returns-clause-reads : goal.returns-clause-reads
returns-clause-reads c =
    let text = c.args.text.now in
    let number = c.match-after_minus.number in
    let named : Named text number =
    elim c.match-after_minus.branch [
      | in-Some w ↦ rw (w.number-is, w.in-Some.ensures) (named_below _ _ _ w.read_size.ensures w.and_then-number.ensures)
      | in-None w ↦ rw w.number-is (named_from text _ _ w.in-None.ensures w.read_size-in-None.ensures w.and_then-number-in-None.ensures)
    ] in
    subst (Reads text) (sym c.ok_or.ensures.value) (reads_named text number named)

pub returns-clause-inverse : goal.returns-clause-inverse
returns-clause-inverse c = inverse
