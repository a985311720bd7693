use Rattle.std.proofs.Common.{List, length, ap, subst, arith, rules}
use Rattle.plan.specs.declared.node.Node.{Node}
use Rattle.plan.specs.declared.node.Direction.TheVariants.{Forward}
use Rattle.plan.specs.Stored.{seen}
use Rattle.plan.proofs.Opened.{opened}
use Rattle.bitset.specs.declared.bits.Bits.{Bits}
use Rattle.expressions.specs.Expressions.{computed_by, listed, Holding}
use Rattle.sweep.specs.Swept.{ValuesMeet}
use Rattle.report.specs.Listing.{Filled, marks, bit_of}
use Rattle.report.proofs.AvailableBits.{available}
use Rattle.report.proofs.Backing.{strike_law}
use Rattle.report.proofs.Listed.{lists_redundant}
use Rattle.report.proofs.listing.redundant.Goals as goal

pub returns-clause-list : goal.returns-clause-list
returns-clause-list c =
    let p = seen c.args.plan.now in
    let t = c.in_ok-expressions.expressions in
    let values = c.find.new.values in
    let test = λ (x : Node) (v : Bits). bit_of (listed t) v (computed_by x) in
    lists_redundant p (opened p c.args.plan.now.sound) c.in_ok-whole.ensures t
    (subst (λ (ns : List Node). Holding ns t) c.nodes.ensures c.in_ok-expressions.ensures)
    values (subst (λ (start : Bits). ValuesMeet (available (listed t)) p Forward start values) c.none-start.ensures c.in_ok-find.ensures.meets) c.args.out.now c.mark.new.out
    (subst (λ (ns : List Node). Filled 0 (marks test ns values) (length ns) c.args.out.now c.mark.new.out) c.nodes-3.ensures (c.mark.ensures test (λ n l b answer. search rules)))
    (omega (arith, c.if-out-nodes.false, ap length c.nodes-2.ensures))

pub returns-in_err-whole-clause-law : goal.returns-in_err-whole-clause-law
returns-in_err-whole-clause-law c = strike_law

pub returns-in_err-expressions-clause-law : goal.returns-in_err-expressions-clause-law
returns-in_err-expressions-clause-law c = strike_law

pub returns-then-out-nodes-clause-law : goal.returns-then-out-nodes-clause-law
returns-then-out-nodes-clause-law c = strike_law

pub returns-clause-law : goal.returns-clause-law
returns-clause-law c = strike_law
