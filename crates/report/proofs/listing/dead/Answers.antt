use Rattle.std.proofs.Common.{List, length, ap, subst, arith, rules}
use Rattle.plan.specs.declared.node.Node.{Node}
use Rattle.plan.specs.declared.node.Direction.TheVariants.{Backward}
use Rattle.plan.specs.Stored.{seen}
use Rattle.bitset.specs.declared.bits.Bits.{Bits}
use Rattle.sweep.specs.Swept.{ValuesMeet}
use Rattle.report.specs.Listing.{Filled, marks}
use Rattle.report.specs.Unread.{bit_among, assigned_by}
use Rattle.report.proofs.DeadBits as bits
use Rattle.report.proofs.ListedDead.{lists_dead}
use Rattle.report.proofs.listing.dead.Goals as goal

pub returns : goal.returns
returns c =
    let p = seen c.args.plan.now in
    let values = c.find.new.values in
    let test = λ (x : Node) (v : Bits). bit_among v (assigned_by x) in
    lists_dead p c.args.plan.now.ranged c.in_ok-whole.ensures c.args.conditions.kept values
    (subst (λ (start : Bits). ValuesMeet bits.dead p Backward start values) c.except-start.ensures c.in_ok-find.ensures.meets)
    c.args.out.now c.mark.new.out
    (subst (λ (ns : List Node). Filled 0 (marks test ns values) (length ns) c.args.out.now c.mark.new.out) c.nodes-2.ensures (c.mark.ensures test (λ n l b answer. search rules)))
    (omega (arith, c.if-out-nodes.false, ap length c.nodes.ensures))
