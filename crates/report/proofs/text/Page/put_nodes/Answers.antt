use Rattle.std.proofs.Common.{length}
use Rattle.report.specs.Putting.{found_in}
use Rattle.report.proofs.Lines.{node_fits}
use Rattle.report.proofs.text.Page.put_nodes.Goals as goal

pub put_node-requires : goal.put_node-requires
put_node-requires c =
    node_fits (found_in c.args.marks.now) c.loop-node.node (length c.args.marks.now.redundant.now) c.args.self.now.text.items c.loop-node.self.text.items c.loop-node.invariant c.loop-node-test.true c.requires
