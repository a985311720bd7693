use Rattle.std.proofs.Common.{◌≡◌, ◌++◌}
use Rattle.report.specs.Putting.{found_in}
use Rattle.report.specs.Reported.{lines_to}
use Rattle.report.proofs.text.Page.put_nodes.Given as goal

abbrev pub invariant-loop-node : goal.invariant-loop-node
invariant-loop-node l = l.self.text.items ≡ l.initial.self.text.items ++ lines_to (found_in l.marks) l.node
