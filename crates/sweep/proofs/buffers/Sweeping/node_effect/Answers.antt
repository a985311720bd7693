use Rattle.std.proofs.Common.{sym, ap, ◌∙◌, arith}
use Rattle.plan.specs.Stored.{seen}
use Rattle.runs.specs.Actions.{steps_of}
use Rattle.runs.specs.Scheme.{does_node}
use Rattle.sweep.specs.Slots.{slot, joint_of}
use Rattle.sweep.proofs.Branches.{found, within}
use Rattle.sweep.proofs.Slots.{joint_slots}
use Rattle.sweep.proofs.buffers.Sweeping.node_effect.Goals as goal

pub branches-requires : goal.branches-requires
branches-requires g c =
    let plan = c.args.self.now.plan.now in
    within plan c.args.node _ _ _ c.requires (found plan _ c.args.node _ c.nodes.ensures c.in-Fork.is)

pub returns-in-Fork : goal.returns-in-Fork
returns-in-Fork g c =
    let a = g.K.Kind.algebra c.args.self.now.kind.now in
    let plan = c.args.self.now.plan.now in
    let regions = c.args.self.now.regions.now in
    let is = found plan _ c.args.node _ c.nodes.ensures c.in-Fork.is in
    c.joint.ensures ∙ ap (joint_of a) c.branches.ensures
    ∙ joint_slots a regions c.in-Fork.first c.in-Fork.count (omega (arith, within plan c.args.node _ _ _ c.requires is, c.args.self.now.region_slots))
    ∙ sym (ap (does_node a (seen plan) (steps_of a (seen plan)) (slot a regions) c.args.node) is)
