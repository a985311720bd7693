use Rattle.std.proofs.Common.{◌≡◌, ◌+◌, ◌<◌, List, length, get_or, drop, sym, ap, ◌∙◌, arith}
use Rattle.plan.specs.declared.node.Node.{Node}
use Rattle.plan.specs.declared.node.Node.TheVariants as node
use Rattle.plan.specs.declared.statement.Statement.TheVariants.{Idle}
use Rattle.plan.specs.Drawn.{node_at, region_of}
use Rattle.plan.specs.Stored.{seen}
use Rattle.runs.specs.Actions.{steps_of}
use Rattle.runs.specs.Scheme.{all_force}
use Rattle.sweep.specs.Slots.{forced_slot}
use Rattle.sweep.proofs.Gathering.{force_in, force_out}
use Rattle.sweep.proofs.buffers.Sweeping.region_forces.Goals as goal
use Rattle.sweep.proofs.buffers.Sweeping.region_forces.Goals.{then-region, else-region}

pub loop-n-preserved : goal.loop-n-preserved
loop-n-preserved g c =
    let k = c.args.self.now.kind.now in
    let a = g.K.Kind.algebra k in
    let laws = g.met.K.Kind.lawful k in
    let p = seen c.args.self.now.plan.now in
    let f = forced_slot a c.args.self.now.regions.now in
    let r = c.args.region in
    let n = c.loop-n.n in
    let slice = c.nodes-node-items.ensures in
    let there : n < length p.nodes = omega (arith, c.loop-n-test.true, ap length slice) in
    let lies : c.region.result ≡ region_of (node_at p n) = c.region.ensures ∙ ap (λ (ns : List Node). region_of (get_or ns n (node.Step 0 Idle))) slice in
    let rest = all_force a (steps_of a p) f r (n + 1) (drop (n + 1) p.nodes) in
    elim c.if-region.branch [
      | then-region w ↦
          ap (λ v. a.meet v rest) (w.all-is ∙ w.meet-all.ensures ∙ ap (a.meet c.loop-n.all) w.forced_by.ensures) ∙ laws.meet_assoc _ _ _
          ∙ ap (a.meet c.loop-n.all) (sym (force_in a (steps_of a p) f r p.nodes n there (sym lies ∙ w.if-region.true))) ∙ c.loop-n.invariant
      | else-region w ↦
          ap (λ v. a.meet v rest) w.all-is
          ∙ ap (a.meet c.loop-n.all) (sym (force_out a (steps_of a p) f r p.nodes laws n there (λ e. w.if-region.false (lies ∙ e)))) ∙ c.loop-n.invariant
    ]
