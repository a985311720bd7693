use Rattle.std.proofs.Common.{◌≡◌, ◌≤◌, length, sym, ap, subst, arith}
use Rattle.plan.specs.Drawn.{node_at, region_of}
use Rattle.plan.specs.Stored.{seen}
use Rattle.kinds.specs.Effects.{passing, act, IsMeet}
use Rattle.runs.specs.Words.{Full}
use Rattle.runs.specs.Runs.{Approach, Run}
use Rattle.runs.specs.Actions.{run, steps_of}
use Rattle.sweep.proofs.Fronts.{front_at, kept_from}
use Rattle.sweep.proofs.sweeping.sweep.Goals as goal

pub returns-clause-swept : goal.returns-clause-swept
returns-clause-swept g c =
    let a = g.K.Kind.algebra c.args.kind.now in
    let p = seen c.args.plan.now in
    let d = c.args.direction in
    let steps = steps_of a p in
    let nodes : length c.nodes-nodes.result.now ≡ length p.nodes = ap length c.nodes-nodes.ensures in
    let areas : length c.regions-areas.result.now ≡ length p.ends = ap length c.regions-areas.ensures in
    let values-room : length p.nodes ≤ length c.args.values.now = omega (arith, c.if-values-nodes.false, nodes) in
    let effects-room : length p.nodes ≤ length c.args.effects.now = omega (arith, c.if-effects-nodes.false, nodes) in
    let regions-room : length p.ends ≤ length c.args.regions.now = omega (arith, c.if-regions-areas.false, areas) in
    let done = c.sweep_whole in
    record {
      whole = c.in_ok-whole.ensures;
      values_meet = λ n h.
          subst (λ (v : _). IsMeet a (Run p d n) (λ w. run a steps w c.args.start) v) (sym (front_at done.new.values c.args.values.now _ _ nodes done.auto.values values-room n a.top h))
          (done.ensures.values n h);
      nodes_meet = λ n h x.
          subst (λ (e : _). IsMeet a (Approach p d (region_of (node_at p n)) n) (λ w. run a steps w x) (act a e x)) (sym (front_at done.new.effects c.args.effects.now _ _ nodes done.auto.effects effects-room n (passing a) h))
          (done.ensures.nodes n h x);
      regions_meet = λ r h x.
          subst (λ (e : _). IsMeet a (Full p d r) (λ w. run a steps w x) (act a e x)) (sym (front_at done.new.regions c.args.regions.now _ _ areas done.auto.regions regions-room r (passing a) h))
          (done.ensures.regions r h x);
      values_kept = kept_from done.new.values c.args.values.now _ _ nodes done.auto.values values-room;
      nodes_kept = kept_from done.new.effects c.args.effects.now _ _ nodes done.auto.effects effects-room;
      regions_kept = kept_from done.new.regions c.args.regions.now _ _ areas done.auto.regions regions-room;
    }
