use Rattle.std.proofs.Common.{◌≡◌, ◌+◌, ◌<◌, Bool, List, length, get_or, sym, ap, ◌∙◌, subst, arith}
use Rattle.plan.specs.declared.node.Arc.{Arc}
use Rattle.plan.specs.Drawn.{arc_at}
use Rattle.plan.specs.Paths.{turned}
use Rattle.plan.specs.Stored.{seen}
use Rattle.plan.proofs.Opened.{opened}
use Rattle.plan.proofs.Marking.{Round, ends_there, round_new, round_same, round_none, round_all}
use Rattle.plan.proofs.stored.Plan.spread.Goals as goal
use Rattle.plan.proofs.stored.Plan.spread.Goals.{then-follow, else-follow}

pub follow-requires : goal.follow-requires
follow-requires c =
    let p = seen c.args.self.now in
    let d = c.args.direction in
    let i = c.loop-arc.arc-index in
    let slice = c.as_slice-arc-items.ensures.value in
    let is : c.turned.result ≡ turned d (arc_at p i) = c.turned.ensures ∙ ap (λ (arcs : List Arc). turned d (get_or arcs i (record { from = 0; to = 0 }))) slice in
    let there = ends_there p (opened p c.args.self.now.sound) d i c.turned.result (omega (arith, c.loop-arc-test.true, ap length slice)) is in
    (omega (arith, there.0), omega (arith, there.1))

pub loop-arc-init : goal.loop-arc-init
loop-arc-init c = round_none (seen c.args.self.now) (opened _ c.args.self.now.sound) c.args.direction c.args.marks.now

pub loop-arc-preserved : goal.loop-arc-preserved
loop-arc-preserved c =
    let p = seen c.args.self.now in
    let s = opened p c.args.self.now.sound in
    let d = c.args.direction in
    let l = c.loop-arc in
    let i = l.arc-index in
    let a = c.turned.result in
    let new = c.follow.new.marks in
    let slice = c.as_slice-arc-items.ensures.value in
    let is : a ≡ turned d (arc_at p i) = c.turned.ensures ∙ ap (λ (arcs : List Arc). turned d (get_or arcs i (record { from = 0; to = 0 }))) slice in
    let within : i < length p.arcs = omega (arith, c.loop-arc-test.true, ap length slice) in
    let there = ends_there p s d i a within is in
    let P : Bool → Type 0 = λ b. Round p d b c.args.marks.now new (i + 1) in
    elim c.if-follow.branch [
      | then-follow w ↦ subst P (sym w.changed-is) (round_new p s d l.changed c.args.marks.now l.marks new i a within is (omega (arith, there.1)) w.if-follow.ensures l.invariant)
      | else-follow w ↦ subst P (sym w.changed-is) (round_same p s d l.changed c.args.marks.now l.marks new i a is w.if-follow.ensures l.invariant)
    ]

pub returns : goal.returns
returns c =
    let p = seen c.args.self.now in
    let l = c.loop-arc in
    record {
      grown = l.invariant.grown;
      told = round_all p (opened p c.args.self.now.sound) c.args.direction l.changed c.args.marks.now l.marks _ _
          (omega (arith, c.loop-arc-test.false, ap length c.as_slice-arc-items.ensures.value)) l.invariant;
    }
