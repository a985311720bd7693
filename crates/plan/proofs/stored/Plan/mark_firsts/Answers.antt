use Rattle.std.proofs.Common.{◌+◌, Bool, List, length, get_or, None, Option, sym, ap, ◌∙◌, subst, arith}
use Rattle.plan.specs.declared.node.Ends.{Ends}
use Rattle.plan.specs.Marks.{Grown, FirstsTo}
use Rattle.plan.specs.Stored.{seen}
use Rattle.plan.proofs.Opened.{opened}
use Rattle.plan.proofs.Marking.{first_reached, firsts_step, firsts_same, grown_same}
use Rattle.plan.proofs.stored.Plan.mark_firsts.Goals as goal
use Rattle.plan.proofs.stored.Plan.mark_firsts.Goals.{in-Some, in_default}

pub bounds-marks-first_in : goal.bounds-marks-first_in
bounds-marks-first_in c =
    let p = seen c.args.self.now in
    let i = c.loop-named.named-index in
    let at = ap (λ (es : List (Option Ends)). get_or es i None) (sym c.as_slice-named-items.ensures.value) ∙ c.in-Some.is in
    let there = first_reached p (opened p c.args.self.now.sound) c.args.direction i c.in-Some.ends at in
    omega (arith, there.0, c.first_in.ensures)

pub loop-named-init : goal.loop-named-init
loop-named-init c =
    let p = seen c.args.self.now in
    (grown_same p (opened p c.args.self.now.sound) c.args.direction c.args.marks.now, λ r e h. absurd (omega arith))

pub loop-named-preserved : goal.loop-named-preserved
loop-named-preserved c =
    let p = seen c.args.self.now in
    let s = opened p c.args.self.now.sound in
    let d = c.args.direction in
    let l = c.loop-named in
    let i = l.named-index in
    let start = c.args.marks.now in
    let seen_at = ap (λ (es : List (Option Ends)). get_or es i None) (sym c.as_slice-named-items.ensures.value) in
    let P : List Bool → Type 0 = λ marks. Grown p d start marks × FirstsTo p d marks (i + 1) in
    elim c.match-named.branch [
      | in-Some w ↦
          let at = seen_at ∙ w.in-Some.is in
          subst P (sym w.marks-is) (firsts_step p s d start l.marks i w.first_in.result w.in-Some.ends at w.first_in.ensures
          (omega (arith, (first_reached p s d i w.in-Some.ends at).0, w.first_in.ensures)) l.invariant)
      | in_default w ↦ subst P (sym w.marks-is) (l.invariant.0, firsts_same p s d l.marks i (seen_at ∙ w.in_default.is) l.invariant.1)
    ]

pub returns : goal.returns
returns c = record {
  grown = c.loop-named.invariant.0;
  firsts = λ r e h. c.loop-named.invariant.1 r e (omega (arith, h, c.loop-named-test.false, ap length c.as_slice-named-items.ensures.value));
}
