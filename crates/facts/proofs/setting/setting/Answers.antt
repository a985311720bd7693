use Rattle.std.proofs.Common.{◌≤◌, sym, ◌∙◌, arith}
use Rattle.facts.proofs.Clearing.{set_none, set_zeroed, set_raised, set_kept, set_all}
use Rattle.facts.proofs.setting.setting.Goals as goal
use Rattle.facts.proofs.setting.setting.Goals.{then-zeroed, else-zeroed+then-raised, else-zeroed+else-raised}

pub loop-place-init : goal.loop-place-init
loop-place-init g c = λ z r tz tr. set_none z r _ _ c.every-gate.ensures c.every-forced.ensures

pub loop-place-preserved : goal.loop-place-preserved
loop-place-preserved g c = λ z r tz tr.
    let l = c.loop-place in
    let n = l.place in
    let within = c.loop-place-test.true in
    let so_far = l.invariant z r tz tr in
    let zero = tz.below n within _ c.zeroed.ensures in
    elim c.if-zeroed.branch [
      | then-zeroed w ↦
          set_zeroed z r n l.gate _ l.forced _ (w.gate-is ∙ w.without-gate.ensures) (w.forced-is ∙ w.without-forced.ensures)
          (sym zero ∙ w.if-zeroed.true) so_far
      | else-zeroed+then-raised w ↦
          set_raised z r n l.gate _ l.forced _ (w.gate-is ∙ w.without-gate-then-raised.ensures) w.forced-is
          (sym zero ∙ w.if-zeroed.false) (sym (tr.below n within _ w.raised.ensures) ∙ w.if-raised.true) so_far
      | else-zeroed+else-raised w ↦
          set_kept z r n l.gate _ l.forced _ w.gate-is w.forced-is
          (sym zero ∙ w.if-zeroed.false) (sym (tr.below n within _ w.raised.ensures) ∙ w.if-raised.false) so_far
    ]

pub returns : goal.returns
returns g c = λ z r tz tr.
    let n = c.loop-place.place in
    let all : c.args.places ≤ n = c.loop-place-test.false in
    set_all z r n c.loop-place.gate c.loop-place.forced (λ i h. (tz.past i (omega arith), tr.past i (omega arith))) (c.loop-place.invariant z r tz tr)
