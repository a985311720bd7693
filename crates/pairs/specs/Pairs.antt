-- Two kinds side by side.
use Rattle.std.specs.Prelude.{◌+◌}
use Rattle.pairs.specs.declared.pair.Pair.{Pair}
use Rattle.kinds.specs.declared.effect.Effect.{Effect}
use Rattle.kinds.specs.Kinds.{Algebra}

-- x on the left and y on the right
abbrev pub side : {L R : Type 0} → L → R → Pair L R
side x y = record { left = x; right = y }

-- one effect on either side
abbrev pub effects_beside : {V W G H : Type 0} → Effect G V → Effect H W → Effect (Pair G H) (Pair V W)
effects_beside e f = record { gate = side e.gate f.gate; forced = side e.forced f.forced }

-- what either kind does, done on its own side
abbrev pub paired : {V W G H : Type 0} → Algebra V G → Algebra W H → Algebra (Pair V W) (Pair G H)
paired a b = record {
  meet = λ x y. side (a.meet x.left y.left) (b.meet x.right y.right);
  top = side a.top b.top;
  open_gate = side a.open_gate b.open_gate;
  shut_gate = side a.shut_gate b.shut_gate;
  series = λ g h. side (a.series g.left h.left) (b.series g.right h.right);
  either = λ g h. side (a.either g.left h.left) (b.either g.right h.right);
  through = λ g x. side (a.through g.left x.left) (b.through g.right x.right);
  rank = λ x. a.rank x.left + b.rank x.right;
  gate_rank = λ g. a.gate_rank g.left + b.gate_rank g.right;
  effect = λ node s. effects_beside (a.effect node s) (b.effect node s);
}
