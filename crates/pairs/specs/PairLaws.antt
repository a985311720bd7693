-- The laws of two kinds side by side follow from theirs.
use Rattle.std.specs.Prelude.{◌≡◌, ◌⊎◌, ℕ, ◌+◌, ◌<◌}
use Rattle.std.proofs.Common.{ap, ap₂, inl, inr, arith}
use Rattle.kinds.specs.Kinds.{Algebra, Laws}
use Rattle.pairs.specs.Pairs.{side, paired}

-- what stays or falls on each side does so as a pair
both_fall : {L R : Type 0} (p : L → ℕ) (q : R → ℕ) (x x' : L) (y y' : R)
    → (x' ≡ x) ⊎ (p x' < p x) → (y' ≡ y) ⊎ (q y' < q y) → (side x' y' ≡ side x y) ⊎ (p x' + q y' < p x + q y)
both_fall p q x x' y y' (inl e) (inl f) = inl (ap₂ side e f)
both_fall p q x x' y y' (inl e) (inr l) = inr (omega (arith, l, ap p e))
both_fall p q x x' y y' (inr k) (inl f) = inr (omega (arith, k, ap q f))
both_fall p q x x' y y' (inr k) (inr l) = inr (omega arith)

pub laws : {V W G H : Type 0} {a : Algebra V G} {b : Algebra W H} → Laws a → Laws b → Laws (paired a b)
laws {a = a} {b = b} l r = record {
  meet_assoc = λ x y z. ap₂ side (l.meet_assoc x.left y.left z.left) (r.meet_assoc x.right y.right z.right);
  meet_comm = λ x y. ap₂ side (l.meet_comm x.left y.left) (r.meet_comm x.right y.right);
  meet_idem = λ x. ap₂ side (l.meet_idem x.left) (r.meet_idem x.right);
  meet_top = λ x. ap₂ side (l.meet_top x.left) (r.meet_top x.right);
  through_open = λ x. ap₂ side (l.through_open x.left) (r.through_open x.right);
  through_shut = λ x. ap₂ side (l.through_shut x.left) (r.through_shut x.right);
  through_top = λ g. ap₂ side (l.through_top g.left) (r.through_top g.right);
  through_series = λ g h x. ap₂ side (l.through_series g.left h.left x.left) (r.through_series g.right h.right x.right);
  through_swap = λ g h x. ap₂ side (l.through_swap g.left h.left x.left) (r.through_swap g.right h.right x.right);
  through_either = λ g h x. ap₂ side (l.through_either g.left h.left x.left) (r.through_either g.right h.right x.right);
  through_meet = λ g x y. ap₂ side (l.through_meet g.left x.left y.left) (r.through_meet g.right x.right y.right);
  through_raises = λ g x. ap₂ side (l.through_raises g.left x.left) (r.through_raises g.right x.right);
  meet_falls = λ x y. both_fall a.rank b.rank x.left _ x.right _ (l.meet_falls x.left y.left) (r.meet_falls x.right y.right);
  either_falls = λ g h. both_fall a.gate_rank b.gate_rank g.left _ g.right _ (l.either_falls g.left h.left) (r.either_falls g.right h.right);
}
