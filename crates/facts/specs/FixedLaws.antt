-- The laws of the one value that a variable has.
use Rattle.std.specs.Prelude.{◌≡◌, ℕ, ◌<◌, Bool, true, false, cond, ◌⊎◌, ℤ, pos, negsuc, ◌≢◌, refl}
use Rattle.std.proofs.Common.{sym, ap, inl, inr, arith}
use Rattle.std.proofs.Math.IntN.{pos-ne-negsuc}
use Rattle.std.proofs.lemmas.Bool.Decides.{eqb_tells}
use Rattle.facts.specs.declared.constant.Constant.{Constant}
use Rattle.facts.specs.declared.constant.Constant.TheVariants.{Unknown, Number, Unfixed}
use Rattle.facts.specs.declared.constant.Door.{Door}
use Rattle.facts.specs.declared.constant.Door.TheVariants.{Open, Shut}
use Rattle.kinds.specs.Kinds.{Laws}
use Rattle.facts.specs.Fixed.{equal, agreed, both_open, one_open, behind, height, door_height, fixed}

pub equal_tells : (m n : ℤ) → ((equal m n ≡ true) × (m ≡ n)) ⊎ ((equal m n ≡ false) × (m ≢ n))
equal_tells (pos a) (pos b) = elim (eqb_tells a b) [ inl e ↦ inl (e.0, ap pos e.1) | inr n ↦ inr (n.0, λ p. n.1 (cc)) ]
equal_tells (pos a) (negsuc b) = inr (refl, λ p. pos-ne-negsuc a b p)
equal_tells (negsuc a) (pos b) = inr (refl, λ p. pos-ne-negsuc b a (sym p))
equal_tells (negsuc a) (negsuc b) = elim (eqb_tells a b) [ inl e ↦ inl (e.0, ap negsuc e.1) | inr n ↦ inr (n.0, λ p. n.1 (cc)) ]

meet_assoc : (x y z : Constant) → agreed (agreed x y) z ≡ agreed x (agreed y z)
meet_assoc Unknown y z = refl
meet_assoc (Number m) Unknown z = refl
meet_assoc (Number m) (Number n) Unknown = grind (arith, equal_tells)
meet_assoc (Number m) (Number n) (Number k) = grind (arith, equal_tells)
meet_assoc (Number m) (Number n) Unfixed = grind (arith, equal_tells)
meet_assoc (Number m) Unfixed z = refl
meet_assoc Unfixed y z = refl

meet_comm : (x y : Constant) → agreed x y ≡ agreed y x
meet_comm Unknown Unknown = refl
meet_comm Unknown (Number n) = refl
meet_comm Unknown Unfixed = refl
meet_comm (Number m) Unknown = refl
meet_comm (Number m) (Number n) = grind (arith, equal_tells)
meet_comm (Number m) Unfixed = refl
meet_comm Unfixed Unknown = refl
meet_comm Unfixed (Number n) = refl
meet_comm Unfixed Unfixed = refl

pub meet_idem : (x : Constant) → agreed x x ≡ x
meet_idem Unknown = refl
meet_idem (Number m) = grind (arith, equal_tells)
meet_idem Unfixed = refl

meet_top : (x : Constant) → agreed x Unknown ≡ x
meet_top Unknown = refl
meet_top (Number m) = refl
meet_top Unfixed = refl

through_top : (g : Door) → behind g Unknown ≡ Unknown
through_top Open = refl
through_top Shut = refl

through_series : (g h : Door) (x : Constant) → behind (both_open g h) x ≡ behind h (behind g x)
through_series Open h x = refl
through_series Shut h x = sym (through_top h)

through_swap : (g h : Door) (x : Constant) → behind h (behind g x) ≡ behind g (behind h x)
through_swap Open h x = refl
through_swap Shut h x = through_top h

through_either : (g h : Door) (x : Constant) → behind (one_open g h) x ≡ agreed (behind g x) (behind h x)
through_either Open Open x = sym (meet_idem x)
through_either Open Shut x = sym (meet_top x)
through_either Shut h x = refl

through_meet : (g : Door) (x y : Constant) → behind g (agreed x y) ≡ agreed (behind g x) (behind g y)
through_meet Open x y = refl
through_meet Shut x y = refl

through_raises : (g : Door) (x : Constant) → agreed x (behind g x) ≡ x
through_raises Open x = meet_idem x
through_raises Shut x = meet_top x

meet_falls : (x y : Constant) → (agreed x y ≡ x) ⊎ (height (agreed x y) < height x)
meet_falls Unknown Unknown = inl refl
meet_falls Unknown (Number n) = inr (omega arith)
meet_falls Unknown Unfixed = inr (omega arith)
meet_falls (Number m) Unknown = inl refl
meet_falls (Number m) (Number n) =
    let T : Bool → Type 0 = λ b. (cond b (Number m) Unfixed ≡ Number m) ⊎ (height (cond b (Number m) Unfixed) < 1) in
    elim (equal m n) as T [ true ↦ inl refl | false ↦ inr (omega arith) ]
meet_falls (Number m) Unfixed = inr (omega arith)
meet_falls Unfixed y = inl refl

either_falls : (g h : Door) → (one_open g h ≡ g) ⊎ (door_height (one_open g h) < door_height g)
either_falls Open h = inl refl
either_falls Shut Open = inr (omega arith)
either_falls Shut Shut = inl refl

pub laws : (v : ℕ) → Laws (fixed v)
laws v = record {
  meet_assoc = meet_assoc;
  meet_comm = meet_comm;
  meet_idem = meet_idem;
  meet_top = meet_top;
  through_open = λ x. refl;
  through_shut = λ x. refl;
  through_top = through_top;
  through_series = through_series;
  through_swap = through_swap;
  through_either = through_either;
  through_meet = through_meet;
  through_raises = through_raises;
  meet_falls = meet_falls;
  either_falls = either_falls;
}
