-- What a sweep of four variables finds of the steps that send one of them.
use Rattle.std.proofs.Common.{◌≡◌, ℕ, zero, suc, ◌+◌, ◌-◌, ◌<◌, ◌≤◌, Bool, true, false, cond, ◌&&◌, ltb, leb, ◌↔◌, List, length, get_or, set, ℤ, is_some, Some, None, Option, sym, refl, ap, ◌∙◌, subst, inl, inr, add-zero, arith, get_or-set_other, get_or-set_same}
use borrow.Author.Tests.{clash}
use Rattle.std.proofs.lemmas.Bool.{cases_eq, and_parts, and_cases, leb-true, leb-false, ltb-true, ltb-false}
use Rattle.plan.specs.declared.statement.Statement.TheVariants.{Idle, Wait, Set, Copy, Send, Probe, Add, Sub, Min, Max}
use Rattle.plan.specs.declared.node.Node.{Node}
use Rattle.plan.specs.declared.node.Node.TheVariants.{Step, Fork}
use Rattle.plan.specs.declared.node.Direction.TheVariants.{Forward}
use Rattle.plan.specs.Drawn.{Drawn, node_at, Sound}
use Rattle.plan.specs.Paths.{Whole}
use Rattle.facts.specs.declared.constant.Constant.TheVariants.{Unfixed}
use Rattle.kinds.specs.Effects.{IsMeet}
use Rattle.facts.specs.Fixed.{fixed}
use Rattle.facts.specs.Four.{two, four}
use Rattle.runs.specs.Actions.{run, steps_of}
use Rattle.runs.specs.Runs.{Run}
use Rattle.sweep.specs.Swept.{ValuesMeet}
use Rattle.facts.specs.Numbers.{number_of, Fits32}
use Rattle.report.specs.Fixing.{FixedTo}
use Rattle.report.specs.Listing.{Filled}
use Rattle.report.specs.Sending.{sent_by, Four, four_from, unknown_four, one_of, noted, sent_of, SendsBelow, SentBelow}
use Rattle.report.proofs.LastValue.{meet_set, number_some}
use Rattle.report.proofs.Pairs.{left_meet, right_meet}
use Rattle.report.proofs.Reached.{run_some}

-- what sends is a send
sent_step : (x : Node) (v : ℕ) → sent_by x ≡ Some v → (r : ℕ) × (x ≡ Step r (Send v))
sent_step (Step r Idle) v e = cc
sent_step (Step r Wait) v e = cc
sent_step (Step r (Set u c)) v e = cc
sent_step (Step r (Copy u a)) v e = cc
sent_step (Step r (Send a)) v e = (r, ap (λ (u : ℕ). Step r (Send u)) cc)
sent_step (Step r (Probe u q)) v e = cc
sent_step (Step r (Add u a b)) v e = cc
sent_step (Step r (Sub u a b)) v e = cc
sent_step (Step r (Min u a b)) v e = cc
sent_step (Step r (Max u a b)) v e = cc
sent_step (Fork r b k) v e = cc

-- nothing is known of the four at the start
abbrev pub unfixed_four : Four
unfixed_four = record { left = record { left = Unfixed; right = Unfixed }; right = record { left = Unfixed; right = Unfixed } }

-- each of the four is found as it would be alone
one_meets : (p : Drawn) (first i : ℕ) → i < 4 → {member : List ℕ → Type 0} {x : Four} → IsMeet (four (four_from first)) member (λ w. run (four (four_from first)) (steps_of (four (four_from first)) p) w unfixed_four) x
    → IsMeet (fixed (first + i)) member (λ w. run (fixed (first + i)) (steps_of (fixed (first + i)) p) w Unfixed) (one_of x i)
one_meets p first zero h {member} {x} m =
    subst (λ (v : ℕ). IsMeet (fixed v) member (λ w. run (fixed v) (steps_of (fixed v) p) w Unfixed) x.left.left) (sym (add-zero first))
    (left_meet (fixed first) (fixed (first + 1)) p (left_meet (two (four_from first).left) (two (four_from first).right) p m))
one_meets p first (suc zero) h m = right_meet (fixed first) (fixed (first + 1)) p (left_meet (two (four_from first).left) (two (four_from first).right) p m)
one_meets p first (suc (suc zero)) h m = left_meet (fixed (first + 2)) (fixed (first + 3)) p (right_meet (two (four_from first).left) (two (four_from first).right) p m)
one_meets p first (suc (suc (suc zero))) h m = right_meet (fixed (first + 2)) (fixed (first + 3)) p (right_meet (two (four_from first).left) (two (four_from first).right) p m)
one_meets p first (suc (suc (suc (suc i)))) h m = absurd (omega arith)

module _ (p : Drawn) (sound : Sound p) (whole : Whole p) (first n : ℕ) (there : n < length p.nodes) (x : Four)
    (m : IsMeet (four (four_from first)) (Run p Forward n) (λ w. run (four (four_from first)) (steps_of (four (four_from first)) p) w unfixed_four) x) where
  -- the value of one of the four is a number if every run leaves that number
  fixed_here : (v : ℕ) → first ≤ v → v < first + 4 → (c : ℤ) → (number_of (one_of x (v - first)) ≡ Some c) ↔ FixedTo p v n c
  fixed_here v low high c =
      let is : first + (v - first) ≡ v = omega (arith, low) in
      let s = run_some p sound whole Forward n there in
      let t = meet_set (first + (v - first)) p (one_meets p first (v - first) (omega (arith, low, high)) m) s.0 s.1 c in
      let o = number_some (one_of x (v - first)) c in
      subst (λ (u : ℕ). (number_of (one_of x (v - first)) ≡ Some c) ↔ FixedTo p u n c) is (λ e. t.0 (o.0 e), λ all. o.1 (t.1 all))

  -- a step that sends v sends no other
  sends_it : (limit v : ℕ) → sent_by (node_at p n) ≡ Some v → (c : ℤ) → SendsBelow p limit n c → (v < limit) × FixedTo p v n c
  sends_it limit v is c s =
      let other : sent_by (node_at p n) ≡ Some s.1 = ap sent_by s.3 in
      let same : s.1 ≡ v = cc in
      subst (λ (u : ℕ). (u < limit) × FixedTo p u n c) same (s.2, s.4)

  module _ (before : Option ℤ) (was : (c : ℤ) → (before ≡ Some c) ↔ SendsBelow p first n c) where
    noted_some : (v : ℕ) → sent_by (node_at p n) ≡ Some v → (c : ℤ) (b : Bool) → (leb first v && ltb v (first + 4)) ≡ b
        → (cond b (number_of (one_of x (v - first))) before ≡ Some c) ↔ SendsBelow p (first + 4) n c
    noted_some v is c true test =
        let range = and_parts (leb first v) (ltb v (first + 4)) test in
        let high = ltb-true v (first + 4) range.1 in
        let here = fixed_here v (leb-true first v range.0) high c in
        let step = sent_step (node_at p n) v is in
        (λ e. (step.0, v, high, step.1, here.0 e), λ s. here.1 (sends_it (first + 4) v is c s).1)
    noted_some v is c false test = (
      λ e. let s = (was c).0 e in (s.0, s.1, omega (arith, s.2), s.3, s.4),
      λ s. let found = sends_it (first + 4) v is c s in
          let step = sent_step (node_at p n) v is in
          let low : v < first = elim (and_cases (leb first v) (ltb v (first + 4)) test) [ inl l ↦ leb-false first v l | inr r ↦ absurd (omega (arith, ltb-false v (first + 4) r, found.0)) ] in
          (was c).1 (step.0, v, low, step.1, found.1),
    )

    noted_means : (o : Option ℕ) → sent_by (node_at p n) ≡ o → (c : ℤ) → (noted first x before o ≡ Some c) ↔ SendsBelow p (first + 4) n c
    noted_means None is c = (
      λ e. let s = (was c).0 e in (s.0, s.1, omega (arith, s.2), s.3, s.4),
      λ s. absurd (clash (sym (ap is_some is) ∙ ap (λ (o : Node). is_some (sent_by o)) s.3)),
    )
    noted_means (Some v) is c = noted_some v is c (leb first v && ltb v (first + 4)) refl

    pub sent_means : (c : ℤ) → (noted first x before (sent_by (node_at p n)) ≡ Some c) ↔ SendsBelow p (first + 4) n c
    sent_means = noted_means (sent_by (node_at p n)) refl

pub fitting_set : (xs : List (Option ℤ)) (n : ℕ) (x : Option ℤ) → n < length xs → Fits32 x → ((k : ℕ) → Fits32 (get_or xs k None)) → (k : ℕ) → Fits32 (get_or (set xs n x) k None)
fitting_set xs n x h f all k =
    elim (cases_eq k n) [
      | inl same ↦ λ c e. f c (sym (ap (λ (i : ℕ). get_or (set xs n x) i None) same ∙ get_or-set_same xs n x None h) ∙ e)
      | inr other ↦ λ c e. all k c (sym (get_or-set_other xs n k x None other) ∙ e)
    ]

pub sent_below : (p : Drawn) → Sound p → Whole p → (first : ℕ) (vs : List Four) → ValuesMeet (four (four_from first)) p Forward unfixed_four vs
    → (before after : List (Option ℤ)) → SentBelow p first before
    → Filled None (λ n. sent_of (node_at p n) first (get_or vs n unknown_four) (get_or before n None)) (length p.nodes) before after
    → ((n : ℕ) → Fits32 (get_or after n None)) → SentBelow p (first + 4) after
sent_below p sound whole first vs meets before after below filled fits = record {
  means = λ n h c. subst (λ (o : Option ℤ). (o ≡ Some c) ↔ SendsBelow p (first + 4) n c) (sym (filled.front n h))
      (sent_means p sound whole first n h (get_or vs n unknown_four) (meets n h) (get_or before n None) (below.means n h) c);
  fits = fits;
}
