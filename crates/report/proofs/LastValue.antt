-- What a run leaves in a variable.
use Rattle.std.proofs.Common.{◌≡◌, ℕ, ◌<◌, Bool, true, false, cond, ◌||◌, eqb, ◌⊎◌, ◌↔◌, List, [], ◌∷◌, ◌++◌, length, get_or, ℤ, Some, Option, sym, refl, ap, ◌∙◌, ap₂, inl, inr, eq-eqb, eqb-true}
use mathlib.Core.Bool.{or-false}
use Rattle.std.proofs.lemmas.Bool.{cases_Bool, cond-true, cond-false}
use Rattle.plan.specs.declared.node.Node.{Node}
use Rattle.plan.specs.declared.node.Node.TheVariants.{Step, Fork}
use Rattle.plan.specs.declared.statement.Statement.TheVariants.{Idle, Wait, Set, Copy, Send, Probe, Add, Sub, Min, Max}
use Rattle.plan.specs.Drawn.{Drawn, node_at, Sound}
use Rattle.facts.specs.declared.constant.Constant.{Constant}
use Rattle.facts.specs.declared.constant.Constant.TheVariants.{Unknown, Number, Unfixed}
use Rattle.facts.specs.declared.constant.Door.TheVariants.{Open, Shut}
use Rattle.kinds.specs.Effects.{act, IsMeet}
use Rattle.facts.specs.Fixed.{fixed, agreed, becomes}
use Rattle.facts.specs.FixedLaws.{equal_tells, meet_idem}
use Rattle.expressions.specs.Variables.{among, assigned}
use Rattle.runs.specs.Actions.{run, of_node, steps_of}
use Rattle.report.specs.Strikes.{Every}
use Rattle.report.specs.Unread.{assigned_by}
use Rattle.facts.specs.Numbers.{number_of}
use Rattle.report.specs.Fixing.{Sets, Unassigned, LastSet, FixedBefore}
use Rattle.report.proofs.Reached.{run_some}
use Rattle.sweep.specs.Swept.{ValuesMeet}
use Rattle.plan.specs.declared.node.Direction.TheVariants.{Forward}
use Rattle.plan.specs.Paths.{Whole}

-- what a node makes of a variable that it assigns
abbrev pub made_by : Node → Constant
made_by (Step r s) = becomes s
made_by (Fork r b k) = Unfixed

agreed_unknown : (x : Constant) → agreed x Unknown ≡ x
agreed_unknown Unknown = refl
agreed_unknown (Number m) = refl
agreed_unknown Unfixed = refl

made_known : (x : Node) → made_by x ≡ Unknown → ⊥
made_known (Step r Idle) e = cc
made_known (Step r Wait) e = cc
made_known (Step r (Set v c)) e = cc
made_known (Step r (Copy v a)) e = cc
made_known (Step r (Send a)) e = cc
made_known (Step r (Probe v q)) e = cc
made_known (Step r (Add v a b)) e = cc
made_known (Step r (Sub v a b)) e = cc
made_known (Step r (Min v a b)) e = cc
made_known (Step r (Max v a b)) e = cc
made_known (Fork r b k) e = cc

-- what a number is below is that number, if anything is known
above_number : (c : ℤ) (x : Constant) → agreed (Number c) x ≡ Number c → (x ≡ Unknown → ⊥) → x ≡ Number c
above_number c Unknown b k = absurd (k refl)
above_number c (Number d) b k =
    elim (equal_tells c d) [
      | inl t ↦ ap Number (sym t.1)
      | inr t ↦ let is : Unfixed ≡ Number c = sym (cond-false _ (Number c) Unfixed t.0) ∙ b in cc
    ]
above_number c Unfixed b k = b

module _ (v : ℕ) where
  node_act : (n : ℕ) (x : Node) (y : Constant) → act (fixed v) (of_node (fixed v) n x) y ≡ cond (among v (assigned_by x)) (made_by x) y
  node_act n (Step r s) y = go (assigned v s)
    where
      go : (b : Bool) → act (fixed v) (cond b (record { gate = Shut; forced = becomes s }) (record { gate = Open; forced = Unknown })) y ≡ cond b (becomes s) y
      go true = refl
      go false = agreed_unknown y
  node_act n (Fork r b k) y = agreed_unknown y

  -- a number is made by `set` alone
  made_set : (x : Node) (c : ℤ) → among v (assigned_by x) ≡ true → made_by x ≡ Number c → (r : ℕ) × (x ≡ Step r (Set v c))
  made_set (Step r Idle) c a e = cc
  made_set (Step r Wait) c a e = cc
  made_set (Step r (Set w d)) c a e = (r, ap₂ (λ i j. Step r (Set i j)) (eqb-true w v (sym (or-false (eqb w v)) ∙ a)) cc)
  made_set (Step r (Copy w a')) c a e = cc
  made_set (Step r (Send w)) c a e = cc
  made_set (Step r (Probe w q)) c a e = cc
  made_set (Step r (Add w i j)) c a e = cc
  made_set (Step r (Sub w i j)) c a e = cc
  made_set (Step r (Min w i j)) c a e = cc
  made_set (Step r (Max w i j)) c a e = cc
  made_set (Fork r b k) c a e = cc

  module _ (p : Drawn) where
    abbrev pub after : ℕ → Constant → Constant
    after n x = cond (among v (assigned_by (node_at p n))) (made_by (node_at p n)) x

    abbrev pub last : List ℕ → Constant → Constant
    last [] x = x
    last (n ∷ w) x = last w (after n x)

    pub run_last : (w : List ℕ) (x : Constant) → run (fixed v) (steps_of (fixed v) p) w x ≡ last w x
    run_last [] x = refl
    run_last (n ∷ w) x = run_last w (act (fixed v) (steps_of (fixed v) p n) x) ∙ ap (last w) (node_act n (node_at p n) x)

    -- once something is known, it stays so
    last_known : (w : List ℕ) (x : Constant) → (x ≡ Unknown → ⊥) → last w x ≡ Unknown → ⊥
    last_known [] x h e = h e
    last_known (n ∷ w) x h e =
        last_known w (after n x) (elim (cases_Bool (among v (assigned_by (node_at p n)))) [
          | inl t ↦ λ q. made_known (node_at p n) (sym (cond-true _ (made_by (node_at p n)) x t) ∙ q)
          | inr t ↦ λ q. h (sym (cond-false _ (made_by (node_at p n)) x t) ∙ q)
        ]) e

    last_kept : (w : List ℕ) (x : Constant) → Every (Unassigned p v) w → last w x ≡ x
    last_kept [] x h = refl
    last_kept (n ∷ w) x (Every.more h hs) = last_kept w (after n x) hs ∙ cond-false _ (made_by (node_at p n)) x h

    set_after : (c : ℤ) (n : ℕ) (x : Constant) → Sets p v c n → after n x ≡ Number c
    set_after c n x s = ap (λ (m : Node). cond (among v (assigned_by m)) (made_by m) x) s.1 ∙ cond-true (eqb v v || false) (Number c) x (or-false (eqb v v) ∙ eq-eqb v v refl)

    last_set : (c : ℤ) (u : List ℕ) (m : ℕ) (w : List ℕ) (x : Constant) → Sets p v c m → Every (Unassigned p v) w → last (u ++ (m ∷ w)) x ≡ Number c
    last_set c [] m w x s h = last_kept w (after m x) h ∙ set_after c m x s
    last_set c (n ∷ u) m w x s h = last_set c u m w (after n x) s h

    later : {c : ℤ} {n : ℕ} {w : List ℕ} → LastSet p v c w → LastSet p v c (n ∷ w)
    later {n = n} t = record { before = n ∷ t.before; at = t.at; behind = t.behind; cut = ap (λ u. n ∷ u) t.cut; is = t.is; kept = t.kept }

    last_from : (c : ℤ) (w : List ℕ) (x : Constant) → last w x ≡ Number c → ((x ≡ Number c) × Every (Unassigned p v) w) ⊎ LastSet p v c w
    last_from c [] x e = inl (e, Every.none)
    last_from c (n ∷ w) x e =
        elim (last_from c w (after n x) e) [
          | inr t ↦ inr (later t)
          | inl t ↦ elim (cases_Bool (among v (assigned_by (node_at p n)))) [
            | inl a ↦ inr (record { before = []; at = n; behind = w; cut = refl; is = made_set (node_at p n) c a (sym (cond-true _ (made_by (node_at p n)) x a) ∙ t.0); kept = t.1 })
            | inr a ↦ inl (sym (cond-false _ (made_by (node_at p n)) x a) ∙ t.0, Every.more a t.1)
          ]
        ]

    pub run_set : (c : ℤ) (w : List ℕ) → (run (fixed v) (steps_of (fixed v) p) w Unfixed ≡ Number c) ↔ LastSet p v c w
    run_set c w = (
      λ e. elim (last_from c w Unfixed (sym (run_last w Unfixed) ∙ e)) [ inl t ↦ cc | inr t ↦ t ],
      λ t. run_last w Unfixed ∙ ap (λ u. last u Unfixed) t.cut ∙ last_set c t.before t.at t.behind Unfixed t.is t.kept,
    )

    run_known : (w : List ℕ) → run (fixed v) (steps_of (fixed v) p) w Unfixed ≡ Unknown → ⊥
    run_known w e = last_known w Unfixed (λ q. cc) (sym (run_last w Unfixed) ∙ e)

    -- the meet over all runs is a number if all leave that number
    pub meet_set : {member : List ℕ → Type 0} {x : Constant} → IsMeet (fixed v) member (λ w. run (fixed v) (steps_of (fixed v) p) w Unfixed) x
        → (u : List ℕ) → member u → (c : ℤ) → (x ≡ Number c) ↔ ((w : List ℕ) → member w → LastSet p v c w)
    meet_set {x = x} m u there c = (
      λ e w k. (run_set c w).0 (above_number c _ (sym (ap (λ t. agreed t (run (fixed v) (steps_of (fixed v) p) w Unfixed)) e) ∙ (m.lower w k).is ∙ e) (run_known w)),
      λ h. above_number c x (m.greatest (Number c) (λ w k. record { is = ap (agreed (Number c)) ((run_set c w).1 (h w k)) ∙ meet_idem (Number c) })).is
          (λ e. run_known u (sym (ap (λ t. agreed t (run (fixed v) (steps_of (fixed v) p) u Unfixed)) e) ∙ (m.lower u there).is ∙ e)),
    )

pub number_some : (x : Constant) (c : ℤ) → (number_of x ≡ Some c) ↔ (x ≡ Number c)
number_some Unknown c = (λ e. cc, λ e. cc)
number_some (Number d) c = (λ e. ap Number cc, λ e. ap number_of e)
number_some Unfixed c = (λ e. cc, λ e. cc)

pub fixed_before : (p : Drawn) → Sound p → Whole p → (v n : ℕ) → v < 16 → n < length p.nodes → (vs : List Constant) → ValuesMeet (fixed v) p Forward Unfixed vs
    → (r : Option ℤ) → r ≡ number_of (get_or vs n Unknown) → FixedBefore p v n r
fixed_before p sound whole v n low h vs meets r is = record {
  whole = whole;
  node = h;
  variable = low;
  fixed = λ c.
      let s = run_some p sound whole Forward n h in
      let m = meet_set v p (meets n h) s.0 s.1 c in
      let o = number_some (get_or vs n Unknown) c in
      (λ e. m.0 (o.0 (sym is ∙ e)), λ all. is ∙ o.1 (m.1 all));
}
