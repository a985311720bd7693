-- How a fact of a plan is shown: that it is so, by a certificate; that it is not, by a run.
use Rattle.std.proofs.Common.{◌≡◌, ℕ, Bool, true, false, cond, not, ◌&&◌, eqb, ◌↔◌, List, [], ◌∷◌, ℤ, None, sym, refl, ap, ◌∙◌, subst, inl, inr, arith, eqb-true}
use mathlib.Core.Bool.{or-false}
use borrow.Author.Tests.{clash, not-true}
use Rattle.std.proofs.lemmas.Bool.{not_from_false}
use Rattle.plan.specs.declared.node.Direction.TheVariants.{Forward, Backward}
use Rattle.plan.specs.Drawn.{Drawn, node_at, Sound}
use Rattle.plan.specs.Paths.{Whole}
use Rattle.facts.specs.declared.constant.Constant.{Constant}
use Rattle.facts.specs.declared.constant.Constant.TheVariants.{Unknown, Number, Unfixed}
use Rattle.expressions.specs.declared.expression.Expression.{Expression}
use Rattle.bitset.specs.Bits.{bit}
use Rattle.expressions.specs.Expressions.{computed_by}
use Rattle.facts.specs.Fixed.{equal, fixed}
use Rattle.expressions.specs.Variables.{among}
use Rattle.facts.specs.FixedLaws.{equal_tells}
use Rattle.runs.specs.Actions.{run, steps_of}
use Rattle.runs.specs.Runs.{Run}
use Rattle.runs.proofs.Plans.{fit}
use Rattle.report.specs.Strikes.{disturbed_by, Computes, Available, RedundantStep}
use Rattle.report.specs.Unread.{assigned_by, used_by, Assigns, Unread, DeadStep}
use Rattle.report.specs.Fixing.{FixedTo}
use Rattle.report.proofs.Backing.{since_map}
use Rattle.report.proofs.Bitwise.{becomes, along, along_law}
use Rattle.report.proofs.AvailableBits.{made_by, made_of, of_made}
use Rattle.report.proofs.LastValue as value
use Rattle.marked.proofs.Certified.{Certificate, certified, every_run}

-- whether a number is known to be c
abbrev pub known : ℤ → Constant → Bool
known c Unknown = false
known c (Number d) = equal c d
known c Unfixed = false

known_number : (c : ℤ) (x : Constant) → known c x ≡ true → x ≡ Number c
known_number c Unknown h = absurd (clash h)
known_number c (Number d) h = elim (equal_tells c d) [ inl t ↦ ap Number (sym t.1) | inr t ↦ absurd (clash (sym t.0 ∙ h)) ]
known_number c Unfixed h = absurd (clash h)

module _ (p : Drawn) where
  -- ---- what each step does to the bit of a fact

  abbrev pub disturbs : Expression → ℕ → Bool
  disturbs e n = disturbed_by (node_at p n) e

  abbrev pub makes : Expression → ℕ → Bool
  makes e n = made_by (node_at p n) e

  abbrev pub uses : ℕ → ℕ → Bool
  uses v n = among v (used_by (node_at p n))

  abbrev pub assigns : ℕ → ℕ → Bool
  assigns v n = among v (assigned_by (node_at p n))

  abbrev pub sets_to : ℕ → ℤ → ℕ → Bool
  sets_to v c n = assigns v n && known c (value.made_by (node_at p n))

  abbrev pub sets_else : ℕ → ℤ → ℕ → Bool
  sets_else v c n = assigns v n && not (known c (value.made_by (node_at p n)))

  -- ---- what the bit says of a word

  bit_available : (e : Expression) (w : List ℕ) → (along (disturbs e) (makes e) w false ≡ true) ↔ Available p e w
  bit_available e w =
      let l = along_law (disturbs e) (makes e) w false in (
        λ h. elim (l.0 h) [ inl t ↦ absurd (clash t.0) | inr t ↦ since_map (λ m. made_of e (computed_by (node_at p m))) t ],
        λ a. l.1 (inr (since_map (λ m. of_made e (computed_by (node_at p m))) a)),
      )

  bit_unread : (v kept : ℕ) (w : List ℕ) → (along (uses v) (assigns v) w (not (bit v kept)) ≡ true) ↔ Unread p v kept w
  bit_unread v kept w =
      let l = along_law (uses v) (assigns v) w (not (bit v kept)) in (
        λ h. elim (l.0 h) [ inl t ↦ inl (not-true (bit v kept) t.0, t.1) | inr t ↦ inr t ],
        λ u. l.1 (elim u [ inl t ↦ inl (not_from_false (bit v kept) t.0, t.1) | inr t ↦ inr t ]),
      )

  known_after : (c : ℤ) (a : Bool) (k x : Constant) → becomes (a && not (known c k)) (a && known c k) (known c x) ≡ known c (cond a k x)
  known_after c true k x = go (known c k) (known c x)
    where
      go : (m y : Bool) → becomes (not m) m y ≡ m
      go true true = refl
      go true false = refl
      go false true = refl
      go false false = refl
  known_after c false k x = go (known c x)
    where
      go : (y : Bool) → becomes false false y ≡ y
      go true = refl
      go false = refl

  bit_known : (v : ℕ) (c : ℤ) (w : List ℕ) (x : Constant) → along (sets_else v c) (sets_to v c) w (known c x) ≡ known c (value.last v p w x)
  bit_known v c [] x = refl
  bit_known v c (n ∷ w) x = ap (along (sets_else v c) (sets_to v c) w) (known_after c (assigns v n) (value.made_by (node_at p n)) x) ∙ bit_known v c w (value.after v p n x)

  -- ---- that a fact is not so

  pub not_redundant : (n : ℕ) (e : Expression) (w : List ℕ) → Computes p e n → Run p Forward n w → along (disturbs e) (makes e) w false ≡ false → RedundantStep p n → ⊥
  not_redundant n e w computes r lost (f, is, all) =
      let same : f ≡ e = cc in
      clash (sym lost ∙ (bit_available e w).1 (subst (λ (g : Expression). Available p g w) same (all w r)))

  pub nothing_computed : (n : ℕ) → computed_by (node_at p n) ≡ None → RedundantStep p n → ⊥
  nothing_computed n none (e, is, all) = let z : ◌≡◌ {A = ℕ} 0 1 = cc in omega arith

  pub not_dead : (kept n v : ℕ) (w : List ℕ) (b : Bool) → assigned_by (node_at p n) ≡ v ∷ [] → bit v kept ≡ b → Run p Backward n w
      → along (uses v) (assigns v) w (not b) ≡ false → DeadStep p kept n → ⊥
  not_dead kept n v w b is k r lost (u, sets, all) =
      let same : v ≡ u = eqb-true v u (sym (or-false (eqb v u)) ∙ sym (ap (among u) is) ∙ sets) in
      let one = (bit_unread v kept w).1 (subst (λ (i : ℕ). Unread p i kept w) (sym same) (all w r)) in
      clash (sym lost ∙ ap (λ x. along (uses v) (assigns v) w (not x)) (sym k) ∙ one)

  pub nothing_assigned : (kept n : ℕ) → assigned_by (node_at p n) ≡ [] → DeadStep p kept n → ⊥
  nothing_assigned kept n none (v, sets, all) = clash (sym (ap (among v) none) ∙ sets)

  -- what a run leaves in a variable is what it is fixed to
  pub left_fixed : (v n : ℕ) (w : List ℕ) (c d : ℤ) → Run p Forward n w → run (fixed v) (steps_of (fixed v) p) w Unfixed ≡ Number c → FixedTo p v n d → c ≡ d
  left_fixed v n w c d r left all = let e = (value.run_set v p d w).1 (all w r) in cc

  pub not_fixed : (v n : ℕ) (w u : List ℕ) (b c : ℤ) → Run p Forward n w → run (fixed v) (steps_of (fixed v) p) w Unfixed ≡ Number b
      → Run p Forward n u → run (fixed v) (steps_of (fixed v) p) u Unfixed ≡ Number c → equal b c ≡ false → (d : ℤ) → FixedTo p v n d → ⊥
  not_fixed v n w u b c r left s right differ d all =
      let same : b ≡ c = left_fixed v n w b d r left all ∙ sym (left_fixed v n u c d s right all) in
      elim (equal_tells b c) [ inl t ↦ clash (sym differ ∙ t.0) | inr t ↦ t.1 same ]

  -- ---- that it is so

  module _ (sound : Sound p) (whole : Whole p) where
    pub redundant : (n : ℕ) (e : Expression) → Computes p e n → (t : Certificate) → certified p Forward (disturbs e) (makes e) n t false ≡ true → RedundantStep p n
    redundant n e computes t ok =
        (e, computes, λ w r. (bit_available e w).0 (every_run p Forward (disturbs e) (makes e) n t (fit p sound whole Forward) false ok w r))

    pub dead : (kept n v : ℕ) (b : Bool) → Assigns p v n → bit v kept ≡ b → (t : Certificate) → certified p Backward (uses v) (assigns v) n t (not b) ≡ true → DeadStep p kept n
    dead kept n v b sets k t ok = (
      v,
      sets,
      λ w r. (bit_unread v kept w).0 (ap (λ x. along (uses v) (assigns v) w (not x)) k
          ∙ every_run p Backward (uses v) (assigns v) n t (fit p sound whole Backward) (not b) ok w r),
    )

    pub fixed_to : (v n : ℕ) (c : ℤ) (t : Certificate) → certified p Forward (sets_else v c) (sets_to v c) n t false ≡ true → FixedTo p v n c
    fixed_to v n c t ok =
        λ w r. (value.run_set v p c w).0 (value.run_last v p w Unfixed ∙ known_number c (value.last v p w Unfixed) (sym (bit_known v c w Unfixed)
        ∙ every_run p Forward (sets_else v c) (sets_to v c) n t (fit p sound whole Forward) false ok w r))
