-- The values of one region more.
use Rattle.std.proofs.Common.{◌≡◌, ℕ, ◌+◌, ◌<◌, ◌⊎◌, List, length, sym, ap, ◌∙◌, subst, ap₂, inl, inr, arith}
use Rattle.std.proofs.lemmas.Bool.{cases_eq}
use Rattle.plan.specs.Drawn.{Drawn, Lies, Sound}
use Rattle.kinds.specs.declared.effect.Effect.{Effect}
use Rattle.kinds.specs.Kinds.{Algebra}
use Rattle.kinds.specs.Effects.{act}
use Rattle.runs.specs.Words.{Forks}
use Rattle.runs.specs.Actions.{steps_of}
use Rattle.runs.specs.Scheme.{Pick, Valued}
use Rattle.sweep.specs.Slots.{slot, forced_slot, value_slot, PutTo}
use Rattle.sweep.specs.Valuing.{home, ForcedFrom, SidesTo, ValuedTo}
use Rattle.sweep.proofs.Owners.{Owns, owns, owned_above, owned_within}

module _ {V G : Type 0} (a : Algebra V G) (p : Drawn) (s : Sound p) (start : V) (nodes : List (Effect G V)) (sides : List V) where
  pub valued_more : (vs us : List V) (r : ℕ) (base side : V) → (r ≡ 0 → base ≡ start) → ((f : ℕ) → Owns p f r → base ≡ value_slot a vs f) → side ≡ value_slot a sides (home p r)
      → PutTo a.top p r (λ n. a.meet (act a (slot a nodes n) base) side) vs us (length p.nodes) → ValuedTo a p start nodes sides vs r → ValuedTo a p start nodes sides us (r + 1)
  valued_more vs us r base side outer inner is put o = record {
    outermost = λ k h l. first k l (cases_eq r 0);
    branch = λ f q k qs rs h fork pick l. by f q k qs rs h fork pick l (cases_eq q r);
    rest = λ k h l. put.others k (λ e. omega (arith, l, e)) ∙ o.rest k h (omega (arith, l));
    long = put.long ∙ o.long;
  }
    where
      first : (k : ℕ) → Lies p 0 k → ((r ≡ 0) ⊎ (r ≡ 0 → ⊥)) → value_slot a us k ≡ a.meet (act a (slot a nodes k) start) (value_slot a sides (home p 0))
      first k l (inl e) =
          put.inside k l.0 (l.1 ∙ sym e) ∙ ap₂ (λ (b u : V). a.meet (act a (slot a nodes k) b) u) (outer e) (is ∙ ap (λ (q : ℕ). value_slot a sides (home p q)) e)
      first k l (inr ne) = put.others k (λ e. ne (sym e ∙ l.1)) ∙ o.outermost k (omega (arith, ne)) l

      by : (f q k : ℕ) (qs rs : List ℕ) → q < r + 1 → Forks p f qs → Pick q qs rs → Lies p q k → ((q ≡ r) ⊎ (q ≡ r → ⊥))
          → value_slot a us k ≡ a.meet (act a (slot a nodes k) (value_slot a us f)) (value_slot a sides (home p q))
      by f q k qs rs h fork pick l t = at t
        where
          own : Owns p f q
          own = owns p f q qs rs fork pick

          kept : value_slot a us f ≡ value_slot a vs f
          kept = put.others f (λ e. omega (arith, e, owned_above p s f q own, h))

          at : ((q ≡ r) ⊎ (q ≡ r → ⊥)) → value_slot a us k ≡ a.meet (act a (slot a nodes k) (value_slot a us f)) (value_slot a sides (home p q))
          at (inl e) =
              put.inside k l.0 (l.1 ∙ e)
              ∙ ap₂ (λ (b u : V). a.meet (act a (slot a nodes k) b) u) (inner f (subst (Owns p f) e own) ∙ sym kept) (is ∙ ap (λ (i : ℕ). value_slot a sides (home p i)) (sym e))
          at (inr ne) =
              put.others k (λ e. ne (sym l.1 ∙ e)) ∙ o.branch f q k qs rs (omega (arith, h, ne)) fork pick l
              ∙ ap (λ (b : V). a.meet (act a (slot a nodes k) b) (value_slot a sides (home p q))) (sym kept)

  -- forced values, side values and values together are those of the scheme
  pub all_valued : (forces : List (Effect G V)) (values : List V) → ForcedFrom a p 0 forces → SidesTo a p forces sides (length p.nodes) → ValuedTo a p start nodes sides values (length p.ends)
      → Valued a p (steps_of a p) (slot a nodes) start (forced_slot a forces) (λ q. value_slot a sides (home p q)) (value_slot a values)
  all_valued forces values f d v = record {
    forced = λ r h. f r (omega arith) h;
    side_outermost = d.outermost;
    side_branch = λ g q qs rs fork pick. d.branch g q qs rs fork.0 fork pick;
    value_outermost = λ n l. v.outermost n (omega (arith, s.counted)) l;
    value_branch = λ g q n qs rs fork pick l. v.branch g q n qs rs (owned_within p s g q (owns p g q qs rs fork pick)) fork pick l;
  }
