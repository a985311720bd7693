-- What the steps inside a region force is the meet of their forced values.
use Rattle.std.proofs.Common.{◌≡◌, ℕ, zero, suc, ◌+◌, ◌<◌, ◌≤◌, Bool, true, false, cond, eqb, List, [], ◌∷◌, length, get_or, sym, refl, ap, ◌∙◌, subst, inl, inr, arith}
use Rattle.std.proofs.lemmas.Bool.{eq-eqb, eqb-true}
use Rattle.plan.specs.declared.statement.Statement.TheVariants.{Idle}
use Rattle.plan.specs.declared.node.Node.{Node}
use Rattle.plan.specs.declared.node.Node.TheVariants.{Step}
use Rattle.plan.specs.declared.node.Direction.{Direction}
use Rattle.plan.specs.Drawn.{Drawn, node_at, region_of, Lies}
use Rattle.kinds.specs.declared.effect.Effect.{Effect}
use Rattle.kinds.specs.Kinds.{Algebra, Laws}
use Rattle.kinds.specs.Effects.{Below, act}
use Rattle.runs.specs.Words.{IsStep, Forks}
use Rattle.runs.specs.Scheme.{met, node_forces, all_force, Valued}
use Rattle.runs.proofs.Rules.{laws}
use Rattle.runs.proofs.Order.{below_eq, below_trans, below_is, meet_left, meet_right, below_act_meet}
use Rattle.runs.proofs.Lists.{In}
use Rattle.runs.proofs.Plans.{Fit}
use Rattle.runs.proofs.Scheme.{step_forces, fork_forces}
use Rattle.runs.proofs.Inside.{Inside, Inside.here, Inside.deeper}

-- in a list of nodes that are numbered from m on, node n is the i-th and lies in region r
record Numbered (r : ℕ) (ns : List Node) (m n i : ℕ) : Type 0 where
  number : n ≡ m + i
  there : i < length ns
  lies : region_of (get_or ns i (Step 0 Idle)) ≡ r

module _ {V G : Type 0} {a : Algebra V G} (l : Laws a) where
  open a use {meet, top}

  met_below : (value : ℕ → V) {q : ℕ} {qs : List ℕ} → In q qs → Below a (met a value qs) (value q)
  met_below value In.here = meet_left l _ _
  met_below value (In.there i) = below_trans l (meet_right l _ _) (met_below value i)

  -- below an effect at x met with each of two values, so at x met with both
  below_both : (k : Effect G V) (x y w z : V) → Below a z (act a k (meet x y)) → Below a z (act a k (meet x w)) → Below a z (act a k (meet x (meet y w)))
  below_both k x y w z p q =
      let e : meet (meet x y) (meet x w) ≡ meet x (meet y w) = simp (laws, l) in
      below_is l (below_act_meet l k p q) (ap (act a k) e)

  below_none : (k : Effect G V) (x z : V) → Below a z (act a k x) → Below a z (act a k (meet x top))
  below_none k x z p = below_is l p (ap (act a k) (sym (l.meet_top x)))

  pub met_tight : (value : ℕ → V) (k : Effect G V) (x z : V) → Below a z (act a k x) → (qs : List ℕ) → ((q : ℕ) → In q qs → Below a z (act a k (meet x (value q))))
      → Below a z (act a k (meet x (met a value qs)))
  met_tight value k x z p [] h = below_none k x z p
  met_tight value k x z p (q ∷ qs) h = below_both k x _ _ z (h q In.here) (met_tight value k x z p qs (λ o i. h o (In.there i)))

  module _ (steps : ℕ → Effect G V) (forces : ℕ → V) (r : ℕ) where
    all_below : (ns : List Node) (m n i : ℕ) → Numbered r ns m n i → Below a (all_force a steps forces r m ns) (node_forces a steps forces n (get_or ns i (Step 0 Idle)))
    all_below [] m n i h = absurd (omega (arith, h.there))
    all_below (x ∷ ns) m n zero h =
        let same : m ≡ n = omega (arith, h.number) in
        below_is l (meet_left l _ _) (ap (λ b. cond b (node_forces a steps forces m x) top) (eq-eqb (region_of x) r h.lies) ∙ ap (λ (k : ℕ). node_forces a steps forces k x) same)
    all_below (x ∷ ns) m n (suc i) h =
        below_trans l (meet_right l _ _) (all_below ns (suc m) n i (record { number = omega (arith, h.number); there = omega (arith, h.there); lies = h.lies }))

    all_tight : (k : Effect G V) (x z : V) → Below a z (act a k x) → (ns : List Node) (m : ℕ)
        → ((n i : ℕ) → Numbered r ns m n i → Below a z (act a k (meet x (node_forces a steps forces n (get_or ns i (Step 0 Idle))))))
        → Below a z (act a k (meet x (all_force a steps forces r m ns)))
    all_tight k x z p [] m h = below_none k x z p
    all_tight k x z p (y ∷ ns) m h =
        below_both k x _ _ z (own (eqb (region_of y) r) refl)
        (all_tight k x z p ns (suc m) (λ n i t. h n (suc i) (record { number = omega (arith, t.number); there = omega (arith, t.there); lies = t.lies })))
      where
        own : (b : Bool) → eqb (region_of y) r ≡ b → Below a z (act a k (meet x (cond b (node_forces a steps forces m y) top)))
        own true e = h m 0 (record { number = omega arith; there = omega arith; lies = eqb-true (region_of y) r e })
        own false e = below_none k x z p

  module _ {p : Drawn} {d : Direction} (fit : Fit p d) {steps nodes : ℕ → Effect G V}
      {start : V} {forces side value : ℕ → V} (v : Valued a p steps nodes start forces side value) where
    node_below : (r n : ℕ) → Lies p r n → Below a (forces r) (node_forces a steps forces n (node_at p n))
    node_below r n lies =
        below_trans l (below_eq l (v.forced r (fit.within lies)))
        (all_below steps forces r p.nodes 0 n n (record { number = omega arith; there = lies.0; lies = lies.1 }))

    -- what a region forces is below what every step inside it forces
    pub forces_below : {r n : ℕ} → Inside p r n → IsStep p n → Below a (forces r) (steps n).forced
    forces_below (here {r = r} {n = n} lies) is = below_is l (node_below r n lies) (step_forces a p steps forces is)
    forces_below (deeper {r = r} {f = f} lies forks i x) is =
        below_trans l (below_is l (node_below r f lies) (fork_forces a p steps forces forks)) (below_trans l (met_below forces i) (forces_below x is))

    module _ (k : Effect G V) (x z : V) (below : Below a z (act a k x)) where
      node_tight : (r n : ℕ) → Lies p r n → (IsStep p n → Below a z (act a k (steps n).forced))
          → ((q : ℕ) (qs : List ℕ) → Forks p n qs → In q qs → Below a z (act a k (meet x (forces q))))
          → Below a z (act a k (meet x (node_forces a steps forces n (node_at p n))))
      node_tight r n lies at-step at-branch =
          elim (fit.kind lies) [
            | inl is ↦ below_is l (below_act_meet l k below (at-step is)) (ap (λ y. act a k (meet x y)) (sym (step_forces a p steps forces is)))
            | inr (qs, f) ↦
                below_is l (met_tight forces k x z below qs (λ q i. at-branch q qs f i))
                (ap (λ y. act a k (meet x y)) (sym (fork_forces a p steps forces f)))
          ]

      region_tight : (r : ℕ) → r < length p.ends → ((n : ℕ) → Lies p r n → Below a z (act a k (meet x (node_forces a steps forces n (node_at p n)))))
          → Below a z (act a k (meet x (forces r)))
      region_tight r within h =
          below_is l (all_tight steps forces r k x z below p.nodes 0 (λ n i t. at n i (omega (arith, t.number)) (t.there, t.lies)))
          (ap (λ y. act a k (meet x y)) (sym (v.forced r within)))
        where
          at : (n i : ℕ) → i ≡ n → Lies p r i → Below a z (act a k (meet x (node_forces a steps forces n (node_at p i))))
          at n i e lies = subst (λ (j : ℕ). Below a z (act a k (meet x (node_forces a steps forces j (node_at p i))))) e (h i lies)

      -- by recursion on how many regions there are from r on
      tight_by : (b r : ℕ) → r < length p.ends → length p.ends ≤ r + b → ((n : ℕ) → Inside p r n → IsStep p n → Below a z (act a k (steps n).forced))
          → Below a z (act a k (meet x (forces r)))
      tight_by zero r within c h = absurd (omega arith)
      tight_by (suc b) r within c h =
          region_tight r within (λ n lies. node_tight r n lies (h n (here lies))
          (λ q qs f i. let (more, there) = fit.inner lies f i in tight_by b q there (omega arith) (λ m inside. h m (deeper lies f i inside))))

      -- and whatever is below what all those steps force is below it, behind any effect and beside any value
      pub forces_tight : (r : ℕ) → r < length p.ends → ((n : ℕ) → Inside p r n → IsStep p n → Below a z (act a k (steps n).forced))
          → Below a z (act a k (meet x (forces r)))
      forces_tight r within = tight_by (length p.ends) r within (omega arith)
