-- What the nodes of a region force, node by node, and which regions it depends on.
use Rattle.std.proofs.Common.{◌≡◌, ℕ, zero, suc, ◌+◌, ◌<◌, Bool, true, false, cond, eqb, ◌⊎◌, List, [], ◌∷◌, length, get_or, drop, set, sym, refl, ap, ◌∙◌, subst, ap₂, inl, inr, add-one, arith, get_or-set_other, get_or-set_same}
use Rattle.std.proofs.lemmas.List.{at_drop_more}
use Rattle.std.proofs.lemmas.Bool.{cases_eq, eqb-true, eq-eqb, ne_eqb}
use Rattle.plan.specs.declared.node.Node.{Node}
use Rattle.plan.specs.declared.node.Node.TheVariants.{Step, Fork}
use Rattle.plan.specs.declared.statement.Statement.TheVariants.{Idle}
use Rattle.plan.specs.Drawn.{Drawn, node_at, region_of, Sound}
use Rattle.plan.proofs.Forks.{branches_within}
use Rattle.kinds.specs.declared.effect.Effect.{Effect}
use Rattle.kinds.specs.Kinds.{Algebra, Laws}
use Rattle.kinds.specs.Effects.{passing}
use Rattle.runs.specs.Words.{count_from}
use Rattle.runs.specs.Actions.{steps_of}
use Rattle.runs.specs.Scheme.{met, node_forces, all_force}
use Rattle.sweep.specs.Slots.{forced_slot}
use Rattle.sweep.specs.Valuing.{ForcedFrom}

module _ {V G : Type 0} (a : Algebra V G) (steps : ℕ → Effect G V) (forces : ℕ → V) (r : ℕ) (ns : List Node) where
  here : (n : ℕ) → n < length ns → all_force a steps forces r n (drop n ns)
      ≡ a.meet (cond (eqb (region_of (get_or ns n (Step 0 Idle))) r) (node_forces a steps forces n (get_or ns n (Step 0 Idle))) a.top) (all_force a steps forces r (n + 1) (drop (n + 1) ns))
  here n h = at_drop_more (all_force a steps forces r n) ns n (Step 0 Idle) h
      ∙ ap (λ (k : ℕ). a.meet (cond (eqb (region_of (get_or ns n (Step 0 Idle))) r) (node_forces a steps forces n (get_or ns n (Step 0 Idle))) a.top) (all_force a steps forces r k (drop (n + 1) ns))) (sym (add-one n))

  -- a node of the region adds what it forces
  pub force_in : (n : ℕ) → n < length ns → region_of (get_or ns n (Step 0 Idle)) ≡ r
      → all_force a steps forces r n (drop n ns) ≡ a.meet (node_forces a steps forces n (get_or ns n (Step 0 Idle))) (all_force a steps forces r (n + 1) (drop (n + 1) ns))
  force_in n h e = here n h ∙ ap (λ (b : Bool). a.meet (cond b (node_forces a steps forces n (get_or ns n (Step 0 Idle))) a.top) (all_force a steps forces r (n + 1) (drop (n + 1) ns))) (eq-eqb _ _ e)

  -- a node of another region adds nothing
  pub force_out : Laws a → (n : ℕ) → n < length ns → (region_of (get_or ns n (Step 0 Idle)) ≡ r → ⊥)
      → all_force a steps forces r n (drop n ns) ≡ all_force a steps forces r (n + 1) (drop (n + 1) ns)
  force_out l n h ne =
      here n h ∙ ap (λ (b : Bool). a.meet (cond b (node_forces a steps forces n (get_or ns n (Step 0 Idle))) a.top) (all_force a steps forces r (n + 1) (drop (n + 1) ns))) (ne_eqb _ _ ne)
      ∙ l.meet_comm _ _ ∙ l.meet_top _

module _ {V G : Type 0} (a : Algebra V G) (steps : ℕ → Effect G V) (r : ℕ) (f f' : ℕ → V) (same : (q : ℕ) → r < q → f q ≡ f' q) where
  met_agree : (b k : ℕ) → r < b → met a f (count_from b k) ≡ met a f' (count_from b k)
  met_agree b zero h = refl
  met_agree b (suc k) h = ap₂ a.meet (same b h) (met_agree (suc b) k (omega arith))

  node_agree : (n : ℕ) (x : Node) → ((q b k : ℕ) → x ≡ Fork q b k → q < b) → region_of x ≡ r → node_forces a steps f n x ≡ node_forces a steps f' n x
  node_agree n (Step q s) up e = refl
  node_agree n (Fork q b k) up e = met_agree b k (omega (arith, up q b k refl, e))

  -- what a region forces depends on regions of higher number only
  pub force_agree : (n : ℕ) (ns : List Node) → ((i q b k : ℕ) → i < length ns → get_or ns i (Step 0 Idle) ≡ Fork q b k → q < b) → all_force a steps f r n ns ≡ all_force a steps f' r n ns
  force_agree n [] up = refl
  force_agree n (x ∷ ns) up = ap₂ a.meet (by (eqb (region_of x) r) refl) (force_agree (suc n) ns (λ i q b k h e. up (suc i) q b k (omega arith) e))
    where
      by : (t : Bool) → eqb (region_of x) r ≡ t → cond t (node_forces a steps f n x) a.top ≡ cond t (node_forces a steps f' n x) a.top
      by true e = node_agree n x (λ q b k is. up 0 q b k (omega arith) is) (eqb-true _ _ e)
      by false e = refl

module _ {V G : Type 0} (a : Algebra V G) (p : Drawn) (s : Sound p) where
  up : (i q b k : ℕ) → i < length p.nodes → node_at p i ≡ Fork q b k → q < b
  up i q b k h e = (branches_within p s i q b k h e).0

  -- one region more
  pub forced_more : (forces : List (Effect G V)) (i r : ℕ) (v : Effect G V) → i ≡ r + 1 → r < length forces → v.forced ≡ all_force a (steps_of a p) (forced_slot a forces) r 0 p.nodes
      → ForcedFrom a p i forces → ForcedFrom a p r (set forces r v)
  forced_more forces i r v is h new old q l within = by (cases_eq q r)
    where
      kept : (o : ℕ) → r < o → forced_slot a forces o ≡ forced_slot a (set forces r v) o
      kept o m = ap (λ (e : Effect G V). e.forced) (sym (get_or-set_other forces r o v (passing a) (λ e. omega (arith, m, e))))

      by : ((q ≡ r) ⊎ (q ≡ r → ⊥)) → forced_slot a (set forces r v) q ≡ all_force a (steps_of a p) (forced_slot a (set forces r v)) q 0 p.nodes
      by (inl e) =
          subst (λ (o : ℕ). forced_slot a (set forces r v) o ≡ all_force a (steps_of a p) (forced_slot a (set forces r v)) o 0 p.nodes) (sym e)
          (ap (λ (e : Effect G V). e.forced) (get_or-set_same forces r v (passing a) h) ∙ new ∙ force_agree a (steps_of a p) r (forced_slot a forces) (forced_slot a (set forces r v)) kept 0 p.nodes up)
      by (inr ne) =
          sym (kept q (omega (arith, l, ne))) ∙ old q (omega (arith, l, ne, is)) within
          ∙ force_agree a (steps_of a p) q (forced_slot a forces) (forced_slot a (set forces r v)) (λ o m. kept o (omega (arith, m, l))) 0 p.nodes up
