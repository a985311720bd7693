-- The effects of a solution are no lower than all words together.
use Rattle.std.proofs.Common.{ℕ, zero, suc, ◌+◌, ◌<◌, ◌≤◌, List, [], ◌∷◌, length, sym, subst, inl, inr, arith}
use Rattle.std.proofs.lemmas.Bool.{cases_eq}
use Rattle.plan.specs.declared.node.Direction.{Direction}
use Rattle.plan.specs.Drawn.{Drawn, Lies}
use Rattle.kinds.specs.declared.effect.Effect.{Effect}
use Rattle.kinds.specs.Kinds.{Algebra, Laws}
use Rattle.kinds.specs.Effects.{followed}
use Rattle.runs.specs.Words.{Begins, Way, Way.start, Written, Written.step, Written.fork, Full, Full.full, Woven}
use Rattle.runs.specs.Actions.{joint}
use Rattle.runs.specs.Scheme.{does, Lowered, Lowered.starts, Lowered.lowers, Solved}
use Rattle.runs.proofs.Lists.{All, all_of}
use Rattle.runs.proofs.Plans.{Fit}
use Rattle.runs.proofs.Tight.{Tight, tight_passing, tight_blocked, tight_followed, tight_either, tight_beside, tight_more}
use Rattle.runs.proofs.Completed.{way_some}
use Rattle.runs.proofs.Scheme.{initial_first, initial_other, does_step, does_fork}
use Rattle.runs.proofs.Lower.{region_is}

module _ {V G : Type 0} {a : Algebra V G} (l : Laws a) {p : Drawn} {d : Direction} (fit : Fit p d) {steps regions : ℕ → Effect G V} where
  -- lowering keeps the node effects of a region tight
  tight_lowered : {r : ℕ} {nodes : ℕ → Effect G V} → Lowered a p d steps regions r nodes → ((n : ℕ) → Lies p r n → Tight a steps (Written p d n) (does a p steps regions n))
      → (n : ℕ) → Lies p r n → Tight a steps (Way p d r n) (nodes n)
  tight_lowered {r} (starts nodes m b is) h n lies =
      subst (Tight a steps (Way p d r n)) (sym (is n lies))
      (elim (cases_eq n m) [
        | inl same ↦ subst (Tight a steps (Way p d r n)) (sym (initial_first a same)) (tight_passing l steps (Way p d r n) (start (subst (Begins p d r) (sym same) b)))
        | inr other ↦
            let (w, way) = way_some fit r n lies in
            subst (Tight a steps (Way p d r n)) (sym (initial_other a other)) (tight_blocked l steps (Way p d r n) w way)
      ])
  tight_lowered {r} (lowers nodes next m k low from leads new old) h n lies =
      let before : (i : ℕ) → Lies p r i → Tight a steps (Way p d r i) (nodes i) = tight_lowered low h in
      elim (cases_eq n k) [
        | inl same ↦
            let arc =
            tight_followed l steps (Way p d r m) (Written p d m) (Way p d r k) (nodes m) (does a p steps regions m) (before m from) (h m from)
            (λ w v hw hv. Way.go hw hv leads) in
            let here = subst (λ (i : ℕ). Tight a steps (Way p d r i) (nodes i)) same (before n lies) in
            subst (λ (i : ℕ). Tight a steps (Way p d r i) (next i)) (sym same)
            (subst (Tight a steps (Way p d r k)) (sym new) (tight_either l steps (Way p d r k) (nodes k) (followed a (nodes m) (does a p steps regions m)) here arc))
        | inr other ↦ subst (Tight a steps (Way p d r n)) (sym (old n lies other)) (before n lies)
      ]

  -- words of all branches, shuffled
  tight_joint : {qs : List ℕ} → All (λ q. Tight a steps (Full p d q) (regions q)) qs → Tight a steps (Woven p d qs) (joint a regions qs)
  tight_joint All.none = tight_passing l steps (Woven p d []) Woven.none
  tight_joint (All.more {n = q} {ns = qs} h hs) =
      tight_beside l steps (Full p d q) (Woven p d qs) (Woven p d (q ∷ qs)) (regions q) (joint a regions qs) h (tight_joint hs) (λ w u s hw hu m. Woven.more hw hu m)

  tight_node : (r n : ℕ) → ((q : ℕ) → r < q → q < length p.ends → Tight a steps (Full p d q) (regions q)) → Lies p r n
      → Tight a steps (Written p d n) (does a p steps regions n)
  tight_node r n h lies =
      elim (fit.kind lies) [
        | inl s ↦ subst (Tight a steps (Written p d n)) (sym (does_step a p steps regions s)) (λ k x z below. below (n ∷ []) (step s))
        | inr (qs, f) ↦
            let each = all_of (λ q. Tight a steps (Full p d q) (regions q)) qs (λ q i. h q (fit.inner lies f i).0 (fit.inner lies f i).1) in
            subst (Tight a steps (Written p d n)) (sym (does_fork a p steps regions f))
            (tight_more l steps (Woven p d qs) (Written p d n) (joint a regions qs) (λ v hv. fork f hv) (tight_joint each))
      ]

  module _ {nodes : ℕ → Effect G V} (s : Solved a p d steps nodes regions) where
    -- by recursion on how many regions there are from r on
    tight_by : (k r : ℕ) → r < length p.ends → length p.ends ≤ r + k → Tight a steps (Full p d r) (regions r)
    tight_by zero r h c = absurd (omega arith)
    tight_by (suc k) r h c =
        let written : (n : ℕ) → Lies p r n → Tight a steps (Written p d n) (does a p steps regions n) =
        λ n. tight_node r n (λ q i j. tight_by k q j (omega arith)) in
        let (n, last) = fit.last h in
        let lies = fit.last_lies last in
        subst (Tight a steps (Full p d r)) (sym (region_is l fit s last))
        (tight_followed l steps (Way p d r n) (Written p d n) (Full p d r) (nodes n) (does a p steps regions n) (tight_lowered (s.lowered r h) written n lies) (written n lies)
        (λ w v hw hv. full hw last hv))

    pub full_tight : (r : ℕ) → r < length p.ends → Tight a steps (Full p d r) (regions r)
    full_tight r h = tight_by (length p.ends) r h (omega arith)

    pub way_tight : (r n : ℕ) → Lies p r n → Tight a steps (Way p d r n) (nodes n)
    way_tight r n lies = tight_lowered (s.lowered r (fit.within lies)) (λ m. tight_node r m (λ q i j. full_tight q j)) n lies
