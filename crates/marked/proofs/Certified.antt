-- A bit that is 1 on every run that reaches a node, by a certificate: it gives what is sure of the ways, the regions and the approaches,
-- and a test finds it stable.
use Rattle.std.proofs.Common.{◌≡◌, ℕ, zero, suc, ◌<◌, Bool, true, false, cond, not, ◌&&◌, ◌||◌, List, [], ◌∷◌, ◌++◌, length, get_or, Some, None, Option, sym, refl, ap, ◌∙◌, subst, inl, inr, arith}
use borrow.Author.Tests.{clash}
use Rattle.std.proofs.lemmas.Bool.{and_parts, cases_eq, cond-true, cond-false, not-true}
use Rattle.plan.specs.declared.node.Arc.{Arc}
use Rattle.plan.specs.declared.node.Ends.{Ends}
use Rattle.plan.specs.declared.node.Direction.{Direction}
use Rattle.plan.specs.Drawn.{Drawn, node_at, arc_at, ends_at, region_of}
use Rattle.plan.specs.Calls.{is_fork}
use Rattle.plan.specs.Paths.{turned, first_in, last_in, Leads}
use Rattle.runs.specs.Words.{branches_of, Begins, Closes, Way, Way.start, Written, Written.step, Written.fork, Full, Full.full, Woven, Beginning}
use Rattle.runs.specs.Runs.{Begun, Approach, Approach.direct, Approach.inside, Nearing, Nearing.first, Nearing.later, Run}
use Rattle.runs.proofs.Lists.{In, all_map}
use Rattle.runs.proofs.Plans.{Fit}
use Rattle.runs.proofs.Completed.{way_lies}
use Rattle.runs.proofs.Inside.{Inside, Inside.here, Inside.deeper, beginning_steps}
use Rattle.report.proofs.Bitwise.{along}
use Rattle.marked.proofs.Changes.{Change, loses, sure, never, keeps, below, lower, followed, beside, step_change, Does, does_below, does_left, does_right, does_followed, does_beside, does_step, does_spared}

-- ---- tests of each number below a limit, and of each of a list

abbrev all_below : (ℕ → Bool) → ℕ → Bool
all_below test zero = true
all_below test (suc k) = all_below test k && test k

below_each : (test : ℕ → Bool) (k : ℕ) → all_below test k ≡ true → (n : ℕ) → n < k → test n ≡ true
below_each test zero h n i = absurd (omega arith)
below_each test (suc k) h n i =
    let t = and_parts (all_below test k) (test k) h in
    elim (cases_eq n k) [
      | inl e ↦ ap test e ∙ t.1
      | inr e ↦ below_each test k t.0 n (omega arith)
    ]

abbrev all_in : (ℕ → Bool) → List ℕ → Bool
all_in test [] = true
all_in test (n ∷ ns) = test n && all_in test ns

in_each : (test : ℕ → Bool) {n : ℕ} {ns : List ℕ} → all_in test ns ≡ true → In n ns → test n ≡ true
in_each test {n} h (In.here {ns = ns}) = (and_parts (test n) (all_in test ns) h).0
in_each test h (In.there {m = m} {ns = ns} i) = in_each test (and_parts (test m) (all_in test ns) h).1 i

-- ---- what a certificate gives, and when it is stable

pub record Certificate : Type 0 where
  -- for each node, what the ways to it do
  pub ways : List Change
  -- for each region, what its full words do
  pub fulls : List Change
  -- for each region, whether no step inside makes the bit 0
  pub spared : List Bool
  -- for each region, what the approaches to the one node do
  pub nears : List Change

module _ (p : Drawn) (d : Direction) (zeroed raised : ℕ → Bool) (target : ℕ) (t : Certificate) where
  abbrev way : ℕ → Change
  way n = get_or t.ways n loses

  abbrev entire : ℕ → Change
  entire r = get_or t.fulls r loses

  abbrev spares : ℕ → Bool
  spares r = get_or t.spared r false

  abbrev begun : ℕ → Change
  begun r = cond (spares r) keeps loses

  abbrev near : ℕ → Change
  near r = get_or t.nears r loses

  -- all of some regions at once
  abbrev joint : (ℕ → Change) → List ℕ → Change
  joint change [] = keeps
  joint change (q ∷ qs) = beside (change q) (joint change qs)

  -- up to the node in one region, and as far as may be in the others
  abbrev nearing : List ℕ → Change
  nearing [] = never
  nearing (q ∷ qs) = lower (beside (near q) (joint begun qs)) (beside (begun q) (nearing qs))

  abbrev does : ℕ → Change
  does n = cond (is_fork (node_at p n)) (joint entire (branches_of (node_at p n))) (step_change (zeroed n) (raised n))

  abbrev arc_test : Arc → Bool
  arc_test a = below (way a.to) (followed (way a.from) (does a.from))

  abbrev ends_test : ℕ → Option Ends → Bool
  ends_test r None = true
  ends_test r (Some e) = below (way (first_in d e)) keeps && below (entire r) (followed (way (last_in d e)) (does (last_in d e)))

  -- a region is spared only if its steps and its branches are
  abbrev spares_test : ℕ → Bool
  spares_test n = not (spares (region_of (node_at p n))) || (not (zeroed n) && all_in spares (branches_of (node_at p n)))

  abbrev near_test : ℕ → Bool
  near_test n = below (near (region_of (node_at p n))) (followed (way n) (nearing (branches_of (node_at p n))))

  abbrev stable : Bool
  stable =
      all_below (λ k. arc_test (turned d (arc_at p k))) (length p.arcs)
      && (all_below (λ r. ends_test r (ends_at p r)) (length p.ends)
      && (all_below spares_test (length p.nodes)
      && (all_below near_test (length p.nodes)
      && below (near (region_of (node_at p target))) (way target))))

  -- whether the bit is sure to be 1 on every run, if it is x before
  abbrev pub certified : Bool → Bool
  certified x = stable && below (sure x) (near 0)

  -- ---- so it is sure of the words

  module _ (fit : Fit p d) (is-stable : stable ≡ true) where
    record Tested : Type 0 where
      arcs : (k : ℕ) → k < length p.arcs → arc_test (turned d (arc_at p k)) ≡ true
      ends : (r : ℕ) → r < length p.ends → ends_test r (ends_at p r) ≡ true
      spares_all : (n : ℕ) → n < length p.nodes → spares_test n ≡ true
      nears_all : (n : ℕ) → n < length p.nodes → near_test n ≡ true
      at_target : below (near (region_of (node_at p target))) (way target) ≡ true

    tested : Tested
    tested =
        let a = and_parts _ _ is-stable in
        let b = and_parts _ _ a.1 in
        let c = and_parts _ _ b.1 in
        let e = and_parts _ _ c.1 in
        record { arcs = below_each _ _ a.0; ends = below_each _ _ b.0; spares_all = below_each _ _ c.0; nears_all = below_each _ _ e.0; at_target = e.1 }

    first_test : (r n : ℕ) → Begins p d r n → below (way n) keeps ≡ true
    first_test r n (e, is, at) =
        let h : ends_test r (Some e) ≡ true = subst (λ o. ends_test r o ≡ true) is (tested.ends r (fit.within (fit.first_lies (e, is, at)))) in
        subst (λ (m : ℕ). below (way m) keeps ≡ true) at (and_parts _ _ h).0

    last_test : (r n : ℕ) → Closes p d r n → below (entire r) (followed (way n) (does n)) ≡ true
    last_test r n (e, is, at) =
        let h : ends_test r (Some e) ≡ true = subst (λ o. ends_test r o ≡ true) is (tested.ends r (fit.within (fit.last_lies (e, is, at)))) in
        subst (λ (m : ℕ). below (entire r) (followed (way m) (does m)) ≡ true) at (and_parts _ _ h).1

    lead_test : {m n : ℕ} → Leads p d m n → below (way n) (followed (way m) (does m)) ≡ true
    lead_test (k, within, is) = subst (λ a. arc_test a ≡ true) is (tested.arcs k within)

    mutual
      way_does : {r n : ℕ} {w : List ℕ} → Way p d r n w → Does zeroed raised (way n) w
      way_does (start {r = r} {n = n} b) = does_below zeroed raised (way n) keeps [] (first_test r n b) refl
      way_does (Way.go {m = m} {n = n} {w = w} {v = v} h k arc) =
          does_below zeroed raised (way n) (followed (way m) (does m)) (w ++ v) (lead_test arc)
          (does_followed zeroed raised (way m) (does m) w v (way_does h) (written_does k))

      written_does : {n : ℕ} {v : List ℕ} → Written p d n v → Does zeroed raised (does n) v
      written_does (step {n = n} h) = subst (λ c. Does zeroed raised c (n ∷ [])) (sym (cond-false _ _ _ h.1)) (does_step zeroed raised n)
      written_does (fork {n = n} {v = v} f h) =
          subst (λ c. Does zeroed raised c v) (sym (cond-true _ _ _ f.1 ∙ ap (joint entire) f.2)) (woven_does h)

      full_does : {r : ℕ} {w : List ℕ} → Full p d r w → Does zeroed raised (entire r) w
      full_does (full {r = r} {n = n} {w = w} {v = v} h c k) =
          does_below zeroed raised (entire r) (followed (way n) (does n)) (w ++ v) (last_test r n c)
          (does_followed zeroed raised (way n) (does n) w v (way_does h) (written_does k))

      woven_does : {qs v : List ℕ} → Woven p d qs v → Does zeroed raised (joint entire qs) v
      woven_does Woven.none = refl
      woven_does (Woven.more {q = q} {qs = qs} h hs m) = does_beside zeroed raised (entire q) (joint entire qs) m (full_does h) (woven_does hs)

    spared_node : (b c e : Bool) → (not b || (not c && e)) ≡ true → b ≡ true → (c ≡ false) × (e ≡ true)
    spared_node true c e h i = let t = and_parts (not c) e h in (not-true c t.0, t.1)
    spared_node false c e h i = absurd (clash i)

    inside_spared : {r n : ℕ} → Inside p r n → spares r ≡ true → zeroed n ≡ false
    inside_spared (here {n = n} lies) h = (spared_node _ _ _ (tested.spares_all n lies.0) (ap spares lies.1 ∙ h)).0
    inside_spared (deeper {f = f} lies forks i x) h =
        let t = (spared_node _ _ _ (tested.spares_all f lies.0) (ap spares lies.1 ∙ h)).1 in
        inside_spared x (in_each spares (sym (ap (all_in spares) forks.2) ∙ t) i)

    beginning_does : {r : ℕ} (u : List ℕ) → Beginning p d r u → Does zeroed raised (begun r) u
    beginning_does {r} u b = does_spared zeroed raised (spares r) (λ h. all_map (λ n (i, is). inside_spared i h) (beginning_steps fit u b))

    begun_does : {qs v : List ℕ} → Begun p d qs v → Does zeroed raised (joint begun qs) v
    begun_does Begun.none = refl
    begun_does (Begun.more {q = q} {qs = qs} {u = u} b bs m) = does_beside zeroed raised (begun q) (joint begun qs) m (beginning_does u b) (begun_does bs)

    mutual
      approach_does : {r n : ℕ} {w : List ℕ} → Approach p d r n w → n ≡ target → Does zeroed raised (near r) w
      approach_does (direct {r = r} {n = n} {w = w} h) e =
          let at : region_of (node_at p target) ≡ r = ap (λ (m : ℕ). region_of (node_at p m)) (sym e) ∙ (way_lies fit h).1 in
          does_below zeroed raised (near r) (way target) w (subst (λ (o : ℕ). below (near o) (way target) ≡ true) at tested.at_target)
          (subst (λ (m : ℕ). Does zeroed raised (way m) w) e (way_does h))
      approach_does (inside {r = r} {f = f} {qs = qs} {w = w} {v = v} h forks y) e =
          let lies = way_lies fit h in
          let test : below (near r) (followed (way f) (nearing qs)) ≡ true =
          subst (λ (o : ℕ). below (near o) (followed (way f) (nearing qs)) ≡ true) lies.1
          (subst (λ (os : List ℕ). below (near (region_of (node_at p f))) (followed (way f) (nearing os)) ≡ true) forks.2 (tested.nears_all f lies.0)) in
          does_below zeroed raised (near r) (followed (way f) (nearing qs)) (w ++ v) test
          (does_followed zeroed raised (way f) (nearing qs) w v (way_does h) (nearing_does y e))

      nearing_does : {n : ℕ} {qs v : List ℕ} → Nearing p d n qs v → n ≡ target → Does zeroed raised (nearing qs) v
      nearing_does (first {q = q} {qs = qs} {s = s} y bs m) e =
          does_left zeroed raised (beside (near q) (joint begun qs)) (beside (begun q) (nearing qs)) s
          (does_beside zeroed raised (near q) (joint begun qs) m (approach_does y e) (begun_does bs))
      nearing_does (later {q = q} {qs = qs} {u = u} {s = s} b y m) e =
          does_right zeroed raised (beside (near q) (joint begun qs)) (beside (begun q) (nearing qs)) s
          (does_beside zeroed raised (begun q) (nearing qs) m (beginning_does u b) (nearing_does y e))

  -- then it is
  pub every_run : Fit p d → (x : Bool) → certified x ≡ true → (w : List ℕ) → Run p d target w → along zeroed raised w x ≡ true
  every_run fit x h w run =
      let c = and_parts stable (below (sure x) (near 0)) h in
      does_below zeroed raised (sure x) (near 0) w c.1 (approach_does fit c.0 run refl)
