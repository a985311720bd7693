-- Forks by their numbers, and the order in which their branches are numbered.
use mathlib.Core.Logic.{∥∥₁_elim}
use Rattle.std.proofs.Common.{◌≡◌, ℕ, zero, suc, ◌+◌, ◌<◌, ◌≤◌, true, ◌⊎◌, List, [], ◌∷◌, length, get_or, take, sym, refl, ap, ◌∙◌, subst, inl, inr, Some, None, Option, MatchOption, arith}
use Rattle.std.specs.List.{AllWithin, HoldsAt}
use Rattle.std.proofs.lemmas.Bool.{cases_order, true≢false}
use Rattle.plan.specs.declared.node.Node.{Node}
use Rattle.plan.specs.declared.node.Node.TheVariants.{Step, Fork}
use Rattle.plan.specs.declared.statement.Statement.TheVariants.{Idle}
use Rattle.plan.specs.Drawn.{Drawn, node_at, region_of, width, branches, regions_before, Sound}
use Rattle.plan.specs.Calls.{is_fork}
use Rattle.plan.specs.declared.node.Direction.TheVariants.{Forward}
use Rattle.plan.specs.Paths.{Whole}
use Rattle.plan.proofs.Forks.{branches_within}
use Rattle.runs.proofs.Plans.{fit}
use Rattle.runs.proofs.Lists.{In, in_pick}
use Rattle.sweep.specs.Valuing.{Branch}
use Rattle.runs.specs.Words.{count_from, branches_of, Forks}
use Rattle.runs.specs.Scheme.{Pick, Pick.here, Pick.there}

-- the branches of an earlier node are numbered before those of a later one
before_step : (ns : List Node) (d : Node) (f n : ℕ) → f < n → f < length ns → branches (take f ns) + width (get_or ns f d) ≤ branches (take n ns)
before_step [] d f n h l = absurd (omega arith)
before_step (x ∷ ns) d f zero h l = absurd (omega arith)
before_step (x ∷ ns) d zero (suc n) h l = omega arith
before_step (x ∷ ns) d (suc f) (suc n) h l = omega (arith, before_step ns d f n (omega arith) (omega arith))

fork_parts : (x : Node) → is_fork x ≡ true → (r b k : ℕ) × (x ≡ Fork r b k)
fork_parts (Step r s) e = absurd (true≢false (sym e))
fork_parts (Fork r b k) e = (r, b, k, refl)

pub picked_from : (b k q : ℕ) (rs : List ℕ) → Pick q (count_from b k) rs → (b ≤ q) × (q < b + k)
picked_from b zero q rs pick = elim pick [ ]
picked_from b (suc k) _ _ here = (omega arith, omega arith)
picked_from b (suc k) q _ (there {rs = rs} pick) = let t = picked_from (suc b) k q rs pick in (omega arith, omega arith)

-- a fork with one of its branches
pub record Owns (p : Drawn) (f q : ℕ) : Type 0 where
  pub region : ℕ
  pub first : ℕ
  pub count : ℕ
  pub there : f < length p.nodes
  pub is : node_at p f ≡ Fork region first count
  pub from : first ≤ q
  pub to : q < first + count

pub owns : (p : Drawn) (f q : ℕ) (qs rs : List ℕ) → Forks p f qs → Pick q qs rs → Owns p f q
owns p f q qs rs (h, t, e) pick =
    let x = fork_parts (node_at p f) t in
    let range = picked_from x.1 x.2 q rs (subst (λ (os : List ℕ). Pick q os rs) (sym e ∙ ap branches_of x.3) pick) in
    record { region = x.0; first = x.1; count = x.2; there = h; is = x.3; from = range.0; to = range.1 }

module _ (p : Drawn) (s : Sound p) where
  -- the branches of a fork were there before any later node, and lie above the fork's own region
  pub owned_before : (f q n : ℕ) → f < n → Owns p f q → q < regions_before p n
  owned_before f q n h o =
      omega (arith, o.to, s.forked f o.region o.first o.count o.there o.is, ap width o.is, before_step p.nodes (Step 0 Idle) f n h o.there)

  pub owned_above : (f q : ℕ) → Owns p f q → region_of (node_at p f) < q
  owned_above f q o = omega (arith, o.from, (branches_within p s f o.region o.first o.count o.there o.is).0, ap region_of o.is)

  pub owned_within : (f q : ℕ) → Owns p f q → q < length p.ends
  owned_within f q o = omega (arith, o.to, (branches_within p s f o.region o.first o.count o.there o.is).1)

  -- a region is a branch of one fork only
  pub owner_unique : (f g q : ℕ) → Owns p f q → Owns p g q → f ≡ g
  owner_unique f g q o u = by (cases_order f g)
    where
      by : ((f ≡ g) ⊎ ((f < g) ⊎ (g < f))) → f ≡ g
      by (inl e) = e
      by (inr (inl h)) = absurd (omega (arith, owned_before f q g h o, u.from, s.forked g u.region u.first u.count u.there u.is))
      by (inr (inr h)) = absurd (omega (arith, owned_before g q f h u, o.from, s.forked f o.region o.first o.count o.there o.is))

  -- the region of a node was there before the next node
  pub region_before : (k n : ℕ) → k < n → k < length p.nodes → region_of (node_at p k) < regions_before p n
  region_before k n h l = omega (arith, s.placed k l, before_step p.nodes (Step 0 Idle) k n h l)

-- what the code finds of a fork and its branch
pub owned_branch : (p : Drawn) (f q : ℕ) → f < length p.nodes → Branch (node_at p f) q → Owns p f q
owned_branch p f q h b = by (node_at p f) refl b
  where
    by : (x : Node) → node_at p f ≡ x → Branch x q → Owns p f q
    by (Step r s) is b = absurd b
    by (Fork r first count) is b = record { region = r; first = first; count = count; there = h; is = is; from = b.0; to = b.1 }

pub branch_owned : (p : Drawn) (f q : ℕ) → Owns p f q → Branch (node_at p f) q
branch_owned p f q o = subst (λ (x : Node). Branch x q) (sym o.is) (o.from, o.to)

-- every region but the outermost is a branch of some fork
pub some_owner : (p : Drawn) → Sound p → Whole p → (q : ℕ) → 0 < q → q < length p.ends → (f : ℕ) × Owns p f q
some_owner p s w q h l = by ((fit p s w Forward).outer q l)
  where
    by : (q ≡ 0) ⊎ ((f : ℕ) × (qs : List ℕ) × Forks p f qs × In q qs) → (f : ℕ) × Owns p f q
    by (inl e) = absurd (omega (arith, h, e))
    by (inr (f, qs, fork, i)) = let t = in_pick i in (f, owns p f q qs t.0 fork t.1)

-- and a search for the first such node finds one
pub fork_found : (p : Drawn) → Sound p → ∥ Whole p ∥₁ → (q : ℕ) → 0 < q → q < length p.ends → (found : Option ℕ)
    → MatchOption found (AllWithin (λ x. Branch x q → ⊥) p.nodes 0 (length p.nodes))
    (λ f. (f < length p.nodes) × HoldsAt (λ x. Branch x q) p.nodes f × AllWithin (λ x. Branch x q → ⊥) p.nodes 0 f)
    → (f : ℕ) × (found ≡ Some f) × (f < length p.nodes) × Branch (node_at p f) q
fork_found p s w q h l (Some f) t = (f, refl, t.0, t.1 (Step 0 Idle))
fork_found p s w q h l None none =
    absurd (∥∥₁_elim w (λ x y. absurd x) (λ v. let o = some_owner p s v q h l in none o.0 (Step 0 Idle) (omega arith) o.1.there (branch_owned p o.0 q o.1)))
