-- Nodes inside a region, however deep, and regions inside one another.
use Rattle.std.proofs.Common.{ℕ, zero, suc, ◌<◌, List, length, sym, refl, subst, inl, inr, arith}
use Rattle.plan.specs.declared.node.Direction.{Direction}
use Rattle.plan.specs.Drawn.{Drawn, Lies, node_at, region_of}
use Rattle.runs.specs.Words.{IsStep, Forks, Way, Way.start, Written, Written.step, Written.fork, Full, Full.full, Woven, Beginning}
use Rattle.runs.specs.Scheme.{Pick}
use Rattle.runs.proofs.Lists.{In, All, all_map, all_append, all_front, in_pick, pick_in}
use Rattle.runs.proofs.Shuffles.{all_shuffle}
use Rattle.runs.proofs.Plans.{Fit}
use Rattle.runs.proofs.Completed.{way_lies}

-- node n lies in region r, or in a branch of a fork of r, however deep
pub data Inside (p : Drawn) : ℕ → ℕ → Type 0 where
  here : {r n : ℕ} → Lies p r n → Inside p r n
  deeper : {r f q n : ℕ} {qs : List ℕ} → Lies p r f → Forks p f qs → In q qs → Inside p q n → Inside p r n

-- the forks around a region, from region 0 on
pub data Nested (p : Drawn) : ℕ → Type 0 where
  outermost : Nested p 0
  branch : {r f q : ℕ} {qs rs : List ℕ} → Nested p r → Lies p r f → Forks p f qs → Pick q qs rs → Nested p q

abbrev pub StepInside : Drawn → ℕ → ℕ → Type 0
StepInside p r n = Inside p r n × IsStep p n

pub nested_inside : {p : Drawn} {r n : ℕ} → Nested p r → Inside p r n → Inside p 0 n
nested_inside outermost i = i
nested_inside (branch out lies f k) i = nested_inside out (deeper lies f (pick_in k) i)

module _ {p : Drawn} {d : Direction} (fit : Fit p d) where
  -- every region is nested, since that of its fork has a lower number
  nested_by : (k q : ℕ) → q < k → q < length p.ends → Nested p q
  nested_by zero q c h = absurd (omega arith)
  nested_by (suc k) q c h =
      elim (fit.outer q h) [
        | inl e ↦ subst (Nested p) (sym e) outermost
        | inr (f, qs, forks, i) ↦
            let lies : Lies p (region_of (node_at p f)) f = (forks.0, refl) in
            branch (nested_by k (region_of (node_at p f)) (omega (arith, fit.inner lies forks i)) (fit.within lies)) lies forks (in_pick i).1
      ]

  pub nested : (q : ℕ) → q < length p.ends → Nested p q
  nested q h = nested_by (suc q) q (omega arith) h

  mutual
    -- the letters of the words of a region are the steps inside it
    way_steps : {r n : ℕ} {w : List ℕ} → Way p d r n w → All (StepInside p r) w
    way_steps (start b) = All.none
    way_steps (Way.go a b l) = all_append (way_steps a) (written_steps b (way_lies fit a))

    written_steps : {n : ℕ} {v : List ℕ} → Written p d n v → {r : ℕ} → Lies p r n → All (StepInside p r) v
    written_steps (step h) lies = All.more (here lies, h) All.none
    written_steps (fork f h) lies = all_map (λ n (q, i, inside, is). (deeper lies f i inside, is)) (woven_steps h)

    full_steps : {r : ℕ} {w : List ℕ} → Full p d r w → All (StepInside p r) w
    full_steps (full a c b) = all_append (way_steps a) (written_steps b (way_lies fit a))

    woven_steps : {qs v : List ℕ} → Woven p d qs v → All (λ n. (q : ℕ) × In q qs × Inside p q n × IsStep p n) v
    woven_steps Woven.none = All.none
    woven_steps (Woven.more {q = q} h hs m) =
        all_shuffle m (all_map (λ n (inside, is). (q, In.here, inside, is)) (full_steps h)) (all_map (λ n (o, i, inside, is). (o, In.there i, inside, is)) (woven_steps hs))

  pub beginning_steps : {r : ℕ} (u : List ℕ) → Beginning p d r u → All (StepInside p r) u
  beginning_steps u b = all_front u b.rest (full_steps b.whole)
