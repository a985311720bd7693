-- What a sound and whole plan gives, read in a direction.
use Rattle.std.proofs.Common.{◌≡◌, ℕ, zero, suc, ◌+◌, ◌-◌, ◌<◌, ◌≤◌, Bool, true, false, ◌⊎◌, List, [], ◌∷◌, length, get_or, take, Some, None, Option, sym, refl, ap, ◌∙◌, subst, inl, inr, arith}
use Rattle.std.proofs.lemmas.Bool.{cases_eq, cases_lt, true≢false}
use Rattle.plan.specs.declared.statement.Statement.TheVariants.{Idle}
use Rattle.plan.specs.declared.node.Node.{Node}
use Rattle.plan.specs.declared.node.Node.TheVariants.{Step, Fork}
use Rattle.plan.specs.declared.node.Ends.{Ends}
use Rattle.plan.specs.declared.node.Direction.{Direction}
use Rattle.plan.specs.declared.node.Direction.TheVariants.{Forward, Backward}
use Rattle.plan.specs.Drawn.{Drawn, node_at, arc_at, ends_at, region_of, Lies, Joins, width, branches, Sound}
use Rattle.plan.specs.Paths.{first_in, Leads, Path, Whole, last_in}
use Rattle.plan.specs.Calls.{is_fork}
use Rattle.plan.proofs.Marking.{joins_turned}
use Rattle.plan.proofs.Turning.{path_flipped}
use Rattle.runs.specs.Words.{IsStep, Forks, Begins, Closes, count_from, branches_of}
use Rattle.runs.proofs.Lists.{In}

pub record Fit (p : Drawn) (d : Direction) : Type 0 where
  -- every region begins with a node of its own, and ends with one
  pub first : {r : ℕ} → r < length p.ends → (n : ℕ) × Begins p d r n
  pub last : {r : ℕ} → r < length p.ends → (n : ℕ) × Closes p d r n
  pub first_lies : {r n : ℕ} → Begins p d r n → Lies p r n
  pub last_lies : {r n : ℕ} → Closes p d r n → Lies p r n
  -- an arc stays in its region
  pub arc_lies : {r m n : ℕ} → Lies p r m → Leads p d m n → Lies p r n
  -- a node is a step or a fork
  pub kind : {r n : ℕ} → Lies p r n → IsStep p n ⊎ ((qs : List ℕ) × Forks p n qs)
  -- a node lies in a region of the plan, and the branches of a fork are regions of higher number
  pub within : {r n : ℕ} → Lies p r n → r < length p.ends
  pub inner : {r n q : ℕ} {qs : List ℕ} → Lies p r n → Forks p n qs → In q qs → (r < q) × (q < length p.ends)
  -- every region but 0 is a branch
  pub outer : (q : ℕ) → q < length p.ends → (q ≡ 0) ⊎ ((f : ℕ) × (qs : List ℕ) × Forks p f qs × In q qs)
  -- every node is reached from the first node of its region, and leads to the last
  pub reached : {r n : ℕ} → Lies p r n → (m : ℕ) × Begins p d r m × Path p d m n
  pub onward : {r n : ℕ} → Lies p r n → (m : ℕ) × Closes p d r m × Path p d n m

-- Numbers of regions.

in_count : (b k : ℕ) {q : ℕ} → In q (count_from b k) → (b ≤ q) × (q < b + k)
in_count b zero i = elim i [ ]
in_count b (suc k) In.here = (omega arith, omega arith)
in_count b (suc k) {q} (In.there i) = let t = in_count (suc b) k i in (omega arith, omega arith)

count_in : (b k q : ℕ) → b ≤ q → q < b + k → In q (count_from b k)
count_in b zero q h i = absurd (omega arith)
count_in b (suc k) q h i =
    elim (cases_eq b q) [
      | inl e ↦ subst (λ (o : ℕ). In o (count_from b (suc k))) e In.here
      | inr e ↦ In.there (count_in (suc b) k q (omega arith) (omega arith))
    ]

-- the branches of the nodes before n, and of n, are among all
branches_at : (ns : List Node) (x : Node) (n : ℕ) → n < length ns → branches (take n ns) + width (get_or ns n x) ≤ branches ns
branches_at [] x n h = absurd (omega arith)
branches_at (y ∷ ns) x zero h = omega arith
branches_at (y ∷ ns) x (suc n) h = omega (arith, branches_at ns x n (omega arith))

-- the node that has branch number i, counted over all nodes
branch_owner : (ns : List Node) (x : Node) (i : ℕ) → i < branches ns → (n : ℕ) × (n < length ns) × (branches (take n ns) ≤ i) × (i < branches (take n ns) + width (get_or ns n x))
branch_owner [] x i h = absurd (omega arith)
branch_owner (y ∷ ns) x i h =
    elim (cases_lt i (width y)) [
      | inl k ↦ (0, omega arith, omega arith, omega arith)
      | inr k ↦ let t = branch_owner ns x (i - width y) (omega arith) in (suc t.0, omega arith, omega arith, omega arith)
    ]

fork_parts : (x : Node) → is_fork x ≡ true → (r b k : ℕ) × (x ≡ Fork r b k)
fork_parts (Step r s) e = absurd (true≢false (sym e))
fork_parts (Fork r b k) e = (r, b, k, refl)

branched_fork : (x : Node) → 0 < width x → is_fork x ≡ true
branched_fork (Step r s) h = absurd (omega arith)
branched_fork (Fork r b k) h = refl

module _ (p : Drawn) (s : Sound p) (h : Whole p) where
  ends_of : (r : ℕ) → r < length p.ends → (e : Ends) × (ends_at p r ≡ Some e)
  ends_of r k = go (ends_at p r) refl
    where
      go : (o : Option Ends) → ends_at p r ≡ o → (e : Ends) × (ends_at p r ≡ Some e)
      go None e = absurd (h.ended r k e)
      go (Some x) e = (x, e)

  first_within : (d : Direction) (r : ℕ) (e : Ends) → ends_at p r ≡ Some e → Lies p r (first_in d e)
  first_within Forward r e is = (s.bounded r e is).0
  first_within Backward r e is = (s.bounded r e is).1

  last_within : (d : Direction) (r : ℕ) (e : Ends) → ends_at p r ≡ Some e → Lies p r (last_in d e)
  last_within Forward r e is = (s.bounded r e is).1
  last_within Backward r e is = (s.bounded r e is).0

  kind_of : (n : ℕ) → n < length p.nodes → IsStep p n ⊎ ((qs : List ℕ) × Forks p n qs)
  kind_of n k = go (is_fork (node_at p n)) refl
    where
      go : (b : Bool) → is_fork (node_at p n) ≡ b → IsStep p n ⊎ ((qs : List ℕ) × Forks p n qs)
      go false e = inl (k, e)
      go true e = inr (branches_of (node_at p n), (k, e, refl))

  path_from : (d : Direction) (n : ℕ) → n < length p.nodes → (m : ℕ) × Begins p d (region_of (node_at p n)) m × Path p d m n
  path_from Forward n k = let t = h.reached n k in (t.0.first, (t.0, t.1, refl), t.2)
  path_from Backward n k = let t = h.leaves n k in (t.0.last, (t.0, t.1, refl), path_flipped p Forward _ _ t.2)

  path_to : (d : Direction) (n : ℕ) → n < length p.nodes → (m : ℕ) × Closes p d (region_of (node_at p n)) m × Path p d n m
  path_to Forward n k = let t = h.leaves n k in (t.0.last, (t.0, t.1, refl), t.2)
  path_to Backward n k = let t = h.reached n k in (t.0.first, (t.0, t.1, refl), path_flipped p Forward _ _ t.2)

  arc_within : (d : Direction) {r m n : ℕ} → Lies p r m → Leads p d m n → Lies p r n
  arc_within d (k, at) a =
      let j = subst (Joins p) a.2 (joins_turned p d (arc_at p a.0) (s.joined a.0 a.1)) in
      (j.1, sym j.2 ∙ at)

  region_within : {r n : ℕ} → Lies p r n → r < length p.ends
  region_within {n = n} (k, at) = omega (arith, at, s.placed n k, s.counted, branches_at p.nodes (Step 0 Idle) n k)

  branch_within : {r n q : ℕ} {qs : List ℕ} → Lies p r n → Forks p n qs → In q qs → (r < q) × (q < length p.ends)
  branch_within {r} {n} {q} (k, at) (_, is, are) i =
      let (o, b, c, e) = fork_parts (node_at p n) is in
      let bounds = in_count b c (subst (In q) (sym are ∙ ap branches_of e) i) in
      let at_b = s.forked n o b c k e in
      let wide = ap width e in
      (omega (arith, s.placed n k), omega (arith, s.counted, branches_at p.nodes (Step 0 Idle) n k))

  -- branch number i, counted over all nodes, is region suc i
  owned : (n i : ℕ) → n < length p.nodes → branches (take n p.nodes) ≤ i → i < branches (take n p.nodes) + width (node_at p n) → (qs : List ℕ) × Forks p n qs × In (suc i) qs
  owned n i k low high =
      let is = branched_fork (node_at p n) (omega arith) in
      let (r, b, c, e) = fork_parts (node_at p n) is in
      let at = s.forked n r b c k e in
      let wide = ap width e in
      (count_from b c, (k, is, ap branches_of e), count_in b c (suc i) (omega arith) (omega arith))

  branch_of : (q : ℕ) → q < length p.ends → (q ≡ 0) ⊎ ((f : ℕ) × (qs : List ℕ) × Forks p f qs × In q qs)
  branch_of zero k = inl refl
  branch_of (suc i) k =
      let (n, there, low, high) = branch_owner p.nodes (Step 0 Idle) i (omega (arith, s.counted)) in
      let t = owned n i there low high in
      inr (n, t.0, t.1, t.2)

  pub fit : (d : Direction) → Fit p d
  fit d = record {
    first = λ {r} k. let t = ends_of r k in (first_in d t.0, (t.0, t.1, refl));
    last = λ {r} k. let t = ends_of r k in (last_in d t.0, (t.0, t.1, refl));
    first_lies = λ {r} {n} b. subst (Lies p r) b.2 (first_within d r b.0 b.1);
    last_lies = λ {r} {n} b. subst (Lies p r) b.2 (last_within d r b.0 b.1);
    arc_lies = arc_within d;
    kind = λ {r} {n} k. kind_of n k.0;
    within = region_within;
    inner = branch_within;
    outer = branch_of;
    reached = λ {r} {n} k. subst (λ (o : ℕ). (m : ℕ) × Begins p d o m × Path p d m n) k.1 (path_from d n k.0);
    onward = λ {r} {n} k. subst (λ (o : ℕ). (m : ℕ) × Closes p d o m × Path p d n m) k.1 (path_to d n k.0);
  }
