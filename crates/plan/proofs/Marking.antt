-- What one more mark does.
use Rattle.std.proofs.Common.{◌≡◌, ℕ, zero, suc, ◌+◌, ◌<◌, ◌≤◌, Bool, true, false, ◌⊎◌, List, [], ◌∷◌, length, get_or, set, replicate, Some, None, MatchBool, Option, sym, refl, ap, ◌∙◌, subst, inl, inr, arith, length-set, get_or-set_other, get_or-set_same, below_more, MatchOption}
use Rattle.std.proofs.lemmas.List.{get_or_past}
use Rattle.std.proofs.lemmas.Bool.{cases_eq, cases_lt, true≢false}
use Rattle.plan.specs.declared.node.Arc.{Arc}
use Rattle.plan.specs.declared.node.Ends.{Ends}
use Rattle.plan.specs.declared.node.Direction.{Direction}
use Rattle.plan.specs.declared.node.Direction.TheVariants.{Forward, Backward}
use Rattle.plan.specs.Drawn.{Drawn, node_at, arc_at, ends_at, region_of, Lies, Joins, Sound}
use Rattle.plan.specs.Paths.{turned, first_in, Path, stay, go, Leads, Reached, Lowest}
use Rattle.plan.proofs.Nodes.{getD_copies}
use Rattle.plan.specs.Marks.{Marked, unset, Followed, FollowedTo, Right, Grown, FirstsTo, Exact}

pub unset_falls : (marks : List Bool) (n : ℕ) → n < length marks → get_or marks n false ≡ false → unset (set marks n true) < unset marks
unset_falls [] n h e = absurd (omega arith)
unset_falls (true ∷ marks) zero h e = absurd (true≢false e)
unset_falls (false ∷ marks) zero h e = omega arith
unset_falls (true ∷ marks) (suc n) h e = unset_falls marks n (omega arith) e
unset_falls (false ∷ marks) (suc n) h e = omega (arith, unset_falls marks n (omega arith) e)

-- a mark more leaves the others set
still_marked : (marks : List Bool) (n k : ℕ) → n < length marks → Marked marks k → ((k ≡ n) ⊎ (k ≡ n → ⊥)) → Marked (set marks n true) k
still_marked marks n k h e (inl same) = subst (Marked (set marks n true)) (sym same) (get_or-set_same marks n true false h)
still_marked marks n k h e (inr other) = get_or-set_other marks n k true false other ∙ e

-- a region that has ends is there
pub ended_there : (p : Drawn) (r : ℕ) (e : Ends) → ends_at p r ≡ Some e → r < length p.ends
ended_there p r e is = go' (cases_lt r (length p.ends))
  where
    go' : (r < length p.ends) ⊎ (length p.ends ≤ r) → r < length p.ends
    go' (inl h) = h
    go' (inr h) = let past = get_or_past p.ends r None h in let z : ◌≡◌ {A = ℕ} 0 1 = cc in absurd (omega arith)

first_lies : (p : Drawn) (d : Direction) (e : Ends) (r : ℕ) → Lies p r e.first × Lies p r e.last → Lies p r (first_in d e)
first_lies p Forward e r l = l.0
first_lies p Backward e r l = l.1

pub joins_turned : (p : Drawn) (d : Direction) (a : Arc) → Joins p a → Joins p (turned d a)
joins_turned p Forward a j = j
joins_turned p Backward a j = (j.1, j.0, sym j.2)

-- no mark is set at the start
pub none_right : (p : Drawn) (d : Direction) (k : ℕ) → Right p d (replicate k false)
none_right p d k n m = absurd (true≢false (sym m ∙ getD_copies k n false))

module _ (p : Drawn) (d : Direction) where
  -- how far a round has come: a mark is new, or the first n arcs are followed
  pub record Round (changed : Bool) (start marks : List Bool) (n : ℕ) : Type 0 where
    pub grown : Grown p d start marks
    pub told : MatchBool changed (unset marks < unset start) ((marks ≡ start) × FollowedTo p d start n)

  told_new : (b : Bool) (start marks new : List Bool) (n : ℕ) → MatchBool b (unset marks < unset start) ((marks ≡ start) × FollowedTo p d start n) → unset new < unset marks → unset new < unset start
  told_new true start marks new n t l = omega arith
  told_new false start marks new n t l = omega (arith, l, ap unset t.0)

  told_same : (b : Bool) (start marks : List Bool) (n : ℕ) → MatchBool b (unset marks < unset start) ((marks ≡ start) × FollowedTo p d start n) → Followed marks (turned d (arc_at p n))
      → MatchBool b (unset marks < unset start) ((marks ≡ start) × FollowedTo p d start (n + 1))
  told_same true start marks n t f = t
  told_same false start marks n t f = (t.0, below_more _ _ t.1 (subst (λ (ms : List Bool). Followed ms (turned d (arc_at p n))) t.0 f))

  -- one arc more, and what following it told
  abbrev pub Told : Bool → Arc → List Bool → List Bool → Type 0
  Told r a before after = MatchBool r (Marked before a.from × (get_or before a.to false ≡ false) × (after ≡ set before a.to true)) ((after ≡ before) × Followed before a)

module _ (p : Drawn) (s : Sound p) (d : Direction) where
  -- where an arc starts at a node that is reached, it leads to one
  pub reached_on : (m n : ℕ) → Leads p d m n → (m < length p.nodes) × Reached p d m → (n < length p.nodes) × Reached p d n
  reached_on m n l (h, r) =
      let j = subst (Joins p) l.2 (joins_turned p d (arc_at p l.0) (s.joined l.0 l.1)) in
      (j.1, (r.0, subst (λ (q : ℕ). ends_at p q ≡ Some r.0) j.2 r.1, go r.2 l))

  pub grown_same : (marks : List Bool) → Grown p d marks marks
  grown_same marks = record { kept = λ n m. m; right = λ r. r; long = refl }

  pub grown_then : (a b c : List Bool) → Grown p d a b → Grown p d b c → Grown p d a c
  grown_then a b c g h = record { kept = λ n m. h.kept n (g.kept n m); right = λ r. h.right (g.right r); long = h.long ∙ g.long }

  -- one more mark, at a node that is reached if the others are
  pub grown_set : (marks : List Bool) (n : ℕ) → n < length marks → (Right p d marks → (n < length p.nodes) × Reached p d n) → Grown p d marks (set marks n true)
  grown_set marks n h new = record { kept = λ k e. still_marked marks n k h e (cases_eq k n); right = λ r k e. right r k e (cases_eq k n); long = length-set marks n true }
    where
      right : Right p d marks → (k : ℕ) → Marked (set marks n true) k → ((k ≡ n) ⊎ (k ≡ n → ⊥)) → (k < length p.nodes) × Reached p d k
      right r k e (inl same) = subst (λ (i : ℕ). (i < length p.nodes) × Reached p d i) (sym same) (new r)
      right r k e (inr other) = r k (sym (get_or-set_other marks n k true false other) ∙ e)

  -- both nodes of an arc are there
  pub ends_there : (n : ℕ) (a : Arc) → n < length p.arcs → a ≡ turned d (arc_at p n) → (a.from < length p.nodes) × (a.to < length p.nodes)
  ends_there n a h is = let j = subst (Joins p) (sym is) (joins_turned p d (arc_at p n) (s.joined n h)) in (j.0, j.1)

  pub round_new : (b : Bool) (start marks new : List Bool) (n : ℕ) (a : Arc) → n < length p.arcs → a ≡ turned d (arc_at p n) → a.to < length marks
      → Told p d true a marks new → Round p d b start marks n → Round p d true start new (n + 1)
  round_new b start marks new n a h is l t r = record {
    grown = grown_then start marks new r.grown (subst (Grown p d marks) (sym t.2) (grown_set marks a.to l (λ right. reached_on a.from a.to (n, h, sym is) (right a.from t.0))));
    told = told_new p d b start marks new n r.told (subst (λ (ms : List Bool). unset ms < unset marks) (sym t.2) (unset_falls marks a.to l t.1));
  }

  pub round_same : (b : Bool) (start marks new : List Bool) (n : ℕ) (a : Arc) → a ≡ turned d (arc_at p n) → Told p d false a marks new → Round p d b start marks n → Round p d b start new (n + 1)
  round_same b start marks new n a is t r =
      subst (λ (ms : List Bool). Round p d b start ms (n + 1)) (sym t.0)
      (record { grown = r.grown; told = told_same p d b start marks n r.told (subst (Followed marks) is t.1) })

  pub round_none : (start : List Bool) → Round p d false start start 0
  round_none start = record { grown = grown_same start; told = (refl, λ k h. absurd (omega arith)) }

  pub round_all : (b : Bool) (start marks : List Bool) (n m : ℕ) → m ≤ n → Round p d b start marks n → MatchBool b (unset marks < unset start) (FollowedTo p d marks m)
  round_all true start marks n m h r = r.told
  round_all false start marks n m h r = subst (λ (ms : List Bool). FollowedTo p d ms m) (sym r.told.0) (λ k l. r.told.1 k (omega arith))

  -- a region begins with a node that is reached
  pub first_reached : (r : ℕ) (e : Ends) → ends_at p r ≡ Some e → (first_in d e < length p.nodes) × Reached p d (first_in d e)
  first_reached r e is = let l = first_lies p d e r (s.bounded r e is) in (l.0, (e, ap (ends_at p) l.1 ∙ is, stay))

  pub firsts_more : (marks : List Bool) (n : ℕ) (e : Ends) → ends_at p n ≡ Some e → first_in d e < length marks → FirstsTo p d marks n → FirstsTo p d (set marks (first_in d e) true) (n + 1)
  firsts_more marks n e is h old r f l was = go' (cases_eq r n)
    where
      go' : ((r ≡ n) ⊎ (r ≡ n → ⊥)) → Marked (set marks (first_in d e) true) (first_in d f)
      go' (inl same) =
          let at = ap (ends_at p) same in
          let new : f ≡ e = cc in
          subst (λ (g : Ends). Marked (set marks (first_in d e) true) (first_in d g)) (sym new) (get_or-set_same marks (first_in d e) true false h)
      go' (inr other) = still_marked marks (first_in d e) (first_in d f) h (old r f (omega arith) was) (cases_eq (first_in d f) (first_in d e))

  pub firsts_same : (marks : List Bool) (n : ℕ) → ends_at p n ≡ None → FirstsTo p d marks n → FirstsTo p d marks (n + 1)
  firsts_same marks n none old r f l was = go' (cases_eq r n)
    where
      go' : ((r ≡ n) ⊎ (r ≡ n → ⊥)) → Marked marks (first_in d f)
      go' (inl same) = let at = ap (ends_at p) same in let z : ◌≡◌ {A = ℕ} 0 1 = cc in absurd (omega arith)
      go' (inr other) = old r f (omega arith) was

  -- marks that are followed along every arc are set along every path
  pub marked_along : (marks : List Bool) → FollowedTo p d marks (length p.arcs) → (m n : ℕ) → Path p d m n → Marked marks m → Marked marks n
  marked_along marks all m _ stay h = h
  marked_along marks all m n (go {k = k} w l) h =
      subst (Followed marks) l.2 (all l.0 l.1) (marked_along marks all m k w h)

  pub marks_exact : (marks : List Bool) → Right p d marks → FirstsTo p d marks (length p.ends) → FollowedTo p d marks (length p.arcs) → Exact p d marks
  marks_exact marks right firsts all n h =
      (λ m. (right n m).1, λ r. marked_along marks all (first_in d r.0) n r.2 (firsts (region_of (node_at p n)) r.0 (ended_there p _ r.0 r.1) r.1))

  -- the first node of one region more is marked
  pub firsts_step : (start marks : List Bool) (n first : ℕ) (e : Ends) → ends_at p n ≡ Some e → first ≡ first_in d e → first < length marks
      → Grown p d start marks × FirstsTo p d marks n → Grown p d start (set marks first true) × FirstsTo p d (set marks first true) (n + 1)
  firsts_step start marks n first e is at h (grown, old) =
      let within : first_in d e < length marks = subst (λ (i : ℕ). i < length marks) at h in
      subst (λ (i : ℕ). Grown p d start (set marks i true) × FirstsTo p d (set marks i true) (n + 1)) (sym at)
      (grown_then start marks _ grown (grown_set marks (first_in d e) within (λ _. first_reached n e is)), firsts_more marks n e is within old)

-- the lowest node that is not marked is the lowest that is not reached
pub unset_unreached : (p : Drawn) (d : Direction) (marks : List Bool) (count : ℕ) → count ≡ length p.nodes → Exact p d marks → (found : Option ℕ)
    → MatchOption found ((n : ℕ) → n < count → Marked marks n) (λ n. Lowest count (Marked marks) n)
    → MatchOption found ((n : ℕ) → n < length p.nodes → Reached p d n) (λ n. Lowest (length p.nodes) (Reached p d) n)
unset_unreached p d marks count is exact None all = λ n h. (exact n h).0 (all n (omega (arith, h, is)))
unset_unreached p d marks count is exact (Some n) low = record {
  within = omega (arith, low.within, is);
  lacks = λ r. low.lacks ((exact n (omega (arith, low.within, is))).1 r);
  least = λ k h. (exact k (omega (arith, h, low.within, is))).0 (low.least k h);
}
