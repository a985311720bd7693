-- Approaches made of parts: through a fork, with the other branches still, or with one of them on its way.
use Rattle.std.proofs.Common.{ℕ, List, [], ◌∷◌, ◌++◌, sym, ap, ◌∙◌, subst, append_assoc}
use Rattle.plan.specs.declared.node.Direction.{Direction}
use Rattle.plan.specs.Drawn.{Drawn, Lies}
use Rattle.runs.specs.Words.{Shuffle, IsStep, Forks, Written.step, Beginning}
use Rattle.runs.specs.Runs.{Begun, Approach, Approach.direct, Approach.inside, Nearing, Nearing.first, Nearing.later, Run}
use Rattle.runs.specs.Scheme.{Pick}
use Rattle.runs.proofs.Lists.{In, in_pick}
use Rattle.runs.proofs.Shuffles.{shuffle_append, shuffle_turn, shuffle_empty, shuffle_more}
use Rattle.runs.proofs.Plans.{Fit}
use Rattle.runs.proofs.Completed.{full_some, way_some, approach_then}
use Rattle.runs.proofs.Inside.{Inside, Inside.here, Inside.deeper, Nested, nested_inside}

-- each region of a list can stand still
abbrev pub Still : Drawn → Direction → List ℕ → Type 0
Still p d qs = (q : ℕ) → In q qs → Beginning p d q []

module _ {p : Drawn} {d : Direction} where
  mutual
    -- from a fork that is approached, on into its branches
    pub approach_on : {r f : ℕ} {w : List ℕ} → Approach p d r f w → {n : ℕ} {qs : List ℕ} (v : List ℕ) → Forks p f qs → Nearing p d n qs v → Approach p d r n (w ++ v)
    approach_on (direct a) v f x = inside a f x
    approach_on (inside {r = r} {w = w} {v = u} a g y) {n} v f x = subst (Approach p d r n) (sym (append_assoc w u v)) (inside a g (nearing_on y v f x))

    nearing_on : {f : ℕ} {os u : List ℕ} → Nearing p d f os u → {n : ℕ} {qs : List ℕ} (v : List ℕ) → Forks p f qs → Nearing p d n qs v → Nearing p d n os (u ++ v)
    nearing_on (first y bs m) v f x = first (approach_on y v f x) bs (shuffle_more m v)
    nearing_on (later b y m) v f x = later b (nearing_on y v f x) (shuffle_turn (shuffle_more (shuffle_turn m) v))

  still_rest : {q : ℕ} {qs : List ℕ} → Still p d (q ∷ qs) → Still p d qs
  still_rest h o i = h o (In.there i)

  begun_still : (qs : List ℕ) → Still p d qs → Begun p d qs []
  begun_still [] h = Begun.none
  begun_still (q ∷ qs) h = Begun.more (h q In.here) (begun_still qs (still_rest h)) Shuffle.none

  -- one region begun, the others still
  begun_one : {q : ℕ} {qs : List ℕ} → In q qs → Still p d qs → (u : List ℕ) → Beginning p d q u → Begun p d qs u
  begun_one (In.here {ns = qs}) h u b = Begun.more b (begun_still qs (still_rest h)) (shuffle_empty u)
  begun_one (In.there {m = o} i) h u b = Begun.more (h o In.here) (begun_one i (still_rest h) u b) (shuffle_turn (shuffle_empty u))

  -- up to n in one region, the others still
  pub nearing_still : {n q : ℕ} {qs rs u : List ℕ} → Pick q qs rs → Still p d qs → Approach p d q n u → Nearing p d n qs u
  nearing_still {u = u} (Pick.here {qs = qs}) h x = first x (begun_still qs (still_rest h)) (shuffle_empty u)
  nearing_still {u = u} (Pick.there {o = o} k) h x = later (h o In.here) (nearing_still k (still_rest h) x) (shuffle_turn (shuffle_empty u))

  -- up to n in one region, then on in another, the others still
  nearing_beside : {n q : ℕ} {qs rs u : List ℕ} → Pick q qs rs → {o : ℕ} → In o rs → Still p d qs → Approach p d q n u
      → (v : List ℕ) → Beginning p d o v → Nearing p d n qs (u ++ v)
  nearing_beside {u = u} Pick.here i h x v b = first x (begun_one i (still_rest h) v b) (shuffle_append u v)
  nearing_beside {u = u} (Pick.there k) In.here h x v b = later b (nearing_still k (still_rest h) x) (shuffle_turn (shuffle_append u v))
  nearing_beside {u = u} (Pick.there {o = s} k) (In.there i) h x v b =
      later (h s In.here) (nearing_beside k i (still_rest h) x v b) (shuffle_turn (shuffle_empty (u ++ v)))

module _ {p : Drawn} {d : Direction} (fit : Fit p d) where
  pub branches_still : (r f : ℕ) (qs : List ℕ) → Lies p r f → Forks p f qs → Still p d qs
  branches_still r f qs lies forks q i = let (w, h) = full_some fit q (fit.inner lies forks i).1 in record { rest = w; whole = h }

  -- what is inside a region can be approached
  pub inside_approach : {r n : ℕ} → Inside p r n → (w : List ℕ) × Approach p d r n w
  inside_approach (here {r = r} {n = n} lies) = let (w, a) = way_some fit r n lies in (w, direct a)
  inside_approach (deeper {r = r} {f = f} {qs = qs} lies forks i x) =
      let (w, a) = way_some fit r f lies in
      let (u, y) = inside_approach x in
      (w ++ u, inside a forks (nearing_still (in_pick i).1 (branches_still r f qs lies forks) y))

  -- a run that reaches n and ends in a step t of a branch beside it
  pub step_last : {r f n q o t : ℕ} {qs rs : List ℕ} → Nested p r → Lies p r f → Forks p f qs → Pick q qs rs → In o rs → Inside p q n → Inside p o t → IsStep p t
      → (w : List ℕ) × Run p d n (w ++ (t ∷ []))
  step_last {r} {f} {n} {t = t} {qs = qs} out lies forks k i x y is =
      let (w, to_fork) = inside_approach (nested_inside out (here lies)) in
      let (u, to-n) = inside_approach x in
      let (v, to-t) = inside_approach y in
      let last : List ℕ = v ++ (t ∷ []) in
      let run : Run p d n (w ++ (u ++ last)) =
      approach_on to_fork (u ++ last) forks (nearing_beside k i (branches_still r f qs lies forks) to-n last (approach_then fit to-t (t ∷ []) (step is))) in
      (w ++ (u ++ v), subst (Approach p d 0 n) (sym (append_assoc w (u ++ v) (t ∷ []) ∙ ap (λ s. w ++ s) (append_assoc u v (t ∷ [])))) run)
