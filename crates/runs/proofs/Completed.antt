-- Every way, and every approach, can be gone on with to a full word.
use Rattle.std.proofs.Common.{◌≡◌, ℕ, zero, suc, ◌+◌, ◌<◌, ◌≤◌, List, [], ◌∷◌, ◌++◌, length, sym, ap, ◌∙◌, subst, inl, inr, append_assoc, append-nil, arith}
use Rattle.plan.specs.declared.node.Direction.{Direction}
use Rattle.plan.specs.Drawn.{Drawn, Lies}
use Rattle.plan.specs.Paths.{Path, Path.stay}
use Rattle.runs.specs.Words.{Begins, Forks, Way, Way.start, Written, Written.step, Written.fork, Full, Full.full, Woven, Beginning}
use Rattle.runs.specs.Runs.{Begun, Approach, Approach.direct, Approach.inside, Nearing, Nearing.first, Nearing.later}
use Rattle.runs.proofs.Lists.{In}
use Rattle.runs.proofs.Shuffles.{shuffle_append, shuffle_turn, shuffle_more, shuffle_extend}
use Rattle.runs.proofs.Plans.{Fit}

module _ {p : Drawn} {d : Direction} (fit : Fit p d) where
  pub way_lies : {r n : ℕ} {w : List ℕ} → Way p d r n w → Lies p r n
  way_lies (start b) = fit.first_lies b
  way_lies (Way.go w v a) = fit.arc_lies (way_lies w) a

  woven_some : (qs : List ℕ) → ((q : ℕ) → In q qs → (w : List ℕ) × Full p d q w) → (v : List ℕ) × Woven p d qs v
  woven_some [] h = ([], Woven.none)
  woven_some (q ∷ qs) h =
      let f = h q In.here in
      let t = woven_some qs (λ o i. h o (In.there i)) in
      (f.0 ++ t.0, Woven.more f.1 t.1 (shuffle_append f.0 t.0))

  -- a node can be written if the regions of higher number have full words
  written_by : (r n : ℕ) → ((q : ℕ) → r < q → q < length p.ends → (w : List ℕ) × Full p d q w) → Lies p r n → (v : List ℕ) × Written p d n v
  written_by r n h k =
      elim (fit.kind k) [
        | inl t ↦ (n ∷ [], step t)
        | inr (qs, f) ↦ let t = woven_some qs (λ q i. h q (fit.inner k f i).0 (fit.inner k f i).1) in (t.0, fork f t.1)
      ]

  module _ {r : ℕ} (write : (n : ℕ) → Lies p r n → (v : List ℕ) × Written p d n v) where
    -- a path from a node that is written leads to a node that is written
    along : {m n : ℕ} → Path p d m n → {w v : List ℕ} → Way p d r m w → Written p d m v
        → (w' v' rest : List ℕ) × Way p d r n w' × Written p d n v' × (w' ++ v' ≡ (w ++ v) ++ rest)
    along stay {w} {v} a b = (w, v, [], a, b, sym (append-nil (w ++ v)))
    along (Path.go {n = n} path l) {w} {v} a b =
        let (w', v', rest, a', b', e) = along path a b in
        let next = Way.go a' b' l in
        let (u, c) = write n (way_lies next) in
        (w' ++ v', u, rest ++ u, next, c, ap (λ s. s ++ u) e ∙ append_assoc (w ++ v) rest u)

    completed : {n : ℕ} (w v : List ℕ) → Way p d r n w → Written p d n v → Beginning p d r (w ++ v)
    completed w v a b =
        let (m, last, path) = fit.onward (way_lies a) in
        let (w', v', rest, a', b', e) = along path a b in
        record { rest = rest; whole = subst (Full p d r) e (full a' last b') }

  -- by recursion on how many regions there are from r on
  full_by : (k r : ℕ) → r < length p.ends → length p.ends ≤ r + k → (w : List ℕ) × Full p d r w
  full_by zero r h c = absurd (omega arith)
  full_by (suc k) r h c =
      let write : (n : ℕ) → Lies p r n → (v : List ℕ) × Written p d n v =
      λ n. written_by r n (λ q i j. full_by k q j (omega arith)) in
      let (n, b) = fit.first h in
      let (v, c) = write n (fit.first_lies b) in
      let t = completed write [] v (start b) c in
      (v ++ t.rest, t.whole)

  pub full_some : (r : ℕ) → r < length p.ends → (w : List ℕ) × Full p d r w
  full_some r h = full_by (length p.ends) r h (omega arith)

  pub written_some : {r n : ℕ} → Lies p r n → (v : List ℕ) × Written p d n v
  written_some {r} {n} = written_by r n (λ q i j. full_some q j)

  way_along : {r m n : ℕ} → Path p d m n → Begins p d r m → (w : List ℕ) × Way p d r n w
  way_along stay b = ([], start b)
  way_along (Path.go path leads) b =
      let (w, h) = way_along path b in
      let (v, k) = written_some (way_lies h) in
      (w ++ v, Way.go h k leads)

  -- there is a way to each node
  pub way_some : (r n : ℕ) → Lies p r n → (w : List ℕ) × Way p d r n w
  way_some r n lies = let (m, b, path) = fit.reached lies in way_along path b

  written_beginning : {r n : ℕ} (w v : List ℕ) → Way p d r n w → Written p d n v → Beginning p d r (w ++ v)
  written_beginning = completed (λ n. written_some)

  -- a beginning without its end
  shorter : {r : ℕ} (u v : List ℕ) → Beginning p d r (u ++ v) → Beginning p d r u
  shorter {r} u v t = record { rest = v ++ t.rest; whole = subst (Full p d r) (append_assoc u v t.rest) t.whole }

  -- beginnings of the words of a fork's branches, shuffled, go on behind a way to the fork
  fork_beginning : {r f : ℕ} {qs : List ℕ} (w v rest : List ℕ) → Way p d r f w → Forks p f qs → Woven p d qs (v ++ rest) → Beginning p d r (w ++ v)
  fork_beginning {r} w v rest a f x =
      shorter (w ++ v) rest (subst (Beginning p d r) (sym (append_assoc w v rest)) (written_beginning w (v ++ rest) a (fork f x)))

  begun_woven : {qs v : List ℕ} → Begun p d qs v → (rest : List ℕ) × Woven p d qs (v ++ rest)
  begun_woven Begun.none = ([], Woven.none)
  begun_woven (Begun.more b bs m) = let t = begun_woven bs in (b.rest ++ t.0, Woven.more b.whole t.1 (shuffle_extend m b.rest t.0))

  mutual
    -- an approach to n, and then what is written of n
    pub approach_then : {r n : ℕ} {w : List ℕ} → Approach p d r n w → (v : List ℕ) → Written p d n v → Beginning p d r (w ++ v)
    approach_then (direct {w = w} a) v b = written_beginning w v a b
    approach_then (inside {r = r} {w = w} {v = u} a f x) v b =
        let t = nearing_then x v b in
        subst (Beginning p d r) (sym (append_assoc w u v)) (fork_beginning w (u ++ v) t.0 a f t.1)

    nearing_then : {n : ℕ} {qs u : List ℕ} → Nearing p d n qs u → (v : List ℕ) → Written p d n v → (rest : List ℕ) × Woven p d qs ((u ++ v) ++ rest)
    nearing_then (first x bs m) v b =
        let s = approach_then x v b in
        let t = begun_woven bs in
        (s.rest ++ t.0, Woven.more s.whole t.1 (shuffle_extend (shuffle_more m v) s.rest t.0))
    nearing_then (later s x m) v b =
        let t = nearing_then x v b in
        (s.rest ++ t.0, Woven.more s.whole t.1 (shuffle_extend (shuffle_turn (shuffle_more (shuffle_turn m) v)) s.rest t.0))

  mutual
    -- a node that is approached within r lies in r, or in a region of higher number
    approach_lies : {r n : ℕ} {w : List ℕ} → Approach p d r n w → (o : ℕ) × Lies p o n × (r ≤ o)
    approach_lies (direct {r = r} a) = (r, way_lies a, omega arith)
    approach_lies (inside a f x) = let (q, o, i, k, h) = nearing_lies x in (o, k, omega (arith, fit.inner (way_lies a) f i))

    nearing_lies : {n : ℕ} {qs u : List ℕ} → Nearing p d n qs u → (q o : ℕ) × In q qs × Lies p o n × (q ≤ o)
    nearing_lies (first {q = q} x bs m) = let (o, k, h) = approach_lies x in (q, o, In.here, k, h)
    nearing_lies (later s x m) = let (q, o, i, k, h) = nearing_lies x in (q, o, In.there i, k, h)

  -- within its own region, a node is approached directly
  pub approach_way : {r n : ℕ} {w : List ℕ} → Approach p d r n w → Lies p r n → Way p d r n w
  approach_way (direct a) k = a
  approach_way (inside a f x) k = let (q, o, i, (_, at), h) = nearing_lies x in absurd (omega (arith, fit.inner (way_lies a) f i, at, k.1))

  pub approach_beginning : {r n : ℕ} {w : List ℕ} → Approach p d r n w → Beginning p d r w
  approach_beginning {w = w} x =
      let (o, k, h) = approach_lies x in
      let (v, b) = written_some k in
      shorter w v (approach_then x v b)
