-- The interleaved runs that reach a node.
--   Begun     a shuffle of one beginning of a full word of each region of a list
--   Approach  what has run within a region when a node is reached: a node that lies there directly,
--             or one in a branch of a fork, however deep
--   Nearing   a shuffle of one approach to the node within one region of a list, and one beginning of each other region
--   Run       an approach within region 0
use Rattle.std.specs.Prelude.{ℕ, List, [], ◌∷◌, ◌++◌}
use Rattle.plan.specs.declared.node.Direction.{Direction}
use Rattle.plan.specs.Drawn.{Drawn}
use Rattle.runs.specs.Words.{Shuffle, Forks, Way, Beginning}

module _ (p : Drawn) (d : Direction) where
  pub data Begun : List ℕ → List ℕ → Type 0 where
    none : Begun [] []
    more : {q : ℕ} {qs : List ℕ} {u v s : List ℕ} → Beginning p d q u → Begun qs v → Shuffle u v s → Begun (q ∷ qs) s

  mutual
    pub data Approach : ℕ → ℕ → List ℕ → Type 0 where
      direct : {r n : ℕ} {w : List ℕ} → Way p d r n w → Approach r n w
      inside : {r n f : ℕ} {qs : List ℕ} {w v : List ℕ} → Way p d r f w → Forks p f qs → Nearing n qs v → Approach r n (w ++ v)

    pub data Nearing : ℕ → List ℕ → List ℕ → Type 0 where
      first : {n q : ℕ} {qs : List ℕ} {u v s : List ℕ} → Approach q n u → Begun qs v → Shuffle u v s → Nearing n (q ∷ qs) s
      later : {n q : ℕ} {qs : List ℕ} {u v s : List ℕ} → Beginning p d q u → Nearing n qs v → Shuffle u v s → Nearing n (q ∷ qs) s

  abbrev pub Run : ℕ → List ℕ → Type 0
  Run n w = Approach 0 n w
