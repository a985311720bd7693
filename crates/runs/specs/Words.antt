-- The words of a plan, read in a direction. A word is a list of the numbers of steps.
--   Shuffle    two words interleaved: each in its own order, and nothing more
--   Way        the word of a path from the first node of a region to a node, without that node
--   Written    the word of a node: a step is itself, a fork a shuffle of one full word of each branch
--   Full       a full word of a region: of a path that ends in the last node
--   Woven      a shuffle of one full word of each region of a list
--   Beginning  a beginning of a full word: it may be empty, or all of it
use Rattle.std.specs.Prelude.{◌≡◌, ℕ, zero, suc, ◌<◌, true, false, List, [], ◌∷◌, ◌++◌, length, Some}
use Rattle.plan.specs.declared.node.Node.{Node}
use Rattle.plan.specs.declared.node.Node.TheVariants.{Step, Fork}
use Rattle.plan.specs.declared.node.Ends.{Ends}
use Rattle.plan.specs.declared.node.Direction.{Direction}
use Rattle.plan.specs.Drawn.{Drawn, node_at, ends_at}
use Rattle.plan.specs.Calls.{is_fork}
use Rattle.plan.specs.Paths.{first_in, last_in, Leads}

pub data Shuffle : List ℕ → List ℕ → List ℕ → Type 0 where
  none : Shuffle [] [] []
  left : {n : ℕ} {u v w : List ℕ} → Shuffle u v w → Shuffle (n ∷ u) v (n ∷ w)
  right : {n : ℕ} {u v w : List ℕ} → Shuffle u v w → Shuffle u (n ∷ v) (n ∷ w)

-- k numbers from b on
abbrev pub count_from : ℕ → ℕ → List ℕ
count_from b zero = []
count_from b (suc k) = b ∷ count_from (suc b) k

-- the regions that are the branches of a node
abbrev pub branches_of : Node → List ℕ
branches_of (Step r s) = []
branches_of (Fork r b k) = count_from b k

module _ (p : Drawn) where
  abbrev pub IsStep : ℕ → Type 0
  IsStep n = (n < length p.nodes) × (is_fork (node_at p n) ≡ false)

  -- n is a fork, and qs are its branches
  abbrev pub Forks : ℕ → List ℕ → Type 0
  Forks n qs = (n < length p.nodes) × (is_fork (node_at p n) ≡ true) × (branches_of (node_at p n) ≡ qs)

module _ (p : Drawn) (d : Direction) where
  -- region r begins with node n
  abbrev pub Begins : ℕ → ℕ → Type 0
  Begins r n = (e : Ends) × (ends_at p r ≡ Some e) × (first_in d e ≡ n)

  -- region r ends with node n
  abbrev pub Closes : ℕ → ℕ → Type 0
  Closes r n = (e : Ends) × (ends_at p r ≡ Some e) × (last_in d e ≡ n)

  mutual
    pub data Way : ℕ → ℕ → List ℕ → Type 0 where
      start : {r n : ℕ} → Begins r n → Way r n []
      go : {r m n : ℕ} {w v : List ℕ} → Way r m w → Written m v → Leads p d m n → Way r n (w ++ v)

    pub data Written : ℕ → List ℕ → Type 0 where
      step : {n : ℕ} → IsStep p n → Written n (n ∷ [])
      fork : {n : ℕ} {qs : List ℕ} {v : List ℕ} → Forks p n qs → Woven qs v → Written n v

    pub data Full : ℕ → List ℕ → Type 0 where
      full : {r n : ℕ} {w v : List ℕ} → Way r n w → Closes r n → Written n v → Full r (w ++ v)

    pub data Woven : List ℕ → List ℕ → Type 0 where
      none : Woven [] []
      more : {q : ℕ} {qs : List ℕ} {w v s : List ℕ} → Full q w → Woven qs v → Shuffle w v s → Woven (q ∷ qs) s

  pub record Beginning (r : ℕ) (u : List ℕ) : Type 0 where
    pub rest : List ℕ
    pub whole : Full r (u ++ rest)
