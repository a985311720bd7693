-- Marks on the nodes of a plan, from which its paths are found.
use Rattle.std.specs.Prelude.{◌≡◌, ℕ, suc, ◌<◌, Bool, true, false, List, [], ◌∷◌, length, Some, Decides, slice_index_or}
use Rattle.plan.specs.declared.node.Arc.{Arc}
use Rattle.plan.specs.declared.node.Ends.{Ends}
use Rattle.plan.specs.declared.node.Direction.{Direction}
use Rattle.plan.specs.Drawn.{Drawn, arc_at, ends_at}
use Rattle.plan.specs.Paths.{turned, first_in, Reached}

abbrev pub Marked : List Bool → ℕ → Type 0
Marked marks n = slice_index_or marks n false ≡ true

-- how many marks are not set
abbrev pub unset : List Bool → ℕ
unset [] = 0
unset (true ∷ marks) = unset marks
unset (false ∷ marks) = suc (unset marks)

-- where the arc starts at a marked node, it leads to one
abbrev pub Followed : List Bool → Arc → Type 0
Followed marks a = Marked marks a.from → Marked marks a.to

-- the first n arcs are followed
abbrev pub FollowedTo : Drawn → Direction → List Bool → ℕ → Type 0
FollowedTo p d marks n = (k : ℕ) → k < n → Followed marks (turned d (arc_at p k))

-- only nodes that are reached are marked
abbrev pub Right : Drawn → Direction → List Bool → Type 0
Right p d marks = (n : ℕ) → Marked marks n → (n < length p.nodes) × Reached p d n

-- what is marked stays marked, and no more is marked than what is reached
pub record Grown (p : Drawn) (d : Direction) (before after : List Bool) : Type 0 where
  pub kept : (n : ℕ) → Marked before n → Marked after n
  pub right : Right p d before → Right p d after
  pub long : length after ≡ length before

-- the node with which each of the first n regions begins is marked
abbrev pub FirstsTo : Drawn → Direction → List Bool → ℕ → Type 0
FirstsTo p d marks n = (r : ℕ) (e : Ends) → r < n → ends_at p r ≡ Some e → Marked marks (first_in d e)

-- a node is marked exactly where it is reached
abbrev pub Exact : Drawn → Direction → List Bool → Type 0
Exact p d marks = (n : ℕ) → n < length p.nodes → Decides (slice_index_or marks n false) (Reached p d n)
