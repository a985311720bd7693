-- How a sweep finds effects and values, whatever the order of its rounds.
--   does        what a node does: a step its effect, a fork the joint effect of its branches
--   initial     where the node effects of a region start: open at the first node, shut elsewhere
--   Lowered     node effects that come from there, lowered by meets along arcs only
--   Solved      node effects that are lowered in every region and stable along every arc, and region effects from the last node
--   Valued      the values that they give, with side values
use Rattle.std.specs.Prelude.{◌≡◌, ℕ, suc, ◌<◌, cond, List, [], ◌∷◌, length, Some, ◌==◌, ◌≢◌}
use Rattle.plan.specs.declared.node.Node.{Node}
use Rattle.plan.specs.declared.node.Node.TheVariants.{Step, Fork}
use Rattle.plan.specs.declared.node.Ends.{Ends}
use Rattle.plan.specs.declared.node.Direction.{Direction}
use Rattle.plan.specs.Drawn.{Drawn, node_at, ends_at, region_of, Lies}
use Rattle.plan.specs.Paths.{Leads, last_in}
use Rattle.kinds.specs.declared.effect.Effect.{Effect}
use Rattle.kinds.specs.Kinds.{Algebra}
use Rattle.kinds.specs.Effects.{act, passing, blocked, followed, either_way}
use Rattle.runs.specs.Words.{Forks, Begins, branches_of}
use Rattle.runs.specs.Actions.{joint}

module _ {V G : Type 0} (a : Algebra V G) (p : Drawn) (steps regions : ℕ → Effect G V) where
  abbrev pub does_node : ℕ → Node → Effect G V
  does_node n (Step r s) = steps n
  does_node n (Fork r b k) = joint a regions (branches_of (Fork r b k))

  abbrev pub does : ℕ → Effect G V
  does n = does_node n (node_at p n)

module _ {V G : Type 0} (a : Algebra V G) where
  -- where the effect of node n starts, in a region that begins with node first
  abbrev pub initial : ℕ → ℕ → Effect G V
  initial first n = cond (n == first) (passing a) (blocked a)

module _ {V G : Type 0} (a : Algebra V G) (p : Drawn) (d : Direction) (steps regions : ℕ → Effect G V) (r : ℕ) where
  -- from their start, the effects of the nodes of region r are lowered along one arc at a time
  pub data Lowered : (ℕ → Effect G V) → Type 0 where
    starts : (nodes : ℕ → Effect G V) (first : ℕ) → Begins p d r first → ((n : ℕ) → Lies p r n → nodes n ≡ initial a first n) → Lowered nodes
    lowers : (nodes next : ℕ → Effect G V) (m n : ℕ) → Lowered nodes → Lies p r m → Leads p d m n
        → next n ≡ either_way a (nodes n) (followed a (nodes m) (does a p steps regions m))
        → ((k : ℕ) → Lies p r k → (k ≢ n) → next k ≡ nodes k) → Lowered next

pub record Solved {V G : Type 0} (a : Algebra V G) (p : Drawn) (d : Direction) (steps nodes regions : ℕ → Effect G V) : Type 0 where
  -- in each region, the node effects come from the start by lowering
  pub lowered : (r : ℕ) → r < length p.ends → Lowered a p d steps regions r nodes
  -- no arc would lower them further
  pub stable : (m n : ℕ) → Leads p d m n → either_way a (nodes n) (followed a (nodes m) (does a p steps regions m)) ≡ nodes n
  -- a region's effect is that of its last node, and what that node does
  pub region : (r : ℕ) (e : Ends) → ends_at p r ≡ Some e → regions r ≡ followed a (nodes (last_in d e)) (does a p steps regions (last_in d e))

-- q is one of the list, and rs are the others
pub data Pick (q : ℕ) : List ℕ → List ℕ → Type 0 where
  here : {qs : List ℕ} → Pick q (q ∷ qs) qs
  there : {o : ℕ} {qs rs : List ℕ} → Pick q qs rs → Pick q (o ∷ qs) (o ∷ rs)

module _ {V G : Type 0} (a : Algebra V G) where
  -- the meet of a value for each region of a list
  abbrev pub met : (ℕ → V) → List ℕ → V
  met value [] = a.top
  met value (q ∷ qs) = a.meet (value q) (met value qs)

  -- what a node of region r adds to what the steps in r force, however deep
  abbrev pub node_forces : (ℕ → Effect G V) → (ℕ → V) → ℕ → Node → V
  node_forces steps forces n (Step r s) = (steps n).forced
  node_forces steps forces n (Fork r b k) = met forces (branches_of (Fork r b k))

  -- the same of all nodes of a list, numbered from n on, that lie in region r
  abbrev pub all_force : (ℕ → Effect G V) → (ℕ → V) → ℕ → ℕ → List Node → V
  all_force steps forces r n [] = a.top
  all_force steps forces r n (x ∷ xs) = a.meet (cond (region_of x == r) (node_forces steps forces n x) a.top) (all_force steps forces r (suc n) xs)

pub record Valued {V G : Type 0} (a : Algebra V G) (p : Drawn) (steps nodes : ℕ → Effect G V) (start : V) (forces side value : ℕ → V) : Type 0 where
  -- what the steps in a region force, however deep
  pub forced : (r : ℕ) → r < length p.ends → forces r ≡ all_force a steps forces r 0 p.nodes
  -- the side value: nothing beside region 0; beside a branch, what its fork's region has, and what the other branches force
  pub side_outermost : side 0 ≡ a.top
  pub side_branch : (f q : ℕ) (qs rs : List ℕ) → Forks p f qs → Pick q qs rs → side q ≡ a.meet (side (region_of (node_at p f))) (met a forces rs)
  -- the value at a node: its effect on the value at the enclosing fork, or on the start value, met with the side value
  pub value_outermost : (n : ℕ) → Lies p 0 n → value n ≡ a.meet (act a (nodes n) start) (side 0)
  pub value_branch : (f q n : ℕ) (qs rs : List ℕ) → Forks p f qs → Pick q qs rs → Lies p q n → value n ≡ a.meet (act a (nodes n) (value f)) (side q)
