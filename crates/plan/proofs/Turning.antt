-- A path backward is a path forward, turned round.
use Rattle.std.proofs.Common.{ℕ, ◌<◌, length, Some, None, Option, ap, MatchOption}
use Rattle.plan.specs.declared.node.Direction.{Direction}
use Rattle.plan.specs.declared.node.Direction.TheVariants.{Forward, Backward}
use Rattle.plan.specs.Drawn.{Drawn}
use Rattle.plan.specs.Paths.{turned, Leads, Path, stay, go, Reached, Leaves, EachLeaves, Lowest}

abbrev pub flip : Direction → Direction
flip Forward = Backward
flip Backward = Forward

module _ (p : Drawn) where
  leads_flipped : (d : Direction) (m n : ℕ) → Leads p d m n → Leads p (flip d) n m
  leads_flipped Forward m n (k, h, e) = (k, h, ap (turned Backward) e)
  leads_flipped Backward m n (k, h, e) = (k, h, ap (turned Backward) e)

  -- one arc before a path
  path_before : (d : Direction) (l m n : ℕ) → Leads p d l m → Path p d m n → Path p d l n
  path_before d l m _ a stay = go stay a
  path_before d l m n a (go w b) = go (path_before d l m _ a w) b

  pub path_flipped : (d : Direction) (m n : ℕ) → Path p d m n → Path p (flip d) n m
  path_flipped d m _ stay = stay
  path_flipped d m n (go {k = k} w a) = path_before (flip d) n k m (leads_flipped d k n a) (path_flipped d m k w)

  -- reached backward is the same as leading to the last node
  pub reached_leaves : (n : ℕ) → Reached p Backward n → Leaves p n
  reached_leaves n r = (r.0, r.1, path_flipped Backward _ n r.2)

  pub leaves_reached : (n : ℕ) → Leaves p n → Reached p Backward n
  leaves_reached n r = (r.0, r.1, path_flipped Forward n _ r.2)

  -- the lowest node that is not reached backward is the lowest that does not lead on
  pub unreached_stranded : (found : Option ℕ)
      → MatchOption found ((n : ℕ) → n < length p.nodes → Reached p Backward n) (λ n. Lowest (length p.nodes) (Reached p Backward) n)
      → MatchOption found (EachLeaves p) (λ n. Lowest (length p.nodes) (Leaves p) n)
  unreached_stranded None all = λ n h. reached_leaves n (all n h)
  unreached_stranded (Some n) low = record { within = low.within; lacks = λ l. low.lacks (leaves_reached n l); least = λ k h. reached_leaves k (low.least k h) }
