-- What the words of the scheme mean, case by case.
use Rattle.std.proofs.Common.{◌≡◌, ℕ, true, false, cond, List, sym, refl, ap, ◌∙◌}
use Rattle.std.proofs.lemmas.Bool.{eq-eqb, ne_eqb, true≢false}
use Rattle.plan.specs.declared.node.Node.{Node}
use Rattle.plan.specs.declared.node.Node.TheVariants.{Step, Fork}
use Rattle.plan.specs.declared.node.Direction.{Direction}
use Rattle.plan.specs.Drawn.{Drawn, node_at}
use Rattle.plan.specs.Paths.{first_in}
use Rattle.plan.specs.Calls.{is_fork}
use Rattle.kinds.specs.declared.effect.Effect.{Effect}
use Rattle.kinds.specs.Kinds.{Algebra}
use Rattle.kinds.specs.Effects.{passing, blocked}
use Rattle.runs.specs.Words.{IsStep, Forks, Begins, branches_of}
use Rattle.runs.specs.Actions.{joint}
use Rattle.runs.specs.Scheme.{does_node, does, initial, met, node_forces}

pub begins_same : (p : Drawn) (d : Direction) (r m n : ℕ) → Begins p d r m → Begins p d r n → m ≡ n
begins_same p d r m n (e, is, at) (f, is', at') = let same : e ≡ f = cc in sym at ∙ ap (first_in d) same ∙ at'

module _ {V G : Type 0} (a : Algebra V G) where
  pub initial_first : {first n : ℕ} → n ≡ first → initial a first n ≡ passing a
  initial_first {first} {n} e = ap (λ b. cond b (passing a) (blocked a)) (eq-eqb n first e)

  pub initial_other : {first n : ℕ} → (n ≡ first → ⊥) → initial a first n ≡ blocked a
  initial_other {first} {n} e = ap (λ b. cond b (passing a) (blocked a)) (ne_eqb n first e)

  module _ (p : Drawn) (steps regions : ℕ → Effect G V) {n : ℕ} where
    pub does_step : IsStep p n → does a p steps regions n ≡ steps n
    does_step (_, is) = go (node_at p n) is
      where
        go : (x : Node) → is_fork x ≡ false → does_node a p steps regions n x ≡ steps n
        go (Step r s) e = refl
        go (Fork r b k) e = absurd (true≢false e)

    pub does_fork : {qs : List ℕ} → Forks p n qs → does a p steps regions n ≡ joint a regions qs
    does_fork {qs} (_, is, are) = go (node_at p n) is ∙ ap (joint a regions) are
      where
        go : (x : Node) → is_fork x ≡ true → does_node a p steps regions n x ≡ joint a regions (branches_of x)
        go (Step r s) e = absurd (true≢false (sym e))
        go (Fork r b k) e = refl

  module _ (p : Drawn) (steps : ℕ → Effect G V) (forces : ℕ → V) {n : ℕ} where
    pub step_forces : IsStep p n → node_forces a steps forces n (node_at p n) ≡ (steps n).forced
    step_forces (_, is) = go (node_at p n) is
      where
        go : (x : Node) → is_fork x ≡ false → node_forces a steps forces n x ≡ (steps n).forced
        go (Step r s) e = refl
        go (Fork r b k) e = absurd (true≢false e)

    pub fork_forces : {qs : List ℕ} → Forks p n qs → node_forces a steps forces n (node_at p n) ≡ met a forces qs
    fork_forces {qs} (_, is, are) = go (node_at p n) is ∙ ap (met a forces) are
      where
        go : (x : Node) → is_fork x ≡ true → node_forces a steps forces n x ≡ met a forces (branches_of x)
        go (Step r s) e = absurd (true≢false (sym e))
        go (Fork r b k) e = refl
