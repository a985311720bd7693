-- A plan all of whose regions are solved is solved.
use Rattle.std.proofs.Common.{◌≡◌, ℕ, ◌+◌, ◌<◌, ◌≤◌, ◌⊎◌, List, length, sym, refl, ◌∙◌, subst, inl, inr, arith}
use Rattle.std.proofs.lemmas.Bool.{cases_eq}
use Rattle.plan.specs.declared.node.Arc.{Arc}
use Rattle.plan.specs.declared.node.Direction.{Direction}
use Rattle.plan.specs.Drawn.{Drawn, node_at, arc_at, region_of, Joins, Sound}
use Rattle.plan.specs.Paths.{Leads}
use Rattle.plan.proofs.Forks.{region_there}
use Rattle.plan.proofs.Marking.{joins_turned, ended_there}
use Rattle.kinds.specs.declared.effect.Effect.{Effect}
use Rattle.kinds.specs.Kinds.{Algebra}
use Rattle.runs.specs.Actions.{steps_of}
use Rattle.runs.specs.Scheme.{Solved}
use Rattle.sweep.specs.Slots.{slot}
use Rattle.sweep.specs.Rounds.{brought}
use Rattle.sweep.specs.Solving.{SolvedIn}
use Rattle.sweep.proofs.Agreeing.{solved_agree}

module _ {V G : Type 0} (a : Algebra V G) (p : Drawn) (s : Sound p) (d : Direction) where
  -- the regions from i on are solved
  abbrev pub SolvedFrom : ℕ → List (Effect G V) → List (Effect G V) → Type 0
  SolvedFrom i nodes regions = (q : ℕ) → i ≤ q → q < length p.ends → SolvedIn a p d q nodes regions

  -- one region more is solved, and the others keep what they have
  pub solved_more : (i r : ℕ) (nodes nodes' regions regions' : List (Effect G V)) → i ≡ r + 1 → SolvedIn a p d r nodes' regions'
      → ((n : ℕ) → n < length p.nodes → (region_of (node_at p n) ≡ r → ⊥) → slot a nodes' n ≡ slot a nodes n)
      → ((q : ℕ) → (q ≡ r → ⊥) → slot a regions' q ≡ slot a regions q) → SolvedFrom i nodes regions → SolvedFrom r nodes' regions'
  solved_more i r nodes nodes' regions regions' is new same_nodes same-regions old q h within = by (cases_eq q r)
    where
      by : ((q ≡ r) ⊎ (q ≡ r → ⊥)) → SolvedIn a p d q nodes' regions'
      by (inl e) = subst (λ (o : ℕ). SolvedIn a p d o nodes' regions') (sym e) new
      by (inr ne) =
          solved_agree a p s d q nodes nodes' regions regions'
          (λ n l. sym (same_nodes n l.0 (λ e. ne (sym l.1 ∙ e))))
          (λ o l. sym (same-regions o (λ e. omega (arith, h, l, e))))
          (sym (same-regions q ne)) (old q (omega (arith, h, ne, is)) within)

  pub all_solved : (nodes regions : List (Effect G V)) → SolvedFrom 0 nodes regions → Solved a p d (steps_of a p) (slot a nodes) (slot a regions)
  all_solved nodes regions all = record {
    lowered = λ r h. (all r (omega arith) h).lowered;
    stable = λ m n leads. stable m n leads;
    region = λ r e is. (all r (omega arith) (ended_there p r e is)).region e is;
  }
    where
      stable : (m n : ℕ) → Leads p d m n → brought a p regions nodes (record { from = m; to = n }) ≡ slot a nodes n
      stable m n (k, h, e) =
          let j = subst (Joins p) e (joins_turned p d (arc_at p k) (s.joined k h)) in
          subst (λ (arc : Arc). region_of (node_at p arc.from) ≡ region_of (node_at p m) → brought a p regions nodes arc ≡ slot a nodes arc.to) e
          ((all (region_of (node_at p m)) (omega arith) (region_there p s m j.0)).settled k h) refl
