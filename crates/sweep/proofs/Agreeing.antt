-- A region that is solved stays solved while its own nodes and the regions above it keep their effects.
use Rattle.std.proofs.Common.{◌≡◌, ℕ, zero, suc, ◌<◌, ◌≤◌, List, length, set, Some, sym, refl, ap, ◌∙◌, subst, ap₂, arith, get_or-set_other, get_or-set_same}
use Rattle.plan.specs.declared.node.Node.{Node}
use Rattle.plan.specs.declared.node.Node.TheVariants.{Step, Fork}
use Rattle.plan.specs.declared.node.Ends.{Ends}
use Rattle.plan.specs.declared.node.Direction.{Direction}
use Rattle.plan.specs.declared.node.Direction.TheVariants.{Forward, Backward}
use Rattle.plan.specs.Drawn.{Drawn, node_at, arc_at, ends_at, region_of, Lies, Joins, Sound}
use Rattle.plan.specs.Paths.{turned, last_in, Leads}
use Rattle.plan.proofs.Forks.{branches_within}
use Rattle.plan.proofs.Marking.{joins_turned}
use Rattle.kinds.specs.declared.effect.Effect.{Effect}
use Rattle.kinds.specs.Kinds.{Algebra}
use Rattle.kinds.specs.Effects.{passing, followed, either_way, beside}
use Rattle.runs.specs.Words.{count_from}
use Rattle.runs.specs.Actions.{joint, steps_of}
use Rattle.runs.specs.Scheme.{does, does_node, Lowered, Lowered.starts, Lowered.lowers}
use Rattle.sweep.specs.Slots.{slot}
use Rattle.sweep.specs.Rounds.{node_does, SettledTo}
use Rattle.sweep.specs.Solving.{SolvedIn}

last_of : (P : ℕ → Type 0) (d : Direction) (e : Ends) → P e.first × P e.last → P (last_in d e)
last_of P Forward e l = l.1
last_of P Backward e l = l.0

module _ {V G : Type 0} (a : Algebra V G) (p : Drawn) (s : Sound p) (d : Direction) (r : ℕ) where
  arc_lies : (m n : ℕ) → Leads p d m n → Lies p r m → Lies p r n
  arc_lies m n (k, h, e) l = let j = subst (Joins p) e (joins_turned p d (arc_at p k) (s.joined k h)) in (j.1, sym j.2 ∙ l.1)

  pub last_lies : (e : Ends) → ends_at p r ≡ Some e → Lies p r (last_in d e)
  last_lies e is = last_of (Lies p r) d e (s.bounded r e is)

  joint_agree : (R R' : ℕ → Effect G V) (b k : ℕ) → ((q : ℕ) → b ≤ q → R q ≡ R' q) → joint a R (count_from b k) ≡ joint a R' (count_from b k)
  joint_agree R R' b zero same = refl
  joint_agree R R' b (suc k) same = ap₂ (beside a) (same b (omega arith)) (joint_agree R R' (suc b) k (λ q h. same q (omega arith)))

  module _ (steps R R' : ℕ → Effect G V) (same : (q : ℕ) → r < q → R q ≡ R' q) where
    does_node_agree : (m : ℕ) (x : Node) → m < length p.nodes → node_at p m ≡ x → region_of x ≡ r → does_node a p steps R m x ≡ does_node a p steps R' m x
    does_node_agree m (Step q st) h is e = refl
    does_node_agree m (Fork q b k) h is e =
        joint_agree R R' b k (λ o l. same o (omega (arith, (branches_within p s m q b k h is).0, e, l)))

    -- what a node of the region does
    pub does_agree : (m : ℕ) → Lies p r m → does a p steps R m ≡ does a p steps R' m
    does_agree m l = does_node_agree m (node_at p m) l.0 refl l.1

    pub lowered_agree : (E E' : ℕ → Effect G V) → Lowered a p d steps R r E → ((n : ℕ) → Lies p r n → E n ≡ E' n) → Lowered a p d steps R' r E'
    lowered_agree _ E' (starts E first begins init) agree = starts E' first begins (λ n l. sym (agree n l) ∙ init n l)
    lowered_agree _ E' (lowers before E m n low lies leads is others) agree =
        lowers before E' m n (lowered_agree before before low (λ k l. refl)) lies leads
        (sym (agree n (arc_lies m n leads lies)) ∙ is ∙ ap (λ (f : Effect G V). either_way a (before n) (followed a (before m) f)) (does_agree m lies))
        (λ k l ne. sym (agree k l) ∙ others k l ne)

  module _ (nodes nodes' regions regions' : List (Effect G V)) (same_nodes : (n : ℕ) → Lies p r n → slot a nodes n ≡ slot a nodes' n) (same-regions : (q : ℕ) → r < q → slot a regions q ≡ slot a regions' q) where
    does_same : (m : ℕ) → Lies p r m → node_does a p regions m ≡ node_does a p regions' m
    does_same = does_agree (steps_of a p) (slot a regions) (slot a regions') same-regions

    settled_agree : SettledTo a p regions d r nodes (length p.arcs) → SettledTo a p regions' d r nodes' (length p.arcs)
    settled_agree o k h e =
        let arc = turned d (arc_at p k) in
        let j = joins_turned p d (arc_at p k) (s.joined k h) in
        let from : Lies p r arc.from = (j.0, e) in
        let to : Lies p r arc.to = (j.1, sym j.2 ∙ e) in
        ap₂ (either_way a) (sym (same_nodes arc.to to)) (ap₂ (followed a) (sym (same_nodes arc.from from)) (sym (does_same arc.from from)))
        ∙ o k h e ∙ same_nodes arc.to to

    pub solved_agree : slot a regions r ≡ slot a regions' r → SolvedIn a p d r nodes regions → SolvedIn a p d r nodes' regions'
    solved_agree same-region o = record {
      lowered = lowered_agree (steps_of a p) (slot a regions) (slot a regions') same-regions (slot a nodes) (slot a nodes') o.lowered same_nodes;
      settled = settled_agree o.settled;
      region = λ e is. sym same-region ∙ o.region e is ∙ ap₂ (followed a) (same_nodes (last_in d e) (last_lies e is)) (does_same (last_in d e) (last_lies e is));
    }

  -- a region whose nodes are settled is solved once its own effect stands in its slot
  pub solved_set : (nodes regions : List (Effect G V)) (f : Effect G V) (e : Ends) → r < length regions → ends_at p r ≡ Some e
      → Lowered a p d (steps_of a p) (slot a regions) r (slot a nodes) → SettledTo a p regions d r nodes (length p.arcs)
      → f ≡ followed a (slot a nodes (last_in d e)) (node_does a p regions (last_in d e)) → SolvedIn a p d r nodes (set regions r f)
  solved_set nodes regions f e h is low settled from =
      let above : (q : ℕ) → r < q → slot a regions q ≡ slot a (set regions r f) q = λ q l. sym (get_or-set_other regions r q f (passing a) (λ o. omega (arith, l, o))) in
      record {
        lowered = lowered_agree (steps_of a p) (slot a regions) (slot a (set regions r f)) above (slot a nodes) (slot a nodes) low (λ n l. refl);
        settled = settled_agree nodes nodes regions (set regions r f) (λ n l. refl) above settled;
        region = λ e' is'.
            let same : e ≡ e' = cc in
            get_or-set_same regions r f (passing a) h ∙ from
            ∙ ap (λ (o : Effect G V). followed a (slot a nodes (last_in d e)) o) (does_same nodes nodes regions (set regions r f) (λ n l. refl) above (last_in d e) (last_lies e is))
            ∙ ap (λ (o : Ends). followed a (slot a nodes (last_in d o)) (node_does a p (set regions r f) (last_in d o))) same;
      }
