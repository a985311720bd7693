-- The value at a node is below what every run that reaches it leaves of the start value.
use Rattle.std.proofs.Common.{◌≡◌, ℕ, List, ◌∷◌, sym, ap, ◌∙◌}
use Rattle.plan.specs.declared.node.Direction.{Direction}
use Rattle.plan.specs.Drawn.{Drawn, Lies}
use Rattle.kinds.specs.declared.effect.Effect.{Effect}
use Rattle.kinds.specs.Kinds.{Algebra, Laws}
use Rattle.kinds.specs.Effects.{Below, act}
use Rattle.runs.specs.Words.{Beginning}
use Rattle.runs.specs.Runs.{Begun, Approach, Approach.direct, Approach.inside, Nearing, Nearing.first, Nearing.later, Run}
use Rattle.runs.specs.Actions.{run}
use Rattle.runs.specs.Scheme.{Solved, Pick, met, Valued}
use Rattle.runs.proofs.Order.{below_eq, below_trans, below_is, below_top, meet_left, meet_right}
use Rattle.runs.proofs.Effects.{run_append, run_mono, below_run, below_shuffle}
use Rattle.runs.proofs.Lists.{all_map}
use Rattle.runs.proofs.Shuffles.{shuffle_turn}
use Rattle.runs.proofs.Plans.{Fit}
use Rattle.runs.proofs.Completed.{way_lies}
use Rattle.runs.proofs.Lower.{way_below}
use Rattle.runs.proofs.Inside.{beginning_steps}
use Rattle.runs.proofs.Forced.{forces_below}

module _ {V G : Type 0} {a : Algebra V G} (l : Laws a) {p : Drawn} {d : Direction} (fit : Fit p d)
    {steps nodes regions : ℕ → Effect G V} (s : Solved a p d steps nodes regions)
    {start : V} {forces side value : ℕ → V} (v : Valued a p steps nodes start forces side value) where
  open a use {meet, top}

  beginning_below : {q : ℕ} (u : List ℕ) {z : V} → Beginning p d q u → (x : V) → Below a z (forces q) → Below a z x → Below a z (run a steps u x)
  beginning_below u b x h = below_run l steps (all_map (λ n (i, is). below_trans l h (forces_below l fit v i is)) (beginning_steps fit u b)) x

  begun_below : {qs u : List ℕ} {z : V} → Begun p d qs u → (x : V) → Below a z (met a forces qs) → Below a z x → Below a z (run a steps u x)
  begun_below Begun.none x h k = k
  begun_below (Begun.more {u = u} b bs m) x h k =
      below_shuffle l steps m x (beginning_below u b x (below_trans l h (meet_left l _ _)) k) (begun_below bs top (below_trans l h (meet_right l _ _)) (below_top l _))

  -- region r is entered with the value x
  abbrev Entered : ℕ → V → Type 0
  Entered r x = (n : ℕ) → Lies p r n → value n ≡ meet (act a (nodes n) x) (side r)

  -- what an approach within one branch gives of the word u in which the other branches are shuffled in
  record Neared (n : ℕ) (qs u : List ℕ) : Type 0 where
    q : ℕ
    others : List ℕ
    w : List ℕ
    picked : Pick q qs others
    entered : (x : V) → Entered q x → Below a (value n) (run a steps w x) × Below a (value n) (side q)
    shuffled : (z x : V) → Below a z (run a steps w x) → Below a z (met a forces others) → Below a z (run a steps u x)

  mutual
    approach_below : {r n : ℕ} {w : List ℕ} → Approach p d r n w → (x : V) → Entered r x → Below a (value n) (run a steps w x) × Below a (value n) (side r)
    approach_below (direct {r = r} {n = n} h) x entered =
        let at : Below a (value n) (meet (act a (nodes n) x) (side r)) = below_eq l (entered n (way_lies fit h)) in
        (below_trans l at (below_trans l (meet_left l _ _) (way_below l fit s h x)), below_trans l at (meet_right l _ _))
    approach_below (inside {r = r} {n = n} {f = f} {w = w} {v = u} h forks y) x entered =
        let t = nearing_below y in
        let lies = way_lies fit h in
        let (own, beside) = t.entered (value f) (λ m k. v.value_branch f t.q m _ t.others forks t.picked k) in
        let sides : Below a (value n) (meet (side r) (met a forces t.others)) =
        below_is l beside (v.side_branch f t.q _ t.others forks t.picked ∙ ap (λ (o : ℕ). meet (side o) (met a forces t.others)) lies.1) in
        let fork : Below a (value f) (run a steps w x) = below_trans l (below_eq l (entered f lies)) (below_trans l (meet_left l _ _) (way_below l fit s h x)) in
        let from : Below a (value n) (run a steps t.w (run a steps w x)) = below_trans l own (run_mono l steps t.w fork) in
        (below_is l (t.shuffled (value n) (run a steps w x) from (below_trans l sides (meet_right l _ _))) (sym (run_append l steps w u x)), below_trans l sides (meet_left l _ _))

    nearing_below : {n : ℕ} {qs u : List ℕ} → Nearing p d n qs u → Neared n qs u
    nearing_below (first {q = q} {qs = qs} {u = w} y bs m) = record {
      q = q;
      others = qs;
      w = w;
      picked = Pick.here;
      entered = approach_below y;
      shuffled = λ z x h k. below_shuffle l steps m x h (begun_below bs top k (below_top l _));
    }
    nearing_below (later {q = o} {u = w} b y m) =
        let t = nearing_below y in
        record {
          q = t.q;
          others = o ∷ t.others;
          w = t.w;
          picked = Pick.there t.picked;
          entered = t.entered;
          shuffled = λ z x h k. below_shuffle l steps (shuffle_turn m) x (t.shuffled z x h (below_trans l k (meet_right l _ _)))
              (beginning_below w b top (below_trans l k (meet_left l _ _)) (below_top l _));
        }

  pub value_below : (n : ℕ) (w : List ℕ) → Run p d n w → Below a (value n) (run a steps w start)
  value_below n w h = (approach_below h start v.value_outermost).0
