-- A listed step finds its expression computed by a step that is not listed.
use Rattle.std.proofs.Common.{◌≡◌, ℕ, zero, suc, ◌<◌, Bool, true, false, List, [], ◌∷◌, ◌++◌, length, sym, refl, ap, ◌∙◌, subst, append_assoc, arith, length-append}
use Rattle.plan.specs.declared.node.Direction.TheVariants.{Forward}
use Rattle.plan.specs.Drawn.{Drawn, Sound}
use Rattle.plan.specs.Paths.{Whole}
use Rattle.expressions.specs.declared.expression.Expression.{Expression}
use Rattle.runs.specs.Words.{Full}
use Rattle.runs.specs.Runs.{Run}
use Rattle.runs.proofs.Plans.{fit}
use Rattle.runs.proofs.Lists.{All}
use Rattle.runs.proofs.Inside.{StepInside, beginning_steps}
use Rattle.runs.proofs.Completed.{approach_beginning}
use Rattle.runs.proofs.Approached.{beginning_approach}
use Rattle.report.specs.Strikes.{Every, Since, Computes, Available, Backed, Redundant, StrikeLaw}

pub every_append : {K : ℕ → Type 0} {u v : List ℕ} → Every K u → Every K v → Every K (u ++ v)
every_append Every.none k = k
every_append (Every.more h hs) k = Every.more h (every_append hs k)

pub since_map : {Q S K : ℕ → Type 0} {w : List ℕ} → ((m : ℕ) → Q m → S m) → Since Q K w → Since S K w
since_map f x = record { before = x.before; at = x.at; behind = x.behind; cut = x.cut; is = f x.at x.is; kept = x.kept }

all_at : {Q : ℕ → Type 0} (u : List ℕ) (n : ℕ) (v : List ℕ) → All Q (u ++ (n ∷ v)) → Q n
all_at [] n v (All.more h hs) = h
all_at (m ∷ u) n v (All.more h hs) = all_at u n v hs

module _ (p : Drawn) (sound : Sound p) (whole : Whole p) where
  -- what has run before a step of a run is a run that reaches the step
  run_cut : {n : ℕ} {w : List ℕ} → Run p Forward n w → (u : List ℕ) (m : ℕ) (v : List ℕ) → w ≡ u ++ (m ∷ v) → Run p Forward m u × (m < length p.nodes)
  run_cut x u m v e =
      let b = approach_beginning (fit p sound whole Forward) x in
      let f : Full p Forward 0 ((u ++ (m ∷ [])) ++ (v ++ b.rest)) =
      subst (Full p Forward 0) (ap (λ t. t ++ b.rest) e ∙ append_assoc u (m ∷ v) b.rest ∙ sym (append_assoc u (m ∷ []) (v ++ b.rest))) b.whole in (
        beginning_approach 0 m u (record { rest = v ++ b.rest; whole = f }),
        (all_at u m v (subst (All (StepInside p 0)) e (beginning_steps (fit p sound whole Forward) _ b))).1.0,
      )

  module _ (listed : ℕ → Bool) (l : Redundant p listed) where
    -- a listed step finds its expression available on every run
    available_at : (n : ℕ) (e : Expression) → n < length p.nodes → Computes p e n → listed n ≡ true → (w : List ℕ) → Run p Forward n w → Available p e w
    available_at n e h c t w x =
        let r = (l n h).0 t in
        let made : Computes p r.0 n = r.1 in
        let same : r.0 ≡ e = cc in
        subst (λ (d : Expression). Available p d w) same (r.2 w x)

    -- if shorter runs have it from a step that stays, so has this one
    backed_by : (e : Expression) (n : ℕ) (w : List ℕ) → Run p Forward n w
        → ((m : ℕ) (u : List ℕ) → length u < length w → m < length p.nodes → Computes p e m → listed m ≡ true → Run p Forward m u → Backed p e listed u)
        → (a : Available p e w) (b : Bool) → listed a.at ≡ b → Backed p e listed w
    backed_by e n w x shorter a false q = record { before = a.before; at = a.at; behind = a.behind; cut = a.cut; is = (a.is, q); kept = a.kept }
    backed_by e n w x shorter a true q =
        let c = run_cut x a.before a.at a.behind a.cut in
        let b = shorter a.at a.before (omega (arith, simp length-append at (ap length a.cut))) c.1 a.is q c.0 in
        record {
          before = b.before;
          at = b.at;
          behind = b.behind ++ (a.at ∷ a.behind);
          cut = a.cut ∙ ap (λ t. t ++ (a.at ∷ a.behind)) b.cut ∙ append_assoc b.before (b.at ∷ b.behind) (a.at ∷ a.behind);
          is = b.is;
          kept = every_append b.kept a.kept;
        }

    backed : (k : ℕ) (e : Expression) (n : ℕ) (w : List ℕ) → length w < k → n < length p.nodes → Computes p e n → listed n ≡ true → Run p Forward n w → Backed p e listed w
    backed zero e n w short h c t x = absurd (omega arith)
    backed (suc k) e n w short h c t x =
        let a = available_at n e h c t w x in
        backed_by e n w x (λ m u less. backed k e m u (omega arith)) a (listed a.at) refl

pub strike_law : StrikeLaw
strike_law p sound whole listed l n e h c = (
  λ t w x. backed p sound whole listed l (suc (length w)) e n w (omega arith) h c t x,
  λ all. (l n h).1 (e, c, λ w x. since_map (λ m t. t.0) (all w x)),
)
