-- What a row of events leaves. The calls among them draw the plan, and the last `keep` is what is kept; the rest only asks.
--   calls_in    the calls of a row of events, in their order
--   kept_after  what is kept after a row of events
--   Promised    what a sweep and a strike list promise of a plan
use Rattle.std.specs.Prelude.{◌≡◌, ℕ, ◌≤◌, List, [], ◌∷◌, ◌++◌, length, Ok, Result}
use Rattle.refusals.specs.declared.refusal.Refusal.{Refusal}
use Rattle.plan.specs.declared.call.Call.{Call}
use Rattle.plan.specs.declared.node.Direction.{Direction}
use Rattle.plan.specs.Drawn.{Drawn}
use Rattle.plan.specs.Paths.{Whole}
use Rattle.kinds.specs.Kinds.{Algebra}
use Rattle.sweep.specs.Swept.{ValuesMeet}
use Rattle.report.specs.declared.event.Event.{Event}
use Rattle.report.specs.declared.event.Event.TheVariants.{Draw, Keep, Sweep, Redundant, Dead, Fixed, Report}
use Rattle.report.specs.Listing.{listed_in}
use Rattle.report.specs.Strikes.{Strikeable}

-- the call that an event is
abbrev pub call_in : Event → List Call
call_in (Draw c) = c ∷ []
call_in (Keep m) = []
call_in (Sweep s d) = []
call_in Redundant = []
call_in Dead = []
call_in (Fixed v n) = []
call_in Report = []

abbrev pub calls_in : List Event → List Call
calls_in [] = []
calls_in (e ∷ es) = call_in e ++ calls_in es

-- what is kept after an event
abbrev pub kept_by : ℕ → Event → ℕ
kept_by k (Draw c) = k
kept_by k (Keep m) = m
kept_by k (Sweep s d) = k
kept_by k Redundant = k
kept_by k Dead = k
kept_by k (Fixed v n) = k
kept_by k Report = k

abbrev pub kept_after : ℕ → List Event → ℕ
kept_after k [] = k
kept_after k (e ∷ es) = kept_after (kept_by k e) es

pub record Promised {V G : Type 0} (a : Algebra V G) (p : Drawn) (d : Direction) (start : V) (values effects regions : ℕ) (swept : Result (Unit {0}) Refusal) (values' : List V)
    (listed : Result (Unit {0}) Refusal) (list' : List ℕ) : Type 0 where
  -- If the plan is whole and the buffers suffice, the sweep is not refused, and its value at every node is the meet, over all
  -- interleaved runs that reach the node in the direction, of what each run alone leaves of the start value.
  pub meets : Whole p → length p.nodes ≤ values → length p.nodes ≤ effects → length p.ends ≤ regions → (swept ≡ Ok tt) × ValuesMeet a p d start values'
  -- If the list is not refused, a step that computes an expression is listed exactly when every interleaved run that reaches
  -- it holds an earlier computation of the same expression by a step that is not listed, undisturbed since.
  pub strikes : listed ≡ Ok tt → Strikeable p (listed_in list')
