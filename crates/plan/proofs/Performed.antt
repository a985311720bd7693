-- What a call answers that is refused.
use Rattle.std.proofs.Common.{◌≡◌, None, Some, Option, Err, Result, ap}
use Rattle.refusals.specs.declared.refusal.Refusal.{Refusal}
use Rattle.plan.specs.Calls.{unless}

-- a refusal is the same whatever the answer would have been
pub refused_alike : {X Y : Type 0} (o : Option Refusal) (x : X) (y : Y) (e : Refusal) → ◌≡◌ {A = Result X Refusal} (Err e) (unless o x) → ◌≡◌ {A = Result Y Refusal} (Err e) (unless o y)
refused_alike None x y e is = cc
refused_alike (Some f) x y e is = let same : e ≡ f = cc in ap Err same
