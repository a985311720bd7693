-- What a part of a sweep leaves as it was.
use Rattle.std.specs.Prelude.{◌≡◌}
use Rattle.kinds.specs.declared.kind.Kind.{Ghosts}
use Rattle.sweep.specs.declared.buffers.Sweeping.{Sweeping}

module _ {K V G : Type 0} {facts : Ghosts K V G} (before after : Sweeping K V G facts) where
  -- the same plan is swept for the same kind of fact, and the buffers are the same, whatever they hold
  pub record Same : Type 0 where
    pub plan : after.plan ≡ before.plan
    pub kind : after.kind ≡ before.kind
    pub direction : after.direction ≡ before.direction
    pub values : after.values.ghost_name ≡ before.values.ghost_name
    pub effects : after.effects.ghost_name ≡ before.effects.ghost_name
    pub regions : after.regions.ghost_name ≡ before.regions.ghost_name

  -- nothing is written but effects of nodes
  pub record WritesEffects : Type 0 where
    pub same : Same
    pub values : after.values.now ≡ before.values.now
    pub regions : after.regions.now ≡ before.regions.now

  -- nothing is written but values
  pub record WritesValues : Type 0 where
    pub same : Same
    pub effects : after.effects.now ≡ before.effects.now
    pub regions : after.regions.now ≡ before.regions.now
