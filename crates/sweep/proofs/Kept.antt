-- Parts of a sweep one after another.
use Rattle.std.proofs.Common.{◌≡◌, length, ap, ◌∙◌}
use Rattle.plan.specs.Stored.{seen}
use Rattle.kinds.specs.declared.kind.Kind.{Ghosts}
use Rattle.sweep.specs.declared.buffers.Sweeping.{Sweeping}
use Rattle.sweep.specs.Kept.{Same, WritesEffects, WritesValues}

module _ {K V G : Type 0} {facts : Ghosts K V G} {s t : Sweeping K V G facts} where
  -- the plan keeps its size
  pub nodes_same : Same s t → length (seen t.plan.now).nodes ≡ length (seen s.plan.now).nodes
  nodes_same e = ap (λ q. length (seen q.now).nodes) e.plan

  pub ends_same : Same s t → length (seen t.plan.now).ends ≡ length (seen s.plan.now).ends
  ends_same e = ap (λ q. length (seen q.now).ends) e.plan

module _ {K V G : Type 0} {facts : Ghosts K V G} {r s t : Sweeping K V G facts} where
  pub same_then : Same r s → Same s t → Same r t
  same_then e f = record {
    plan = f.plan ∙ e.plan;
    kind = f.kind ∙ e.kind;
    direction = f.direction ∙ e.direction;
    values = f.values ∙ e.values;
    effects = f.effects ∙ e.effects;
    regions = f.regions ∙ e.regions;
  }

  pub writes_effects_then : WritesEffects r s → WritesEffects s t → WritesEffects r t
  writes_effects_then e f = record { same = same_then e.same f.same; values = f.values ∙ e.values; regions = f.regions ∙ e.regions }

  pub writes_values_then : WritesValues r s → WritesValues s t → WritesValues r t
  writes_values_then e f = record { same = same_then e.same f.same; effects = f.effects ∙ e.effects; regions = f.regions ∙ e.regions }
