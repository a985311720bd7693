use Rattle.std.proofs.Common.{◌≡◌, ℕ, ◌<◌, length, Some, is_some, ap, rules}
use Rattle.std.proofs.lemmas.Iterator.{IsFirst-from_position, YieldsList-from_slice}
use Rattle.plan.specs.Drawn.{node_at}
use Rattle.plan.specs.Stored.{seen}
use Rattle.sweep.specs.Valuing.{Branch}
use Rattle.sweep.proofs.Branches.{sound}
use Rattle.sweep.proofs.Owners.{fork_found}
use Rattle.sweep.proofs.buffers.Sweeping.fork_of.Given as given
use Rattle.sweep.proofs.buffers.Sweeping.fork_of.Goals as goal
use Rattle.sweep.proofs.buffers.Sweeping.fork_of.Goals.{After-position}

found : (g : given.Over) (c : After-position g) → (f : ℕ) × (c.position.result ≡ Some f) × (f < length (seen c.args.self.now.plan.now).nodes) × Branch (node_at (seen c.args.self.now.plan.now) f) c.args.region
found g c =
    let plan = c.args.self.now.plan.now in
    let q = c.args.region in
    fork_found (seen plan) (sound plan) c.args.self.now.whole q c.requires.0 c.requires.1 c.position.result
    (IsFirst-from_position _ _ c.position.result (λ x. Branch x q) (λ x. Branch x q → ⊥) c.position.ensures.ran
    (YieldsList-from_slice (seen plan).nodes (cc)) (λ x f k. search rules) (λ x f k. (search rules, search rules)))

pub unwrap-requires : goal.unwrap-requires
unwrap-requires g c = ap is_some (found g c).1
