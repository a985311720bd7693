use Rattle.std.proofs.Common.{◌≡◌, arith, rules}
use Rattle.plan.specs.Stored.{seen}
use Rattle.sweep.specs.Valuing.{home}
use Rattle.sweep.proofs.Branches.{sound}
use Rattle.sweep.proofs.Homes.{ended, home_lies}
use Rattle.sweep.proofs.buffers.Sweeping.home.Goals as goal

pub returns-in-Some-clause-there : goal.returns-in-Some-clause-there
returns-in-Some-clause-there g c =
    let p = seen c.args.self.now.plan.now in
    let is : c.in-Some.ends.first ≡ home p c.args.region = search rules in
    omega (arith, (home_lies p (sound c.args.self.now.plan.now) (ended p c.args.self.now.whole) c.args.region c.requires).0, is)

pub returns-in-None-clause-there : goal.returns-in-None-clause-there
returns-in-None-clause-there g c =
    let p = seen c.args.self.now.plan.now in
    let is : ◌≡◌ 0 (home p c.args.region) = search rules in
    omega (arith, (home_lies p (sound c.args.self.now.plan.now) (ended p c.args.self.now.whole) c.args.region c.requires).0, is)
