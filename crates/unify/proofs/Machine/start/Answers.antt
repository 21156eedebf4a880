-- `unify::Machine::start` meets its contract: three writes to three parts of the work buffer.
use mathlib.Core.Path.{◌≡◌}
use native.Mathlib.Omega.{arith}
use Rattle.unify.specs.Whole.{start_is}
use Rattle.unify.proofs.Machine.start.Goals as goal

pub returns-clause-started : goal.returns-clause-started
returns-clause-started c =
    let f = c.forget.ensures in
    let top : c.forget.new.self.top ≡ c.args.self.now.top = omega arith in
    let g = rw top at c.put.ensures.grown in
    start_is (omega arith) (omega arith) c.apart.ensures f.forgot g
