use Rattle.std.proofs.Common.{arith}
use Rattle.certificate_rows.proofs.pools.is_shifted_alike.Goals as goal

pub shift-requires-clause-view : goal.shift-requires-clause-view
shift-requires-clause-view c =
    let least = c.requires.least in
    (3, 2, 1, omega arith, omega arith, omega arith, omega arith, c.in_ok-id.ensures.view)

pub shift-requires-2-clause-view : goal.shift-requires-2-clause-view
shift-requires-2-clause-view c = (3, 2, 1, omega arith, omega arith, omega arith, rw c.in_ok-id.ensures.tree at c.in_ok-id.ensures.view)
