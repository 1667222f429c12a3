use Rattle.std.proofs.Common.{arith, length}
use Rattle.re_pool.proofs.Links.{held-more}
use Rattle.re_pool.proofs.Reading.{held_node}
use Rattle.certificate_rows.proofs.pools.shape_again.Goals as goal

pub returns-in-Node : goal.returns-in-Node
returns-in-Node c =
    let held = held_node c.args.pool.now c.args.id c.shape.result.now c.in-Node.links c.shape.ensures.pool c.shape.ensures.shape c.in-Node.is in
    let inside = c.requires in
    rw c.copied.ensures.items (held-more c.args.id (length c.args.pool.now) c.in-Node.links.items (omega arith) held)
