use Rattle.std.proofs.Common.{None, length, ap, arith}
use Rattle.std.specs.Prelude.{if◌then◌else◌}
use Rattle.re_cert.specs.Bounds.{is_fixed}
use Rattle.re_search.specs.Nodes.{way_back}
use Rattle.re_search.proofs.WaysBack.{bound-short}
use Rattle.re_search.specs.Walking.{node_at}
use Rattle.re_search.proofs.finding.certificate.Goals as goal

pub back_of-requires : goal.back_of-requires
back_of-requires c =
    let few = bound-short c.args.tree.now.kind c.args.tree.now.first.now (node_at c.args.tree.now.first.now c.args.path.items 0)
    (if is_fixed c.args.tree.now.kind then way_back c.args.tree.now.first.now (node_at c.args.tree.now.first.now c.args.path.items 0) else None) c.requires in
    let same = ap length c.as_slice.ensures.value in
    omega arith
