use Rattle.std.proofs.Common.{arith, refl}
use Rattle.re_labels.proofs.LeafWalks.{way-root}
use Rattle.re_labels.proofs.TreeRanks.{some-node}
use Rattle.re_labels.proofs.configurations.walk_of.Goals as goal

pub go_down-requires-clause-way : goal.go_down-requires-clause-way
go_down-requires-clause-way c =
    let tree = c.requires.tree in
    way-root c.args.degree c.args.nodes.now tree.0 _ tree.1 (some-node c.args.nodes.now 0 (omega (arith, c.leaf_count-end.ensures, c.if-end-gt0.true))) refl refl refl
