use Rattle.std.proofs.Common.{◌<◌, ◌-◌, ap, arith, sym, subst}
use Rattle.re_labels.proofs.LeafWalks.{path-within, way-on}
use Rattle.re_labels.proofs.TreeWalks.{read-there}
use Rattle.re_labels.specs.declared.prefix_tree.Node.{Node}
use Rattle.re_labels.proofs.configurations.go_on.Goals as goal

pub go_down-requires-clause-way : goal.go_down-requires-clause-way
go_down-requires-clause-way c =
    let is = c.turn_of-depth.ensures.end in
    let depth = c.turn_of-depth.result in
    let within = path-within c.args.nodes.now is.key c.args.way.now.places depth depth is.path (omega arith) in
    let read = ap (λ (n : Node). n.next) (read-there c.args.nodes.now _ c.index-nodes-way.result within c.index-nodes-way.is) in
    way-on c.args.degree depth (depth - 1) _ c.args.nodes.now c.args.way.now is (omega (arith, c.turn_of-depth.ensures.low)) c.turn_of-depth.ensures.high
    read (subst (λ n. 0 < n) (sym read) c.turn_of-depth.ensures.sibling) c.requires.six
