use Rattle.std.proofs.Common.{◌∙◌, ap, arith, sym}
use Rattle.re_labels.proofs.LeafWalks.{path-within, way-config}
use Rattle.re_labels.proofs.TreeWalks.{read-there}
use Rattle.re_labels.specs.declared.prefix_tree.Node.{Node}
use Rattle.re_labels.proofs.configurations.config_at.Goals as goal

pub returns : goal.returns
returns c =
    let is = c.requires.way in
    let within = path-within c.args.nodes.now is.key c.args.way.now.places c.args.degree c.args.degree is.path (omega arith) in
    sym (way-config c.args.degree c.args.nodes.now c.args.way.now c.in-Leaf.config is
    (sym (ap (λ (n : Node). n.kind) (read-there c.args.nodes.now _ c.index-nodes-way.result within c.index-nodes-way.is)) ∙ c.in-Leaf.is))
