use Rattle.std.proofs.Common.{◌∙◌, ap}
use Rattle.re_labels.proofs.TreeRanks.{root-leaves}
use Rattle.re_labels.specs.PrefixTrees.{bare_root, leaves_of}
use Rattle.re_labels.specs.declared.prefix_tree.Node.{Node}
use Rattle.re_labels.proofs.prefix_tree.leaf_count.Goals as goal

pub returns-in-Some : goal.returns-in-Some
returns-in-Some c =
    c.leaves_of.ensures ∙ ap (λ (n : Node). leaves_of n.kind) (c.in-Some.ensures.item.3.1 bare_root)
    ∙ root-leaves c.requires.0 c.args.nodes.now c.requires.1.0 c.requires.1.1 c.in-Some.ensures.item.3.0
