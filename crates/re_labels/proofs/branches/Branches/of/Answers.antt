use Rattle.std.proofs.Common.{◌∙◌, ap}
use Rattle.re_labels.proofs.Descents.{all-there}
use Rattle.re_labels.specs.PrefixTrees.{bare_root, first_of}
use Rattle.re_labels.specs.declared.prefix_tree.Node.{Node}
use Rattle.re_labels.proofs.branches.Branches.of.Goals as goal

pub returns-in-Some : goal.returns-in-Some
returns-in-Some c = λ degree some tree.
    all-there degree some c.args.nodes.now tree (record { place = c.first_of.result }) c.in-Some.ensures.item.3.0
    (c.first_of.ensures ∙ ap (λ (n : Node). first_of n.kind) (c.in-Some.ensures.item.3.1 bare_root))
