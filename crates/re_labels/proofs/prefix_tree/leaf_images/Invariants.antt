use Rattle.std.proofs.Common.{◌≡◌, map, take}
use Rattle.re_labels.specs.Configs.{image_of}
use Rattle.re_labels.specs.PrefixTrees.{leaf_configs}
use Rattle.re_labels.proofs.prefix_tree.leaf_images.Given as goal

abbrev pub invariant-loop-node : goal.invariant-loop-node
invariant-loop-node l = l.all.items ≡ map (image_of l.images) (leaf_configs (take l.node-index l.nodes))
