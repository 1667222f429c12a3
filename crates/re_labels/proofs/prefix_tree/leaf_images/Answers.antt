use Rattle.std.proofs.Common.{◌<◌, ◌∙◌, ◌∷◌, ◌++◌, [], ap, sym, length, List, ℕ}
use Rattle.std.specs.List.{AllByRecursion}
use Rattle.re_labels.specs.Configs.{image_of}
use Rattle.re_labels.proofs.Membership.{AllByRecursion-In}
use Rattle.re_labels.proofs.TreeLeaves.{leaf-In}
use Rattle.re_labels.proofs.TreeSteps.{images-more, images-same}
use Rattle.re_labels.proofs.TreeWalks.{read-node}
use Rattle.re_labels.specs.PrefixTrees.{leaf_configs}
use Rattle.re_labels.specs.declared.prefix_tree.Node.{Node}
use Rattle.re_labels.proofs.prefix_tree.leaf_images.Goals as goal
use Rattle.re_labels.proofs.prefix_tree.leaf_images.Goals.{in-Leaf+in_ok-push, in_default}

pub image-requires-clause-known : goal.image-requires-clause-known
image-requires-clause-known c =
    let nodes = c.args.nodes.now in
    AllByRecursion-In (AllByRecursion (λ label. label < length c.args.images.now)) (leaf_configs nodes) c.in-Leaf.config c.requires.known
    (leaf-In nodes c.loop-node.node-index c.in-Leaf.config c.loop-node-test.true (ap (λ (n : Node). n.kind) (sym (read-node nodes c.loop-node.node-index c.node-item.result c.loop-node-test.true c.node-item.is)) ∙ c.in-Leaf.is))

pub loop-node-preserved : goal.loop-node-preserved
loop-node-preserved c =
    let nodes = c.args.nodes.now in
    let f : List ℕ → List ℕ = image_of c.args.images.now in
    elim c.match-node.branch [
      | in-Leaf+in_ok-push w ↦
          images-more f nodes c.loop-node.node-index c.node-item.result w.in-Leaf.config c.loop-node.all.items c.match-node.all.items c.loop-node-test.true c.node-item.is w.in-Leaf.is c.loop-node.invariant
          (ap (λ v. v.items) w.all-is ∙ w.in_ok-push.ensures.items ∙ ap (λ x. c.loop-node.all.items ++ x ∷ []) w.image.ensures)
      | in_default w ↦
          ap (λ v. v.items) w.all-is
          ∙ images-same f nodes c.loop-node.node-index w.in_default.field-0 w.in_default.field-1 c.node-item.result c.loop-node.all.items c.loop-node-test.true c.node-item.is w.in_default.is c.loop-node.invariant
    ]
