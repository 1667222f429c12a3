-- Nodes of a prefix tree whose labels are renumbered in place.
use Rattle.std.specs.Prelude.{List, ℕ}
use Rattle.re_labels.specs.Configs.{image_at, image_of}
use Rattle.re_labels.specs.declared.prefix_tree.Kind.{Kind}
use Rattle.re_labels.specs.declared.prefix_tree.Kind.TheVariants.{Inner, Leaf}
use Rattle.re_labels.specs.declared.prefix_tree.Node.{Node}

-- the configuration of a leaf with the images of its labels
abbrev pub kind_image : List ℕ → Kind → Kind
kind_image images (Inner first leaves) = Inner first leaves
kind_image images (Leaf config) = Leaf (image_of images config)

-- the node with the image of its label
abbrev pub node_image : List ℕ → Node → Node
node_image images node = record { label = image_at images node.label; next = node.next; parent = node.parent; kind = kind_image images node.kind }
