use Rattle.std.proofs.Common.{◌≡◌, ◌<◌, ◌∙◌, ℕ, List, ap, arith, inl, inr, length, set, sym, subst}
use Rattle.std.proofs.lemmas.List.{get_or-set_other, get_or-set_same, length-set}
use Rattle.std.specs.List.{AllByRecursion}
use Rattle.re_labels.proofs.Before.{three_ways}
use Rattle.re_labels.proofs.Renumbering.{all-imaged, leaf-known}
use Rattle.re_labels.proofs.TreeWalks.{read-there}
use Rattle.re_labels.specs.PrefixTrees.{bare_root, configs_of, node_at}
use Rattle.re_labels.specs.Renumbered.{node_image}
use Rattle.re_labels.specs.declared.prefix_tree.Node.{Node}
use Rattle.re_labels.proofs.prefix_tree.renumber_nodes.Goals as goal

pub renumber_node-requires-clause-known : goal.renumber_node-requires-clause-known
renumber_node-requires-clause-known c =
    let P : List ℕ → Type 0 = AllByRecursion (λ label. label < length c.args.images.now) in
    let within : c.loop-place.place < length c.loop-place.nodes = omega (arith, c.loop-place.invariant.count, c.loop-place-test.true) in
    let read = read-there c.loop-place.nodes c.loop-place.place c.index-nodes-place.result within c.index-nodes-place.is ∙ c.loop-place.invariant.left c.loop-place.place (omega arith) in
    subst (λ (n : Node). AllByRecursion P (configs_of n.kind)) (sym read) (leaf-known P c.args.nodes.now c.loop-place.place c.loop-place-test.true c.requires.known)

pub loop-place-preserved : goal.loop-place-preserved
loop-place-preserved c =
    let nodes = c.loop-place.nodes in
    let place = c.loop-place.place in
    let node = c.renumber_node.new.node in
    let within : place < length nodes = omega (arith, c.loop-place.invariant.count, c.loop-place-test.true) in
    let read = read-there nodes place c.index-nodes-place.result within c.index-nodes-place.is ∙ c.loop-place.invariant.left place (omega arith) in
    let here : node ≡ node_image c.args.images.now (node_at c.args.nodes.now place) = c.renumber_node.ensures ∙ ap (node_image c.args.images.now) read in
    record {
      count = length-set nodes place node ∙ c.loop-place.invariant.count;
      done = λ q l. elim (three_ways q place) [
        | inl less ↦ get_or-set_other nodes place q node bare_root (λ e. omega arith) ∙ c.loop-place.invariant.done q less
        | inr (inl same) ↦
            subst (λ p. node_at (set nodes place node) p ≡ node_image c.args.images.now (node_at c.args.nodes.now p)) (sym same)
            (get_or-set_same nodes place node bare_root within ∙ here)
        | inr (inr more) ↦ absurd (omega arith)
      ];
      left = λ q l. get_or-set_other nodes place q node bare_root (λ e. omega arith) ∙ c.loop-place.invariant.left q (omega arith);
    }

pub returns : goal.returns
returns c = all-imaged c.args.images.now c.args.nodes.now c.loop-place.nodes c.loop-place.invariant.count (λ q l. c.loop-place.invariant.done q (omega (arith, c.loop-place-test.false)))
