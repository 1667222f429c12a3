use Rattle.std.proofs.Common.{◌≡◌, ◌<◌, ◌+◌, ◌∙◌, add-one, ap, arith, get_or, length, subst, sym}
use Rattle.re_labels.proofs.PlacesUp.{places_up-next, places_up-start}
use Rattle.re_labels.proofs.TreeWalks.{read-there}
use Rattle.re_labels.specs.PrefixTrees.{node_at}
use Rattle.re_labels.specs.TreeGrowth.{places_up}
use Rattle.re_labels.specs.declared.prefix_tree.Node.{Node}
use Rattle.re_labels.proofs.prefix_tree.up_from.Goals as goal

pub loop-level-init : goal.loop-level-init
loop-level-init c = record { low = omega arith; at = sym (places_up-start c.args.nodes.now c.args.start (c.args.count + 1) (omega arith)) }

pub bounds-nodes-at : goal.bounds-nodes-at
bounds-nodes-at c = subst (λ p. p < length c.args.nodes.now) (sym c.loop-level.invariant.at) (c.requires c.loop-level._level (omega (arith, c.loop-level-test.true)))

pub loop-level-preserved : goal.loop-level-preserved
loop-level-preserved c =
    let nodes = c.args.nodes.now in
    let within : c.loop-level.at < length nodes = subst (λ p. p < length nodes) (sym c.loop-level.invariant.at) (c.requires c.loop-level._level (omega (arith, c.loop-level-test.true))) in
    record {
      low = omega (arith, c.loop-level-test.true);
      at = ap (λ (n : Node). n.parent) (read-there nodes c.loop-level.at c.index-nodes-at.result within c.index-nodes-at.is) ∙ ap (λ p. (node_at nodes p).parent) c.loop-level.invariant.at
          ∙ sym (places_up-next nodes c.args.start (c.args.count + 1) c.loop-level._level (omega (arith, c.loop-level-test.true)))
          ∙ ap (λ k. get_or (places_up nodes c.args.start (c.args.count + 1)) k 0) (sym (add-one c.loop-level._level));
    }

pub returns : goal.returns
returns c =
    let whole : c.loop-level._level ≡ c.args.count = omega (arith, c.loop-level-test.false, c.loop-level.invariant.low) in
    c.loop-level.invariant.at ∙ ap (λ k. get_or (places_up c.args.nodes.now c.args.start (c.args.count + 1)) k 0) whole
