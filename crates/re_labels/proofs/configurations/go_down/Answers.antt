use Rattle.std.proofs.Common.{◌∙◌, ap, arith}
use Rattle.re_labels.proofs.LeafWalks.{path-within, way-down}
use Rattle.re_labels.proofs.TreeWalks.{read-there}
use Rattle.re_labels.specs.PrefixTrees.{first_of}
use Rattle.re_labels.specs.declared.prefix_tree.Node.{Node}
use Rattle.re_labels.proofs.configurations.go_down.Goals as goal

pub loop-level-preserved : goal.loop-level-preserved
loop-level-preserved c =
    let is = c.loop-level.invariant.way in
    let within = path-within c.args.nodes.now is.key c.loop-level.way.places c.loop-level.level c.loop-level.level is.path (omega arith) in
    record {
      most = omega (arith, c.loop-level-test.true);
      way = way-down c.args.degree c.loop-level.level c.args.nodes.now c.loop-level.way c.first_of-first.result is c.loop-level-test.true
          (omega (arith, c.loop-level.invariant.number, c.requires.some)) c.requires.six
          (c.first_of-first.ensures ∙ ap (λ (n : Node). first_of n.kind) (read-there c.args.nodes.now _ c.index-nodes-way.result within c.index-nodes-way.is));
      number = c.loop-level.invariant.number;
    }
