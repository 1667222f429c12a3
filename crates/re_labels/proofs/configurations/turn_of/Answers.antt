use Rattle.std.proofs.Common.{◌∙◌, ◌-◌, ap, arith, sym}
use Rattle.re_labels.proofs.LeafWalks.{end-low, end-up, path-within, way-end}
use Rattle.re_labels.proofs.TreeWalks.{read-there}
use Rattle.re_labels.specs.declared.prefix_tree.Node.{Node}
use Rattle.re_labels.proofs.configurations.turn_of.Goals as goal

pub up-init : goal.up-init
up-init c = record { most = omega arith; end = way-end c.args.degree c.args.nodes.now c.args.way.now c.requires.way }

pub overflow_sub-depth : goal.overflow_sub-depth
overflow_sub-depth c = end-low c.args.degree c.up.depth c.args.nodes.now c.args.way.now c.up.invariant.end c.requires.more

pub up-smaller : goal.up-smaller
up-smaller c = omega (arith, end-low c.args.degree c.up.depth c.args.nodes.now c.args.way.now c.up.invariant.end c.requires.more)

pub up-preserved : goal.up-preserved
up-preserved c =
    let is = c.up.invariant.end in
    let low = end-low c.args.degree c.up.depth c.args.nodes.now c.args.way.now is c.requires.more in
    let within = path-within c.args.nodes.now is.key c.args.way.now.places c.up.depth c.up.depth is.path (omega arith) in
    record {
      most = omega (arith, c.up.invariant.most);
      end = end-up c.args.degree c.up.depth (c.up.depth - 1) c.args.nodes.now c.args.way.now is (omega (arith, low)) c.up.invariant.most
          (sym (ap (λ (n : Node). n.next) (read-there c.args.nodes.now _ c.index-nodes-way.result within c.index-nodes-way.is)) ∙ c.up-test.true);
    }

pub returns-clause-low : goal.returns-clause-low
returns-clause-low c = end-low c.args.degree c.up.depth c.args.nodes.now c.args.way.now c.up.invariant.end c.requires.more
