use Rattle.std.proofs.Common.{◌<◌, arith, subst, sym}
use Rattle.re_labels.proofs.Descents.{first-there, narrow-there}
use Rattle.re_labels.proofs.TreeWalks.{read-there}
use Rattle.re_labels.specs.Endings.{IsFirst}
use Rattle.re_labels.specs.declared.prefix_tree.Node.{Node}
use Rattle.re_labels.proofs.branches.Branches.first_label.Goals as goal
use Rattle.re_labels.specs.declared.TheConstants.{MAX_LABELS}

pub returns-else-self-eq0 : goal.returns-else-self-eq0
returns-else-self-eq0 c = λ degree depth is deep.
    let some : 0 < c.args.self.place = (let h = c.if-self-eq0.false in omega arith) in
    let read = read-there c.args.nodes.now c.args.self.place c.index-nodes-self.result (c.requires some) c.index-nodes-self.is in
    subst (λ (n : Node). (n.label < MAX_LABELS) × IsFirst degree c.args.nodes.now depth c.args.self n.label) (sym read)
    (narrow-there degree c.args.nodes.now depth c.args.self is deep some, first-there degree c.args.nodes.now depth c.args.self is deep some)
