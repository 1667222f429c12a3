use Rattle.std.proofs.Common.{◌<◌, ap, arith}
use Rattle.re_labels.proofs.Descents.{after-there}
use Rattle.re_labels.proofs.TreeWalks.{read-there}
use Rattle.re_labels.specs.declared.prefix_tree.Node.{Node}
use Rattle.re_labels.proofs.branches.Branches.after.Goals as goal

pub returns : goal.returns
returns c = λ degree depth label is deep first.
    let some : 0 < c.args.self.place = (let h = c.if-self-eq0.false in omega arith) in
    after-there degree c.args.nodes.now depth c.args.self is deep label first _
    (ap (λ (n : Node). n.next) (read-there c.args.nodes.now c.args.self.place c.index-nodes-self.result (c.requires some) c.index-nodes-self.is))
