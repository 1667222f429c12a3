use Rattle.std.proofs.Common.{◌<◌, ◌∙◌, ap, arith, refl, sym}
use Rattle.re_labels.proofs.Descents.{below-there}
use Rattle.re_labels.proofs.TreeWalks.{read-there}
use Rattle.re_labels.specs.declared.prefix_tree.Kind.TheVariants.{Inner, Leaf}
use Rattle.re_labels.specs.declared.prefix_tree.Node.{Node}
use Rattle.re_labels.proofs.branches.Branches.below.Goals as goal

pub returns-in-Inner : goal.returns-in-Inner
returns-in-Inner c = λ degree depth label is deep first.
    let some : 0 < c.args.self.place = (let h = c.if-self-eq0.false in omega arith) in
    let read = read-there c.args.nodes.now c.args.self.place c.index-nodes-self.result (c.requires some) c.index-nodes-self.is in
    below-there degree c.args.nodes.now depth c.args.self is deep label first (record { place = c.in-Inner.first }) (Inner c.in-Inner.first c.in-Inner.leaves)
    (ap (λ (n : Node). n.kind) (sym read) ∙ c.in-Inner.is) refl

pub returns-in-Leaf : goal.returns-in-Leaf
returns-in-Leaf c = λ degree depth label is deep first.
    let some : 0 < c.args.self.place = (let h = c.if-self-eq0.false in omega arith) in
    let read = read-there c.args.nodes.now c.args.self.place c.index-nodes-self.result (c.requires some) c.index-nodes-self.is in
    below-there degree c.args.nodes.now depth c.args.self is deep label first c.args.self (Leaf c.in-Leaf.field-0)
    (ap (λ (n : Node). n.kind) (sym read) ∙ c.in-Leaf.is) refl
