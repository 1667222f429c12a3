use Rattle.std.proofs.Common.{◌≡◌, length, pred, sym, ap, ◌∙◌, arith}
use Rattle.re_laws.specs.Trees.{others}
use Rattle.re_laws.specs.Shown.{tree_of_branch, tree_of_children}
use Rattle.re_laws.proofs.ShownLemmas.{tree_of_branch-Node}
use Rattle.re_laws.proofs.ShiftCode.{cut_node, first_behind, others-children, others-cut_some, others_leaf, same_length}
use Rattle.re_laws.proofs.shifting.behind.Goals as goal

pub remove-requires : goal.remove-requires
remove-requires g c =
    let (d, e, t, n, two, two', some, is) = c.requires.beyond in
    let first = first_behind d e t n c.args.beyond.now.items c.index-first.result.now is some c.index-first.ensures in
    let (deep, kept) = cut_node t c.in_ok-cut_like.field-0 c.in-Node.rest (tree_of_children c.args.children.now.items) c.in-Node.is (c.in_ok-cut_like.ensures e d t (pred e) two' two (omega arith) first) in
    let count : length c.in-Node.rest.items ≡ length c.args.children.now.items = same_length t c.in-Node.rest.items c.args.children.now.items deep kept in
    let ok = c.in-Node.rest.ok.0 in
    let l = c.requires.index in
    omega arith

pub returns-in-Leaf : goal.returns-in-Leaf
returns-in-Leaf g c = λ d e t n two two' some is.
    let first = first_behind d e t n c.args.beyond.now.items c.index-first.result.now is some c.index-first.ensures in
    others_leaf t c.args.index c.args.children.now.items (ap tree_of_branch (sym c.in-Leaf.is) ∙ c.in_ok-cut_like.ensures e d t (pred e) two' two (omega arith) first)

pub returns-in-Node : goal.returns-in-Node
returns-in-Node g c = λ d e t n two two' some is.
    let first = first_behind d e t n c.args.beyond.now.items c.index-first.result.now is some c.index-first.ensures in
    let (deep, kept) = cut_node t c.in_ok-cut_like.field-0 c.in-Node.rest (tree_of_children c.args.children.now.items) c.in-Node.is (c.in_ok-cut_like.ensures e d t (pred e) two' two (omega arith) first) in
    tree_of_branch-Node c.remove.new.self ∙ (ap tree_of_children c.remove.ensures.items ∙ (others-children c.args.index c.in-Node.rest.items ∙ (ap (others c.args.index) kept ∙ others-cut_some t c.args.index (tree_of_children c.args.children.now.items) deep)))
