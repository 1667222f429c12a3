use Rattle.std.proofs.Common.{◌≡◌, ◌≤◌, length, ap, ◌-◌, ◌∙◌, arith, pred, refl, suc}
use Rattle.re_laws.specs.Trees.{IsView}
use Rattle.re_laws.specs.Shown.{tree_of_branch, tree_of_children}
use Rattle.re_laws.proofs.ShownLemmas.{children-tree, children_shown, length-shown, tree_of_branch-Node}
use Rattle.re_laws.proofs.ShiftCode.{beyond_shown, leaf_depth, port_below, port_child, shift_built}
use Rattle.re_laws.proofs.shifting.shift.Goals as goal

pub index-child-requires : goal.index-child-requires
index-child-requires g c =
    let (d, e, t, two, two', port, view) = c.requires.view in
    let view' : IsView d e (suc t) (tree_of_children c.in-Node.children.items) = rw c.in-Node.is at view in
    let count : length c.in-Node.children.items ≡ d = (children-tree d e t d c.in-Node.children.items view').0 in
    let ok = c.in-Node.children.ok.0 in
    let from = c.from-index.ensures in
    let low = c.requires.port in
    omega arith

pub behind-requires-clause-index : goal.behind-requires-clause-index
behind-requires-clause-index g c =
    let (d, e, t, two, two', port, view) = c.requires.view in
    let view' : IsView d e (suc t) (tree_of_children c.in-Node.children.items) = rw c.in-Node.is at view in
    let count : length c.in-Node.children.items ≡ d = (children-tree d e t d c.in-Node.children.items view').0 in
    let from = c.from-index.ensures in
    let low = c.requires.port in
    omega arith

pub behind-requires-clause-beyond : goal.behind-requires-clause-beyond
behind-requires-clause-beyond g c =
    let (d, e, t, two, two', port, view) = c.requires.view in
    let view' : IsView d e (suc t) (tree_of_children c.in-Node.children.items) = rw c.in-Node.is at view in
    let is = port_child d e t c.args.port c.from-index.result c.in-Node.children.items c.index-child.result.now view' c.requires.port port c.from-index.ensures c.index-child.ensures in
    let node : tree_of_branch c.index-child.result.now.branch ≡ tree_of_children c.in-Node-branch.beyond.items = ap tree_of_branch c.in-Node-branch.is ∙ tree_of_branch-Node c.in-Node-branch.beyond in
    beyond_shown d e t (c.args.port - 1) c.in-Node.children.items c.in-Node-branch.beyond.items c.index-child.result.now two two' is node

pub overflow_sub-from : goal.overflow_sub-from
overflow_sub-from g c =
    let (d, e, t, two, two', port, view) = c.requires.view in
    let view' : IsView d e (suc t) (tree_of_children c.in-Node.children.items) = rw c.in-Node.is at view in
    let is = port_child d e t c.args.port c.from-index.result c.in-Node.children.items c.index-child.result.now view' c.requires.port port c.from-index.ensures c.index-child.ensures in
    let from = c.from.ensures in let least = is.least in omega arith

pub insert-requires : goal.insert-requires
insert-requires g c =
    let (d, e, t, two, two', port, view) = c.requires.view in
    let view' : IsView d e (suc t) (tree_of_children c.in-Node.children.items) = rw c.in-Node.is at view in
    let is = port_child d e t c.args.port c.from-index.result c.in-Node.children.items c.index-child.result.now view' c.requires.port port c.from-index.ensures c.index-child.ensures in
    let node : tree_of_branch c.index-child.result.now.branch ≡ tree_of_children c.in-Node-branch.beyond.items = ap tree_of_branch c.in-Node-branch.is ∙ tree_of_branch-Node c.in-Node-branch.beyond in
    let count : length c.in_ok-answer-in-Node-branch.answer.items ≡ length c.in-Node-branch.beyond.items = length-shown c.in_ok-answer-in-Node-branch.answer.items c.in-Node-branch.beyond.items c.in_ok-answer-in-Node-branch.ensures in
    let beyond : length c.in-Node-branch.beyond.items ≡ pred e = (children_shown e d t (pred e) c.in-Node-branch.beyond.items (rw node at is.branch)).0 in
    let from = c.from.ensures in let most = is.most in let ok = c.in_ok-answer-in-Node-branch.answer.ok.0 in
    omega arith

pub returns-in-Leaf-branch : goal.returns-in-Leaf-branch
returns-in-Leaf-branch g c = λ d e t two two' view.
    let (d', e', t', some, some', port', view0) = c.requires.view in
    let items = c.in-Node.children.items in
    let child = c.index-child.result.now in
    let view' : IsView d e (suc t) (tree_of_children items) = rw c.in-Node.is at view in
    let port : c.args.port ≤ d = port_below d e t d' e' t' c.args.port items view' (rw c.in-Node.is at view0) port' in
    let is = port_child d e t c.args.port c.from-index.result items child view' c.requires.port port c.from-index.ensures c.index-child.ensures in
    let zero : t ≡ 0 = leaf_depth e d t (pred e) (tree_of_branch child.branch) (ap tree_of_branch c.in-Leaf-branch.is) is.branch in
    rw zero refl

pub returns-in_ok-insert-in-Node-branch : goal.returns-in_ok-insert-in-Node-branch
returns-in_ok-insert-in-Node-branch g c = λ d e t two two' view.
    let (d', e', t', some, some', port', view0) = c.requires.view in
    let items = c.in-Node.children.items in
    let child = c.index-child.result.now in
    let view' : IsView d e (suc t) (tree_of_children items) = rw c.in-Node.is at view in
    let port : c.args.port ≤ d = port_below d e t d' e' t' c.args.port items view' (rw c.in-Node.is at view0) port' in
    let is = port_child d e t c.args.port c.from-index.result items child view' c.requires.port port c.from-index.ensures c.index-child.ensures in
    let node : tree_of_branch child.branch ≡ tree_of_children c.in-Node-branch.beyond.items = ap tree_of_branch c.in-Node-branch.is ∙ tree_of_branch-Node c.in-Node-branch.beyond in
    rw (c.in_ok-insert-in-Node-branch.ensures.items, c.from.ensures, c.in-Node.is)
    (shift_built d e t c.args.port items c.in-Node-branch.beyond.items c.in_ok-answer-in-Node-branch.answer.items child (record { back = c.args.port; payload = child.payload; branch = c.in_ok-branch-in-Node-branch.branch }) is node c.in_ok-answer-in-Node-branch.ensures refl refl
    (λ u shown. rw c.from-index.ensures at c.in_ok-branch-in-Node-branch.ensures e d u (pred e) two' two (omega arith) shown))
