use Rattle.std.proofs.Common.{◌≡◌, length, ◌-◌, arith, refl}
use Rattle.re_laws.specs.Shown.{IsShownChild}
use Rattle.re_laws.proofs.ShownLemmas.{tree_of_branch-Node, shown_zero, children_shown, shown_children, item_is, item_more, items_all}
use Rattle.re_laws.proofs.shape.+shown.Goals as goal

pub are_shown-returns-then-depth-eq0 : goal.are_shown-returns-then-depth-eq0
are_shown-returns-then-depth-eq0 g t c = (λ h. absurd (cc), λ h. absurd (shown_zero c.args.own c.args.other c.args.ports c.args.children.now.items (rw c.if-depth-eq0.true at h)))

pub is_shown-returns-in-Node : goal.is_shown-returns-in-Node
is_shown-returns-in-Node g t c = rw (c.in-Node.is, tree_of_branch-Node c.in-Node.children) c.are_shown.ensures

-- src/lib.rt:50:9
pub are_shown-returns-then-len-from : goal.are_shown-returns-then-len-from
are_shown-returns-then-len-from g t c = (
  λ h. absurd (cc),
  λ h.
      let count : length c.args.children.now.items ≡ c.args.ports = (children_shown c.args.own c.args.other c.args.depth c.args.ports c.args.children.now.items h).0 in
      let l = c.len.ensures in let f = c.from.ensures in let n = c.if-len-from.true in let ok = c.args.children.now.ok.0 in
      absurd (grind arith),
)

pub are_shown-returns-then-not-is_shown_child : goal.are_shown-returns-then-not-is_shown_child
are_shown-returns-then-not-is_shown_child g t c = (
  λ h. absurd (cc),
  λ h.
      c.if-not-is_shown_child.ensures.1 (item_is (IsShownChild c.args.other c.args.own (c.args.depth - 1)) c.args.children.now.items c.deref-child-items.result.now c.loop-child.child-index c.child-item.result
      c.deref-child-items.ensures.value c.loop-child-test.true c.child-item.is (children_shown c.args.own c.args.other c.args.depth c.args.ports c.args.children.now.items h).1),
)

pub are_shown-loop-child-preserved : goal.are_shown-loop-child-preserved
are_shown-loop-child-preserved g t c =
    item_more (IsShownChild c.args.other c.args.own (c.args.depth - 1)) c.args.children.now.items c.deref-child-items.result.now c.loop-child.child-index c.child-item.result
    c.deref-child-items.ensures.value c.loop-child-test.true c.child-item.is c.loop-child.invariant (c.if-not-is_shown_child.ensures.0 refl)

pub are_shown-returns : goal.are_shown-returns
are_shown-returns g t c =
    let l = c.len.ensures in let f = c.from.ensures in let n = c.if-len-from.false in let ok = c.args.children.now.ok.0 in (
      λ _. shown_children c.args.own c.args.other c.args.depth c.args.ports c.args.children.now.items c.if-depth-eq0.false (omega arith)
          (items_all (IsShownChild c.args.other c.args.own (c.args.depth - 1)) c.args.children.now.items c.deref-child-items.result.now c.loop-child.child-index c.deref-child-items.ensures.value c.loop-child-test.false c.loop-child.invariant),
      λ _. refl,
    )
