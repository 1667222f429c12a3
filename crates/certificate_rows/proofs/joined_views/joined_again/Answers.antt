use Rattle.std.proofs.Common.{◌≡◌, length, arith, refl}
use Rattle.re_laws.proofs.JoinCode.{AreEnds-two, IsEnd-shift}
use Rattle.re_laws.specs.Joining.{shown_end}
use Rattle.re_laws.proofs.ShiftCode.{child_at-children, shown}
use Rattle.re_laws.proofs.ShownLemmas.{children-tree}
use Rattle.re_laws.specs.Shown.{tree_of_children}
use Rattle.re_laws.specs.Trees.{IsView, cut}
use Rattle.certificate_rows.proofs.joined_views.joined_again.Goals as goal

pub branchwise-requires : goal.branchwise-requires
branchwise-requires c =
    let items = c.in-Node.children.items in
    let s = tree_of_children items in
    let view : IsView 2 3 2 s = rw c.in-Node.is at c.requires in
    let count : length items ≡ 2 = (children-tree 2 3 1 2 items view).0 in
    let first = IsEnd-shift 3 2 0 s 1 (shown c.index.result.now) (shown_end (record { view = c.in_ok-shift-in-Node.field-0; port = c.index.result.now.back })) view (omega arith) (omega arith) (child_at-children 0 items c.index.result.now (omega arith) c.index.ensures) (rw c.in-Node.is at (c.in_ok-shift-in-Node.ensures 2 3 1 (omega arith) (omega arith) c.requires)) refl in
    let second = IsEnd-shift 3 2 0 s 2 (shown c.index-in-Node.result.now) (shown_end (record { view = c.in_ok-shift-in-Node-2.field-0; port = c.index-in-Node.result.now.back })) view (omega arith) (omega arith) (child_at-children 1 items c.index-in-Node.result.now (omega arith) c.index-in-Node.ensures) (rw c.in-Node.is at (c.in_ok-shift-in-Node-2.ensures 2 3 1 (omega arith) (omega arith) c.requires)) refl in
    (3, 2, 0, cut 0 s, omega arith, omega arith, AreEnds-two 3 0 (cut 0 s) _ _ first second)
