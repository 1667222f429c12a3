use Rattle.std.proofs.Common.{◌∷◌, ◌++◌, [], sym, arith}
use Rattle.re_problem.proofs.WordLemmas.{items_bad, items_end, next_found}
use Rattle.re_problem.proofs.ReadPairs.{reads_item}
use Rattle.re_cert.proofs.ReadLabels.{group_item, labels_bad, labels_end, no_labels, one_label, power_item}
use Rattle.re_cert.proofs.entries.has_labels.Goals as goal

pub items-init : goal.items-init
items-init c = (omega arith, [], no_labels c.args.line.now)

pub returns-then-item : goal.returns-then-item
returns-then-item c =
    let next = next_found c.args.line.now c.items.at c.in-Item.item c.items.invariant.0 (sym c.in-Item.ensures) in
    let group = (reads_item c.args.line.now c.items.at c.in-Item.item next.0 c.items.invariant.0 (sym c.in-Item.ensures) next.1.read).group in
    group_item c.args.line.now c.items.at c.items.invariant.1 c.items.invariant.2 c.in-Item.item next.0 next.1 group c.if-item.true

pub returns-then-is_some : goal.returns-then-is_some
returns-then-is_some c =
    let next = next_found c.args.line.now c.items.at c.in-Item.item c.items.invariant.0 (sym c.in-Item.ensures) in
    power_item c.args.line.now c.items.at c.items.invariant.1 c.items.invariant.2 c.in-Item.item next.0 next.1 (sym c.if-is_some.ensures)

pub items-preserved : goal.items-preserved
items-preserved c =
    let next = next_found c.args.line.now c.items.at c.in-Item.item c.items.invariant.0 (sym c.in-Item.ensures) in
    let group = (reads_item c.args.line.now c.items.at c.in-Item.item next.0 c.items.invariant.0 (sym c.in-Item.ensures) next.1.read).group in
    (next.1.within, c.items.invariant.1 ++ next.0 ∷ [], one_label c.args.line.now c.items.at c.items.invariant.1 c.items.invariant.2 c.in-Item.item next.0 next.1 group c.if-item.false (sym c.if-is_some.ensures))

pub items-smaller : goal.items-smaller
items-smaller c =
    let next = next_found c.args.line.now c.items.at c.in-Item.item c.items.invariant.0 (sym c.in-Item.ensures) in
    let on = next.1.on in
    let within = next.1.within in
    omega arith

pub returns-in-End : goal.returns-in-End
returns-in-End c = labels_end c.args.line.now c.items.at c.items.invariant.1 c.items.invariant.2 (items_end c.args.line.now c.items.at (sym c.in-End.ensures))

pub returns-in-Bad : goal.returns-in-Bad
returns-in-Bad c = labels_bad c.args.line.now c.items.at c.items.invariant.1 c.items.invariant.2 (items_bad c.args.line.now c.items.at (sym c.in-Bad.ensures))
