use Rattle.std.proofs.Common.{sym, arith}
use Rattle.re_problem.proofs.WordLemmas.{next_found}
use Rattle.re_problem.proofs.ReadPairs.{left_power, no_left, no_right, pair_of_items, reads_item, right_power, third_item}
use Rattle.re_problem.proofs.pairs.read_pair.Goals as goal

pub returns-in_default : goal.returns-in_default
returns-in_default c = no_left c.args.line.now c.next_item.result c.next_item.ensures c.in_default.not-Item

pub next_item-requires-2 : goal.next_item-requires-2
next_item-requires-2 c = (next_found c.args.line.now 0 c.in-Item.left (omega arith) (sym c.in-Item.ensures)).1.within

pub returns-in_default-next_item : goal.returns-in_default-next_item
returns-in_default-next_item c =
    let first = next_found c.args.line.now 0 c.in-Item.left (omega arith) (sym c.in-Item.ensures) in
    no_right c.args.line.now c.in-Item.left first.0 first.1 c.next_item-2.result c.next_item-2.ensures c.in_default-next_item.not-Item

pub next_item-requires-3 : goal.next_item-requires-3
next_item-requires-3 c =
    let first = next_found c.args.line.now 0 c.in-Item.left (omega arith) (sym c.in-Item.ensures) in
    (next_found c.args.line.now c.in-Item.left.to c.in-Item-next_item.right first.1.within (sym c.in-Item-next_item.ensures)).1.within

pub returns-in_default-next_item-2 : goal.returns-in_default-next_item-2
returns-in_default-next_item-2 c =
    let first = next_found c.args.line.now 0 c.in-Item.left (omega arith) (sym c.in-Item.ensures) in
    let second = next_found c.args.line.now c.in-Item.left.to c.in-Item-next_item.right first.1.within (sym c.in-Item-next_item.ensures) in
    third_item c.args.line.now c.in-Item.left first.0 first.1 c.in-Item-next_item.right second.0 second.1 c.next_item-3.result c.next_item-3.ensures c.in_default-next_item-2.not-End second.1.within

pub returns-then-is_some : goal.returns-then-is_some
returns-then-is_some c =
    let first = next_found c.args.line.now 0 c.in-Item.left (omega arith) (sym c.in-Item.ensures) in
    let second = next_found c.args.line.now c.in-Item.left.to c.in-Item-next_item.right first.1.within (sym c.in-Item-next_item.ensures) in
    left_power c.args.line.now c.in-Item.left first.0 first.1 c.in-Item-next_item.right second.0 second.1 c.in-End.ensures (sym c.if-is_some.ensures)

pub returns-then-is_some-2 : goal.returns-then-is_some-2
returns-then-is_some-2 c =
    let first = next_found c.args.line.now 0 c.in-Item.left (omega arith) (sym c.in-Item.ensures) in
    let second = next_found c.args.line.now c.in-Item.left.to c.in-Item-next_item.right first.1.within (sym c.in-Item-next_item.ensures) in
    right_power c.args.line.now c.in-Item.left first.0 first.1 c.in-Item-next_item.right second.0 second.1 c.in-End.ensures (sym c.if-is_some-2.ensures)

pub returns : goal.returns
returns c =
    let first = next_found c.args.line.now 0 c.in-Item.left (omega arith) (sym c.in-Item.ensures) in
    let second = next_found c.args.line.now c.in-Item.left.to c.in-Item-next_item.right first.1.within (sym c.in-Item-next_item.ensures) in (
      first.0,
      second.0,
      pair_of_items c.args.line.now c.in-Item.left first.0 first.1 c.in-Item-next_item.right second.0 second.1 c.in-End.ensures (sym c.if-is_some.ensures) (sym c.if-is_some-2.ensures),
      reads_item c.args.line.now 0 c.in-Item.left first.0 (omega arith) (sym c.in-Item.ensures) first.1.read,
      reads_item c.args.line.now c.in-Item.left.to c.in-Item-next_item.right second.0 first.1.within (sym c.in-Item-next_item.ensures) second.1.read,
    )
