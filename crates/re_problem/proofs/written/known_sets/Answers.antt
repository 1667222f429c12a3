use Rattle.std.proofs.Common.{◌∷◌, ◌++◌, [], arith, sym}
use Rattle.re_problem.proofs.WordLemmas.{items_end, next_found}
use Rattle.re_problem.proofs.WrittenLines.{all_known, nothing_known, one_known_more}
use Rattle.re_problem.proofs.written.known_sets.Goals as goal

pub items-init : goal.items-init
items-init c = (omega arith, [], nothing_known c.args.names.now c.args.line.now c.new-sets.result.items (cc))

pub items-smaller : goal.items-smaller
items-smaller c =
    let next = next_found c.args.line.now c.items.at c.in-Item.item c.items.invariant.0 (sym c.in-Item.ensures) in
    let on = next.1.on in
    let within = next.1.within in
    omega arith

pub items-preserved : goal.items-preserved
items-preserved c =
    let next = next_found c.args.line.now c.items.at c.in-Item.item c.items.invariant.0 (sym c.in-Item.ensures) in (
      next.1.within,
      c.items.invariant.1 ++ next.0 ∷ [],
      one_known_more c.args.names.now c.args.line.now c.items.at c.items.invariant.1 c.items.sets.items c.items.invariant.2 c.in-Item.item next.0 c.in-Some.set c.times-count.result
          c.push_times.new.sets.items next.1 c.if-item.false c.in-Some.ensures c.times-count.ensures c.push_times.ensures,
    )

pub returns-in-End : goal.returns-in-End
returns-in-End c = all_known c.args.names.now c.args.line.now c.items.at c.items.invariant.1 c.items.sets.items c.items.invariant.2 c.if-at-eq0.false (items_end c.args.line.now c.items.at (sym c.in-End.ensures))
