use Rattle.std.proofs.Common.{◌∷◌, ◌++◌, ◌∙◌, [], ap, length, length-append, sym, arith}
use Rattle.re_problem.proofs.WordLemmas.{items_bad, items_end, next_found}
use Rattle.re_cert.proofs.ReadEntries.{none_is}
use Rattle.re_cert.proofs.ReadLabels.{image_ends, image_short, no_bad_label, nothing_held, one_image_more, too_many, unknown_there}
use Rattle.re_cert.proofs.entries.line_labels.Goals as goal

pub returns-in_default : goal.returns-in_default
returns-in_default c =
    let next = next_found c.args.line.now c.items.at c.in-Item.item c.items.invariant.0 (sym c.in-Item.ensures) in
    unknown_there c.args.names.now c.args.degree c.args.line.now c.items.at c.items.invariant.2 c.items.labels.items c.items.invariant.3 c.requires.items c.in-Item.item next.0 next.1
    (none_is _ _ c.in_default.not-Some (c.read_label.ensures.label next.0 next.1.read))

pub returns-then-len-degree : goal.returns-then-len-degree
returns-then-len-degree c =
    let next = next_found c.args.line.now c.items.at c.in-Item.item c.items.invariant.0 (sym c.in-Item.ensures) in
    too_many c.args.names.now c.args.degree c.args.line.now c.items.at c.items.invariant.2 c.items.labels.items c.items.invariant.3 c.requires.items c.in-Item.item next.0 next.1 (omega arith)

pub items-smaller : goal.items-smaller
items-smaller c =
    let next = next_found c.args.line.now c.items.at c.in-Item.item c.items.invariant.0 (sym c.in-Item.ensures) in
    let on = next.1.on in
    let within = next.1.within in
    omega arith

pub items-preserved : goal.items-preserved
items-preserved c =
    let next = next_found c.args.line.now c.items.at c.in-Item.item c.items.invariant.0 (sym c.in-Item.ensures) in (
      next.1.within,
      (let few = c.if-len-degree.false in omega (arith, ap length c.push.ensures.items, length-append c.items.labels.items (c.in-Some.label ∷ []))),
      c.items.invariant.2 ++ next.0 ∷ [],
      one_image_more c.args.names.now c.args.degree c.args.line.now c.items.at c.items.invariant.2 c.items.labels.items c.items.invariant.3 c.requires.items c.in-Item.item next.0 c.in-Some.label
          c.push.new.self.items next.1 (c.in-Some.ensures.label next.0 next.1.read) c.push.ensures.items,
    )

pub unreachable-requires : goal.unreachable-requires
unreachable-requires c =
    no_bad_label c.args.names.now c.args.degree c.args.line.now c.items.at c.items.invariant.2 c.items.labels.items c.items.invariant.3 c.requires.items (items_bad c.args.line.now c.items.at (sym c.in-Bad.ensures))

pub returns-then-len-degree-2 : goal.returns-then-len-degree-2
returns-then-len-degree-2 c =
    image_ends c.args.names.now c.args.degree c.args.line.now c.items.at c.items.invariant.2 c.items.labels.items c.items.invariant.3 c.requires.items (items_end c.args.line.now c.items.at (sym c.in-End.ensures)) (omega arith)

pub returns-else-len-degree-2 : goal.returns-else-len-degree-2
returns-else-len-degree-2 c =
    image_short c.args.names.now c.args.degree c.args.line.now c.items.at c.items.invariant.2 c.items.labels.items c.items.invariant.3 c.requires.items (items_end c.args.line.now c.items.at (sym c.in-End.ensures)) (λ same. omega arith)
