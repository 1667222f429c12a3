use Rattle.std.proofs.Common.{◌∷◌, ◌++◌, ◌∙◌, [], ap, length, refl, sym, arith}
use Rattle.re_cert.proofs.ReadEntries.{none_is}
use Rattle.re_cert.proofs.ReadLabels.{image_ends, no_bad_label, nothing_held, one_image_more, unknown_there}
use Rattle.re_cert.specs.Entries.{label_items}
use Rattle.re_labels.proofs.Replacing.{support_of-push}
use Rattle.re_labels.specs.Sets.{with_label}
use Rattle.re_problem.proofs.WordLemmas.{items_bad, items_end, next_found}
use Rattle.re_judging.proofs.LineItems.{set_none, set_some}
use Rattle.re_judging.proofs.label_lines.line_set.Goals as goal

pub items-init : goal.items-init
items-init c = (omega arith, [], [], nothing_held c.args.names.now c.args.line.now [] refl, c.empty-set.ensures)

pub returns-in_default : goal.returns-in_default
returns-in_default c =
    let next = next_found c.args.line.now c.items.at c.in-Item.item c.items.invariant.0 (sym c.in-Item.ensures) in
    set_none c.args.names.now (label_items c.args.line.now) (λ d.
    unknown_there c.args.names.now d c.args.line.now c.items.at c.items.invariant.1 c.items.invariant.2 c.items.invariant.3 c.requires c.in-Item.item next.0 next.1
    (none_is _ _ c.in_default.not-Some (c.read_label.ensures.label next.0 next.1.read)))

pub items-smaller : goal.items-smaller
items-smaller c =
    let next = next_found c.args.line.now c.items.at c.in-Item.item c.items.invariant.0 (sym c.in-Item.ensures) in
    let on = next.1.on in
    let within = next.1.within in
    omega arith

pub items-preserved : goal.items-preserved
items-preserved c =
    let next = next_found c.args.line.now c.items.at c.in-Item.item c.items.invariant.0 (sym c.in-Item.ensures) in (
      next.1.within,
      c.items.invariant.1 ++ next.0 ∷ [],
      c.items.invariant.2 ++ c.in-Some.label ∷ [],
      one_image_more c.args.names.now 0 c.args.line.now c.items.at c.items.invariant.1 c.items.invariant.2 c.items.invariant.3 c.requires c.in-Item.item next.0 c.in-Some.label
          (c.items.invariant.2 ++ c.in-Some.label ∷ []) next.1 (c.in-Some.ensures.label next.0 next.1.read) refl,
      c.insert-set.ensures ∙ ap (λ set. with_label set c.in-Some.label) c.items.invariant.4 ∙ sym (support_of-push c.items.invariant.2 c.in-Some.label),
    )

pub unreachable-requires : goal.unreachable-requires
unreachable-requires c =
    no_bad_label c.args.names.now 0 c.args.line.now c.items.at c.items.invariant.1 c.items.invariant.2 c.items.invariant.3 c.requires (items_bad c.args.line.now c.items.at (sym c.in-Bad.ensures))

pub returns-in-End : goal.returns-in-End
returns-in-End c =
    set_some c.args.names.now (label_items c.args.line.now) (length c.items.invariant.2) c.items.set c.items.invariant.2 c.items.invariant.4
    (image_ends c.args.names.now (length c.items.invariant.2) c.args.line.now c.items.at c.items.invariant.1 c.items.invariant.2 c.items.invariant.3 c.requires
    (items_end c.args.line.now c.items.at (sym c.in-End.ensures)) refl)
