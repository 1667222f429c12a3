use Rattle.std.proofs.Common.{◌∙◌, subst, sym, None}
use Rattle.re_texts.proofs.JudgedLines.{items-grouped, items-taken, map-empty, map-filled}
use Rattle.re_problem.specs.Pairs.{pair_on}
use Rattle.re_texts.specs.Reading.{HoldsMap}
use Rattle.re_texts.proofs.reading.take_line.Goals as goal

pub returns-then-is_empty_line : goal.returns-then-is_empty_line
returns-then-is_empty_line c =
    map-empty c.args.kind c.args.byte c.args.number c.args.read.now.from c.args.read.now.to c.args.read.now.images.items c.args.line.now (sym c.if-begins_section.ensures.test) (sym c.if-is_empty_line.ensures)

pub returns-then-has_group : goal.returns-then-has_group
returns-then-has_group c =
    let pair = c.in-Some-read_pair.ensures in
    map-filled c.args.kind c.args.byte c.args.number c.args.read.now.from c.args.read.now.to c.args.read.now.images.items c.args.line.now None (sym c.if-begins_section.ensures.test) (sym c.if-is_empty_line.ensures) c.in_default.ensures
    ∙ items-grouped c.args.kind c.args.read.now.from c.args.read.now.to c.args.read.now.images.items c.args.number (record { left = pair.0; right = pair.1 }) (pair_on c.args.line.now) pair.2
    (sym (c.has_group.ensures c.args.line.now (record { left = pair.0; right = pair.1 }) pair.3 pair.4) ∙ c.if-has_group.true)

pub returns : goal.returns
returns c =
    let pair = c.in-Some-read_pair.ensures in
    subst (λ r. HoldsMap r c.add_entry.result c.add_entry.new.read)
    (sym (map-filled c.args.kind c.args.byte c.args.number c.args.read.now.from c.args.read.now.to c.args.read.now.images.items c.args.line.now None (sym c.if-begins_section.ensures.test) (sym c.if-is_empty_line.ensures) c.in_default.ensures
    ∙ items-taken c.args.kind c.args.read.now.from c.args.read.now.to c.args.read.now.images.items c.args.number (record { left = pair.0; right = pair.1 }) (pair_on c.args.line.now) pair.2
    (sym (c.has_group.ensures c.args.line.now (record { left = pair.0; right = pair.1 }) pair.3 pair.4) ∙ c.if-has_group.false)))
    (c.add_entry.ensures pair.0 pair.1 pair.3 pair.4)
