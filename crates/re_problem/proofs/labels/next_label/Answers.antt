use Rattle.std.proofs.Common.{◌<◌, ◌∙◌, ap, sym, arith, length, ◌+◌}
use Rattle.re_problem.specs.Items.{labels_from, with_name}
use Rattle.std.proofs.Common.{None, drop, get_or}
use Rattle.re_problem.proofs.Scanning.{a_name, byte_is_name, ended, labelled, no_name, opened, slice_one, wrong}
use Rattle.re_problem.proofs.labels.next_label.Goals as goal

pub returns-then-from-text : goal.returns-then-from-text
returns-then-from-text c = ended c.args.text.now c.args.at c.skip_blanks-from.result c.skip_blanks-from.ensures.place c.if-from-text.true

pub returns-then-to-text : goal.returns-then-to-text
returns-then-to-text c = opened c.args.text.now c.args.at c.skip_blanks-from.result c.skip_blanks-from.ensures.place
    (let within = c.skip_blanks-from.ensures.within in let apart = c.if-from-text.false in omega arith) c.if-byte-eq40.true
    ∙ c.name_end-to.ensures.open c.if-to-text.true

pub returns-then-not-is_name : goal.returns-then-not-is_name
returns-then-not-is_name c = opened c.args.text.now c.args.at c.skip_blanks-from.result c.skip_blanks-from.ensures.place
    (let within = c.skip_blanks-from.ensures.within in let apart = c.if-from-text.false in omega arith) c.if-byte-eq40.true
    ∙ c.name_end-to.ensures.closed (let within = c.name_end-to.ensures.within in let apart = c.if-to-text.false in omega arith)
    ∙ no_name _ _ (sym c.is_name.ensures ∙ c.if-not-is_name.true)

pub returns-then-byte-eq40 : goal.returns-then-byte-eq40
returns-then-byte-eq40 c =
    let from = c.skip_blanks-from.ensures.from in
    let after = c.name_end-to.ensures.from in
    let within = c.name_end-to.ensures.within in
    let apart = c.if-to-text.false in (
      opened c.args.text.now c.args.at c.skip_blanks-from.result c.skip_blanks-from.ensures.place
          (let within = c.skip_blanks-from.ensures.within in let apart = c.if-from-text.false in omega arith) c.if-byte-eq40.true
          ∙ c.name_end-to.ensures.closed (let within = c.name_end-to.ensures.within in let apart = c.if-to-text.false in omega arith)
          ∙ a_name _ _ (sym c.is_name.ensures ∙ c.if-not-is_name.false),
      omega arith,
      omega arith,
      after,
      within,
      sym c.is_name.ensures ∙ c.if-not-is_name.false,
    )

pub returns-then-not-is_ascii_alphanumeric : goal.returns-then-not-is_ascii_alphanumeric
returns-then-not-is_ascii_alphanumeric c = wrong c.args.text.now c.args.at c.skip_blanks-from.result c.skip_blanks-from.ensures.place
    (let within = c.skip_blanks-from.ensures.within in let apart = c.if-from-text.false in omega arith) c.if-byte-eq40.false
    (sym c.is_ascii_alphanumeric.ensures.value ∙ c.if-not-is_ascii_alphanumeric.true)

pub returns : goal.returns
returns c =
    let from = c.skip_blanks-from.ensures.from in
    let within = c.skip_blanks-from.ensures.within in
    let apart = c.if-from-text.false in
    let below : c.skip_blanks-from.result < length c.args.text.now = omega arith in
    let label = sym c.is_ascii_alphanumeric.ensures.value ∙ c.if-not-is_ascii_alphanumeric.false in
    let one = slice_one c.args.text.now c.skip_blanks-from.result below in (
      labelled c.args.text.now c.args.at c.skip_blanks-from.result c.skip_blanks-from.ensures.place below c.if-byte-eq40.false label
          ∙ ap (λ name. with_name name (labels_from None (drop (c.skip_blanks-from.result + 1) c.args.text.now))) (sym one),
      omega arith,
      omega arith,
      omega arith,
      omega arith,
      rw one (byte_is_name (get_or c.args.text.now c.skip_blanks-from.result 0) label),
    )
