use Rattle.std.proofs.Common.{◌≡◌, ◌∙◌, Some, ap, refl, subst, sym, true}
use Rattle.std.specs.Option.{option_and_then}
use Rattle.re_labels.specs.Rows.{row_of}
use Rattle.re_cert.specs.Bounds.{last_problem}
use Rattle.re_cert.specs.CertificateReading.{Answers, has_first}
use Rattle.re_cert.specs.CertificateTexts.{past, takes_row}
use Rattle.re_cert.specs.Entries.{row_on, row_sets}
use Rattle.re_cert.proofs.Feeding.{in_filled, same_at}
use Rattle.re_cert.proofs.ReadEntries.{none_is}
use Rattle.re_cert.proofs.cert_reader.CertReader.feed_row.Goals as goal
use Rattle.re_labels.specs.declared.TheConstants.{MAX_LABELS}

pub returns-in-Some-read_row : goal.returns-in-Some-read_row
returns-in-Some-read_row c s at =
    let here = c.pass-2.ensures.at s at in
    let known = here.known (ap has_first (sym at.phase_is ∙ c.requires.phase)) in
    let row : Some c.in-Some-read_row.row ≡ row_on (last_problem s.bound) c.args.line.now =
    c.in-Some-read_row.ensures ∙ (λ i. option_and_then (row_of MAX_LABELS) (row_sets (known.names_are i) (known.degree_is i) c.args.line.now)) in
    in_filled c.add_row.new.self s c.args.line.now c.args.size _ c.add_row.result
    (sym c.is_empty_line.ensures ∙ c.if-is_empty_line.false) (sym (none_is _ _ c.in_default.not-Some c.first_bad_byte.ensures))
    (subst (λ t. Answers c.add_row.new.self (takes_row (past s c.args.size) t (row_on (last_problem s.bound) c.args.line.now)) c.add_row.result) (sym (sym c.has_items.ensures ∙ c.if-not-has_items.false))
    (subst (λ r. Answers c.add_row.new.self (takes_row (past s c.args.size) true r) c.add_row.result) row (c.add_row.ensures (past s c.args.size) (same_at _ _ (past s c.args.size) refl refl refl refl refl refl refl refl refl refl refl refl refl refl refl refl here))))
