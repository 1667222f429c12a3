use Rattle.std.proofs.Common.{◌≡◌, ◌<◌, ◌∷◌, ◌++◌, [], ap, arith, length, refl, sym, ◌∙◌, Ok, Some}
use Rattle.std.specs.Option.{option_and_then}
use Rattle.re_algo.specs.Tables.{views_of}
use Rattle.re_cert.specs.Entries.{image_labels, label_items}
use Rattle.re_labels.specs.PortLabels.{port_labels}
use Rattle.re_labels.specs.declared.sides.Degrees.{Degrees}
use Rattle.re_table_texts.proofs.JudgedLines.{labels-count, labels-taken, more-begun, some-room}
use Rattle.re_table_texts.specs.TableTexts.{table_of}
use Rattle.re_table_texts.specs.TableTexts.State.{InTable}
use Rattle.re_table_texts.proofs.reading.add_answer.Goals as goal
use Rattle.re_labels.proofs.SamePorts.{port_labels-same}

pub returns : goal.returns
returns c =
    let read = c.args.read.now in
    let items = label_items c.args.line.now in
    let degree = ap (λ (d : Degrees). d.active) c.degrees.ensures.degrees in
    let found : option_and_then (image_labels read.owner.names read.owner.active.degree) items ≡ Some c.in-Some.labels.items =
    (λ i. option_and_then (image_labels (sym c.names-names.ensures.names i) (sym degree i)) items) ∙ sym c.in-Some.ensures in
    let same : c.in-Some-new.labels ≡ c.in-Some.labels.items = port_labels-same c.in-Some-new.labels c.in-Some.labels.items (sym c.in-Some-new.is ∙ c.new.ensures ∙ ap port_labels c.as_slice.ensures.value) in
    let room : length read.answers.items < length (views_of (table_of read.owner read.radius read.answers.items)) = (let count = c.requires.begun.count in omega (arith, c.len.ensures, c.if-len-read.false)) in
    let pushed : c.push.new.self.items ≡ read.answers.items ++ c.in-Some.labels.items ∷ [] = c.in_default-push.ensures.items ∙ ap (λ l. read.answers.items ++ l ∷ []) same in (
      labels-taken c.args.number read.first read.owner read.radius read.answers.items items c.in-Some.labels.items found (some-room (table_of read.owner read.radius read.answers.items) room)
          ∙ ap (λ answers. Ok (InTable read.first read.owner read.radius answers)) (sym pushed),
      more-begun c.args.form read _ c.in-Some.labels.items c.requires.begun refl refl refl refl pushed (labels-count read.owner.names read.owner.active.degree items c.in-Some.labels.items found),
    )
