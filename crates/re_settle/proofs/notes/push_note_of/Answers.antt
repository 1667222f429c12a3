use Rattle.std.proofs.Common.{◌≡◌, ◌++◌, ◌∙◌, Bool, OnOk, length, subst, sym}
use Rattle.std.specs.Prelude.{codes, if◌then◌else◌}
use Rattle.re_forest_words.specs.Answers.{labels_text}
use Rattle.re_settle.specs.Lines.{lost_from}
use Rattle.re_settle.proofs.notes.push_note_of.Goals as goal

pub returns-then-is_plain : goal.returns-then-is_plain
returns-then-is_plain c =
    let line = codes "note: labels that fit no tree:" ++ (labels_text c.args.names.now (lost_from c.args.kept 0 (length c.args.names.now)) ++ codes "\n") in
    subst (λ (b : Bool). OnOk c.push_words.result (c.push_words.new.text.items ≡ c.args.text.now.items ++ (if b then codes "" else line)))
    (sym (sym c.is_plain.ensures ∙ c.if-is_plain.true)) c.push_words.ensures

pub returns-else-is_plain : goal.returns-else-is_plain
returns-else-is_plain c =
    let line = codes "note: labels that fit no tree:" ++ (labels_text c.args.names.now (lost_from c.args.kept 0 (length c.args.names.now)) ++ codes "\n") in
    subst (λ (b : Bool). OnOk c.push_noted.result (c.push_noted.new.text.items ≡ c.args.text.now.items ++ (if b then codes "" else line)))
    (sym (sym c.is_plain.ensures ∙ c.if-is_plain.false)) c.push_noted.ensures
