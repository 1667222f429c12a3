use Rattle.std.proofs.Common.{◌++◌, ◌∙◌, ap, append_assoc, length}
use Rattle.std.proofs.lemmas.Result.{on_ok_weaker}
use Rattle.std.specs.Prelude.{codes}
use Rattle.re_forest_words.specs.Answers.{labels_text}
use Rattle.re_settle.specs.Lines.{lost_from}
use Rattle.re_settle.proofs.notes.push_noted.Goals as goal

pub returns : goal.returns
returns c =
    let old = c.args.text.now.items in
    let head = codes "note: labels that fit no tree:" in
    let end = codes "\n" in
    let lost = labels_text c.args.names.now (lost_from c.args.kept 0 c.len.result) in
    on_ok_weaker c.push_words-2.result
    (λ e. e ∙ ap (λ t. t ++ end) (c.in_ok-push_lost.ensures ∙ ap (λ t. t ++ lost) c.in_ok-push_words.ensures)
    ∙ append_assoc (old ++ head) lost end ∙ append_assoc old head (lost ++ end)
    ∙ ap (λ n. old ++ (head ++ (labels_text c.args.names.now (lost_from c.args.kept 0 n) ++ end))) c.len.ensures.len)
    c.push_words-2.ensures
