use Rattle.std.proofs.Common.{◌++◌, ◌∙◌, ◌+◌, ◌-◌, ap, append_assoc, sym}
use Rattle.std.proofs.lemmas.Result.{on_ok_weaker}
use Rattle.re_forest_words.specs.Answers.{labels_text}
use Rattle.re_settle.proofs.LostLabels.{lacking_text, lost_step}
use Rattle.re_settle.specs.Lines.{lost_from}
use Rattle.re_settle.proofs.notes.+push_lost.Goals as goal

pub returns-then-more-eq0 : goal.returns-then-more-eq0
returns-then-more-eq0 t c =
    on_ok_weaker c.push_words.result
    (λ e. e ∙ ap (λ m. c.args.text.now.items ++ labels_text c.args.names.now (lost_from c.args.kept c.args.label m)) (sym c.if-more-eq0.true))
    c.push_words.ensures

pub returns : goal.returns
returns t c =
    let old = c.args.text.now.items in
    let one = lacking_text c.args.names.now c.args.kept c.args.label in
    let rest = labels_text c.args.names.now (lost_from c.args.kept (c.args.label + 1) (c.args.more - 1)) in
    on_ok_weaker c.push_lost.result
    (λ e. e ∙ ap (λ t. t ++ rest) c.in_ok-push_lacking.ensures ∙ append_assoc old one rest
    ∙ ap (λ t. old ++ t) (sym (lost_step c.args.names.now c.args.kept c.args.label c.args.more c.if-more-eq0.false)))
    c.push_lost.ensures
