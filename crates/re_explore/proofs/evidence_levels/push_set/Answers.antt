use Rattle.re_forest_words.specs.Answers.{labels_text}
use Rattle.re_texts.proofs.PrintLemmas.{rest_is}
use Rattle.re_texts.specs.SetTexts.{named_text}
use Rattle.re_explore.proofs.evidence_levels.push_set.Goals as goal
use Rattle.re_explore.specs.EvidenceLevels.{set_text}
use Rattle.re_labels.proofs.LeastLabels.{first-is}
use Rattle.std.proofs.Common.{◌++◌, ap, append_assoc, sym, ◌∙◌}
use Rattle.std.proofs.lemmas.Result.{on_ok_weaker}

pub push_labels-requires : goal.push_labels-requires
push_labels-requires c = rest_is c.args.set c.remove.result c.in-Some.label c.requires (sym c.in-Some.ensures) c.remove.ensures

pub returns : goal.returns
returns c =
    let names = c.args.names.now in
    let old = c.args.text.now.items in
    let label = c.in-Some.label in
    on_ok_weaker c.push_labels.result
    (λ rest.
    rest ∙ ap (λ l. l ++ labels_text names c.remove.result) c.in_ok-push_name.ensures
    ∙ append_assoc old (named_text names label) (labels_text names c.remove.result)
    ∙ ap (λ l. old ++ (named_text names label ++ labels_text names l)) c.remove.ensures
    ∙ ap (λ l. old ++ set_text names l) (sym (first-is c.args.set label c.requires.0 (sym c.in-Some.ensures))))
    c.push_labels.ensures
