use Rattle.std.proofs.Common.{◌-◌, ◌∙◌, ◌++◌, ◌≤◌, ap, append_assoc, arith, codes, drop, flat_map, get_or, length, take}
use Rattle.std.proofs.lemmas.List.{get_or_default}
use Rattle.re_labels.proofs.Patterns.{others-are, parted}
use Rattle.re_texts.specs.SetTexts.{named_text}
use Rattle.re_texts.proofs.EntryLines.{image_printed, on_ok}
use Rattle.re_texts.specs.CertificateLines.{image_text}
use Rattle.re_texts.proofs.lines.push_image.Goals as goal

pub returns-clause-text : goal.returns-clause-text
returns-clause-text c =
    let labels = c.labels-labels.result.now in
    let names = c.args.next.now in
    let old = c.args.text.now.items in
    let first = get_or labels 0 0 in
    let others = take (length labels - 1) (drop 1 labels) in
    let behind = flat_map (λ label. codes " " ++ named_text names label) others in
    let some : 1 ≤ length labels = omega (arith, ap length c.labels-labels.ensures.labels, c.labels-labels.ensures.two) in
    on_ok c.push_others.result
    (λ e. e ∙ ap (λ t. t ++ behind) c.in_ok-push_named.ensures.text ∙ append_assoc old (named_text names first) behind
    ∙ ap (λ t. old ++ t) (image_printed names labels first others (parted labels others first some (get_or_default labels 0 0 first some) (others-are labels)) ∙ ap (image_text names) c.labels-labels.ensures.labels))
    c.push_others.ensures.text
