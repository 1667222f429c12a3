use Rattle.std.proofs.Common.{◌∷◌, length, ap, sym, ◌∙◌, arith}
use Rattle.re_labels.specs.Constraints.{Has}
use Rattle.std.proofs.lemmas.Bool.{false≢true}
use Rattle.re_labels.specs.Configs.{sorted}
use Rattle.re_boxes.proofs.DrawnChoices.{found-has, without_label-fewer}
use Rattle.re_step.proofs.LeftLabels.{one_kept, one_passed}
use Rattle.re_step.proofs.completing.+filtered.Goals as goal

pub filtered-more-requires : goal.filtered-more-requires
filtered-more-requires t c = (omega (arith, c.decreases, ap length c.remove.ensures, without_label-fewer c.args.among c.in-Some.label c.in-Some.ensures.0), (c.requires.some, (c.requires.six, c.requires.rest_below)))

pub returns-then-completes : goal.returns-then-completes
returns-then-completes t c =
    let told = found-has c.args.constraint.now (c.in-Some.label ∷ c.args.rest.now) c.from_labels.result c.contains_near-completes.result c.contains_near-completes.ensures (c.from_labels.ensures ∙ ap sorted (c.as_slice.ensures.value ∙ c.with_first-all.ensures)) in
    one_kept (λ x. Has c.args.constraint.now (x ∷ c.args.rest.now)) c.args.among c.remove.result c.filtered-more.result c.in-Some.label c.remove.ensures c.filtered-more.ensures c.insert.result
    c.in-Some.ensures.0 c.insert.ensures (told.0 c.if-completes.true)

pub returns : goal.returns
returns t c =
    let told = found-has c.args.constraint.now (c.in-Some.label ∷ c.args.rest.now) c.from_labels.result c.contains_near-completes.result c.contains_near-completes.ensures (c.from_labels.ensures ∙ ap sorted (c.as_slice.ensures.value ∙ c.with_first-all.ensures)) in
    one_passed (λ x. Has c.args.constraint.now (x ∷ c.args.rest.now)) c.args.among c.remove.result c.filtered-more.result c.in-Some.label c.remove.ensures c.filtered-more.ensures
    (λ h. false≢true (sym c.if-completes.false ∙ told.1 h))
