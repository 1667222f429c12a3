use Rattle.std.proofs.Common.{[], get_or, subst, sym, take, arith}
use Rattle.std.specs.Prelude.{◌↔◌}
use Rattle.std.proofs.lemmas.List.{take_all, take_more}
use Rattle.std.proofs.lemmas.List.Elements.{Contains-get_or}
use Rattle.re_labels.specs.Sets.{IsIn}
use Rattle.re_boxes.proofs.Fitting.{no_candidate}
use Rattle.re_boxes.proofs.NextLabels.{HasLabel, labels-more, labels-none}
use Rattle.re_boxes.proofs.visiting.labels_of.Goals as goal

pub loop-candidate-init : goal.loop-candidate-init
loop-candidate-init c = λ x. subst (λ s. IsIn x s ↔ HasLabel [] x) (sym c.empty-set.ensures) (labels-none x)

pub insert-set-requires : goal.insert-set-requires
insert-set-requires c = c.requires (get_or c.args.candidates.now c.loop-candidate.candidate-index no_candidate)
    (Contains-get_or c.args.candidates.now c.loop-candidate.candidate-index no_candidate c.loop-candidate-test.true)

pub loop-candidate-preserved : goal.loop-candidate-preserved
loop-candidate-preserved c = λ x.
    subst (λ all. IsIn x c.insert-set.result ↔ HasLabel all x) (sym (take_more c.args.candidates.now c.loop-candidate.candidate-index no_candidate c.loop-candidate-test.true))
    (labels-more (take c.loop-candidate.candidate-index c.args.candidates.now) (get_or c.args.candidates.now c.loop-candidate.candidate-index no_candidate) c.loop-candidate.set c.insert-set.result
    c.loop-candidate.invariant c.insert-set.ensures x)

pub returns : goal.returns
returns c = λ x.
    subst (λ all. IsIn x c.loop-candidate.set ↔ HasLabel all x) (take_all c.loop-candidate.candidate-index c.args.candidates.now (let past = c.loop-candidate-test.false in omega arith)) (c.loop-candidate.invariant x)
