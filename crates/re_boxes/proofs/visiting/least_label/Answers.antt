use Rattle.std.proofs.Common.{get_or, subst, sym, take, arith}
use Rattle.std.proofs.lemmas.List.{take_all, take_more}
use Rattle.std.proofs.lemmas.List.Elements.{Contains-get_or}
use Rattle.re_boxes.proofs.Fitting.{IsLeast, least-more, least-start, no_candidate}
use Rattle.re_boxes.specs.Spans.{tree_of}
use Rattle.re_boxes.proofs.visiting.least_label.Goals as goal

pub first_label-requires-clause-span : goal.first_label-requires-clause-span
first_label-requires-clause-span c = c.requires.candidates (get_or c.args.candidates.now c.loop-candidate.candidate-index no_candidate)
    (Contains-get_or c.args.candidates.now c.loop-candidate.candidate-index no_candidate c.loop-candidate-test.true)

pub loop-candidate-init : goal.loop-candidate-init
loop-candidate-init c = least-start (tree_of c.args.constraint.now c.args.nodes.now) c.args.depth c.args.main c.first_label-least.result c.first_label-least.ensures

pub loop-candidate-preserved : goal.loop-candidate-preserved
loop-candidate-preserved c =
    subst (λ all. IsLeast (tree_of c.args.constraint.now c.args.nodes.now) c.args.depth c.args.main all c.lesser-least.result) (sym (take_more c.args.candidates.now c.loop-candidate.candidate-index no_candidate c.loop-candidate-test.true))
    (subst (IsLeast (tree_of c.args.constraint.now c.args.nodes.now) c.args.depth c.args.main _) (sym c.lesser-least.ensures)
    (least-more (tree_of c.args.constraint.now c.args.nodes.now) c.args.depth c.args.main (take c.loop-candidate.candidate-index c.args.candidates.now) (get_or c.args.candidates.now c.loop-candidate.candidate-index no_candidate)
    c.loop-candidate.least c.first_label.result c.loop-candidate.invariant c.first_label.ensures))

pub returns : goal.returns
returns c =
    subst (λ all. IsLeast (tree_of c.args.constraint.now c.args.nodes.now) c.args.depth c.args.main all c.loop-candidate.least) (take_all c.loop-candidate.candidate-index c.args.candidates.now (let past = c.loop-candidate-test.false in omega arith)) c.loop-candidate.invariant
