use Rattle.std.proofs.Common.{◌∙◌, sym, subst}
use Rattle.re_problem.specs.NamedProblems.{IsNamedProblem}
use Rattle.re_shaping.specs.Colours.{first_colours}
use Rattle.re_shaping.proofs.Answering.{answered, first_none, marked}
use Rattle.re_shaping.proofs.finding.renaming_to.Goals as goal

pub returns-then-mark : goal.returns-then-mark
returns-then-mark c =
    first_none c.args.from.now c.args.to.now c.mark.ensures.named c.mark-2.ensures.named
    (marked c.args.from.now c.args.to.now c.mark.ensures.named c.mark-2.ensures.named (first_colours c.args.from.now) (first_colours c.args.to.now)
    (λ e. c.if-mark.true (c.mark.ensures.mark ∙ e ∙ sym c.mark-2.ensures.mark)))

pub renaming_by-requires-clause-from : goal.renaming_by-requires-clause-from
renaming_by-requires-clause-from c = subst IsNamedProblem (sym c.problem.ensures.problem) c.problem.ensures.named

pub renaming_by-requires-clause-to : goal.renaming_by-requires-clause-to
renaming_by-requires-clause-to c = subst IsNamedProblem (sym c.problem-2.ensures.problem) c.problem-2.ensures.named

pub returns : goal.returns
returns c =
    answered c.args.from.now c.args.to.now c.problem.result.now c.problem-2.result.now c.colours.result.now c.colours-2.result.now c.renaming_by.new.tries c.problem.ensures.problem c.problem-2.ensures.problem
    c.colours.ensures c.colours-2.ensures c.problem.ensures.named c.problem-2.ensures.named c.renaming_by.result c.renaming_by.ensures.answer c.renaming_by.ensures.tries
