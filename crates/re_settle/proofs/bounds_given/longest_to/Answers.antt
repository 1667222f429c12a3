use Rattle.std.proofs.Common.{ap, subst, sym, ◌∙◌}
use Rattle.re_cert.specs.Bounds.{Bound}
use Rattle.re_given.specs.Inputs.{IsInput}
use Rattle.re_problem.specs.NamedProblems.{unnamed}
use Rattle.re_settle.specs.Measures.{longest_steps}
use Rattle.re_settle.proofs.GivenKnown.{longest_known}
use Rattle.re_settle.proofs.bounds_given.longest_to.Goals as goal

pub longest_given-requires-clause-input : goal.longest_given-requires-clause-input
longest_given-requires-clause-input c = subst (λ (b : Bound). IsInput (unnamed b.first) (unnamed c.args.input.now)) (sym c.requires.chain) c.requires.input

pub returns : goal.returns
returns c =
    let steps = c.longest_steps-steps.ensures ∙ ap longest_steps c.doublings.ensures.value in
    longest_known c.args.times c.args.problem.now c.args.input.now c.args.chain.now.certificate c.in_ok-certificate.certificate c.longest_steps-steps.result c.args.labels c.count_of.result (steps, c.requires.labels)
    c.requires.chain c.in_ok-certificate.ensures (c.in_ok-has.ensures.text c.if-not-has.false) c.count_of.ensures
