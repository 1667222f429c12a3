use Rattle.std.proofs.Common.{[], ap, subst, sym, ◌∙◌}
use Rattle.re_cert.specs.Bounds.{Bound}
use Rattle.re_cert.specs.declared.certificate.Kind.TheVariants.{Upper}
use Rattle.re_chains.specs.Chains.{chain_with}
use Rattle.re_given.specs.Inputs.{IsInput}
use Rattle.re_settings.specs.declared.setting.Setting.TheVariants.{Given}
use Rattle.re_going_on.specs.ShortestAnswers.{MayAnswer}
use Rattle.re_problem.specs.NamedProblems.{NamedProblem, unnamed}
use Rattle.re_settle.proofs.Local.{shortened_coloured}
use Rattle.re_settle.specs.Measures.{coloured_steps, greatest_degree, shortest_labels}
use Rattle.re_settle.proofs.coloured.shortest_way.Goals as goal

pub shortest_given-requires : goal.shortest_given-requires
shortest_given-requires c =
    let start = c.upper_chain-chain.ensures ∙ ap (λ (p : NamedProblem). chain_with Upper p []) c.in_ok-copy.ensures in
    subst (λ (b : Bound). IsInput (unnamed b.first) (unnamed c.args.input.now)) (sym start) c.requires.input.is_input

pub returns : goal.returns
returns c =
    let start = c.upper_chain-chain.ensures ∙ ap (λ (p : NamedProblem). chain_with Upper p []) c.in_ok-copy.ensures in
    let steps = c.coloured_steps-steps.ensures ∙ ap coloured_steps c.doublings-doublings.ensures.value in
    let labels = c.shortest_labels-labels.ensures ∙ ap (λ d. shortest_labels d c.doublings-doublings.result) c.greatest_degree.ensures
    ∙ ap (shortest_labels (greatest_degree c.args.problem.now)) c.doublings-doublings.ensures.value in
    let answers = subst (MayAnswer (Given c.args.input.now) c.coloured_steps-steps.result c.shortest_labels-labels.result c.upper_chain-chain.result.certificate) c.in-Found.is c.in_ok-certificate.ensures in
    shortened_coloured c.args.times c.args.problem.now c.args.input.now c.upper_chain-chain.result.certificate c.in-Found.certificate c.args.side c.args.colours c.coloured_steps-steps.result
    c.shortest_labels-labels.result c.requires.colours c.requires.input (steps, labels) start answers (c.in_ok-has.ensures.text c.if-not-has.false)
