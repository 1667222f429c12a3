use Rattle.std.proofs.Common.{◌≡◌, None, ap, subst, sym, ◌∙◌}
use Rattle.re_cert.specs.Bounds.{Bound, last_problem}
use Rattle.re_problem.specs.NamedProblems.{unnamed}
use Rattle.re_problem.specs.Zero.{zero_place}
use Rattle.re_settle.proofs.Known.{longest_known}
use Rattle.re_settle.specs.Measures.{greatest_degree, longest_labels, longest_steps}
use Rattle.re_settle.proofs.bounds.longest_way.Goals as goal

pub longest_alone-requires : goal.longest_alone-requires
longest_alone-requires c = subst (λ (b : Bound). zero_place (unnamed (last_problem b)) ≡ None) (sym c.requires.chain) c.requires.not_zero

pub returns : goal.returns
returns c =
    let steps = c.longest_steps-steps.ensures ∙ ap longest_steps c.doublings-doublings.ensures.value in
    let labels = c.longest_labels-labels.ensures ∙ ap (λ d. longest_labels d c.doublings-doublings.result) c.greatest_degree.ensures
    ∙ ap (longest_labels (greatest_degree c.args.problem.now)) c.doublings-doublings.ensures.value in
    longest_known c.args.times c.args.problem.now c.args.chain.now.certificate c.in_ok-certificate.certificate c.longest_steps-steps.result c.longest_labels-labels.result c.count_of.result (steps, labels)
    c.requires.chain c.in_ok-certificate.ensures (c.in_ok-has.ensures.text c.if-not-has.false) c.count_of.ensures
