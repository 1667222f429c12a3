use Rattle.std.proofs.Common.{◌∙◌, [], ap, subst}
use Rattle.re_cert.specs.declared.certificate.Kind.TheVariants.{Upper}
use Rattle.re_chains.specs.Chains.{chain_with}
use Rattle.re_settings.specs.declared.setting.Setting.TheVariants.{Alone}
use Rattle.re_problem.specs.NamedProblems.{NamedProblem}
use Rattle.re_going_on.specs.ShortestAnswers.{Answers}
use Rattle.re_settle.proofs.Known.{shortest_known}
use Rattle.re_settle.proofs.bounds.shortest_way.Goals as goal

pub returns : goal.returns
returns c =
    let chain = c.upper_chain-chain.result.certificate in
    shortest_known c.args.times c.args.problem.now chain c.in-Found.certificate c.args.steps c.args.labels c.count_of.result c.requires
    (c.upper_chain-chain.ensures ∙ ap (λ (p : NamedProblem). chain_with Upper p []) c.in_ok-copy.ensures)
    (subst (Answers Alone c.args.steps c.args.labels chain) c.in-Found.is c.in_ok-certificate.ensures) (c.in_ok-has.ensures.text c.if-not-has.false)
    c.count_of.ensures
