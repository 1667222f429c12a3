use Rattle.std.proofs.Common.{◌∙◌, ap, arith, subst}
use Rattle.re_families.specs.Families.{family_of}
use Rattle.re_families.specs.declared.types.Family.TheVariants as family
use Rattle.re_inputs.proofs.NamedProofs.{colouring_in, degrees_of, named_is, nothing_named}
use Rattle.re_inputs.specs.NamedInputs.{input_of}
use Rattle.re_labels.specs.Names.{IsNames}
use Rattle.re_problem.specs.NamedProblems.{NamedProblem}
use Rattle.re_inputs.specs.declared.kinds.InputKind.TheVariants.{Nothing}
use Rattle.re_inputs.proofs.making.nothing.Goals as goal

pub family_problem-requires : goal.family_problem-requires
family_problem-requires c =
    let degrees = degrees_of Nothing c.args.active c.args.passive 0 c.requires in
    colouring_in c.args.active c.args.passive 1 degrees.active degrees.passive (omega arith) (omega arith)

pub family_problem-requires-2 : goal.family_problem-requires-2
family_problem-requires-2 c =
    let degrees = degrees_of Nothing c.args.active c.args.passive 0 c.requires in
    colouring_in c.args.passive c.args.active 1 degrees.passive degrees.active (omega arith) (omega arith)

pub problem_of-requires : goal.problem_of-requires
problem_of-requires c =
    let degrees = degrees_of Nothing c.args.active c.args.passive 0 c.requires in
    let names : IsNames (family_of family.Colouring c.args.active c.args.passive 1).names = subst (λ (q : NamedProblem). IsNames q.names) c.in_ok-one.ensures c.names.ensures.problem.names in
    named_is (input_of Nothing c.args.active c.args.passive 0) c.in_ok-names.names c.in_ok-first.first c.in_ok-second.second
    (c.in_ok-names.ensures ∙ c.names.ensures.names ∙ ap (λ (q : NamedProblem). q.names) c.in_ok-one.ensures)
    (c.in_ok-first.ensures ∙ c.active.ensures.active ∙ ap (λ (q : NamedProblem). q.active) c.in_ok-one.ensures)
    (c.in_ok-second.ensures ∙ c.active-2.ensures.active ∙ ap (λ (q : NamedProblem). q.active) c.in_ok-other.ensures)
    (nothing_named c.args.active c.args.passive degrees names)
