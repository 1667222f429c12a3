use Rattle.std.proofs.Common.{◌∙◌, ap, subst}
use Rattle.re_families.specs.Families.{family_of}
use Rattle.re_families.specs.declared.types.Family.TheVariants as family
use Rattle.re_inputs.proofs.NamedProofs.{degrees_of, named_is, oriented_named, orientation_in}
use Rattle.re_inputs.specs.NamedInputs.{oriented}
use Rattle.re_labels.specs.Names.{IsNames}
use Rattle.re_problem.specs.NamedProblems.{NamedProblem}
use Rattle.re_inputs.specs.declared.kinds.InputKind.TheVariants.{Orientation}
use Rattle.re_inputs.proofs.making.oriented.Goals as goal
use Rattle.re_families.proofs.Whole.{degree_range}

pub family_problem-requires : goal.family_problem-requires
family_problem-requires c =
    let degrees = degrees_of Orientation c.args.active c.args.passive 0 c.requires in
    orientation_in c.args.active c.args.passive degrees.active degrees.passive

pub oriented_constraint-requires-clause-least : goal.oriented_constraint-requires-clause-least
oriented_constraint-requires-clause-least c = (degree_range c.args.active (degrees_of Orientation c.args.active c.args.passive 0 c.requires).active).0

pub oriented_constraint-requires-clause-most : goal.oriented_constraint-requires-clause-most
oriented_constraint-requires-clause-most c = (degree_range c.args.active (degrees_of Orientation c.args.active c.args.passive 0 c.requires).active).1

pub problem_of-requires : goal.problem_of-requires
problem_of-requires c =
    let degrees = degrees_of Orientation c.args.active c.args.passive 0 c.requires in
    let names : IsNames (family_of family.Orientation c.args.active c.args.passive 0).names = subst (λ (q : NamedProblem). IsNames q.names) c.in_ok-sinkless.ensures c.names.ensures.problem.names in
    named_is (oriented c.args.mixed c.args.active c.args.passive) c.in_ok-names.names c.in_ok-active.active c.in_ok-passive.passive
    (c.in_ok-names.ensures ∙ c.names.ensures.names ∙ ap (λ (q : NamedProblem). q.names) c.in_ok-sinkless.ensures) c.in_ok-active.ensures
    (c.in_ok-passive.ensures ∙ c.passive.ensures.passive ∙ ap (λ (q : NamedProblem). q.passive) c.in_ok-sinkless.ensures)
    (oriented_named c.args.mixed c.args.active c.args.passive degrees names)
