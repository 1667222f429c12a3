use Rattle.std.proofs.Common.{◌∙◌}
use Rattle.re_inputs.proofs.NamedProofs.{named_is, named_exchanged-named}
use Rattle.re_inputs.specs.NamedInputs.{named_exchanged}
use Rattle.re_inputs.proofs.making.exchanged.Goals as goal

pub problem_of-requires : goal.problem_of-requires
problem_of-requires c =
    named_is (named_exchanged c.args.problem.now) c.in_ok-names.names c.in_ok-active.active c.in_ok-passive.passive (c.in_ok-names.ensures ∙ c.names.ensures.names) (c.in_ok-active.ensures ∙ c.passive.ensures.passive) (c.in_ok-passive.ensures ∙ c.active.ensures.active)
    (named_exchanged-named c.args.problem.now c.names.ensures.problem)
