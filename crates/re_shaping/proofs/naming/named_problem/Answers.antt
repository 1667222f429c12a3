use Rattle.std.proofs.Common.{◌≡◌, None, Some, sym, ◌∙◌}
use Rattle.re_shaping.proofs.NewNames.{built-made, known, numbers-below}
use Rattle.re_shaping.specs.Naming.{named_problem}
use Rattle.re_shaping.proofs.naming.named_problem.Goals as goal

pub image-requires-clause-known : goal.image-requires-clause-known
image-requires-clause-known c = known c.args.label c.args.name.now c.args.problem.now c.active.ensures.problem c.requires.label c.text-text.ensures.name c.args.numbers.now c.requires.numbers
    c.args.problem.now.active c.active.result.now c.active.ensures.problem.problem.active c.active.ensures.active

pub image-requires-clause-below : goal.image-requires-clause-below
image-requires-clause-below c = numbers-below c.args.label c.args.name.now c.args.problem.now c.active.ensures.problem c.requires.label c.text-text.ensures.name c.args.numbers.now c.requires.numbers

pub image-requires-2-clause-known : goal.image-requires-2-clause-known
image-requires-2-clause-known c = known c.args.label c.args.name.now c.args.problem.now c.active.ensures.problem c.requires.label c.text-text.ensures.name c.args.numbers.now c.requires.numbers
    c.args.problem.now.passive c.passive.result.now c.active.ensures.problem.problem.passive c.passive.ensures.passive

pub image-requires-2-clause-below : goal.image-requires-2-clause-below
image-requires-2-clause-below c = numbers-below c.args.label c.args.name.now c.args.problem.now c.active.ensures.problem c.requires.label c.text-text.ensures.name c.args.numbers.now c.requires.numbers

pub unreachable-requires : goal.unreachable-requires
unreachable-requires c =
    let some : None ≡ Some (named_problem c.args.label c.args.name.now c.args.problem.now) = sym c.in-None.is ∙ c.build.ensures ∙ built-made c.args.label c.args.name.now c.args.problem.now c.active.ensures.problem c.requires.label c.args.numbers.now c.requires.numbers c.args.renamed c.requires.renamed
    c.active.result.now c.in_ok-active.active c.passive.result.now c.in_ok-passive.passive c.active.ensures.active c.passive.ensures.passive c.in_ok-active.ensures.degree c.in_ok-active.ensures.configs c.in_ok-passive.ensures.degree c.in_ok-passive.ensures.configs in
    cc

pub returns : goal.returns
returns c =
    let some : Some c.in-Some.named ≡ Some (named_problem c.args.label c.args.name.now c.args.problem.now) = sym c.in-Some.is ∙ c.build.ensures ∙ built-made c.args.label c.args.name.now c.args.problem.now c.active.ensures.problem c.requires.label c.args.numbers.now c.requires.numbers c.args.renamed c.requires.renamed
    c.active.result.now c.in_ok-active.active c.passive.result.now c.in_ok-passive.passive c.active.ensures.active c.passive.ensures.passive c.in_ok-active.ensures.degree c.in_ok-active.ensures.configs c.in_ok-passive.ensures.degree c.in_ok-passive.ensures.configs in
    cc
