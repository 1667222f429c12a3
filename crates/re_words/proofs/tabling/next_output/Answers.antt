use Rattle.std.proofs.Common.{ap, subst, sym, ◌∙◌}
use Rattle.re_algo.specs.Tables.{entries}
use Rattle.re_words.proofs.TablingLemmas.{problems_same}
use Rattle.re_laws.specs.Algorithms.{Solves}
use Rattle.re_problem.specs.NamedProblems.{unnamed}
use Rattle.re_problem.specs.Problems.{Problem}
use Rattle.re_step.proofs.NameLemmas.{unnamed-derived}
use Rattle.re_step.specs.Derivations.{Derivation}
use Rattle.re_words.proofs.tabling.next_output.Goals as goal

pub more_output-requires-clause-solves : goal.more_output-requires-clause-solves
more_output-requires-clause-solves c =
    let step = c.derived.view_is ∙ c.requires.derived in
    let same = problems_same c.args.next.now _ (sym c.are_same_problems.ensures ∙ c.if-not-are_same_problems.false) in
    let next = ap unnamed same ∙ (ap (λ (d : Derivation). unnamed d.problem) step ∙ unnamed-derived (unnamed c.args.problem.now)) in
    subst (λ (p : Problem). Solves p c.args.table.now.radius (entries c.args.table.now)) next (c.in_ok-verdict.ensures.yes.0 c.in-Yes.is)
