use Rattle.std.proofs.Common.{◌≡◌, ◌∙◌, subst, sym}
use Rattle.re_cert.specs.Bounds.{last_problem}
use Rattle.re_classes.specs.Laws.{IsSolvableColoured}
use Rattle.re_greedy.specs.Findings.{IsListVerdict}
use Rattle.re_judging.proofs.GreedyLaws.{greedy_is, greedy_means}
use Rattle.re_judging.specs.GreedyParts.{seen_from, whole_list}
use Rattle.re_problem.specs.NamedProblems.{NamedProblem, unnamed}
use Rattle.re_problem.specs.Problems.{IsProblem}
use Rattle.re_judging.proofs.greedy_parts.greedy_by.Goals as goal

pub returns-in-Greedy-clause-means : goal.returns-in-Greedy-clause-means
returns-in-Greedy-clause-means c =
    let turns = c.args.turns.now in
    let chain = c.args.chain.now in
    let last = last_problem chain in
    let same : chain.first ≡ c.in_ok-copy-in-Greedy.field-0 = sym (c.in_ok-copy-in-Greedy.ensures ∙ c.first.ensures.first) in
    let is = subst (λ (p : NamedProblem). IsListVerdict (unnamed (seen_from turns.side p)) (whole_list turns p) 1000000 c.in_ok-verdict.verdict) c.last.ensures c.in_ok-verdict.ensures in (
      subst (λ (p : NamedProblem). IsProblem (unnamed p)) same c.over_problems.ensures.first.problem,
      subst (λ (p : NamedProblem). IsSolvableColoured (unnamed p)) same
          (greedy_means turns chain c.kind-kind.ensures.bound c.over_problems.ensures c.requires.sound c.requires.upper
          (greedy_is (unnamed (seen_from turns.side last)) (whole_list turns last) c.in_ok-verdict.verdict c.in-Greedy.is is)),
    )
