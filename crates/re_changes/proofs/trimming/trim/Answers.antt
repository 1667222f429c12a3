use Rattle.std.proofs.Common.{◌≡◌, ◌↔◌, ap, length, subst, sym, ◌∙◌}
use Rattle.std.proofs.lemmas.Result.{IfOk-weaker}
use Rattle.re_laws.specs.Algorithms.{Solvable}
use Rattle.re_problem.specs.NamedProblems.{NamedProblem, unnamed}
use Rattle.re_changes.proofs.KeptRounds.{trim_rounds_law}
use Rattle.re_changes.specs.Trimming.{trimmed, trimmed_of}
use Rattle.re_changes.proofs.trimming.trim.Goals as goal

pub returns-clause-rounds : goal.returns-clause-rounds
returns-clause-rounds c = IfOk-weaker c.trimmed.result _ _
    (λ (problem : NamedProblem) e T.
    let steps : c.len.result ≡ length c.args.problem.now.names = c.len.ensures.len ∙ ap length c.names.ensures.names in
    let all : problem ≡ trimmed_of c.args.problem.now = e ∙ ap (λ k. trimmed k c.args.problem.now) steps in
    subst (λ p. Solvable (unnamed p) T ↔ Solvable (unnamed c.args.problem.now) T) (sym all) (trim_rounds_law c.args.problem.now T c.names.ensures.problem))
    c.trimmed.ensures
