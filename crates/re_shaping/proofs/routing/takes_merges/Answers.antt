use Rattle.std.proofs.Common.{◌≡◌, Bool, true, ap, sym, ◌∙◌, subst}
use Rattle.std.specs.Prelude.{◌&&◌, IfOk}
use Rattle.re_cert.specs.Bounds.{last_problem}
use Rattle.re_problem.specs.NamedProblems.{NamedProblem}
use Rattle.re_shaping.specs.Routes.{are_by_row, has_few_rows}
use Rattle.re_shaping.proofs.routing.takes_merges.Goals as goal

pub returns-then-are_by_row : goal.returns-then-are_by_row
returns-then-are_by_row c =
    let by_row : true ≡ are_by_row c.args.chain.now.steps = sym c.if-are_by_row.true ∙ c.are_by_row.ensures ∙ ap are_by_row c.steps.ensures.steps in
    subst (λ (b : Bool). IfOk c.has_few_rows.result (λ takes. takes ≡ (b && has_few_rows (last_problem c.args.chain.now)))) by_row
    (subst (λ (p : NamedProblem). IfOk c.has_few_rows.result (λ few. few ≡ has_few_rows p)) c.last.ensures c.has_few_rows.ensures)
