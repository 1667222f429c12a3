use Rattle.std.proofs.Common.{◌≡◌, ◌<◌, ◌∙◌, ap, length, subst, sym, Option, Some, None}
use Rattle.std.specs.List.{AllByRecursion}
use Rattle.re_labels.specs.declared.sides.Degrees.{Degrees}
use Rattle.re_problem.specs.NamedProblems.{IsNamedProblem, NamedProblem, unnamed}
use Rattle.re_laws.specs.Algorithms.{Solves}
use Rattle.re_cert.specs.Bounds.{Bound}
use Rattle.re_algo.proofs.FasterCode.{same_table}
use Rattle.re_algo.specs.Tables.{AnswerTable, built_table, entries}
use Rattle.re_algo.specs.Verdicts.{table_verdict}
use Rattle.re_extract.proofs.Written.{filled_is, upper_labels, upper_solves, upper_verdict}
use Rattle.re_extract.specs.UpperTables.{upper_table}
use Rattle.re_extract.proofs.upper_tables.filled_table.Goals as goal

pub unreachable-requires : goal.unreachable-requires
unreachable-requires c =
    let bound = c.args.extractor.now in
    let is = c.certificate.ensures.bound in
    let first : c.first.result.now ≡ bound.first = c.first.ensures.first ∙ ap (λ (b : Bound). b.first) c.certificate.ensures.certificate in
    let named : IsNamedProblem bound.first = subst IsNamedProblem first c.degrees-degrees.ensures.problem in
    let own : c.degrees-degrees.result.active ≡ bound.first.active.degree = ap (λ (d : Degrees). d.active) c.degrees-degrees.ensures.degrees ∙ ap (λ (n : NamedProblem). n.active.degree) first in
    let other : c.degrees-degrees.result.passive ≡ bound.first.passive.degree = ap (λ (d : Degrees). d.passive) c.degrees-degrees.ensures.degrees ∙ ap (λ (n : NamedProblem). n.passive.degree) first in
    let count : length c.steps.result.now ≡ length bound.steps = ap length (c.steps.ensures.steps ∙ ap (λ (b : Bound). b.steps) c.certificate-2.ensures.certificate) in
    let filled : built_table c.degrees-degrees.result (length c.steps.result.now) c.in_ok-answers.answers.items ≡ Some (upper_table bound) =
    filled_is bound is named c.requires c.degrees-degrees.result (length c.steps.result.now) c.in_ok-answers.answers.items own other count c.in_ok-answers.ensures.answers in
    let no : ◌≡◌ {A = Option AnswerTable} None (Some (upper_table bound)) = c.in-None.ensures ∙ filled in
    cc

pub returns-clause-table : goal.returns-clause-table
returns-clause-table c =
    let bound = c.args.extractor.now in
    let is = c.certificate.ensures.bound in
    let first : c.first.result.now ≡ bound.first = c.first.ensures.first ∙ ap (λ (b : Bound). b.first) c.certificate.ensures.certificate in
    let named : IsNamedProblem bound.first = subst IsNamedProblem first c.degrees-degrees.ensures.problem in
    let own : c.degrees-degrees.result.active ≡ bound.first.active.degree = ap (λ (d : Degrees). d.active) c.degrees-degrees.ensures.degrees ∙ ap (λ (n : NamedProblem). n.active.degree) first in
    let other : c.degrees-degrees.result.passive ≡ bound.first.passive.degree = ap (λ (d : Degrees). d.passive) c.degrees-degrees.ensures.degrees ∙ ap (λ (n : NamedProblem). n.passive.degree) first in
    let count : length c.steps.result.now ≡ length bound.steps = ap length (c.steps.ensures.steps ∙ ap (λ (b : Bound). b.steps) c.certificate-2.ensures.certificate) in
    let filled : built_table c.degrees-degrees.result (length c.steps.result.now) c.in_ok-answers.answers.items ≡ Some (upper_table bound) =
    filled_is bound is named c.requires c.degrees-degrees.result (length c.steps.result.now) c.in_ok-answers.answers.items own other count c.in_ok-answers.ensures.answers in
    same_table c.in-Some.table (upper_table bound) (c.in-Some.ensures ∙ filled)

pub returns-clause-solves : goal.returns-clause-solves
returns-clause-solves c =
    let bound = c.args.extractor.now in
    let is = c.certificate.ensures.bound in
    let first : c.first.result.now ≡ bound.first = c.first.ensures.first ∙ ap (λ (b : Bound). b.first) c.certificate.ensures.certificate in
    let named : IsNamedProblem bound.first = subst IsNamedProblem first c.degrees-degrees.ensures.problem in
    let own : c.degrees-degrees.result.active ≡ bound.first.active.degree = ap (λ (d : Degrees). d.active) c.degrees-degrees.ensures.degrees ∙ ap (λ (n : NamedProblem). n.active.degree) first in
    let other : c.degrees-degrees.result.passive ≡ bound.first.passive.degree = ap (λ (d : Degrees). d.passive) c.degrees-degrees.ensures.degrees ∙ ap (λ (n : NamedProblem). n.passive.degree) first in
    let count : length c.steps.result.now ≡ length bound.steps = ap length (c.steps.ensures.steps ∙ ap (λ (b : Bound). b.steps) c.certificate-2.ensures.certificate) in
    let filled : built_table c.degrees-degrees.result (length c.steps.result.now) c.in_ok-answers.answers.items ≡ Some (upper_table bound) =
    filled_is bound is named c.requires c.degrees-degrees.result (length c.steps.result.now) c.in_ok-answers.answers.items own other count c.in_ok-answers.ensures.answers in
    let same : c.in-Some.table ≡ upper_table bound = same_table c.in-Some.table (upper_table bound) (c.in-Some.ensures ∙ filled) in
    subst (λ (table : AnswerTable). Solves (unnamed bound.first) table.radius (entries table)) (sym same) (upper_solves bound is)

pub returns-clause-verdict : goal.returns-clause-verdict
returns-clause-verdict c =
    let bound = c.args.extractor.now in
    let is = c.certificate.ensures.bound in
    let first : c.first.result.now ≡ bound.first = c.first.ensures.first ∙ ap (λ (b : Bound). b.first) c.certificate.ensures.certificate in
    let named : IsNamedProblem bound.first = subst IsNamedProblem first c.degrees-degrees.ensures.problem in
    let own : c.degrees-degrees.result.active ≡ bound.first.active.degree = ap (λ (d : Degrees). d.active) c.degrees-degrees.ensures.degrees ∙ ap (λ (n : NamedProblem). n.active.degree) first in
    let other : c.degrees-degrees.result.passive ≡ bound.first.passive.degree = ap (λ (d : Degrees). d.passive) c.degrees-degrees.ensures.degrees ∙ ap (λ (n : NamedProblem). n.passive.degree) first in
    let count : length c.steps.result.now ≡ length bound.steps = ap length (c.steps.ensures.steps ∙ ap (λ (b : Bound). b.steps) c.certificate-2.ensures.certificate) in
    let filled : built_table c.degrees-degrees.result (length c.steps.result.now) c.in_ok-answers.answers.items ≡ Some (upper_table bound) =
    filled_is bound is named c.requires c.degrees-degrees.result (length c.steps.result.now) c.in_ok-answers.answers.items own other count c.in_ok-answers.ensures.answers in
    let same : c.in-Some.table ≡ upper_table bound = same_table c.in-Some.table (upper_table bound) (c.in-Some.ensures ∙ filled) in
    ap (table_verdict (unnamed bound.first)) same ∙ upper_verdict bound is named c.requires

pub returns-clause-labels : goal.returns-clause-labels
returns-clause-labels c =
    let bound = c.args.extractor.now in
    let is = c.certificate.ensures.bound in
    let first : c.first.result.now ≡ bound.first = c.first.ensures.first ∙ ap (λ (b : Bound). b.first) c.certificate.ensures.certificate in
    let named : IsNamedProblem bound.first = subst IsNamedProblem first c.degrees-degrees.ensures.problem in
    let own : c.degrees-degrees.result.active ≡ bound.first.active.degree = ap (λ (d : Degrees). d.active) c.degrees-degrees.ensures.degrees ∙ ap (λ (n : NamedProblem). n.active.degree) first in
    let other : c.degrees-degrees.result.passive ≡ bound.first.passive.degree = ap (λ (d : Degrees). d.passive) c.degrees-degrees.ensures.degrees ∙ ap (λ (n : NamedProblem). n.passive.degree) first in
    let count : length c.steps.result.now ≡ length bound.steps = ap length (c.steps.ensures.steps ∙ ap (λ (b : Bound). b.steps) c.certificate-2.ensures.certificate) in
    let filled : built_table c.degrees-degrees.result (length c.steps.result.now) c.in_ok-answers.answers.items ≡ Some (upper_table bound) =
    filled_is bound is named c.requires c.degrees-degrees.result (length c.steps.result.now) c.in_ok-answers.answers.items own other count c.in_ok-answers.ensures.answers in
    let same : c.in-Some.table ≡ upper_table bound = same_table c.in-Some.table (upper_table bound) (c.in-Some.ensures ∙ filled) in
    subst (λ (table : AnswerTable). AllByRecursion (AllByRecursion (λ label. label < length bound.first.names)) table.answers) (sym same) (upper_labels bound is named c.requires)
