use Rattle.std.proofs.Common.{◌≡◌, ap, ◌∙◌, subst}
use Rattle.std.specs.Prelude.{IfSome, Option}
use Rattle.re_problem.specs.NamedProblems.{NamedProblem, unnamed}
use Rattle.re_cert.specs.Bounds.{Bound}
use Rattle.re_algo.specs.Tables.{AnswerTable}
use Rattle.re_algo.specs.Verdicts.{table_verdict}
use Rattle.re_algo.specs.declared.solving.TableVerdict.TheVariants.{Yes}
use Rattle.re_table_texts.specs.declared.table_texts.TableForm.TheVariants.{Plain}
use Rattle.re_words.proofs.Extracts.{printed_yes}
use Rattle.re_frame.specs.Outcomes.{Outcome}
use Rattle.re_words.specs.Tabling.{tabling_outcome}
use Rattle.re_words.proofs.extracting.algorithm_output.Goals as goal

pub returns-in_ok-print_table-in-Some-clause-yes : goal.returns-in_ok-print_table-in-Some-clause-yes
returns-in_ok-print_table-in-Some-clause-yes c = λ answered.
    let text : c.done.result.text.items ≡ c.in_ok-print_table-in-Some.field-0.items = ap (λ (outcome : Outcome). outcome.text) c.done.ensures in
    let first : c.first.result.now ≡ c.args.extractor.now.first =
    c.first.ensures.first ∙ (ap (λ (b : Bound). b.first) c.certificate.ensures.certificate ∙ ap (λ (b : Bound). b.first) c.upper_table.ensures.same) in
    let solved = subst (λ (found : Option AnswerTable). IfSome found (λ table. table_verdict (unnamed c.args.extractor.now.first) table ≡ Yes)) c.in-Some.is c.in_ok-table.ensures.verdict in
    let verdict : table_verdict (unnamed c.first.result.now) c.in-Some.table ≡ Yes = ap (λ (p : NamedProblem). table_verdict (unnamed p) c.in-Some.table) first ∙ solved in
    ap (tabling_outcome Plain) text ∙ printed_yes c.in_ok-print_table-in-Some.field-0.items c.first.result.now c.in-Some.table c.in_ok-print_table-in-Some.ensures.read verdict
