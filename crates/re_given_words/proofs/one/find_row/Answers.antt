use Rattle.std.proofs.Common.{◌≡◌, ◌∙◌, ap}
use Rattle.std.proofs.lemmas.Result.{IfOk-weaker}
use Rattle.std.specs.List.{position}
use Rattle.re_problem.specs.NamedProblems.{unnamed}
use Rattle.re_labels.specs.Constraints.{Constraint}
use Rattle.re_labels.specs.GoodRows.{max_rows}
use Rattle.re_given_words.proofs.RowTests.{none-there, place-shown}
use Rattle.re_given_words.specs.RowTests.{has_choices}
use Rattle.re_given_words.proofs.one.find_row.Goals as goal

same : (c : goal.After-find_among) → position (has_choices c.active.result.now c.degree-ports.result) c.args.rows.now
    ≡ position (has_choices c.args.problem.now.active c.args.problem.now.passive.degree) (max_rows (unnamed c.args.problem.now).passive (unnamed c.args.problem.now).labels)
same c = λ i. position (has_choices (c.active.ensures.active i) ((c.degree-ports.ensures.degree ∙ ap (λ (k : Constraint). k.degree) c.passive.ensures.passive) i)) (c.requires.rows i)

pub returns-clause-shown : goal.returns-clause-shown
returns-clause-shown c = IfOk-weaker c.find_among.result _ _ (λ o e. place-shown (unnamed c.args.problem.now) c.names-names.ensures.problem.problem o (e ∙ same c)) c.find_among.ensures

pub returns-clause-none : goal.returns-clause-none
returns-clause-none c = IfOk-weaker c.find_among.result _ _ (λ o e. none-there (unnamed c.args.problem.now) c.names-names.ensures.problem.problem o (e ∙ same c)) c.find_among.ensures
