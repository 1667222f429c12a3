use Rattle.std.proofs.Common.{[], subst, sym}
use Rattle.std.proofs.lemmas.Result.{IfOk-weaker}
use Rattle.re_labels.proofs.Membership.{Contains-none}
use Rattle.re_problem.specs.NamedProblems.{unnamed}
use Rattle.re_given_words.proofs.RowsOrdered.{none-Solvable, shown-Solvable}
use Rattle.re_given_words.specs.Searching.{IsUnderWay, ShowsTwoBy}
use Rattle.re_given_words.proofs.two.search.Goals as goal

pub serve-requires : goal.serve-requires
serve-requires c = subst (λ opens. IsUnderWay (unnamed c.args.problem.now) c.args.rows.now opens []) (sym c.as_slice.ensures.value) c.in_ok-opens.ensures

pub returns-clause-yes : goal.returns-clause-yes
returns-clause-yes c =
    IfOk-weaker c.serve.result _ _ (λ found shown same.
    let (whole, shows) = shown same in
    shown-Solvable (unnamed c.args.problem.now) c.names-names.ensures.problem.problem whole (subst (λ rows. ShowsTwoBy (unnamed c.args.problem.now) rows whole) c.requires.rows shows)) c.serve.ensures.yes

pub returns-clause-no : goal.returns-clause-no
returns-clause-no c =
    IfOk-weaker c.serve.result _ _ (λ found none same.
    none-Solvable (unnamed c.args.problem.now) c.names-names.ensures.problem.problem (λ whole shows.
    none same whole (subst (λ rows. ShowsTwoBy (unnamed c.args.problem.now) rows whole) (sym c.requires.rows) shows) (λ port set held. absurd (Contains-none _ held)))) c.serve.ensures.no
