use Rattle.std.proofs.Common.{◌≡◌, ◌∙◌, [], List, arith, subst, sym, take}
use Rattle.std.specs.List.{AllZip}
use Rattle.re_labels.proofs.Patterns.{others-are, parted}
use Rattle.re_labels.proofs.Placing.{no_length}
use Rattle.re_problem.specs.NamedProblems.{unnamed}
use Rattle.re_given_words.proofs.Serving.{AreTried, all-tried, next-none, next-nowhere, shown, tried-more}
use Rattle.re_given_words.proofs.SetsAdded.{seen-all, seen-more}
use Rattle.re_given_words.specs.Ahead.{StandsAt}
use Rattle.re_given_words.specs.Searching.{IsPart, IsUnderWay, ShowsTwoBy}
use Rattle.re_given_words.specs.declared.standing.Standing.{Standing}
use Rattle.re_given_words.proofs.searching.+serve.Goals as goal
use Rattle.re_given_words.proofs.searching.+serve.Goals.{in-Some+in_ok-serve+else-branch, in_default-2}

pub returns-in_default-clause-yes : goal.returns-in_default-clause-yes
returns-in_default-clause-yes t c = λ same.
    let none : c.args.opens.now ≡ [] = no_length c.args.opens.now (omega (arith, c.in_default.len_below)) in
    shown (unnamed c.args.problem.now) c.args.rows.now c.args.standing.now (subst (λ opens. IsUnderWay (unnamed c.args.problem.now) c.args.rows.now opens c.args.standing.now) none c.requires)

pub loop-row-preserved : goal.loop-row-preserved
loop-row-preserved t c =
    subst (AreTried (unnamed c.args.problem.now) c.args.rows.now c.args.standing.now c.first-item.result.ports) (sym (seen-more c.as_slice-row-items.result.now c.loop-row.row-index c.row-item.result c.loop-row-test.true c.row-item.is))
    (tried-more (unnamed c.args.problem.now) c.args.rows.now c.args.standing.now c.first-item.result.ports (take c.loop-row.row-index c.as_slice-row-items.result.now) c.row-item.result c.loop-row.invariant
    (subst (λ sets. (whole : List Standing) → ShowsTwoBy (unnamed c.args.problem.now) c.args.rows.now whole → IsPart c.args.standing.now whole → AllZip (StandsAt whole) c.first-item.result.ports sets → ⊥) c.sets.ensures.sets nowhere))
  where
    nowhere : (whole : List Standing) → ShowsTwoBy (unnamed c.args.problem.now) c.args.rows.now whole → IsPart c.args.standing.now whole → AllZip (StandsAt whole) c.first-item.result.ports c.sets.result.now → ⊥
    nowhere =
        elim c.match-branch-2.branch [
          | in-Some+in_ok-serve+else-branch w ↦
              next-nowhere (unnamed c.args.problem.now) c.args.rows.now c.args.standing.now c.first-item.result.ports c.sets.result.now c.in_ok-more.field-0 w.in-Some.more w.in-Some.is c.in_ok-more.ensures.passed
              (subst (λ standing. (whole : List Standing) → ShowsTwoBy (unnamed c.args.problem.now) c.args.rows.now whole → IsPart standing whole → ⊥) w.as_slice-in-Some.ensures.value (w.in_ok-serve.ensures.no w.if-branch.false))
          | in_default-2 w ↦ next-none (unnamed c.args.problem.now) c.args.rows.now c.args.standing.now c.first-item.result.ports c.sets.result.now c.in_ok-more.field-0 w.in_default-2.is c.in_ok-more.ensures.passed
        ]

pub returns-clause-no : goal.returns-clause-no
returns-clause-no t c = λ same.
    let opens = parted c.args.opens.now _ c.first-item.result c.in-len1-up.len_at_least c.first-item.is (others-are c.args.opens.now) in
    all-tried (unnamed c.args.problem.now) c.args.rows.now c.first-item.result _ c.args.standing.now (subst (λ l. IsUnderWay (unnamed c.args.problem.now) c.args.rows.now l c.args.standing.now) (sym opens) c.requires)
    (subst (AreTried (unnamed c.args.problem.now) c.args.rows.now c.args.standing.now c.first-item.result.ports)
    (seen-all c.as_slice-row-items.result.now c.loop-row.row-index c.loop-row.auto.row-index-end c.loop-row-test.false ∙ c.as_slice-row-items.ensures.value) c.loop-row.invariant)
