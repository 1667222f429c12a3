use Rattle.std.proofs.Common.{List, None, refl, subst, true}
use Rattle.std.specs.Prelude.{Contains, IfSome}
use Rattle.re_problem.specs.NamedProblems.{unnamed}
use Rattle.re_given_words.proofs.Serving.{passed-dead, passed-on, way-on}
use Rattle.re_given_words.specs.Ahead.{HaveChoices}
use Rattle.re_given_words.specs.Searching.{AreLeft, IsAdded, IsPart, IsSupplied}
use Rattle.re_given_words.specs.declared.searching.Open.{Open}
use Rattle.re_given_words.specs.declared.standing.Standing.{Standing}
use Rattle.re_given_words.proofs.searching.served.Goals as goal

pub returns-in_default-2-clause-passed : goal.returns-in_default-2-clause-passed
returns-in_default-2-clause-passed c =
    passed-dead (unnamed c.args.problem.now) c.args.rows.now c.args.first.now c.args.others.now c.args.standing.now c.in-Some.standing.items c.args.sets.now None c.requires.under_way
    (subst (λ active. IsAdded active c.args.first.now.ports c.args.sets.now c.args.standing.now true c.in-Some.standing.items) c.active-active.ensures.active
    (subst (λ ports. IsAdded c.active-active.result.now ports c.args.sets.now c.args.standing.now true c.in-Some.standing.items) c.labels-ports.ensures.labels
    (subst (λ o. IfSome o (λ more. IsAdded c.active-active.result.now c.labels-ports.result.now c.args.sets.now c.args.standing.now true more.items)) c.in-Some.is c.in_ok-standing.ensures.some)))
    (subst (λ active. (whole : List Standing) → HaveChoices active whole → IsPart c.in-Some.standing.items whole → ((o : Open) → Contains c.args.others.now o → IsSupplied whole o) → ⊥) c.active-active.ensures.active
    (subst (λ l. (whole : List Standing) → HaveChoices c.active-active.result.now whole → IsPart l whole → ((o : Open) → Contains c.args.others.now o → IsSupplied whole o) → ⊥) c.as_slice.ensures.value
    (c.in_ok-opens.ensures.none c.in_default-2.is)))

pub returns-clause-some : goal.returns-clause-some
returns-clause-some c =
    way-on (unnamed c.args.problem.now) c.args.rows.now c.args.first.now c.args.others.now c.in-Some-2.opens.items c.args.standing.now c.in-Some.standing.items c.args.sets.now c.requires.under_way c.requires.row
    (subst (λ active. IsAdded active c.args.first.now.ports c.args.sets.now c.args.standing.now true c.in-Some.standing.items) c.active-active.ensures.active
    (subst (λ ports. IsAdded c.active-active.result.now ports c.args.sets.now c.args.standing.now true c.in-Some.standing.items) c.labels-ports.ensures.labels
    (subst (λ o. IfSome o (λ more. IsAdded c.active-active.result.now c.labels-ports.result.now c.args.sets.now c.args.standing.now true more.items)) c.in-Some.is c.in_ok-standing.ensures.some)))
    (subst (λ active. AreLeft active c.in-Some.standing.items c.args.others.now c.in-Some-2.opens.items) c.active-active.ensures.active
    (subst (λ l. AreLeft c.active-active.result.now l c.args.others.now c.in-Some-2.opens.items) c.as_slice.ensures.value
    (subst (λ o. IfSome o (λ left. AreLeft c.active-active.result.now c.as_slice.result.now c.args.others.now left.items)) c.in-Some-2.is c.in_ok-opens.ensures.some)))

pub returns-clause-passed : goal.returns-clause-passed
returns-clause-passed c =
    passed-on (unnamed c.args.problem.now) c.args.rows.now c.args.standing.now c.args.first.now.ports c.args.sets.now (record { opens = c.in-Some-2.opens; standing = c.in-Some.standing }) _
    (subst (λ active. IsAdded active c.args.first.now.ports c.args.sets.now c.args.standing.now true c.in-Some.standing.items) c.active-active.ensures.active
    (subst (λ ports. IsAdded c.active-active.result.now ports c.args.sets.now c.args.standing.now true c.in-Some.standing.items) c.labels-ports.ensures.labels
    (subst (λ o. IfSome o (λ more. IsAdded c.active-active.result.now c.labels-ports.result.now c.args.sets.now c.args.standing.now true more.items)) c.in-Some.is c.in_ok-standing.ensures.some)))
    refl
