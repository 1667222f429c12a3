use Rattle.std.proofs.Common.{◌∙◌, eqb, length, ap, sym}
use Rattle.std.proofs.lemmas.Bool.{false≢true}
use Rattle.re_check.specs.Verdicts.{is_yes}
use Rattle.re_problem.specs.Verdicts.{renaming_verdict}
use Rattle.re_problem.specs.NamedProblems.{unnamed}
use Rattle.re_labels.specs.Orders.{orders}
use Rattle.re_search.proofs.Losses.{lost-becomes, none-of}
use Rattle.re_search.proofs.Renamings.{none-at_all, none-more, rest-size, some-here}
use Rattle.re_search.proofs.returning.+first_renaming.Goals as goal

pub returns-in-Some : goal.returns-in-Some
returns-in-Some t c =
    let f = c.as_slice-in-loop-place.ensures.value ∙ c.without-others.ensures in
    some-here (λ images. is_yes (renaming_verdict (unnamed c.args.problem.now) (unnamed c.args.target.now) images)) c.args.chosen.now c.args.rest.now c.loop-place.place c.as_slice.result.now c.as_slice-in-loop-place.result.now c.in-Some.images.items
    c.loop-place-test.true (c.as_slice.ensures.value ∙ c.extended-more.ensures) f (rest-size c.args.rest.now c.as_slice-in-loop-place.result.now c.loop-place.place c.loop-place-test.true f) c.loop-place.invariant c.in-Some.ensures

pub loop-place-preserved : goal.loop-place-preserved
loop-place-preserved t c =
    let f = c.as_slice-in-loop-place.ensures.value ∙ c.without-others.ensures in
    none-more (λ images. is_yes (renaming_verdict (unnamed c.args.problem.now) (unnamed c.args.target.now) images)) c.args.chosen.now c.args.rest.now c.loop-place.place c.as_slice.result.now c.as_slice-in-loop-place.result.now
    c.loop-place-test.true (c.as_slice.ensures.value ∙ c.extended-more.ensures) f (rest-size c.args.rest.now c.as_slice-in-loop-place.result.now c.loop-place.place c.loop-place-test.true f) c.loop-place.invariant c.in-None.ensures

pub returns : goal.returns
returns t c =
    none-at_all (λ images. is_yes (renaming_verdict (unnamed c.args.problem.now) (unnamed c.args.target.now) images)) c.args.chosen.now c.args.rest.now c.loop-place.place c.loop-place-test.false
    (λ z. false≢true (c.if-is_empty.ensures ∙ ap (λ n. eqb n 0) z)) c.loop-place.invariant

pub returns-then-loses : goal.returns-then-loses
returns-then-loses t c =
    none-of (λ images. is_yes (renaming_verdict (unnamed c.args.problem.now) (unnamed c.args.target.now) images)) c.args.chosen.now (orders (length c.args.rest.now) c.args.rest.now)
    (lost-becomes (unnamed c.args.problem.now) (unnamed c.args.target.now) c.args.chosen.now (sym c.loses.ensures ∙ c.if-loses.true))
