use Rattle.std.proofs.Common.{◌≡◌, ◌<◌, None, Some, length, ap, arith, sym, subst, ◌∙◌}
use Rattle.std.specs.Prelude.{MatchOption}
use Rattle.std.specs.List.{AllByRecursion}
use Rattle.re_labels.proofs.Membership.{AllByRecursion-from_In, length-count_from}
use Rattle.re_labels.specs.Lists.{count_from}
use Rattle.re_changes.proofs.OneChange.{below-counted}
use Rattle.re_search.proofs.WaysBack.{not-renaming, renaming-is}
use Rattle.re_search.proofs.returning.renaming_to.Goals as goal

pub first_renaming-requires-clause-count : goal.first_renaming-requires-clause-count
first_renaming-requires-clause-count c =
    let all = ap length (c.as_slice.ensures.value ∙ c.all_labels.ensures) in
    let names = ap length c.names.ensures.names in
    omega (arith, length-count_from 0 c.len-labels.result, c.len-labels.ensures.len)

pub first_renaming-requires-clause-rest : goal.first_renaming-requires-clause-rest
first_renaming-requires-clause-rest c =
    let names = ap length c.names-2.ensures.names in
    let same = c.if-labels-len.false in
    let size = c.len.ensures.len in
    subst (AllByRecursion (λ image. image < length c.args.target.now.names)) (sym (c.as_slice.ensures.value ∙ c.all_labels.ensures))
    (AllByRecursion-from_In (λ image. image < length c.args.target.now.names) (count_from 0 c.len-labels.result) (λ image i. let l = below-counted c.len-labels.result image i in omega arith))

pub returns : goal.returns
returns c =
    let labels : c.len-labels.result ≡ length c.args.problem.now.names = c.len-labels.ensures.len ∙ ap length c.names.ensures.names in
    let others : c.len.result ≡ length c.args.target.now.names = c.len.ensures.len ∙ ap length c.names-2.ensures.names in
    let same = c.if-labels-len.false in
    let few = c.if-labels-gt8.false in
    subst (λ o. MatchOption c.first_renaming.result (o ≡ None) (λ images. o ≡ Some images.items))
    (renaming-is c.args.problem.now c.args.target.now c.as_slice.result.now (c.as_slice.ensures.value ∙ c.all_labels.ensures ∙ ap (count_from 0) labels) (omega arith) (omega arith)) c.first_renaming.ensures

pub returns-then-not-may_become : goal.returns-then-not-may_become
returns-then-not-may_become c = not-renaming c.args.problem.now c.args.target.now (sym c.may_become.ensures ∙ c.if-not-may_become.true)
