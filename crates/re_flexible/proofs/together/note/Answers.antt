use Rattle.std.proofs.Common.{◌<◌, ap, arith, get_or, inl, inr, length, set}
use Rattle.std.proofs.lemmas.List.Elements.{Contains-get_or}
use Rattle.re_labels.proofs.Membership.{AllByRecursion-contains}
use Rattle.re_labels.specs.declared.TheConstants.{MAX_LABELS}
use Rattle.re_labels.proofs.Placing.{read_at}
use Rattle.re_flexible.proofs.Standing.{noted_more}
use Rattle.re_flexible.proofs.together.note.Goals as goal

pub loop-place-preserved : goal.loop-place-preserved
loop-place-preserved c =
    let label : get_or c.args.labels.now c.loop-place.place 0 < MAX_LABELS = AllByRecursion-contains (λ x. x < MAX_LABELS) c.args.labels.now (get_or c.args.labels.now c.loop-place.place 0) c.requires.below
    (Contains-get_or c.args.labels.now c.loop-place.place 0 c.loop-place-test.true) in
    let low : get_or c.args.labels.now c.loop-place.place 0 < length c.loop-place.table = (let same = c.loop-place.auto.table in let count = c.requires.count in omega (arith, label, same, count)) in
    noted_more c.args.table.now c.loop-place.table _ c.args.labels.now c.index-table-label.result c.others.result c.loop-place.place low c.loop-place.invariant
    (read_at c.loop-place.table (get_or c.args.labels.now c.loop-place.place 0) c.index-table-label.result low c.index-table-label.is)
    (ap (set c.loop-place.table (get_or c.args.labels.now c.loop-place.place 0)) c.union.ensures) c.others.ensures

pub returns : goal.returns
returns c = λ x y. (
  λ held. elim ((c.loop-place.invariant x y).0 held) [
    | inl old ↦ inl old
    | inr pair ↦ (let (i, j, low, far, apart, first, second) = pair in inr (i, j, (let most = c.loop-place.auto.place-end in omega (arith, low, most)), far, apart, first, second))
  ],
  λ either. (c.loop-place.invariant x y).1 (elim either [
    | inl old ↦ inl old
    | inr pair ↦ (let (i, j, low, far, apart, first, second) = pair in inr (i, j, (let past = c.loop-place-test.false in omega (arith, low, past)), far, apart, first, second))
  ]),
)
