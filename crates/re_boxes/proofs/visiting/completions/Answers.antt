use Rattle.std.proofs.Common.{◌<◌, inl, inr, arith, subst, sym}
use Rattle.re_labels.proofs.Sets.{IsIn-union, IsIn-union_cases}
use Rattle.re_labels.specs.Sets.{IsIn}
use Rattle.re_boxes.proofs.Visits.{candidate-completes, completes-cases, next-completes}
use Rattle.re_boxes.specs.Rests.{Completes}
use Rattle.re_boxes.specs.Spans.{tree_of}
use Rattle.re_boxes.proofs.visiting.completions.Goals as goal
use Rattle.re_labels.specs.declared.TheConstants.{MAX_LABELS}

pub labels_of-requires : goal.labels_of-requires
labels_of-requires c = λ candidate held.
    let low = (candidate-completes (tree_of c.args.constraint.now c.args.nodes.now) c.degree-degree.ensures.constraint c.args.rest.now c.args.bound c.args.main c.args.candidates.now c.requires.visit c.requires.rest candidate held).0 in
    let few = c.requires.bound in
    let h : candidate.label < MAX_LABELS = omega (arith, low, few) in h

pub returns : goal.returns
returns c = λ x. (
  (λ i. elim (IsIn-union_cases c.labels_of.result c.next_labels.result x (subst (IsIn x) c.union.ensures i)) [
    | inl l ↦ let some = (c.labels_of.ensures x).0 l in
        subst (Completes c.args.constraint.now c.args.rest.now) some.2
        (candidate-completes (tree_of c.args.constraint.now c.args.nodes.now) c.degree-degree.ensures.constraint c.args.rest.now c.args.bound c.args.main c.args.candidates.now c.requires.visit c.requires.rest some.0 some.1).1
    | inr n ↦ let some = (c.next_labels.ensures x).0 n in
        next-completes (tree_of c.args.constraint.now c.args.nodes.now) c.degree-degree.ensures.constraint c.args.rest.now c.args.bound c.args.main c.args.candidates.now c.requires.visit c.requires.rest x some.0 some.1
  ]),
  (λ done. subst (IsIn x) (sym c.union.ensures) (IsIn-union c.labels_of.result c.next_labels.result x
      (elim (completes-cases (tree_of c.args.constraint.now c.args.nodes.now) c.degree-degree.ensures.constraint c.args.rest.now c.args.bound c.args.main c.args.candidates.now c.requires.visit c.requires.rest x done) [
        | inl some ↦ inl ((c.labels_of.ensures x).1 some)
        | inr some ↦ inr ((c.next_labels.ensures x).1 some)
      ]))),
)
