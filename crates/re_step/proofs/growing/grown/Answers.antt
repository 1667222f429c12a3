use Rattle.std.proofs.Common.{◌≡◌, ◌∙◌, ap, sym, subst, arith, length, Some, None}
use Rattle.re_labels.specs.Rows.{IsUnder, in_order, row_of}
use Rattle.re_step.proofs.Growth.{grown_dominates, grown_maximal}
use Rattle.re_boxes.proofs.RowsOfSets.{AreSets-more, made}
use Rattle.re_step.proofs.growing.grown.Goals as goal
use Rattle.re_labels.specs.declared.TheConstants.{MAX_LABELS}

pub unreachable-requires : goal.unreachable-requires
unreachable-requires c =
    let all = c.grown_before-all.result.items in
    let grown = c.grown_before-all.ensures.grown in
    let count : length all ≡ c.args.constraint.now.degree = grown.good.count in
    let some : None ≡ Some (in_order MAX_LABELS all) = sym c.in-None.is ∙ made all c.from_sets.result (omega (arith, count, c.degree-degree.ensures.constraint.least)) (omega (arith, count, c.degree-degree.ensures.constraint.most))
    (AreSets-more c.args.strength.now.labels MAX_LABELS c.args.strength.now.few all grown.are_sets) (c.from_sets.ensures ∙ ap (row_of MAX_LABELS) c.as_slice.ensures.value) in
    cc

pub returns-clause-maximal : goal.returns-clause-maximal
returns-clause-maximal c =
    let all = c.grown_before-all.result.items in
    let grown = c.grown_before-all.ensures.grown in
    let count : length all ≡ c.args.constraint.now.degree = grown.good.count in
    let some : Some c.in-Some.row ≡ Some (in_order MAX_LABELS all) = sym c.in-Some.is ∙ made all c.from_sets.result (omega (arith, count, c.degree-degree.ensures.constraint.least)) (omega (arith, count, c.degree-degree.ensures.constraint.most))
    (AreSets-more c.args.strength.now.labels MAX_LABELS c.args.strength.now.few all grown.are_sets) (c.from_sets.ensures ∙ ap (row_of MAX_LABELS) c.as_slice.ensures.value) in
    let same : c.in-Some.row ≡ in_order MAX_LABELS all = cc in
    let even : length all ≡ length c.args.sets.now = count ∙ sym c.requires.good.count in
    grown_maximal c.args.constraint.now c.args.strength.now.labels c.args.strength.now.few all grown.good grown.are_sets
    (λ i x b below good. c.grown_before-all.ensures.tried i x (omega (arith, b, even)) below good) c.in-Some.row same

pub returns-clause-dominates : goal.returns-clause-dominates
returns-clause-dominates c =
    let all = c.grown_before-all.result.items in
    let grown = c.grown_before-all.ensures.grown in
    let count : length all ≡ c.args.constraint.now.degree = grown.good.count in
    let some : Some c.in-Some.row ≡ Some (in_order MAX_LABELS all) = sym c.in-Some.is ∙ made all c.from_sets.result (omega (arith, count, c.degree-degree.ensures.constraint.least)) (omega (arith, count, c.degree-degree.ensures.constraint.most))
    (AreSets-more c.args.strength.now.labels MAX_LABELS c.args.strength.now.few all grown.are_sets) (c.from_sets.ensures ∙ ap (row_of MAX_LABELS) c.as_slice.ensures.value) in
    let same : c.in-Some.row ≡ in_order MAX_LABELS all = cc in
    grown_dominates c.args.constraint.now c.args.strength.now.labels c.args.strength.now.few all grown.good grown.are_sets c.args.sets.now (subst (λ s. IsUnder s all) c.copied.ensures grown.under) c.in-Some.row same
