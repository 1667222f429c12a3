use Rattle.std.proofs.Common.{◌≡◌, ◌+◌, [], ◌∷◌, ◌++◌, ◌∙◌, sym, ap, arith, length, length-append}
use Rattle.re_choice.proofs.Beginning.{asked_length, asked_none, asked_some}
use Rattle.re_labels.specs.Rows.{singles}
use Rattle.re_labels.proofs.Membership.{length-map'}
use Rattle.re_choice.proofs.choice.is_begun.Goals as goal

pub allows-requires : goal.allows-requires
allows-requires c =
    let is : c.as_slice.result.now ≡ singles c.args.drawn.now ++ c.args.others.now = c.as_slice.ensures.value ∙ c.fixed-sets.ensures in
    let count : length c.as_slice.result.now ≡ length c.args.drawn.now + length c.args.others.now =
    ap length is ∙ length-append (singles c.args.drawn.now) c.args.others.now ∙ ap (λ n. n + length c.args.others.now) (length-map' (λ x. x ∷ []) c.args.drawn.now) in
    asked_length c.args.constraint.now c.args.drawn.now c.args.others.now c.as_slice.result.now is (omega (arith, count, c.requires.degree, c.degree-degree.ensures.constraint.least)) (omega (arith, count, c.requires.degree, c.degree-degree.ensures.constraint.most))
    c.requires.below c.requires.sets c.in-Some.row (sym c.in-Some.is ∙ c.from_sets.ensures)
    ∙ count ∙ c.requires.degree

pub returns-in-Some : goal.returns-in-Some
returns-in-Some c =
    let is : c.as_slice.result.now ≡ singles c.args.drawn.now ++ c.args.others.now = c.as_slice.ensures.value ∙ c.fixed-sets.ensures in
    let count : length c.as_slice.result.now ≡ length c.args.drawn.now + length c.args.others.now =
    ap length is ∙ length-append (singles c.args.drawn.now) c.args.others.now ∙ ap (λ n. n + length c.args.others.now) (length-map' (λ x. x ∷ []) c.args.drawn.now) in
    c.allows.ensures ∙ asked_some c.args.constraint.now c.args.drawn.now c.args.others.now c.as_slice.result.now is (omega (arith, count, c.requires.degree, c.degree-degree.ensures.constraint.least)) (omega (arith, count, c.requires.degree, c.degree-degree.ensures.constraint.most))
    c.requires.below c.requires.sets c.in-Some.row (sym c.in-Some.is ∙ c.from_sets.ensures)

pub returns-in-None : goal.returns-in-None
returns-in-None c =
    let is : c.as_slice.result.now ≡ singles c.args.drawn.now ++ c.args.others.now = c.as_slice.ensures.value ∙ c.fixed-sets.ensures in
    let count : length c.as_slice.result.now ≡ length c.args.drawn.now + length c.args.others.now =
    ap length is ∙ length-append (singles c.args.drawn.now) c.args.others.now ∙ ap (λ n. n + length c.args.others.now) (length-map' (λ x. x ∷ []) c.args.drawn.now) in
    asked_none c.args.constraint.now c.args.drawn.now c.args.others.now c.as_slice.result.now is (omega (arith, count, c.requires.degree, c.degree-degree.ensures.constraint.least)) (omega (arith, count, c.requires.degree, c.degree-degree.ensures.constraint.most))
    (sym c.in-None.is ∙ c.from_sets.ensures)
