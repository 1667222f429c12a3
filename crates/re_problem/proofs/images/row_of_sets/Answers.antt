use Rattle.std.proofs.Common.{◌≡◌, ◌≤◌, ◌∙◌, List, ℕ, Some, None, ap, arith, length, map, subst, sym, take}
use Rattle.std.proofs.lemmas.List.{length-map, take_all}
use Rattle.re_labels.specs.Rows.{in_order, set_at}
use Rattle.re_problem.proofs.ImageRows.{sets_are}
use Rattle.re_problem.proofs.images.row_of_sets.Goals as goal
use Rattle.re_labels.proofs.SetsInOrder.{AreSets, row_is}
use Rattle.re_labels.specs.declared.TheConstants.{MAX_LABELS}

whole : (sets there : List (List ℕ)) (config labels : List ℕ) (index : ℕ) → labels ≡ config → there ≡ map (set_at sets) (take index labels) → length labels ≤ index → there ≡ map (set_at sets) config
whole sets there config labels index e f l = f ∙ ap (map (set_at sets)) (take_all index labels l ∙ e)

pub unreachable-requires : goal.unreachable-requires
unreachable-requires c =
    let is : c.as_slice.result.now ≡ map (set_at c.args.sets.now) c.args.config.now =
    c.as_slice.ensures.value ∙ whole c.args.sets.now c.loop-label.there.items c.args.config.now c.labels-label-items.result.now c.loop-label.label-index c.labels-label-items.ensures.labels c.loop-label.invariant c.loop-label-test.false in
    let count = ap length is in
    let two : 2 ≤ length c.as_slice.result.now = omega (arith, count, length-map c.args.config.now (set_at c.args.sets.now), c.labels-label-items.ensures.two) in
    let six : length c.as_slice.result.now ≤ 6 = omega (arith, count, length-map c.args.config.now (set_at c.args.sets.now), c.labels-label-items.ensures.six) in
    let none : None ≡ Some (in_order MAX_LABELS c.as_slice.result.now) = sym c.in-None.is ∙ c.from_sets.ensures
    ∙ row_is c.as_slice.result.now two six (subst AreSets (sym is) (sets_are c.args.sets.now c.args.config.now c.requires.sets c.requires.known)) in
    cc

pub returns : goal.returns
returns c =
    let is : c.as_slice.result.now ≡ map (set_at c.args.sets.now) c.args.config.now =
    c.as_slice.ensures.value ∙ whole c.args.sets.now c.loop-label.there.items c.args.config.now c.labels-label-items.result.now c.loop-label.label-index c.labels-label-items.ensures.labels c.loop-label.invariant c.loop-label-test.false in
    let count = ap length is in
    let two : 2 ≤ length c.as_slice.result.now = omega (arith, count, length-map c.args.config.now (set_at c.args.sets.now), c.labels-label-items.ensures.two) in
    let six : length c.as_slice.result.now ≤ 6 = omega (arith, count, length-map c.args.config.now (set_at c.args.sets.now), c.labels-label-items.ensures.six) in
    let some : Some c.in-Some.row ≡ Some (in_order MAX_LABELS c.as_slice.result.now) = sym c.in-Some.is ∙ c.from_sets.ensures
    ∙ row_is c.as_slice.result.now two six (subst AreSets (sym is) (sets_are c.args.sets.now c.args.config.now c.requires.sets c.requires.known)) in
    let one : c.in-Some.row ≡ in_order MAX_LABELS c.as_slice.result.now = cc in
    one ∙ ap (in_order MAX_LABELS) is
