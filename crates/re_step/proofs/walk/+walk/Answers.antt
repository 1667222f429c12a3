use Rattle.re_step.proofs.WalkLemmas.{added_both, added_none, added_nothing, added_rests, counts_both, counts_on, counts_rests, all_below, less_by_one, longer_by_one, set_there}
use Rattle.std.proofs.Common.{rules, ◌≡◌, ◌<◌, ◌-◌, length, map, [], ◌∷◌, arith, refl, ◌∙◌, subst, sym}
use Rattle.std.specs.List.{AllByRecursion}
use Rattle.std.proofs.lemmas.Result.{on_ok_weaker}
use Rattle.re_step.proofs.walk.+walk.Goals as goal
use Rattle.re_labels.specs.declared.TheConstants.{MAX_LABELS}

pub walk-returns-in_err-walk_on-clause-many : goal.walk-returns-in_err-walk_on-clause-many
walk-returns-in_err-walk_on-clause-many t c = λ e.
    counts_on c.args.configs.now c.args.sets.now c.args.first.now c.args.size c.args.next c.args.count _ c.args.found.now.configs (search rules) (search rules) (c.walk_on.ensures.many (search (e, rules)))

pub walk-returns-then-count-eq0-clause-found : goal.walk-returns-then-count-eq0-clause-found
walk-returns-then-count-eq0-clause-found t c =
    added_none c.args.configs.now c.args.sets.now c.args.first.now c.args.size c.args.next c.args.count c.args.found.now.configs (search rules) (search rules) c.degree-ascends.ensures.constraint.ascends

pub walk-returns-clause-found : goal.walk-returns-clause-found
walk-returns-clause-found t c = on_ok_weaker c.walk.result
    (λ f. added_both c.args.configs.now c.args.sets.now c.args.first.now c.args.size c.args.next c.args.count c.args.found.now.configs c.walk_on.new.found.configs c.walk.new.found.configs
    (search rules) (search rules) (search rules) f)
    c.walk.ensures.found

pub walk-returns-clause-many : goal.walk-returns-clause-many
walk-returns-clause-many t c = λ e.
    counts_both c.args.configs.now c.args.sets.now c.args.first.now c.args.size c.args.next c.args.count _ c.args.found.now.configs c.walk_on.new.found.configs
    (search rules) (search rules) (search rules) (c.walk.ensures.many e)

pub walk_on-returns-then-size-eq2-clause-found : goal.walk_on-returns-then-size-eq2-clause-found
walk_on-returns-then-size-eq2-clause-found t c = on_ok_weaker c.push_last.result
    (λ f. added_rests c.args.configs.now c.args.sets.now c.args.first.now c.as_slice.result.now c.args.size 1 c.args.next c.args.count _ (map (λ y. y ∷ []) c.partners-labels.result) c.args.found.now.configs c.push_last.new.found.configs
    c.index-sets-next.result (search rules) (omega (arith, c.requires.places)) (set_there c.args.sets.now c.args.next c.index-sets-next.result (search rules) c.index-sets-next.is) c.partners-labels.ensures (c.as_slice.ensures.value ∙ c.extended-more.ensures) f)
    c.push_last.ensures.found

pub walk_on-returns-then-size-eq2-clause-many : goal.walk_on-returns-then-size-eq2-clause-many
walk_on-returns-then-size-eq2-clause-many t c = λ e.
    counts_rests c.args.configs.now c.args.sets.now c.args.first.now c.as_slice.result.now c.args.size 1 c.args.next c.args.count _ _ (map (λ y. y ∷ []) c.partners-labels.result) c.args.found.now.configs c.index-sets-next.result
    (search rules) (omega (arith, c.requires.places)) (set_there c.args.sets.now c.args.next c.index-sets-next.result (search rules) c.index-sets-next.is) c.partners-labels.ensures (c.as_slice.ensures.value ∙ c.extended-more.ensures) (c.push_last.ensures.many e)

pub walk_on-returns-then-is_empty-clause-found : goal.walk_on-returns-then-is_empty-clause-found
walk_on-returns-then-is_empty-clause-found t c =
    added_nothing c.args.configs.now c.args.sets.now c.args.first.now c.args.size c.args.next c.args.count c.in_ok-left.left.items c.args.found.now.configs c.index-sets-next.result
    c.degree-ascends.ensures.constraint.ascends (set_there c.args.sets.now c.args.next c.index-sets-next.result (search rules) c.index-sets-next.is) (search rules) (search rules)

pub walk_on-walk-requires : goal.walk_on-walk-requires
walk_on-walk-requires t c =
    let more = c.as_slice-3.ensures.value ∙ c.extended-more.ensures in
    let size = longer_by_one c.args.first.now c.as_slice-3.result.now c.args.next more in (
      search rules,
      (
        search rules,
        (
          omega (arith, size, c.requires.six, c.requires.two, c.if-size-eq2.false),
          (
            c.requires.few,
            (
              all_below (λ place. place < MAX_LABELS) c.args.first.now c.as_slice-3.result.now c.args.next more c.requires.below (omega (arith, c.requires.few, c.requires.places, c.requires.some)),
              (c.requires.places, (subst (AllByRecursion (λ config. length config ≡ c.args.size - 1)) (sym c.as_slice-2.ensures.value) (less_by_one c.args.size c.in_ok-left.left.items c.in_ok-left.ensures.alike), omega (arith, size, c.requires.fit, c.requires.two, c.if-size-eq2.false))),
            ),
          ),
        ),
      ),
    )

pub walk_on-returns-clause-found : goal.walk_on-returns-clause-found
walk_on-returns-clause-found t c = on_ok_weaker c.walk.result
    (λ f. added_rests c.args.configs.now c.args.sets.now c.args.first.now c.as_slice-3.result.now c.args.size (c.args.size - 1) c.args.next c.args.count c.args.count c.as_slice-2.result.now c.args.found.now.configs c.walk.new.found.configs
    c.index-sets-next.result refl refl (set_there c.args.sets.now c.args.next c.index-sets-next.result (search rules) c.index-sets-next.is) (search rules) (c.as_slice-3.ensures.value ∙ c.extended-more.ensures) f)
    c.walk.ensures.found

pub walk_on-returns-clause-many : goal.walk_on-returns-clause-many
walk_on-returns-clause-many t c = λ e.
    counts_rests c.args.configs.now c.args.sets.now c.args.first.now c.as_slice-3.result.now c.args.size (c.args.size - 1) c.args.next c.args.count c.args.count _ c.as_slice-2.result.now c.args.found.now.configs c.index-sets-next.result
    refl refl (set_there c.args.sets.now c.args.next c.index-sets-next.result (search rules) c.index-sets-next.is) (search rules) (c.as_slice-3.ensures.value ∙ c.extended-more.ensures) (c.walk.ensures.many e)
