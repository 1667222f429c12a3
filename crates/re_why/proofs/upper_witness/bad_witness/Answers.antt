use Rattle.std.proofs.Common.{◌<◌, ◌∙◌, ap, length, map, not, sym}
use Rattle.std.specs.List.{AllByRecursion}
use Rattle.re_labels.specs.Rows.{set_at}
use Rattle.re_labels.proofs.Membership.{length-map'}
use Rattle.re_problem.specs.Steps.{set_for}
use Rattle.re_labels.specs.GoodRows.{is_good}
use Rattle.re_why.proofs.Holding.{found-count, found-held}
use Rattle.re_labels.specs.declared.TheConstants.{MAX_LABELS}
use Rattle.re_why.proofs.upper_witness.bad_witness.Goals as goal

pub sets_for-sets-requires : goal.sets_for-sets-requires
sets_for-sets-requires c =
    found-held (AllByRecursion (λ label. label < length c.args.entries.now)) (λ config. not (is_good c.args.passive.now (map (set_at c.as_slice.result.now) config))) c.args.active.now c.in-Some.config c.in-Some.ensures c.requires.known

pub first_bad_choice-requires : goal.first_bad_choice-requires
first_bad_choice-requires c =
    ap length (c.as_slice-2.ensures.value ∙ c.sets_for-sets.ensures) ∙ length-map' (set_for c.args.entries.now) c.in-Some.config
    ∙ found-count MAX_LABELS (λ config. not (is_good c.args.passive.now (map (set_at c.as_slice.result.now) config))) c.args.active.now c.in-Some.config c.in-Some.config c.degree-degree.ensures.constraint c.in-Some.ensures ∙ c.requires.degree
