use Rattle.std.proofs.Common.{◌∙◌, ◌<◌, ℕ, ap, arith, get_or, length, subst}
use Rattle.std.specs.Prelude.{Contains}
use Rattle.std.proofs.lemmas.List.Elements.{Contains-get_or}
use Rattle.re_labels.proofs.Membership.{AllByRecursion-contains}
use Rattle.re_labels.specs.Sets.{within}
use Rattle.re_labels.specs.declared.TheConstants.{MAX_LABELS}
use Rattle.re_labels.proofs.Placing.{read_at}
use Rattle.re_flexible.proofs.Joining.{of_one_told}
use Rattle.re_flexible.proofs.together.is_of_one.Goals as goal

pub returns : goal.returns
returns c =
    let first : ℕ = get_or c.labels.result.now 0 0 in
    let some : 0 < length c.labels.result.now = (let two = c.labels.ensures.two in let same = ap length c.labels.ensures.labels in omega (arith, two, same)) in
    let own : Contains c.args.config.now first = subst (λ labels. Contains labels first) c.labels.ensures.labels (Contains-get_or c.labels.result.now 0 0 some) in
    let fits : first < MAX_LABELS = AllByRecursion-contains (λ x. x < MAX_LABELS) c.args.config.now first c.labels.ensures.config.below own in
    let low : first < length c.args.sets.now = (let count = c.requires.count in omega (arith, fits, count)) in
    of_one_told c.args.sets.now first c.args.config.now c.index-sets-first.result c.within.result c.requires.apart own (read_at c.args.sets.now first c.index-sets-first.result low c.index-sets-first.is)
    (c.within.ensures ∙ ap (λ s. within s c.index-sets-first.result) c.requires.labels)
