use Rattle.std.proofs.Common.{◌<◌, ◌≤◌, length, ◌∙◌, subst}
use Rattle.std.proofs.lemmas.Result.{IfOk-weaker}
use Rattle.re_labels.specs.declared.constraint_table.TheConstants.{MAX_CONFIGURATIONS}
use Rattle.re_closure.proofs.BelowLines.{below_is}
use Rattle.re_closure.specs.Sides.{family_of}
use Rattle.re_closure.proofs.constraints.below_of.Goals as goal

pub returns-clause-below : goal.returns-clause-below
returns-clause-below c =
    let family = family_of c.args.top.now.degree c.args.lines.now c.args.sets.now in
    let same = below_is family c.requires.family c.args.top.now c.as_slice.result.now c.requires.top (c.as_slice.ensures.value ∙ c.in-Ok.ensures) in
    IfOk-weaker c.allowed.result _ _ (λ all e. e ∙ (λ i. record { degree = c.args.top.now.degree; configs = same i })) c.allowed.ensures.allowed

pub returns-clause-within : goal.returns-clause-within
returns-clause-within c =
    let family = family_of c.args.top.now.degree c.args.lines.now c.args.sets.now in
    let same = below_is family c.requires.family c.args.top.now c.as_slice.result.now c.requires.top (c.as_slice.ensures.value ∙ c.in-Ok.ensures) in
    IfOk-weaker c.allowed.result _ _ (λ all few. subst (λ l. length l ≤ MAX_CONFIGURATIONS) same few) c.allowed.ensures.within

pub returns-clause-many : goal.returns-clause-many
returns-clause-many c =
    let family = family_of c.args.top.now.degree c.args.lines.now c.args.sets.now in
    let same = below_is family c.requires.family c.args.top.now c.as_slice.result.now c.requires.top (c.as_slice.ensures.value ∙ c.in-Ok.ensures) in
    λ e. subst (λ l. MAX_CONFIGURATIONS < length l) same (c.allowed.ensures.many e)
