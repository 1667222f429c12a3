use Rattle.re_step.proofs.WalkLemmas.{found_allowed}
use Rattle.std.proofs.Common.{rules, ◌≤◌, ◌<◌, ◌∙◌, length, refl, subst}
use Rattle.re_step.proofs.allowing.allowed.Goals as goal
use Rattle.re_labels.specs.declared.constraint_table.TheConstants.{MAX_CONFIGURATIONS}

pub returns-in_err-walk-clause-many : goal.returns-in_err-walk-clause-many
returns-in_err-walk-clause-many c = λ e.
    subst (λ l. MAX_CONFIGURATIONS < length l)
    (found_allowed c.args.constraint.now c.args.sets.now c.as_slice.result.now c.new-found.result.configs _ _ c.degree-degree.result c.args.constraint.now.degree _
    (c.as_slice.ensures.value ∙ c.in_ok-configs.ensures) c.new-found.ensures.empty refl c.degree-degree.ensures.degree refl refl)
    (c.walk.ensures.many (search (e, rules)))

pub returns-clause-allowed : goal.returns-clause-allowed
returns-clause-allowed c =
    let degree = c.walk.ensures.degree ∙ c.new-found.ensures.degree ∙ c.degree-degree.ensures.degree in
    let configs = found_allowed c.args.constraint.now c.args.sets.now c.as_slice.result.now c.new-found.result.configs c.walk.new.found.configs _ c.degree-degree.result c.args.constraint.now.degree _
    (c.as_slice.ensures.value ∙ c.in_ok-configs.ensures) c.new-found.ensures.empty refl c.degree-degree.ensures.degree refl c.in_ok-walk.ensures.found in
    λ i. record { degree = degree i; configs = configs i }

pub returns-clause-within : goal.returns-clause-within
returns-clause-within c =
    let configs = found_allowed c.args.constraint.now c.args.sets.now c.as_slice.result.now c.new-found.result.configs c.walk.new.found.configs _ c.degree-degree.result c.args.constraint.now.degree _
    (c.as_slice.ensures.value ∙ c.in_ok-configs.ensures) c.new-found.ensures.empty refl c.degree-degree.ensures.degree refl c.in_ok-walk.ensures.found in
    let most : length c.walk.new.found.configs ≤ MAX_CONFIGURATIONS = search rules in
    subst (λ l. length l ≤ MAX_CONFIGURATIONS) configs most
