use Rattle.std.proofs.Common.{◌≡◌, ◌↔◌, ◌∷◌, [], Contains, Some, subst, arith}
use Rattle.re_labels.specs.Sets.{IsIn}
use Rattle.re_labels.specs.Constraints.{Has}
use Rattle.re_step.specs.Completing.{IsRight}
use Rattle.re_step.proofs.completing.held_for.Goals as goal

pub returns : goal.returns
returns c =
    let one : c.in-Some.held.first ≡ c.args.first = omega (arith, c.if-held-first.false) in
    let two : c.in-Some.held.second ≡ c.args.second = omega (arith, c.if-held-second.false) in
    let right : IsRight c.args.constraint.now c.args.labels c.in-Some.held = c.requires.right c.in-Some.held (subst (λ l. Contains l (Some c.in-Some.held)) c.as_slice.ensures.value c.in-Some.ensures) in
    λ x below. subst (λ b. IsIn x c.in-Some.held.labels ↔ Has c.args.constraint.now (x ∷ c.args.first ∷ b ∷ [])) two
    (subst (λ a. IsIn x c.in-Some.held.labels ↔ Has c.args.constraint.now (x ∷ a ∷ c.in-Some.held.second ∷ [])) one (right x below))
