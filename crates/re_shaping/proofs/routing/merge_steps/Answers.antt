use Rattle.std.proofs.Common.{◌<◌, ◌++◌, [], ◌∷◌, length, ap, sym, ◌∙◌, arith}
use Rattle.re_shaping.specs.Routes.{steps_behind}
use Rattle.re_shaping.proofs.RouteSteps.{behind_first, opened}
use Rattle.re_shaping.proofs.routing.merge_steps.Goals as goal

pub returns : goal.returns
returns c =
    let before = c.args.before.now in
    let rest = c.remove-stop.new.self.items in
    let some : 0 < length c.args.stops.items = grind arith in
    behind_first before c.in-Some.step rest c.push.new.self.items c.push_along.new.steps.items (c.in_ok-push.ensures.items ∙ ap (λ l. l ++ c.in-Some.step ∷ []) c.new-steps.ensures.items)
    c.in_ok-push_along.ensures
    ∙ (λ i. steps_behind ((sym c.in-Some.is ∙ c.in_ok-step.ensures) i) (c.remove-stop.ensures.items i))
    ∙ opened c.args.merge before c.args.stops.items c.remove-stop.result some c.remove-stop.ensures.value
