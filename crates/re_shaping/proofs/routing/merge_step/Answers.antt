use Rattle.re_shaping.proofs.RouteSteps.{step_made}
use Rattle.re_shaping.proofs.routing.merge_step.Goals as goal

pub returns : goal.returns
returns c =
    step_made c.args.merge c.args.before.now c.args.stop c.as_slice.result.now c.in-Ok.step c.in_ok-sent.field-0 c.as_slice.ensures.value c.in-Ok.ensures.step c.in-Ok.ensures.none
    c.in_ok-sent.ensures
