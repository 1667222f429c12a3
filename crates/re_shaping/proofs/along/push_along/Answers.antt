use Rattle.std.proofs.Common.{◌++◌, ap, sym, ◌∙◌}
use Rattle.std.specs.Vec.Iter.{into_iter_items}
use Rattle.re_problem.specs.ProblemTexts.{last_or}
use Rattle.re_cert.specs.Bounds.{next_problems}
use Rattle.re_shaping.specs.Along.{steps_along}
use Rattle.re_shaping.proofs.PathSteps.{step_passed, step_taken}
use Rattle.re_shaping.proofs.along.push_along.Goals as goal

pub loop-stop-preserved-in-Continue-branch-2 : goal.loop-stop-preserved-in-Continue-branch-2
loop-stop-preserved-in-Continue-branch-2 c =
    let r = c.args.by_rows in
    let first = c.args.first.now in
    let there = c.args.steps.now.items in
    let steps = c.loop-stop.steps.items in
    step_taken r first c.end_of-before.result.now steps (there ++ steps_along r (last_or first (next_problems there)) c.args.path.items) c.in-Some.stop (into_iter_items c.next.new.self)
    (c.end_of-before.ensures ∙ (λ i. last_or first (next_problems (c.as_slice.ensures.value i))))
    (ap (λ l. steps ++ steps_along r (last_or first (next_problems steps)) l) (sym c.in-Some.ensures.steps.0) ∙ c.loop-stop.invariant)
    c.in-Some-next.step c.push.new.self.items (sym c.in_ok-next.ensures ∙ c.in-Some-next.is) c.in_ok-push.ensures.items

pub loop-stop-preserved : goal.loop-stop-preserved
loop-stop-preserved c =
    let r = c.args.by_rows in
    let first = c.args.first.now in
    let there = c.args.steps.now.items in
    let steps = c.loop-stop.steps.items in
    step_passed r first c.end_of-before.result.now steps (there ++ steps_along r (last_or first (next_problems there)) c.args.path.items) c.in-Some.stop (into_iter_items c.next.new.self)
    (c.end_of-before.ensures ∙ (λ i. last_or first (next_problems (c.as_slice.ensures.value i))))
    (ap (λ l. steps ++ steps_along r (last_or first (next_problems steps)) l) (sym c.in-Some.ensures.steps.0) ∙ c.loop-stop.invariant)
    (sym c.in_ok-next.ensures ∙ c.in_default.is)
