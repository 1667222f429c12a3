use Rattle.std.proofs.Common.{option_map}
use Rattle.std.proofs.lemmas.Result.{IfOk-weaker}
use Rattle.re_explore.proofs.Joining.{goes_by, goes_further}
use Rattle.re_explore.specs.Evidence.{found_part}
use Rattle.re_explore.proofs.evidence.with_bounds.Goals as goal

pub returns-clause-goes_on : goal.returns-clause-goes_on
returns-clause-goes_on c =
    let before = goes_by c.args.problem.now c.args.text.items (found_part (option_map (λ p. p.items) c.in_ok-lower.lower)) c.in_ok-text.text.items c.in_ok-text.ensures.joins in
    IfOk-weaker c.with_part-2.result _ _
    (λ longer joins. goes_further c.args.problem.now c.args.text.items c.in_ok-text.text.items longer.items before
    (goes_by c.args.problem.now c.in_ok-text.text.items (found_part (option_map (λ p. p.items) c.in_ok-upper.upper)) longer.items joins)) c.with_part-2.ensures.joins
