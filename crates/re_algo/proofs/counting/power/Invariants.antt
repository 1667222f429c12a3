use Rattle.std.proofs.Common.{◌≡◌, ◌≤◌, ◌^◌}
use Rattle.re_algo.specs.declared.counting.TheConstants.{MAX_VIEWS}
use Rattle.re_algo.proofs.counting.power.Given as goal

abbrev pub invariant-loop : goal.invariant-loop
invariant-loop l = (l.done ≡ l.base ^ l.counter) × (l.done ≤ MAX_VIEWS)
