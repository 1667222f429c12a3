use Rattle.std.proofs.Common.{◌≡◌, ◌<◌, ◌^◌, take}
use Rattle.re_problem.specs.Numerals.{continued}
use Rattle.re_problem.proofs.numerals.value_of.Given as goal

abbrev pub invariant-loop-digit : goal.invariant-loop-digit
invariant-loop-digit l = record {
  below : l.value < 10 ^ l.digit-index;
  value : l.value ≡ continued 0 (take l.digit-index l.digits);
}
