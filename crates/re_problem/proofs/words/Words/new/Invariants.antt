use Rattle.std.proofs.Common.{◌≡◌, length}
use Rattle.re_problem.specs.Printed.{AreWords}
use Rattle.re_problem.proofs.words.Words.new.Given as goal

abbrev pub invariant-loop-label : goal.invariant-loop-label
invariant-loop-label l = record {
  texts : length l.texts ≡ 128;
  counts : length l.counts ≡ 128;
  words : AreWords l.names l.label l.texts l.counts;
}
