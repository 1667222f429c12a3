use Rattle.std.specs.List.{AllByRecursion}
use Rattle.re_given_words.specs.Asking.{IsBad}
use Rattle.re_given_words.proofs.asking.bad_of.Given as goal

abbrev pub invariant-loop-config : goal.invariant-loop-config
invariant-loop-config l = AllByRecursion (IsBad l.passive l.labels) l.bad.items
