use Rattle.std.proofs.Common.{◌≡◌, ◌++◌, take}
use Rattle.re_labels.proofs.drawing.without.Given as goal

abbrev pub invariant-loop-before : goal.invariant-loop-before
invariant-loop-before l = l.rest.items ≡ take l.before-index l.before-items

abbrev pub invariant-loop-after : goal.invariant-loop-after
invariant-loop-after l = l.rest.items ≡ l.initial.rest.items ++ take l.after-index l.after-items
