use Rattle.std.proofs.Common.{◌≡◌, ◌++◌, drop, true}
use Rattle.re_describe.specs.Steps.{meanings_text}
use Rattle.re_describe.proofs.steps.push_meanings.Given as goal

abbrev pub invariant-loop-one : goal.invariant-loop-one
invariant-loop-one l = l.text.items ++ meanings_text l.names l.index l.label l.first (drop l.one-index l.meant) ≡ l.fn.text.items ++ meanings_text l.names l.index l.label true l.meant
