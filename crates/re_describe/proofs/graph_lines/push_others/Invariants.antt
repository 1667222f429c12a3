use Rattle.std.proofs.Common.{◌≡◌, ◌++◌, drop}
use Rattle.re_describe.specs.GraphLines.{other_ends}
use Rattle.re_describe.proofs.graph_lines.push_others.Given as goal

abbrev pub invariant-loop-other : goal.invariant-loop-other
invariant-loop-other l = l.text.items ++ other_ends (drop l.other-index l.ends) l.here ≡ l.fn.text.items ++ other_ends l.ends l.here
