use Rattle.std.proofs.Common.{◌≡◌, ◌++◌, drop}
use Rattle.std.specs.List.{flat_map}
use Rattle.re_describe.specs.Steps.{entry_line}
use Rattle.re_describe.proofs.steps.push_entries.Given as goal

abbrev pub invariant-loop-entry : goal.invariant-loop-entry
invariant-loop-entry l = l.text.items ++ flat_map (entry_line l.names l.index l.next l.next_index) (drop l.entry-index l.entries)
    ≡ l.fn.text.items ++ flat_map (entry_line l.names l.index l.next l.next_index) l.entries
