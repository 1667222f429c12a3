use Rattle.std.proofs.Common.{◌≡◌, length}
use Rattle.re_shaping.specs.Colours.{colours_by, next_colour}
use Rattle.re_shaping.proofs.colours.Colours.next.Given as goal

abbrev pub invariant-loop-label : goal.invariant-loop-label
invariant-loop-label l = record {
  colours : l.held.items ≡ colours_by (next_colour l.problem l.self) l.label;
  count : length l.held.items ≡ l.label;
}
