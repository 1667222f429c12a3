use Rattle.std.proofs.Common.{◌≡◌, length}
use Rattle.re_shaping.specs.Colours.{colours_by}
use Rattle.re_shaping.specs.declared.colours.TheConstants.{FIRST}
use Rattle.re_shaping.proofs.colours.alike.Given as goal

abbrev pub invariant-loop-label : goal.invariant-loop-label
invariant-loop-label l = record {
  colours : l.held.items ≡ colours_by (λ label. FIRST) l._label;
  count : length l.held.items ≡ l._label;
}
