use Rattle.std.proofs.Common.{◌≡◌, ◌++◌, codes, flat_map, take}
use Rattle.std.specs.Io.{StartsWith}
use Rattle.re_texts.specs.SetTexts.{named_text}
use Rattle.re_texts.proofs.lines.push_others.Given as goal

abbrev pub invariant-loop-label : goal.invariant-loop-label
invariant-loop-label l = record {
  grown : StartsWith l.text.items l.fn.text.items;
  printed : l.text.items ≡ l.fn.text.items ++ flat_map (λ label. codes " " ++ named_text l.names label) (take l.label-index l.labels);
}
