use Rattle.std.proofs.Common.{◌≡◌, ◌++◌, take}
use Rattle.std.specs.List.{flat_map}
use Rattle.re_texts.specs.SetTexts.{class_text}
use Rattle.re_texts.proofs.diagrams.push_classes.Given as goal

abbrev pub invariant-loop-class : goal.invariant-loop-class
invariant-loop-class l = l.text.items ≡ l.fn.text.items ++ flat_map (class_text l.names) (take l.class-index l.classes)
