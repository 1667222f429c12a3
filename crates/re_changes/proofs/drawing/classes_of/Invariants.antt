use Rattle.std.proofs.Common.{◌≡◌, length, map, take}
use Rattle.re_changes.specs.Classes.{class_of, strong_by}
use Rattle.re_changes.proofs.drawing.classes_of.Given as goal

abbrev pub invariant-loop-label : goal.invariant-loop-label
invariant-loop-label l = l.classes.items ≡ map (class_of (strong_by l.ups) (length l.ups)) (take l.label-index l.least)
