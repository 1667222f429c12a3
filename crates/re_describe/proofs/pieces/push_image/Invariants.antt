use Rattle.std.proofs.Common.{◌≡◌, ◌++◌, drop}
use Rattle.re_describe.specs.Pieces.{image_text}
use Rattle.re_describe.proofs.pieces.push_image.Given as goal

abbrev pub invariant-loop-label : goal.invariant-loop-label
invariant-loop-label l = l.text.items ++ image_text l.names l.index (drop l.label-index l.labels) ≡ l.fn.text.items ++ image_text l.names l.index l.labels
