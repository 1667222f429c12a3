-- The tests of a map by rows.
use Rattle.std.proofs.Common.{◌≡◌, ℕ, ◌+◌, ◌-◌, ◌*◌, Some, List, take, drop, sym, ap, ◌∙◌, arith}
use Rattle.re_labels.specs.PortLabels.{port_labels}
use Rattle.re_bridge.specs.Bridges.{image_of}
use Rattle.re_labels.proofs.SamePorts.{port_labels-same}

pub image-is : (d : ℕ) (labels : List ℕ) (row : ℕ) (image : List ℕ) → port_labels (take (row * d + d - row * d) (drop (row * d) labels)) ≡ Some image → image ≡ image_of d labels row
image-is d labels row image e =
    port_labels-same image (take (row * d + d - row * d) (drop (row * d) labels)) (sym e) ∙ ap (λ m. take m (drop (row * d) labels)) (let z : row * d + d - row * d ≡ d = omega arith in z)
