-- The labels of a node by port.
use Rattle.std.proofs.Common.{◌≡◌, ℕ, Bool, true, false, cond, leb, ◌&&◌, List, length, Some, None}
use Rattle.re_labels.specs.PortLabels.{port_labels}

pub port_labels-same : (x y : List ℕ) → Some x ≡ port_labels y → x ≡ y
port_labels-same x y e = go (leb 2 (length y) && leb (length y) 6) e
  where
    go : (b : Bool) → Some x ≡ cond b (Some y) None → x ≡ y
    go true h = cc
    go false h = cc
