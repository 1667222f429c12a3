-- The laws of colours and layers of forests.
use Rattle.std.specs.Prelude.{ℕ, suc, ◌+◌, ◌*◌, ◌^◌, ◌≤◌, List}
use Rattle.re_layers.specs.Layers.{IsColoured, IsLayered}
use Rattle.re_layers.specs.Networks.{IsForest, IsLocal, Network}
use Rattle.re_layers.specs.Towers.{tower}

-- constantly many colours that differ within d hops are found in the order of log N rounds
abbrev pub ColoursLaw : Type 0
ColoursLaw = (a p d : ℕ) → (C : ℕ) × (K : ℕ) × ((N b : ℕ) → N ≤ 2 ^ b →
    (colour : Network → ℕ → ℕ) × IsLocal (K * b) colour × ((G : Network) → IsForest a p N G → IsColoured d C G (colour G)))

-- constantly many colours that differ within d hops are found in the order of log* N rounds: d for each two of a tower that is at least N
abbrev pub FarColoursLaw : Type 0
FarColoursLaw = (a p d : ℕ) → (C : ℕ) × (K : ℕ) × ((h N : ℕ) → N ≤ tower h →
    (colour : Network → ℕ → ℕ) × IsLocal (d * h + K) colour × ((G : Network) → IsForest a p N G → IsColoured d C G (colour G)))

-- layers of which there are of the order of log N are found in as many rounds
abbrev pub LayersLaw : Type 0
LayersLaw = (a p l : ℕ) → (K : ℕ) × ((N b : ℕ) → N ≤ 2 ^ b →
    (layer : Network → ℕ → ℕ) × (path : Network → ℕ → List ℕ) × IsLocal (K * suc b) layer × IsLocal (K * suc b) path
    × ((G : Network) → IsForest a p N G → IsLayered G l (K * suc b) (layer G) (path G)))

-- on paths constantly many layers are found in the order of log* N rounds
abbrev pub PathLayersLaw : Type 0
PathLayersLaw = (l : ℕ) → (M : ℕ) × (K : ℕ) × ((h N : ℕ) → N ≤ tower h →
    (layer : Network → ℕ → ℕ) × (path : Network → ℕ → List ℕ) × IsLocal ((4 * l + 2) * h + K) layer × IsLocal ((4 * l + 2) * h + K) path
    × ((G : Network) → IsForest 2 2 N G → IsLayered G l M (layer G) (path G)))
