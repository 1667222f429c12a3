-- Layers of which there are of the order of log N, found in as many rounds, from colours.
use Rattle.std.proofs.Common.{◌≡◌, ℕ, suc, ◌+◌, ◌*◌, ◌^◌, ◌≤◌, false, List, refl, arith}
use Rattle.std.proofs.Math.Nat.{one-le-pow, pow-succ'}
use Rattle.re_layers.specs.Laws.{ColoursLaw, LayersLaw}
use Rattle.re_layers.specs.Layers.{IsColoured, IsLayered}
use Rattle.re_layers.specs.Networks.{IsForest, IsLocal, Network}
use Rattle.re_layers.proofs.Growth.{all_dead}
use Rattle.re_layers.proofs.LastSteps.{layer, path}
use Rattle.re_layers.proofs.Layered.{coloured_far, coloured_timed, layered}
use Rattle.re_layers.proofs.LocalRounds.{layer_local, path_local}
use Rattle.re_layers.proofs.Rounds.{Plan, alive, shrinks}

-- how many steps there are: so many rounds, of so many steps
abbrev steps : ℕ → ℕ → ℕ → ℕ
steps l C b = suc b * suc (2 * l + 1) * (C + 2)

-- and how many hops, for each bit of the number of nodes
abbrev constant : ℕ → ℕ → ℕ → ℕ
constant l C K = K + suc (suc (2 * l + 1) * (C + 2)) * suc (2 * (2 * l + 1))

products : (K b c W h : ℕ) → (K * b + suc (suc b * c * W) * suc h ≤ (K + suc (c * W) * suc h) * suc b) × (suc b * c * W ≤ (K + suc (c * W) * suc h) * suc b)
products K b c W h = (omega arith, omega arith)

module _ (a q l C K N b : ℕ) (enough : N ≤ 2 ^ b) (colour : Network → ℕ → ℕ) (local : IsLocal (K * b) colour)
    (coloured : (G : Network) → IsForest a q N G → IsColoured (2 * l + 1 + (2 * l + 1)) C G (colour G)) where
  abbrev plan : Plan
  plan = record { colour = colour; colours = C; inner = 2 * l + 1 }

  all_gone : (G : Network) → IsForest a q N G → (v : ℕ) → alive plan G (steps l C b) v ≡ false
  all_gone G is v =
      all_dead is (shrinks plan G (omega arith) (λ v. (coloured G is).below v)) (omega arith) (suc b) (omega arith)
      (rw (pow-succ' 2 b) (let some : 1 ≤ 2 ^ b = one-le-pow b 2 (omega arith) in omega (arith, enough, some))) v

  found : (layer : Network → ℕ → ℕ) × (path : Network → ℕ → List ℕ) × IsLocal (constant l C K * suc b) layer × IsLocal (constant l C K * suc b) path
      × ((G : Network) → IsForest a q N G → IsLayered G l (constant l C K * suc b) (layer G) (path G))
  found =
      let (hops, few) = products K b (suc (2 * l + 1)) (C + 2) (2 * (2 * l + 1)) in (
        layer plan (steps l C b),
        path plan (steps l C b),
        layer_local plan (K * b) local (steps l C b) (constant l C K * suc b) hops,
        path_local plan (K * b) local (steps l C b) (constant l C K * suc b) hops,
        λ G is. layered plan G is (coloured_far plan G (coloured G is)) (coloured_timed plan G (coloured G is)) (steps l C b) l refl (all_gone G is) (constant l C K * suc b) few,
      )

-- layers from colours
pub layers : ColoursLaw → LayersLaw
layers colours a q l =
    let (C, K, find) = colours a q (2 * l + 1 + (2 * l + 1)) in
    (constant l C K, λ N b enough. let (colour, local, coloured) = find N b enough in found a q l C K N b enough colour local coloured)
