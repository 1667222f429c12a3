-- What a node of a forest sees of the places around it is decided by what few hops show.
use Rattle.std.proofs.Common.{◌≡◌, ℕ, zero, suc, ◌+◌, ◌-◌, ◌≤◌, ◌<◌, Bool, not, List, [], ◌∷◌, length, map, get_or, refl, sym, ◌∙◌, ap, subst, arith}
use Rattle.std.specs.Prelude.{if◌then◌else◌}
use Rattle.std.proofs.lemmas.List.Elements.{Contains-get_or}
use Rattle.re_forests.proofs.Filled.{port}
use Rattle.re_forests.proofs.Places.{Place, back_past, back_real, beyond, by_port, colour_of, kind_of, next_past, next_real, places, real}
use Rattle.re_forests.proofs.Views.{Ported, child, child-alike, others-alike, view, view-alike}
use Rattle.re_layers.proofs.Locality.{same_fewer, same_near}
use Rattle.re_labels.proofs.Membership.{map-alike}
use Rattle.re_layers.specs.Networks.{AreSame, IsLocal, Network}
use Rattle.re_laws.specs.Trees.{others}

module _ {E : Type 0} (a p r : ℕ) (colour : Network → Place → E) (G H : Network)
    (own : (T v : ℕ) → r ≤ T → AreSame T G H v → colour G (real v) ≡ colour H (real v))
    (behind : (T v k : ℕ) → r ≤ T → AreSame (suc T) G H v → length (G.near v) ≤ k → colour G (beyond (real v) k) ≡ colour H (beyond (real v) k))
    (deep : (u : Place) (i j : ℕ) → colour G u ≡ colour H u → colour G (beyond u i) ≡ colour H (beyond u i) → colour G (beyond (beyond u i) (suc j)) ≡ colour H (beyond (beyond u i) (suc j))) where
  -- the graph of the places of a network
  abbrev graph : Network → Ported Place E
  graph F = places a p (colour F) F

  near_same : (T v : ℕ) → 0 < T → AreSame T G H v → G.near v ≡ H.near v
  near_same zero v some same = absurd (omega arith)
  near_same (suc T) v some same = same.1

  -- behind a port without a neighbour stands the same in both
  beyond_same : (t : ℕ) (u : Place) (i : ℕ) → kind_of G u ≡ kind_of H u → colour G u ≡ colour H u → colour G (beyond u i) ≡ colour H (beyond u i)
      → others 0 (view (graph G) t (beyond u i)) ≡ others 0 (view (graph H) t (beyond u i))
  beyond_same zero u i kind near far = refl
  beyond_same (suc t) u i kind near far =
      let turned : not (kind_of G u) ≡ not (kind_of H u) = ap not kind in
      others-alike (graph G) (graph H) t (beyond u i) (ap (λ (b : Bool). if b then a else p) turned) (λ j.
      child-alike (graph G) (graph H) (λ y. view (graph G) t y) (λ y. view (graph H) t y) (beyond u i) (beyond (beyond u i) (suc j)) (suc j) 0 refl refl refl refl turned far (deep u i j near far)
      (beyond_same t (beyond u i) (suc j) turned far (deep u i j near far)))

  -- a node sees the same in both where so many hops show the same
  pub real_same : (t T v : ℕ) → t + r < T → AreSame T G H v → view (graph G) t (real v) ≡ view (graph H) t (real v)
  real_same zero T v l same = refl
  real_same (suc t) zero v l same = absurd (omega arith)
  real_same (suc t) (suc T) v l same =
      view-alike (graph G) (graph H) t (real v) (ap (λ (b : Bool). if b then a else p) same.0)
      (λ k. by_port k (length (G.near v)) (near k (λ w at. real_same t T w (omega arith) at)) (far k))
    where
      ports : G.near v ≡ H.near v
      ports = same.1

      here : colour G (real v) ≡ colour H (real v)
      here = own (suc T) v (omega arith) same

      near : (k : ℕ) → ((w : ℕ) → AreSame T G H w → view (graph G) t (real w) ≡ view (graph H) t (real w)) → k < length (G.near v)
          → child (graph G) (λ y. view (graph G) t y) (real v) k ≡ child (graph H) (λ y. view (graph H) t y) (real v) k
      near k again low =
          let at : AreSame T G H (get_or (G.near v) k 0) = same_near G H T v (get_or (G.near v) k 0) same (Contains-get_or (G.near v) k 0 low) in
          let low' : k < length (H.near v) = subst (λ xs. k < length xs) ports low in
          child-alike (graph G) (graph H) (λ y. view (graph G) t y) (λ y. view (graph H) t y) (real v) (real (get_or (G.near v) k 0)) k (port (G.near (get_or (G.near v) k 0)) v)
          (back_real G v k low)
          (back_real H v k low' ∙ ap (λ xs. port (H.near (get_or xs k 0)) v) (sym ports) ∙ ap (λ xs. port xs v) (sym (near_same T (get_or (G.near v) k 0) (omega arith) at)))
          (next_real G v k low) (next_real H v k low' ∙ ap (λ xs. real (get_or xs k 0)) (sym ports))
          same.0 here (own T (get_or (G.near v) k 0) (omega arith) at) (ap (others (port (G.near (get_or (G.near v) k 0)) v)) (again (get_or (G.near v) k 0) at))

      far : (k : ℕ) → length (G.near v) ≤ k → child (graph G) (λ y. view (graph G) t y) (real v) k ≡ child (graph H) (λ y. view (graph H) t y) (real v) k
      far k past =
          let past' : length (H.near v) ≤ k = subst (λ xs. length xs ≤ k) ports past in
          let there : colour G (beyond (real v) k) ≡ colour H (beyond (real v) k) = behind T v k (omega arith) same past in
          child-alike (graph G) (graph H) (λ y. view (graph G) t y) (λ y. view (graph H) t y) (real v) (beyond (real v) k) k 0
          (back_past G v k past) (back_past H v k past') (next_past G v k past) (next_past H v k past') same.0 here there (beyond_same t (real v) k same.0 here there)

-- with spare colours where the nodes' own ones are local
pub coloured_same : {E : Type 0} (a p : ℕ) (spare : List E → ℕ → E) (r : ℕ) (colour : Network → ℕ → E) → IsLocal r colour → (G H : Network) (t T v : ℕ) → t + r < T → AreSame T G H v
    → view (places a p (colour_of spare (colour G) G) G) t (real v) ≡ view (places a p (colour_of spare (colour H) H) H) t (real v)
coloured_same {E} a p spare r colour local G H = real_same a p r (λ F. colour_of spare (colour F) F) G H own behind (λ u i j near far. ap (λ c. spare (c ∷ []) j) near)
  where
    own : (T v : ℕ) → r ≤ T → AreSame T G H v → colour G v ≡ colour H v
    own T v l same = local G H v (same_fewer G H r T v l same)

    behind : (T v k : ℕ) → r ≤ T → AreSame (suc T) G H v → length (G.near v) ≤ k
        → spare (map (colour G) (G.near v)) (k - length (G.near v)) ≡ spare (map (colour H) (H.near v)) (k - length (H.near v))
    behind T v k l same past =
        ap (λ xs. spare xs (k - length (G.near v))) (map-alike (colour G) (colour H) (G.near v) (λ w held. own T w l (same_near G H T v w same held)))
        ∙ ap (λ xs. spare (map (colour H) xs) (k - length xs)) same.1
