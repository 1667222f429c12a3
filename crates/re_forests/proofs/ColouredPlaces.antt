-- Where active nodes with a common passive neighbour have different colours, the colours of all places around each of them are those of a proper colouring.
use Rattle.std.proofs.Common.{◌≡◌, ℕ, zero, suc, pred, ◌-◌, ◌≤◌, ◌<◌, Bool, true, false, [], ◌∷◌, length, map, get_or, refl, sym, ◌∙◌, ap, subst, arith}
use Rattle.std.specs.Prelude.{Contains, if◌then◌else◌}
use Rattle.std.proofs.lemmas.List.{get_or-map, length-map}
use Rattle.std.proofs.lemmas.List.Elements.{Contains-get_or}
use Rattle.re_forests.proofs.ColourLists.{different_there, one_there}
use Rattle.re_forests.proofs.Filled.{port}
use Rattle.re_forests.proofs.Ports.{near_differ, port_at}
use Rattle.re_forests.proofs.Places.{IsGood, Place, beyond, colour_of, kind_of, next_of, next_past, next_real, places, real}
use Rattle.re_forests.proofs.SpareColours.{apart_spare, extended, spare}
use Rattle.re_forests.proofs.Views.{payload}
use Rattle.re_forests.specs.Colours.{AreApartAround}
use Rattle.re_given.specs.Unavoidable.{colouring}
use Rattle.re_labels.specs.Lists.{count_from}
use Rattle.re_layers.proofs.FreeNumbers.{free_most}
use Rattle.re_layers.specs.Networks.{IsForest, Network}
use Rattle.re_labels.specs.Constraints.{Constraint, Has}

-- the side of the colouring that nodes of a kind have
abbrev pub colour_side : ℕ → ℕ → ℕ → Bool → Constraint
colour_side a p c active = if active then (colouring a p c).active else (colouring a p c).passive

module _ (a p N n : ℕ) (colour : ℕ → ℕ) (G : Network) (forest : IsForest a p N G) (some_active : 0 < a) (enough : p ≤ suc n) (coloured : AreApartAround (suc n) G colour) where
  colour_low : (x : Place) → colour_of (spare n) colour G x < suc n
  colour_low (real v) = coloured.below v
  colour_low (beyond (real w) i) = let most = free_most n (extended n (map colour (G.near w)) (i - length (G.near w))) in omega (arith, most)
  colour_low (beyond (beyond u j) i) = let most = free_most n (extended n (colour_of (spare n) colour G u ∷ []) (pred i)) in omega (arith, most)

  -- the colours around a passive place differ
  differ : (x : Place) → IsGood a p G x → kind_of G x ≡ false → (j k : ℕ) → j < k → k ≤ n
      → colour_of (spare n) colour G (next_of G x j) ≡ colour_of (spare n) colour G (next_of G x k) → ⊥
  differ (real w) ok passive =
      apart_spare n (map colour (G.near w)) (λ k. colour_of (spare n) colour G (next_of G (real w) k)) low high apart
    where
      size : length (map colour (G.near w)) ≡ length (G.near w)
      size = length-map (G.near w) colour

      low : (k : ℕ) → k < length (map colour (G.near w)) → colour_of (spare n) colour G (next_of G (real w) k) ≡ get_or (map colour (G.near w)) k 0
      low k l =
          let less : k < length (G.near w) = omega (arith, size) in
          ap (colour_of (spare n) colour G) (next_real G w k less) ∙ sym (get_or-map colour (G.near w) k 0 0 less)

      high : (k : ℕ) → length (map colour (G.near w)) ≤ k → colour_of (spare n) colour G (next_of G (real w) k) ≡ spare n (map colour (G.near w)) (k - length (map colour (G.near w)))
      high k l =
          ap (colour_of (spare n) colour G) (next_past G w k (omega (arith, size))) ∙ ap (λ m. spare n (map colour (G.near w)) (k - m)) (sym size)

      held : (k : ℕ) → k < length (G.near w) → Contains (G.near w) (get_or (G.near w) k 0)
      held k l = Contains-get_or (G.near w) k 0 l

      apart : (j k : ℕ) → j < k → k < length (map colour (G.near w)) → get_or (map colour (G.near w)) j 0 ≡ get_or (map colour (G.near w)) k 0 → ⊥
      apart j k less l same =
          let there : k < length (G.near w) = omega (arith, size) in
          let before : j < length (G.near w) = omega arith in
          let other : get_or (G.near w) j 0 ≡ get_or (G.near w) k 0 → ⊥ = λ e.
          (let f : j ≡ k = sym (port_at (G.near w) j (near_differ G forest w) before) ∙ ap (port (G.near w)) e ∙ port_at (G.near w) k (near_differ G forest w) there in omega arith) in
          coloured.apart w (get_or (G.near w) j 0) (get_or (G.near w) k 0) passive (held j before) (held k there) other
          (sym (get_or-map colour (G.near w) j 0 0 before) ∙ same ∙ get_or-map colour (G.near w) k 0 0 there)
  differ (beyond u i) ok passive =
      apart_spare n (colour_of (spare n) colour G u ∷ []) (λ k. colour_of (spare n) colour G (next_of G (beyond u i) k)) low high (λ j k less l same. absurd (omega arith))
    where
      low : (k : ℕ) → k < 1 → colour_of (spare n) colour G (next_of G (beyond u i) k) ≡ get_or (colour_of (spare n) colour G u ∷ []) k 0
      low zero l = refl
      low (suc k) l = absurd (omega arith)

      high : (k : ℕ) → 1 ≤ k → colour_of (spare n) colour G (next_of G (beyond u i) k) ≡ spare n (colour_of (spare n) colour G u ∷ []) (k - 1)
      high zero l = absurd (omega arith)
      high (suc k) l = ap (spare n (colour_of (spare n) colour G u ∷ [])) (omega arith)

  pub places_around : (x : Place) → IsGood a p G x → Has (colour_side a p (suc n) (kind_of G x)) (map (payload (places a p (colour_of (spare n) colour G) G) x) (count_from 0 (if kind_of G x then a else p)))
  places_around x ok = by (kind_of G x) refl
    where
      shows : (b : Bool) → kind_of G x ≡ b → (k : ℕ) → payload (places a p (colour_of (spare n) colour G) G) x k ≡ (if b then colour_of (spare n) colour G x else colour_of (spare n) colour G (next_of G x k))
      shows b e k = ap (λ (b : Bool). if b then colour_of (spare n) colour G x else colour_of (spare n) colour G (next_of G x k)) e

      by : (b : Bool) → kind_of G x ≡ b → Has (colour_side a p (suc n) b) (map (payload (places a p (colour_of (spare n) colour G) G) x) (count_from 0 (if b then a else p)))
      by true e = one_there a p (suc n) (colour_of (spare n) colour G x) (payload (places a p (colour_of (spare n) colour G) G) x) some_active (colour_low x) (shows true e)
      by false e =
          different_there a p (suc n) (payload (places a p (colour_of (spare n) colour G) G) x)
          (λ k l. subst (λ m. m < suc n) (sym (shows false e k)) (colour_low (next_of G x k)))
          (λ j k less l same. differ x ok e j k less (omega arith) (sym (shows false e j) ∙ same ∙ shows false e k))
