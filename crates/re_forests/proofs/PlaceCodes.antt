-- Different numbers for the places of a forest.
use Rattle.std.proofs.Common.{◌≡◌, ℕ, zero, suc, ◌+◌, ◌*◌, ◌^◌, ◌≤◌, ◌<◌, Bool, true, false, List, ◌∷◌, length, get_or, sym, ◌∙◌, ap, ap₂, subst, arith, inl, inr}
use Rattle.std.specs.Prelude.{Contains, if◌then◌else◌}
use Rattle.std.proofs.Math.Nat.{pow-succ'}
use Rattle.std.proofs.lemmas.List.Elements.{Contains-get_or}
use Rattle.re_forests.proofs.OnceLists.{dropped, dropped_held}
use Rattle.re_forests.proofs.PlaceWalks.{ports, root, seen, size}
use Rattle.re_forests.proofs.Places.{IsGood, IsPorted-places, Place, back_of, beyond, by_port, kind_of, next_of, next_past, next_real, real}
use Rattle.re_labels.proofs.Membership.{count_from_range, Contains-cases, Contains-flat_map_cases, Contains-none}
use Rattle.re_layers.specs.Networks.{IsForest, Network}

-- the number of a place, where nodes have numbers below N
abbrev pub code : ℕ → Place → ℕ
code N (real v) = v
code N (beyond u i) = N + (code N u * 6 + i)

-- how many numbers there are for places of at most that size
abbrev pub room : ℕ → ℕ → ℕ
room N zero = N
room N (suc d) = 7 * room N d

pub room_is : (N d : ℕ) → room N d ≡ N * 7 ^ d
room_is N zero = omega arith
room_is N (suc d) =
    let before : room N d ≡ N * 7 ^ d = room_is N d in
    let power : 7 ^ suc d ≡ 7 * 7 ^ d = pow-succ' 7 d in
    ap (λ m. 7 * m) before ∙ omega arith ∙ ap (λ m. N * m) (sym power)

room_some : (N d : ℕ) → N ≤ room N d
room_some N zero = omega arith
room_some N (suc d) = let before = room_some N d in omega arith

pub room_more : (N d e : ℕ) → d ≤ e → room N d ≤ room N e
room_more N zero e l = room_some N e
room_more N (suc d) zero l = absurd (omega arith)
room_more N (suc d) (suc e) l = let before = room_more N d e (omega arith) in omega arith

module _ (a p N : ℕ) (G : Network) (few_active : a ≤ 6) (few_passive : p ≤ 6) where
  low_port : (b : Bool) (i : ℕ) → i < (if b then a else p) → i < 6
  low_port true i l = omega arith
  low_port false i l = omega arith

  pub code_low : (x : Place) → IsGood a p G x → root x < N → code N x < room N (size x)
  code_low (real v) ok low = low
  code_low (beyond u i) ok low =
      let before = code_low u ok.3 low in
      let port = low_port (kind_of G u) i ok.2 in
      let some = room_some N (size u) in
      omega arith

  pub code_one : (x y : Place) → IsGood a p G x → root x < N → IsGood a p G y → root y < N → code N x ≡ code N y → x ≡ y
  code_one (real v) (real w) ok low ok' low' e = ap (λ v. real v) e
  code_one (real v) (beyond u i) ok low ok' low' e = absurd (omega arith)
  code_one (beyond u i) (real w) ok low ok' low' e = absurd (omega arith)
  code_one (beyond u i) (beyond u' i') ok low ok' low' e =
      let port = low_port (kind_of G u) i ok.2 in
      let port' = low_port (kind_of G u') i' ok'.2 in
      let same : code N u ≡ code N u' = omega arith in
      let last : i ≡ i' = omega arith in
      ap₂ (λ u i. beyond u i) (code_one u u' ok.3 low ok'.3 low' same) last

module _ (a p N : ℕ) (G : Network) (forest : IsForest a p N G) (some_active : 0 < a) (some_passive : 0 < p) where
  next_good : (x : Place) (k : ℕ) → IsGood a p G x → k < (if kind_of G x then a else p) → IsGood a p G (next_of G x k)
  next_good x k ok l = (IsPorted-places {E = Unit {0}} a p N (λ x. tt) G forest some_active some_passive).stays x k ok l

  next_root : (x : Place) (k : ℕ) → root x < N → root (next_of G x k) < N
  next_root (real v) k low =
      by_port k (length (G.near v))
      (λ l. subst (λ y. root y < N) (sym (next_real G v k l)) (forest.below v (get_or (G.near v) k 0) (Contains-get_or (G.near v) k 0 l)).1)
      (λ past. subst (λ y. root y < N) (sym (next_past G v k past)) low)
  next_root (beyond u i) zero low = low
  next_root (beyond u i) (suc k) low = low

  next_size : (x : Place) (k : ℕ) → size (next_of G x k) ≤ suc (size x)
  next_size (real v) k =
      by_port k (length (G.near v))
      (λ l. subst (λ y. size y ≤ 1) (sym (next_real G v k l)) (omega arith))
      (λ past. subst (λ y. size y ≤ 1) (sym (next_past G v k past)) (omega arith))
  next_size (beyond u i) zero = omega arith
  next_size (beyond u i) (suc k) = omega arith

  -- what is seen in t steps are good places, not far behind the forest
  pub seen_fine : (t : ℕ) (x : Place) (ks : List ℕ) (z : Place) → IsGood a p G x → root x < N → ((k : ℕ) → Contains ks k → k < (if kind_of G x then a else p))
      → Contains (seen a p G t x ks) z → IsGood a p G z × (root z < N) × (size z ≤ t + size x)
  seen_fine zero x ks z ok low range held = absurd (Contains-none z held)
  seen_fine (suc t) x ks z ok low range held =
      let (k, there, at) = Contains-flat_map_cases (λ k. next_of G x k ∷ seen a p G t (next_of G x k) (dropped (back_of G x k) (ports a p G (next_of G x k)))) ks z held in
      let good : IsGood a p G (next_of G x k) = next_good x k ok (range k there) in
      let far : size (next_of G x k) ≤ suc (size x) = next_size x k in
      elim (Contains-cases z (next_of G x k) (seen a p G t (next_of G x k) (dropped (back_of G x k) (ports a p G (next_of G x k)))) at) [
        | inl e ↦ subst (λ y. IsGood a p G y × (root y < N) × (size y ≤ suc t + size x)) (sym e) (good, next_root x k low, omega arith)
        | inr later ↦
            let (fine, below, near) = seen_fine t (next_of G x k) (dropped (back_of G x k) (ports a p G (next_of G x k))) z good (next_root x k low)
            (λ j held. (let all = count_from_range 0 (if kind_of G (next_of G x k) then a else p) j (dropped_held (back_of G x k) (ports a p G (next_of G x k)) j held) in omega (arith, all))) later in
            (fine, below, omega (arith, near, far))
      ]
