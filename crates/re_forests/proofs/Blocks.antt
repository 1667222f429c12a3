-- Blocks of identifiers that follow on each other, on a path: what a local algorithm says in the middle of a long block is the same wherever it stands.
use Rattle.std.proofs.Common.{◌≡◌, ℕ, zero, suc, ◌+◌, ◌-◌, ◌*◌, ◌≤◌, ◌<◌, Bool, false, not, List, [], ◌∷◌, sym, ap, ap₂, ◌∙◌, subst, arith}
use Rattle.std.specs.Prelude.{◌==◌, slice_index}
use Rattle.std.specs.List.{AllByRecursion, position_or_len}
use Rattle.re_labels.proofs.Tests.{not_not}
use Rattle.re_forests.proofs.LabelsOnPaths.{edge_active, edge_label, edge_passive}
use Rattle.re_forests.proofs.Leads.{after, after_even, after_odd}
use Rattle.re_forests.proofs.PathNetworks.{active_at, near_within, ordered, ordered_high, ordered_low, path_network}
use Rattle.re_forests.specs.OnForests.{label_towards}
use Rattle.re_layers.specs.Networks.{AreSame, IsLocal, Network}

pub after_same : (active : Bool) (a b c : ℕ) → a + b ≡ 2 * c → after active a ≡ after active b
after_same active zero b c e = sym (ap (after active) (let f : b ≡ 2 * c = omega arith in f) ∙ after_even active c)
after_same active (suc a) b c e = after_same (not active) a (suc b) c (omega arith) ∙ ap (λ kind. after kind b) (not_not active)

-- 4 h nodes that follow on each other, also by their identifiers; the two in the middle are an active node and a passive one
pub record Stands (h base : ℕ) (G : Network) : Type 0 where
  pub kinds : (q : ℕ) → q < 4 * h → G.active (base + q) ≡ after false q
  pub near : (q : ℕ) → suc (suc q) < 4 * h → G.near (base + suc q) ≡ (base + q) ∷ (base + suc (suc q)) ∷ []

module _ (h base : ℕ) (G H : Network) (here : Stands h base G) (there : Stands h base H) where
  seen : (d q : ℕ) → d ≤ q → q + d < 4 * h → AreSame d G H (base + q)
  seen zero q l low = here.kinds q (omega arith) ∙ sym (there.kinds q (omega arith))
  seen (suc d) zero l low = absurd (omega arith)
  seen (suc d) (suc q) l low = (
    here.kinds (suc q) (omega arith) ∙ sym (there.kinds (suc q) (omega arith)),
    here.near q (omega arith) ∙ sym (there.near q (omega arith)),
    subst (λ near. AllByRecursion (λ w. AreSame d G H w) near) (sym (here.near q (omega arith))) (seen d q (omega arith) (omega arith), (seen d (suc (suc q)) (omega arith) (omega arith), tt)),
  )

-- the label on the edge in the middle of a block
abbrev pub value : ℕ → (Network → ℕ → List ℕ) → ℕ → Network → ℕ
value T algorithm base G = label_towards G (algorithm G) (base + suc (suc (2 * T))) (base + suc (2 * T))

pub same_value : (T : ℕ) (algorithm : Network → ℕ → List ℕ) → IsLocal T algorithm → (base : ℕ) (G H : Network) → Stands (suc T) base G → Stands (suc T) base H
    → value T algorithm base G ≡ value T algorithm base H
same_value T algorithm is base G H here there =
    ap₂ (λ labels near. slice_index labels (position_or_len (λ x. x == base + suc (suc (2 * T))) near))
    (is G H (base + suc (2 * T)) (seen (suc T) base G H here there T (suc (2 * T)) (omega arith) (omega arith)))
    (here.near (2 * T) (omega arith) ∙ sym (there.near (2 * T) (omega arith)))

pub value_on : (T : ℕ) (algorithm : Network → ℕ → List ℕ) (base : ℕ) (G : Network) → Stands (suc T) base G
    → edge_label G (algorithm G) (base + suc (2 * T)) (base + suc (suc (2 * T))) ≡ value T algorithm base G
value_on T algorithm base G stands =
    edge_active G (algorithm G) (base + suc (2 * T)) (base + suc (suc (2 * T))) (stands.kinds (suc (2 * T)) (omega arith) ∙ after_odd false T)

pub value_back : (T : ℕ) (algorithm : Network → ℕ → List ℕ) (base : ℕ) (G : Network) → Stands (suc T) base G
    → edge_label G (algorithm G) (base + suc (suc (2 * T))) (base + suc (2 * T)) ≡ value T algorithm base G
value_back T algorithm base G stands =
    edge_passive G (algorithm G) (base + suc (suc (2 * T))) (base + suc (2 * T)) (stands.kinds (suc (suc (2 * T))) (omega arith) ∙ after_even (not (not false)) T)

-- ---- a block on a path, in either direction
module _ (id : ℕ → ℕ) (n : ℕ) (first : Bool) (two : 2 ≤ n) (different : (p q : ℕ) → p < n → q < n → id p ≡ id q → p ≡ q) (h base s : ℕ) (within : s + 4 * h ≤ n) where
  abbrev G : Network
  G = path_network id n first

  pub forward : ((q : ℕ) → q < 4 * h → id (s + q) ≡ base + q) → ((q : ℕ) → q < 4 * h → after first (s + q) ≡ after false q) → Stands h base G
  forward at kind = record {
    kinds = λ q low. subst (λ z. G.active z ≡ after false q) (at q low) (active_at id n first two different (s + q) (omega (arith, within)) ∙ kind q low);
    near = λ q low.
        (let a : id (s + q) ≡ base + q = at q (omega arith) in
        let b : id (suc (s + q)) ≡ base + suc q = ap id (let e : suc (s + q) ≡ s + suc q = omega arith in e) ∙ at (suc q) (omega arith) in
        let c : id (suc (suc (s + q))) ≡ base + suc (suc q) = ap id (let e : suc (suc (s + q)) ≡ s + suc (suc q) = omega arith in e) ∙ at (suc (suc q)) low in
        subst (λ z. G.near z ≡ (base + q) ∷ (base + suc (suc q)) ∷ []) b
        (near_within id n first two different (s + q) (omega (arith, within, low)) ∙ (ap₂ ordered a c ∙ ordered_low (base + q) (base + suc (suc q)) (omega arith))));
  }

  pub backward : ((q : ℕ) → q < 4 * h → id (s + q) ≡ base + (4 * h - suc q)) → ((q : ℕ) → q < 4 * h → after first (s + q) ≡ after false (4 * h - suc q)) → Stands h base G
  backward at kind = record {
    kinds = λ q low.
        (let same : 4 * h - suc (4 * h - suc q) ≡ q = omega (arith, low) in
        let below : 4 * h - suc q < 4 * h = omega (arith, low) in
        subst (λ z. G.active z ≡ after false q) (at (4 * h - suc q) below ∙ ap (λ z. base + z) same)
        (active_at id n first two different (s + (4 * h - suc q)) (omega (arith, within, low)) ∙ (kind (4 * h - suc q) below ∙ ap (after false) same)));
    near = λ q low. turned q (4 * h - suc (suc (suc q))) (omega (arith, low));
  }
    where
      turned : (q r : ℕ) → r + suc (suc (suc q)) ≡ 4 * h → G.near (base + suc q) ≡ (base + q) ∷ (base + suc (suc q)) ∷ []
      turned q r e =
          let a : id (s + r) ≡ base + suc (suc q) = at r (omega arith) ∙ ap (λ z. base + z) (let f : 4 * h - suc r ≡ suc (suc q) = omega (arith, e) in f) in
          let b : id (suc (s + r)) ≡ base + suc q =
          ap id (let f : suc (s + r) ≡ s + suc r = omega arith in f) ∙ (at (suc r) (omega arith) ∙ ap (λ z. base + z) (let f : 4 * h - suc (suc r) ≡ suc q = omega (arith, e) in f)) in
          let c : id (suc (suc (s + r))) ≡ base + q =
          ap id (let f : suc (suc (s + r)) ≡ s + suc (suc r) = omega arith in f) ∙ (at (suc (suc r)) (omega arith) ∙ ap (λ z. base + z) (let f : 4 * h - suc (suc (suc r)) ≡ q = omega (arith, e) in f)) in
          subst (λ z. G.near z ≡ (base + q) ∷ (base + suc (suc q)) ∷ []) b
          (near_within id n first two different (s + r) (omega (arith, within, e)) ∙ (ap₂ ordered a c ∙ ordered_high (base + suc (suc q)) (base + q) (omega arith)))
