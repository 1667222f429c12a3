-- Views that fit identifiers: these are below N, and the ports of a node have one; how often one is shown.
use Rattle.std.proofs.Common.{◌≡◌, ℕ, zero, suc, pred, ◌+◌, ◌≤◌, ◌<◌, List, [], ◌∷◌, ◌++◌, length, refl, sym, ap₂, subst, arith, ◌⊎◌, inl, inr}
use Rattle.std.specs.Prelude.{Contains, replicate}
use Rattle.std.proofs.lemmas.List.Elements.{Contains-append_left, Contains-append_right}
use Rattle.re_labels.proofs.LawsOfRows.{multisets_law}
use Rattle.re_labels.proofs.Rearranging.{Contains-Rearranged}
use Rattle.re_labels.proofs.Sorting.{Rearranged-sorted}
use Rattle.re_labels.specs.Configs.{IsConfig, sorted}
use Rattle.re_forests.proofs.Counting.{is_at, is_at-cases, often, often-append, often-held, zero_or}
use Rattle.re_forests.proofs.NamedViews.{FineActive, FinePassive, shown_active, shown_passive}
use Rattle.re_given.proofs.Fitting.{Has-around}
use Rattle.re_given.specs.InputViews.{FitsAround, InputView, known, payloads}
use Rattle.re_labels.proofs.Membership.{AllByRecursion-contains, Contains-here, Contains-map_cases, count_from_range}
use Rattle.re_labels.specs.Lists.{count_from}
use Rattle.re_local.proofs.ColouredLocal.{alike, all_alike}
use Rattle.re_layers.specs.Networks.{AreDifferent}
use Rattle.re_local.specs.LocalAlgorithms.{behind_active, behind_passive, identified}
use Rattle.re_labels.specs.Constraints.{Has}
use Rattle.re_laws.specs.Trees.{Child, IsTree, cut, end, leaf, more, put}

-- ---- how often an identifier is shown
mutual
  pub shown_active-often : (y : ℕ) (t : InputView) → shown_active y t ≡ often y (behind_active t)
  shown_active-often y leaf = refl
  shown_active-often y end = refl
  shown_active-often y (more back label branch rest) =
      let here = shown_passive-often y branch in
      let there = shown_active-often y rest in
      let both = often-append y (behind_passive branch) (behind_active rest) in
      omega arith

  pub shown_passive-often : (y : ℕ) (t : InputView) → shown_passive y t ≡ often y (behind_passive t)
  shown_passive-often y leaf = refl
  shown_passive-often y end = refl
  shown_passive-often y (more back label branch rest) =
      let here = shown_active-often y branch in
      let there = shown_passive-often y rest in
      let both = often-append y (label ∷ behind_active branch) (behind_passive rest) in
      omega arith

pub often-different : (y : ℕ) (xs : List ℕ) → AreDifferent xs → often y xs ≤ 1
often-different y [] h = omega arith
often-different y (x ∷ xs) h =
    let later : often y xs ≤ 1 = often-different y xs h.1 in
    elim (is_at-cases y x) [
      | inl (e, is) ↦ first e is (zero_or (often y xs))
      | inr (e, is) ↦ omega arith
    ]
  where
    first : y ≡ x → is_at y x ≡ 1 → (often y xs ≡ 0) ⊎ (1 ≤ often y xs) → is_at y x + often y xs ≤ 1
    first e is (inl none) = omega arith
    first e is (inr some) = absurd (h.0 (subst (λ z. Contains xs z) e (often-held y xs some)))

-- ---- what is known without the last layer
pub cut-known : (R : ℕ) (v : InputView) → cut R (known R v) ≡ cut R v
cut-known zero v = refl
cut-known (suc R) leaf = refl
cut-known (suc R) end = refl
cut-known (suc R) (more back label branch rest) = ap₂ (λ b r. more back label b r) (cut-known R branch) (cut-known (suc R) rest)

-- the identifier of an active node: that on its first edge
abbrev pub first_label : InputView → ℕ
first_label leaf = 0
first_label end = 0
first_label (more back label branch rest) = label

pub first_label-known : (R : ℕ) (v : InputView) → first_label (known (suc R) v) ≡ first_label v
first_label-known R leaf = refl
first_label-known R end = refl
first_label-known R (more back label branch rest) = refl

pub first_label-put : (k : ℕ) (c : Child ℕ) (t : InputView) → ((y : ℕ) → Contains (payloads t) y → y ≡ c.payload) → first_label (put k c t) ≡ c.payload
first_label-put zero c t same = refl
first_label-put (suc k) c leaf same = refl
first_label-put (suc k) c end same = refl
first_label-put (suc k) c (more back label branch rest) same = same label (Contains-here label (payloads rest))

-- ---- trees of so many children
length-most : (d e t n : ℕ) (x : InputView) → IsTree d e t n x → length (payloads x) ≤ n
length-most d e zero n leaf tree = omega arith
length-most d e zero n end tree = absurd tree
length-most d e zero n (more back label branch rest) tree = absurd tree
length-most d e (suc t) n leaf tree = absurd tree
length-most d e (suc t) zero end tree = omega arith
length-most d e (suc t) (suc n) end tree = absurd tree
length-most d e (suc t) zero (more back label branch rest) tree = absurd tree
length-most d e (suc t) (suc n) (more back label branch rest) tree = let later = length-most d e (suc t) n rest tree.3 in omega arith

module _ (a p N : ℕ) (some : 1 ≤ a) (some' : 1 ≤ p) where
  below_passive : (labels : List ℕ) (x : ℕ) → Has (identified a p N).passive labels → Contains labels x → x < N
  below_passive labels x has held =
      let is : IsConfig p N (sorted labels) = ((multisets_law p N).1 (sorted labels)).0 has in
      AllByRecursion-contains (λ x. x < N) (sorted labels) x is.below (Contains-Rearranged x (Rearranged-sorted labels) held)

  pub below_active : (labels : List ℕ) (x : ℕ) → Has (identified a p N).active labels → Contains labels x → x < N
  below_active labels x has held =
      let (y, there, is) = Contains-map_cases (replicate a) (count_from 0 N) (sorted labels) has in
      let same : x ≡ y = AllByRecursion-contains (λ z. z ≡ y) (replicate a y) x (all_alike a y) (subst (λ (c : List ℕ). Contains c x) (sym is) (Contains-Rearranged x (Rearranged-sorted labels) held)) in
      let range : y < 0 + N = (count_from_range 0 N y there).1 in
      omega arith

  mutual
    pub fine_active : (t n : ℕ) (seen : List ℕ) (x : InputView) → IsTree a p t n x → FitsAround (identified a p N).active (identified a p N).passive seen x → FineActive a p N x
    fine_active t n seen leaf tree fits = tt
    fine_active t n seen end tree fits = tt
    fine_active zero n seen (more back label branch rest) tree fits = absurd tree
    fine_active (suc t) zero seen (more back label branch rest) tree fits = absurd tree
    fine_active (suc t) (suc n) seen (more back label branch rest) tree fits = (
      let few = length-most p a t (pred p) branch tree.2 in omega arith,
      fine_passive t (pred p) (label ∷ []) branch tree.2 fits.0,
      fine_active (suc t) n (label ∷ seen) rest tree.3 fits.1,
    )

    pub fine_passive : (t n : ℕ) (seen : List ℕ) (x : InputView) → IsTree p a t n x → FitsAround (identified a p N).passive (identified a p N).active seen x → FinePassive a p N x
    fine_passive t n seen leaf tree fits = tt
    fine_passive t n seen end tree fits = tt
    fine_passive zero n seen (more back label branch rest) tree fits = absurd tree
    fine_passive (suc t) zero seen (more back label branch rest) tree fits = absurd tree
    fine_passive (suc t) (suc n) seen (more back label branch rest) tree fits = (
      below_passive (payloads (more back label branch rest) ++ seen) label
          (Has-around (identified a p N).passive (identified a p N).active p a t (suc n) seen (more back label branch rest) tree fits)
          (Contains-append_left (payloads (more back label branch rest)) seen label (Contains-here label (payloads rest))),
      let least = tree.0 in let most = tree.1 in omega arith,
      let few = length-most a p t (pred a) branch tree.2 in omega arith,
      fine_active t (pred a) (label ∷ []) branch tree.2 fits.0,
      fine_passive (suc t) n (label ∷ seen) rest tree.3 fits.1,
    )

  -- the ports of an active node that is seen by one of them have its identifier
  pub alike_seen : (t n z : ℕ) (x : InputView) → IsTree a p (suc t) n x → FitsAround (identified a p N).active (identified a p N).passive (z ∷ []) x
      → (y : ℕ) → Contains (payloads x) y → y ≡ z
  alike_seen t n z x tree fits y held =
      alike a p N some (payloads x ++ z ∷ []) y z (Has-around (identified a p N).active (identified a p N).passive a p t n (z ∷ []) x tree fits)
      (Contains-append_left (payloads x) (z ∷ []) y held) (Contains-append_right (payloads x) (z ∷ []) z (Contains-here z []))
