-- What the calls of rows and placements say.
use Rattle.std.proofs.Common.{◌≡◌, ℕ, zero, suc, ◌<◌, ◌≤◌, ◌^◌, Bool, true, false, cond, ◌&&◌, leb, List, [], ◌∷◌, length, take, get_or, refl, sym, ap, ◌∙◌, subst, arith, Some, None}
use Rattle.std.specs.Prelude.{Contains, IsSome, IsTrue, ◌↔◌}
use Rattle.std.specs.List.{AllByRecursion}
use Rattle.std.proofs.Math.Pow.{pow_mono}
use Rattle.std.proofs.lemmas.List.{take_all}
use Rattle.std.proofs.lemmas.Bool.Decides.{nat_tests}
use Rattle.re_labels.proofs.Placing.{length-placements}
use Rattle.re_labels.specs.Configs.{IsConfig}
use Rattle.re_labels.specs.Orders.{factorial, placements}
use Rattle.re_labels.specs.Rows.{IsRow, in_order, is_full, row_of, singles}
use Rattle.re_labels.proofs.Membership.{length-map'}
use Rattle.re_labels.proofs.Rising.{rising-map}
use Rattle.re_labels.specs.Sets.{IsLabelSet, number}

-- what is read within a list doesn't turn on what is read outside
pub read_within : {X : Type 0} (xs : List X) (i : ℕ) (d e : X) → i < length xs → get_or xs i d ≡ get_or xs i e
read_within [] i d e h = absurd (omega arith)
read_within (x ∷ xs) zero d e h = refl
read_within (x ∷ xs) (suc i) d e h = read_within xs i d e (omega arith)

-- an order that is read from the list of placements is in it
pub placement_held : (n i : ℕ) (order : List ℕ) → i < factorial n → order ≡ get_or (placements n) i [] → length order ≡ n → Contains (placements (length order)) order
placement_held n i order h e l =
    let k : i < length (placements n) = (let m = length-placements n in omega (arith, m)) in
    subst (λ m. Contains (placements m) order) (sym l) (i, k, read_within (placements n) i order [] k ∙ sym e)

-- the one-label sets of a configuration are a row
AreSets-singles : (n : ℕ) (config : List ℕ) → AllByRecursion (λ x. x < n) config → AllByRecursion (λ s. IsLabelSet n s × (0 < length s)) (singles config)
AreSets-singles n [] h = tt
AreSets-singles n (x ∷ config) h = (((tt, (h.0, tt)), omega arith), AreSets-singles n config h.1)

pub IsRow-singles : (d n : ℕ) (config : List ℕ) → IsConfig d n config → IsRow (length (singles config)) n (singles config)
IsRow-singles d n config c = record {
  count = refl;
  sets = AreSets-singles n config c.below;
  ascends = rising-map (λ x y. x ≤ y) (λ s t. number s ≤ number t) (λ x. x ∷ []) config (λ x y i j le. let p : 2 ^ x ≤ 2 ^ y = pow_mono le in omega (arith, p)) c.ascends;
}

pub row_of_config : (d n : ℕ) (config labels : List ℕ) (row : List (List ℕ)) (i : ℕ) → IsConfig d n config → 2 ≤ length config → length config ≤ 6 → labels ≡ config → row ≡ singles (take i labels) → length labels ≤ i
    → (2 ≤ length row) × (length row ≤ 6) × IsRow (length row) n row
row_of_config d n config labels row i c two six e r all =
    let whole : row ≡ singles config = r ∙ ap singles (take_all i labels all ∙ e) in
    let count : length row ≡ length config = ap length whole ∙ length-map' (λ x. x ∷ []) config in
    (omega arith, omega arith, subst (λ w. IsRow (length w) n w) (sym whole) (IsRow-singles d n config c))

-- there is a row of so many sets exactly where none is empty
pub row_of-some : (n : ℕ) (sets : List (List ℕ)) → 2 ≤ length sets → length sets ≤ 6 → IsSome (row_of n sets) ↔ IsTrue (is_full sets)
row_of-some n sets two six =
    let a : leb 2 (length sets) ≡ true = grind (arith, nat_tests) in
    let b : leb (length sets) 6 ≡ true = grind (arith, nat_tests) in
    let tested : row_of n sets ≡ cond (is_full sets) (Some (in_order n sets)) None = (λ j. cond ((a j && b j) && is_full sets) (Some (in_order n sets)) None) in
    subst (λ o. IsSome o ↔ IsTrue (is_full sets)) (sym tested) (by_test (is_full sets) (in_order n sets))
  where
    by_test : (b : Bool) (row : List (List ℕ)) → IsSome (cond b (Some row) None) ↔ IsTrue b
    by_test true row = (λ _. refl, λ _. refl)
    by_test false row = (λ h. h, λ h. h)
