-- On paths: of so many blocks two have the same label in the middle, and so what a fast local algorithm says around them is a flexible set.
use Rattle.std.proofs.Common.{◌≡◌, ℕ, suc, ◌+◌, ◌*◌, ◌≤◌, ◌<◌, Bool, true, false, List, sym, ◌∙◌, subst, arith, inl, ◌⊎◌}
use Rattle.std.proofs.Math.Nat.{mul-le-mul_right}
use Rattle.re_forests.proofs.Blocks.{Stands, same_value, value}
use Rattle.re_forests.proofs.Rounds.{IsRound, around, half, round_flexible}
use Rattle.re_forests.proofs.TwoAlike.{two_alike}
use Rattle.re_forests.proofs.TwoBlocks.{both_blocks, both_forest, labels_between, one_stands, other_stands, round_between, value_below}
use Rattle.re_forests.specs.Flexible.{IsFlexible}
use Rattle.re_forests.specs.LabelLaws.{FastPathsLaw}
use Rattle.re_forests.specs.OnForests.{SolvesOn}
use Rattle.re_layers.specs.Networks.{IsForest, IsLocal, Network}
use Rattle.re_problem.specs.Problems.{IsProblem, Problem}

module _ (problem : Problem) (is_problem : IsProblem problem) (degree_active : problem.active.degree ≡ 2) (degree_passive : problem.passive.degree ≡ 2)
    (N T : ℕ) (enough : 4 * (problem.labels + 3) * (T + 4) ≤ N) (algorithm : Network → ℕ → List ℕ) (local : IsLocal T algorithm)
    (solves : (G : Network) → IsForest problem.active.degree problem.passive.degree N G → SolvesOn problem G (algorithm G)) where
  -- ---- the blocks, and the identifiers behind all of them
  abbrev start : ℕ → ℕ
  start b = b * (4 * suc T)

  abbrev fresh : ℕ
  fresh = start (problem.labels + 2)

  start_order : (i j : ℕ) → i < j → start i + 4 * suc T ≤ start j
  start_order i j less =
      let product : suc i * (4 * suc T) ≤ j * (4 * suc T) = mul-le-mul_right (4 * suc T) less in
      let more : suc i * (4 * suc T) ≡ i * (4 * suc T) + 4 * suc T = grind arith in
      omega (arith, product, more)

  room : (j : ℕ) → j ≤ 1 → fresh + suc (2 * j) ≤ N
  room j small =
      let less : (problem.labels + 2) * (4 * suc T) + 3 ≤ 4 * (problem.labels + 3) * (T + 4) = omega arith in
      omega (arith, less, enough, small)

  some : 0 < suc T
  some = omega arith

  module _ (b c : ℕ) (less : b < c) (low : c < problem.labels + 2) (j : ℕ) (small : j ≤ 1) (kind : Bool) where
    abbrev path : Network
    path = both_blocks (suc T) (start b) (start c) fresh j kind

    before : start b + 4 * suc T ≤ fresh
    before = start_order b (problem.labels + 2) (omega (arith, less, low))

    behind : start c + 4 * suc T ≤ fresh
    behind = start_order c (problem.labels + 2) low

    apart : (start b + 4 * suc T ≤ start c) ⊎ (start c + 4 * suc T ≤ start b)
    apart = inl (start_order b c less)

    solved : SolvesOn problem path (algorithm path)
    solved =
        solves path (subst (λ a. IsForest a problem.passive.degree N path) (sym degree_active)
        (subst (λ p. IsForest 2 p N path) (sym degree_passive) (both_forest (suc T) (start b) (start c) fresh j some before behind apart N (room j small) kind)))

    first_stands : Stands (suc T) (start b) path
    first_stands = one_stands (suc T) (start b) (start c) fresh j some before behind apart kind

    second_stands : Stands (suc T) (start c) path
    second_stands = other_stands (suc T) (start b) (start c) fresh j some before behind apart kind

    low_value : value T algorithm (start b) path < problem.labels
    low_value = value_below problem is_problem degree_active degree_passive T algorithm (start b) (start c) fresh j before behind apart kind solved

    round : (x : ℕ) → value T algorithm (start b) path ≡ x → value T algorithm (start c) path ≡ x
        → IsRound problem kind (suc (2 * (2 * suc T + j))) x (labels_between T algorithm (start b) (start c) fresh j kind)
    round x own same = round_between problem is_problem degree_active degree_passive T algorithm (start b) (start c) fresh j before behind apart kind solved x own same

  -- ---- the label in the middle of a block: on the path to the last block
  abbrev to_last : ℕ → Network
  to_last b = both_blocks (suc T) (start b) (start (suc problem.labels)) fresh 0 false

  abbrev label_of : ℕ → ℕ
  label_of b = value T algorithm (start b) (to_last b)

  label_below : (b : ℕ) → b < suc problem.labels → label_of b < problem.labels
  label_below b low = low_value b (suc problem.labels) low (omega arith) 0 (omega arith) false

  stands_to_last : (b : ℕ) → b < suc problem.labels → Stands (suc T) (start b) (to_last b)
  stands_to_last b low = first_stands b (suc problem.labels) low (omega arith) 0 (omega arith) false

  -- ---- two blocks with the same label
  module _ (b c : ℕ) (less : b < c) (low : c < suc problem.labels) (same : label_of b ≡ label_of c) where
    abbrev marks : Bool → Bool → ℕ → ℕ
    marks false kind = labels_between T algorithm (start b) (start c) fresh 0 kind
    marks true kind = labels_between T algorithm (start b) (start c) fresh 1 kind

    round_at : (j : ℕ) → j ≤ 1 → (kind : Bool) → IsRound problem kind (suc (2 * (2 * suc T + j))) (label_of b) (labels_between T algorithm (start b) (start c) fresh j kind)
    round_at j small kind =
        let beyond : c < problem.labels + 2 = omega (arith, low) in
        round b c less beyond j small kind (label_of b)
        (same_value T algorithm local (start b) (both_blocks (suc T) (start b) (start c) fresh j kind) (to_last b) (first_stands b c less beyond j small kind) (stands_to_last b (omega (arith, less, low))))
        (same_value T algorithm local (start c) (both_blocks (suc T) (start b) (start c) fresh j kind) (to_last c) (second_stands b c less beyond j small kind) (stands_to_last c low) ∙ sym same)

    found : (set : List ℕ) × (l : ℕ) × IsFlexible problem set l
    found =
        let (k, flexible) = round_flexible problem (label_of b) (2 * suc T) marks rounds in
        (around problem (label_of b) (2 * suc T) marks, k, flexible)
      where
        rounds : (long active : Bool) → IsRound problem active (suc (2 * half problem (label_of b) (2 * suc T) marks long)) (label_of b) (marks long active)
        rounds false active =
            subst (λ l. IsRound problem active (suc (2 * l)) (label_of b) (labels_between T algorithm (start b) (start c) fresh 0 active)) (let e : 2 * suc T + 0 ≡ 2 * suc T = omega arith in e) (round_at 0 (omega arith) active)
        rounds true active =
            subst (λ l. IsRound problem active (suc (2 * l)) (label_of b) (labels_between T algorithm (start b) (start c) fresh 1 active)) (let e : 2 * suc T + 1 ≡ suc (2 * suc T) = omega arith in e) (round_at 1 (omega arith) active)

  flexible_set : (set : List ℕ) × (l : ℕ) × IsFlexible problem set l
  flexible_set =
      let (b, c, less, low, same) = two_alike problem.labels label_of label_below in
      found b c less low same

pub paths : FastPathsLaw
paths problem is_problem degree_active degree_passive =
    (4 * (problem.labels + 3), λ N T enough solvable. flexible_set problem is_problem degree_active degree_passive N T enough solvable.0 solvable.1 solvable.2)
