-- The test of labels is the fact.
use Rattle.std.proofs.Common.{◌≡◌, ℕ, ◌<◌, true, List, [], ◌∷◌, refl, arith}
use Rattle.std.specs.Prelude.{nat_lt}
use Rattle.std.specs.List.{AllByRecursion, list_all}
use Rattle.std.proofs.lemmas.Bool.Decides.{nat_tests}
use Rattle.re_labels.proofs.Tests.{and-true, true-and}

pub below-all : (n : ℕ) (labels : List ℕ) → list_all (λ label. nat_lt label n) labels ≡ true → AllByRecursion (λ label. label < n) labels
below-all n [] all = tt
below-all n (x ∷ labels) all =
    let both = and-true (nat_lt x n) (list_all (λ label. nat_lt label n) labels) all in
    let first : nat_lt x n ≡ true = both.0 in
    (grind (arith, nat_tests), below-all n labels both.1)

pub all-below : (n : ℕ) (labels : List ℕ) → AllByRecursion (λ label. label < n) labels → list_all (λ label. nat_lt label n) labels ≡ true
all-below n [] below = refl
all-below n (x ∷ labels) below =
    let here : x < n = below.0 in
    let first : nat_lt x n ≡ true = grind (arith, nat_tests) in
    true-and (nat_lt x n) (list_all (λ label. nat_lt label n) labels) first (all-below n labels below.1)
