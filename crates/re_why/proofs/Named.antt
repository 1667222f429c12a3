-- Labels that have names.
use Rattle.std.proofs.Common.{◌≡◌, ℕ, ◌<◌, true, List, [], ◌∷◌, length, arith}
use Rattle.std.specs.Prelude.{nat_lt}
use Rattle.std.specs.List.{AllByRecursion, list_all}
use Rattle.std.proofs.lemmas.Bool.Decides.{nat_tests}
use Rattle.re_labels.proofs.Tests.{and-true}
use Rattle.re_labels.proofs.Membership.{AllByRecursion-weaker}
use Rattle.re_labels.specs.Names.{IsNames}
use Rattle.re_labels.specs.declared.TheConstants.{MAX_LABELS}
use Rattle.re_why.specs.WitnessTexts.{are_named, sets_named}

pub all-named : (names : List (List ℕ)) (labels : List ℕ) → are_named names labels ≡ true → AllByRecursion (λ label. label < length names) labels
all-named names [] e = tt
all-named names (x ∷ labels) e =
    let both = and-true (nat_lt x (length names)) (are_named names labels) e in
    let told : nat_lt x (length names) ≡ true = both.0 in
    (let l : x < length names = grind (arith, nat_tests) in l, all-named names labels both.1)

pub all-sets : (names : List (List ℕ)) (sets : List (List ℕ)) → sets_named names sets ≡ true → AllByRecursion (AllByRecursion (λ label. label < length names)) sets
all-sets names [] e = tt
all-sets names (s ∷ sets) e = let both = and-true (are_named names s) (sets_named names sets) e in (all-named names s both.0, all-sets names sets both.1)

pub few-names : (names : List (List ℕ)) (labels : List ℕ) → IsNames names → are_named names labels ≡ true → AllByRecursion (λ label. label < MAX_LABELS) labels
few-names names labels is e = AllByRecursion-weaker (λ x. x < length names) (λ x. x < MAX_LABELS) (λ x l. let few = is.few in omega (arith, l, few)) labels (all-named names labels e)
