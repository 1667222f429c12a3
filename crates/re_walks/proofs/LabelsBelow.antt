-- The set of the labels below a number.
use Rattle.std.proofs.Common.{◌≡◌, ℕ, ◌<◌, ◌+◌, List, sym, ◌∙◌, subst, arith}
use Rattle.std.specs.List.{AllByRecursion}
use Rattle.re_labels.proofs.Sets.{with_label-above}
use Rattle.re_labels.proofs.OrdersAt.{count_push}
use Rattle.re_labels.proofs.Membership.{AllByRecursion-from_contains, count_from_range}
use Rattle.re_labels.specs.Lists.{count_from}
use Rattle.re_labels.specs.Sets.{with_label}

pub below-more : (n : ℕ) (old new : List ℕ) → old ≡ count_from 0 n → new ≡ with_label old n → new ≡ count_from 0 (n + 1)
below-more n old new so_far insert =
    insert ∙ with_label-above old n (subst (AllByRecursion (λ y. y < n)) (sym so_far) (AllByRecursion-from_contains (λ y. y < n) (count_from 0 n) (λ x at. let r = count_from_range 0 n x at in omega (arith, r.1))))
    ∙ count_push n old so_far
