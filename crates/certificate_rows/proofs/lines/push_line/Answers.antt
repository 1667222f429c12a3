-- The row of sets that are in order has these sets.
use Rattle.std.proofs.Common.{◌≡◌, ℕ, ◌<◌, ◌≤◌, eqb, List, [], ◌∷◌, length, true, subst, sym, ◌∙◌, arith}
use Rattle.std.specs.Cmp.Lexicographic.{pointwise}
use Rattle.std.specs.List.{AllByRecursion}
use Rattle.std.proofs.lemmas.Bool.{false≢true}
use Rattle.re_labels.proofs.Rows.{AreSets}
use Rattle.re_labels.proofs.Membership.{AllByRecursion-weaker}
use Rattle.re_labels.proofs.Numbers.{number_apart}
use Rattle.re_labels.proofs.Tests.{and-true, eqb-true}
use Rattle.re_labels.specs.Sets.{IsLabelSet, number}
use Rattle.certificate_rows.proofs.lines.push_line.Goals as goal

same_row : (n : ℕ) → n ≤ 128 → (row sets : List (List ℕ)) → AreSets 128 row → AllByRecursion (IsLabelSet n) sets → pointwise (λ s t. eqb (number s) (number t)) row sets ≡ true
    → AllByRecursion (AllByRecursion (λ x. x < n)) row
same_row n few [] sets held given same = tt
same_row n few (s ∷ row) [] held given same = absurd (false≢true same)
same_row n few (s ∷ row) (t ∷ sets) held given same =
    let both = and-true (eqb (number s) (number t)) (pointwise (λ s t. eqb (number s) (number t)) row sets) same in
    let wide : IsLabelSet 128 t = (given.0.0, AllByRecursion-weaker (λ x. x < n) (λ x. x < 128) (λ x l. omega (arith, l, few)) t given.0.1) in
    let e : s ≡ t = number_apart 128 s t held.0.0 wide (eqb-true (number s) (number t) both.0) in
    (subst (AllByRecursion (λ x. x < n)) (sym e) given.0.1, same_row n few row sets held.1 given.1 both.1)

pub push_row-requires : goal.push_row-requires
push_row-requires c =
    let same : pointwise (λ s t. eqb (number s) (number t)) c.sets.result.now c.args.sets.now ≡ true = sym c.eq.ensures ∙ c.if-eq.true in
    same_row (length c.args.names.now) c.len-count.ensures.names.few c.in_ok-row.row c.args.sets.now c.sets.ensures.row.sets c.requires
    (subst (λ row. pointwise (λ s t. eqb (number s) (number t)) row c.args.sets.now ≡ true) c.sets.ensures.sets same)
