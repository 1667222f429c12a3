-- What the steps of the test of fullness do.
use Rattle.re_labels.proofs.Membership.{all-append}
use Rattle.re_labels.proofs.Tests.{and_assoc, and-whole}
use Rattle.std.proofs.Common.{◌≡◌, ◌≢◌, ℕ, ◌+◌, Bool, true, false, not, eqb, ◌&&◌, [], ◌∷◌, length, Some, None, sym, ◌∙◌, ap, arith, length-append}
use Rattle.std.specs.Prelude.{filter}
use Rattle.std.specs.List.{list_all}
use Rattle.std.proofs.lemmas.Bool.{eq-eqb}
use Rattle.std.proofs.lemmas.Bool.Decides.{nat_tests}
use Rattle.std.proofs.lemmas.List.Elements.{filter_map-append}
use Rattle.re_labels.specs.Lists.{count_from}
use Rattle.re_net.specs.declared.joins.Neighbour.{Neighbour}
use Rattle.re_net.specs.FiniteTrees.{FiniteTree, neighbour, neighbours_over, ports_of, unmarked}
use Rattle.re_net.specs.FullTrees.{is_full_past}
use Rattle.re_net.proofs.SeenChildren.{ports_more}
use Rattle.re_net.proofs.Steps.{over_free, over_taken}

-- what is tested of a neighbour
abbrev pub full_beyond : FiniteTree → ℕ → Neighbour → Bool
full_beyond tree t one = is_full_past tree t one.node (filter (λ p. not (eqb p one.port)) (ports_of tree one.node))

-- the test over the first n ports but the one by which the node is entered
abbrev pub all_full : FiniteTree → ℕ → ℕ → ℕ → ℕ → Bool
all_full tree t v entered n = list_all (full_beyond tree t) (neighbours_over tree v (filter (λ p. not (eqb p entered)) (count_from 1 n)))

module _ (tree : FiniteTree) (t v entered n : ℕ) where
  more : all_full tree t v entered (n + 1) ≡ (all_full tree t v entered n && list_all (full_beyond tree t) (neighbours_over tree v (filter (λ p. not (eqb p entered)) ((n + 1) ∷ []))))
  more =
      ap (λ ports. list_all (full_beyond tree t) (neighbours_over tree v ports)) (ports_more tree unmarked t v entered n)
      ∙ (ap (list_all (full_beyond tree t)) (filter_map-append (neighbour tree v) (filter (λ p. not (eqb p entered)) (count_from 1 n)) (filter (λ p. not (eqb p entered)) ((n + 1) ∷ [])))
      ∙ all-append (full_beyond tree t) (neighbours_over tree v (filter (λ p. not (eqb p entered)) (count_from 1 n))) (neighbours_over tree v (filter (λ p. not (eqb p entered)) ((n + 1) ∷ []))))

  pub full_skip : n + 1 ≡ entered → all_full tree t v entered (n + 1) ≡ all_full tree t v entered n
  full_skip is =
      let same : eqb (n + 1) entered ≡ true = eq-eqb (n + 1) entered is in
      more ∙ rw same (and-whole (all_full tree t v entered n))

  pub full_free : n + 1 ≢ entered → neighbour tree v (n + 1) ≡ None → all_full tree t v entered (n + 1) ≡ all_full tree t v entered n
  full_free apart none =
      let other : eqb (n + 1) entered ≡ false = grind (arith, nat_tests) in
      more ∙ rw (other, none) (and-whole (all_full tree t v entered n))

  pub full_taken : (one : Neighbour) → n + 1 ≢ entered → neighbour tree v (n + 1) ≡ Some one → all_full tree t v entered (n + 1) ≡ (all_full tree t v entered n && full_beyond tree t one)
  full_taken one apart is =
      let other : eqb (n + 1) entered ≡ false = grind (arith, nat_tests) in
      more ∙ rw (other, is) (ap (λ b. all_full tree t v entered n && b) (and-whole (full_beyond tree t one)))

-- the code's flag, one neighbour on
pub flag_taken : (tree : FiniteTree) (t v entered n : ℕ) (one : Neighbour) (flag has : Bool) → n + 1 ≢ entered → neighbour tree v (n + 1) ≡ Some one → flag ≡ (has && all_full tree t v entered n) → (flag && full_beyond tree t one) ≡ (has && all_full tree t v entered (n + 1))
flag_taken tree t v entered n one flag has apart is so_far =
    ap (λ b. b && full_beyond tree t one) so_far ∙ (sym (and_assoc has (all_full tree t v entered n) (full_beyond tree t one)) ∙ ap (λ b. has && b) (sym (full_taken tree t v entered n one apart is)))

-- ---- counting ports
pub count_free : (tree : FiniteTree) (v n : ℕ) → neighbour tree v (n + 1) ≡ None → length (neighbours_over tree v (count_from 1 (n + 1))) ≡ length (neighbours_over tree v (count_from 1 n))
count_free tree v n none = ap length (over_free tree v n none)

pub count_taken : (tree : FiniteTree) (v n : ℕ) (one : Neighbour) → neighbour tree v (n + 1) ≡ Some one → length (neighbours_over tree v (count_from 1 (n + 1))) ≡ length (neighbours_over tree v (count_from 1 n)) + 1
count_taken tree v n one is = ap length (over_taken tree v n one is) ∙ length-append (neighbours_over tree v (count_from 1 n)) (one ∷ [])
