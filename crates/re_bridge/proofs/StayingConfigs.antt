-- Configurations that pass a test, one place more at a time.
use Rattle.std.proofs.Common.{◌≡◌, ℕ, ◌<◌, ◌≤◌, ◌+◌, Bool, true, false, cond, List, [], ◌∷◌, ◌++◌, length, take, get_or, sym, ap, ◌∙◌, append-nil}
use Rattle.std.specs.Prelude.{filter}
use Rattle.std.proofs.lemmas.List.{take_all, take_more}
use Rattle.std.proofs.lemmas.List.Elements.{filter-append}
use Rattle.re_labels.proofs.Before.{IsBefore-trans}
use Rattle.re_labels.proofs.ListSets.{list_set_push}
use Rattle.re_labels.proofs.Rising.{rising-filter}
use Rattle.re_labels.specs.Lists.{IsBefore}
use Rattle.re_labels.specs.ListSets.{list_set, with_list}
use Rattle.re_labels.specs.Sets.{within}
use Rattle.re_problem.proofs.Walks.{alone}
use Rattle.re_labels.specs.Constraints.{Constraint, IsConstraint}
use Rattle.re_bridge.specs.Reductions.{constraint_within}

module _ (test : List ℕ → Bool) (configs : List (List ℕ)) (place : ℕ) (config : List ℕ) (l : place < length configs) (at : config ≡ get_or configs place []) where
  one_more : (b : Bool) → test config ≡ b → filter test (take (place + 1) configs) ≡ filter test (take place configs) ++ cond b (config ∷ []) []
  one_more b is =
      ap (filter test) (take_more configs place [] l ∙ ap (λ c. take place configs ++ c ∷ []) (sym at)) ∙ filter-append test (take place configs) (config ∷ [])
      ∙ ap (λ b. filter test (take place configs) ++ cond b (config ∷ []) []) is

  pub staying-step : (rest : List (List ℕ)) → test config ≡ true → rest ≡ list_set (filter test (take place configs)) → with_list rest config ≡ list_set (filter test (take (place + 1) configs))
  staying-step rest stays so_far = ap (λ s. with_list s config) so_far ∙ sym (list_set_push (filter test (take place configs)) config) ∙ ap list_set (sym (one_more true stays))

  pub staying-passed : (rest : List (List ℕ)) → test config ≡ false → rest ≡ list_set (filter test (take place configs)) → rest ≡ list_set (filter test (take (place + 1) configs))
  staying-passed rest goes so_far = so_far ∙ ap list_set (sym (one_more false goes ∙ append-nil (filter test (take place configs))))

pub staying-all : (labels : List ℕ) (n : ℕ) (constraint rest : Constraint) (place : ℕ) → IsConstraint n constraint → length constraint.configs ≤ place → rest.degree ≡ constraint.degree
    → rest.configs ≡ list_set (filter (λ config. within config labels) (take place constraint.configs)) → rest ≡ constraint_within labels constraint
staying-all labels n constraint rest place is over degree so_far =
    let configs : rest.configs ≡ filter (λ config. within config labels) constraint.configs =
    so_far ∙ ap (λ l. list_set (filter (λ config. within config labels) l)) (take_all place constraint.configs over)
    ∙ alone (filter (λ config. within config labels) constraint.configs) (rising-filter IsBefore IsBefore-trans (λ config. within config labels) constraint.configs is.ascends) in
    λ i. record { degree = degree i; configs = configs i }
