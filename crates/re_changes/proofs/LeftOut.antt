-- Configurations without a label, one place more at a time.
use Rattle.re_problem.proofs.Walks.{alone}
use Rattle.std.proofs.Common.{◌≡◌, ℕ, ◌<◌, ◌≤◌, ◌+◌, true, false, not, cond, List, [], ◌∷◌, ◌++◌, length, map, take, get_or, sym, ap, ◌∙◌, append-nil}
use Rattle.std.specs.Prelude.{filter}
use Rattle.std.proofs.lemmas.List.{map-append, take_all, take_more}
use Rattle.std.proofs.lemmas.List.Elements.{filter-append}
use Rattle.re_labels.proofs.Before.{IsBefore-trans}
use Rattle.re_labels.proofs.ListSets.{list_set_push}
use Rattle.re_labels.proofs.Rising.{rising-filter}
use Rattle.re_labels.specs.Lists.{IsBefore}
use Rattle.re_labels.specs.ListSets.{list_set, with_list}
use Rattle.re_labels.specs.Sets.{has}
use Rattle.re_labels.specs.Configs.{image_of}
use Rattle.re_changes.specs.Renumbering.{constraint_image}
use Rattle.re_labels.specs.Constraints.{Constraint, IsConstraint, images_of}
use Rattle.re_labels.specs.Strength.{constraint_without}

-- ---- configurations without a label
left-more : (a : ℕ) (configs : List (List ℕ)) (place : ℕ) (config : List ℕ) → place < length configs → config ≡ get_or configs place [] → has config a ≡ false
    → filter (λ config. not (has config a)) (take (place + 1) configs) ≡ filter (λ config. not (has config a)) (take place configs) ++ config ∷ []
left-more a configs place config l at absent =
    ap (filter (λ config. not (has config a))) (take_more configs place [] l ∙ ap (λ c. take place configs ++ c ∷ []) (sym at))
    ∙ filter-append (λ config. not (has config a)) (take place configs) (config ∷ []) ∙ ap (λ b. filter (λ config. not (has config a)) (take place configs) ++ cond b (config ∷ []) []) (ap not absent)

left-same : (a : ℕ) (configs : List (List ℕ)) (place : ℕ) (config : List ℕ) → place < length configs → config ≡ get_or configs place [] → has config a ≡ true
    → filter (λ config. not (has config a)) (take (place + 1) configs) ≡ filter (λ config. not (has config a)) (take place configs)
left-same a configs place config l at there =
    ap (filter (λ config. not (has config a))) (take_more configs place [] l ∙ ap (λ c. take place configs ++ c ∷ []) (sym at))
    ∙ filter-append (λ config. not (has config a)) (take place configs) (config ∷ []) ∙ ap (λ b. filter (λ config. not (has config a)) (take place configs) ++ cond b (config ∷ []) []) (ap not there)
    ∙ append-nil (filter (λ config. not (has config a)) (take place configs))

pub without-step : (a : ℕ) (configs rest : List (List ℕ)) (place : ℕ) (config : List ℕ) → place < length configs → config ≡ get_or configs place [] → has config a ≡ false
    → rest ≡ list_set (filter (λ config. not (has config a)) (take place configs)) → with_list rest config ≡ list_set (filter (λ config. not (has config a)) (take (place + 1) configs))
without-step a configs rest place config l at absent so_far =
    ap (λ s. with_list s config) so_far ∙ sym (list_set_push (filter (λ config. not (has config a)) (take place configs)) config) ∙ ap list_set (sym (left-more a configs place config l at absent))

pub without-passed : (a : ℕ) (configs rest : List (List ℕ)) (place : ℕ) (config : List ℕ) → place < length configs → config ≡ get_or configs place [] → has config a ≡ true
    → rest ≡ list_set (filter (λ config. not (has config a)) (take place configs)) → rest ≡ list_set (filter (λ config. not (has config a)) (take (place + 1) configs))
without-passed a configs rest place config l at there so_far = so_far ∙ ap list_set (sym (left-same a configs place config l at there))

pub without-all : (a n : ℕ) (constraint : Constraint) (rest : Constraint) (place : ℕ) → IsConstraint n constraint → length constraint.configs ≤ place → rest.degree ≡ constraint.degree
    → rest.configs ≡ list_set (filter (λ config. not (has config a)) (take place constraint.configs)) → rest ≡ constraint_without a constraint
without-all a n constraint rest place is over degree so_far =
    let configs : rest.configs ≡ filter (λ config. not (has config a)) constraint.configs =
    so_far ∙ ap (λ l. list_set (filter (λ config. not (has config a)) l)) (take_all place constraint.configs over)
    ∙ alone (filter (λ config. not (has config a)) constraint.configs) (rising-filter IsBefore IsBefore-trans (λ config. not (has config a)) constraint.configs is.ascends) in
    λ i. record { degree = degree i; configs = configs i }

-- ---- their images
pub images-step : (a : ℕ) (images : List ℕ) (configs rest : List (List ℕ)) (place : ℕ) (config : List ℕ) → place < length configs → config ≡ get_or configs place [] → has config a ≡ false
    → rest ≡ list_set (map (image_of images) (filter (λ config. not (has config a)) (take place configs)))
    → with_list rest (image_of images config) ≡ list_set (map (image_of images) (filter (λ config. not (has config a)) (take (place + 1) configs)))
images-step a images configs rest place config l at absent so_far =
    ap (λ s. with_list s (image_of images config)) so_far ∙ sym (list_set_push (map (image_of images) (filter (λ config. not (has config a)) (take place configs))) (image_of images config))
    ∙ ap list_set (sym (ap (map (image_of images)) (left-more a configs place config l at absent) ∙ map-append (image_of images) (filter (λ config. not (has config a)) (take place configs)) (config ∷ [])))

pub images-passed : (a : ℕ) (images : List ℕ) (configs rest : List (List ℕ)) (place : ℕ) (config : List ℕ) → place < length configs → config ≡ get_or configs place [] → has config a ≡ true
    → rest ≡ list_set (map (image_of images) (filter (λ config. not (has config a)) (take place configs)))
    → rest ≡ list_set (map (image_of images) (filter (λ config. not (has config a)) (take (place + 1) configs)))
images-passed a images configs rest place config l at there so_far = so_far ∙ ap (λ l. list_set (map (image_of images) l)) (sym (left-same a configs place config l at there))

pub images-all : (a : ℕ) (images : List ℕ) (constraint rest : Constraint) (place : ℕ) → length constraint.configs ≤ place → rest.degree ≡ constraint.degree
    → rest.configs ≡ list_set (map (image_of images) (filter (λ config. not (has config a)) (take place constraint.configs))) → rest ≡ constraint_image images (constraint_without a constraint)
images-all a images constraint rest place over degree so_far =
    let configs : rest.configs ≡ images_of images (constraint_without a constraint) = so_far ∙ ap (λ l. list_set (map (image_of images) (filter (λ config. not (has config a)) l))) (take_all place constraint.configs over) in
    λ i. record { degree = degree i; configs = configs i }
