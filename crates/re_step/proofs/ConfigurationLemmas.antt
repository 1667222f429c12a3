-- The configurations of rows, by the places of their sets.
use Rattle.std.proofs.Common.{◌≡◌, ℕ, zero, suc, ◌<◌, ◌≤◌, ◌+◌, List, [], ◌∷◌, ◌++◌, length, map, take, get_or, Contains, refl, sym, ap, ◌∙◌, subst, arith}
use Rattle.std.specs.List.{AllByRecursion}
use Rattle.std.proofs.lemmas.List.{take_more}
use Rattle.re_labels.proofs.Sorting.{length-sorted}
use Rattle.re_labels.specs.Configs.{sorted}
use Rattle.re_labels.proofs.ListSets.{list_set_push}
use Rattle.re_labels.proofs.Membership.{AllByRecursion-contains, Contains-here, Contains-later, length-map'}
use Rattle.re_labels.proofs.LabelPlaces.{place_of-below}
use Rattle.re_labels.specs.Lists.{place_of}
use Rattle.re_labels.specs.ListSets.{list_set, with_list}
use Rattle.re_labels.proofs.Insertions.{length-with_list_most}
use Rattle.re_labels.specs.declared.TheConstants.{MAX_LABELS}

pub places_below : (sets row : List (List ℕ)) (labels : List ℕ) → length sets ≤ MAX_LABELS → ((set : List ℕ) → Contains row set → Contains sets set) → labels ≡ map (place_of sets) row → AllByRecursion (λ x. x < MAX_LABELS) labels
places_below sets row labels few there e = subst (AllByRecursion (λ x. x < MAX_LABELS)) (sym e) (go row there)
  where
    go : (row : List (List ℕ)) → ((set : List ℕ) → Contains row set → Contains sets set) → AllByRecursion (λ x. x < MAX_LABELS) (map (place_of sets) row)
    go [] h = tt
    go (s ∷ row) h = let l : place_of sets s < length sets = place_of-below sets s (h s (Contains-here s row)) in (omega (arith, l, few), go row (λ t i. h t (Contains-later t s row i)))

-- the configuration of a row
abbrev pub config_of : List (List ℕ) → List (List ℕ) → List ℕ
config_of sets row = sorted (map (place_of sets) row)

pub length-config_of : (sets row : List (List ℕ)) (config : List ℕ) → config ≡ config_of sets row → length config ≡ length row
length-config_of sets row config e = ap length e ∙ length-sorted (map (place_of sets) row) ∙ length-map' (place_of sets) row

pub row_there : (P : List (List ℕ) → Type 0) (rows : List (List (List ℕ))) (i : ℕ) (row : List (List ℕ)) → i < length rows → row ≡ get_or rows i row → AllByRecursion P rows → P row
row_there P rows i row l at h = AllByRecursion-contains P rows row h (i, l, sym at)

map_there : {X Y : Type 0} (f : X → Y) (xs : List X) (i : ℕ) (d : Y) (e : X) → i < length xs → get_or (map f xs) i d ≡ f (get_or xs i e)
map_there f [] i d e l = absurd (omega arith)
map_there f (x ∷ xs) zero d e l = refl
map_there f (x ∷ xs) (suc i) d e l = map_there f xs i d e (omega arith)

pub configs_step : (sets : List (List ℕ)) (rows : List (List (List ℕ))) (i : ℕ) (row : List (List ℕ)) (config : List ℕ) (configs after : List (List ℕ)) → i < length rows → row ≡ get_or rows i row → config ≡ config_of sets row
    → configs ≡ list_set (take i (map (config_of sets) rows)) → length configs ≤ i → after ≡ with_list configs config
    → (after ≡ list_set (take (i + 1) (map (config_of sets) rows))) × (length after ≤ i + 1)
configs_step sets rows i row config configs after l at c e few a =
    let short : i < length (map (config_of sets) rows) = (let n = length-map' (config_of sets) rows in omega (arith, n, l)) in
    let there : get_or (map (config_of sets) rows) i config ≡ config_of sets row = map_there (config_of sets) rows i config row l ∙ ap (config_of sets) (sym at) in
    let longer : take (i + 1) (map (config_of sets) rows) ≡ take i (map (config_of sets) rows) ++ config_of sets row ∷ []
    = take_more (map (config_of sets) rows) i config short ∙ ap (λ p. take i (map (config_of sets) rows) ++ p ∷ []) there in
    let is : after ≡ list_set (take (i + 1) (map (config_of sets) rows))
    = a ∙ ap (with_list configs) c ∙ ap (λ w. with_list w (config_of sets row)) e ∙ sym (list_set_push (take i (map (config_of sets) rows)) (config_of sets row)) ∙ ap list_set (sym longer) in
    let most = length-with_list_most configs config in
    (is, subst (λ w. length w ≤ i + 1) (sym a) (omega (arith, most, few)))
