-- Names in which one label has another name, and entries in the order of their labels, as a program makes them.
use Rattle.std.proofs.Common.{◌≡◌, ℕ, suc, ◌+◌, ◌<◌, ◌≤◌, Bool, true, false, not, eqb, List, [], ◌∷◌, ◌++◌, length, map, take, get_or, set, Some, refl, sym, ap, ◌∙◌, subst, arith}
use Rattle.std.proofs.lemmas.Grind.{flat_map-append}
use Rattle.std.proofs.lemmas.List.{append-nil, get_or_default, length-set, take_all}
use Rattle.std.specs.Prelude.{Contains, ◌&&◌, filter, flat_map}
use Rattle.std.specs.List.{AllByRecursion, list_any}
use Rattle.re_labels.proofs.Before.{same_list-refl, same_list-same}
use Rattle.re_labels.proofs.ListSets.{list_set-In}
use Rattle.re_labels.proofs.Membership.{AllByRecursion-from_In, Contains-In, In, In-Contains, In-map_from, any-In, any-In_from, count_from-last, length-map'}
use Rattle.re_labels.proofs.LabelPlaces.{get-place_of, place_of-below}
use Rattle.re_labels.proofs.Searching.{place_of-at}
use Rattle.re_labels.proofs.Tests.{eqb-same, eqb-true, same_tests}
use Rattle.re_labels.specs.Lists.{count_from, place_of, same_list}
use Rattle.re_labels.specs.ListSets.{list_set, with_list}
use Rattle.re_labels.specs.Names.{IsName, IsNames}
use Rattle.re_labels.specs.declared.TheConstants.{MAX_LABELS}
use Rattle.re_problem.proofs.NewNumbers.{named_in}
use Rattle.re_problem.specs.NamedProblems.{IsNamedProblem, NamedProblem, built}
use Rattle.re_problem.specs.Steps.{SetEntry}
use Rattle.re_labels.proofs.ConstraintImages.{config-below}
use Rattle.re_labels.proofs.Insertions.{list_set-step}
use Rattle.re_labels.specs.Constraints.{Constraint, IsConstraint}
use Rattle.re_shaping.proofs.NamedSteps.{named-built, named-names}
use Rattle.std.specs.Prelude.{if◌then◌else◌}
use Rattle.re_problem.specs.ItemSteps.{is_nil}
use Rattle.re_labels.specs.Configs.{image_at}
use Rattle.re_problem.specs.Steps.LowerMap.{by_set}
use Rattle.re_labels.specs.Constraints.{images_of}
use Rattle.re_changes.specs.Renumbering.{constraint_image}
use Rattle.re_cert.specs.Bounds.{BoundStep, entries_in, built as bound_built}
use Rattle.re_cert.specs.declared.certificate.Kind.{Kind}
use Rattle.re_shaping.proofs.ChangedLast.{built-some}
use Rattle.re_shaping.proofs.LastSteps.{chain_with-bound}
use Rattle.re_chains.specs.Chains.{chain_kind, chain_with}
use Rattle.re_shaping.specs.Chains.{HasLabelsBelow, entry_sent, sent_along, step_along}
use Rattle.re_shaping.specs.Naming.{by_label, name_numbers, named_map, named_problem, named_step, names_with}

-- ---- whether a name is taken
pub taken-some : (names : List (List ℕ)) (name : List ℕ) (label other : ℕ) → IsNames names → label < length names → Contains names name → other ≡ place_of names name
    → not (eqb other label) ≡ (list_any (same_list name) names && not (same_list name (get_or names label [])))
taken-some names name label other is l held place =
    let yes : list_any (same_list name) names ≡ true = any-In (same_list name) name names (Contains-In name names held) (same_list-refl name) in
    let same : eqb other label ≡ same_list name (get_or names label []) = same_tests (eqb other label) (same_list name (get_or names label []))
    (λ t. ap (same_list name) (ap (λ k. get_or names k []) (sym (eqb-true other label t) ∙ place) ∙ get-place_of names name held) ∙ same_list-refl name)
    (λ t. ap (λ k. eqb k label) (place ∙ place_of-at names label name is.ascends l (sym (same_list-same name (get_or names label []) t))) ∙ eqb-same label) in
    ap not same ∙ ap (λ t. t && not (same_list name (get_or names label []))) (sym yes)

pub taken-none : (names : List (List ℕ)) (name : List ℕ) (label : ℕ) → (Contains names name → ⊥) → false ≡ (list_any (same_list name) names && not (same_list name (get_or names label [])))
taken-none names name label free = ap (λ t. t && not (same_list name (get_or names label []))) (sym (go (list_any (same_list name) names) refl))
  where
    go : (b : Bool) → list_any (same_list name) names ≡ b → list_any (same_list name) names ≡ false
    go false e = e
    go true e = let (v, i, h) = any-In_from (same_list name) names e in absurd (free (In-Contains name names (subst (λ w. In w names) (sym (same_list-same name v h)) i)))

-- ---- the names in their order
pub names-more : (names : List (List ℕ)) (x : ℕ) (name : List ℕ) (i : ℕ) (kept : List (List ℕ)) (v : List ℕ) → i < length names → v ≡ get_or (set names x name) i [] → kept ≡ list_set (take i (set names x name))
    → with_list kept v ≡ list_set (take (i + 1) (set names x name))
names-more names x name i kept v l at so_far =
    let m : i < length (set names x name) = (let c = length-set names x name in omega arith) in
    ap (λ k. with_list k v) so_far ∙ sym (list_set-step (set names x name) i v m (at ∙ get_or_default (set names x name) i [] v m))

pub names-whole : (names : List (List ℕ)) (x : ℕ) (name : List ℕ) (i : ℕ) (kept : List (List ℕ)) → length names ≤ i → kept ≡ list_set (take i (set names x name)) → kept ≡ list_set (set names x name)
names-whole names x name i kept l so_far = so_far ∙ ap list_set (take_all i (set names x name) (let c = length-set names x name in omega arith))

pub name-there : (names renamed : List (List ℕ)) (x : ℕ) (name v : List ℕ) (i : ℕ) → i < length names → v ≡ get_or (set names x name) i [] → renamed ≡ list_set (set names x name) → Contains renamed v
name-there names renamed x name v i l at same =
    let m : i < length (set names x name) = (let c = length-set names x name in omega arith) in
    subst (λ (k : List (List ℕ)). Contains k v) (sym same) (In-Contains v (list_set (set names x name)) (list_set-In (set names x name) v (subst (λ w. In w (set names x name)) (sym at) (named_in (set names x name) i m))))

-- ---- the problem
module _ (x : ℕ) (name : List ℕ) (problem : NamedProblem) (is : IsNamedProblem problem) (below : x < length problem.names) (is_name : IsName name) (numbers : List ℕ) (t : numbers ≡ name_numbers x name problem) where
  count : length numbers ≡ length problem.names
  count = ap length t ∙ length-map' (place_of (list_set (names_with x name problem))) (names_with x name problem) ∙ length-set problem.names x name

  pub known : (constraint given : Constraint) → IsConstraint (length problem.names) constraint → given ≡ constraint → AllByRecursion (AllByRecursion (λ label. label < length numbers)) given.configs
  known constraint given fine same = subst (λ (k : Constraint). AllByRecursion (AllByRecursion (λ label. label < length numbers)) k.configs) (sym same)
      (AllByRecursion-from_In (AllByRecursion (λ label. label < length numbers)) constraint.configs (λ config i.
      AllByRecursion-from_In (λ label. label < length numbers) config (λ label j. let l = config-below (length problem.names) constraint fine config label i j in let c = count in omega arith)))

  pub numbers-below : AllByRecursion (λ image. image < MAX_LABELS) numbers
  numbers-below = AllByRecursion-from_In (λ image. image < MAX_LABELS) numbers (λ number i.
      let few = (named-names x name problem is below is_name).few in
      let low = at (subst (In number) t i) in
      omega arith)
    where
      at : {number : ℕ} → In number (name_numbers x name problem) → number < length (list_set (names_with x name problem))
      at i =
          let (v, j, e) = In-map_from (place_of (list_set (names_with x name problem))) _ (names_with x name problem) i in
          subst (λ k. k < length (list_set (names_with x name problem))) (sym e) (place_of-below (list_set (names_with x name problem)) v (In-Contains v (list_set (names_with x name problem)) (list_set-In (names_with x name problem) v j)))

-- ---- entries in the order of their labels
pub by_label-next : (n : ℕ) (entries : List SetEntry) → by_label (n + 1) entries ≡ by_label n entries ++ filter (λ (entry : SetEntry). eqb entry.label n) entries
by_label-next n entries =
    let f : ℕ → List SetEntry = λ label. filter (λ (entry : SetEntry). eqb entry.label label) entries in
    let e : n + 1 ≡ suc n = omega arith in
    let z : 0 + n ≡ n = omega arith in
    ap (λ k. flat_map (λ label. filter (λ (entry : SetEntry). eqb entry.label label) entries) (count_from 0 k)) e
    ∙ ap (flat_map (λ label. filter (λ (entry : SetEntry). eqb entry.label label) entries)) (count_from-last 0 n)
    ∙ flat_map-append (λ label. filter (λ (entry : SetEntry). eqb entry.label label) entries) (count_from 0 n) ((0 + n) ∷ [])
    ∙ ap (λ (l : List SetEntry). flat_map (λ label. filter (λ (entry : SetEntry). eqb entry.label label) entries) (count_from 0 n) ++ l)
    (append-nil (filter (λ (entry : SetEntry). eqb entry.label (0 + n)) entries) ∙ ap (λ k. filter (λ (entry : SetEntry). eqb entry.label k) entries) z)

pub by_label-more : (n i : ℕ) (entries before after : List SetEntry) → length entries ≤ i → before ≡ by_label n entries → after ≡ before ++ filter (λ (entry : SetEntry). eqb entry.label n) (take i entries) → after ≡ by_label (n + 1) entries
by_label-more n i entries before after l so_far e =
    e ∙ ap (λ (k : List SetEntry). before ++ filter (λ (entry : SetEntry). eqb entry.label n) k) (take_all i entries l)
    ∙ ap (λ (k : List SetEntry). k ++ filter (λ (entry : SetEntry). eqb entry.label n) entries) so_far ∙ sym (by_label-next n entries)

-- ---- what a program makes
constraint-made : (numbers numbers' : List ℕ) (given own made : Constraint) → given ≡ own → numbers ≡ numbers' → made.degree ≡ given.degree → made.configs ≡ images_of numbers given → made ≡ constraint_image numbers' own
constraint-made numbers numbers' given own made g t d c =
    (λ i. record { degree = (d ∙ ap (λ (k : Constraint). k.degree) g) i; configs = (c ∙ (λ j. images_of (t j) (g j))) i })

module _ (x : ℕ) (name : List ℕ) (problem : NamedProblem) (is : IsNamedProblem problem) (below : x < length problem.names) (numbers : List ℕ) (t : numbers ≡ name_numbers x name problem)
    (renamed : List (List ℕ)) (r : renamed ≡ list_set (names_with x name problem)) (given_active active given_passive passive : Constraint) (a : given_active ≡ problem.active) (p : given_passive ≡ problem.passive)
    (da : active.degree ≡ given_active.degree) (ca : active.configs ≡ images_of numbers given_active) (dp : passive.degree ≡ given_passive.degree) (cp : passive.configs ≡ images_of numbers given_passive) where
  pub built-made : built renamed active passive ≡ Some (named_problem x name problem)
  built-made =
      (λ i. built (r i) (constraint-made numbers (name_numbers x name problem) given_active problem.active active a t da ca i) (constraint-made numbers (name_numbers x name problem) given_passive problem.passive passive p t dp cp i))
      ∙ named-built x name problem is below

pub first-made : (k kind : Kind) (first problem : NamedProblem) (steps : List BoundStep) (renaming : List (ℕ × ℕ)) → kind ≡ chain_kind k → first ≡ problem → steps ≡ [] → renaming ≡ []
    → bound_built (record { kind = kind; back = 0; first = first; steps = steps; renaming = renaming }) ≡ Some (chain_with k problem [])
first-made k kind first problem steps renaming e f s r =
    (λ i. bound_built (record { kind = e i; back = 0; first = f i; steps = s i; renaming = r i })) ∙ built-some (chain_with k problem []) (chain_with-bound k problem [] refl refl refl)

pub not-nil : (given steps : List BoundStep) → given ≡ steps → false ≡ eqb (length given) 0 → is_nil steps ≡ false
not-nil given [] e h = let wrong : false ≡ true = h ∙ ap (λ (k : List BoundStep). eqb (length k) 0) e in cc
not-nil given (s ∷ steps) e h = refl

-- the new numbers by the names that a program reads
pub numbers-read : (x : ℕ) (name : List ℕ) (problem : NamedProblem) (names : List (List ℕ)) (numbers : List ℕ) → names ≡ problem.names → numbers ≡ map (place_of (list_set (set names x name))) (set names x name) → numbers ≡ name_numbers x name problem
numbers-read x name problem names numbers n e = e ∙ (λ i. map (place_of (list_set (set (n i) x name))) (set (n i) x name))

pub count-numbers : (x : ℕ) (name : List ℕ) (problem : NamedProblem) → length (name_numbers x name problem) ≡ length problem.names
count-numbers x name problem = length-map' (place_of (list_set (names_with x name problem))) (names_with x name problem) ∙ length-set problem.names x name

-- ---- the steps
pub lower-is : (x : ℕ) (name : List ℕ) (s : BoundStep) (numbers : List ℕ) (next : NamedProblem) → s.lower ≡ true → numbers ≡ name_numbers x name s.next → next ≡ named_problem x name s.next → step_along (image_at numbers) next s ≡ named_step x name s
lower-is x name s numbers next low t n =
    (λ i. step_along (image_at (t i)) (n i) s)
    ∙ ap (λ b. record { lower = s.lower; next = named_problem x name s.next; rows = s.rows; map = if b then sent_along (image_at (name_numbers x name s.next)) s.map else by_set (by_label (length s.next.names) (entries_in (sent_along (image_at (name_numbers x name s.next)) s.map))) }) (sym low)

module _ (x : ℕ) (name : List ℕ) (s : BoundStep) (before : NamedProblem) (entries given : List SetEntry) (numbers : List ℕ)
    (shape : s ≡ record { lower = false; next = before; rows = []; map = by_set entries }) (g : given ≡ entries) (t : numbers ≡ name_numbers x name s.next) where
  pub upper-known : HasLabelsBelow (length s.next.names) s.map → AllByRecursion (λ (entry : SetEntry). entry.label < length numbers) given
  upper-known below =
      subst (λ n. AllByRecursion (λ (entry : SetEntry). entry.label < n) given) (sym (ap length t ∙ count-numbers x name s.next))
      (subst (λ (k : List SetEntry). AllByRecursion (λ (entry : SetEntry). entry.label < length s.next.names) k) (sym g) (subst (λ (u : BoundStep). HasLabelsBelow (length s.next.names) u.map) shape below))

  pub upper-is : (next : NamedProblem) (n : ℕ) (sent again ordered : List SetEntry) → next ≡ named_problem x name s.next → n ≡ length s.next.names → sent ≡ map (entry_sent (image_at numbers)) given → again ≡ sent → ordered ≡ by_label n again
      → record { lower = false; next = next; rows = []; map = by_set ordered } ≡ named_step x name s
  upper-is next n sent again ordered e c m a o =
      let same : ordered ≡ by_label (length s.next.names) (entries_in (sent_along (image_at (name_numbers x name s.next)) s.map)) =
      o ∙ (λ i. by_label (c i) ((a ∙ m ∙ (λ j. map (entry_sent (image_at (t j))) (g j)) ∙ ap (λ (u : BoundStep). entries_in (sent_along (image_at (name_numbers x name s.next)) u.map)) (sym shape)) i)) in
      let low : false ≡ s.lower = ap (λ (u : BoundStep). u.lower) (sym shape) in
      let whole : by_set ordered ≡ named_map x name s =
      ap by_set same ∙ ap (λ b. if b then sent_along (image_at (name_numbers x name s.next)) s.map else by_set (by_label (length s.next.names) (entries_in (sent_along (image_at (name_numbers x name s.next)) s.map)))) low in
      (λ i. record { lower = (sym shape i).lower; next = e i; rows = (sym shape i).rows; map = whole i })
