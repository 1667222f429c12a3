-- A list with some elements left out, and lists of which any two elements stand in a relation.
use Rattle.std.proofs.Common.{◌≡◌, List, [], ◌∷◌, ◌++◌, map, refl, sym, ◌∙◌, subst, inl, inr, ◌⊎◌}
use Rattle.std.specs.Prelude.{Contains}
use Rattle.std.proofs.lemmas.List.Elements.{Contains-append_cases, Contains-append_left, Contains-append_right}
use Rattle.re_labels.proofs.Membership.{Contains-cases, Contains-here, Contains-later, Contains-map, Contains-map_cases, Contains-none}

-- the first list is the second with some elements left out
pub data Part {X : Type 0} : List X → List X → Type 0 where
  none : Part [] []
  left_out : {x : X} {xs ys : List X} → Part xs ys → Part xs (x ∷ ys)
  held : {x : X} {xs ys : List X} → Part xs ys → Part (x ∷ xs) (x ∷ ys)

pub part_empty : {X : Type 0} (ys : List X) → Part [] ys
part_empty [] = none
part_empty (y ∷ ys) = left_out (part_empty ys)

pub part_whole : {X : Type 0} (ys : List X) → Part ys ys
part_whole [] = none
part_whole (y ∷ ys) = held (part_whole ys)

pub part_trans : {X : Type 0} {xs ys zs : List X} → Part xs ys → Part ys zs → Part xs zs
part_trans h none = h
part_trans h (left_out i) = left_out (part_trans h i)
part_trans (left_out h) (held i) = left_out (part_trans h i)
part_trans (held h) (held i) = held (part_trans h i)

pub part_append : {X : Type 0} {xs ys us vs : List X} → Part xs ys → Part us vs → Part (xs ++ us) (ys ++ vs)
part_append none p = p
part_append (left_out h) p = left_out (part_append h p)
part_append (held h) p = held (part_append h p)

pub part_map : {X Y : Type 0} (f : X → Y) {xs ys : List X} → Part xs ys → Part (map f xs) (map f ys)
part_map f none = none
part_map f (left_out h) = left_out (part_map f h)
part_map f (held h) = held (part_map f h)

pub part_contains : {X : Type 0} {xs ys : List X} (z : X) → Part xs ys → Contains xs z → Contains ys z
part_contains z none at = at
part_contains z (left_out {x = x} {ys = ys} h) at = Contains-later z x ys (part_contains z h at)
part_contains z (held {x = x} {xs = xs} {ys = ys} h) at = elim (Contains-cases z x xs at) [
  | inl e ↦ subst (Contains (x ∷ ys)) (sym e) (Contains-here x ys)
  | inr there ↦ Contains-later z x ys (part_contains z h there)
]

-- of a list with a first element: without it, or with it
pub part_cases : {X : Type 0} {x : X} {xs us : List X} → Part us (x ∷ xs) → Part us xs ⊎ ((vs : List X) × (us ≡ x ∷ vs) × Part vs xs)
part_cases (left_out h) = inl h
part_cases (held {xs = vs} h) = inr (vs, refl, h)

pub part_of_none : {X : Type 0} {us : List X} → Part us [] → us ≡ []
part_of_none none = refl

-- any element stands in the relation to each later one
abbrev pub Pairwise : {X : Type 0} → (X → X → Type 0) → List X → Type 0
Pairwise R [] = Unit {0}
Pairwise R (x ∷ xs) = ((y : _) → Contains xs y → R x y) × Pairwise R xs

pub pairwise_part : {X : Type 0} (R : X → X → Type 0) {xs ys : List X} → Part xs ys → Pairwise R ys → Pairwise R xs
pairwise_part R none h = tt
pairwise_part R (left_out p) h = pairwise_part R p h.1
pairwise_part R (held p) h = ((λ y at. h.0 y (part_contains y p at)), pairwise_part R p h.1)

pub pairwise_append : {X : Type 0} (R : X → X → Type 0) (xs ys : List X) → Pairwise R xs → Pairwise R ys → ((x y : X) → Contains xs x → Contains ys y → R x y) → Pairwise R (xs ++ ys)
pairwise_append R [] ys h i across = i
pairwise_append R (x ∷ xs) ys h i across = (
  (λ y at. elim (Contains-append_cases xs ys y at) [ inl left ↦ h.0 y left | inr right ↦ across x y (Contains-here x xs) right ]),
  pairwise_append R xs ys h.1 i (λ z y at. across z y (Contains-later z x xs at)),
)

pub pairwise_left : {X : Type 0} (R : X → X → Type 0) (xs ys : List X) → Pairwise R (xs ++ ys) → Pairwise R xs
pairwise_left R [] ys h = tt
pairwise_left R (x ∷ xs) ys h = ((λ y at. h.0 y (Contains-append_left xs ys y at)), pairwise_left R xs ys h.1)

pub pairwise_right : {X : Type 0} (R : X → X → Type 0) (xs ys : List X) → Pairwise R (xs ++ ys) → Pairwise R ys
pairwise_right R [] ys h = h
pairwise_right R (x ∷ xs) ys h = pairwise_right R xs ys h.1

pub pairwise_across : {X : Type 0} (R : X → X → Type 0) (xs ys : List X) → Pairwise R (xs ++ ys) → (x y : X) → Contains xs x → Contains ys y → R x y
pairwise_across R [] ys h x y at at' = absurd (Contains-none x at)
pairwise_across R (z ∷ xs) ys h x y at at' = elim (Contains-cases x z xs at) [
  | inl e ↦ subst (λ w. R w y) (sym e) (h.0 y (Contains-append_right xs ys y at'))
  | inr there ↦ pairwise_across R xs ys h.1 x y there at'
]

pub pairwise_map : {X Y : Type 0} (R : X → X → Type 0) (S : Y → Y → Type 0) (f : X → Y) → ((x y : X) → R x y → S (f x) (f y)) → (xs : List X) → Pairwise R xs → Pairwise S (map f xs)
pairwise_map R S f to [] h = tt
pairwise_map R S f to (x ∷ xs) h = ((λ y at. each y (Contains-map_cases f xs y at)), pairwise_map R S f to xs h.1)
  where
    each : (y : _) → (z : _) × Contains xs z × (f z ≡ y) → S (f x) y
    each y (z, there, e) = subst (λ w. S (f x) w) e (to x z (h.0 z there))

-- and back, with what is known of the elements
pub pairwise_from : {X Y : Type 0} (R : X → X → Type 0) (S : Y → Y → Type 0) (f : X → Y) (xs : List X) → ((x y : X) → Contains xs x → Contains xs y → S (f x) (f y) → R x y) → Pairwise S (map f xs) → Pairwise R xs
pairwise_from R S f [] from h = tt
pairwise_from R S f (x ∷ xs) from h = (
  (λ y at. from x y (Contains-here x xs) (Contains-later y x xs at) (h.0 (f y) (Contains-map f xs y at))),
  pairwise_from R S f xs (λ y z at at'. from y z (Contains-later y x xs at) (Contains-later z x xs at')) h.1,
)

pub pairwise_with : {X : Type 0} (R S : X → X → Type 0) (xs : List X) → ((x y : X) → Contains xs x → Contains xs y → R x y → S x y) → Pairwise R xs → Pairwise S xs
pairwise_with R S [] to h = tt
pairwise_with R S (x ∷ xs) to h = (
  (λ y at. to x y (Contains-here x xs) (Contains-later y x xs at) (h.0 y at)),
  pairwise_with R S xs (λ y z at at'. to y z (Contains-later y x xs at) (Contains-later z x xs at')) h.1,
)

-- any two elements are one, or stand in the relation in one of the two ways
pub pairwise_two : {X : Type 0} (R : X → X → Type 0) (xs : List X) → Pairwise R xs → (x y : X) → Contains xs x → Contains xs y → (x ≡ y) ⊎ R x y ⊎ R y x
pairwise_two R [] h x y at at' = absurd (Contains-none x at)
pairwise_two R (z ∷ xs) h x y at at' = elim (Contains-cases x z xs at) [
  | inl e ↦ elim (Contains-cases y z xs at') [
    | inl e' ↦ inl (e ∙ sym e')
    | inr there' ↦ inr (inl (subst (λ w. R w y) (sym e) (h.0 y there')))
  ]
  | inr there ↦ elim (Contains-cases y z xs at') [
    | inl e' ↦ inr (inr (subst (λ w. R w x) (sym e') (h.0 x there)))
    | inr there' ↦ pairwise_two R xs h.1 x y there there'
  ]
]
