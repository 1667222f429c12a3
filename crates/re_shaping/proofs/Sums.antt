-- Sums over lists in another order, over images, and over sets.
use Rattle.std.proofs.Common.{◌≡◌, ℕ, suc, ◌+◌, ◌≤◌, ◌⊎◌, List, [], ◌∷◌, length, map, refl, sym, ap, ◌∙◌, arith, inl, inr}
use Rattle.std.specs.List.{sum_by}
use Rattle.std.proofs.lemmas.List.Sums.{sum_by-cons}
use Rattle.re_labels.specs.Rearranging.{Rearranged, chained, kept, swapped, unmoved}
use Rattle.re_labels.proofs.ListSets.{cases_of}
use Rattle.re_labels.proofs.Membership.{In}
use Rattle.re_labels.specs.ListSets.{list_set, with_list}
use Rattle.re_problem.proofs.ListSizes.{length-list_set}
use Rattle.re_labels.proofs.Insertions.{length-with_list_most}

-- a sum doesn't hang on the order
pub sum_by-Rearranged : {X : Type 0} (f : X → ℕ) {xs ys : List X} → Rearranged xs ys → sum_by f xs ≡ sum_by f ys
sum_by-Rearranged f unmoved = refl
sum_by-Rearranged f (kept {x = x} {xs = xs} {ys = ys} p) = sum_by-cons f x xs ∙ ap (λ s. f x + s) (sum_by-Rearranged f p) ∙ sym (sum_by-cons f x ys)
sum_by-Rearranged f (swapped {x = x} {y = y} {xs = xs}) = omega (arith, sum_by-cons f x (y ∷ xs), sum_by-cons f y xs, sum_by-cons f y (x ∷ xs), sum_by-cons f x xs)
sum_by-Rearranged f (chained p q) = sum_by-Rearranged f p ∙ sum_by-Rearranged f q

-- sums of terms that are equal
pub sum_by-alike : {X : Type 0} (f g : X → ℕ) (xs : List X) → ((x : X) → In x xs → f x ≡ g x) → sum_by f xs ≡ sum_by g xs
sum_by-alike f g [] same = refl
sum_by-alike f g (x ∷ xs) same =
    let here : f x ≡ g x = same x (inl refl) in
    let later : sum_by f xs ≡ sum_by g xs = sum_by-alike f g xs (λ y held. same y (inr held)) in
    omega (arith, sum_by-cons f x xs, sum_by-cons g x xs, here, later)

pub sum_by-map : {X Y : Type 0} (f : Y → ℕ) (g : X → Y) (xs : List X) → sum_by f (map g xs) ≡ sum_by (λ x. f (g x)) xs
sum_by-map f g [] = refl
sum_by-map f g (x ∷ xs) = sum_by-cons f (g x) (map g xs) ∙ ap (λ s. f (g x) + s) (sum_by-map f g xs) ∙ sym (sum_by-cons (λ y. f (g y)) x xs)

-- a list that comes into a set is new, or the set stays as long as it was
grown : (f : List ℕ → ℕ) (ks : List (List ℕ)) (c : List ℕ) → (sum_by f (with_list ks c) ≡ f c + sum_by f ks) ⊎ (length (with_list ks c) ≡ length ks)
grown f [] c = inl (sum_by-cons f c [])
grown f (k ∷ ks) c = elim (cases_of k ks c) [
  | inl b ↦ inl (ap (sum_by f) b.1 ∙ sum_by-cons f c (k ∷ ks))
  | inr (inl b) ↦ inr (ap length b.1)
  | inr (inr b) ↦ elim (grown f ks c) [
    | inl e ↦ inl (ap (sum_by f) b.1 ∙ omega (arith, sum_by-cons f k (with_list ks c), sum_by-cons f k ks, e))
    | inr e ↦ inr (ap length b.1 ∙ ap suc e)
  ]
]

-- the sum over a set of lists that are all different
pub sum-list_set : (f : List ℕ → ℕ) (cs : List (List ℕ)) → length cs ≤ length (list_set cs) → sum_by f (list_set cs) ≡ sum_by f cs
sum-list_set f [] few = refl
sum-list_set f (c ∷ cs) few = elim (grown f (list_set cs) c) [
  | inl e ↦ e ∙ ap (λ s. f c + s) (sum-list_set f cs (omega (arith, length-with_list_most (list_set cs) c, few))) ∙ sym (sum_by-cons f c cs)
  | inr e ↦ absurd (omega (arith, e, few, length-list_set cs))
]
