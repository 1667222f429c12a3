-- A walk over the choices, one label after another.
use Rattle.std.proofs.Common.{◌≡◌, ℕ, Bool, true, false, cond, List, [], ◌∷◌, ◌++◌, map, refl, sym, ap, ◌∙◌, subst, Some, None, Option, append_assoc, true≢false}
use Rattle.std.specs.Prelude.{find}
use Rattle.std.specs.Option.{option_map}
use Rattle.re_choice.specs.FirstChoice.{IsDrawn}
use Rattle.re_labels.proofs.LeastLabels.{first-is}
use Rattle.re_labels.specs.Rows.{choices}
use Rattle.re_labels.specs.Sets.{IsLabelSet, first_of, without_label}
use Rattle.re_labels.specs.declared.TheConstants.{MAX_LABELS}

pub find-map : {X Y : Type 0} (p : Y → Bool) (f : X → Y) (xs : List X) → find p (map f xs) ≡ option_map f (find (λ x. p (f x)) xs)
find-map p f [] = refl
find-map {X} {Y} p f (x ∷ xs) = go (p (f x)) (find-map p f xs)
  where
    go : (b : Bool) → find p (map f xs) ≡ option_map f (find (λ x. p (f x)) xs) → cond b (Some (f x)) (find p (map f xs)) ≡ option_map f (cond b (Some x) (find (λ x. p (f x)) xs))
    go true rest = refl
    go false rest = rest

-- the first of two, where there is one
abbrev pub first_some : Option (List ℕ) → Option (List ℕ) → Option (List ℕ)
first_some None other = other
first_some (Some x) other = Some x

-- the labels of the first choice that passes behind the drawn ones
abbrev pub first_passing : (List ℕ → Bool) → List ℕ → List (List ℕ) → Option (List ℕ)
first_passing passes drawn sets = find (λ labels. passes (drawn ++ labels)) (choices sets)

-- the choices with the first label of the first set come first
pub step : (passes : List ℕ → Bool) (drawn : List ℕ) (x : ℕ) (s : List ℕ) (others : List (List ℕ))
    → first_passing passes drawn ((x ∷ s) ∷ others) ≡ first_some (option_map (λ labels. x ∷ labels) (first_passing passes (drawn ++ x ∷ []) others)) (first_passing passes drawn (s ∷ others))
step passes drawn x s others =
    let p = λ (labels : List ℕ). passes (drawn ++ labels) in
    let q = λ (labels : List ℕ). passes ((drawn ++ x ∷ []) ++ labels) in
    let same : find (λ labels. p (x ∷ labels)) (choices others) ≡ find q (choices others) = (λ i. find (λ labels. passes (sym (append_assoc drawn (x ∷ []) labels) i)) (choices others)) in
    joined p (map (λ labels. x ∷ labels) (choices others)) (choices (s ∷ others))
    ∙ ap (λ o. first_some o (find p (choices (s ∷ others)))) (find-map p (λ labels. x ∷ labels) (choices others) ∙ ap (option_map (λ labels. x ∷ labels)) same)
  where
    joined : (p : List ℕ → Bool) (xs ys : List (List ℕ)) → find p (xs ++ ys) ≡ first_some (find p xs) (find p ys)
    joined p [] ys = refl
    joined p (z ∷ xs) ys = go (p z) (joined p xs ys)
      where
        go : (b : Bool) → find p (xs ++ ys) ≡ first_some (find p xs) (find p ys) → cond b (Some z) (find p (xs ++ ys)) ≡ first_some (cond b (Some z) (find p xs)) (find p ys)
        go true rest = refl
        go false rest = rest

-- the same of a set with its least label
pub whole : (passes : List ℕ → Bool) (drawn first : List ℕ) (others : List (List ℕ)) (label : ℕ) → IsLabelSet MAX_LABELS first → first_of first ≡ Some label
    → first_passing passes drawn (first ∷ others) ≡ first_some (option_map (λ labels. label ∷ labels) (first_passing passes (drawn ++ label ∷ []) others)) (first_passing passes drawn (without_label first label ∷ others))
whole passes drawn first others label set found =
    ap (λ s. first_passing passes drawn (s ∷ others)) (first-is first label set.0 found) ∙ step passes drawn label (without_label first label) others

module _ (passes : List ℕ → Bool) (drawn next first : List ℕ) (others : List (List ℕ)) (label : ℕ) (set : IsLabelSet MAX_LABELS first)
    (found : first_of first ≡ Some label) (pushed : next ≡ drawn ++ label ∷ []) where
  -- a choice behind the label that was drawn is the first choice
  pub drawn_here : (new : List ℕ) (r : Bool) → r ≡ true → IsDrawn (first_passing passes next others) next r new → IsDrawn (first_passing passes drawn (first ∷ others)) drawn true new
  drawn_here new r is here = subst (λ o. IsDrawn o drawn true new) (sym (whole passes drawn first others label set found)) (go (first_passing passes next others) (ap (λ l. first_passing passes l others) pushed) here)
    where
      go : (o : Option (List ℕ)) → o ≡ first_passing passes (drawn ++ label ∷ []) others → IsDrawn o next r new
          → IsDrawn (first_some (option_map (λ labels. label ∷ labels) (first_passing passes (drawn ++ label ∷ []) others)) (first_passing passes drawn (without_label first label ∷ others))) drawn true new
      go None e h = absurd (true≢false (sym is ∙ h.0))
      go (Some labels) e h = subst (λ o. IsDrawn (first_some (option_map (λ labels. label ∷ labels) o) (first_passing passes drawn (without_label first label ∷ others))) drawn true new) e
          (refl, h.1 ∙ (ap (λ l. l ++ labels) pushed ∙ append_assoc drawn (label ∷ []) labels))

  -- and where there is none, it is that of the set without the label
  pub drawn_later : (mid back rest new : List ℕ) (r r' : Bool) → r ≡ false → IsDrawn (first_passing passes next others) next r mid → back ≡ drawn → rest ≡ without_label first label
      → IsDrawn (first_passing passes back (rest ∷ others)) back r' new → IsDrawn (first_passing passes drawn (first ∷ others)) drawn r' new
  drawn_later mid back rest new r r' is here same less later =
      subst (λ o. IsDrawn o drawn r' new) (sym (whole passes drawn first others label set found)) (go (first_passing passes next others) (ap (λ l. first_passing passes l others) pushed) here)
    where
      later' : IsDrawn (first_passing passes drawn (without_label first label ∷ others)) drawn r' new
      later' = subst (λ s. IsDrawn (first_passing passes drawn (s ∷ others)) drawn r' new) less (subst (λ l. IsDrawn (first_passing passes l (rest ∷ others)) l r' new) same later)

      go : (o : Option (List ℕ)) → o ≡ first_passing passes (drawn ++ label ∷ []) others → IsDrawn o next r mid
          → IsDrawn (first_some (option_map (λ labels. label ∷ labels) (first_passing passes (drawn ++ label ∷ []) others)) (first_passing passes drawn (without_label first label ∷ others))) drawn r' new
      go None e h = subst (λ o. IsDrawn (first_some (option_map (λ labels. label ∷ labels) o) (first_passing passes drawn (without_label first label ∷ others))) drawn r' new) e later'
      go (Some labels) e h = absurd (true≢false (sym h.0 ∙ is))

-- what the whole walk leaves
pub chosen_some : (o : Option (List ℕ)) (new : List ℕ) (r : Bool) → r ≡ true → IsDrawn o [] r new → Some new ≡ o
chosen_some None new r is h = absurd (true≢false (sym is ∙ h.0))
chosen_some (Some labels) new r is h = ap Some h.1
