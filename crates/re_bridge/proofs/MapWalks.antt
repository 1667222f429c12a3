-- The loops of the walks over the images of the labels.
use Rattle.std.proofs.Common.{◌≡◌, ℕ, zero, suc, ◌<◌, ◌+◌, ◌-◌, Bool, true, false, cond, ltb, List, [], ◌∷◌, ◌++◌, length, take, None, Some, Option, refl, sym, ap, ◌∙◌, subst, arith, length-append}
use Rattle.std.proofs.lemmas.List.{take_at, take-take}
use Rattle.std.specs.Prelude.{MatchOption}
use Rattle.re_problem.specs.NamedProblems.{IsNamedProblem, NamedProblem}
use Rattle.re_walks.proofs.WalkLemmas.{Partial}
use Rattle.re_walks.specs.Walking.{Walk, following, found, nowhere, or_raised, raised, walk_from}
use Rattle.re_bridge.proofs.MapTests.{none-passes, passes-front}
use Rattle.re_bridge.specs.Reductions.{or_later, passes_into, reduction, walk_from_most, walk_into}

-- ---- the list to try next, without its last image
-- what a list is raised to begins as the list does
raised-front : (n : ℕ) (labels next : List ℕ) → raised n labels ≡ Some next → (k : ℕ) → suc k ≡ length next → (k < length labels) × (take k next ≡ take k labels)
raised-front n [] next some k e = absurd (let there : None ≡ Some next = some in cc)
raised-front n (x ∷ labels) next some k e = go (raised n labels) refl some (λ more f. raised-front n labels more f)
  where
    last : (b : Bool) → cond b (Some (suc x ∷ [])) None ≡ Some next → (k < suc (length labels)) × (take k next ≡ take k (x ∷ labels))
    last false h = absurd (let there : None ≡ Some next = h in cc)
    last true h =
        let is : suc x ∷ [] ≡ next = (let there : Some (suc x ∷ []) ≡ Some next = h in cc) in
        let none : k ≡ 0 = omega (arith, e, ap length is) in
        (omega (arith, none), ap (λ m. take m next) none ∙ sym (ap (λ m. take m (x ∷ labels)) none))

    deeper_in : (more : List ℕ) → x ∷ more ≡ next → ((k : ℕ) → suc k ≡ length more → (k < length labels) × (take k more ≡ take k labels)) → (j : ℕ) → k ≡ j → (k < suc (length labels)) × (take k next ≡ take k (x ∷ labels))
    deeper_in more is others zero f = (omega (arith, f), ap (λ m. take m next) f ∙ sym (ap (λ m. take m (x ∷ labels)) f))
    deeper_in more is others (suc j) f =
        let (short, same) = others j (omega (arith, e, f, ap length is)) in
        (omega (arith, f, short), ap (λ m. take m next) f ∙ ap (take (suc j)) (sym is) ∙ ap (λ l. x ∷ l) same ∙ sym (ap (λ m. take m (x ∷ labels)) f))

    go : (o : Option (List ℕ)) → o ≡ raised n labels → or_raised n x o ≡ Some next → ((more : List ℕ) → raised n labels ≡ Some more → (k : ℕ) → suc k ≡ length more → (k < length labels) × (take k more ≡ take k labels))
        → (k < suc (length labels)) × (take k next ≡ take k (x ∷ labels))
    go None f h others = last (ltb (suc x) n) h
    go (Some more) f h others = deeper_in more (let there : Some (x ∷ more) ≡ Some next = h in cc) (others more (sym f)) k refl

module _ (most : ℕ) (named : NamedProblem) where
  abbrev pub FrontPasses : List ℕ → Type 0
  FrontPasses images = passes_into most named (take (length images - 1) images) ≡ true

  -- the images before the last one pass
  pub front-next : (n : ℕ) (b : Bool) (images next : List ℕ) → b ≡ passes_into most named images → FrontPasses images → following n b images ≡ Some next → FrontPasses next
  front-next n true images next is front e = go (ltb 0 n) e
    where
      go : (t : Bool) → cond t (Some (images ++ 0 ∷ [])) None ≡ Some next → FrontPasses next
      go false h = absurd (let there : None ≡ Some next = h in cc)
      go true h =
          let same : images ++ 0 ∷ [] ≡ next = (let there : Some (images ++ 0 ∷ []) ≡ Some next = h in cc) in
          let one : length next - 1 ≡ length images = omega (arith, length-append images (0 ∷ []), ap length same) in
          ap (passes_into most named) (ap (λ k. take k next) one ∙ ap (take (length images)) (sym same) ∙ take_at images (0 ∷ []) (length images) refl) ∙ sym is
  front-next n false images next is front e = go (length next) refl
    where
      go : (m : ℕ) → m ≡ length next → FrontPasses next
      go zero f =
          let none : length next - 1 ≡ 0 = omega (arith, f) in
          ap (λ k. passes_into most named (take k next)) none ∙ passes-front most named (take (length images - 1) images) 0 front
      go (suc k) f =
          let (short, same) = raised-front n images next e k f in
          let one : length next - 1 ≡ k = omega (arith, f) in
          ap (passes_into most named) (ap (λ j. take j next) one ∙ same ∙ sym (take-take k (length images - 1) images (omega (arith, short))))
          ∙ passes-front most named (take (length images - 1) images) k front

-- ---- one walk after another
module _ (named : NamedProblem) (tries : ℕ) where
  one-less : (n most : ℕ) → most < n → n - most ≡ suc (n - (most + 1))
  one-less n most l = omega (arith, l)

  from_is : (n most : ℕ) → most < n → (w : Walk) → walk_into most named tries ≡ w → walk_from_most most (n - most) named tries ≡ or_later w (walk_from_most (most + 1) (n - (most + 1)) named tries)
  from_is n most l w e =
      let next : suc most ≡ most + 1 = omega arith in
      ap (λ m. walk_from_most most m named tries) (one-less n most l) ∙ (λ i. or_later (e i) (walk_from_most (next i) (n - (most + 1)) named tries))

  pub reduction-found : (most : ℕ) (images : List ℕ) → most < length named.names → reduction named tries ≡ walk_from_most most (length named.names - most) named tries → walk_into most named tries ≡ found images
      → reduction named tries ≡ found images
  reduction-found most images l so_far e = so_far ∙ from_is (length named.names) most l (found images) e

  pub reduction-on : (most : ℕ) → most < length named.names → reduction named tries ≡ walk_from_most most (length named.names - most) named tries → walk_into most named tries ≡ nowhere
      → reduction named tries ≡ walk_from_most (most + 1) (length named.names - (most + 1)) named tries
  reduction-on most l so_far e = so_far ∙ from_is (length named.names) most l nowhere e

-- ---- what a walk tells of its list
pub told-found : {V : Type 0} (items : V → List ℕ) (w : Walk) (o : Option V) (v : V) → o ≡ Some v → MatchOption o (w ≡ nowhere) (λ v. w ≡ found (items v)) → w ≡ found (items v)
told-found items w o v is told = subst (λ o. MatchOption o (w ≡ nowhere) (λ v. w ≡ found (items v))) is told

pub told-none : {V : Type 0} (items : V → List ℕ) (w : Walk) (o : Option V) → o ≡ None → MatchOption o (w ≡ nowhere) (λ v. w ≡ found (items v)) → w ≡ nowhere
told-none items w o is told = subst (λ o. MatchOption o (w ≡ nowhere) (λ v. w ≡ found (items v))) is told

-- ---- no image yet
pub front-none : (most : ℕ) (named : NamedProblem) (images : List ℕ) → IsNamedProblem named → images ≡ [] → FrontPasses most named images
front-none most named images is none = ap (λ l. passes_into most named (take (length l - 1) l)) none ∙ none-passes most named is

pub partial-none : (n : ℕ) (images : List ℕ) → images ≡ [] → Partial n n images
partial-none n images none = subst (Partial n n) (sym none) (record { low = tt; few = omega arith })

pub walk-none-yet : (most : ℕ) (named : NamedProblem) (tries : ℕ) (images : List ℕ) → images ≡ []
    → walk_into most named tries ≡ walk_from (passes_into most named) (length named.names) (length named.names) (tries - 0) (Some images)
walk-none-yet most named tries images none =
    let all : tries ≡ tries - 0 = omega arith in
    (λ i. walk_from (passes_into most named) (length named.names) (length named.names) (all i) (Some (sym none i)))
