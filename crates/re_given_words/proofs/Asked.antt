-- More clauses, and what values have to meet so that they satisfy these, too.
use Rattle.std.proofs.Common.{◌≡◌, ℕ, zero, suc, ◌+◌, ◌-◌, ◌<◌, Bool, true, false, not, ◌⊎◌, inl, inr, List, [], ◌∷◌, ◌++◌, length, map, get_or, refl, sym, ap, ◌∙◌, subst, arith}
use Rattle.std.proofs.lemmas.List.{get_or_default}
use Rattle.std.proofs.lemmas.List.Folds.{list_any-append}
use Rattle.std.specs.List.{AllByRecursion}
use Rattle.re_clauses.specs.Clauses.{Satisfies, holds, satisfies}
use Rattle.re_labels.proofs.Membership.{all-push}
use Rattle.re_labels.proofs.Tests.{or-left, or-right}
use Rattle.re_labels.specs.Lists.{count_from}
use Rattle.re_given_words.specs.Asking.{AreMore}

pub more-push : (clauses more : List (List ℕ)) (clause : List ℕ) (Condition : (ℕ → Bool) → Type 0) → more ≡ clauses ++ clause ∷ []
    → ((values : ℕ → Bool) → Condition values → satisfies values clause ≡ true) → AreMore clauses more Condition
more-push clauses more clause Condition same truth = λ values met satisfied.
    subst (Satisfies values) (sym same) (all-push (λ clause. satisfies values clause ≡ true) clauses clause satisfied (truth values met))

-- a clause of two literals: where the one variable holds, so does the other
pub implied : (values : ℕ → Bool) (one other : ℕ) (a b : Bool) → holds values one ≡ not a → holds values other ≡ b → (a ≡ true → b ≡ true) → satisfies values (one ∷ other ∷ []) ≡ true
implied values one other true b is is_too follows = or-right (holds values one) (satisfies values (other ∷ [])) (or-left (holds values other) false (is_too ∙ follows refl))
implied values one other false b is is_too follows = or-left (holds values one) (satisfies values (other ∷ [])) is

pub satisfied-more : (values : ℕ → Bool) (literals more : List ℕ) (literal : ℕ) → more ≡ literals ++ literal ∷ [] → (satisfies values literals ≡ true) ⊎ (holds values literal ≡ true) → satisfies values more ≡ true
satisfied-more values literals more literal same either =
    ap (satisfies values) same ∙ list_any-append (holds values) literals (literal ∷ []) ∙ elim either [
      | inl some ↦ or-left (satisfies values literals) (satisfies values (literal ∷ [])) some
      | inr last ↦ or-right (satisfies values literals) (satisfies values (literal ∷ [])) (or-left (holds values literal) false last)
    ]

-- ---- lists of tuples
pub all-both : {X : Type 0} (P : X → Type 0) (xs ys more : List X) → AllByRecursion P xs → AllByRecursion P ys → more ≡ xs ++ ys → AllByRecursion P more
all-both P xs ys more some others same = subst (AllByRecursion P) (sym same) (go xs some)
  where
    go : (xs : List _) → AllByRecursion P xs → AllByRecursion P (xs ++ ys)
    go [] some = others
    go (x ∷ xs) some = (some.0, go xs some.1)

pub tuples-more : (P Q : List ℕ → Type 0) (all others more : List (List ℕ)) (number : ℕ) → AllByRecursion P all → AllByRecursion Q others → ((tuple : List ℕ) → Q tuple → P (number ∷ tuple))
    → more ≡ all ++ map (λ tuple. number ∷ tuple) others → AllByRecursion P more
tuples-more P Q all others more number some behind step same = all-both P all (map (λ tuple. number ∷ tuple) others) more some (go others behind) same
  where
    go : (others : List (List ℕ)) → AllByRecursion Q others → AllByRecursion P (map (λ tuple. number ∷ tuple) others)
    go [] behind = tt
    go (tuple ∷ others) behind = (step tuple behind.0, go others behind.1)

pub count_from-first : (i n : ℕ) → 0 < n → count_from i n ≡ i ∷ count_from (i + 1) (n - 1)
count_from-first i zero low = absurd (omega (arith, low))
count_from-first i (suc n) low = λ j. i ∷ count_from (one j) (less j)
  where
    one : suc i ≡ i + 1
    one = omega arith

    less : n ≡ suc n - 1
    less = omega arith

-- the element at a place, however it is read
pub read : (xs : List (List ℕ)) (i : ℕ) (x y : List ℕ) → i < length xs → x ≡ get_or xs i x → y ≡ x → get_or xs i [] ≡ y
read xs i x y low is same = get_or_default xs i [] x low ∙ sym is ∙ sym same
