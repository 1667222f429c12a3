-- Marks of literals that are false.
use Rattle.std.proofs.Common.{◌≡◌, ◌<◌, ℕ, Bool, true, false, List, get_or, length, set, Option, None, Some, sym, ◌∙◌, subst, ⊎_elim}
use Rattle.std.specs.List.{list_any}
use Rattle.std.proofs.lemmas.Bool.{cases_Bool, cases_eq, false≢true}
use Rattle.std.proofs.lemmas.List.{get_or-set_other}
use Rattle.std.proofs.lemmas.List.Folds.{list_any_at}
use Rattle.re_clauses.specs.Clauses.{holds}
use Rattle.re_clauses.specs.Implied.{AreFalse}

-- a clause of which no literal is true
pub none_at : (p : ℕ → Bool) (xs : List ℕ) (i : ℕ) → i < length xs → list_any p xs ≡ false → p (get_or xs i 0) ≡ false
none_at p xs i some none = ⊎_elim (λ is. absurd (false≢true (sym none ∙ list_any_at p xs i 0 some is))) (λ is. is) (cases_Bool (p (get_or xs i 0)))

-- one more mark
pub marked : (values : ℕ → Bool) (marks : List Bool) (literal : ℕ) → AreFalse values marks → holds values literal ≡ false → AreFalse values (set marks literal true)
marked values marks literal are none other is =
    ⊎_elim (λ same. subst (λ n. holds values n ≡ false) (sym same) none)
    (λ differs. are other (sym (get_or-set_other marks literal other true false differs) ∙ is))
    (cases_eq other literal)

-- whether the literal is true that is left, if any is
abbrev pub left_holds : (ℕ → Bool) → Option ℕ → Bool
left_holds values None = false
left_holds values (Some literal) = holds values literal
