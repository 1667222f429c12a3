-- The loops, and what is answered.
use Rattle.std.proofs.Common.{◌≡◌, ℕ, ◌<◌, ◌+◌, true, false, not, List, [], ◌∷◌, ◌++◌, append_assoc, map, get_or, Option, None, Some, sym, ap, ◌∙◌, subst, arith}
use Rattle.std.proofs.lemmas.List.{get_or-map, map-append}
use Rattle.re_labels.proofs.Membership.{get_or-count_from, length-count_from}
use Rattle.re_labels.specs.Lists.{count_from}
use Rattle.re_changes.proofs.Counted.{filter-next_in, filter-next_out}
use Rattle.re_labels.specs.Rows.{singles}
use Rattle.re_labels.specs.Sets.{has}
use Rattle.re_problem.specs.NamedProblems.{occurs}
use Rattle.re_labels.specs.Constraints.{Constraint}
use Rattle.re_problem.specs.Problems.{IsProblem, Problem}
use Rattle.re_problem.specs.Steps.{SetEntry}
use Rattle.re_check.specs.LabelsOver.{labels_over}
use Rattle.re_given.specs.Inputs.{IsInput, exchanged}
use Rattle.re_settings.proofs.Told.{fit_walk_law, upper_walk_law}
use Rattle.re_settings.specs.Fits.{IsFound, loose}
use Rattle.re_settings.specs.Laws.{IsAnswer, IsLeading, TellsGiven, TellsUpper}

-- what is found answers
pub answered : (problem input : Problem) (tries : ℕ) (o : Option (List (List ℕ))) → IsProblem problem → IsInput problem input → IsFound problem input tries o → IsAnswer problem input o
answered problem input tries None is is_input nothing = subst (TellsGiven problem input) nothing (fit_walk_law problem input tries is is_input)
answered problem input tries (Some sets) is is_input (labels, walked, are) =
    subst (λ s. IsAnswer problem input (Some s)) (sym are) (subst (TellsGiven problem input) walked (fit_walk_law problem input tries is is_input))

pub answered-by : (problem given input : Problem) (tries : ℕ) (o : Option (List (List ℕ))) → given ≡ input → IsProblem problem → IsInput problem input → IsFound problem given tries o → IsAnswer problem input o
answered-by problem given input tries o same is is_input found = answered problem input tries o is is_input (subst (λ (p : Problem). IsFound problem p tries o) same found)

-- the set at a place of a list that is filled in order
pub over-at : (f : ℕ → List ℕ) (sets : List (List ℕ)) (n k : ℕ) (set : List ℕ) → sets ≡ map f (count_from 0 n) → k < n → get_or sets k set ≡ f k
over-at f sets n k set are l =
    ap (λ s. get_or s k set) are ∙ get_or-map f (count_from 0 n) k 0 set (omega (arith, l, length-count_from 0 n))
    ∙ ap f (let e : get_or (count_from 0 n) k 0 ≡ 0 + k = get_or-count_from 0 n k 0 l in let z : get_or (count_from 0 n) k 0 ≡ k = omega (arith, e) in z)

-- the labels over each label, by equal entries
pub filled-with : (given entries : List SetEntry) (n : ℕ) (over : List (List ℕ)) → over ≡ map (labels_over given) (count_from 0 n) → given ≡ entries → over ≡ map (labels_over entries) (count_from 0 n)
filled-with given entries n over is same = is ∙ ap (λ es. map (labels_over es) (count_from 0 n)) same

-- ---- the labels that stand in no configuration
pub loose-more : (constraint : Constraint) (n : ℕ) (held : List ℕ) (old : List (List ℕ)) {before after : List (List ℕ)} → has held n ≡ occurs constraint n → has held n ≡ false → after ≡ before ++ (n ∷ []) ∷ []
    → before ≡ old ++ singles (loose constraint n) → after ≡ old ++ singles (loose constraint (n + 1))
loose-more constraint n held old same test push so_far =
    push ∙ ap (λ l. l ++ (n ∷ []) ∷ []) so_far ∙ append_assoc old (singles (loose constraint n)) ((n ∷ []) ∷ [])
    ∙ ap (λ l. old ++ l) (sym (map-append (λ x. x ∷ []) (loose constraint n) (n ∷ [])))
    ∙ ap (λ l. old ++ singles l) (sym (filter-next_in (λ label. not (occurs constraint label)) n (ap not (sym same ∙ test))))

pub loose-same : (constraint : Constraint) (n : ℕ) (held : List ℕ) (old : List (List ℕ)) {after : List (List ℕ)} → has held n ≡ occurs constraint n → has held n ≡ true → after ≡ old ++ singles (loose constraint n)
    → after ≡ old ++ singles (loose constraint (n + 1))
loose-same constraint n held old same test so_far =
    so_far ∙ ap (λ l. old ++ singles l) (sym (filter-next_out (λ label. not (occurs constraint label)) n (ap not (sym same ∙ test))))

-- ---- upper steps
leading : (before next : Problem) (tries : ℕ) (o : Option (List (List ℕ))) → IsProblem before → IsProblem next → next.active.degree ≡ before.passive.degree → next.passive.degree ≡ before.active.degree
    → IsFound before (exchanged next) tries o → IsLeading before next o
leading before next tries None is is_next active passive nothing = subst (TellsUpper before next) nothing (upper_walk_law before next tries is is_next active passive)
leading before next tries (Some sets) is is_next active passive (labels, walked, are) =
    subst (λ s. IsLeading before next (Some s)) (sym are) (subst (TellsUpper before next) walked (upper_walk_law before next tries is is_next active passive))

pub leading-by : (before given next : Problem) (tries : ℕ) (o : Option (List (List ℕ))) → given ≡ exchanged next → IsProblem before → IsProblem next → next.active.degree ≡ before.passive.degree → next.passive.degree ≡ before.active.degree
    → IsFound before given tries o → IsLeading before next o
leading-by before given next tries o same is is_next active passive found =
    leading before next tries o is is_next active passive (subst (λ (p : Problem). IsFound before p tries o) same found)
