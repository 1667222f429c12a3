-- What a verdict on a map names, and what is written of it.
use Rattle.std.proofs.Common.{◌≡◌, ℕ, zero, suc, ◌<◌, ◌≤◌, ◌+◌, Bool, true, false, cond, List, [], ◌∷◌, length, Option, None, Some, Ok, refl, sym, ap, ◌∙◌, subst, arith}
use Rattle.std.specs.List.{AllByRecursion, find}
use Rattle.std.specs.Prelude.{option_map}
use Rattle.re_labels.specs.Rows.{singles}
use Rattle.re_labels.specs.Lists.{count_from}
use Rattle.re_labels.specs.declared.sides.Side.{Side}
use Rattle.re_texts.specs.MapTexts.{map_text}
use Rattle.re_texts.specs.declared.entries.MapKind.TheVariants.{Labels}
use Rattle.re_labels.specs.declared.sides.Side.TheVariants.{Active as ActiveSide, Passive as PassiveSide}
use Rattle.re_problem.specs.Verdicts.{first_empty, first_lost, first_not_allowed, first_not_good, first_twice, first_violation, has_degrees, larger, relaxation_verdict, renaming_verdict, restriction_verdict, unless}
use Rattle.re_problem.specs.declared.verdict.MapVerdict.{MapVerdict}
use Rattle.re_problem.specs.declared.verdict.MapVerdict.TheVariants.{Active, Count, Degrees, Empty, Passive, Twice}
use Rattle.re_problem.specs.NamedProblems.{IsNamedProblem, NamedProblem, unnamed}
use Rattle.re_words.specs.Mapping.{IsNamedVerdict, labels_in, map_outcome, mapped, mapping_outcome}
use Rattle.re_words.specs.declared.command.Mapping.TheVariants.{Relax, Rename}
use Rattle.re_labels.proofs.ConstraintImages.{configs-below}

-- ---- what a verdict names
abbrev IsNamedOption : ℕ → Option MapVerdict → Type 0
IsNamedOption n None = Unit {0}
IsNamedOption n (Some verdict) = IsNamedVerdict n verdict

first_named : (n : ℕ) (violations : List (Option MapVerdict)) → AllByRecursion (IsNamedOption n) violations → IsNamedVerdict n (first_violation violations)
first_named n [] h = tt
first_named n (None ∷ others) h = first_named n others h.1
first_named n (Some verdict ∷ others) h = h.0

found_config : (n : ℕ) (test : List ℕ → Bool) (make : List ℕ → MapVerdict) → ((config : List ℕ) → AllByRecursion (λ label. label < n) config → IsNamedVerdict n (make config)) → (configs : List (List ℕ))
    → AllByRecursion (AllByRecursion (λ label. label < n)) configs → IsNamedOption n (option_map make (find test configs))
found_config n test make f [] h = tt
found_config n test make f (config ∷ configs) h = go (test config) (found_config n test make f configs h.1)
  where
    go : (b : Bool) → IsNamedOption n (option_map make (find test configs)) → IsNamedOption n (option_map make (cond b (Some config) (find test configs)))
    go true rest = f config h.0
    go false rest = rest

found_label : (n : ℕ) (test : ℕ → Bool) (make : ℕ → MapVerdict) → ((label : ℕ) → label < n → IsNamedVerdict n (make label)) → (lo k : ℕ) → lo + k ≤ n
    → IsNamedOption n (option_map make (find test (count_from lo k)))
found_label n test make f lo zero l = tt
found_label n test make f lo (suc k) l = go (test lo) (found_label n test make f (suc lo) k (omega arith))
  where
    go : (b : Bool) → IsNamedOption n (option_map make (find test (count_from (suc lo) k))) → IsNamedOption n (option_map make (cond b (Some lo) (find test (count_from (suc lo) k))))
    go true rest = f lo (omega arith)
    go false rest = rest

degrees_named : (n : ℕ) (b : Bool) → IsNamedOption n (unless b Degrees)
degrees_named n true = tt
degrees_named n false = tt

count_named : (n : ℕ) (o : Option Side) → IsNamedOption n (option_map Count o)
count_named n None = tt
count_named n (Some side) = tt

pub relaxation_named : (from to : NamedProblem) (images : List ℕ) (n : ℕ) → n ≡ length from.names → IsNamedProblem from → IsNamedVerdict n (relaxation_verdict (unnamed from) (unnamed to) images)
relaxation_named from to images n e is = subst (λ m. IsNamedVerdict m (relaxation_verdict (unnamed from) (unnamed to) images)) (sym e)
    (first_named (length from.names)
    (unless (has_degrees (unnamed to) from.active.degree from.passive.degree) Degrees ∷ option_map Active (first_lost images from.active to.active) ∷ option_map Passive (first_lost images from.passive to.passive) ∷ []) (
      degrees_named (length from.names) _,
      (
        found_config (length from.names) _ Active (λ config h. h) from.active.configs (configs-below (length from.names) from.active is.problem.active),
        (found_config (length from.names) _ Passive (λ config h. h) from.passive.configs (configs-below (length from.names) from.passive is.problem.passive), tt),
      ),
    ))

pub renaming_named : (from to : NamedProblem) (images : List ℕ) (n : ℕ) → n ≡ length from.names → length images ≡ length from.names → IsNamedProblem from → IsNamedVerdict n (renaming_verdict (unnamed from) (unnamed to) images)
renaming_named from to images n e l is = subst (λ m. IsNamedVerdict m (renaming_verdict (unnamed from) (unnamed to) images)) (sym e)
    (first_named (length from.names)
    (unless (has_degrees (unnamed to) from.active.degree from.passive.degree) Degrees ∷ option_map Twice (first_twice images) ∷ option_map Active (first_lost images from.active to.active)
    ∷ option_map Passive (first_lost images from.passive to.passive) ∷ option_map Count (larger ActiveSide from.active to.active) ∷ option_map Count (larger PassiveSide from.passive to.passive) ∷ []) (
      degrees_named (length from.names) _,
      (
        found_label (length from.names) _ Twice (λ label h. h) 0 (length images) (omega (arith, l)),
        (
          found_config (length from.names) _ Active (λ config h. h) from.active.configs (configs-below (length from.names) from.active is.problem.active),
          (
            found_config (length from.names) _ Passive (λ config h. h) from.passive.configs (configs-below (length from.names) from.passive is.problem.passive),
            (count_named (length from.names) (larger ActiveSide from.active to.active), (count_named (length from.names) (larger PassiveSide from.passive to.passive), tt)),
          ),
        ),
      ),
    ))

pub restriction_named : (from to : NamedProblem) (sets : List (List ℕ)) (n : ℕ) → n ≡ length to.names → length sets ≡ length to.names → IsNamedProblem to → IsNamedVerdict n (restriction_verdict (unnamed from) (unnamed to) sets)
restriction_named from to sets n e l is = subst (λ m. IsNamedVerdict m (restriction_verdict (unnamed from) (unnamed to) sets)) (sym e)
    (first_named (length to.names)
    (unless (has_degrees (unnamed to) from.passive.degree from.active.degree) Degrees ∷ option_map Empty (first_empty sets) ∷ option_map Active (first_not_good sets to.active from.passive)
    ∷ option_map Passive (first_not_allowed sets to.passive from.active) ∷ []) (
      degrees_named (length to.names) _,
      (
        found_label (length to.names) _ Empty (λ label h. h) 0 (length sets) (omega (arith, l)),
        (
          found_config (length to.names) _ Active (λ config h. h) to.active.configs (configs-below (length to.names) to.active is.problem.active),
          (found_config (length to.names) _ Passive (λ config h. h) to.passive.configs (configs-below (length to.names) to.passive is.problem.passive), tt),
        ),
      ),
    ))

-- ---- what is written of it
labels_back : (labels : List ℕ) → labels_in (singles labels) ≡ labels
labels_back [] = refl
labels_back (x ∷ labels) = ap (λ l. x ∷ l) (labels_back labels)

pub relax_is : (bytes : List ℕ) (from to : NamedProblem) (images : List ℕ) (names : List (List ℕ)) (verdict : MapVerdict) → map_text Labels bytes ≡ Ok (record { from = from; to = to; images = singles images })
    → verdict ≡ relaxation_verdict (unnamed from) (unnamed to) images → names ≡ from.names → map_outcome names verdict ≡ mapping_outcome Relax bytes
unfolding mapping_outcome
relax_is bytes from to images names verdict t v n =
    ap (λ l. map_outcome l verdict) n ∙ ap (map_outcome from.names) (v ∙ ap (relaxation_verdict (unnamed from) (unnamed to)) (sym (labels_back images))) ∙ ap (mapped Relax) (sym t)

pub rename_is : (bytes : List ℕ) (from to : NamedProblem) (images : List ℕ) (names : List (List ℕ)) (verdict : MapVerdict) → map_text Labels bytes ≡ Ok (record { from = from; to = to; images = singles images })
    → verdict ≡ renaming_verdict (unnamed from) (unnamed to) images → names ≡ from.names → map_outcome names verdict ≡ mapping_outcome Rename bytes
unfolding mapping_outcome
rename_is bytes from to images names verdict t v n =
    ap (λ l. map_outcome l verdict) n ∙ ap (map_outcome from.names) (v ∙ ap (renaming_verdict (unnamed from) (unnamed to)) (sym (labels_back images))) ∙ ap (mapped Rename) (sym t)
