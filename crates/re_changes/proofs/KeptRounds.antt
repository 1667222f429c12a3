-- Merging and trimming keep in how many rounds a problem is solvable.
use Rattle.std.proofs.Common.{◌≡◌, ℕ, zero, suc, ◌<◌, List, [], ◌∷◌, ◌++◌, length, map, get_or, Option, None, Some, ◌↔◌, inl, inr, refl, sym, ap, ◌∙◌, subst, append-nil}
use Rattle.std.specs.Prelude.{Contains}
use Rattle.std.proofs.lemmas.List.{map-id}
use Rattle.re_labels.proofs.Rearranging.{Rearranged-refl, Rearranged-sym}
use Rattle.re_labels.specs.Configs.{image_at}
use Rattle.re_labels.specs.Rearranging.{Rearranged, chained, kept, swapped}
use Rattle.re_labels.proofs.Membership.{Contains-In, In, map-alike}
use Rattle.re_labels.proofs.Tests.{and-true}
use Rattle.re_labels.specs.Lists.{count_from}
use Rattle.re_laws.proofs.Covering.{IsProblem-without, Solvable-without}
use Rattle.re_laws.proofs.Relaxing.{Solvable-relaxed}
use Rattle.re_laws.specs.Algorithms.{Solvable}
use Rattle.re_problem.specs.NamedProblems.{IsNamedProblem, NamedProblem, unnamed}
use Rattle.re_problem.specs.Problems.{IsProblem}
use Rattle.re_problem.specs.Strength.{Covers}
use Rattle.re_labels.proofs.Goodness.{Has-Rearranged}
use Rattle.re_labels.proofs.Strengths.{stronger_first}
use Rattle.re_labels.specs.Constraints.{Constraint, Has, IsConstraint}
use Rattle.re_labels.specs.Strength.{IsAtLeastAsStrong, constraint_without}
use Rattle.re_changes.proofs.EqualLabels.{least-in_class}
use Rattle.re_changes.proofs.RenumberedProblems.{IsProblem-renumbered}
use Rattle.re_labels.proofs.ConstraintImages.{back-held, config-below, image-held, itself-held}
use Rattle.re_changes.proofs.MergedLabels.{covers-fact, covers-refl, covers-trans, merged-number}
use Rattle.re_changes.proofs.Numbering.{at_number}
use Rattle.re_changes.proofs.TrimmedProblems.{IsLabelSet-all_but, covered-by, covered-first, image-without, in-all_but, label-left, labels-left, trimmed-none, trimmed-some}
use Rattle.re_changes.specs.Classes.{least_equal}
use Rattle.re_changes.specs.Laws.{MergeRoundsLaw, TrimRoundsLaw}
use Rattle.re_changes.specs.Merging.{covers, merge_map, merged_of, unmerged}
use Rattle.re_changes.specs.Renumbering.{number_among, renumbered}
use Rattle.re_changes.specs.Trimming.{all_but, first_covered, named_without, trimmed}

-- ---- labels replaced by stronger ones
moved : (x : ℕ) (xs ys : List ℕ) → Rearranged (x ∷ (xs ++ ys)) (xs ++ x ∷ ys)
moved x [] ys = Rearranged-refl (x ∷ ys)
moved x (z ∷ xs) ys = chained swapped (kept (moved x xs ys))

all_stronger : (constraint : Constraint) (f : ℕ → ℕ) (labels done : List ℕ) → ((x : ℕ) → In x labels → IsAtLeastAsStrong constraint (f x) x) → Has constraint (labels ++ done) → Has constraint (map f labels ++ done)
all_stronger constraint f [] done strong h = h
all_stronger constraint f (x ∷ labels) done strong h =
    let first : Has constraint (f x ∷ (labels ++ done)) = stronger_first constraint x (f x) (labels ++ done) (strong x (inl refl)) h in
    Has-Rearranged constraint (Rearranged-sym (moved (f x) (map f labels) done))
    (all_stronger constraint f labels (f x ∷ done) (λ y i. strong y (inr i)) (Has-Rearranged constraint (moved (f x) labels done) first))

-- all labels of a configuration may be replaced at once
pub Has-stronger : (constraint : Constraint) (f : ℕ → ℕ) (config : List ℕ) → ((x : ℕ) → In x config → IsAtLeastAsStrong constraint (f x) x) → Has constraint config → Has constraint (map f config)
Has-stronger constraint f config strong h =
    subst (Has constraint) (append-nil (map f config)) (all_stronger constraint f config [] strong (subst (Has constraint) (sym (append-nil config)) h))

-- ---- problems that are numbered anew
module _ (stay images : List ℕ) (named : NamedProblem) (is : IsProblem (unnamed named))
    (active : (config : List ℕ) (x : ℕ) → In config named.active.configs → In x config → image_at images x < length stay)
    (passive : (config : List ℕ) (x : ℕ) → In config named.passive.configs → In x config → image_at images x < length stay) where
  -- where labels that stand for the images lead back, the problem is solvable in as many rounds
  pub Solvable-renumbered : (back : ℕ → ℕ)
      → ((config : List ℕ) → Contains named.active.configs config → Has named.active (map (λ x. back (image_at images x)) config))
      → ((config : List ℕ) → Contains named.passive.configs config → Has named.passive (map (λ x. back (image_at images x)) config))
      → (T : ℕ) → Solvable (unnamed (renumbered stay images named)) T ↔ Solvable (unnamed named) T
  Solvable-renumbered back active_back passive_back T = (
    Solvable-relaxed (unnamed (renumbered stay images named)) (unnamed named) back T (IsProblem-renumbered stay images named is active passive) (record {
      active_degree = refl;
      passive_degree = refl;
      active = back-held images named.active back active_back;
      passive = back-held images named.passive back passive_back;
    }),
    Solvable-relaxed (unnamed named) (unnamed (renumbered stay images named)) (image_at images) T is (record {
      active_degree = refl;
      passive_degree = refl;
      active = image-held images named.active;
      passive = image-held images named.passive;
    }),
  )

-- ---- merging
module _ (named : NamedProblem) (is : IsNamedProblem named) where
  -- the label that stays covers those that are merged into it
  covered : (x : ℕ) → x < length named.names → Covers (unnamed named) (get_or (unmerged named) (image_at (merge_map named) x) 0) x
  covered x l =
      let equal = (least-in_class (covers (unnamed named)) (length named.names) (covers-refl (unnamed named) is.problem) (covers-trans (unnamed named)) x l).1 in
      let two = and-true (covers (unnamed named) x (least_equal (covers (unnamed named)) (length named.names) x)) (covers (unnamed named) (least_equal (covers (unnamed named)) (length named.names) x) x) equal in
      subst (λ y. Covers (unnamed named) y x) (sym (merged-number named is x l).1) (covers-fact (unnamed named) (least_equal (covers (unnamed named)) (length named.names) x) x two.1)

  pub Solvable-merged : (T : ℕ) → Solvable (unnamed (merged_of named)) T ↔ Solvable (unnamed named) T
  Solvable-merged = Solvable-renumbered (unmerged named) (merge_map named) named is.problem
      (λ config x i j. (merged-number named is x (config-below (length named.names) named.active is.problem.active config x i j)).0)
      (λ config x i j. (merged-number named is x (config-below (length named.names) named.passive is.problem.passive config x i j)).0)
      (λ y. get_or (unmerged named) y 0)
      (λ config held. Has-stronger named.active (λ x. get_or (unmerged named) (image_at (merge_map named) x) 0) config
      (λ x j. (covered x (config-below (length named.names) named.active is.problem.active config x (Contains-In config named.active.configs held) j)).0)
      (itself-held (length named.names) named.active is.problem.active config held))
      (λ config held. Has-stronger named.passive (λ x. get_or (unmerged named) (image_at (merge_map named) x) 0) config
      (λ x j. (covered x (config-below (length named.names) named.passive is.problem.passive config x (Contains-In config named.passive.configs held) j)).1)
      (itself-held (length named.names) named.passive is.problem.passive config held))

pub merge_rounds_law : MergeRoundsLaw
merge_rounds_law named T is = Solvable-merged named is T

-- ---- leaving out one label
module _ (named : NamedProblem) (a : ℕ) where
  -- the labels that stay have their numbers
  same-label : (constraint : Constraint) → IsConstraint (length named.names) constraint → (config : List ℕ) → In config (constraint_without a constraint).configs
      → map (λ x. get_or (all_but a (length named.names)) (image_at (map (number_among (all_but a (length named.names))) (count_from 0 (length named.names))) x) 0) config ≡ config
  same-label constraint c config i =
      map-alike (λ x. get_or (all_but a (length named.names)) (image_at (map (number_among (all_but a (length named.names))) (count_from 0 (length named.names))) x) 0) (λ x. x) config
      (λ x held.
      let left = label-left (length named.names) a constraint c config x i (Contains-In x config held) in
      ap (λ k. get_or (all_but a (length named.names)) k 0) (image-without named a x left.0)
      ∙ (at_number (all_but a (length named.names)) x (IsLabelSet-all_but a (length named.names)).0 (in-all_but a (length named.names) x left.0 left.1)).1)
      ∙ map-id config

  pub same-held : (constraint : Constraint) → IsConstraint (length named.names) constraint → IsConstraint (length named.names) (constraint_without a constraint) → (config : List ℕ) → Contains (constraint_without a constraint).configs config
      → Has (constraint_without a constraint) (map (λ x. get_or (all_but a (length named.names)) (image_at (map (number_among (all_but a (length named.names))) (count_from 0 (length named.names))) x) 0) config)
  same-held constraint c left config held =
      subst (Has (constraint_without a constraint)) (sym (same-label constraint c config (Contains-In config (constraint_without a constraint).configs held)))
      (itself-held (length named.names) (constraint_without a constraint) left config held)

module _ (named : NamedProblem) (is : IsProblem (unnamed named)) (a : ℕ) (first : first_covered (unnamed named) ≡ Some a) where
  pub IsProblem-named_without : IsProblem (unnamed (named_without a named))
  IsProblem-named_without =
      IsProblem-renumbered (all_but a (length named.names)) (map (number_among (all_but a (length named.names))) (count_from 0 (length named.names)))
      (record { names = named.names; active = constraint_without a named.active; passive = constraint_without a named.passive })
      (IsProblem-without (unnamed named) a is) (labels-left named a named.active is.active) (labels-left named a named.passive is.passive)

  pub Solvable-named_without : (T : ℕ) → Solvable (unnamed (named_without a named)) T ↔ Solvable (unnamed named) T
  Solvable-named_without T =
      let (b, l, apart, passes) = covered-by (unnamed named) a (covered-first named a first).1 in
      let numbered = Solvable-renumbered (all_but a (length named.names)) (map (number_among (all_but a (length named.names))) (count_from 0 (length named.names)))
      (record { names = named.names; active = constraint_without a named.active; passive = constraint_without a named.passive })
      (IsProblem-without (unnamed named) a is) (labels-left named a named.active is.active) (labels-left named a named.passive is.passive)
      (λ y. get_or (all_but a (length named.names)) y 0)
      (same-held named a named.active is.active (IsProblem-without (unnamed named) a is).active) (same-held named a named.passive is.passive (IsProblem-without (unnamed named) a is).passive) T in
      let without = Solvable-without (unnamed named) a b T is apart (covers-fact (unnamed named) b a passes) in
      (λ h. without.1 (numbered.0 h), λ h. numbered.1 (without.0 h))

-- ---- all of them
Solvable-trimmed : (k : ℕ) (named : NamedProblem) → IsProblem (unnamed named) → (T : ℕ) → Solvable (unnamed (trimmed k named)) T ↔ Solvable (unnamed named) T
Solvable-trimmed zero named is T = (λ h. h, λ h. h)
Solvable-trimmed (suc k) named is T = go (first_covered (unnamed named)) refl (Solvable-trimmed k)
  where
    go : (o : Option ℕ) → first_covered (unnamed named) ≡ o → ((named : NamedProblem) → IsProblem (unnamed named) → (T : ℕ) → Solvable (unnamed (trimmed k named)) T ↔ Solvable (unnamed named) T)
        → Solvable (unnamed (trimmed (suc k) named)) T ↔ Solvable (unnamed named) T
    go None e further = subst (λ p. Solvable (unnamed p) T ↔ Solvable (unnamed named) T) (sym (trimmed-none (suc k) named e)) (λ h. h, λ h. h)
    go (Some a) e further =
        let more = further (named_without a named) (IsProblem-named_without named is a e) T in
        let one = Solvable-named_without named is a e T in
        subst (λ p. Solvable (unnamed p) T ↔ Solvable (unnamed named) T) (sym (trimmed-some k named a e)) (λ h. one.0 (more.0 h), λ h. more.1 (one.1 h))

pub trim_rounds_law : TrimRoundsLaw
trim_rounds_law named T is = Solvable-trimmed (length named.names) named is.problem T
