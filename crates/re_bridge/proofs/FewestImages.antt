-- What the walks tell of all maps of a problem into itself.
use Rattle.std.proofs.Common.{◌≡◌, ℕ, zero, suc, ◌+◌, ◌<◌, ◌≤◌, List, length, Some, None, sym, ◌∙◌, subst, arith, ◌⊎◌, ◌↔◌, inl, inr, true≢false}
use Rattle.std.proofs.lemmas.Bool.{cases_lt}
use Rattle.re_labels.proofs.LeastLabels.{length-set}
use Rattle.re_labels.proofs.Replacing.{IsLabelSet-support_of}
use Rattle.re_labels.proofs.Tests.{below-cases}
use Rattle.re_laws.specs.Algorithms.{Solvable}
use Rattle.re_problem.specs.NamedProblems.{IsNamedProblem, NamedProblem, unnamed}
use Rattle.re_walks.proofs.WalkLemmas.{walk_law}
use Rattle.re_walks.specs.Walking.{IsFirst, NonePasses, Tells, Walk, cut, found, nowhere}
use Rattle.re_bridge.proofs.MapTests.{begin, map-passes, passes-map}
use Rattle.re_bridge.proofs.WithinLabels.{Solvable-within}
use Rattle.re_bridge.specs.Reductions.{IsEndomorphism, IsReduction, ReducedRoundsLaw, Reduces, ReductionLaw, image_set, or_later, passes_into, problem_within, reduced_by, reduction, walk_from_most, walk_into}

module _ (named : NamedProblem) (is : IsNamedProblem named) where
  abbrev NoneInto : ℕ → Type 0
  NoneInto most = NonePasses (passes_into most named) (length named.names) (length named.names)

  -- where no walk to fewer images finds a map, no map has fewer
  no_fewer : (most : ℕ) → ((j : ℕ) → j < most → NoneInto j) → (images : List ℕ) → IsEndomorphism named images → most ≤ length (image_set images)
  no_fewer most none images maps = elim (cases_lt (length (image_set images)) most) [
    | inl fewer ↦ absurd (true≢false (sym (map-passes named is (length (image_set images)) images maps (omega arith)) ∙ none (length (image_set images)) fewer images maps.assignment))
    | inr enough ↦ enough
  ]

  found_first : (most : ℕ) (images : List ℕ) → most < length named.names → ((j : ℕ) → j < most → NoneInto j) → IsFirst (passes_into most named) (length named.names) (length named.names) images → IsReduction named images
  found_first most images less none told =
      let (maps, few) = passes-map named is most images told.assignment told.meets in
      record {
        maps = maps;
        fewer = omega (arith, few, less);
        fewest = λ others other. omega (arith, few, no_fewer most none others other);
        first = λ others other before. elim (cases_lt (length (image_set images)) (length (image_set others))) [
          | inl more ↦ more
          | inr alike ↦ absurd (true≢false (sym (map-passes named is most others other (omega (arith, alike, few))) ∙ told.first others other.assignment before))
        ];
      }

  reduces-from : (tries most more : ℕ) → most + more ≡ length named.names → ((j : ℕ) → j < most → NoneInto j) → Reduces named (walk_from_most most more named tries)
  reduces-from tries most zero all none = λ images maps.
      omega (arith, all, no_fewer most none images maps, length-set (length named.names) (image_set images) (IsLabelSet-support_of (length named.names) images maps.assignment.1))
  reduces-from tries most (suc more) all none =
      go (walk_into most named tries) (walk_law (passes_into most named) (length named.names) (length named.names) tries (begin most named)) (walk_from_most (suc most) more named tries)
      (λ here. reduces-from tries (suc most) more (omega (arith, all)) (λ j l. next here j (below-cases j most (omega (arith, l)))))
    where
      next : NoneInto most → (j : ℕ) → (j < most) ⊎ (j ≡ most) → NoneInto j
      next here j (inl less) = none j less
      next here j (inr same) = subst NoneInto (sym same) here

      go : (w : Walk) → Tells (passes_into most named) (length named.names) (length named.names) w → (later : Walk) → (NoneInto most → Reduces named later) → Reduces named (or_later w later)
      go (found images) told later rest = found_first most images (omega (arith, all)) none told
      go nowhere told later rest = rest told
      go cut told later rest = tt

pub reduction_law : ReductionLaw
reduction_law named tries is = reduces-from named is tries 0 (length named.names) (omega arith) (λ j l. absurd (omega (arith, l)))

pub reduced_rounds_law : ReducedRoundsLaw
reduced_rounds_law named reduced tries T is e = go (reduction named tries) (reduction_law named tries is) e
  where
    go : (w : Walk) → Reduces named w → reduced_by named w ≡ Some reduced → Solvable (unnamed reduced) T ↔ Solvable (unnamed named) T
    go (found images) told h =
        let same : problem_within (image_set images) named ≡ reduced = (let there : Some (problem_within (image_set images) named) ≡ Some reduced = h in cc) in
        subst (λ p. Solvable (unnamed p) T ↔ Solvable (unnamed named) T) same (Solvable-within named is images told.maps T)
    go nowhere told h =
        let same : named ≡ reduced = (let there : Some named ≡ Some reduced = h in cc) in
        subst (λ p. Solvable (unnamed p) T ↔ Solvable (unnamed named) T) same (λ solvable. solvable, λ solvable. solvable)
    go cut told h = absurd (let there : None ≡ Some reduced = h in cc)
