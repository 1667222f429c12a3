-- Nodes at the greatest depth of a search for a fixed point, with more labels than a way back may have.
use Rattle.std.proofs.Common.{◌≡◌, ℕ, zero, suc, ◌+◌, ◌-◌, ◌<◌, ◌≤◌, Bool, true, false, cond, not, eqb, leb, List, [], ◌∷◌, ◌++◌, length, flat_map, get_or, Option, None, Result, Ok, Err, refl, sym, ap, ◌∙◌, subst, arith, append-nil, inl, inr, length-append, ◌&&◌}
use Rattle.std.specs.Prelude.{is_some, if◌then◌else◌, option_map}
use Rattle.std.proofs.lemmas.Bool.Decides.{eqb_tells, nat_tests}
use Rattle.std.proofs.lemmas.List.{get_or_append_left, map-append}
use Rattle.re_labels.proofs.Before.{three_ways}
use Rattle.std.proofs.lemmas.List.Elements.{Contains-get_or}
use Rattle.re_labels.proofs.Membership.{Contains-In, In, length-map'}
use Rattle.re_labels.proofs.Tests.{eqb-apart, eqb-same}
use Rattle.re_labels.specs.Lists.{count_from}
use Rattle.re_labels.specs.Sets.{without_label}
use Rattle.re_problem.proofs.TextLines.{last_push}
use Rattle.re_problem.specs.NamedProblems.{NamedProblem}
use Rattle.re_problem.specs.ProblemTexts.{last_or}
use Rattle.re_changes.proofs.Merges.{listed-merge}
use Rattle.re_changes.specs.Changes.{Changed, all_changes, all_merges, changed_by, changed_times}
use Rattle.re_changes.specs.declared.change.Change.{Change}
use Rattle.re_changes.specs.declared.change.Change.TheVariants.{Merge}
use Rattle.re_cert.specs.Bounds.{BoundStep, is_lower, next_problems}
use Rattle.re_cert.specs.declared.certificate.Kind.{Kind}
use Rattle.re_cert.specs.declared.certificate.Kind.TheVariants.{Fixed}
use Rattle.re_search.specs.Nodes.{behind, is_zero, renaming_to, step_to, succeeds, way_back, way_to}
use Rattle.re_search.proofs.Firsts.{none-there}
use Rattle.re_search.proofs.Walks.{child-passed, child-refused, visit-full, visit-leaf}
use Rattle.re_search.specs.Walking.{Walks, below_made, node_at}
use Rattle.re_search.specs.declared.types.FindFault.{FindFault}
use Rattle.re_search.specs.declared.types.FindFault.TheVariants.{TooManyNodes}
use Rattle.re_search.specs.declared.walking.Count.{Count}
use Rattle.re_search.specs.declared.walking.Walked.{Walked}
use Rattle.re_search.specs.declared.walking.Walked.TheVariants.{Passed}

-- ---- a merge leaves one label less
but-above : (i n y : ℕ) → y < i → length (without_label (count_from i n) y) ≡ n
but-above i zero y l = refl
but-above i (suc n) y l =
    let other : eqb i y ≡ false = eqb-apart i y (λ e. omega arith) in
    ap (λ b. length (cond (not b) (i ∷ without_label (count_from (suc i) n) y) (without_label (count_from (suc i) n) y))) other ∙ ap suc (but-above (suc i) n y (omega arith))

but-one : (i n y : ℕ) → i ≤ y → y < i + n → length (without_label (count_from i n) y) + 1 ≡ n
but-one i zero y l m = absurd (omega arith)
but-one i (suc n) y l m = elim (three_ways i y) [
  | inl less ↦
      let other : eqb i y ≡ false = eqb-apart i y (λ e. omega arith) in
      ap (λ b. length (cond (not b) (i ∷ without_label (count_from (suc i) n) y) (without_label (count_from (suc i) n) y)) + 1) other ∙ (let rest = but-one (suc i) n y (omega arith) (omega arith) in omega arith)
  | inr (inl same) ↦
      let here : eqb i y ≡ true = ap (λ x. eqb x y) same ∙ eqb-same y in
      ap (λ b. length (cond (not b) (i ∷ without_label (count_from (suc i) n) y) (without_label (count_from (suc i) n) y)) + 1) here ∙ (let rest = but-above (suc i) n y (omega arith) in omega arith)
  | inr (inr more) ↦ absurd (omega arith)
]

pub merged-count : (made : Changed) (labels : ℕ) (change : Change) → length made.problem.names ≡ labels → In change (all_merges labels)
    → length (changed_by change made).problem.names ≡ labels - 1
merged-count made labels change size i =
    let (x, y, e, l, m) = listed-merge labels change i in
    let one : length (changed_by (Merge x y) made).problem.names + 1 ≡ length made.problem.names =
    ap (λ n. n + 1) (length-map' (λ label. get_or made.problem.names label []) (without_label (count_from 0 (length made.problem.names)) y))
    ∙ but-one 0 (length made.problem.names) y (omega arith) (omega arith) in
    ap (λ c. length (changed_by c made).problem.names) e ∙ (omega arith)

pub next-size : (made : Changed) (labels : ℕ) (all : List Change) (k : ℕ) → length made.problem.names ≡ labels → all ≡ all_changes true labels → k < length all
    → length (changed_by (get_or all k (Merge 0 0)) made).problem.names ≡ labels - 1
next-size made labels all k size is l =
    merged-count made labels (get_or all k (Merge 0 0)) size (subst (In (get_or all k (Merge 0 0))) is (Contains-In (get_or all k (Merge 0 0)) all (Contains-get_or all k (Merge 0 0) l)))

-- ---- no way back
many-none : (problem target : NamedProblem) → (length target.names ≡ length problem.names → 8 < length problem.names) → renaming_to problem target ≡ None
many-none problem target many = elim (eqb_tells (length problem.names) (length target.names)) [
  | inl same ↦
      let above : 8 < length problem.names = many (sym same.1) in
      let test : leb (length problem.names) 8 ≡ false = grind (arith, nat_tests) in
      past _ (eqb (length problem.names) (length target.names)) (leb (length problem.names) 8) test
  | inr other ↦ apart _ (eqb (length problem.names) (length target.names)) (leb (length problem.names) 8) other.0
]
  where
    past : (X : Option (List ℕ)) (a b : Bool) → b ≡ false → (if a && b then X else None) ≡ None
    past X true b e = ap (λ c. cond c X None) e
    past X false b e = refl

    apart : (X : Option (List ℕ)) (a b : Bool) → a ≡ false → (if a && b then X else None) ≡ None
    apart X a b e = ap (λ c. cond (c && b) X None) e

-- one step more leaves the problems behind the steps before it
behind-more : (first : NamedProblem) (steps : List BoundStep) (s : BoundStep) (j : ℕ) → j < length (steps ++ s ∷ []) → (j ≤ length steps) × (behind first (steps ++ s ∷ []) j ≡ behind first steps j)
behind-more first steps s j l =
    let within : j ≤ length steps = omega (arith, l, length-append steps (s ∷ [])) in
    let within_next : j ≤ length (next_problems steps) = omega (arith, length-map' (λ (s : BoundStep). s.next) steps) in (
      within,
      ap (λ l. get_or (first ∷ l) j first) (map-append (λ (s : BoundStep). s.next) steps (s ∷ [])) ∙ get_or_append_left (first ∷ next_problems steps) (s.next ∷ []) first j (omega arith),
    )

module _ (first : NamedProblem) (most : ℕ) (steps : List BoundStep) (made : Changed) where
  abbrev last-step : BoundStep
  last-step = step_to true (node_at first steps 1).problem made

  abbrev pushed : List BoundStep
  pushed = steps ++ last-step ∷ []

  end-is : made.problem ≡ last_or first (next_problems pushed)
  end-is = sym (ap (last_or first) (map-append (λ (s : BoundStep). s.next) steps (last-step ∷ [])) ∙ last_push first (next_problems steps) made.problem)

  -- no problem on the path has as many labels, or there are too many
  abbrev pub CannotReturn : Type 0
  CannotReturn = (number : ℕ) → number ≤ length steps → length (behind first steps number).names ≡ length made.problem.names → 8 < length made.problem.names

  fails : CannotReturn → succeeds Fixed first (node_at first pushed 0) ≡ false
  fails cannot =
      let none : way_back first (node_at first pushed 0) ≡ None =
      none-there (way_to first (node_at first pushed 0)) 0 (length pushed)
      (λ j l. ap (option_map (λ images. (0 + j, images))) (many-none (last_or first (next_problems pushed)) (behind first pushed (0 + j))
      (let zero_more : 0 + j ≡ j = omega arith in let before = behind-more first steps last-step j l in
      subst (λ k. length (behind first pushed k).names ≡ length (last_or first (next_problems pushed)).names → 8 < length (last_or first (next_problems pushed)).names) (sym zero_more)
      (subst (λ p. length (behind first pushed j).names ≡ length p.names → 8 < length p.names) end-is (λ e. cannot j before.0 (sym (ap (λ (p : NamedProblem). length p.names) before.1) ∙ e)))))) in
      go (not (is_zero (node_at first pushed 0).problem)) (way_back first (node_at first pushed 0)) none
    where
      go : (b : Bool) (o : Option (ℕ × List ℕ)) → o ≡ None → (b && is_some o) ≡ false
      go true o e = ap is_some e
      go false o e = refl

  -- one node more
  pub passed-one : (count next : Count) → CannotReturn → count.nodes < 20000 → next.nodes ≡ count.nodes + 1 → next.cut ≡ count.cut
      → Walks Fixed first count (flat_map (below_made Fixed most 0 (node_at first steps 1)) (made ∷ [])) steps steps (Ok (Passed next))
  passed-one count next cannot l nodes cut =
      subst (λ ns. Walks Fixed first count ns steps steps (Ok (Passed next))) (sym (append-nil (below_made Fixed most 0 (node_at first steps 1) made)))
      (child-passed Fixed first most 0 steps pushed pushed steps last-step made count next refl refl (visit-leaf Fixed first most 0 pushed count next l (fails cannot) refl nodes cut) refl)

  -- no room for one
  pub passed-full : (count : Count) → 20000 ≤ count.nodes → Walks Fixed first count (flat_map (below_made Fixed most 0 (node_at first steps 1)) (made ∷ [])) steps steps (Err TooManyNodes)
  passed-full count l =
      subst (λ ns. Walks Fixed first count ns steps steps (Err TooManyNodes)) (sym (append-nil (below_made Fixed most 0 (node_at first steps 1) made)))
      (child-refused Fixed first most 0 steps pushed pushed last-step made count TooManyNodes refl refl (visit-full Fixed first most 0 pushed count.nodes l))

-- ---- such nodes are those of the search
pub passed-are : (kind : Kind) (first : NamedProblem) (most left changes : ℕ) (steps : List BoundStep) (made : Changed) (count : Count) (r : Result Walked FindFault) → kind ≡ Fixed → left ≡ 0
    → Walks Fixed first count (flat_map (below_made Fixed most 0 (node_at first steps 1)) (changed_times true changes made)) steps steps r
    → Walks kind first count (flat_map (below_made kind most left (node_at first steps (suc left))) (changed_times (is_lower kind) changes made)) steps steps r
passed-are kind first most left changes steps made count r e f w =
    subst (λ k. Walks k first count (flat_map (below_made k most left (node_at first steps (suc left))) (changed_times (is_lower k) changes made)) steps steps r) (sym e)
    (subst (λ l. Walks Fixed first count (flat_map (below_made Fixed most l (node_at first steps (suc l))) (changed_times true changes made)) steps steps r) (sym f) w)
