-- The bound of the path to a success is a bound without a fault.
use Rattle.std.proofs.Common.{◌≡◌, ℕ, zero, suc, ◌+◌, ◌<◌, ◌≤◌, Bool, true, false, cond, not, eqb, ltb, leb, List, [], ◌∷◌, length, map, Option, None, Some, refl, sym, ap, ◌∙◌, subst, arith, inl, inr}
use Rattle.std.proofs.lemmas.Bool.Decides.{nat_tests}
use Rattle.std.proofs.lemmas.Slice.Eq.{bytes_eq-Decides}
use Rattle.std.specs.Prelude.{Contains, ◌&&◌, ◌||◌, if◌then◌else◌, is_some, is_none, find, option_map}
use Rattle.std.specs.List.{AllByRecursion, list_all}
use Rattle.std.specs.Str.{bytes_eq}
use Rattle.re_labels.proofs.Placing.{Rearranged-orders}
use Rattle.re_labels.proofs.Rearranging.{Contains-Rearranged, Rearranged-sym}
use Rattle.re_labels.proofs.Rearranging.{length-Rearranged}
use Rattle.re_labels.specs.Orders.{orders}
use Rattle.re_labels.specs.Rearranging.{Rearranged}
use Rattle.re_labels.proofs.Membership.{Contains-In, In, In-Contains, In-map_from, length-count_from}
use Rattle.re_labels.proofs.Tests.{and-true, eqb-true, true-and, or-right, true-below}
use Rattle.re_labels.specs.Lists.{count_from}
use Rattle.re_problem.specs.NamedProblems.{IsNamedProblem, NamedProblem, unnamed}
use Rattle.re_problem.specs.ProblemTexts.{last_or}
use Rattle.re_problem.specs.Zero.{zero_place}
use Rattle.re_problem.specs.Verdicts.{renaming_verdict}
use Rattle.re_changes.proofs.OneChange.{below-counted}
use Rattle.re_cert.specs.Bounds.{Bound, BoundStep, is_bound, is_by_row, is_fixed, is_lower, last_problem, next_problems, one_form, pair_fits, problem_at, renaming_fits, steps_fit}
use Rattle.re_cert.specs.declared.certificate.Kind.{Kind}
use Rattle.re_cert.specs.declared.certificate.Kind.TheVariants.{Lower, Upper, Fixed}
use Rattle.re_check.specs.declared.clause.Clause.TheVariants.{Back, End}
use Rattle.re_check.specs.Verdicts.{bound_fault, end_fault, ends_well, fault_at, fault_or, goes_back, is_yes, meets_back, meets_end, steps_fault}
use Rattle.re_search.proofs.Paths.{IsPath, IsPath-all}
use Rattle.re_search.specs.TreeLaws.{SuccessLaw}
use Rattle.re_search.specs.Nodes.{Node, behind, first_there, is_zero, renaming_to, succeeds, way_back, way_to}
use Rattle.re_search.specs.Paths.{bound_of, bound_with, pairs_of}
use Rattle.re_cert.specs.declared.certificate.TheConstants.{MAX_STEPS}

-- ---- ends
none-some : {X : Type 0} (o : Option X) → not (is_some o) ≡ true → is_none o ≡ true
none-some None e = refl
none-some (Some x) e = e

few-steps : (kind : Kind) (first : NamedProblem) (node : Node) (depth : ℕ) → depth ≤ MAX_STEPS → IsPath kind first depth node → leb (length node.steps) MAX_STEPS ≡ true
few-steps kind first node depth l path = let m = path.long in let n : length node.steps ≤ MAX_STEPS = omega arith in grind (arith, nat_tests)

-- ---- lower and upper bounds
module _ (first : NamedProblem) (node : Node) (depth : ℕ) (few : depth ≤ MAX_STEPS) where
  plain-bound : (kind : Kind) → IsPath kind first depth node → (leb (length node.steps) MAX_STEPS && steps_fit kind first node.steps && one_form node.steps && true) ≡ true
  plain-bound kind path = true-and (leb (length node.steps) MAX_STEPS && steps_fit kind first node.steps && one_form node.steps) true
      (true-and (leb (length node.steps) MAX_STEPS && steps_fit kind first node.steps) (one_form node.steps)
      (true-and (leb (length node.steps) MAX_STEPS) (steps_fit kind first node.steps) (few-steps kind first node depth few path) path.fits)
      (or-right (list_all (λ (s : BoundStep). is_by_row s.map) node.steps) (list_all (λ (s : BoundStep). not (is_by_row s.map)) node.steps) path.by_set)) refl

  lower-success : IsPath Lower first depth node → succeeds Lower first node ≡ true → (is_bound (bound_of Lower first node) ≡ true) × (bound_fault (bound_of Lower first node) ≡ None)
  lower-success path ok =
      let two = and-true (eqb node.left 0) (not (is_zero node.problem)) ok in
      let last : is_none (zero_place (unnamed (last_or first (next_problems node.steps)))) ≡ true = subst (λ p. is_none (zero_place (unnamed p)) ≡ true) (sym path.last) (none-some (zero_place (unnamed node.problem)) two.1) in (
        plain-bound Lower path,
        ap (λ o. fault_or o (end_fault (bound_of Lower first node))) path.valid ∙ ap (λ b. if not b then Some (fault_at (length node.steps) End) else None) last,
      )

  upper-success : IsPath Upper first depth node → succeeds Upper first node ≡ true → (is_bound (bound_of Upper first node) ≡ true) × (bound_fault (bound_of Upper first node) ≡ None)
  upper-success path ok =
      let two = and-true (eqb node.left 0) (is_zero node.problem) ok in
      let last : is_some (zero_place (unnamed (last_or first (next_problems node.steps)))) ≡ true = subst (λ p. is_some (zero_place (unnamed p)) ≡ true) (sym path.last) two.1 in (
        plain-bound Upper path,
        ap (λ o. fault_or o (end_fault (bound_of Upper first node))) path.valid ∙ ap (λ b. if not b then Some (fault_at (length node.steps) End) else None) last,
      )

-- ---- the way back
there-from : {X : Type 0} (os : List (Option X)) (x : X) → first_there os ≡ Some x → In (Some x) os
there-from [] x e = cc
there-from (None ∷ os) x e = inr (there-from os x e)
there-from (Some y ∷ os) x e = inl (sym e)

pub found-in : {X : Type 0} (p : X → Bool) (xs : List X) (x : X) → find p xs ≡ Some x → In x xs × (p x ≡ true)
found-in p [] x e = cc
found-in {X} p (y ∷ xs) x e = go (p y) refl e (found-in p xs x)
  where
    go : (b : Bool) → p y ≡ b → cond b (Some y) (find p xs) ≡ Some x → (find p xs ≡ Some x → In x xs × (p x ≡ true)) → In x (y ∷ xs) × (p x ≡ true)
    go true f h rest = let same : y ≡ x = cc in (inl (sym same), ap p (sym same) ∙ f)
    go false f h rest = let two = rest h in (inr two.0, two.1)

-- what is known of a way back
record Leads (problem target : NamedProblem) (images : List ℕ) : Type 0 where
  count : length images ≡ length problem.names
  below : (image : ℕ) → In image images → image < length target.names
  yes : is_yes (renaming_verdict (unnamed problem) (unnamed target) images) ≡ true

renaming-leads : (problem target : NamedProblem) (images : List ℕ) → renaming_to problem target ≡ Some images → Leads problem target images
renaming-leads problem target images e = go (eqb (length problem.names) (length target.names) && leb (length problem.names) 8) refl e
  where
    n : ℕ
    n = length problem.names

    go : (b : Bool) → (eqb (length problem.names) (length target.names) && leb (length problem.names) 8) ≡ b
        → (if b then find (λ images. is_yes (renaming_verdict (unnamed problem) (unnamed target) images)) (orders (length problem.names) (count_from 0 (length problem.names))) else None) ≡ Some images
        → Leads problem target images
    go true f h =
        let two = and-true (eqb (length problem.names) (length target.names)) (leb (length problem.names) 8) f in
        let same = eqb-true (length problem.names) (length target.names) two.0 in
        let here = found-in (λ images. is_yes (renaming_verdict (unnamed problem) (unnamed target) images)) (orders (length problem.names) (count_from 0 (length problem.names))) images h in
        let moved : Rearranged (count_from 0 (length problem.names)) images = Rearranged-orders (length problem.names) (count_from 0 (length problem.names)) images (length-count_from 0 (length problem.names)) here.0 in
        record {
          count = sym (length-Rearranged moved) ∙ length-count_from 0 (length problem.names);
          below = λ image i.
              let l = below-counted (length problem.names) image (Contains-In image (count_from 0 (length problem.names)) (Contains-Rearranged image (Rearranged-sym moved) (In-Contains image images i))) in
              omega (arith, same);
          yes = here.1;
        }
    go false f h = cc

-- the pairs of a map
firsts-are : (label : ℕ) (images : List ℕ) → map (λ (pair : ℕ × ℕ). pair.0) (pairs_of label images) ≡ count_from label (length images)
firsts-are label [] = refl
firsts-are label (image ∷ images) = ap (λ l. label ∷ l) (firsts-are (suc label) images)

seconds-are : (label : ℕ) (images : List ℕ) → map (λ (pair : ℕ × ℕ). pair.1) (pairs_of label images) ≡ images
seconds-are label [] = refl
seconds-are label (image ∷ images) = ap (λ l. image ∷ l) (seconds-are (suc label) images)

pairs-fit : (last target : NamedProblem) (label : ℕ) (images : List ℕ) → label + length images ≤ length last.names → ((image : ℕ) → In image images → image < length target.names)
    → list_all (pair_fits last target) (pairs_of label images) ≡ true
pairs-fit last target label [] l below = refl
pairs-fit last target label (image ∷ images) l below =
    true-and (pair_fits last target (label, image)) (list_all (pair_fits last target) (pairs_of (suc label) images))
    (true-and (ltb label (length last.names)) (ltb image (length target.names)) (true-below label (length last.names) (omega arith)) (true-below image (length target.names) (below image (inl refl))))
    (pairs-fit last target (suc label) images (omega arith) (λ x i. below x (inr i)))

way-leads : (first : NamedProblem) (node : Node) (way : ℕ × List ℕ) → way_back first node ≡ Some way → (way.0 < length node.steps) × Leads node.problem (behind first node.steps way.0) way.1
way-leads first node way e =
    let (k, i, f) = In-map_from (way_to first node) (Some way) (count_from 0 (length node.steps)) (there-from (map (way_to first node) (count_from 0 (length node.steps))) way e) in
    go k (renaming_to node.problem (behind first node.steps k)) refl (below-counted (length node.steps) k i) f
  where
    go : (k : ℕ) (o : Option (List ℕ)) → renaming_to node.problem (behind first node.steps k) ≡ o → k < length node.steps → Some way ≡ way_to first node k
        → (way.0 < length node.steps) × Leads node.problem (behind first node.steps way.0) way.1
    go k None h l f = let none : Some way ≡ None = f ∙ ap (option_map (λ images. (k, images))) h in absurd (cc)
    go k (Some found) h l f =
        let there : ℕ × List ℕ = (k, found) in
        let some : Some way ≡ Some there = f ∙ ap (option_map (λ images. (k, images))) h in
        let pair : way ≡ there = cc in
        let one : way.0 ≡ k = ap (λ (p : ℕ × List ℕ). p.0) pair in
        let two : way.1 ≡ found = ap (λ (p : ℕ × List ℕ). p.1) pair in
        (omega arith, renaming-leads node.problem (behind first node.steps way.0) way.1 (ap (λ k. renaming_to node.problem (behind first node.steps k)) one ∙ h ∙ ap Some (sym two)))

module _ (first : NamedProblem) (node : Node) (depth : ℕ) (few : depth ≤ MAX_STEPS) (path : IsPath Fixed first depth node) where
  fixed-way : (number : ℕ) (images : List ℕ) → not (is_zero node.problem) ≡ true → (number < length node.steps) × Leads node.problem (behind first node.steps number) images
      → (is_bound (bound_with Fixed first node (Some (number, images))) ≡ true) × (bound_fault (bound_with Fixed first node (Some (number, images))) ≡ None)
  fixed-way number images apart (l, leads) = (
    true-and (leb (length node.steps) MAX_STEPS && steps_fit Fixed first node.steps && one_form node.steps) (renaming_fits bound)
        (true-and (leb (length node.steps) MAX_STEPS && steps_fit Fixed first node.steps) (one_form node.steps)
        (true-and (leb (length node.steps) MAX_STEPS) (steps_fit Fixed first node.steps) (few-steps Fixed first node depth few path) path.fits)
        (or-right (list_all (λ (s : BoundStep). is_by_row s.map) node.steps) (list_all (λ (s : BoundStep). not (is_by_row s.map)) node.steps) path.by_set))
        (true-and (ltb number (length node.steps)) (list_all (pair_fits (last_or first (next_problems node.steps)) target) (pairs_of 0 images)) (true-below number (length node.steps) l) pairs),
    ap (λ o. fault_or o (end_fault bound)) path.valid ∙ (λ i. if not (last i) then Some (fault_at (length node.steps) End) else if not (back i) then Some (fault_at (length node.steps) Back) else None),
  )
    where
      bound : Bound
      bound = bound_with Fixed first node (Some (number, images))

      target : NamedProblem
      target = behind first node.steps number

      last : is_none (zero_place (unnamed (last_or first (next_problems node.steps)))) ≡ true
      last = subst (λ p. is_none (zero_place (unnamed p)) ≡ true) (sym path.last) (none-some (zero_place (unnamed node.problem)) apart)

      pairs : list_all (pair_fits (last_or first (next_problems node.steps)) (behind first node.steps number)) (pairs_of 0 images) ≡ true
      pairs = subst (λ p. list_all (pair_fits p (behind first node.steps number)) (pairs_of 0 images) ≡ true) (sym path.last)
          (pairs-fit node.problem (behind first node.steps number) 0 images (let c = leads.count in omega arith) leads.below)

      back : goes_back (last_or first (next_problems node.steps)) (behind first node.steps number) (pairs_of 0 images) ≡ true
      back = subst (λ p. goes_back p (behind first node.steps number) (pairs_of 0 images) ≡ true) (sym path.last)
          (true-and (bytes_eq (map (λ (pair : ℕ × ℕ). pair.0) (pairs_of 0 images)) (count_from 0 (length node.problem.names)))
          (is_yes (renaming_verdict (unnamed node.problem) (unnamed (behind first node.steps number)) (map (λ (pair : ℕ × ℕ). pair.1) (pairs_of 0 images))))
          ((bytes_eq-Decides (map (λ (pair : ℕ × ℕ). pair.0) (pairs_of 0 images)) (count_from 0 (length node.problem.names))).1 (firsts-are 0 images ∙ ap (count_from 0) leads.count))
          (ap (λ m. is_yes (renaming_verdict (unnamed node.problem) (unnamed (behind first node.steps number)) m)) (seconds-are 0 images) ∙ leads.yes))

  fixed-success : succeeds Fixed first node ≡ true → (is_bound (bound_of Fixed first node) ≡ true) × (bound_fault (bound_of Fixed first node) ≡ None)
  fixed-success ok = go (way_back first node) refl
    where
      two : (not (is_zero node.problem) ≡ true) × (is_some (way_back first node) ≡ true)
      two = and-true (not (is_zero node.problem)) (is_some (way_back first node)) ok

      go : (o : Option (ℕ × List ℕ)) → way_back first node ≡ o → (is_bound (bound_with Fixed first node (way_back first node)) ≡ true) × (bound_fault (bound_with Fixed first node (way_back first node)) ≡ None)
      go None e = let no : false ≡ true = ap is_some (sym e) ∙ two.1 in absurd (cc)
      go (Some way) e =
          subst (λ o. (is_bound (bound_with Fixed first node o) ≡ true) × (bound_fault (bound_with Fixed first node o) ≡ None)) (sym e)
          (fixed-way way.0 way.1 two.0 (way-leads first node way e))

-- ---- the law
pub success_law : SuccessLaw
success_law kind depth most first node is few held ok = go kind (IsPath-all kind depth most first node is.problem (Contains-In node _ held)) ok
  where
    go : (kind : Kind) → IsPath kind first depth node → succeeds kind first node ≡ true → (is_bound (bound_of kind first node) ≡ true) × (bound_fault (bound_of kind first node) ≡ None)
    go Lower path ok = lower-success first node depth few path ok
    go Upper path ok = upper-success first node depth few path ok
    go Fixed path ok = fixed-success first node depth few path ok
