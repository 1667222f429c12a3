-- A label of the last problem of an upper chain goes: the step to what is left.
use Rattle.std.proofs.Common.{◌≡◌, ℕ, ◌<◌, true, false, not, List, [], ◌∷◌, length, map, Option, None, Some, refl, sym, ap, ◌∙◌, subst, inl, inr}
use Rattle.std.specs.Prelude.{◌&&◌, if◌then◌else◌, option_and_then}
use Rattle.std.specs.List.{AllByRecursion, list_all}
use Rattle.std.specs.Str.{bytes_eq}
use Rattle.std.proofs.lemmas.Slice.Eq.{bytes_eq-Decides}
use Rattle.re_labels.specs.Rows.{set_at}
use Rattle.re_labels.proofs.Membership.{In, In-map, In-map_from, all-In, all-In_from, length-count_from, length-map'}
use Rattle.re_labels.proofs.Tests.{and-true, below-true, true-and, true-below}
use Rattle.re_labels.specs.Lists.{count_from}
use Rattle.re_problem.proofs.StepLaws.{map-map}
use Rattle.re_problem.specs.NamedProblems.{IsNamedProblem, NamedProblem}
use Rattle.re_problem.specs.Steps.{SetEntry, entry_sets, set_for}
use Rattle.re_labels.specs.GoodRows.{is_allowed, is_good}
use Rattle.re_changes.proofs.LeftLabels.{IsLeft, IsLeft-left_out, IsLeft-unchanged, labels_left, left_as}
use Rattle.re_changes.proofs.OneChange.{IsLabelSet-staying, IsProblem-after, after-built, below-counted, counted-below}
use Rattle.re_changes.specs.Changes.{after, becomes, changed_by, staying, unchanged}
use Rattle.re_changes.specs.declared.change.Change.TheVariants.{LeaveOut}
use Rattle.re_cert.proofs.KnownEntries.{entries-fit}
use Rattle.re_cert.specs.Bounds.{BoundStep, entries_in, entry_fits, is_label, is_lower, step_fits}
use Rattle.re_cert.specs.declared.certificate.Kind.{Kind}
use Rattle.re_check.proofs.StepMeaning.{all_pass, none_fails}
use Rattle.re_check.specs.Clauses.{is_filled, meets, step_clauses, step_fault}
use Rattle.re_check.specs.declared.clause.Clause.TheVariants.{U1, U2, U3, U4}
use Rattle.re_check.proofs.NextLabels.{same-images}
use Rattle.re_shaping.proofs.LastSteps.{Keeps}
use Rattle.re_shaping.proofs.LeftEntries.{labels-in_order, left-from, left-with, set-left, with_labels}
use Rattle.re_shaping.proofs.NamedProblems.{IsNamed-built, IsNames-kept}
use Rattle.re_shaping.proofs.StepsAlong.{is-upper, parts-fit, step-parts}
use Rattle.re_shaping.specs.Dropping.{dropped_step, entries_left}

-- what the labels have become
pub images-made : (x : ℕ) (named : NamedProblem) → (changed_by (LeaveOut x) (unchanged named)).images ≡ map (becomes (LeaveOut x) named) (count_from 0 (length named.names))
images-made x named = map-map (λ image. option_and_then (becomes (LeaveOut x) named) image) (λ (label : ℕ). Some label) (count_from 0 (length named.names))

module _ (x : ℕ) (named : NamedProblem) (is : IsNamedProblem named) (l : x < length named.names) where
  pub is-left : IsLeft named (changed_by (LeaveOut x) (unchanged named))
  is-left = IsLeft-left_out named (unchanged named) x (IsLeft-unchanged named is.problem) l

  pub dropped-named : IsNamedProblem (after (LeaveOut x) named)
  dropped-named = IsNamed-built (after (LeaveOut x) named) (IsNames-kept named.names (staying (LeaveOut x) named) is.names (IsLabelSet-staying (LeaveOut x) named))
      (IsProblem-after (LeaveOut x) named is.problem l) (after-built (LeaveOut x) named is l)

  -- a label that is left has a label of what is left
  left-below : (label number : ℕ) → label < length named.names → becomes (LeaveOut x) named label ≡ Some number → number < length (after (LeaveOut x) named).names
  left-below label number low e =
      let i : In (Some number) (changed_by (LeaveOut x) (unchanged named)).images =
      subst (In (Some number)) (sym (images-made x named)) (subst (λ o. In o (map (becomes (LeaveOut x) named) (count_from 0 (length named.names)))) e (In-map (becomes (LeaveOut x) named) label (count_from 0 (length named.names)) (counted-below (length named.names) label low))) in
      below-counted (length (after (LeaveOut x) named).names) number (subst (In number) is-left.order (left-in (changed_by (LeaveOut x) (unchanged named)).images number i))
    where
      left-in : (images : List (Option ℕ)) (number : ℕ) → In (Some number) images → In number (labels_left images)
      left-in [] number i = absurd i
      left-in (None ∷ images) number (inl e) = cc
      left-in (None ∷ images) number (inr i) = left-in images number i
      left-in (Some first ∷ images) number (inl e) = inl (cc)
      left-in (Some first ∷ images) number (inr i) = inr (left-in images number i)

  -- ---- entries with all labels in order
  module _ (entries : List SetEntry) (order : map (λ (entry : SetEntry). entry.label) entries ≡ count_from 0 (length named.names)) where
    images : List (Option ℕ)
    images = (changed_by (LeaveOut x) (unchanged named)).images

    entries-are : entries_left (becomes (LeaveOut x) named) entries ≡ with_labels (entry_sets entries) (changed_by (LeaveOut x) (unchanged named)).images
    entries-are = left-with (becomes (LeaveOut x) named) entries ∙ ap (with_labels (entry_sets entries)) (ap (map (becomes (LeaveOut x) named)) order ∙ sym (images-made x named))

    count : length (changed_by (LeaveOut x) (unchanged named)).images ≡ length (entry_sets entries)
    count = is-left.count ∙ sym (length-count_from 0 (length named.names)) ∙ ap length (sym order) ∙ length-map' (λ (entry : SetEntry). entry.label) entries ∙ sym (length-map' (λ (entry : SetEntry). entry.set) entries)

    pub labels-are : map (λ (entry : SetEntry). entry.label) (entries_left (becomes (LeaveOut x) named) entries) ≡ count_from 0 (length (after (LeaveOut x) named).names)
    labels-are = ap (map (λ (entry : SetEntry). entry.label)) entries-are ∙ labels-in_order (entry_sets entries) (changed_by (LeaveOut x) (unchanged named)).images count ∙ is-left.order

    -- the sets of a configuration that is left are those of one before
    sets-from : (from config : List ℕ) → map (left_as (changed_by (LeaveOut x) (unchanged named)).images) from ≡ map (λ (x : ℕ). Some x) config
        → map (set_at (entry_sets entries)) from ≡ map (set_for (with_labels (entry_sets entries) (changed_by (LeaveOut x) (unchanged named)).images)) config
    sets-from [] [] e = refl
    sets-from [] (z ∷ config) e = cc
    sets-from (y ∷ from) [] e = cc
    sets-from (y ∷ from) (z ∷ config) e =
        let first : left_as (changed_by (LeaveOut x) (unchanged named)).images y ≡ Some z = cc in
        let rest : map (left_as (changed_by (LeaveOut x) (unchanged named)).images) from ≡ map (λ (x : ℕ). Some x) config = cc in
        let same = set-left (entry_sets entries) (changed_by (LeaveOut x) (unchanged named)).images (length (after (LeaveOut x) named).names) y z count is-left.order first in
        (λ i. sym same i ∷ sets-from from config rest i)

    pub sets-left : (from config : List ℕ) → map (left_as (changed_by (LeaveOut x) (unchanged named)).images) from ≡ map (λ (x : ℕ). Some x) config
        → map (set_for entries) from ≡ map (set_for (entries_left (becomes (LeaveOut x) named) entries)) config
    sets-left from config e = sym (same-images entries from) ∙ sets-from from config e ∙ ap (λ (k : List SetEntry). map (set_for k) config) (sym entries-are)

-- ---- the step
module _ (kind : Kind) (x : ℕ) (before : NamedProblem) (s : BoundStep) (upper : is_lower kind ≡ false) (l : x < length s.next.names) (is : IsNamedProblem s.next) where
  drop-fits : step_fits kind before s ≡ true → step_fits kind before (dropped_step x s) ≡ true
  drop-fits fits =
      let parts = step-parts kind before s fits in
      parts-fit kind before (dropped_step x s) (record {
        kind_is = ap (λ b. if s.lower then is_lower kind else (not (is_lower kind) && not b)) (sym (is-upper kind before s upper fits).1) ∙ parts.kind_is;
        few = parts.few;
        rows = parts.rows;
        map = all-In_from (entry_fits before (after (LeaveOut x) s.next)) (entries_left (becomes (LeaveOut x) s.next) (entries_in s.map)) (λ sent i.
            let (entry, j, e, f) = left-from (becomes (LeaveOut x) s.next) (entries_in s.map) sent i in
            let two = and-true (list_all (is_label before) entry.set) (is_label s.next entry.label) (all-In (entry_fits before s.next) (entries_in s.map) (entries-fit before s.next s.map parts.map) entry j) in
            true-and (list_all (is_label before) sent.set) (is_label (after (LeaveOut x) s.next) sent.label)
            (ap (list_all (is_label before)) e ∙ two.0)
            (true-below sent.label (length (after (LeaveOut x) s.next).names) (left-below x s.next is l entry.label sent.label (below-true entry.label (length s.next.names) two.1) f)));
      })

  drop-sound : step_fits kind before s ≡ true → step_fault before s ≡ None → step_fault before (dropped_step x s) ≡ None
  drop-sound fits none =
      let low : s.lower ≡ false = (is-upper kind before s upper fits).0 in
      let clauses : step_clauses s ≡ U1 ∷ U2 ∷ U3 ∷ U4 ∷ [] = ap (λ b. step_clauses (record s { lower = b })) low in
      let clauses' : step_clauses (dropped_step x s) ≡ U1 ∷ U2 ∷ U3 ∷ U4 ∷ [] = ap (λ b. step_clauses (record (dropped_step x s) { lower = b })) low in
      let (degrees, (labels, (good, (allow, u)))) = subst (AllByRecursion (λ clause. meets before s clause ≡ true)) clauses (all_pass (meets before s) (step_clauses s) none) in
      let two = and-true (bytes_eq (map (λ (entry : SetEntry). entry.label) (entries_in s.map)) (count_from 0 (length s.next.names))) (list_all (is_filled before) (entry_sets (entries_in s.map))) labels in
      let order : map (λ (entry : SetEntry). entry.label) (entries_in s.map) ≡ count_from 0 (length s.next.names) = (bytes_eq-Decides (map (λ (entry : SetEntry). entry.label) (entries_in s.map)) (count_from 0 (length s.next.names))).0 two.0 in
      none_fails (meets before (dropped_step x s)) (step_clauses (dropped_step x s)) (subst (AllByRecursion (λ clause. meets before (dropped_step x s) clause ≡ true)) (sym clauses') (
        degrees,
        (
          true-and (bytes_eq (map (λ (entry : SetEntry). entry.label) (entries_left (becomes (LeaveOut x) s.next) (entries_in s.map))) (count_from 0 (length (after (LeaveOut x) s.next).names)))
              (list_all (is_filled before) (entry_sets (entries_left (becomes (LeaveOut x) s.next) (entries_in s.map))))
              ((bytes_eq-Decides (map (λ (entry : SetEntry). entry.label) (entries_left (becomes (LeaveOut x) s.next) (entries_in s.map))) (count_from 0 (length (after (LeaveOut x) s.next).names))).1
              (labels-are x s.next is l (entries_in s.map) order))
              (all-In_from (is_filled before) (entry_sets (entries_left (becomes (LeaveOut x) s.next) (entries_in s.map))) (λ set i.
              let (sent, j, e) = In-map_from (λ (entry : SetEntry). entry.set) set (entries_left (becomes (LeaveOut x) s.next) (entries_in s.map)) i in
              let (entry, k, f, g) = left-from (becomes (LeaveOut x) s.next) (entries_in s.map) sent j in
              ap (is_filled before) (e ∙ f) ∙ all-In (is_filled before) (entry_sets (entries_in s.map)) two.1 entry.set (In-map (λ (entry : SetEntry). entry.set) entry (entries_in s.map) k))),
          (
            all-In_from (λ config. is_good before.passive (map (set_for (entries_left (becomes (LeaveOut x) s.next) (entries_in s.map))) config)) (after (LeaveOut x) s.next).active.configs (λ config i.
                let (from, j, e) = (is-left x s.next is l).active config i in
                ap (is_good before.passive) (sym (sets-left x s.next is l (entries_in s.map) order from config e))
                ∙ all-In (λ config. is_good before.passive (map (set_for (entries_in s.map)) config)) s.next.active.configs good from j),
            (
              all-In_from (λ config. is_allowed before.active (map (set_for (entries_left (becomes (LeaveOut x) s.next) (entries_in s.map))) config)) (after (LeaveOut x) s.next).passive.configs (λ config i.
                  let (from, j, e) = (is-left x s.next is l).passive config i in
                  ap (is_allowed before.active) (sym (sets-left x s.next is l (entries_in s.map) order from config e))
                  ∙ all-In (λ config. is_allowed before.active (map (set_for (entries_in s.map)) config)) s.next.passive.configs allow from j),
              tt,
            ),
          ),
        ),
      ))

  pub drop-keeps : Keeps kind before s (dropped_step x s)
  drop-keeps = record {
    fits = drop-fits;
    sound = drop-sound;
    problem = dropped-named x s.next is l;
    form = λ fits. sym (is-upper kind before s upper fits).1;
  }
