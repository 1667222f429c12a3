-- Steps whose maps are sent along fit.
use Rattle.std.proofs.Common.{◌≡◌, ℕ, ◌<◌, Bool, true, false, not, eqb, leb, List, length, map, refl, sym, ap, ◌∙◌, subst}
use Rattle.std.specs.Prelude.{◌&&◌, if◌then◌else◌}
use Rattle.std.specs.List.{AllByRecursion, list_all}
use Rattle.re_labels.proofs.Membership.{AllByRecursion-from_In, In-map_from, all-In, all-In_from, length-map'}
use Rattle.re_labels.proofs.Tests.{and-true, below-true, true-and, true-below}
use Rattle.re_problem.specs.NamedProblems.{NamedProblem}
use Rattle.re_problem.specs.Steps.LowerMap.{by_row, by_set}
use Rattle.re_problem.specs.Steps.{LowerMap, SetEntry}
use Rattle.re_cert.specs.Bounds.{BoundStep, entry_fits, image_fits, is_by_row, is_label, is_lower, kind_fits, map_fits, row_fits, step_fits}
use Rattle.re_cert.specs.declared.certificate.Kind.{Kind}
use Rattle.re_labels.specs.declared.TheConstants.{MAX_ROWS}
use Rattle.re_shaping.specs.Chains.{HasLabelsBelow, entry_sent, sent_along, step_along}

-- the parts of a step that fits
pub record StepParts (kind : Kind) (before : NamedProblem) (s : BoundStep) : Type 0 where
  pub kind_is : kind_fits kind s ≡ true
  pub few : leb (length s.rows) MAX_ROWS ≡ true
  pub rows : list_all (row_fits before) s.rows ≡ true
  pub map : map_fits before s.next s.map ≡ true

pub step-parts : (kind : Kind) (before : NamedProblem) (s : BoundStep) → step_fits kind before s ≡ true → StepParts kind before s
step-parts kind before s fits =
    let one = and-true (kind_fits kind s && leb (length s.rows) MAX_ROWS && list_all (row_fits before) s.rows) (map_fits before s.next s.map) fits in
    let two = and-true (kind_fits kind s && leb (length s.rows) MAX_ROWS) (list_all (row_fits before) s.rows) one.0 in
    let three = and-true (kind_fits kind s) (leb (length s.rows) MAX_ROWS) two.0 in
    record { kind_is = three.0; few = three.1; rows = two.1; map = one.1 }

pub parts-fit : (kind : Kind) (before : NamedProblem) (s : BoundStep) → StepParts kind before s → step_fits kind before s ≡ true
parts-fit kind before s parts =
    true-and (kind_fits kind s && leb (length s.rows) MAX_ROWS && list_all (row_fits before) s.rows) (map_fits before s.next s.map)
    (true-and (kind_fits kind s && leb (length s.rows) MAX_ROWS) (list_all (row_fits before) s.rows) (true-and (kind_fits kind s) (leb (length s.rows) MAX_ROWS) parts.kind_is parts.few) parts.rows) parts.map

pub is-upper : (kind : Kind) (before : NamedProblem) (s : BoundStep) → is_lower kind ≡ false → step_fits kind before s ≡ true → (s.lower ≡ false) × (is_by_row s.map ≡ false)
is-upper kind before s upper fits = go s.lower (is_lower kind) (is_by_row s.map) upper (step-parts kind before s fits).kind_is
  where
    go : (b l r : Bool) → l ≡ false → (if b then l else (not l && not r)) ≡ true → (b ≡ false) × (r ≡ false)
    go true true r e h = cc
    go true false r e h = cc
    go false true r e h = cc
    go false false true e h = cc
    go false false false e h = (refl, refl)

-- ---- maps
pub along-form : (image : ℕ → ℕ) (map : LowerMap) → is_by_row (sent_along image map) ≡ is_by_row map
along-form image (by_set entries) = refl
along-form image (by_row images) = refl

module _ (before next other : NamedProblem) (image : ℕ → ℕ) (below : (label : ℕ) → label < length next.names → image label < length other.names) where
  label-fits : (label : ℕ) → is_label next label ≡ true → is_label other (image label) ≡ true
  label-fits label fits = true-below (image label) (length other.names) (below label (below-true label (length next.names) fits))

  pub map-fits : (map : LowerMap) → map_fits before next map ≡ true → map_fits before other (sent_along image map) ≡ true
  map-fits (by_set entries) fits = all-In_from (entry_fits before other) (map (entry_sent image) entries) (λ sent i.
      let (entry, j, e) = In-map_from (entry_sent image) sent entries i in
      let two = and-true (list_all (is_label before) entry.set) (is_label next entry.label) (all-In (entry_fits before next) entries fits entry j) in
      subst (λ (entry : SetEntry). entry_fits before other entry ≡ true) (sym e)
      (true-and (list_all (is_label before) entry.set) (is_label other (image entry.label)) two.0 (label-fits entry.label two.1)))
  map-fits (by_row images) fits =
      let two = and-true (leb (length images) MAX_ROWS) (list_all (image_fits before next) images) fits in
      true-and (leb (length (map (map image) images)) MAX_ROWS) (list_all (image_fits before other) (map (map image) images))
      (ap (λ n. leb n MAX_ROWS) (length-map' (map image) images) ∙ two.0)
      (all-In_from (image_fits before other) (map (map image) images) (λ sent i.
      let (row, j, e) = In-map_from (map image) sent images i in
      let three = and-true (eqb (length row) before.passive.degree) (list_all (is_label next) row) (all-In (image_fits before next) images two.1 row j) in
      subst (λ (row : List ℕ). image_fits before other row ≡ true) (sym e)
      (true-and (eqb (length (map image row)) before.passive.degree) (list_all (is_label other) (map image row))
      (ap (λ n. eqb n before.passive.degree) (length-map' image row) ∙ three.0)
      (all-In_from (is_label other) (map image row) (λ y k.
      let (x, h, f) = In-map_from image y row k in
      subst (λ z. is_label other z ≡ true) (sym f) (label-fits x (all-In (is_label next) row three.1 x h)))))))

-- the labels of a map that fits are below the number of labels
pub map-below : (before next : NamedProblem) (map : LowerMap) → map_fits before next map ≡ true → HasLabelsBelow (length next.names) map
map-below before next (by_set entries) fits = AllByRecursion-from_In (λ (entry : SetEntry). entry.label < length next.names) entries (λ entry i.
    below-true entry.label (length next.names) (and-true (list_all (is_label before) entry.set) (is_label next entry.label) (all-In (entry_fits before next) entries fits entry i)).1)
map-below before next (by_row images) fits =
    let two = and-true (leb (length images) MAX_ROWS) (list_all (image_fits before next) images) fits in
    AllByRecursion-from_In (AllByRecursion (λ label. label < length next.names)) images (λ row i.
    AllByRecursion-from_In (λ label. label < length next.names) row (λ label j.
    below-true label (length next.names)
    (all-In (is_label next) row (and-true (eqb (length row) before.passive.degree) (list_all (is_label next) row) (all-In (image_fits before next) images two.1 row i)).1 label j)))

-- ---- steps
pub along-fits : (kind : Kind) (before : NamedProblem) (s : BoundStep) (image : ℕ → ℕ) (next : NamedProblem) → ((label : ℕ) → label < length s.next.names → image label < length next.names) → step_fits kind before s ≡ true
    → step_fits kind before (step_along image next s) ≡ true
along-fits kind before s image next below fits =
    let parts = step-parts kind before s fits in
    parts-fit kind before (step_along image next s) (record {
      kind_is = ap (λ b. if s.lower then is_lower kind else (not (is_lower kind) && not b)) (along-form image s.map) ∙ parts.kind_is;
      few = parts.few;
      rows = parts.rows;
      map = map-fits before s.next next image below s.map parts.map;
    })
