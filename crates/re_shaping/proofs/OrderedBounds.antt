-- A bound in order has the elements of its lists in their order, and the images go with the rows.
use Rattle.std.proofs.Common.{◌≡◌, ℕ, ◌≤◌, Bool, true, false, cond, List, [], ◌∷◌, ◌++◌, length, map, drop, refl, sym, ap, ◌∙◌, subst, arith}
use Rattle.std.proofs.Math.Seq.{drop-append_seam}
use Rattle.std.proofs.lemmas.List.{length-map}
use Rattle.std.proofs.lemmas.List.Sorted.{IsPermutation-append_left, IsPermutation-map, ranks_by}
use Rattle.std.specs.Cmp.{IsStrictWeakOrder, nat_cmp_total}
use Rattle.std.specs.Cmp.Lexicographic.{nat_list_cmp_total}
use Rattle.std.specs.List.{AllZip, zip}
use Rattle.std.specs.List.Sorted.{IsPermutation}
use Rattle.re_labels.specs.Sets.{number}
use Rattle.re_problem.specs.Steps.{LowerMap, SetEntry}
use Rattle.re_problem.specs.Steps.LowerMap.{by_row, by_set}
use Rattle.re_cert.specs.Bounds.{BoundStep}
use Rattle.re_boxes.specs.Ordering.{is_row_before}
use Rattle.re_shaping.proofs.StableSorts.{in_order-law}
use Rattle.re_shaping.proofs.TidiedBounds.{length_in_order}
use Rattle.re_shaping.specs.Ordered.{AreImagesInOrder, IsInOrder, IsMapInOrder, IsStepInOrder, OrderLaw}
use Rattle.re_shaping.specs.Orders.{in_order, inserted}
use Rattle.re_shaping.specs.Tidied.{first_row_before, images_in_order, label_before, map_in_order, pair_before, set_before, step_in_order}

-- ---- the orders
pub rows_rank : IsStrictWeakOrder is_row_before
rows_rank = ranks_by nat_list_cmp_total (map number)

first_rows_rank : IsStrictWeakOrder first_row_before
first_rows_rank = ranks_by nat_list_cmp_total (λ (pair : List (List ℕ) × List ℕ). map number pair.0)

sets_rank : IsStrictWeakOrder set_before
sets_rank = ranks_by nat_cmp_total (λ (entry : SetEntry). number entry.set)

labels_rank : IsStrictWeakOrder label_before
labels_rank = ranks_by nat_cmp_total (λ (entry : SetEntry). entry.label)

pairs_rank : IsStrictWeakOrder pair_before
pairs_rank = ranks_by nat_cmp_total (λ (pair : ℕ × ℕ). pair.0)

-- ---- rows with their images
-- a row and its image
abbrev Paired : Type 0
Paired = List (List ℕ) × List ℕ

abbrev row_in : Paired → List (List ℕ)
row_in pair = pair.0

abbrev image_in : Paired → List ℕ
image_in pair = pair.1

rows-zip : (rows : List (List (List ℕ))) (images : List (List ℕ)) → length rows ≤ length images → map row_in (zip rows images) ≡ rows
rows-zip [] images low = refl
rows-zip (row ∷ rows) [] low = absurd (omega arith)
rows-zip (row ∷ rows) (image ∷ images) low = ap (λ l. row ∷ l) (rows-zip rows images (omega arith))

pub images-zip : (rows : List (List (List ℕ))) (images : List (List ℕ)) → map image_in (zip rows images) ++ drop (length rows) images ≡ images
images-zip [] images = refl
images-zip (row ∷ rows) [] = refl
images-zip (row ∷ rows) (image ∷ images) = ap (λ l. image ∷ l) (images-zip rows images)

zip-parts : (pairs : List Paired) (rest : List (List ℕ)) → zip (map row_in pairs) (map image_in pairs ++ rest) ≡ pairs
zip-parts [] rest = refl
zip-parts (pair ∷ pairs) rest = ap (λ l. pair ∷ l) (zip-parts pairs rest)

-- the rows of pairs in order are the rows in order
rows-inserted : (pair : Paired) (pairs : List Paired) → map row_in (inserted first_row_before pair pairs) ≡ inserted is_row_before (row_in pair) (map row_in pairs)
rows-inserted pair [] = refl
rows-inserted pair (other ∷ pairs) = go (first_row_before other pair) (rows-inserted pair pairs)
  where
    go : (b : Bool) → map row_in (inserted first_row_before pair pairs) ≡ inserted is_row_before (row_in pair) (map row_in pairs)
        → map row_in (cond b (other ∷ inserted first_row_before pair pairs) (pair ∷ other ∷ pairs))
        ≡ cond b (row_in other ∷ inserted is_row_before (row_in pair) (map row_in pairs)) (row_in pair ∷ row_in other ∷ map row_in pairs)
    go true e = ap (λ l. row_in other ∷ l) e
    go false e = refl

rows-in_order : (pairs : List Paired) → map row_in (in_order first_row_before pairs) ≡ in_order is_row_before (map row_in pairs)
rows-in_order [] = refl
rows-in_order (pair ∷ pairs) = rows-inserted pair (in_order first_row_before pairs) ∙ ap (inserted is_row_before (row_in pair)) (rows-in_order pairs)

module _ (rows : List (List (List ℕ))) (images : List (List ℕ)) where
  abbrev pairs : List Paired
  pairs = in_order first_row_before (zip rows images)

  images-same : IsPermutation images (images_in_order rows images)
  images-same =
      let moved : IsPermutation (zip rows images) pairs = (in_order-law first_row_before first_rows_rank (zip rows images)).same in
      let whole = IsPermutation-append_left (drop (length rows) images) (map image_in (zip rows images)) (map image_in pairs) (IsPermutation-map image_in (zip rows images) pairs moved) in
      subst (λ l. IsPermutation l (images_in_order rows images)) (images-zip rows images) whole

  images-pairs : length rows ≤ length images → zip (in_order is_row_before rows) (images_in_order rows images) ≡ pairs
  images-pairs low =
      ap (λ l. zip l (images_in_order rows images)) (sym (rows-in_order (zip rows images) ∙ ap (in_order is_row_before) (rows-zip rows images low)))
      ∙ zip-parts pairs (drop (length rows) images)

  images-rest : length rows ≤ length images → drop (length rows) (images_in_order rows images) ≡ drop (length rows) images
  images-rest low =
      let count : length (map image_in pairs) ≡ length rows =
      length-map pairs image_in ∙ length_in_order first_row_before (zip rows images) ∙ sym (length-map (zip rows images) row_in) ∙ ap length (rows-zip rows images low) in
      ap (λ n. drop n (images_in_order rows images)) (sym count) ∙ drop-append_seam (map image_in pairs) (drop (length rows) images)

  images-law : AreImagesInOrder rows (in_order is_row_before rows) images (images_in_order rows images)
  images-law = record {
    same = images-same;
    pairs = λ low. subst (IsInOrder first_row_before (zip rows images)) (sym (images-pairs low)) (in_order-law first_row_before first_rows_rank (zip rows images));
    rest = images-rest;
  }

-- ---- bounds
map-law : (lower : Bool) (rows : List (List (List ℕ))) (map : LowerMap) → IsMapInOrder lower rows (in_order is_row_before rows) map (map_in_order lower rows map)
map-law true rows (by_set entries) = in_order-law set_before sets_rank entries
map-law false rows (by_set entries) = in_order-law label_before labels_rank entries
map-law lower rows (by_row images) = images-law rows images

step-law : (s : BoundStep) → IsStepInOrder s (step_in_order s)
step-law s = record { lower = refl; next = refl; rows = in_order-law is_row_before rows_rank s.rows; map = map-law s.lower s.rows s.map }

steps-law : (steps : List BoundStep) → AllZip IsStepInOrder steps (map step_in_order steps)
steps-law [] = tt
steps-law (s ∷ steps) = (step-law s, steps-law steps)

pub order_law : OrderLaw
order_law bound = record { kind = refl; back = refl; first = refl; steps = steps-law bound.steps; renaming = in_order-law pair_before pairs_rank bound.renaming }
