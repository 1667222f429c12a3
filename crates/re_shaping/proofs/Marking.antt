-- Numbers of configurations in which a label has become another.
use Rattle.std.proofs.Common.{◌≡◌, ℕ, ◌+◌, ◌%◌, ◌^◌, Bool, true, false, cond, eqb, List, [], ◌∷◌, map, refl, sym, ap, ◌∙◌, arith}
use Rattle.std.specs.List.{sum_by}
use Rattle.std.proofs.Math.Nat.{add-mod-mod, mod-add-mod}
use Rattle.std.proofs.lemmas.List.Sums.{sum_by-cons}
use Rattle.re_labels.proofs.Tests.{eqb-true}
use Rattle.re_shaping.proofs.Keeping.{first-kept, mark-kept}
use Rattle.re_shaping.proofs.Moving.{moves}
use Rattle.re_shaping.specs.Colours.{first_colours, times_in}
use Rattle.re_shaping.specs.Marks.{ColoursLaw, MovedMarkLaw, config_mark, label_mark}

-- ---- one label
module _ (from to change : ℕ) (moves : (label_mark from + change) % 2 ^ 64 ≡ label_mark to % 2 ^ 64) where
  -- by how much one label makes the number grow
  abbrev grows : ℕ → ℕ
  grows label = cond (eqb label from) change 0

  -- the label, or the one in its place
  abbrev now : ℕ → ℕ
  now label = cond (eqb label from) to label

  one_moved : (label : ℕ) → (label_mark label + grows label) % 2 ^ 64 ≡ label_mark (now label) % 2 ^ 64
  one_moved label = go (eqb label from) refl
    where
      go : (b : Bool) → eqb label from ≡ b → (label_mark label + cond b change 0) % 2 ^ 64 ≡ label_mark (cond b to label) % 2 ^ 64
      go true t = ap (λ l. (label_mark l + change) % 2 ^ 64) (eqb-true label from t) ∙ moves
      go false t = ap (λ s. s % 2 ^ 64) (omega arith)

  -- ---- a configuration
  all_moved : (config : List ℕ) → (sum_by label_mark config + times_in config from change) % 2 ^ 64 ≡ sum_by label_mark (map now config) % 2 ^ 64
  all_moved [] = refl
  all_moved (label ∷ config) =
      let own = label_mark label in
      let sum = sum_by label_mark config in
      let grown = times_in config from change in
      let target = label_mark (now label) in
      let rest = sum_by label_mark (map now config) in
      let sums = sum_by-cons label_mark label config in
      let times = sum_by-cons grows label config in
      ap (λ s. s % 2 ^ 64) (together own sum (grows label) grown (sum_by label_mark (label ∷ config)) (times_in (label ∷ config) from change) sums times)
      ∙ sym (mod-add-mod (own + grows label) (2 ^ 64) (sum + grown))
      ∙ ap (λ s. (s + (sum + grown)) % 2 ^ 64) (one_moved label)
      ∙ mod-add-mod target (2 ^ 64) (sum + grown)
      ∙ sym (add-mod-mod target (sum + grown) (2 ^ 64))
      ∙ ap (λ s. (target + s) % 2 ^ 64) (all_moved config)
      ∙ add-mod-mod target rest (2 ^ 64)
      ∙ ap (λ s. s % 2 ^ 64) (sym (sum_by-cons label_mark (now label) (map now config)))
    where
      together : (a s g t whole grown : ℕ) → whole ≡ a + s → grown ≡ g + t → whole + grown ≡ (a + g) + (s + t)
      together a s g t whole grown e f = omega arith

pub moved_mark_law : MovedMarkLaw
unfolding config_mark
moved_mark_law config from to change moves = mod-add-mod (sum_by label_mark config) (2 ^ 64) (times_in config from change) ∙ all_moved from to change moves config

-- ---- renamed problems
pub colours_law : ColoursLaw
colours_law from to images is other renaming =
    let move = moves from to images is other renaming in
    mark-kept from to images move (first_colours from) (first_colours to) (first-kept from to images move)
