-- Images of configurations, one behind the other: what begins them.
use Rattle.std.proofs.Common.{◌≡◌, ℕ, ◌<◌, ◌≤◌, ◌+◌, ◌-◌, ◌*◌, min, Bool, true, false, cond, ltb, ◌&&◌, List, [], ◌∷◌, length, take, drop, refl, sym, ap, ◌∙◌, subst, arith, length-append, length-drop}
use Rattle.std.specs.List.{AllByRecursion}
use Rattle.std.proofs.lemmas.Bool.Decides.{nat_tests}
use Rattle.std.proofs.lemmas.List.{drop-take, length-take, take-take}
use Rattle.re_labels.proofs.Tests.{and-true, true-and}
use Rattle.re_labels.specs.Constraints.{Constraint, has_config}
use Rattle.re_walks.proofs.ConfigBeginnings.{begun, low-drop, low-take}
use Rattle.re_walks.specs.Begun.{is_begun}
use Rattle.re_settings.proofs.InOrder.{in_order-take}
use Rattle.re_settings.specs.Fits.{are_images, begins_image, is_image, is_in_order, joined}
use Rattle.std.proofs.lemmas.Bool.{le-ltb}

-- labels of a whole image and more are an image, and more of them
pub are_images-split : (active : Constraint) (n : ℕ) (config : List ℕ) (configs : List (List ℕ)) (labels : List ℕ) → active.degree ≤ length labels
    → are_images active n (config ∷ configs) labels ≡ (is_image active config (take active.degree labels) && are_images active n configs (drop active.degree labels))
are_images-split active n config configs labels long =
    ap (λ b. cond b (begins_image active n config labels) (is_image active config (take active.degree labels) && are_images active n configs (drop active.degree labels))) (le-ltb (length labels) active.degree long)

-- what begins images does
pub images-take : (active : Constraint) (n : ℕ) (configs : List (List ℕ)) (labels : List ℕ) → length configs * active.degree ≤ length labels → AllByRecursion (λ label. label < n) labels
    → are_images active n configs labels ≡ true → (k : ℕ) → are_images active n configs (take k labels) ≡ true
images-take active n [] labels count low test k = refl
images-take active n (config ∷ configs) labels count low test k =
    let whole : active.degree + length configs * active.degree ≤ length labels = omega (arith, count) in
    let long : active.degree ≤ length labels = omega (arith, whole) in
    let rest : length configs * active.degree ≤ length (drop active.degree labels) = omega (arith, whole, length-drop active.degree labels) in
    let both = and-true (is_image active config (take active.degree labels)) (are_images active n configs (drop active.degree labels)) (sym (are_images-split active n config configs labels long) ∙ test) in
    go long both.0 both.1 (ltb (length (take k labels)) active.degree) refl (images-take active n configs (drop active.degree labels) rest (low-drop n active.degree labels low) both.1 (k - active.degree))
  where
    go : active.degree ≤ length labels → is_image active config (take active.degree labels) ≡ true → are_images active n configs (drop active.degree labels) ≡ true
        → (b : Bool) → b ≡ ltb (length (take k labels)) active.degree → are_images active n configs (take (k - active.degree) (drop active.degree labels)) ≡ true
        → cond b (begins_image active n config (take k labels)) (is_image active config (take active.degree (take k labels)) && are_images active n configs (drop active.degree (take k labels))) ≡ true
    go long image others true e more =
        let parts = and-true (is_in_order config (take active.degree labels)) (has_config active (take active.degree labels)) image in
        let shorter : length (take k labels) < active.degree = grind (arith, nat_tests) in
        let less : k ≤ active.degree = omega (arith, shorter, length-take k labels, long) in
        let same : take k (take active.degree labels) ≡ take k labels = take-take k active.degree labels less in
        let size : length (take active.degree labels) ≡ active.degree = length-take active.degree labels ∙ (let z : min active.degree (length labels) ≡ active.degree = omega (arith, long) in z) in
        subst (λ l. begins_image active n config l ≡ true) same
        (true-and (is_in_order config (take k (take active.degree labels))) (is_begun active n (take k (take active.degree labels)))
        (in_order-take config (take active.degree labels) k parts.0) (begun active n (take active.degree labels) k parts.1 size (low-take n active.degree labels low) less))
    go long image others false e more =
        let longer : active.degree ≤ length (take k labels) = grind (arith, nat_tests) in
        let some : active.degree ≤ k = omega (arith, longer, length-take k labels) in
        let same : take active.degree (take k labels) ≡ take active.degree labels = take-take active.degree k labels some in
        let behind : drop active.degree (take k labels) ≡ take (k - active.degree) (drop active.degree labels)
        = ap (λ m. drop active.degree (take m labels)) (let z : k ≡ active.degree + (k - active.degree) = omega (arith, some) in z) ∙ drop-take active.degree (k - active.degree) labels in
        true-and (is_image active config (take active.degree (take k labels))) (are_images active n configs (drop active.degree (take k labels)))
        (ap (is_image active config) same ∙ image) (ap (are_images active n configs) behind ∙ more)

-- how many places there are
pub joined-length : (d : ℕ) (configs : List (List ℕ)) → AllByRecursion (λ (config : List ℕ). length config ≡ d) configs → length (joined configs) ≡ length configs * d
joined-length d [] counts = let e : 0 ≡ 0 * d = omega arith in e
joined-length d (config ∷ configs) counts = omega (arith, length-append config (joined configs), counts.0, joined-length d configs counts.1)
