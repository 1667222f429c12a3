-- What passes with all its labels does with the first ones.
use Rattle.std.proofs.Common.{◌≡◌, ℕ, zero, suc, ◌<◌, ◌≤◌, ◌+◌, ◌-◌, ◌*◌, min, Bool, true, false, cond, not, ltb, ◌&&◌, ◌||◌, List, [], ◌∷◌, length, take, drop, get_or, refl, sym, ap, ◌∙◌, subst, arith, length-drop, length-take, take-take, get_or-take}
use Rattle.std.specs.List.{AllByRecursion}
use Rattle.std.proofs.lemmas.Bool.Decides.{nat_tests}
use Rattle.std.proofs.lemmas.List.{drop-take}
use Rattle.re_cover.specs.declared.ends.GraphEnd.{GraphEnd}
use Rattle.re_graph.specs.Solving.{are_active, are_kept, have_labels, is_kept, labels_at, place_of}
use Rattle.re_labels.proofs.Tests.{and-true, below-true, true-and, true-below}
use Rattle.re_labels.specs.Constraints.{Constraint, has_config}
use Rattle.re_walks.proofs.ConfigBeginnings.{begun, low-drop, low-take}
use Rattle.re_walks.specs.Begun.{is_begun}
use Rattle.std.proofs.lemmas.Bool.{le-ltb}

pub not-less : (x z : ℕ) → false ≡ ltb x z → z ≤ x
not-less x z e = grind (arith, nat_tests)

-- the parts of the test of labels that are as many as those of a node or more
pub long-parts : (active : Constraint) (n nodes : ℕ) (labels : List ℕ) → active.degree ≤ length labels → are_active active n (suc nodes) labels ≡ true → (has_config active (take active.degree labels) ≡ true) × (are_active active n nodes (drop active.degree labels) ≡ true)
long-parts active n nodes labels long test =
    and-true (has_config active (take active.degree labels)) (are_active active n nodes (drop active.degree labels))
    (subst (λ b. cond b (is_begun active n labels) (has_config active (take active.degree labels) && are_active active n nodes (drop active.degree labels)) ≡ true) (le-ltb (length labels) active.degree long) test)

pub active-front : (active : Constraint) (n nodes : ℕ) (labels : List ℕ) (k : ℕ) → length labels ≡ nodes * active.degree → AllByRecursion (λ label. label < n) labels → are_active active n nodes labels ≡ true → are_active active n nodes (take k labels) ≡ true
active-front active n zero labels k count low test = refl
active-front active n (suc nodes) labels k count low test =
    let long : active.degree ≤ length labels = omega (arith, count) in
    let (here, behind) = long-parts active n nodes labels long test in
    let left : length (drop active.degree labels) ≡ nodes * active.degree = length-drop active.degree labels ∙ (let z : length labels - active.degree ≡ nodes * active.degree = omega (arith, count) in z) in
    go long here (λ j. active-front active n nodes (drop active.degree labels) j left (low-drop n active.degree labels low) behind) (ltb (length (take k labels)) active.degree) refl
  where
    go : active.degree ≤ length labels → has_config active (take active.degree labels) ≡ true → ((j : ℕ) → are_active active n nodes (take j (drop active.degree labels)) ≡ true)
        → (b : Bool) → b ≡ ltb (length (take k labels)) active.degree
        → cond b (is_begun active n (take k labels)) (has_config active (take active.degree (take k labels)) && are_active active n nodes (drop active.degree (take k labels))) ≡ true
    go long here others true e =
        let less : length (take k labels) < active.degree = below-true (length (take k labels)) active.degree (sym e) in
        let few : k ≤ active.degree = omega (arith, less, long, length-take k labels) in
        let size : length (take active.degree labels) ≡ active.degree = length-take active.degree labels ∙ (let z : min active.degree (length labels) ≡ active.degree = omega (arith, long) in z) in
        ap (is_begun active n) (sym (take-take k active.degree labels few)) ∙ begun active n (take active.degree labels) k here size (low-take n active.degree labels low) few
    go long here others false e =
        let more : active.degree ≤ length (take k labels) = not-less (length (take k labels)) active.degree e in
        let many : active.degree ≤ k = omega (arith, more, length-take k labels) in
        let behind : drop active.degree (take k labels) ≡ take (k - active.degree) (drop active.degree labels)
        = ap (λ m. drop active.degree (take m labels)) (let z : k ≡ active.degree + (k - active.degree) = omega (arith, many) in z) ∙ drop-take active.degree (k - active.degree) labels in
        true-and (has_config active (take active.degree (take k labels))) (are_active active n nodes (drop active.degree (take k labels)))
        (ap (has_config active) (take-take active.degree k labels many) ∙ here) (ap (are_active active n nodes) behind ∙ others (k - active.degree))

-- ---- passive nodes
pub have-more : (d m more : ℕ) (ends : List GraphEnd) → m ≤ more → have_labels d m ends ≡ true → have_labels d more ends ≡ true
have-more d m more [] l test = refl
have-more d m more (here ∷ ends) l test =
    let (first, rest) = and-true (ltb (place_of d here) m) (have_labels d m ends) test in
    true-and (ltb (place_of d here) more) (have_labels d more ends) (true-below (place_of d here) more (omega (arith, l, below-true (place_of d here) m first))) (have-more d m more ends l rest)

pub labels-front : (d k : ℕ) (labels : List ℕ) (ends : List GraphEnd) → have_labels d (length (take k labels)) ends ≡ true → labels_at d (take k labels) ends ≡ labels_at d labels ends
labels-front d k labels [] test = refl
labels-front d k labels (here ∷ ends) test =
    let (first, rest) = and-true (ltb (place_of d here) (length (take k labels))) (have_labels d (length (take k labels)) ends) test in
    let less : place_of d here < k = omega (arith, below-true (place_of d here) (length (take k labels)) first, length-take k labels) in
    let one : get_or (take k labels) (place_of d here) 0 ≡ get_or labels (place_of d here) 0 = get_or-take k labels (place_of d here) 0 less in
    λ i. one i ∷ labels-front d k labels ends rest i

-- where all ends have labels, these are a configuration
pub kept-has : (passive : Constraint) (d : ℕ) (labels : List ℕ) (ends : List GraphEnd) → have_labels d (length labels) ends ≡ true → is_kept passive d labels ends ≡ true → has_config passive (labels_at d labels ends) ≡ true
kept-has passive d labels ends have test = subst (λ b. (not b || has_config passive (labels_at d labels ends)) ≡ true) have test

kept-front : (passive : Constraint) (d k : ℕ) (labels : List ℕ) (ends : List GraphEnd) → is_kept passive d labels ends ≡ true → is_kept passive d (take k labels) ends ≡ true
kept-front passive d k labels ends test = go (have_labels d (length (take k labels)) ends) refl
  where
    go : (b : Bool) → b ≡ have_labels d (length (take k labels)) ends → (not b || has_config passive (labels_at d (take k labels) ends)) ≡ true
    go false e = refl
    go true e =
        let less : length (take k labels) ≤ length labels = omega (arith, length-take k labels) in
        ap (has_config passive) (labels-front d k labels ends (sym e)) ∙ kept-has passive d labels ends (have-more d (length (take k labels)) (length labels) ends less (sym e)) test

pub all-kept-front : (passive : Constraint) (d k : ℕ) (labels : List ℕ) (nodes : List (List GraphEnd)) → are_kept passive d labels nodes ≡ true → are_kept passive d (take k labels) nodes ≡ true
all-kept-front passive d k labels [] test = refl
all-kept-front passive d k labels (ends ∷ nodes) test =
    let (first, rest) = and-true (is_kept passive d labels ends) (are_kept passive d labels nodes) test in
    true-and (is_kept passive d (take k labels) ends) (are_kept passive d (take k labels) nodes) (kept-front passive d k labels ends first) (all-kept-front passive d k labels nodes rest)
