-- The labels that pass are solutions, written one behind the other.
use Rattle.std.proofs.Common.{◌≡◌, ℕ, zero, suc, pred, ◌<◌, ◌≤◌, ◌+◌, ◌-◌, ◌*◌, true, cond, not, ltb, ◌&&◌, List, [], ◌∷◌, ◌++◌, length, map, take, drop, get_or, refl, sym, ap, ◌∙◌, subst, arith, length-append, length-drop, get_or-take, get_or-drop, take_at, drop_at}
use Rattle.std.specs.List.{AllByRecursion}
use Rattle.std.proofs.Math.Nat.{mul-le-mul_left}
use Rattle.re_cover.specs.declared.ends.GraphEnd.{GraphEnd}
use Rattle.re_cover.specs.Graphs.{IsEndOf, IsSolution, label_at}
use Rattle.re_graph.proofs.Fronts.{active-front, all-kept-front, kept-has, long-parts}
use Rattle.re_graph.specs.Solving.{SolutionWalkLaw, are_active, are_kept, have_labels, is_kept, labels_at, labels_of, passes_on, place_of}
use Rattle.re_labels.proofs.Membership.{AllByRecursion-weaker}
use Rattle.re_labels.proofs.Tests.{and-true, or-right, true-and, true-below}
use Rattle.re_labels.proofs.Goodness.{Has-has_config, has_config-Has}
use Rattle.re_labels.specs.Constraints.{Constraint, Has, has_config}
use Rattle.re_labels.proofs.ConstraintImages.{held_labels}
use Rattle.re_walks.specs.Begun.{is_begun}
use Rattle.re_walks.specs.Walking.{IsAssignment}
use Rattle.std.proofs.lemmas.Bool.{le-ltb}

-- ---- the labels of a node among those of all nodes
length-labels_of : (d m : ℕ) (labels : List ℕ) → length (labels_of d m labels) ≡ m
length-labels_of d zero labels = refl
length-labels_of d (suc m) labels = ap suc (length-labels_of d m (drop d labels))

label-of : (d m : ℕ) (labels : List ℕ) (u k : ℕ) → u < m → k < d → get_or (get_or (labels_of d m labels) u []) k 0 ≡ get_or labels (u * d + k) 0
label-of d zero labels u k less few = absurd (omega arith)
label-of d (suc m) labels zero k less few = get_or-take d labels k 0 few ∙ ap (λ i. get_or labels i 0) (let z : k ≡ 0 * d + k = omega arith in z)
label-of d (suc m) labels (suc u) k less few =
    label-of d m (drop d labels) u k (omega (arith, less)) few ∙ get_or-drop d labels (u * d + k) 0 ∙ ap (λ i. get_or labels i 0) (let z : d + (u * d + k) ≡ suc u * d + k = omega arith in z)

same-label : (d m : ℕ) (labels : List ℕ) (here : GraphEnd) → IsEndOf m d here → label_at (labels_of d m labels) here ≡ get_or labels (place_of d here) 0
same-label d m labels here is =
    let low = is.least in
    let high = is.most in
    label-of d m labels here.node (pred here.port) is.node (omega (arith, low, high)) ∙ ap (λ i. get_or labels (here.node * d + i) 0) (let z : pred here.port ≡ here.port - 1 = omega arith in z)

same-labels : (d m : ℕ) (labels : List ℕ) (ends : List GraphEnd) → AllByRecursion (IsEndOf m d) ends → map (label_at (labels_of d m labels)) ends ≡ labels_at d labels ends
same-labels d m labels [] all = refl
same-labels d m labels (here ∷ ends) all = λ i. same-label d m labels here all.0 i ∷ same-labels d m labels ends all.1 i

-- ---- all ends have labels
place-low : (d m : ℕ) (here : GraphEnd) → IsEndOf m d here → place_of d here < m * d
place-low d m here is =
    let low = is.least in
    let high = is.most in
    let h : suc here.node ≤ m = is.node in
    omega (arith, low, high, mul-le-mul_left d h)

have-all : (d m : ℕ) (ends : List GraphEnd) → AllByRecursion (IsEndOf m d) ends → have_labels d (m * d) ends ≡ true
have-all d m [] all = refl
have-all d m (here ∷ ends) all = true-and (ltb (place_of d here) (m * d)) (have_labels d (m * d) ends) (true-below (place_of d here) (m * d) (place-low d m here all.0)) (have-all d m ends all.1)

-- ---- what passes is a solution
active-has : (active : Constraint) (n m : ℕ) (labels : List ℕ) → length labels ≡ m * active.degree → are_active active n m labels ≡ true → AllByRecursion (Has active) (labels_of active.degree m labels)
active-has active n zero labels count test = tt
active-has active n (suc m) labels count test =
    let (here, behind) = long-parts active n m labels (omega (arith, count)) test in
    let left : length (drop active.degree labels) ≡ m * active.degree = length-drop active.degree labels ∙ (let z : length labels - active.degree ≡ m * active.degree = omega (arith, count) in z) in
    (has_config-Has active (take active.degree labels) here, active-has active n m (drop active.degree labels) left behind)

passive-has : (passive : Constraint) (d m : ℕ) (labels : List ℕ) (nodes : List (List GraphEnd)) → length labels ≡ m * d → AllByRecursion (AllByRecursion (IsEndOf m d)) nodes → are_kept passive d labels nodes ≡ true
    → AllByRecursion (λ ends. Has passive (map (label_at (labels_of d m labels)) ends)) nodes
passive-has passive d m labels [] count all test = tt
passive-has passive d m labels (ends ∷ nodes) count all test =
    let (first, rest) = and-true (is_kept passive d labels ends) (are_kept passive d labels nodes) test in
    let have : have_labels d (length labels) ends ≡ true = ap (λ k. have_labels d k ends) count ∙ have-all d m ends all.0 in (
      subst (Has passive) (sym (same-labels d m labels ends all.0)) (has_config-Has passive (labels_at d labels ends) (kept-has passive d labels ends have first)),
      passive-has passive d m labels nodes count all.1 rest,
    )

-- ---- a solution passes
abbrev pub joined : List (List ℕ) → List ℕ
joined [] = []
joined (labels ∷ lists) = labels ++ joined lists

length-joined : (d : ℕ) (lists : List (List ℕ)) → AllByRecursion (λ labels. length labels ≡ d) lists → length (joined lists) ≡ length lists * d
length-joined d [] all = let z : 0 ≡ 0 * d = omega arith in z
length-joined d (labels ∷ lists) all =
    let rest : length (joined lists) ≡ length lists * d = length-joined d lists all.1 in
    length-append labels (joined lists) ∙ (let z : length labels + length (joined lists) ≡ suc (length lists) * d = omega (arith, all.0, rest) in z)

below-joined : (n : ℕ) (lists : List (List ℕ)) → AllByRecursion (AllByRecursion (λ label. label < n)) lists → AllByRecursion (λ label. label < n) (joined lists)
below-joined n [] all = tt
below-joined n (labels ∷ lists) all = front labels all.0 (below-joined n lists all.1)
  where
    front : (xs : List ℕ) → AllByRecursion (λ label. label < n) xs → AllByRecursion (λ label. label < n) (joined lists) → AllByRecursion (λ label. label < n) (xs ++ joined lists)
    front [] low rest = rest
    front (x ∷ xs) low rest = (low.0, front xs low.1 rest)

labels_of-joined : (d : ℕ) (lists : List (List ℕ)) → AllByRecursion (λ labels. length labels ≡ d) lists → labels_of d (length lists) (joined lists) ≡ lists
labels_of-joined d [] all = refl
labels_of-joined d (labels ∷ lists) all =
    let here : take d (labels ++ joined lists) ≡ labels = take_at labels (joined lists) d all.0 in
    let behind : drop d (labels ++ joined lists) ≡ joined lists = drop_at labels (joined lists) d all.0 in
    (λ i. here i ∷ labels_of d (length lists) (behind i)) ∙ ap (λ ls. labels ∷ ls) (labels_of-joined d lists all.1)

active-joined : (active : Constraint) (n : ℕ) (lists : List (List ℕ)) → AllByRecursion (λ labels. length labels ≡ active.degree) lists → AllByRecursion (Has active) lists → are_active active n (length lists) (joined lists) ≡ true
active-joined active n [] all has = refl
active-joined active n (labels ∷ lists) all has =
    let here : take active.degree (labels ++ joined lists) ≡ labels = take_at labels (joined lists) active.degree all.0 in
    let behind : drop active.degree (labels ++ joined lists) ≡ joined lists = drop_at labels (joined lists) active.degree all.0 in
    let long : active.degree ≤ length (labels ++ joined lists) = omega (arith, length-append labels (joined lists), all.0) in
    ap (λ b. cond b (is_begun active n (labels ++ joined lists)) (has_config active (take active.degree (labels ++ joined lists)) && are_active active n (length lists) (drop active.degree (labels ++ joined lists)))) (le-ltb (length (labels ++ joined lists)) active.degree long)
    ∙ true-and (has_config active (take active.degree (labels ++ joined lists))) (are_active active n (length lists) (drop active.degree (labels ++ joined lists)))
    (ap (has_config active) here ∙ Has-has_config active labels has.0) (ap (are_active active n (length lists)) behind ∙ active-joined active n lists all.1 has.1)

kept-joined : (passive : Constraint) (d m : ℕ) (flat : List ℕ) (lists : List (List ℕ)) (nodes : List (List GraphEnd)) → labels_of d m flat ≡ lists → AllByRecursion (AllByRecursion (IsEndOf m d)) nodes
    → AllByRecursion (λ ends. Has passive (map (label_at lists) ends)) nodes → are_kept passive d flat nodes ≡ true
kept-joined passive d m flat lists [] same all has = refl
kept-joined passive d m flat lists (ends ∷ nodes) same all has =
    let labels : map (label_at lists) ends ≡ labels_at d flat ends = ap (λ ls. map (label_at ls) ends) (sym same) ∙ same-labels d m flat ends all.0 in
    true-and (is_kept passive d flat ends) (are_kept passive d flat nodes)
    (or-right (not (have_labels d (length flat) ends)) (has_config passive (labels_at d flat ends)) (Has-has_config passive (labels_at d flat ends) (subst (Has passive) labels has.0)))
    (kept-joined passive d m flat lists nodes same all.1 has.1)

pub passes_law : SolutionWalkLaw
passes_law problem graph is of = record { beginnings = beginnings; solutions = solutions; all = all }
  where
    d : ℕ
    d = problem.active.degree

    ends : AllByRecursion (AllByRecursion (IsEndOf graph.nodes problem.active.degree)) graph.passive
    ends = subst (λ e. AllByRecursion (AllByRecursion (IsEndOf graph.nodes e)) graph.passive) of.active_degree of.is_graph.ends

    beginnings : (labels : List ℕ) → IsAssignment problem.labels (graph.nodes * problem.active.degree) labels → passes_on problem graph labels ≡ true → (k : ℕ) → passes_on problem graph (take k labels) ≡ true
    beginnings labels given test k =
        let (active, passive) = and-true (are_active problem.active problem.labels graph.nodes labels) (are_kept problem.passive problem.active.degree labels graph.passive) test in
        true-and (are_active problem.active problem.labels graph.nodes (take k labels)) (are_kept problem.passive problem.active.degree (take k labels) graph.passive)
        (active-front problem.active problem.labels graph.nodes labels k given.0 given.1 active) (all-kept-front problem.passive problem.active.degree k labels graph.passive passive)

    solutions : (labels : List ℕ) → IsAssignment problem.labels (graph.nodes * problem.active.degree) labels → passes_on problem graph labels ≡ true → IsSolution problem graph (labels_of problem.active.degree graph.nodes labels)
    solutions labels given test =
        let (active, passive) = and-true (are_active problem.active problem.labels graph.nodes labels) (are_kept problem.passive problem.active.degree labels graph.passive) test in
        record {
          count = length-labels_of problem.active.degree graph.nodes labels;
          active = active-has problem.active problem.labels graph.nodes labels given.0 active;
          passive = passive-has problem.passive problem.active.degree graph.nodes labels graph.passive given.0 ends passive;
        }

    all : (lists : List (List ℕ)) → IsSolution problem graph lists → (flat : List ℕ) × IsAssignment problem.labels (graph.nodes * problem.active.degree) flat × (passes_on problem graph flat ≡ true) × (labels_of problem.active.degree graph.nodes flat ≡ lists)
    all lists solution =
        let both = AllByRecursion-weaker (Has problem.active) (λ labels. (length labels ≡ problem.active.degree) × AllByRecursion (λ label. label < problem.labels) labels) (λ labels has. held_labels problem.labels problem.active labels is.active has) lists solution.active in
        let counts : AllByRecursion (λ labels. length labels ≡ problem.active.degree) lists = AllByRecursion-weaker (λ labels. (length labels ≡ problem.active.degree) × AllByRecursion (λ label. label < problem.labels) labels) (λ labels. length labels ≡ problem.active.degree) (λ labels h. h.0) lists both in
        let low : AllByRecursion (AllByRecursion (λ label. label < problem.labels)) lists = AllByRecursion-weaker (λ labels. (length labels ≡ problem.active.degree) × AllByRecursion (λ label. label < problem.labels) labels) (AllByRecursion (λ label. label < problem.labels)) (λ labels h. h.1) lists both in
        let same : labels_of problem.active.degree graph.nodes (joined lists) ≡ lists = ap (λ m. labels_of problem.active.degree m (joined lists)) (sym solution.count) ∙ labels_of-joined problem.active.degree lists counts in
        let active : are_active problem.active problem.labels graph.nodes (joined lists) ≡ true = ap (λ m. are_active problem.active problem.labels m (joined lists)) (sym solution.count) ∙ active-joined problem.active problem.labels lists counts solution.active in
        let passive : are_kept problem.passive problem.active.degree (joined lists) graph.passive ≡ true = kept-joined problem.passive problem.active.degree graph.nodes (joined lists) lists graph.passive same ends solution.passive in (
          joined lists,
          (length-joined problem.active.degree lists counts ∙ ap (λ m. m * problem.active.degree) solution.count, below-joined problem.labels lists low),
          true-and (are_active problem.active problem.labels graph.nodes (joined lists)) (are_kept problem.passive problem.active.degree (joined lists) graph.passive) active passive,
          same,
        )
