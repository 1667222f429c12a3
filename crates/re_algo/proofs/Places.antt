-- Where a view stands in the list of all views.
use Rattle.std.proofs.Common.{◌≡◌, ℕ, zero, suc, pred, ◌+◌, ◌*◌, ◌^◌, ◌≤◌, ◌<◌, List, [], ◌∷◌, map, length, get_or, refl, sym, ◌∙◌, ap, arith}
use Rattle.std.proofs.Math.Nat.{add-mul, mul_assoc, mul_comm, pow-suc, pow-zero}
use Rattle.std.proofs.lemmas.List.{length-map, get_or-map}
use Rattle.std.proofs.lemmas.List.Elements.{Contains-get_or}
use Rattle.std.specs.Prelude.{flat_map}
use Rattle.re_labels.proofs.Membership.{Distinct, get_or-count_from, length-count_from}
use Rattle.re_labels.specs.Lists.{count_from}
use Rattle.re_algo.proofs.Counts.{fewer_views, get_or-pieces, length-all_trees, length-pieces, piece_below}
use Rattle.re_algo.specs.Counting.{read_after, tree_count, view_place}
use Rattle.re_algo.specs.PlaceLaws.{FewerViewsLaw, PlaceLaw}
use Rattle.re_laws.proofs.AllViewsLemmas.{Distinct-all_views, all_views-IsView}
use Rattle.re_laws.specs.AllViews.{all_children, all_trees, all_views}
use Rattle.re_laws.specs.Trees.{IsTree, Tree, end, leaf, more}

abbrev Plain : Type 0
Plain = Tree (Unit {0})

-- a list of children stands behind the pieces of the lower back ports, and there behind those of the earlier branches
get_or-all_children : (e n : ℕ) (branches : List Plain) (back b r : ℕ) (branch rest : Plain) → 1 ≤ back → back ≤ e → b < length branches → get_or branches b leaf ≡ branch → r < length (all_children e branches n) → get_or (all_children e branches n) r leaf ≡ rest
    → get_or (all_children e branches (suc n)) (pred back * (length branches * length (all_children e branches n)) + (b * length (all_children e branches n) + r)) leaf ≡ more back tt branch rest
get_or-all_children e n branches back b r branch rest low high below at below' at' =
    let tails : ℕ = length (all_children e branches n) in
    let port : get_or (count_from 1 e) (pred back) 0 ≡ 1 + pred back = get_or-count_from 1 e (pred back) 0 (omega arith) in
    let port_is : get_or (count_from 1 e) (pred back) 0 ≡ back = omega arith in
    get_or-pieces (λ back. flat_map (row back) branches) (length branches * tails) (count_from 1 e) (pred back) (b * tails + r) 0 leaf (λ back. even back) (omega (arith, length-count_from 1 e)) (piece_below b (length branches) r tails below below')
    ∙ (ap (λ back. get_or (flat_map (row back) branches) (b * tails + r) leaf) port_is
    ∙ (get_or-pieces (row back) tails branches b r leaf leaf (λ branch. length-map (all_children e branches n) (more back tt branch)) below below'
    ∙ (ap (λ branch. get_or (row back branch) r leaf) at
    ∙ (get_or-map (more back tt branch) (all_children e branches n) r leaf leaf below'
    ∙ ap (more back tt branch) at'))))
  where
    row : ℕ → Plain → List Plain
    row back branch = map (more back tt branch) (all_children e branches n)

    even : (back : ℕ) → length (flat_map (row back) branches) ≡ length branches * length (all_children e branches n)
    even back = length-pieces (row back) (length (all_children e branches n)) branches (λ branch. length-map (all_children e branches n) (more back tt branch))

-- digits read after others
digits : (a e k b r c s : ℕ) → ((a * e + k) * b + r) * c + s ≡ a * (c * (b * e)) + ((k * b + r) * c + s)
digits a e k b r c s =
    let one : ((a * e + k) * b + r) * c ≡ a * e * b * c + (k * b + r) * c =
    ap (λ x. (x + r) * c) (add-mul (a * e) k b) ∙ (ap (λ x. x * c) (regroup (a * e * b) (k * b) r) ∙ add-mul (a * e * b) (k * b + r) c) in
    let two : a * e * b * c ≡ a * (c * (b * e)) =
    ap (λ x. x * c) (mul_assoc a e b) ∙ (mul_assoc a (e * b) c ∙ ap (λ x. a * x) (mul_comm (e * b) c ∙ ap (λ x. c * x) (mul_comm e b))) in
    omega arith
  where
    regroup : (x y z : ℕ) → x + y + z ≡ x + (y + z)
    regroup x y z = omega arith

-- the number of a tree, where digits are read before it
pub read_after-apart : (d e t n a : ℕ) (x : Plain) → IsTree d e t n x → read_after d e a x ≡ a * tree_count d e t n + read_after d e 0 x
read_after-apart d e zero n a leaf h = omega arith
read_after-apart d e zero n a end h = absurd h
read_after-apart d e zero n a (more back payload branch rest) h = absurd h
read_after-apart d e (suc t) n a leaf h = absurd h
read_after-apart d e (suc t) zero a end h = rw pow-zero (omega arith)
read_after-apart d e (suc t) (suc n) a end h = absurd h
read_after-apart d e (suc t) zero a (more back payload branch rest) h = absurd h
read_after-apart d e (suc t) (suc n) a (more back payload branch rest) h =
    let b : ℕ = tree_count e d t (pred e) in
    let c : ℕ = tree_count d e (suc t) n in
    let r : ℕ = read_after e d 0 branch in
    let s : ℕ = read_after d e 0 rest in
    let whole : (b * e) ^ suc n ≡ c * (b * e) = pow-suc (b * e) n in
    let from : (a : ℕ) → read_after d e (read_after e d (a * e + pred back) branch) rest ≡ ((a * e + pred back) * b + r) * c + s =
    λ a. ap (λ x. read_after d e x rest) (read_after-apart e d t (pred e) (a * e + pred back) branch h.2) ∙ read_after-apart d e (suc t) n ((a * e + pred back) * b + r) rest h.3 in
    let left = from a in
    let right = from 0 in
    let no : (0 * e + pred back) * b + r ≡ pred back * b + r = ap (λ x. x * b + r) (none e (pred back)) in
    let first : read_after d e (read_after e d (0 * e + pred back) branch) rest ≡ (pred back * b + r) * c + s = right ∙ ap (λ x. x * c + s) no in
    left ∙ (digits a e (pred back) b r c s ∙ (ap (λ x. a * x + ((pred back * b + r) * c + s)) (sym whole) ∙ ap (λ x. a * (b * e) ^ suc n + x) (sym first)))
  where
    none : (e k : ℕ) → 0 * e + k ≡ k
    none e k = omega arith

-- the number of a list of children, by its parts
number_is : (d e t n back : ℕ) (branch rest : Plain) → IsTree e d t (pred e) branch → IsTree d e (suc t) n rest →
    read_after d e (read_after e d (0 * e + pred back) branch) rest ≡ pred back * (tree_count e d t (pred e) * tree_count d e (suc t) n) + (read_after e d 0 branch * tree_count d e (suc t) n + read_after d e 0 rest)
number_is d e t n back branch rest is is' =
    let b : ℕ = tree_count e d t (pred e) in
    let c : ℕ = tree_count d e (suc t) n in
    let r : ℕ = read_after e d 0 branch in
    let s : ℕ = read_after d e 0 rest in
    let none : 0 * e + pred back ≡ pred back = omega arith in
    let apart : (pred back * b + r) * c ≡ pred back * b * c + r * c = add-mul (pred back * b) r c in
    let moved : pred back * b * c ≡ pred back * (b * c) = mul_assoc (pred back) b c in
    ap (λ x. read_after d e (read_after e d x branch) rest) none
    ∙ (ap (λ x. read_after d e x rest) (read_after-apart e d t (pred e) (pred back) branch is)
    ∙ (read_after-apart d e (suc t) n (pred back * b + r) rest is' ∙ omega arith))

-- a tree stands at its place
pub tree_at : (d e t n : ℕ) (x : Plain) → IsTree d e t n x → (read_after d e 0 x < length (all_trees d e t n)) × (get_or (all_trees d e t n) (read_after d e 0 x) leaf ≡ x)
tree_at d e zero n leaf h = (omega arith, refl)
tree_at d e zero n end h = absurd h
tree_at d e zero n (more back payload branch rest) h = absurd h
tree_at d e (suc t) n leaf h = absurd h
tree_at d e (suc t) zero end h = (omega arith, refl)
tree_at d e (suc t) (suc n) end h = absurd h
tree_at d e (suc t) zero (more back payload branch rest) h = absurd h
tree_at d e (suc t) (suc n) (more back payload branch rest) h =
    let branches : List Plain = all_trees e d t (pred e) in
    let (below, at) = tree_at e d t (pred e) branch h.2 in
    let (below', at') = tree_at d e (suc t) n rest h.3 in
    let many : length branches ≡ tree_count e d t (pred e) = length-all_trees e d t (pred e) in
    let many' : length (all_children e branches n) ≡ tree_count d e (suc t) n = length-all_trees d e (suc t) n in
    let place : read_after d e 0 (more back payload branch rest) ≡ pred back * (length branches * length (all_children e branches n)) + (read_after e d 0 branch * length (all_children e branches n) + read_after d e 0 rest) =
    number_is d e t n back branch rest h.2 h.3 ∙ ap (λ m. pred back * (m * tree_count d e (suc t) n) + (read_after e d 0 branch * tree_count d e (suc t) n + read_after d e 0 rest)) (sym many)
    ∙ ap (λ m. pred back * (length branches * m) + (read_after e d 0 branch * m + read_after d e 0 rest)) (sym many') in
    (rw place (bound branches h.0 h.1 below below'), rw place (get_or-all_children e n branches back (read_after e d 0 branch) (read_after d e 0 rest) branch rest h.0 h.1 below at below' at'))
  where
    bound : (branches : List Plain) → 1 ≤ back → back ≤ e → read_after e d 0 branch < length branches → read_after d e 0 rest < length (all_children e branches n)
        → pred back * (length branches * length (all_children e branches n)) + (read_after e d 0 branch * length (all_children e branches n) + read_after d e 0 rest) < length (all_children e branches (suc n))
    bound branches low high below below' =
        let tails : ℕ = length (all_children e branches n) in
        let pieces : length (all_children e branches (suc n)) ≡ length (count_from 1 e) * (length branches * tails) =
        length-pieces (λ back. flat_map (λ branch. map (more back tt branch) (all_children e branches n)) branches) (length branches * tails) (count_from 1 e)
        (λ back. length-pieces (λ branch. map (more back tt branch) (all_children e branches n)) tails branches (λ branch. length-map (all_children e branches n) (more back tt branch))) in
        let ports : length (count_from 1 e) ≡ e = length-count_from 1 e in
        rw (pieces, ports) (piece_below (pred back) e (read_after e d 0 branch * tails + read_after d e 0 rest) (length branches * tails) (omega arith) (piece_below (read_after e d 0 branch) (length branches) (read_after d e 0 rest) tails below below'))

-- where nothing stands twice, an element stands at one place
one_place : {A : Type 0} (xs : List A) (i j : ℕ) (d : A) → Distinct xs → i < length xs → j < length xs → get_or xs i d ≡ get_or xs j d → i ≡ j
one_place [] i j d h l m e = absurd (omega arith)
one_place (x ∷ xs) zero zero d h l m e = refl
one_place (x ∷ xs) zero (suc j) d h l m e = absurd (h.0 (rw e (Contains-get_or xs j d (omega arith))))
one_place (x ∷ xs) (suc i) zero d h l m e = absurd (h.0 (rw (← e) (Contains-get_or xs i d (omega arith))))
one_place (x ∷ xs) (suc i) (suc j) d h l m e = ap suc (one_place xs i j d h.1 (omega arith) (omega arith) e)

pub place_at : (d e radius k : ℕ) → k < length (all_views d e radius) → view_place d e (get_or (all_views d e radius) k leaf) ≡ k
place_at d e radius k l =
    let v : Plain = get_or (all_views d e radius) k leaf in
    let (below, at) = tree_at d e radius d v (all_views-IsView d e radius v (Contains-get_or (all_views d e radius) k leaf l)) in
    one_place (all_views d e radius) (view_place d e v) k leaf (Distinct-all_views d e radius) below l at

pub place_law : PlaceLaw
place_law d e radius = (λ v is. tree_at d e radius d v is, place_at d e radius)

pub fewer_views_law : FewerViewsLaw
fewer_views_law = fewer_views
