use Rattle.std.proofs.Common.{ℕ, zero, suc, pred, List, [], map, arith, ◌≡◌, sym, ◌∙◌}
use Rattle.std.specs.Prelude.{Contains, flat_map}
use Rattle.re_labels.proofs.Membership.{Contains-count_from, Contains-flat_map, Contains-flat_map_cases, Contains-here, Contains-map, Contains-map_cases, Distinct, Distinct-count_from, Distinct-flat_map, Distinct-map, count_from_range}
use Rattle.re_labels.specs.Lists.{count_from}
use Rattle.re_laws.specs.AllViews.{all_children, all_trees, all_views}
use Rattle.re_laws.specs.Trees.{IsTree, IsView, Tree, end, leaf, more}

-- every tree of the depth is listed
Contains-all_children : (d e t n : ℕ) (branches : List (Tree (Unit {0}))) → ((x : Tree (Unit {0})) → IsTree e d t (pred e) x → Contains branches x) → (x : Tree (Unit {0})) → IsTree d e (suc t) n x → Contains (all_children e branches n) x
Contains-all_children d e t n branches each leaf h = absurd h
Contains-all_children d e t zero branches each end h = Contains-here end []
Contains-all_children d e t (suc n) branches each end h = absurd h
Contains-all_children d e t zero branches each (more back payload branch rest) h = absurd h
Contains-all_children d e t (suc n) branches each (more back payload branch rest) h =
    let tails : Contains (all_children e branches n) rest = Contains-all_children d e t n branches each rest h.3 in
    let l = h.0 in let m = h.1 in
    Contains-flat_map (λ back. flat_map (λ branch. map (more back tt branch) (all_children e branches n)) branches) (count_from 1 e) back (more back payload branch rest)
    (Contains-count_from 1 e back l (omega arith))
    (Contains-flat_map (λ branch. map (more back tt branch) (all_children e branches n)) branches branch (more back payload branch rest) (each branch h.2)
    (Contains-map (more back tt branch) (all_children e branches n) rest tails))

pub Contains-all_trees : (d e t n : ℕ) (x : Tree (Unit {0})) → IsTree d e t n x → Contains (all_trees d e t n) x
Contains-all_trees d e zero n leaf h = Contains-here leaf []
Contains-all_trees d e zero n end h = absurd h
Contains-all_trees d e zero n (more back payload branch rest) h = absurd h
Contains-all_trees d e (suc t) n x h = Contains-all_children d e t n (all_trees e d t (pred e)) (Contains-all_trees e d t (pred e)) x h

pub Contains-all_views : (d e radius : ℕ) (v : Tree (Unit {0})) → IsView d e radius v → Contains (all_views d e radius) v
Contains-all_views d e radius v h = Contains-all_trees d e radius d v h

-- and nothing else is listed
all_children-IsTree : (d e t n : ℕ) (branches : List (Tree (Unit {0}))) → ((x : Tree (Unit {0})) → Contains branches x → IsTree e d t (pred e) x) → (x : Tree (Unit {0})) → Contains (all_children e branches n) x → IsTree d e (suc t) n x
all_children-IsTree d e t zero branches each x (zero, l, f) = rw (← f) tt
all_children-IsTree d e t zero branches each x (suc k, l, f) = absurd (omega arith)
all_children-IsTree d e t (suc n) branches each x h =
    let rows : ℕ → Tree (Unit {0}) → List (Tree (Unit {0})) = λ back branch. map (more back tt branch) (all_children e branches n) in
    let (back, back_in, at) = Contains-flat_map_cases (λ back. flat_map (rows back) branches) (count_from 1 e) x h in
    let (branch, branch_in, at') = Contains-flat_map_cases (rows back) branches x at in
    let (rest, rest_in, is) = Contains-map_cases (more back tt branch) (all_children e branches n) x at' in
    let (low, high) = count_from_range 1 e back back_in in
    rw (← is) (low, omega arith, each branch branch_in, all_children-IsTree d e t n branches each rest rest_in)

pub all_trees-IsTree : (d e t n : ℕ) (x : Tree (Unit {0})) → Contains (all_trees d e t n) x → IsTree d e t n x
all_trees-IsTree d e zero n x (zero, l, f) = rw (← f) tt
all_trees-IsTree d e zero n x (suc k, l, f) = absurd (omega arith)
all_trees-IsTree d e (suc t) n x h = all_children-IsTree d e t n (all_trees e d t (pred e)) (all_trees-IsTree e d t (pred e)) x h

pub all_views-IsView : (d e radius : ℕ) (v : Tree (Unit {0})) → Contains (all_views d e radius) v → IsView d e radius v
all_views-IsView d e radius v h = all_trees-IsTree d e radius d v h

-- no view is listed twice
same_row : (back back' : ℕ) (branch branch' rest rest' : Tree (Unit {0})) → ◌≡◌ {A = Tree (Unit {0})} (more back tt branch rest) (more back' tt branch' rest') → (back ≡ back') × (branch ≡ branch') × (rest ≡ rest')
same_row back back' branch branch' rest rest' e = (cc, cc, cc)

Distinct-all_children : (e n : ℕ) (branches : List (Tree (Unit {0}))) → Distinct branches → Distinct (all_children e branches n)
Distinct-all_children e zero branches h = (λ at. absurd (let l = at.1 in omega arith), tt)
Distinct-all_children e (suc n) branches h =
    Distinct-flat_map (λ back. flat_map (λ branch. map (more back tt branch) (all_children e branches n)) branches) (count_from 1 e)
    (λ back. Distinct-flat_map (λ branch. map (more back tt branch) (all_children e branches n)) branches
    (λ branch. Distinct-map (more back tt branch) (all_children e branches n) (λ x y e. (same_row back back branch branch x y e).2) (Distinct-all_children e n branches h))
    (λ branch branch' z at at'. one_branch back back branch branch' z at at') h)
    (λ back back' z at at'. one_back back back' z (Contains-flat_map_cases (λ branch. map (more back tt branch) (all_children e branches n)) branches z at) (Contains-flat_map_cases (λ branch. map (more back' tt branch) (all_children e branches n)) branches z at'))
    (Distinct-count_from 1 e)
  where
    one_branch : (back back' : ℕ) (branch branch' z : Tree (Unit {0})) → Contains (map (more back tt branch) (all_children e branches n)) z → Contains (map (more back' tt branch') (all_children e branches n)) z → branch ≡ branch'
    one_branch back back' branch branch' z at at' =
        let (x, held, f) = Contains-map_cases (more back tt branch) (all_children e branches n) z at in
        let (y, held', g) = Contains-map_cases (more back' tt branch') (all_children e branches n) z at' in
        (same_row back back' branch branch' x y (f ∙ sym g)).1

    one_back : (back back' : ℕ) (z : Tree (Unit {0})) → (branch : Tree (Unit {0})) × Contains branches branch × Contains (map (more back tt branch) (all_children e branches n)) z → (branch : Tree (Unit {0})) × Contains branches branch × Contains (map (more back' tt branch) (all_children e branches n)) z → back ≡ back'
    one_back back back' z (branch, held, at) (branch', held', at') =
        let (x, there, f) = Contains-map_cases (more back tt branch) (all_children e branches n) z at in
        let (y, there', g) = Contains-map_cases (more back' tt branch') (all_children e branches n) z at' in
        (same_row back back' branch branch' x y (f ∙ sym g)).0

Distinct-all_trees : (d e t n : ℕ) → Distinct (all_trees d e t n)
Distinct-all_trees d e zero n = (λ at. absurd (let l = at.1 in omega arith), tt)
Distinct-all_trees d e (suc t) n = Distinct-all_children e n (all_trees e d t (pred e)) (Distinct-all_trees e d t (pred e))

pub Distinct-all_views : (d e radius : ℕ) → Distinct (all_views d e radius)
Distinct-all_views d e radius = Distinct-all_trees d e radius d
