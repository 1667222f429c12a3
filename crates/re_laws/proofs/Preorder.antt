-- The list of all views rises by the back ports in preorder.
use Rattle.std.proofs.Common.{◌≡◌, ℕ, zero, suc, pred, ◌<◌, List, [], ◌∷◌, ◌++◌, map, length, refl, arith, length-append, inl, inr}
use Rattle.std.specs.Prelude.{Contains, flat_map}
use Rattle.re_labels.proofs.Before.{IsBefore-cases, IsBefore-head, IsBefore-tail, IsBefore-trans}
use Rattle.re_labels.proofs.Membership.{Contains-In, Contains-flat_map_cases, Contains-map_cases, In, In-Contains}
use Rattle.re_labels.proofs.Rising.{rising-append, rising-below, rising-map}
use Rattle.re_labels.specs.Lists.{IsBefore, IsRising, count_from}
use Rattle.re_laws.proofs.AllViewsLemmas.{all_trees-IsTree}
use Rattle.re_laws.specs.AllViews.{all_children, all_trees, all_views, preorder}
use Rattle.re_laws.specs.Trees.{IsTree, Tree, end, leaf, more}

-- pieces that rise, each wholly before the next one
rising-flat_map : {X Y : Type 0} (RX : X → X → Type 0) (RY : Y → Y → Type 0) (chain : (x y z : X) → RX x y → RX y z → RX x z) (chain' : (x y z : Y) → RY x y → RY y z → RY x z) (f : X → List Y) (xs : List X)
    → ((x : X) → In x xs → IsRising RY (f x)) → ((x y : X) (u v : Y) → In x xs → In y xs → RX x y → In u (f x) → In v (f y) → RY u v) → IsRising RX xs → IsRising RY (flat_map f xs)
rising-flat_map RX RY chain chain' f [] each low h = tt
rising-flat_map {X} {Y} RX RY chain chain' f (x ∷ xs) each low h =
    rising-append RY chain' (f x) (flat_map f xs) (each x (inl refl)) (rising-flat_map RX RY chain chain' f xs (λ y i. each y (inr i)) (λ y z u v i j. low y z u v (inr i) (inr j)) (tail_rises xs h)) later
  where
    tail_rises : (xs : List X) → IsRising RX (x ∷ xs) → IsRising RX xs
    tail_rises [] h = tt
    tail_rises (y ∷ xs) h = h.1

    below : (xs : List X) → IsRising RX (x ∷ xs) → (y : X) → In y xs → RX x y
    below [] h y i = absurd i
    below (z ∷ xs) h y i = rising-below RX chain x z xs h.0 h.1 y i

    later : (u v : Y) → In u (f x) → In v (flat_map f xs) → RY u v
    later u v i j =
        let (y, held, at) = Contains-flat_map_cases f xs v (In-Contains v (flat_map f xs) j) in
        low x y u v (inl refl) (inr (Contains-In y xs held)) (below xs h y (Contains-In y xs held)) i (Contains-In v (f y) at)

pub rising-count_from : (i n : ℕ) → IsRising (λ x y. x < y) (count_from i n)
rising-count_from i zero = tt
rising-count_from i (suc zero) = tt
rising-count_from i (suc (suc n)) = (omega arith, rising-count_from (suc i) (suc n))

-- the order of lists looks at the first parts first
IsBefore-append_left : (u v a b : List ℕ) → length u ≡ length v → IsBefore u v → IsBefore (u ++ a) (v ++ b)
IsBefore-append_left [] [] a b even h = absurd (cc)
IsBefore-append_left [] (y ∷ v) a b even h = absurd (cc)
IsBefore-append_left (x ∷ u) [] a b even h = absurd (cc)
IsBefore-append_left (x ∷ u) (y ∷ v) a b even h = elim (IsBefore-cases x y u v h) [
  | inl l ↦ IsBefore-head x y (u ++ a) (v ++ b) l
  | inr m ↦ IsBefore-tail x y (u ++ a) (v ++ b) m.0 (IsBefore-append_left u v a b (omega arith) m.1)
]

IsBefore-append_right : (u a b : List ℕ) → IsBefore a b → IsBefore (u ++ a) (u ++ b)
IsBefore-append_right [] a b h = h
IsBefore-append_right (x ∷ u) a b h = IsBefore-tail x x (u ++ a) (u ++ b) refl (IsBefore-append_right u a b h)

abbrev Plain : Type 0
Plain = Tree (Unit {0})

-- trees in the order of their back ports
abbrev Precedes : Plain → Plain → Type 0
Precedes x y = IsBefore (preorder x) (preorder y)

Precedes-trans : (x y z : Plain) → Precedes x y → Precedes y z → Precedes x z
Precedes-trans x y z = IsBefore-trans (preorder x) (preorder y) (preorder z)

-- trees of one depth that show as many ports have as many back ports
same_size : (d e t n : ℕ) (x y : Plain) → IsTree d e t n x → IsTree d e t n y → length (preorder x) ≡ length (preorder y)
same_size d e zero n leaf leaf h k = refl
same_size d e zero n leaf end h k = absurd k
same_size d e zero n leaf (more back' payload' branch' rest') h k = absurd k
same_size d e zero n end y h k = absurd h
same_size d e zero n (more back payload branch rest) y h k = absurd h
same_size d e (suc t) n leaf y h k = absurd h
same_size d e (suc t) zero end leaf h k = absurd k
same_size d e (suc t) zero end end h k = refl
same_size d e (suc t) zero end (more back' payload' branch' rest') h k = absurd k
same_size d e (suc t) (suc n) end y h k = absurd h
same_size d e (suc t) zero (more back payload branch rest) y h k = absurd h
same_size d e (suc t) (suc n) (more back payload branch rest) leaf h k = absurd k
same_size d e (suc t) (suc n) (more back payload branch rest) end h k = absurd k
same_size d e (suc t) (suc n) (more back payload branch rest) (more back' payload' branch' rest') h k =
    let here : length (preorder branch) ≡ length (preorder branch') = same_size e d t (pred e) branch branch' h.2 k.2 in
    let there : length (preorder rest) ≡ length (preorder rest') = same_size d e (suc t) n rest rest' h.3 k.3 in
    omega (arith, length-append (preorder branch) (preorder rest), length-append (preorder branch') (preorder rest'), here, there)

rising-all_children : (d e t n : ℕ) (branches : List Plain) → ((x : Plain) → Contains branches x → IsTree e d t (pred e) x) → IsRising Precedes branches → IsRising Precedes (all_children e branches n)
rising-all_children d e t zero branches each h = tt
rising-all_children d e t (suc n) branches each h =
    rising-flat_map (λ x y. x < y) Precedes (λ x y z l m. omega arith) Precedes-trans (λ back. flat_map (row back) branches) (count_from 1 e) (λ back _. by_back (rising-all_children d e t n branches each h) back) apart (rising-count_from 1 e)
  where
    row : ℕ → Plain → List Plain
    row back branch = map (more back tt branch) (all_children e branches n)

    by_branch : IsRising Precedes (all_children e branches n) → (back : ℕ) (branch : Plain) → IsRising Precedes (row back branch)
    by_branch tails back branch = rising-map Precedes Precedes (more back tt branch) (all_children e branches n)
        (λ x y _ _ l. IsBefore-append_right (back ∷ preorder branch) (preorder x) (preorder y) l) tails

    deeper : (back : ℕ) (x y u v : Plain) → In x branches → In y branches → Precedes x y → In u (row back x) → In v (row back y) → Precedes u v
    deeper back x y u v i j l at at' =
        let (r, held, is) = Contains-map_cases (more back tt x) (all_children e branches n) u (In-Contains u (row back x) at) in
        let (r', held', is') = Contains-map_cases (more back tt y) (all_children e branches n) v (In-Contains v (row back y) at') in
        let even : length (preorder x) ≡ length (preorder y) = same_size e d t (pred e) x y (each x (In-Contains x branches i)) (each y (In-Contains y branches j)) in
        rw (← is, ← is') (IsBefore-tail back back (preorder x ++ preorder r) (preorder y ++ preorder r') refl (IsBefore-append_left (preorder x) (preorder y) (preorder r) (preorder r') even l))

    by_back : IsRising Precedes (all_children e branches n) → (back : ℕ) → IsRising Precedes (flat_map (row back) branches)
    by_back tails back = rising-flat_map Precedes Precedes Precedes-trans Precedes-trans (row back) branches (λ branch _. by_branch tails back branch) (deeper back) h

    apart : (back back' : ℕ) (u v : Plain) → In back (count_from 1 e) → In back' (count_from 1 e) → back < back' → In u (flat_map (row back) branches) → In v (flat_map (row back') branches) → Precedes u v
    apart back back' u v _ _ l at at' =
        let (x, held, in_row) = Contains-flat_map_cases (row back) branches u (In-Contains u (flat_map (row back) branches) at) in
        let (y, held', in_row') = Contains-flat_map_cases (row back') branches v (In-Contains v (flat_map (row back') branches) at') in
        let (r, in_tails, is) = Contains-map_cases (more back tt x) (all_children e branches n) u in_row in
        let (r', in_tails', is') = Contains-map_cases (more back' tt y) (all_children e branches n) v in_row' in
        rw (← is, ← is') (IsBefore-head back back' (preorder x ++ preorder r) (preorder y ++ preorder r') l)

rising-all_trees : (d e t n : ℕ) → IsRising Precedes (all_trees d e t n)
rising-all_trees d e zero n = tt
rising-all_trees d e (suc t) n = rising-all_children d e t n (all_trees e d t (pred e)) (all_trees-IsTree e d t (pred e)) (rising-all_trees e d t (pred e))

-- a list rises by what its elements are sent to where these rise
rising-sent : {X Y : Type 0} (R : Y → Y → Type 0) (f : X → Y) (xs : List X) → IsRising (λ x y. R (f x) (f y)) xs → IsRising R (map f xs)
rising-sent R f xs h = rising-map (λ x y. R (f x) (f y)) R f xs (λ x y _ _ l. l) h

pub rising-all_views : (d e radius : ℕ) → IsRising IsBefore (map preorder (all_views d e radius))
rising-all_views d e radius = rising-sent IsBefore preorder (all_views d e radius) (rising-all_trees d e radius d)
