-- Domination, one place after another.
use Rattle.std.proofs.Common.{◌≡◌, ℕ, suc, ◌<◌, ◌≤◌, ◌+◌, ◌-◌, Bool, true, false, eqb, ◌&&◌, ◌||◌, List, [], ◌∷◌, length, map, drop, take, get_or, refl, sym, ap, ◌∙◌, arith, add-one, drop-cons}
use Rattle.std.specs.List.{flat_map, list_any, remove}
use Rattle.std.proofs.lemmas.List.{take_all}
use Rattle.std.proofs.lemmas.List.Edits.{length-remove}
use Rattle.std.proofs.lemmas.List.Folds.{list_any-append, list_any_at, list_any_more}
use Rattle.re_labels.proofs.OrdersAt.{get_or-splits, length-splits}
use Rattle.re_labels.proofs.Membership.{length-count_from}
use Rattle.re_labels.specs.Lists.{count_from}
use Rattle.re_labels.specs.Orders.{orders, placements, splits}
use Rattle.re_labels.specs.Rows.{covers, dominates, placed, set_at}
use Rattle.re_labels.specs.Sets.{within}

pub any-map : {X Y : Type 0} (p : Y → Bool) (f : X → Y) (xs : List X) → list_any p (map f xs) ≡ list_any (λ x. p (f x)) xs
any-map p f [] = refl
any-map p f (x ∷ xs) = ap (λ b. p (f x) || b) (any-map p f xs)

any-and : {X : Type 0} (b : Bool) (p : X → Bool) (xs : List X) → list_any (λ x. b && p x) xs ≡ (b && list_any p xs)
any-and true p xs = refl
any-and false p [] = refl
any-and false p (x ∷ xs) = any-and false p xs

any-flat_map : {X Y : Type 0} (p : Y → Bool) (f : X → List Y) (xs : List X) → list_any p (flat_map f xs) ≡ list_any (λ x. list_any p (f x)) xs
any-flat_map p f [] = refl
any-flat_map p f (x ∷ xs) = list_any-append p (f x) (flat_map f xs) ∙ ap (λ b. list_any p (f x) || b) (any-flat_map p f xs)

any-same : {X : Type 0} (p q : X → Bool) → ((x : X) → p x ≡ q x) → (xs : List X) → list_any p xs ≡ list_any q xs
any-same p q same [] = refl
any-same p q same (x ∷ xs) = (λ i. same x i || any-same p q same xs i)

-- whether the set at the first place holds the first of the others, and the rest the others
abbrev pub branch : List (List ℕ) → ℕ → List ℕ → List (List ℕ) → ℕ × List ℕ → Bool
branch sets n other others split = within other (set_at sets split.0) && list_any (λ order. covers (placed sets order) others) (orders n split.1)

any-orders : (sets : List (List ℕ)) (n : ℕ) (other : List ℕ) (others : List (List ℕ)) (places : List ℕ)
    → list_any (λ order. covers (placed sets order) (other ∷ others)) (orders (suc n) places) ≡ list_any (branch sets n other others) (splits places)
any-orders sets n other others places =
    any-flat_map (λ order. covers (placed sets order) (other ∷ others)) (λ p. map (λ order. p.0 ∷ order) (orders n p.1)) (splits places)
    ∙ any-same (λ p. list_any (λ order. covers (placed sets order) (other ∷ others)) (map (λ order. p.0 ∷ order) (orders n p.1))) (branch sets n other others)
    (λ p. any-map (λ order. covers (placed sets order) (other ∷ others)) (λ order. p.0 ∷ order) (orders n p.1)
    ∙ any-and (within other (set_at sets p.0)) (λ order. covers (placed sets order) others) (orders n p.1)) (splits places)

drop_at : (others : List (List ℕ)) (index : ℕ) → index < length others → drop index others ≡ get_or others index [] ∷ drop (index + 1) others
drop_at others index below = rw (add-one, drop-cons others index []) refl

-- the places that hold the others from an index on, told by their branches
pub told_by_branches : (sets others : List (List ℕ)) (places : List ℕ) (index : ℕ) (other : List ℕ) → 0 < length places → index < length others → other ≡ get_or others index []
    → list_any (λ order. covers (placed sets order) (drop index others)) (orders (length places) places)
    ≡ list_any (branch sets (length places - 1) other (drop (index + 1) others)) (splits places)
told_by_branches sets others places index other some below is =
    ap (λ rest. list_any (λ order. covers (placed sets order) rest) (orders (length places) places)) (drop_at others index below)
    ∙ ap (λ n. list_any (λ order. covers (placed sets order) (get_or others index [] ∷ drop (index + 1) others)) (orders n places)) (let count : length places ≡ suc (length places - 1) = omega arith in count)
    ∙ any-orders sets (length places - 1) (get_or others index []) (drop (index + 1) others) places
    ∙ ap (λ o. list_any (branch sets (length places - 1) o (drop (index + 1) others)) (splits places)) (sym is)

-- what the places but one say of the rest
pub rest_of : (sets others : List (List ℕ)) (places left : List ℕ) (k : ℕ) (rest : Bool) → k < length places → left ≡ remove places k
    → rest ≡ list_any (λ order. covers (placed sets order) others) (orders (length left) left)
    → rest ≡ list_any (λ order. covers (placed sets order) others) (orders (length places - 1) (remove places k))
rest_of sets others places left k rest below is told =
    told ∙ ap (λ l. list_any (λ order. covers (placed sets order) others) (orders (length l) l)) is
    ∙ ap (λ n. list_any (λ order. covers (placed sets order) others) (orders n (remove places k))) (let count = length-remove places k below in omega (arith, count))

-- the branch at an index
branch_at : (sets others : List (List ℕ)) (n : ℕ) (other : List ℕ) (places : List ℕ) (k : ℕ) → k < length places
    → branch sets n other others (get_or (splits places) k (0, [])) ≡ (within other (set_at sets (get_or places k 0)) && list_any (λ order. covers (placed sets order) others) (orders n (remove places k)))
branch_at sets others n other places k below = ap (branch sets n other others) (get_or-splits places k (0, []) below)

-- a branch that holds
pub branch_holds : (sets others : List (List ℕ)) (n : ℕ) (other : List ℕ) (places : List ℕ) (k : ℕ) → k < length places → within other (set_at sets (get_or places k 0)) ≡ true
    → list_any (λ order. covers (placed sets order) others) (orders n (remove places k)) ≡ true → list_any (branch sets n other others) (splits places) ≡ true
branch_holds sets others n other places k below holds rest =
    list_any_at (branch sets n other others) (splits places) k (0, []) (let l = length-splits places in omega (arith, l)) (branch_at sets others n other places k below ∙ rw (holds, rest) refl)

-- a branch that doesn't
pub branch_fails : (sets others : List (List ℕ)) (n : ℕ) (other : List ℕ) (places : List ℕ) (k : ℕ) → k < length places
    → (within other (set_at sets (get_or places k 0)) && list_any (λ order. covers (placed sets order) others) (orders n (remove places k))) ≡ false
    → list_any (branch sets n other others) (take k (splits places)) ≡ false → list_any (branch sets n other others) (take (k + 1) (splits places)) ≡ false
branch_fails sets others n other places k below fails before =
    list_any_more (branch sets n other others) (splits places) k (0, []) (let l = length-splits places in omega (arith, l))
    ∙ (λ i. before i || (branch_at sets others n other places k below ∙ fails) i)

pub all_fail : (sets others : List (List ℕ)) (n : ℕ) (other : List ℕ) (places : List ℕ) (k : ℕ) → length places ≤ k
    → list_any (branch sets n other others) (take k (splits places)) ≡ false → list_any (branch sets n other others) (splits places) ≡ false
all_fail sets others n other places k past before =
    ap (list_any (branch sets n other others)) (sym (take_all k (splits places) (let l = length-splits places in omega (arith, l)))) ∙ before

some_places : (places : List ℕ) → false ≡ eqb (length places) 0 → 0 < length places
some_places [] h = absurd (cc)
some_places (p ∷ places) h = omega arith

-- a place whose set holds the first of the others, with the other places holding the rest
pub found : (sets others : List (List ℕ)) (places left : List ℕ) (index k : ℕ) (other set : List ℕ) (holds rest : Bool)
    → false ≡ eqb (length places) 0 → length places + index ≡ length others → other ≡ get_or others index [] → k < length places → set ≡ get_or sets (get_or places k 0) []
    → holds ≡ within other set → holds ≡ true → left ≡ remove places k
    → rest ≡ list_any (λ order. covers (placed sets order) (drop (index + 1) others)) (orders (length left) left) → rest ≡ true
    → true ≡ list_any (λ order. covers (placed sets order) (drop index others)) (orders (length places) places)
found sets others places left index k other set holds rest empty alike is below at tested yes' among told ok =
    let some = some_places places empty in
    sym (told_by_branches sets others places index other some (omega (arith, alike, some)) is
    ∙ branch_holds sets (drop (index + 1) others) (length places - 1) other places k below (ap (within other) (sym at) ∙ sym tested ∙ yes')
    (sym (rest_of sets (drop (index + 1) others) places left k rest below among told) ∙ ok))

-- a place whose set holds the first of the others, but the other places don't hold the rest
pub rest_missed : (sets others : List (List ℕ)) (places left : List ℕ) (k : ℕ) (other set : List ℕ) (rest : Bool) → k < length places
    → left ≡ remove places k → rest ≡ list_any (λ order. covers (placed sets order) others) (orders (length left) left) → rest ≡ false
    → list_any (branch sets (length places - 1) other others) (take k (splits places)) ≡ false → list_any (branch sets (length places - 1) other others) (take (k + 1) (splits places)) ≡ false
rest_missed sets others places left k other set rest below among told no' before =
    branch_fails sets others (length places - 1) other places k below (and-false _ _ (sym (rest_of sets others places left k rest below among told) ∙ no')) before
  where
    and-false : (a b : Bool) → b ≡ false → (a && b) ≡ false
    and-false true b e = e
    and-false false b e = refl

-- a place whose set doesn't hold the first of the others
pub set_missed : (sets others : List (List ℕ)) (places : List ℕ) (k : ℕ) (other set : List ℕ) (holds : Bool) → k < length places
    → set ≡ get_or sets (get_or places k 0) [] → holds ≡ within other set → holds ≡ false
    → list_any (branch sets (length places - 1) other others) (take k (splits places)) ≡ false → list_any (branch sets (length places - 1) other others) (take (k + 1) (splits places)) ≡ false
set_missed sets others places k other set holds below at tested no' before =
    branch_fails sets others (length places - 1) other places k below (λ i. (ap (within other) (sym at) ∙ sym tested ∙ no') i && list_any (λ order. covers (placed sets order) others) (orders (length places - 1) (remove places k))) before

-- no place
pub none_found : (sets others : List (List ℕ)) (places : List ℕ) (index k : ℕ) (other : List ℕ) → false ≡ eqb (length places) 0 → length places + index ≡ length others
    → other ≡ get_or others index [] → length places ≤ k → list_any (branch sets (length places - 1) other (drop (index + 1) others)) (take k (splits places)) ≡ false
    → false ≡ list_any (λ order. covers (placed sets order) (drop index others)) (orders (length places) places)
none_found sets others places index k other empty alike is past before =
    let some = some_places places empty in
    sym (told_by_branches sets others places index other some (omega (arith, alike, some)) is
    ∙ all_fail sets (drop (index + 1) others) (length places - 1) other places k past before)

-- all places, in order
pub all_places : (sets others : List (List ℕ)) (places : List ℕ) (result : Bool) → places ≡ count_from 0 (length sets)
    → result ≡ list_any (λ order. covers (placed sets order) (drop 0 others)) (orders (length places) places) → result ≡ dominates sets others
unfolding placements
all_places sets others places result are told =
    told ∙ ap (λ p. list_any (λ order. covers (placed sets order) others) (orders (length p) p)) are
    ∙ ap (λ n. list_any (λ order. covers (placed sets order) others) (orders n (count_from 0 (length sets)))) (length-count_from 0 (length sets))
