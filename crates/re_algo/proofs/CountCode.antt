-- What is counted up to a bound.
use Rattle.std.proofs.Common.{◌≡◌, ℕ, zero, suc, pred, ◌+◌, ◌-◌, ◌*◌, ◌^◌, ◌≤◌, ◌<◌, List, [], ◌∷◌, drop, drop-cons, length, get_or, refl, sym, ◌∙◌, ap, arith, add-one, sub-one, true, false, ◌≢◌, min}
use Rattle.std.proofs.Math.Nat.{mul-le-mul, pow-le-pow_right}
use Rattle.std.proofs.lemmas.List.{drop_all}
use Rattle.std.specs.Prelude.{IsSome, Option, Some, None, nat_le}
use Rattle.std.proofs.lemmas.Bool.Decides.{nat_tests}
use Rattle.re_algo.proofs.Counts.{base_within, tree_count-some}
use Rattle.re_algo.proofs.Places.{tree_at}
use Rattle.re_algo.specs.Counting.{HasPlace, listed, read_after, tree_count, view_place}
use Rattle.re_algo.specs.declared.counting.TheConstants.{MAX_VIEWS}
use Rattle.re_laws.specs.declared.Child.{Child}
use Rattle.re_laws.specs.Shown.{tree_of_branch, tree_of_children}
use Rattle.re_laws.specs.AllViews.{all_views}
use Rattle.re_laws.specs.Trees.{Tree, end, leaf, more}

pub listed-few : (n : ℕ) → n ≤ MAX_VIEWS → listed n ≡ Some n
listed-few n l = let e : nat_le n MAX_VIEWS ≡ true = grind (arith, nat_tests) in rw e refl

pub listed-many : (n : ℕ) → MAX_VIEWS < n → listed n ≡ None
listed-many n l = let e : nat_le n MAX_VIEWS ≡ false = grind (arith, nat_tests) in rw e refl

-- what stands in the test
pub few-listed : (n m : ℕ) → Some m ≡ listed n → (n ≡ m) × (n ≤ MAX_VIEWS)
few-listed n m e = grind (arith, nat_tests)

pub many-listed : (n : ℕ) → ◌≡◌ {A = Option ℕ} None (listed n) → MAX_VIEWS < n
many-listed n e = grind (arith, nat_tests)

-- a power that is too large leaves the greater ones too large
pub power_past : (b i n done : ℕ) → 1 ≤ b → done ≡ b ^ (i + 1) → i < n → MAX_VIEWS < done → None ≡ listed (b ^ n)
power_past b i n done some is below past =
    let up : b ^ (i + 1) ≤ b ^ n = pow-le-pow_right {n = b} some {i = i + 1} {j = n} (omega arith) in
    sym (listed-many (b ^ n) (omega arith))

-- too many branches leave too many trees
pub branches_past : (d e depth n : ℕ) → 1 ≤ d → 1 ≤ e → 1 ≤ n → depth ≢ 0 → ◌≡◌ {A = Option ℕ} None (listed (tree_count e d (depth - 1) (e - 1))) → None ≡ listed (tree_count d e depth n)
branches_past d e zero n some some' ports deep past = absurd (deep refl)
branches_past d e (suc t) n some some' ports deep past =
    let less : suc t - 1 ≡ t = omega arith in
    let less' : e - 1 ≡ pred e = omega arith in
    let b : ℕ = tree_count e d t (pred e) in
    let many : MAX_VIEWS < b = many-listed b (rw (less, less') at past) in
    let more : b * 1 ≤ b * e = mul-le-mul {n₁ = b} {m₁ = 1} {n₂ = b} {m₂ = e} (omega arith) some' in
    let up : b * e ≤ (b * e) ^ n = base_within (b * e) n (omega arith) ports in
    sym (listed-many ((b * e) ^ n) (omega arith))

-- the digits read never fall
pub read_after-up : {E : Type 0} (d e a : ℕ) (x : Tree E) → 1 ≤ d → 1 ≤ e → a ≤ read_after d e a x
read_after-up d e a leaf some some' = omega arith
read_after-up d e a end some some' = omega arith
read_after-up d e a (more back payload branch rest) some some' =
    let next : ℕ = a * e + pred back in
    let here : next ≤ read_after e d next branch = read_after-up e d next branch some' some in
    let there : read_after e d next branch ≤ read_after d e (read_after e d next branch) rest = read_after-up d e (read_after e d next branch) rest some some' in
    let grows : a * 1 ≤ a * e = mul-le-mul {n₁ = a} {m₁ = 1} {n₂ = a} {m₂ = e} (omega arith) some' in
    omega arith

-- one child of a list is read
pub child_read : {E : Type 0} (d e number : ℕ) (items read : List (Child E)) (i : ℕ) (child : Child E) → read ≡ items → i < length read → child ≡ get_or read i child
    → read_after d e number (tree_of_children (drop i items)) ≡ read_after d e (read_after e d (number * e + pred child.back) (tree_of_branch child.branch)) (tree_of_children (drop (i + 1) items))
child_read d e number items read i child same below is =
    let at : child ≡ get_or items i child = is ∙ ap (λ l. get_or l i child) same in
    let within : i < length items = rw same at below in
    let next : drop i items ≡ child ∷ drop (i + 1) items = drop-cons items i child within ∙ (ap (λ c. c ∷ drop (suc i) items) (sym at) ∙ ap (λ n. child ∷ drop n items) (sym (add-one i))) in
    ap (λ l. read_after d e number (tree_of_children l)) next

-- where the whole number is small, it is read on without loss
pub read_more : {E : Type 0} (d e number whole digit product place result : ℕ) (items read : List (Child E)) (i : ℕ) (child : Child E) → read ≡ items → i < length read → child ≡ get_or read i child
    → digit ≡ child.back - 1 → product ≡ min (number * e) (2 ^ 64 - 1) → place ≡ min (product + digit) (2 ^ 64 - 1)
    → (1 ≤ e → 1 ≤ d → read_after e d place (tree_of_branch child.branch) < 2 ^ 32 → result ≡ read_after e d place (tree_of_branch child.branch))
    → (1 ≤ d → 1 ≤ e → whole < 2 ^ 32 → read_after d e number (tree_of_children (drop i items)) ≡ whole)
    → 1 ≤ d → 1 ≤ e → whole < 2 ^ 32 → read_after d e result (tree_of_children (drop (i + 1) items)) ≡ whole
read_more d e number whole digit product place result items read i child same below is digit_is product_is place_is deeper so_far some some' few =
    let next : ℕ = number * e + pred child.back in
    let here : read_after d e (read_after e d next (tree_of_branch child.branch)) (tree_of_children (drop (i + 1) items)) ≡ whole =
    sym (child_read d e number items read i child same below is) ∙ so_far some some' few in
    let up : next ≤ read_after e d next (tree_of_branch child.branch) = read_after-up e d next (tree_of_branch child.branch) some' some in
    let up' : read_after e d next (tree_of_branch child.branch) ≤ read_after d e (read_after e d next (tree_of_branch child.branch)) (tree_of_children (drop (i + 1) items)) =
    read_after-up d e (read_after e d next (tree_of_branch child.branch)) (tree_of_children (drop (i + 1) items)) some some' in
    let small : read_after e d next (tree_of_branch child.branch) < 2 ^ 32 = omega arith in
    let less : child.back - 1 ≡ pred child.back = sub-one child.back in
    let place_next : place ≡ next = omega arith in
    let read_is : result ≡ read_after e d next (tree_of_branch child.branch) = deeper some' some (rw place_next small) ∙ ap (λ n. read_after e d n (tree_of_branch child.branch)) place_next in
    ap (λ n. read_after d e n (tree_of_children (drop (i + 1) items))) read_is ∙ here

pub read_all : {E : Type 0} (d e number whole : ℕ) (items read : List (Child E)) (i : ℕ) → read ≡ items → length read ≤ i
    → (1 ≤ d → 1 ≤ e → whole < 2 ^ 32 → read_after d e number (tree_of_children (drop i items)) ≡ whole) → 1 ≤ d → 1 ≤ e → whole < 2 ^ 32 → number ≡ whole
read_all d e number whole items read i same past so_far some some' few =
    let none : drop i items ≡ [] = drop_all i items (rw same at past) in
    ap (λ l. read_after d e number (tree_of_children l)) (sym none) ∙ so_far some some' few

-- what is listed is few
pub some-listed : (n : ℕ) → IsSome (listed n) → n ≤ MAX_VIEWS
some-listed n some = grind (arith, nat_tests)

-- a place fits
pub place_small : (d e : ℕ) (v : Tree (Unit {0})) → HasPlace d e v → view_place d e v < 2 ^ 32
place_small d e v (radius, is, some) =
    let few : length (all_views d e radius) ≤ MAX_VIEWS = some-listed (length (all_views d e radius)) some in
    let below : view_place d e v < length (all_views d e radius) = (tree_at d e radius d v is).0 in
    omega arith

-- with the branches counted, the trees are
pub trees_counted : (d e depth n branches below : ℕ) → depth ≢ 0 → below ≡ e - 1 → ◌≡◌ {A = Option ℕ} (Some branches) (listed (tree_count e d (depth - 1) below)) → listed ((branches * e) ^ n) ≡ listed (tree_count d e depth n)
trees_counted d e zero n branches below deep ports counted = absurd (deep refl)
trees_counted d e (suc t) n branches below deep ports counted =
    let less : suc t - 1 ≡ t = omega arith in
    let less' : below ≡ pred e = omega arith in
    let is : tree_count e d t (pred e) ≡ branches = (few-listed (tree_count e d t (pred e)) branches (rw (less, less') at counted)).0 in
    ap (λ m. listed ((m * e) ^ n)) (sym is)

-- there is some branch
pub some_branch : (d e t n branches : ℕ) → 1 ≤ d → 1 ≤ e → ◌≡◌ {A = Option ℕ} (Some branches) (listed (tree_count d e t n)) → 1 ≤ branches
some_branch d e t n branches some some' counted =
    let is : tree_count d e t n ≡ branches = (few-listed (tree_count d e t n) branches counted).0 in
    let many = tree_count-some d e t n some some' in
    omega arith
