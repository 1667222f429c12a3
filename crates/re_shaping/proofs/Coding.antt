-- Steps of the loops over colours.
use Rattle.std.proofs.Common.{◌≡◌, ℕ, suc, ◌+◌, ◌-◌, ◌*◌, ◌%◌, ◌^◌, ◌<◌, ◌≤◌, ◌++◌, Bool, true, false, cond, eqb, ltb, drop, add-zero, length-drop, List, [], ◌∷◌, length, map, get_or, set, take, refl, sym, ap, ◌∙◌, subst, arith, get_or-set_same, get_or-set_other}
use Rattle.std.specs.List.{list_any, sum_by}
use Rattle.std.proofs.Math.Nat.{add-mod-mod, mod-add-mod, mod-eq_of_lt, mod-mod}
use Rattle.std.proofs.lemmas.Bool.Decides.{nat_tests}
use Rattle.std.proofs.lemmas.List.{get_or-drop, map-append}
use Rattle.std.proofs.lemmas.List.Elements.{Contains-get_or}
use Rattle.std.proofs.lemmas.List.Sums.{sum_by-cons, sum_by_more}
use Rattle.re_labels.proofs.OrdersAt.{count_push}
use Rattle.re_labels.proofs.Sorting.{take_all}
use Rattle.re_labels.proofs.Membership.{any_true}
use Rattle.re_labels.proofs.Tests.{eqb-apart, eqb-same, eqb-true, true-below}
use Rattle.re_labels.specs.Lists.{count_from}
use Rattle.re_shaping.specs.Mixing.{mixed}
use Rattle.re_problem.specs.NamedProblems.{NamedProblem}
use Rattle.re_shaping.specs.Colours.{colour_at, colours_by, next_colour, next_colours, numbers_at, pairs_alike, refined, times_in}
use Rattle.re_shaping.specs.declared.colours.TheConstants.{ACTIVE, PASSIVE}

-- one colour more
pub colours_by_more : (f : ℕ → ℕ) (xs : List ℕ) (n : ℕ) → xs ≡ colours_by f n → xs ++ f n ∷ [] ≡ colours_by f (n + 1)
colours_by_more f xs n e = ap (λ l. l ++ f n ∷ []) e ∙ sym (map-append f (count_from 0 n) (n ∷ [])) ∙ ap (map f) (count_push n (count_from 0 n) refl)

-- one term more
pub wrapped_more : {X : Type 0} (f : X → ℕ) (start : ℕ) (xs : List X) (i : ℕ) (d : X) (sum : ℕ) → i < length xs → sum ≡ (start + sum_by f (take i xs)) % 2 ^ 64
    → (sum + f (get_or xs i d)) % 2 ^ 64 ≡ (start + sum_by f (take (i + 1) xs)) % 2 ^ 64
wrapped_more f start xs i d sum below e =
    let more = sum_by_more f xs i d below in
    ap (λ s. (s + f (get_or xs i d)) % 2 ^ 64) e
    ∙ mod-add-mod (start + sum_by f (take i xs)) (2 ^ 64) (f (get_or xs i d))
    ∙ ap (λ s. s % 2 ^ 64) (omega (arith, more))

pub summed_more : {X : Type 0} (f : X → ℕ) (xs : List X) (i : ℕ) (d : X) (sum : ℕ) → i < length xs → sum ≡ sum_by f (take i xs) % 2 ^ 64
    → (sum + f (get_or xs i d)) % 2 ^ 64 ≡ sum_by f (take (i + 1) xs) % 2 ^ 64
summed_more f xs i d sum below e =
    ap (λ s. (s + f (get_or xs i d)) % 2 ^ 64) e
    ∙ mod-add-mod (sum_by f (take i xs)) (2 ^ 64) (f (get_or xs i d))
    ∙ ap (λ s. s % 2 ^ 64) (sym (sum_by_more f xs i d below))

-- no term yet
pub wrapped_first : (start : ℕ) → start < 2 ^ 64 → start ≡ (start + 0) % 2 ^ 64
wrapped_first start fits = sym (ap (λ s. s % 2 ^ 64) (add-zero start) ∙ mod-eq_of_lt fits)

pub none_more : (start : ℕ) → start % 2 ^ 64 ≡ (start + 0) % 2 ^ 64
none_more start = ap (λ s. s % 2 ^ 64) (sym (add-zero start))

-- a number where a test tells two labels to be the same
pub single_same : (x y s : ℕ) → x ≡ y → s ≡ cond (eqb x y) s 0
single_same x y s e = ap (λ b. cond b s 0) (sym (subst (λ z. eqb x z ≡ true) e (eqb-same x)))

pub single_other : (x y s : ℕ) → (x ≡ y → ⊥) → 0 ≡ cond (eqb x y) s 0
single_other x y s e = ap (λ b. cond b s 0) (sym (eqb-apart x y e))

-- a later label of the same colour
pub later_found : (all : List ℕ) (x y : ℕ) → x < y → y < length all → get_or all x 0 ≡ get_or all y 0 → list_any (λ z. eqb z (get_or all x 0)) (take (length all - (x + 1)) (drop (x + 1) all)) ≡ true
later_found all x y before below same =
    let place : ℕ = y - (x + 1) in
    let at : x + 1 + place ≡ y = omega arith in
    let there : get_or (drop (x + 1) all) place 0 ≡ get_or all y 0 = get_or-drop (x + 1) all place 0 ∙ ap (λ k. get_or all k 0) at in
    let inside : place < length (drop (x + 1) all) = omega (arith, length-drop (x + 1) all) in
    ap (list_any (λ z. eqb z (get_or all x 0))) (take_all (drop (x + 1) all) (length all - (x + 1)) (omega (arith, length-drop (x + 1) all)))
    ∙ any_true (λ z. eqb z (get_or all x 0)) (drop (x + 1) all) (get_or (drop (x + 1) all) place 0) (Contains-get_or (drop (x + 1) all) place 0 inside)
    (subst (λ v. eqb (get_or (drop (x + 1) all) place 0) v ≡ true) (there ∙ sym same) (eqb-same (get_or (drop (x + 1) all) place 0)))

-- ---- refining
pub refined_more : (times less : ℕ) (problem : NamedProblem) (colours next : List ℕ) → times ≡ suc less → next ≡ next_colours problem colours → pairs_alike next < pairs_alike colours
    → refined less problem next ≡ refined times problem colours
unfolding refined
refined_more times less problem colours next e f fewer =
    let test : ltb (pairs_alike (next_colours problem colours)) (pairs_alike colours) ≡ true = subst (λ n. ltb (pairs_alike n) (pairs_alike colours) ≡ true) f (true-below (pairs_alike next) (pairs_alike colours) fewer) in
    ap (refined less problem) f
    ∙ sym (ap (λ b. cond b (refined less problem (next_colours problem colours)) (next_colours problem colours)) test)
    ∙ ap (λ n. refined n problem colours) (sym e)

pub refined_ends : (times less : ℕ) (problem : NamedProblem) (colours next : List ℕ) → times ≡ suc less → next ≡ next_colours problem colours → pairs_alike colours ≤ pairs_alike next
    → next ≡ refined times problem colours
unfolding refined
refined_ends times less problem colours next e f no_fewer =
    let test : ltb (pairs_alike (next_colours problem colours)) (pairs_alike colours) ≡ false = subst (λ n. ltb (pairs_alike n) (pairs_alike colours) ≡ false) f (not_below (pairs_alike next) (pairs_alike colours) no_fewer) in
    f
    ∙ sym (ap (λ b. cond b (refined less problem (next_colours problem colours)) (next_colours problem colours)) test)
    ∙ ap (λ n. refined n problem colours) (sym e)
  where
    not_below : (x y : ℕ) → y ≤ x → ltb x y ≡ false
    not_below x y l = grind (arith, nat_tests)

pub refined_never : (times : ℕ) (problem : NamedProblem) (colours : List ℕ) → times ≡ 0 → colours ≡ refined times problem colours
unfolding refined
refined_never times problem colours e = sym (ap (λ n. refined n problem colours) e)

-- the number goes to one label of the configuration more
pub config_step : (sums start items : List ℕ) (i place number k : ℕ) → i < length items → get_or items i 0 ≡ place → place < length sums
    → get_or sums k 0 % 2 ^ 64 ≡ (get_or start k 0 + times_in (take i items) k number) % 2 ^ 64
    → get_or (set sums place ((get_or sums place 0 + number) % 2 ^ 64)) k 0 % 2 ^ 64 ≡ (get_or start k 0 + times_in (take (i + 1) items) k number) % 2 ^ 64
config_step sums start items i place number k below is inside before = by_test (eqb place k) refl
  where
    more : (b : Bool) → eqb place k ≡ b → times_in (take (i + 1) items) k number ≡ times_in (take i items) k number + cond b number 0
    more b t = sum_by_more (λ other. cond (eqb other k) number 0) items i 0 below ∙ ap (λ c. times_in (take i items) k number + cond c number 0) (ap (λ p. eqb p k) is ∙ t)

    by_test : (b : Bool) → eqb place k ≡ b → get_or (set sums place ((get_or sums place 0 + number) % 2 ^ 64)) k 0 % 2 ^ 64 ≡ (get_or start k 0 + times_in (take (i + 1) items) k number) % 2 ^ 64
    by_test true t =
        let same : place ≡ k = eqb-true place k t in
        let e = more true t in
        ap (λ p. get_or (set sums place ((get_or sums place 0 + number) % 2 ^ 64)) p 0 % 2 ^ 64) (sym same)
        ∙ ap (λ s. s % 2 ^ 64) (get_or-set_same sums place ((get_or sums place 0 + number) % 2 ^ 64) 0 inside)
        ∙ mod-mod (get_or sums place 0 + number) (2 ^ 64)
        ∙ sym (mod-add-mod (get_or sums place 0) (2 ^ 64) number)
        ∙ ap (λ s. (s + number) % 2 ^ 64) (ap (λ p. get_or sums p 0 % 2 ^ 64) same ∙ before)
        ∙ mod-add-mod (get_or start k 0 + times_in (take i items) k number) (2 ^ 64) number
        ∙ ap (λ s. s % 2 ^ 64) (omega (arith, e))
    by_test false t =
        let other : place ≡ k → ⊥ = λ same. cc (subst (λ p. eqb place p ≡ false) (sym same) t, eqb-same place) in
        let e = more false t in
        ap (λ s. s % 2 ^ 64) (get_or-set_other sums place k ((get_or sums place 0 + number) % 2 ^ 64) 0 (λ same. other (sym same)))
        ∙ before
        ∙ ap (λ s. s % 2 ^ 64) (omega (arith, e))

-- a label past the end of the sums changes nothing
pub config_stays : (start items : List ℕ) (i place number k own : ℕ) → i < length items → get_or items i 0 ≡ place → (place ≡ k → ⊥)
    → own % 2 ^ 64 ≡ (get_or start k 0 + times_in (take i items) k number) % 2 ^ 64
    → own % 2 ^ 64 ≡ (get_or start k 0 + times_in (take (i + 1) items) k number) % 2 ^ 64
config_stays start items i place number k own below is other before =
    let more : times_in (take (i + 1) items) k number ≡ times_in (take i items) k number + 0 =
    sum_by_more (λ other. cond (eqb other k) number 0) items i 0 below ∙ ap (λ c. times_in (take i items) k number + cond c number 0) (ap (λ p. eqb p k) is ∙ eqb-apart place k other) in
    before ∙ ap (λ s. s % 2 ^ 64) (omega (arith, more))

-- the numbers of one configuration more
pub constraint_step : (share : List ℕ → ℕ) (config : List ℕ) (rest : List (List ℕ)) (new old target : ℕ) → new % 2 ^ 64 ≡ (old + share config) % 2 ^ 64
    → (old + sum_by share (config ∷ rest)) % 2 ^ 64 ≡ target → (new + sum_by share rest) % 2 ^ 64 ≡ target
constraint_step share config rest new old target e f =
    let cons = sum_by-cons share config rest in
    sym (mod-add-mod new (2 ^ 64) (sum_by share rest))
    ∙ ap (λ s. (s + sum_by share rest) % 2 ^ 64) e
    ∙ mod-add-mod (old + share config) (2 ^ 64) (sum_by share rest)
    ∙ ap (λ s. s % 2 ^ 64) (omega (arith, cons))
    ∙ f

-- the next colour from the sums of both sides
pub next_step : (problem : NamedProblem) (colours : List ℕ) (label colour none one two : ℕ) → colour ≡ colour_at colours label → none ≡ 0
    → one % 2 ^ 64 ≡ (none + numbers_at colours ACTIVE problem.active label) % 2 ^ 64
    → two % 2 ^ 64 ≡ (one + numbers_at colours PASSIVE problem.passive label) % 2 ^ 64
    → mixed (((colour * 3) % 2 ^ 64 + two) % 2 ^ 64) ≡ next_colour problem colours label
unfolding next_colour
next_step problem colours label colour none one two is empty first second =
    let active = numbers_at colours ACTIVE problem.active label in
    let passive = numbers_at colours PASSIVE problem.passive label in
    let own = colour * 3 in
    ap mixed (
    mod-add-mod own (2 ^ 64) two
    ∙ sym (add-mod-mod own two (2 ^ 64))
    ∙ ap (λ s. (own + s) % 2 ^ 64) second
    ∙ add-mod-mod own (one + passive) (2 ^ 64)
    ∙ ap (λ s. s % 2 ^ 64) (regroup own one passive)
    ∙ sym (mod-add-mod one (2 ^ 64) (own + passive))
    ∙ ap (λ s. (s + (own + passive)) % 2 ^ 64) first
    ∙ mod-add-mod (none + active) (2 ^ 64) (own + passive)
    ∙ ap (λ s. s % 2 ^ 64) (together (colour_at colours label) colour none active passive is empty))
  where
    regroup : (a b c : ℕ) → a + (b + c) ≡ b + (a + c)
    regroup a b c = omega arith

    together : (c colour none a p : ℕ) → colour ≡ c → none ≡ 0 → none + a + (colour * 3 + p) ≡ 3 * c + a + p
    together c colour none a p e f = omega arith
