-- The sets of lines, each once.
use Rattle.std.proofs.Common.{◌≡◌, ℕ, zero, suc, ◌+◌, ◌-◌, ◌<◌, ◌≤◌, List, [], ◌∷◌, ◌++◌, length, map, get_or, refl, sym, ap, ◌∙◌, subst, inl, inr, arith, true, false, not, cond, filter}
use Rattle.std.specs.Prelude.{Contains, ◌↔◌, flat_map}
use Rattle.std.specs.List.{AllByRecursion}
use Rattle.std.specs.List.Sorted.{IsNonDecreasingBy, IsPermutation}
use Rattle.std.proofs.lemmas.Bool.{cases_lt}
use Rattle.std.proofs.lemmas.List.{append-nil}
use Rattle.std.proofs.lemmas.List.Elements.{Contains-append_cases, Contains-append_left, Contains-append_right, filter-append}
use Rattle.std.proofs.lemmas.List.Sorted.{Contains-permutation, IsPermutation-sym}
use Rattle.re_labels.specs.Rows.{placed, set_at}
use Rattle.re_labels.proofs.Membership.{AllByRecursion-contains, AllByRecursion-from_contains, Contains-filter_cases, Contains-flat_map, Contains-flat_map_cases, Contains-here, Contains-map, Contains-map_cases, Contains-none, count_from-last, count_from_range, map-alike}
use Rattle.re_labels.specs.Configs.{IsConfig}
use Rattle.re_labels.proofs.Membership.{get_or-count_from, length-count_from}
use Rattle.re_labels.specs.Lists.{IsRising, count_from}
use Rattle.re_closure_laws.proofs.Generated.{active_first, passive_first}
use Rattle.re_problem.specs.NamedProblems.{NamedProblem, unnamed}
use Rattle.re_problem.specs.Problems.{IsProblem}
use Rattle.re_labels.specs.Strength.{up_set}
use Rattle.re_labels.proofs.Sets.{with_label-above}
use Rattle.re_closure.specs.Kept.{AreOfLength, HasManyCombinations, HasManyLines}
use Rattle.re_labels.specs.Sets.{has, number, with_label}
use Rattle.re_labels.proofs.Lists.{Contains-last, Contains-more, Contains-more_cases}
use Rattle.re_closure_laws.specs.Closures.{AreClosure, AreTopmost, down_lines, up_lines}
use Rattle.re_closure_laws.specs.Lines.{others, up}
use Rattle.re_closure.specs.ProblemFamilies.{HasManySide, HasManySideCombinations, IsNeeded}

-- ---- all other labels
below : (set : List ℕ) (n : ℕ) → AllByRecursion (λ y. y < n) (filter (λ label. not (has set label)) (count_from 0 n))
below set n = AllByRecursion-from_contains (λ y. y < n) (filter (λ label. not (has set label)) (count_from 0 n))
    (λ x held. let range = count_from_range 0 n x (Contains-filter_cases (λ label. not (has set label)) (count_from 0 n) x held).0 in omega (arith, range.1))

one_more : (set : List ℕ) (n : ℕ) → filter (λ label. not (has set label)) (count_from 0 (n + 1)) ≡ filter (λ label. not (has set label)) (count_from 0 n) ++ cond (not (has set n)) (n ∷ []) []
one_more set n =
    let e : n + 1 ≡ suc n = omega arith in
    let z : 0 + n ≡ n = omega arith in
    ap (λ m. filter (λ label. not (has set label)) (count_from 0 m)) e
    ∙ ap (filter (λ label. not (has set label))) (count_from-last 0 n ∙ ap (λ m. count_from 0 n ++ m ∷ []) z)
    ∙ filter-append (λ label. not (has set label)) (count_from 0 n) (n ∷ [])

pub others_in : (set left more : List ℕ) (n : ℕ) → has set n ≡ false → left ≡ filter (λ label. not (has set label)) (count_from 0 n) → more ≡ with_label left n
    → more ≡ filter (λ label. not (has set label)) (count_from 0 (n + 1))
others_in set left more n out is e =
    e ∙ ap (λ l. with_label l n) is ∙ with_label-above (filter (λ label. not (has set label)) (count_from 0 n)) n (below set n)
    ∙ sym (one_more set n ∙ ap (λ b. filter (λ label. not (has set label)) (count_from 0 n) ++ cond (not b) (n ∷ []) []) out)

pub others_out : (set left : List ℕ) (n : ℕ) → has set n ≡ true → left ≡ filter (λ label. not (has set label)) (count_from 0 n) → left ≡ filter (λ label. not (has set label)) (count_from 0 (n + 1))
others_out set left n held is =
    is ∙ sym (one_more set n ∙ ap (λ b. filter (λ label. not (has set label)) (count_from 0 n) ++ cond (not b) (n ∷ []) []) held ∙ append-nil (filter (λ label. not (has set label)) (count_from 0 n)))

-- ---- each set once
pub record IsOnce (sets : List (List ℕ)) (place : ℕ) (once : List (List ℕ)) : Type 0 where
  pub rises : IsRising (λ s t. number s < number t) once
  pub most : (set : List ℕ) → Contains once set → 0 < place × number set ≤ number (set_at sets (place - 1))
  pub from : (set : List ℕ) → Contains once set → Contains sets set
  pub all : (k : ℕ) → k < place → Contains once (set_at sets k)

pub once_begin : (sets once : List (List ℕ)) → once ≡ [] → IsOnce sets 0 once
once_begin sets once e = subst (IsOnce sets 0) (sym e) (record { rises = tt; most = λ set h. absurd (Contains-none set h); from = λ set h. absurd (Contains-none set h); all = λ k low. absurd (omega (arith, low)) })

rises_more : (once : List (List ℕ)) (set : List ℕ) → IsRising (λ s t. number s < number t) once → ((s : List ℕ) → Contains once s → number s < number set) → IsRising (λ s t. number s < number t) (once ++ set ∷ [])
rises_more [] set h low = tt
rises_more (s ∷ []) set h low = (low s (Contains-here s []), tt)
rises_more (s ∷ t ∷ once) set h low = (h.0, rises_more (t ∷ once) set h.1 (λ z held. low z (Rattle.re_labels.proofs.Membership.Contains-later z s (t ∷ once) held)))

module _ (sets : List (List ℕ)) (place : ℕ) (once : List (List ℕ)) (order : IsNonDecreasingBy number sets) (low : place < length sets) (before : IsOnce sets place once) where
  step_up : 0 < place → number (set_at sets (place - 1)) ≤ number (set_at sets place)
  step_up some = order (place - 1) place [] (omega (arith, some)) low

  pub once_again : (0 < place) × (set_at sets (place - 1) ≡ set_at sets place) → IsOnce sets (place + 1) once
  once_again (some, same) =
      let back : place + 1 - 1 ≡ place = omega arith in
      let earlier : place - 1 < place = omega (arith, some) in
      record {
        rises = before.rises;
        most = λ set h. let m = before.most set h in (omega arith, subst (λ k. number set ≤ number (set_at sets k)) (sym back) (subst (λ s. number set ≤ number s) same m.1));
        from = before.from;
        all = λ k k_low. elim (cases_lt k place) [
          | inl less ↦ before.all k less
          | inr ge ↦ let at : k ≡ place = omega (arith, k_low, ge) in subst (λ m. Contains once (set_at sets m)) (sym at) (subst (Contains once) same (before.all (place - 1) earlier))
        ];
      }

  pub once_more : (more : List (List ℕ)) (set : List ℕ) → set ≡ get_or sets place set → more ≡ once ++ set ∷ [] → (0 < place → number (set_at sets (place - 1)) ≡ number (set_at sets place) → ⊥) → IsOnce sets (place + 1) more
  once_more more set is pushed anew = subst (IsOnce sets (place + 1)) (sym pushed) (record {
    rises = rises_more once set before.rises (λ s h. let m = before.most s h in let up = step_up m.0 in let e = anew m.0 in subst (λ t. number s < number t) at (less m.1 up e));
    most = λ s h. (
      omega arith,
      subst (λ k. number s ≤ number (set_at sets k)) (sym back) (elim (Contains-more_cases once set s h) [
        | inl k ↦ let m = before.most s k in let up = step_up m.0 in omega (arith, m.1, up)
        | inr e ↦ subst (λ t. number s ≤ number t) (e ∙ sym at) (omega arith)
      ]),
    );
    from = λ s h. elim (Contains-more_cases once set s h) [ inl k ↦ before.from s k | inr e ↦ subst (Contains sets) (sym e) (place, low, sym is) ];
    all = λ k k_low. elim (cases_lt k place) [
      | inl k_less ↦ Contains-more once set (set_at sets k) (before.all k k_less)
      | inr ge ↦ let here : k ≡ place = omega (arith, k_low, ge) in subst (Contains (once ++ set ∷ [])) (sym (ap (set_at sets) here ∙ at)) (Contains-last once set)
    ];
  })
    where
      back : place + 1 - 1 ≡ place
      back = omega arith

      at : set_at sets place ≡ set
      at = Rattle.re_closure.proofs.Places.read_at sets place set low is

      less : {a b c : ℕ} → a ≤ b → b ≤ c → (b ≡ c → ⊥) → a < c
      less h k ne = omega (arith, h, k, ne)

pub once_all : (sets once : List (List ℕ)) (place : ℕ) → length sets ≤ place → IsOnce sets place once → (set : List ℕ) → Contains once set ↔ Contains sets set
once_all sets once place past is set = (is.from set, λ (k, low, e). subst (Contains once) (Rattle.re_closure.proofs.Places.read_at sets k set low (sym e)) (is.all k (omega (arith, low, past))))

-- ---- the sets of lines
module _ (n : ℕ) (passive active : List (List (List ℕ))) where
  abbrev ones : List (List ℕ)
  ones = flat_map (λ line. line) passive

  abbrev lefts : List (List ℕ)
  lefts = map (others n) (flat_map (λ line. line) active)

  needed_from : (set : List ℕ) → Contains (flat_map (λ line. line) passive ++ map (others n) (flat_map (λ line. line) active)) set → IsNeeded n passive active set
  needed_from set h = elim (Contains-append_cases ones lefts set h) [
    | inl k ↦ inl (Contains-flat_map_cases (λ line. line) passive set k)
    | inr k ↦ let m = Contains-map_cases (others n) (flat_map (λ line. line) active) set k in inr (m.0, Contains-flat_map_cases (λ line. line) active m.0 m.1, sym m.2)
  ]

  needed_in : (set : List ℕ) → IsNeeded n passive active set → Contains (flat_map (λ line. line) passive ++ map (others n) (flat_map (λ line. line) active)) set
  needed_in set (inl (line, at, there)) = Contains-append_left ones lefts set (Contains-flat_map (λ line. line) passive line set at there)
  needed_in set (inr (other, (line, at, there), e)) = Contains-append_right ones lefts set
      (subst (Contains (map (others n) (flat_map (λ line. line) active))) (sym e) (Contains-map (others n) (flat_map (λ line. line) active) other (Contains-flat_map (λ line. line) active line other at there)))

pub needed : (n : ℕ) (passive active : List (List (List ℕ))) (sets all once : List (List ℕ)) → sets ≡ flat_map (λ line. line) passive ++ map (others n) (flat_map (λ line. line) active)
    → IsPermutation sets all → ((set : List ℕ) → Contains once set ↔ Contains all set) → (set : List ℕ) → Contains once set ↔ IsNeeded n passive active set
needed n passive active sets all once are moved same set = (
  (λ h. needed_from n passive active set (subst (λ l. Contains l set) are (Contains-permutation all sets set (IsPermutation-sym sets all moved) ((same set).0 h)))),
  (λ h. (same set).1 (Contains-permutation sets all set moved (subst (λ l. Contains l set) (sym are) (needed_in n passive active set h)))),
)

-- ---- the closure
at_map : (f : ℕ → List ℕ) (n x : ℕ) → x < n → set_at (map f (count_from 0 n)) x ≡ f x
at_map f n x low = read (count_from 0 n) x (subst (λ m. x < m) (sym (length-count_from 0 n)) low) ∙ ap f (get_or-count_from 0 n x 0 low ∙ plain)
  where
    plain : 0 + x ≡ x
    plain = omega arith

    read : (xs : List ℕ) (k : ℕ) → k < length xs → set_at (map f xs) k ≡ f (get_or xs k 0)
    read [] k l = absurd (omega arith)
    read (y ∷ xs) zero l = refl
    read (y ∷ xs) (suc k) l = read xs k (omega arith)

placed_all : (sets : List (List ℕ)) (f : ℕ → List ℕ) (n : ℕ) (config : List ℕ) → ((x : ℕ) → x < n → set_at sets x ≡ f x) → AllByRecursion (λ x. x < n) config → placed sets config ≡ map f config
placed_all sets f n [] same low = refl
placed_all sets f n (x ∷ config) same low = (λ i. same x low.0 i ∷ placed_all sets f n config same low.1 i)

map_twice : (g : List ℕ → List ℕ) (f : ℕ → List ℕ) (xs : List ℕ) → map g (map f xs) ≡ map (λ x. g (f x)) xs
map_twice g f [] = refl
map_twice g f (x ∷ xs) = (λ i. g (f x) ∷ map_twice g f xs i)

module _ (problem : NamedProblem) (ups left : List (List ℕ)) (starts downs : List (List (List ℕ))) (is : IsProblem (unnamed problem))
    (are_ups : ups ≡ map (λ label. up_set problem.passive label (length problem.names)) (count_from 0 (length problem.names))) (are_left : left ≡ map (others (length problem.names)) ups)
    (are_starts : starts ≡ map (placed ups) problem.passive.configs) (are_downs : downs ≡ map (placed left) problem.active.configs) where
  ups_at : (x : ℕ) → x < length problem.names → set_at ups x ≡ up (unnamed problem) x
  ups_at x low = ap (λ l. set_at l x) are_ups ∙ at_map (λ label. up_set problem.passive label (length problem.names)) (length problem.names) x low

  left_are : left ≡ map (λ label. others (length problem.names) (up_set problem.passive label (length problem.names))) (count_from 0 (length problem.names))
  left_are = are_left ∙ ap (map (others (length problem.names))) are_ups ∙ map_twice (others (length problem.names)) (λ label. up_set problem.passive label (length problem.names)) (count_from 0 (length problem.names))

  left_at : (x : ℕ) → x < length problem.names → set_at left x ≡ others (length problem.names) (up (unnamed problem) x)
  left_at x low = ap (λ l. set_at l x) left_are ∙ at_map (λ label. others (length problem.names) (up_set problem.passive label (length problem.names))) (length problem.names) x low

  starts_are : starts ≡ up_lines (unnamed problem)
  starts_are = are_starts ∙ map-alike (placed ups) (map (up (unnamed problem))) problem.passive.configs
      (λ config h. placed_all ups (up (unnamed problem)) (length problem.names) config ups_at (AllByRecursion-contains (IsConfig problem.passive.degree (length problem.names)) problem.passive.configs config is.passive.configs h).below)

  downs_are : downs ≡ down_lines (unnamed problem)
  downs_are = are_downs ∙ map-alike (placed left) (map (λ x. others (length problem.names) (up (unnamed problem) x))) problem.active.configs
      (λ config h. placed_all left (λ x. others (length problem.names) (up (unnamed problem) x)) (length problem.names) config left_at (AllByRecursion-contains (IsConfig problem.active.degree (length problem.names)) problem.active.configs config is.active.configs h).below)

  -- lines that are too many, of one side
  pub many_passive : ((d : ℕ) → AreOfLength d starts → HasManyLines d starts) → HasManySide (unnamed problem)
  many_passive many =
      inl (subst (HasManyLines problem.passive.degree) starts_are (many problem.passive.degree (λ line h. (passive_first (unnamed problem) is line (subst (λ l. Contains l line) starts_are h)).0)))

  pub many_active : ((d : ℕ) → AreOfLength d downs → HasManyLines d downs) → HasManySide (unnamed problem)
  many_active many =
      inr (subst (HasManyLines problem.active.degree) downs_are (many problem.active.degree (λ line h. (active_first (unnamed problem) is line (subst (λ l. Contains l line) downs_are h)).0)))

  -- lines and combinations that are too many, of one side
  pub full_passive : ((d : ℕ) → AreOfLength d starts → HasManyCombinations d starts) → HasManySideCombinations (unnamed problem)
  full_passive full =
      inl (subst (HasManyCombinations problem.passive.degree) starts_are (full problem.passive.degree (λ line h. (passive_first (unnamed problem) is line (subst (λ l. Contains l line) starts_are h)).0)))

  pub full_active : ((d : ℕ) → AreOfLength d downs → HasManyCombinations d downs) → HasManySideCombinations (unnamed problem)
  full_active full =
      inr (subst (HasManyCombinations problem.active.degree) downs_are (full problem.active.degree (λ line h. (active_first (unnamed problem) is line (subst (λ l. Contains l line) downs_are h)).0)))

  -- the families are the closure
  pub closure_is : (passive active : List (List (List ℕ))) (sets : List (List ℕ)) → ((d : ℕ) → AreOfLength d starts → AreTopmost d starts passive) → ((d : ℕ) → AreOfLength d downs → AreTopmost d downs active)
      → IsRising (λ s t. number s < number t) sets → ((set : List ℕ) → Contains sets set ↔ IsNeeded (length problem.names) passive active set)
      → AreClosure (unnamed problem) (record { degree = problem.active.degree; lines = active; sets = map (others (length problem.names)) sets })
      (record { degree = problem.passive.degree; lines = passive; sets = sets })
  closure_is passive active sets top over rises need = record {
    active_degree = refl;
    passive_degree = refl;
    active_lines = subst (λ l. AreTopmost problem.active.degree l active) downs_are (over problem.active.degree (λ line h. (active_first (unnamed problem) is line (subst (λ l. Contains l line) downs_are h)).0));
    passive_lines = subst (λ l. AreTopmost problem.passive.degree l passive) starts_are (top problem.passive.degree (λ line h. (passive_first (unnamed problem) is line (subst (λ l. Contains l line) starts_are h)).0));
    sets = need;
    ascends = rises;
    opposite = refl;
  }
