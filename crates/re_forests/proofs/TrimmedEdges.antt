-- Rounds of trimming: they end with a trimmed set, and keep the labels of edges far within full surroundings that have labels of the set.
use Rattle.std.proofs.Common.{◌≡◌, ℕ, zero, suc, pred, ◌≤◌, ◌<◌, Bool, true, false, cond, ◌&&◌, List, [], ◌∷◌, map, length, refl, sym, ◌∙◌, ap, subst, arith, ◌⊎◌, inl, inr}
use Rattle.std.specs.Prelude.{Contains, not, filter, flat_map}
use Rattle.std.specs.List.{AllByRecursion, list_any}
use Rattle.re_forests.proofs.EdgeLabels.{Has_first, label_on, label_turned}
use Rattle.re_forests.proofs.Growing.{Around, IsFull}
use Rattle.re_forests.specs.Flexible.{Joins, side}
use Rattle.re_forests.specs.OnForests.{SolvesOn}
use Rattle.re_forests.specs.Trimmed.{IsTrimmed}
use Rattle.re_labels.proofs.Membership.{Contains-filter, Contains-filter_cases, Contains-flat_map, Contains-flat_map_cases, Contains-here, Contains-map, Contains-map_cases, Contains-none, any_found, any_true, length-filter_most}
use Rattle.re_labels.proofs.Tests.{and-true, true-and}
use Rattle.re_layers.specs.Networks.{IsForest, Network}
use Rattle.re_problem.specs.Problems.{IsProblem, Problem}
use Rattle.re_labels.proofs.Goodness.{Has-has_config, has_config-Has}
use Rattle.re_labels.specs.Constraints.{Constraint, Has, IsConstraint, has_config}
use Rattle.re_laws.proofs.Mapping.{count_of}

-- all lists of so many labels of the set
abbrev pub tuples : ℕ → List ℕ → List (List ℕ)
tuples zero set = [] ∷ []
tuples (suc d) set = flat_map (λ y. map (λ rest. y ∷ rest) (tuples d set)) set

in_tuples : (set rest : List ℕ) → AllByRecursion (λ z. Contains set z) rest → Contains (tuples (length rest) set) rest
in_tuples set [] all = Contains-here [] []
in_tuples set (y ∷ rest) all =
    Contains-flat_map (λ y. map (λ rest. y ∷ rest) (tuples (length rest) set)) set y (y ∷ rest) all.0
    (Contains-map (λ rest. y ∷ rest) (tuples (length rest) set) rest (in_tuples set rest all.1))

of_tuples : (d : ℕ) (set rest : List ℕ) → Contains (tuples d set) rest → AllByRecursion (λ z. Contains set z) rest × (length rest ≡ d)
of_tuples zero set [] held = (tt, refl)
of_tuples zero set (y ∷ rest) (zero, l, e) = absurd (cc)
of_tuples zero set (y ∷ rest) (suc k, l, e) = absurd (omega arith)
of_tuples (suc d) set rest held =
    let (y, at, there) = Contains-flat_map_cases (λ y. map (λ rest. y ∷ rest) (tuples d set)) set rest held in
    let (rest', in', e) = Contains-map_cases (λ rest. y ∷ rest) (tuples d set) rest there in
    let (all, count) = of_tuples d set rest' in' in
    subst (λ r. AllByRecursion (λ z. Contains set z) r × (length r ≡ suc d)) e ((at, all), ap suc count)

-- whether the label stands in a configuration whose other labels are of the set
abbrev pub stands : Constraint → List ℕ → ℕ → Bool
stands constraint set x = list_any (λ rest. has_config constraint (x ∷ rest)) (tuples (pred constraint.degree) set)

abbrev pub trim : Problem → List ℕ → List ℕ
trim problem set = filter (λ x. stands problem.active set x && stands problem.passive set x) set

-- the labels that are left after so many rounds
abbrev pub survivors : Problem → ℕ → List ℕ → List ℕ
survivors problem zero set = set
survivors problem (suc m) set = survivors problem m (trim problem set)

module _ (problem : Problem) (is : IsProblem problem) where
  side_is : (b : Bool) → IsConstraint problem.labels (side problem b)
  side_is true = is.active
  side_is false = is.passive

  joins_of_stands : (b : Bool) (set : List ℕ) (x : ℕ) → stands (side problem b) set x ≡ true → (y : ℕ) × Contains set y × Joins (side problem b) set x y
  joins_of_stands b set x test =
      let (rest, held, has) = any_found (λ rest. has_config (side problem b) (x ∷ rest)) (tuples (pred (side problem b).degree) set) test in
      let (all, count) = of_tuples (pred (side problem b).degree) set rest held in
      let low : 2 ≤ (side problem b).degree = (side_is b).least in
      by rest all (omega (arith, count, low)) (has_config-Has (side problem b) (x ∷ rest) has)
    where
      by : (rest : List ℕ) → AllByRecursion (λ z. Contains set z) rest → 1 ≤ length rest → Has (side problem b) (x ∷ rest)
          → (y : ℕ) × Contains set y × Joins (side problem b) set x y
      by [] all some has = absurd (omega arith)
      by (y ∷ rest) all some has = (y, all.0, (rest, all.1, has))

  stands_of_has : (b : Bool) (set : List ℕ) (x : ℕ) (rest : List ℕ) → AllByRecursion (λ z. Contains set z) rest → Has (side problem b) (x ∷ rest)
      → stands (side problem b) set x ≡ true
  stands_of_has b set x rest all has =
      let count : length (x ∷ rest) ≡ (side problem b).degree = count_of problem.labels (side problem b) (x ∷ rest) (side_is b) has in
      any_true (λ rest. has_config (side problem b) (x ∷ rest)) (tuples (pred (side problem b).degree) set) rest
      (subst (λ d. Contains (tuples d set) rest) (ap pred count) (in_tuples set rest all)) (Has-has_config (side problem b) (x ∷ rest) has)

  both_stand : (b : Bool) (set : List ℕ) (x : ℕ) → stands (side problem b) set x ≡ true → stands (side problem (not b)) set x ≡ true
      → (stands problem.active set x && stands problem.passive set x) ≡ true
  both_stand true set x one two = true-and (stands problem.active set x) (stands problem.passive set x) one two
  both_stand false set x one two = true-and (stands problem.active set x) (stands problem.passive set x) two one

  one_stands : (b : Bool) (set : List ℕ) (x : ℕ) → (stands problem.active set x && stands problem.passive set x) ≡ true → stands (side problem b) set x ≡ true
  one_stands true set x h = (and-true (stands problem.active set x) (stands problem.passive set x) h).0
  one_stands false set x h = (and-true (stands problem.active set x) (stands problem.passive set x) h).1

  stays : (set : List ℕ) → trim problem set ≡ set → IsTrimmed problem set
  stays set e b x held =
      joins_of_stands b set x
      (one_stands b set x (Contains-filter_cases (λ x. stands problem.active set x && stands problem.passive set x) set x (subst (λ s. Contains s x) (sym e) held)).1)

  same_survivors : (m : ℕ) (set : List ℕ) → trim problem set ≡ set → survivors problem m set ≡ set
  same_survivors zero set e = refl
  same_survivors (suc m) set e = ap (survivors problem m) e ∙ same_survivors m set e

  pub survivors_part : (m : ℕ) (set : List ℕ) (x : ℕ) → Contains (survivors problem m set) x → Contains set x
  survivors_part zero set x held = held
  survivors_part (suc m) set x held =
      (Contains-filter_cases (λ x. stands problem.active set x && stands problem.passive set x) set x (survivors_part m (trim problem set) x held)).0

  -- as many rounds as there are labels are enough
  pub survivors_trimmed : (m : ℕ) (set : List ℕ) → length set ≤ m → IsTrimmed problem (survivors problem m set)
  survivors_trimmed zero [] le = λ b x held. absurd (Contains-none x held)
  survivors_trimmed zero (x ∷ set) le = absurd (omega arith)
  survivors_trimmed (suc m) set le = elim (filter_less (λ x. stands problem.active set x && stands problem.passive set x) set) [
    | inl e ↦ subst (λ s. IsTrimmed problem s) (sym (same_survivors (suc m) set e)) (stays set e)
    | inr less ↦ survivors_trimmed m (trim problem set) (omega arith)
  ]
    where
      filter_less : (test : ℕ → Bool) (xs : List ℕ) → (filter test xs ≡ xs) ⊎ (length (filter test xs) < length xs)
      filter_less test [] = inl refl
      filter_less test (x ∷ xs) = first (test x) (filter_less test xs)
        where
          first : (b : Bool) → (filter test xs ≡ xs) ⊎ (length (filter test xs) < length xs)
              → (cond b (x ∷ filter test xs) (filter test xs) ≡ x ∷ xs) ⊎ (length (cond b (x ∷ filter test xs) (filter test xs)) < suc (length xs))
          first true (inl e) = inl (ap (λ l. x ∷ l) e)
          first true (inr l) = inr (omega arith)
          first false rest = inr (let most = length-filter_most test xs in omega (arith, most))

  module _ (N : ℕ) (G : Network) (labels : ℕ → List ℕ) (forest : IsForest problem.active.degree problem.passive.degree N G) (solves : SolvesOn problem G labels) where
    -- a full node all of whose labels are of the set
    abbrev pub Fine : List ℕ → ℕ → Type 0
    Fine set v = IsFull problem.active.degree problem.passive.degree G v × ((w : ℕ) → Contains (G.near v) w → Contains set (label_on G labels v w))

    stands_at : (set : List ℕ) (v w : ℕ) → Fine set v → Contains (G.near v) w → stands (side problem (G.active v)) set (label_on G labels v w) ≡ true
    stands_at set v w fine held =
        let (rest, has, all) = Has_first problem N G labels is forest solves v w fine.0 held in
        stands_of_has (G.active v) set (label_on G labels v w) rest (all set fine.1) has

    fine_next : (set : List ℕ) (v : ℕ) → Fine set v → ((w : ℕ) → Contains (G.near v) w → Fine set w) → Fine (trim problem set) v
    fine_next set v fine each = (
      fine.0,
      λ w held.
          (let kinds : G.active w ≡ not (G.active v) = forest.turns v w held in
          let there : stands (side problem (not (G.active v))) set (label_on G labels v w) ≡ true =
          subst (λ b. stands (side problem b) set (label_on G labels v w) ≡ true) kinds
          (subst (λ x. stands (side problem (G.active w)) set x ≡ true) (sym (label_turned G labels v w kinds)) (stands_at set w v (each w held) (forest.both v w held))) in
          Contains-filter (λ x. stands problem.active set x && stands problem.passive set x) set (label_on G labels v w) (fine.1 w held)
          (both_stand (G.active v) set (label_on G labels v w) (stands_at set v w fine held) there)),
    )

    fine_around : (set : List ℕ) (m v : ℕ) → Around G (Fine set) (suc m) v → Around G (Fine (trim problem set)) m v
    fine_around set zero v around = fine_next set v around.0 around.1
    fine_around set (suc m) v around = (fine_next set v around.0 (λ w held. (around.1 w held).0), λ w held. fine_around set m w (around.1 w held))

    pub survive : (m : ℕ) (set : List ℕ) (v : ℕ) → Around G (Fine set) m v → Fine (survivors problem m set) v
    survive zero set v around = around
    survive (suc m) set v around = survive m (trim problem set) v (fine_around set m v around)
