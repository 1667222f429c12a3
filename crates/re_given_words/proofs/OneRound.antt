-- One round: a row of the problem, and the problem of its places.
use Rattle.std.proofs.Common.{◌≡◌, ℕ, ◌<◌, ◌≤◌, List, [], ◌∷◌, length, map, get_or, refl, sym, ap, ◌∙◌, subst, arith, inl, inr}
use Rattle.std.specs.Prelude.{Contains, ◌⊎◌}
use Rattle.std.specs.List.{AllByRecursion}
use Rattle.std.proofs.lemmas.List.{get_or-map, length-map}
use Rattle.std.proofs.lemmas.List.Elements.{Contains-get_or}
use Rattle.re_labels.proofs.Membership.{AllByRecursion-contains, AllByRecursion-from_contains, Contains-cases, Contains-here, Contains-none, count_from_range, length-count_from}
use Rattle.re_labels.specs.Lists.{count_from}
use Rattle.re_labels.proofs.LawsOfRows.{multisets_law}
use Rattle.re_labels.proofs.Placing.{placed_whole}
use Rattle.re_labels.proofs.Rearranging.{Rearranged-map, Rearranged-sym}
use Rattle.re_labels.proofs.Sorting.{IsConfig-sorted, Rearranged-sorted, count_from_rises}
use Rattle.re_labels.specs.Configs.{IsConfig, sorted}
use Rattle.re_labels.specs.Orders.{multisets}
use Rattle.re_labels.specs.Rows.{placed, set_at}
use Rattle.re_labels.proofs.Goodness.{IsAllowed-Rearranged}
use Rattle.re_labels.specs.Constraints.{Constraint, Has}
use Rattle.re_labels.specs.GoodRows.{IsAllowed, IsGood}
use Rattle.re_problem.specs.Problems.{IsProblem, Problem}
use Rattle.re_problem.specs.Steps.{IsUpper}
use Rattle.re_problem.specs.Zero.{Zero}
use Rattle.re_given_words.specs.Ahead.{ShowsOne}

-- the degrees are from 2 to 6
pub record HasDegrees (problem : Problem) : Type 0 where
  pub active_least : 2 ≤ problem.active.degree
  pub active_most : problem.active.degree ≤ 6
  pub passive_least : 2 ≤ problem.passive.degree
  pub passive_most : problem.passive.degree ≤ 6

pub degrees_of : (problem : Problem) → IsProblem problem → HasDegrees problem
degrees_of problem is = record { active_least = is.active.least; active_most = is.active.most; passive_least = is.passive.least; passive_most = is.passive.most }

-- ---- from a problem that is Zero behind an upper step
-- the labels at these places
drawn_at : List ℕ → List ℕ → List ℕ
drawn_at config places = map (λ k. get_or config k 0) places

placed-drawn : (sets : ℕ → List ℕ) (config places : List ℕ) → AllByRecursion (λ k. k < length config) places → placed (map sets config) places ≡ map sets (drawn_at config places)
unfolding drawn_at
placed-drawn sets config [] below = refl
placed-drawn sets config (k ∷ places) below =
    let first : set_at (map sets config) k ≡ sets (get_or config k 0) = get_or-map sets config k 0 [] below.0 in
    let rest : placed (map sets config) places ≡ map sets (drawn_at config places) = placed-drawn sets config places below.1 in
    (λ i. first i ∷ rest i)

drawn-held : (config places : List ℕ) → AllByRecursion (λ k. k < length config) places → AllByRecursion (Contains config) (drawn_at config places)
unfolding drawn_at
drawn-held config [] below = tt
drawn-held config (k ∷ places) below = (Contains-get_or config k 0 below.0, drawn-held config places below.1)

drawn-length : (config places : List ℕ) → length (drawn_at config places) ≡ length places
unfolding drawn_at
drawn-length config places = length-map places (λ k. get_or config k 0)

-- of these labels, in any order, the sets have a choice where the ascending ones have
pub allowed-labels : (active : Constraint) (sets : ℕ → List ℕ) (labels : List ℕ) → IsAllowed active (map sets (sorted labels)) → IsAllowed active (map sets labels)
allowed-labels active sets labels allowed = IsAllowed-Rearranged active (Rearranged-map sets (Rearranged-sym (Rearranged-sorted labels))) allowed

-- the sets of the configuration that shows Zero are a row that shows one round
pub one-from_zero : (problem next : Problem) (sets : ℕ → List ℕ) → IsUpper problem next sets → (zero_there : Zero next) → ShowsOne problem (map sets zero_there.0)
one-from_zero problem next sets upper (config, held, shows) = record {
  good = upper.good config held;
  choice = λ places is.
      let below : AllByRecursion (λ k. k < length config) places = subst (λ n. AllByRecursion (λ k. k < n) places) (length-map config sets) is.below in
      let count : length (drawn_at config places) ≡ next.passive.degree = drawn-length config places ∙ is.count ∙ sym upper.passive_degree in
      let there : Has next.passive (drawn_at config places) = shows (drawn_at config places) count (drawn-held config places below) in
      subst (IsAllowed problem.active) (sym (placed-drawn sets config places below))
      (allowed-labels problem.active sets (drawn_at config places) (upper.choice (sorted (drawn_at config places)) there));
}

-- ---- the problem of the places of a row
-- each place once around an active node, and all multisets of places around a passive one
pub places_problem : ℕ → ℕ → Problem
places_problem p a = record {
  labels = p;
  active = record { degree = p; configs = count_from 0 p ∷ [] };
  passive = record { degree = a; configs = multisets a 0 p };
}

all-places : (p : ℕ) → IsConfig p p (count_from 0 p)
all-places p = record {
  count = length-count_from 0 p;
  below = AllByRecursion-from_contains (λ x. x < p) (count_from 0 p) (λ x held. let (low, high) = count_from_range 0 p x held in omega (arith, high));
  ascends = count_from_rises 0 p;
}

only : (config x : List ℕ) → Contains (config ∷ []) x → x ≡ config
only config x held = go (Contains-cases x config [] held)
  where
    go : (x ≡ config) ⊎ Contains [] x → x ≡ config
    go (inl same) = same
    go (inr later) = absurd (Contains-none x later)

module _ (problem : Problem) (degrees : HasDegrees problem) where
  abbrev a : ℕ
  a = problem.active.degree

  abbrev p : ℕ
  p = problem.passive.degree

  pub is_problem : IsProblem (places_problem p a)
  unfolding places_problem
  is_problem = record {
    active = record {
      least = degrees.passive_least;
      most = degrees.passive_most;
      configs = (all-places p, tt);
      ascends = tt;
    };
    passive = record {
      least = degrees.active_least;
      most = degrees.active_most;
      configs = AllByRecursion-from_contains (IsConfig a p) (multisets a 0 p) (λ config held. ((multisets_law a p).1 config).0 held);
      ascends = (multisets_law a p).0;
    };
  }

  pub is_zero : Zero (places_problem p a)
  unfolding places_problem
  is_zero = (
    count_from 0 p,
    Contains-here (count_from 0 p) [],
    λ drawn count each.
        let below : AllByRecursion (λ x. x < p) drawn = AllByRecursion-from_contains (λ x. x < p) drawn (λ x held.
        let (low, high) = count_from_range 0 p x (AllByRecursion-contains (Contains (count_from 0 p)) drawn x each held) in omega (arith, high)) in
        ((multisets_law a p).1 (sorted drawn)).1 (IsConfig-sorted a p drawn count below),
  )

  module _ (row : List (List ℕ)) (shows : ShowsOne problem row) where
    pub is_upper : IsUpper problem (places_problem p a) (set_at row)
    unfolding places_problem
    is_upper = record {
      active_degree = refl;
      passive_degree = refl;
      good = λ config held.
          let count : length row ≡ p = shows.good.count in
          let whole : map (set_at row) config ≡ row = ap (map (set_at row)) (only (count_from 0 p) config held ∙ ap (count_from 0) (sym count)) ∙ placed_whole row in
          subst (IsGood problem.passive) (sym whole) shows.good;
      choice = λ config held. shows.choice config (subst (λ n. IsConfig a n config) (sym shows.good.count) (((multisets_law a p).1 config).0 held));
    }
