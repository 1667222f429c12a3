-- A hypergraph that separates for some rounds separates for fewer.
use Rattle.std.proofs.Common.{◌≡◌, ℕ, zero, suc, ◌+◌, ◌-◌, ◌/◌, ◌≤◌, ◌<◌, List, [], ◌∷◌, ◌++◌, map, sym, subst, arith, inl, inr}
use Rattle.std.specs.Prelude.{Contains}
use Rattle.re_given.proofs.GrownInputs.{active_sides, grown_children, passive_sides}
use Rattle.re_given.specs.InputViews.{InputView}
use Rattle.re_given.specs.Inputs.{IsInput}
use Rattle.re_labels.proofs.Membership.{Contains-cases, Contains-here, Contains-later}
use Rattle.re_local.proofs.IdentifierInputs.{IsInput-identifiers, identifiers_active, identifiers_passive, some_identifier}
use Rattle.re_local.specs.Identifiers.{IdHypergraph, identifiers}
use Rattle.re_layers.specs.Networks.{AreDifferent}
use Rattle.re_local.specs.LocalAlgorithms.{behind_active, behind_passive, shown}
use Rattle.re_local.specs.Separating.{AreApart, Separates}
use Rattle.re_problem.specs.Problems.{IsProblem, Problem}
use Rattle.re_laws.specs.Trees.{cut, end, leaf, more}

-- the first list is the second with some elements left out
pub data IsPart : List ℕ → List ℕ → Type 0 where
  none : IsPart [] []
  left_out : {x : ℕ} {xs ys : List ℕ} → IsPart xs ys → IsPart xs (x ∷ ys)
  held : {x : ℕ} {xs ys : List ℕ} → IsPart xs ys → IsPart (x ∷ xs) (x ∷ ys)

pub part_empty : (ys : List ℕ) → IsPart [] ys
part_empty [] = none
part_empty (y ∷ ys) = left_out (part_empty ys)

pub part_append : {xs ys us vs : List ℕ} → IsPart xs ys → IsPart us vs → IsPart (xs ++ us) (ys ++ vs)
part_append none p = p
part_append (left_out h) p = left_out (part_append h p)
part_append (held h) p = held (part_append h p)

pub part_map : (f : ℕ → ℕ) {xs ys : List ℕ} → IsPart xs ys → IsPart (map f xs) (map f ys)
part_map f none = none
part_map f (left_out h) = left_out (part_map f h)
part_map f (held h) = held (part_map f h)

pub part_contains : {xs ys : List ℕ} (z : ℕ) → IsPart xs ys → Contains xs z → Contains ys z
part_contains z none at = at
part_contains z (left_out {x = x} {ys = ys} h) at = Contains-later z x ys (part_contains z h at)
part_contains z (held {x = x} {xs = xs} {ys = ys} h) at = elim (Contains-cases z x xs at) [
  | inl e ↦ subst (Contains (x ∷ ys)) (sym e) (Contains-here x ys)
  | inr there ↦ Contains-later z x ys (part_contains z h there)
]

pub part_different : {xs ys : List ℕ} → IsPart xs ys → AreDifferent ys → AreDifferent xs
part_different none d = tt
part_different (left_out h) d = part_different h d.1
part_different (held {x = x} h) d = (λ at. d.0 (part_contains x h at), part_different h d.1)

-- what is cut shows less
mutual
  pub behind_active-cut : (t : ℕ) (x : InputView) → IsPart (behind_active (cut t x)) (behind_active x)
  behind_active-cut zero x = part_empty (behind_active x)
  behind_active-cut (suc t) leaf = none
  behind_active-cut (suc t) end = none
  behind_active-cut (suc t) (more back label branch rest) = part_append (behind_passive-cut t branch) (behind_active-cut (suc t) rest)

  pub behind_passive-cut : (t : ℕ) (x : InputView) → IsPart (behind_passive (cut t x)) (behind_passive x)
  behind_passive-cut zero x = part_empty (behind_passive x)
  behind_passive-cut (suc t) leaf = none
  behind_passive-cut (suc t) end = none
  behind_passive-cut (suc t) (more back label branch rest) = held (part_append (behind_active-cut t branch) (behind_passive-cut (suc t) rest))

pub shown-cut : (t : ℕ) (x : InputView) → IsPart (shown (cut t x)) (shown x)
shown-cut zero x = part_empty (shown x)
shown-cut (suc t) leaf = none
shown-cut (suc t) end = none
shown-cut (suc t) (more back label branch rest) = held (behind_active-cut (suc t) (more back label branch rest))

pub AreApart-fewer : (input : Problem) (id : ℕ → ℕ) (T : ℕ) → IsInput input input → AreApart input id (suc T) → AreApart input id T
AreApart-fewer input id T is apart = record {
  active = λ v view fits.
      let (y, y_view, y_fits, y_cut) = grown_children input.labels input.active.degree input.passive.degree input.active input.passive T (suc T) input.active.degree [] v (active_sides input input is) view (omega arith) fits in
      part_different (part_map id (subst (λ x. IsPart (shown x) (shown y)) y_cut (shown-cut (suc T) y))) (apart.active y y_view y_fits);
  passive = λ v view fits.
      let (y, y_view, y_fits, y_cut) = grown_children input.labels input.passive.degree input.active.degree input.passive input.active (suc T) (suc (suc T)) input.passive.degree [] v (passive_sides input input is) view (omega arith) fits in
      part_different (part_map id (subst (λ x. IsPart (behind_passive x) (behind_passive y)) y_cut (behind_passive-cut (suc (suc T)) y))) (apart.passive y y_view y_fits);
}

-- the same for any number of rounds less
AreApart-less : (input : Problem) (id : ℕ → ℕ) (less T : ℕ) → IsInput input input → AreApart input id (less + T) → AreApart input id T
AreApart-less input id zero T is apart = subst (AreApart input id) (omega arith) apart
AreApart-less input id (suc less) T is apart = AreApart-less input id less T is (AreApart-fewer input id (less + T) is (subst (AreApart input id) (omega arith) apart))

pub Separates-fewer : (a p N n S T : ℕ) (hyper : IdHypergraph) → 2 ≤ a → a ≤ 6 → 2 ≤ p → p ≤ 6 → T ≤ S → Separates a p N n S hyper → Separates a p N n T hyper
Separates-fewer a p N n S T hyper least most least' most' l separates = record {
  edges = separates.edges;
  joins = separates.joins;
  apart =
      let input : Problem = identifiers a p N hyper in
      let is_problem : IsProblem input = record { active = identifiers_active a p N hyper least most; passive = identifiers_passive a p N hyper least' most' } in
      let some : 0 < N = some_identifier a p N n hyper (omega arith) (omega arith) separates.joins in
      let is_input : IsInput input input = IsInput-identifiers input N hyper is_problem some separates.edges in
      let same : S ≡ S - T + T = omega arith in
      AreApart-less input (λ label. label / a) (S - T) T is_input (subst (AreApart input (λ label. label / a)) same separates.apart);
}
