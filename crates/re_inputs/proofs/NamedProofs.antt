-- The input problems are problems, and input problems of each problem of their degrees.
use Rattle.std.proofs.Common.{◌≡◌, ℕ, ◌≤◌, Bool, true, false, cond, List, [], ◌∷◌, filter, length, refl, ap, sym, ◌∙◌, subst, inl, inr, arith, Some, None, eqb}
use Rattle.std.specs.Prelude.{◌&&◌, ◌||◌, not, nat_le, replicate, if◌then◌else◌}
use Rattle.std.proofs.lemmas.Bool.{le-leb, leb-true}
use Rattle.re_families.specs.Families.{are_equal, colour_name, family_of, is_degree, number_fits, out_of_range, passive_fits}
use Rattle.re_families.specs.declared.types.Family.{Family}
use Rattle.re_families.specs.declared.types.Family.TheVariants as family
use Rattle.re_given.proofs.Colourings.{IsInput-colouring, filtered_constraint}
use Rattle.re_given.proofs.NamedInputs.{IsInput-oriented, IsInput-oriented_both, IsInput-sides, IsInput-tested, are_there, edge_colouring_input}
use Rattle.re_labels.specs.Orders.{multisets}
use Rattle.re_given.specs.InputExamples as examples
use Rattle.re_given.specs.Inputs.{IsInput, exchanged, nothing}
use Rattle.re_given.specs.Unavoidable.{colouring}
use Rattle.re_labels.proofs.Membership.{length-count_from, length-map'}
use Rattle.re_labels.proofs.LabelPlaces.{each_degree}
use Rattle.re_labels.proofs.Tests.{and-true, eqb-true, true-and}
use Rattle.re_labels.specs.Lists.{count_from}
use Rattle.re_labels.specs.Names.{IsNames}
use Rattle.re_problem.proofs.Building.{all_occur-facts, constraint_named}
use Rattle.re_problem.specs.NamedProblems.{IsNamedProblem, NamedProblem, built, unnamed}
use Rattle.re_problem.specs.Problems.{IsProblem, Problem}
use Rattle.re_labels.specs.Constraints.{Constraint}
use Rattle.re_inputs.specs.NamedInputs.{ColouringFamilyLaw, InputsLaw, NamedInputsLaw, edge_colours, fits, input_of, named, oriented, named_exchanged}
use Rattle.re_inputs.specs.declared.kinds.InputKind.{InputKind}
use Rattle.re_inputs.specs.declared.kinds.InputKind.TheVariants.{Both, Colouring, Edges, Nothing, Orientation, Sides}
use Rattle.re_families.proofs.Whole.{degree_range}

-- ---- parameters
pub in_family : (kind : Family) (a p n : ℕ) → is_degree a ≡ true → passive_fits kind p ≡ true → number_fits kind n ≡ true → out_of_range kind a p n ≡ None
in_family kind a p n x y z = λ i. cond (not (x i)) (Some a) (cond (not (y i)) (Some p) (cond (not (z i)) (Some n) None))

pub record AreDegrees (a p : ℕ) : Type 0 where
  pub active : is_degree a ≡ true
  pub passive : is_degree p ≡ true

-- ---- problems
-- what is a problem with names is built
pub named_built : (names : List (List ℕ)) (active passive : Constraint) → IsNamedProblem (named names active passive) → built names active passive ≡ Some (named names active passive)
named_built names active passive is =
    let x = constraint_named (length names) active is.problem.active in
    let y = constraint_named (length names) passive is.problem.passive in
    let z = all_occur-facts (length names) active passive is.occur in
    (λ i. cond (x i && y i && z i) (Some (named names active passive)) None)

-- the labels of an input problem occur
pub named_input : (problem : Problem) (given : NamedProblem) → IsNames given.names → IsInput problem (unnamed given) → IsNamedProblem given
named_input problem given names is = record { names = names; problem = is.is_problem; occur = λ label l. inl ((is.occurs label l).0) }

pub named_exchanged-named : (problem : NamedProblem) → IsNamedProblem problem → IsNamedProblem (named_exchanged problem)
named_exchanged-named problem is = record {
  names = is.names;
  problem = record { active = is.problem.passive; passive = is.problem.active };
  occur = λ label l. elim (is.occur label l) [ inl h ↦ inr h | inr h ↦ inl h ];
}

-- a problem of equal parts
pub named_is : (p : NamedProblem) (names : List (List ℕ)) (active passive : Constraint) → names ≡ p.names → active ≡ p.active → passive ≡ p.passive → IsNamedProblem p → IsNamedProblem (named names active passive)
named_is p names active passive e f g is = subst IsNamedProblem (sym (λ i. named (e i) (f i) (g i))) is

-- ---- input problems
pub colouring_family : ColouringFamilyLaw
unfolding family_of
colouring_family a p n =
    let count : length (family_of family.Colouring a p n).names ≡ n = length-map' (colour_name n) (count_from 1 n) ∙ length-count_from 1 n in
    ap (colouring a p) count

pub input_oriented : (mixed : Bool) (problem : Problem) → IsProblem problem → IsInput problem (unnamed (oriented mixed problem.active.degree problem.passive.degree))
unfolding family_of
input_oriented false problem is = IsInput-oriented problem is
input_oriented true problem is = IsInput-oriented_both problem is

pub input_nothing : (number : ℕ) (problem : Problem) → IsProblem problem → IsInput problem (unnamed (input_of Nothing problem.active.degree problem.passive.degree number))
unfolding family_of
input_nothing number problem is =
    IsInput-tested problem 1 are_equal are_equal is (omega arith)
    (each_degree (λ d. are_there 1 are_equal d ≡ true) refl refl refl refl refl problem.active.degree is.active.least is.active.most)
    (each_degree (λ d. are_there 1 are_equal d ≡ true) refl refl refl refl refl problem.passive.degree is.passive.least is.passive.most)

-- ---- parameters of the kinds
two : (a p : ℕ) (b : Bool) → (is_degree a && is_degree p && b) ≡ true → AreDegrees a p
two a p b e =
    let first = and-true (is_degree a && is_degree p) b e in
    let both = and-true (is_degree a) (is_degree p) first.0 in
    record { active = both.0; passive = both.1 }

pub degrees_of : (kind : InputKind) (a p n : ℕ) → fits kind a p n ≡ true → AreDegrees a p
degrees_of Colouring a p n e =
    let first = and-true (is_degree a && is_degree p && nat_le p n) (nat_le n 16) e in
    let second = and-true (is_degree a && is_degree p) (nat_le p n) first.0 in
    let both = and-true (is_degree a) (is_degree p) second.0 in
    record { active = both.0; passive = both.1 }
degrees_of Sides a p n e =
    let first = and-true (is_degree a && is_degree p && eqb p 2) (eqb n 0) e in
    let second = and-true (is_degree a && is_degree p) (eqb p 2) first.0 in
    let both = and-true (is_degree a) (is_degree p) second.0 in
    record { active = both.0; passive = both.1 }
degrees_of Edges a p n e = two a p (eqb n 0 || (nat_le a n && nat_le n 16)) e
degrees_of Orientation a p n e = two a p (eqb n 0) e
degrees_of Both a p n e = two a p (eqb n 0) e
degrees_of Nothing a p n e = two a p (eqb n 0) e

-- how many colours there may be
pub colours_range : (a p n : ℕ) → fits Colouring a p n ≡ true → (p ≤ n) × (n ≤ 16)
colours_range a p n e =
    let first = and-true (is_degree a && is_degree p && nat_le p n) (nat_le n 16) e in
    let second = and-true (is_degree a && is_degree p) (nat_le p n) first.0 in
    (leb-true p n second.1, leb-true n 16 first.1)

-- how many colours of edges
pub edge_range : (a p n : ℕ) → fits Edges a p n ≡ true → (a ≤ edge_colours a n) × (edge_colours a n ≤ 16)
edge_range a p n e = go (eqb n 0) (and-true (is_degree a && is_degree p) (eqb n 0 || (nat_le a n && nat_le n 16)) e).1
  where
    most : a ≤ 6
    most = (degree_range a (degrees_of Edges a p n e).active).1

    go : (b : Bool) → (b || (nat_le a n && nat_le n 16)) ≡ true → (a ≤ (if b then a else n)) × ((if b then a else n) ≤ 16)
    go true e = (omega arith, (let l = most in omega (arith, l)))
    go false e = let both = and-true (nat_le a n) (nat_le n 16) e in (leb-true a n both.0, leb-true n 16 both.1)

pub sides_range : (a p n : ℕ) → fits Sides a p n ≡ true → p ≡ 2
sides_range a p n e =
    let first = and-true (is_degree a && is_degree p && eqb p 2) (eqb n 0) e in
    let second = and-true (is_degree a && is_degree p) (eqb p 2) first.0 in
    eqb-true p 2 second.1

-- ---- the families that are asked for
colour_number : (n : ℕ) → 1 ≤ n → n ≤ 16 → number_fits family.Colouring n ≡ true
colour_number n low high = true-and (nat_le 1 n) (nat_le n 16) (le-leb 1 n low) (le-leb n 16 high)

pub colouring_in : (a p n : ℕ) → is_degree a ≡ true → is_degree p ≡ true → 1 ≤ n → n ≤ 16 → out_of_range family.Colouring a p n ≡ None
colouring_in a p n x y low high = in_family family.Colouring a p n x y (colour_number n low high)

pub orientation_in : (a p : ℕ) → is_degree a ≡ true → is_degree p ≡ true → out_of_range family.Orientation a p 0 ≡ None
orientation_in a p x y = in_family family.Orientation a p 0 x y refl

-- ---- the laws
pub inputs : InputsLaw
inputs Colouring problem n is e =
    let range = colours_range problem.active.degree problem.passive.degree n e in
    subst (IsInput problem) (sym (colouring_family problem.active.degree problem.passive.degree n)) (IsInput-colouring problem n is range.0)
inputs Sides problem n is e =
    let edge : problem.passive.degree ≡ 2 = sides_range problem.active.degree problem.passive.degree n e in
    subst (IsInput problem) (sym (colouring_family problem.active.degree 2 2)) (IsInput-sides problem is edge)
inputs Edges problem n is e =
    let colours : ℕ = edge_colours problem.active.degree n in
    subst (λ (p : Problem). IsInput problem (exchanged p)) (sym (colouring_family problem.passive.degree problem.active.degree colours))
    (edge_colouring_input problem colours is (edge_range problem.active.degree problem.passive.degree n e).0)
inputs Orientation problem n is e = input_oriented false problem is
inputs Both problem n is e = input_oriented true problem is
inputs Nothing problem n is e = input_nothing n problem is

-- ---- each is the input problem of the laws
pub exchanged_colouring : (a p n : ℕ) → unnamed (named_exchanged (family_of family.Colouring p a n)) ≡ examples.edge_colouring a p n
exchanged_colouring a p n = ap exchanged (colouring_family p a n)

oriented_is : (mixed : Bool) (a p : ℕ) → unnamed (oriented mixed a p) ≡ cond mixed (examples.oriented_both a p) (examples.oriented a p)
unfolding family_of
oriented_is false a p = refl
oriented_is true a p = refl

-- the one configuration of one label
only_config : (d : ℕ) → 2 ≤ d → d ≤ 6 → filter are_equal (multisets d 0 1) ≡ replicate d 0 ∷ []
only_config = each_degree (λ d. filter are_equal (multisets d 0 1) ≡ replicate d 0 ∷ []) refl refl refl refl refl

nothing_is : (number : ℕ) (problem : Problem) → IsProblem problem → unnamed (input_of Nothing problem.active.degree problem.passive.degree number) ≡ nothing problem
unfolding family_of
nothing_is number problem is =
    λ i. record {
      labels = 1;
      active = record { degree = problem.active.degree; configs = only_config problem.active.degree is.active.least is.active.most i };
      passive = record { degree = problem.passive.degree; configs = only_config problem.passive.degree is.passive.least is.passive.most i };
    }

pub named_inputs : NamedInputsLaw
named_inputs Colouring problem n is e = colouring_family problem.active.degree problem.passive.degree n
named_inputs Sides problem n is e = colouring_family problem.active.degree 2 2
named_inputs Edges problem n is e = exchanged_colouring problem.active.degree problem.passive.degree (edge_colours problem.active.degree n)
named_inputs Orientation problem n is e = oriented_is false problem.active.degree problem.passive.degree
named_inputs Both problem n is e = oriented_is true problem.active.degree problem.passive.degree
named_inputs Nothing problem n is e = nothing_is n problem is

-- ---- what is made is a problem
-- some problem of these degrees
degrees_problem : (a p : ℕ) → AreDegrees a p → IsProblem (unnamed (family_of family.Orientation a p 0)) × ((family_of family.Orientation a p 0).active.degree ≡ a) × ((family_of family.Orientation a p 0).passive.degree ≡ p)
unfolding family_of
degrees_problem a p degrees =
    let x = degree_range a degrees.active in
    let y = degree_range p degrees.passive in
    (record { active = filtered_constraint a 2 _ x.0 x.1; passive = filtered_constraint p 2 _ y.0 y.1 }, refl, refl)

pub oriented_named : (mixed : Bool) (a p : ℕ) → AreDegrees a p → IsNames (family_of family.Orientation a p 0).names → IsNamedProblem (oriented mixed a p)
oriented_named mixed a p degrees names =
    let (is, on_active, on_passive) = degrees_problem a p degrees in
    let problem : Problem = unnamed (family_of family.Orientation a p 0) in
    named_input problem (oriented mixed a p) names
    (subst (λ a'. IsInput problem (unnamed (oriented mixed a' p))) on_active (subst (λ p'. IsInput problem (unnamed (oriented mixed problem.active.degree p'))) on_passive (input_oriented mixed problem is)))

pub nothing_named : (a p : ℕ) → AreDegrees a p → IsNames (family_of family.Colouring a p 1).names → IsNamedProblem (input_of Nothing a p 0)
nothing_named a p degrees names =
    let (is, on_active, on_passive) = degrees_problem a p degrees in
    let problem : Problem = unnamed (family_of family.Orientation a p 0) in
    named_input problem (input_of Nothing a p 0) names
    (subst (λ a'. IsInput problem (unnamed (input_of Nothing a' p 0))) on_active (subst (λ p'. IsInput problem (unnamed (input_of Nothing problem.active.degree p' 0))) on_passive (input_nothing 0 problem is)))
