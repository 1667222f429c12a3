-- Worked problems, one of each class.
use Rattle.std.proofs.Common.{◌≡◌, ℕ, zero, suc, ◌≤◌, ◌<◌, List, [], ◌∷◌, length, refl, sym, ◌∙◌, ap, subst, arith, inl, inr}
use Rattle.std.specs.Prelude.{◌==◌, true, Contains}
use Rattle.re_classes.proofs.Decided.{order_log_star}
use Rattle.re_classes.specs.Examples.{PathColouringLaw, SinklessClassLaw}
use Rattle.re_labels.proofs.Rearranging.{Contains-Rearranged}
use Rattle.re_labels.proofs.Sorting.{Rearranged-sorted}
use Rattle.re_labels.specs.Configs.{sorted, support_of}
use Rattle.re_labels.specs.Orders.{multisets}
use Rattle.re_cover.proofs.Outputs.{no_solution_law}
use Rattle.re_cover.specs.Graphs.{IsGraphOf, IsPassiveEnd, IsSolution, PortGraph, active_end}
use Rattle.re_cover.specs.declared.ends.GraphEnd.{GraphEnd}
use Rattle.re_local.proofs.ColouredHops.{IsProblem-colouring}
use Rattle.re_given.proofs.Colourings.{IsInput-colouring}
use Rattle.re_given.proofs.Itself.{SolvableGiven-itself}
use Rattle.re_given.specs.Unavoidable.{colouring}
use Rattle.re_labels.proofs.Membership.{AllByRecursion-contains, Contains-cases, Contains-filter_cases, Contains-here, Contains-later, Contains-none}
use Rattle.re_problem.specs.Problems.{IsProblem}
use Rattle.re_local.proofs.Separated.{sinkless_unique}
use Rattle.re_local.specs.SeparatingLaws.{identifier_base}
use Rattle.re_labels.specs.Constraints.{Has}

pub is_three : IsProblem (colouring 2 2 3)
is_three = IsProblem-colouring 2 2 3 (omega arith) (omega arith) (omega arith) (omega arith)

abbrev the_end : ℕ → ℕ → GraphEnd
the_end n p = record { node = n; port = p }

-- ---- a node both of whose edges lead to one passive node
abbrev first_end : GraphEnd
first_end = record { node = 0; port = 1 }

abbrev second_end : GraphEnd
second_end = record { node = 0; port = 2 }

abbrev loop : PortGraph
loop = record { active_degree = 2; passive_degree = 2; nodes = 1; passive = (first_end ∷ second_end ∷ []) ∷ [] }

end_found : (n p : ℕ) → n < 1 → 1 ≤ p → p ≤ 2
    → (there : GraphEnd) × IsPassiveEnd loop there × (active_end loop there ≡ record { node = n; port = p })
end_found (suc n) p low least most = absurd (omega (arith, low))
end_found zero zero low least most = absurd (omega (arith, least))
end_found zero (suc zero) low least most = (first_end, record { node = omega arith; least = omega arith; most = omega arith }, refl)
end_found zero (suc (suc zero)) low least most = (second_end, record { node = omega arith; least = omega arith; most = omega arith }, refl)
end_found zero (suc (suc (suc p))) low least most = absurd (omega (arith, most))

-- the port of an end of the graph
port_of : (n p : ℕ) → n < 1 → 1 ≤ p → p ≤ 2 → (active_end loop (record { node = n; port = p })).port ≡ p
port_of (suc n) p low least most = absurd (omega (arith, low))
port_of zero zero low least most = absurd (omega (arith, least))
port_of zero (suc zero) low least most = refl
port_of zero (suc (suc zero)) low least most = refl
port_of zero (suc (suc (suc p))) low least most = absurd (omega (arith, most))

same_ends : (n p m q : ℕ) → n < 1 → m < 1 → p ≡ q → the_end n p ≡ the_end m q
same_ends zero p zero q low low' same = ap (the_end 0) same
same_ends (suc n) p m q low low' same = absurd (omega (arith, low))
same_ends zero p (suc m) q low low' same = absurd (omega (arith, low'))

loop_is : IsGraphOf (colouring 2 2 3) loop
loop_is = record {
  is_graph = record {
    count = (refl, tt);
    ends = (
      (
        record { node = omega arith; least = omega arith; most = omega arith },
        (record { node = omega arith; least = omega arith; most = omega arith }, tt),
      ),
      tt,
    );
    each = λ here is. end_found here.node here.port is.node is.least is.most;
    once = λ there other is is' same.
        let one = port_of there.node there.port is.node is.least is.most in
        let two = port_of other.node other.port is'.node is'.least is'.most in
        same_ends there.node there.port other.node other.port is.node is'.node (sym one ∙ (ap (λ (e : GraphEnd). e.port) same ∙ two));
  };
  active_degree = refl;
  passive_degree = refl;
}

-- ---- its edges would have one label, and different ones
alike : (k : ℕ) (labels : List ℕ) → sorted labels ≡ k ∷ k ∷ [] → (w : ℕ) → Contains labels w → w ≡ k
alike k labels is w at =
    AllByRecursion-contains (λ y. y ≡ k) (k ∷ k ∷ []) w (refl, (refl, tt))
    (subst (λ (c : List ℕ). Contains c w) is (Contains-Rearranged w (Rearranged-sorted labels) at))

one_label : (labels : List ℕ) → Has (colouring 2 2 3).active labels → (k : ℕ) × (k < 3) × (sorted labels ≡ k ∷ k ∷ [])
one_label labels has = elim (Contains-cases (sorted labels) (0 ∷ 0 ∷ []) ((1 ∷ 1 ∷ []) ∷ (2 ∷ 2 ∷ []) ∷ []) has) [
  | inl e ↦ (0, omega arith, e)
  | inr more ↦ elim (Contains-cases (sorted labels) (1 ∷ 1 ∷ []) ((2 ∷ 2 ∷ []) ∷ []) more) [
    | inl e ↦ (1, omega arith, e)
    | inr last ↦ elim (Contains-cases (sorted labels) (2 ∷ 2 ∷ []) [] last) [
      | inl e ↦ (2, omega arith, e)
      | inr none ↦ absurd (Contains-none (sorted labels) none)
    ]
  ]
]

differ : (labels : List ℕ) → Has (colouring 2 2 3).passive labels → (length (support_of (sorted labels)) == length (sorted labels)) ≡ true
differ labels has = (Contains-filter_cases (λ edges. length (support_of edges) == length edges) (multisets 2 0 3) (sorted labels) has).1

not_both : (k : ℕ) → k < 3 → Has (colouring 2 2 3).passive (k ∷ k ∷ []) → ⊥
not_both zero low has = let e = differ (0 ∷ 0 ∷ []) has in absurd (cc)
not_both (suc zero) low has = let e = differ (1 ∷ 1 ∷ []) has in absurd (cc)
not_both (suc (suc zero)) low has = let e = differ (2 ∷ 2 ∷ []) has in absurd (cc)
not_both (suc (suc (suc k))) low has = absurd (omega (arith, low))

loop_none : (labels : List (List ℕ)) → IsSolution (colouring 2 2 3) loop labels → ⊥
loop_none [] s = let e = s.count in absurd (omega (arith, e))
loop_none ([] ∷ rest) s = let (k, low, is) = one_label [] s.active.0 in absurd (cc)
loop_none ((x ∷ []) ∷ rest) s = let (k, low, is) = one_label (x ∷ []) s.active.0 in absurd (cc)
loop_none ((x ∷ y ∷ more) ∷ rest) s =
    let (k, low, is) = one_label (x ∷ y ∷ more) s.active.0 in
    let one : x ≡ k = alike k (x ∷ y ∷ more) is x (Contains-here x (y ∷ more)) in
    let two : y ≡ k = alike k (x ∷ y ∷ more) is y (Contains-later y x (y ∷ more) (Contains-here y more)) in
    not_both k low (subst (λ z. Has (colouring 2 2 3).passive (k ∷ z ∷ [])) two (subst (λ z. Has (colouring 2 2 3).passive (z ∷ y ∷ [])) one s.passive.0))

pub path_colouring : PathColouringLaw
path_colouring = order_log_star (colouring 2 2 3) is_three (λ S. no_solution_law (colouring 2 2 3) loop S loop_is loop_none)
    (0, SolvableGiven-itself (colouring 2 2 3) (IsInput-colouring (colouring 2 2 3) 3 is_three (omega arith)))

pub sinkless_class : SinklessClassLaw
sinkless_class = (identifier_base 3 2 2, sinkless_unique)
