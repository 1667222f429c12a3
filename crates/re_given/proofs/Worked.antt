-- An orientation that is given, and the relaxation of sinkless orientation given colourings.
use Rattle.std.proofs.Common.{◌<◌, ℕ, zero, suc, List, [], ◌∷◌, map, refl, sym, subst, arith, inl, inr, ◌≤◌}
use Rattle.std.specs.Prelude.{Contains, replicate}
use Rattle.re_labels.specs.Configs.{sorted}
use Rattle.re_labels.proofs.Rearranging.{Contains-Rearranged, Rearranged-sym}
use Rattle.re_labels.proofs.Sorting.{Rearranged-sorted}
use Rattle.re_labels.specs.Rows.{IsChoice}
use Rattle.re_given.proofs.ChainGiven.{fixed_point_given}
use Rattle.re_given.proofs.Colourings.{IsInput-colouring, colour_there, colours_there}
use Rattle.re_given.proofs.Itself.{SolvableGiven-itself}
use Rattle.re_given.specs.Examples.{edge_colouring}
use Rattle.re_given.specs.Given.{SolvableGiven, ZeroGiven}
use Rattle.re_given.specs.Inputs.{IsInput}
use Rattle.re_given.specs.Unavoidable.{colouring}
use Rattle.re_labels.proofs.Membership.{Contains-cases, Contains-none}
use Rattle.re_laws.specs.Chains as chain
use Rattle.re_laws.specs.Chains.{IsLowerChain}
use Rattle.re_laws.proofs.Worked.{two_steps}
use Rattle.re_problem.proofs.Examples.{IsProblem-relaxed_sinkless, relaxed_sinkless_twice}
use Rattle.re_problem.specs.Derived.{derived, derived_by}
use Rattle.re_problem.specs.Examples.{orientation, relaxed_sinkless}
use Rattle.re_problem.specs.NamedProblems.{OccursIn}
use Rattle.re_problem.specs.Problems.{IsProblem, Problem}
use Rattle.re_problem.specs.Steps.{IsRelaxed}
use Rattle.re_labels.specs.Constraints.{Has}

-- ---- an orientation
IsProblem-orientation : IsProblem orientation
IsProblem-orientation = record {
  active = record {
    least = omega arith;
    most = omega arith;
    configs = (
      record { count = refl; below = (omega arith, (omega arith, (omega arith, tt))); ascends = (omega arith, (omega arith, tt)) },
      (
        record { count = refl; below = (omega arith, (omega arith, (omega arith, tt))); ascends = (omega arith, (omega arith, tt)) },
        (
          record { count = refl; below = (omega arith, (omega arith, (omega arith, tt))); ascends = (omega arith, (omega arith, tt)) },
          (record { count = refl; below = (omega arith, (omega arith, (omega arith, tt))); ascends = (omega arith, (omega arith, tt)) }, tt),
        ),
      ),
    );
    ascends = (refl, (refl, (refl, tt)));
  };
  passive = record { least = omega arith; most = omega arith; configs = (record { count = refl; below = (omega arith, (omega arith, tt)); ascends = (omega arith, tt) }, tt); ascends = tt };
}

IsInput-orientation : IsInput orientation orientation
IsInput-orientation = record {
  is_problem = IsProblem-orientation;
  active_degree = refl;
  passive_degree = refl;
  some = omega arith;
  occurs = λ label l. (here label l, there label l);
}
  where
    there : (label : ℕ) → label < 2 → OccursIn orientation.passive label
    there zero l = (0 ∷ 1 ∷ [], (0, omega arith, refl), (0, omega arith, refl))
    there (suc zero) l = (0 ∷ 1 ∷ [], (0, omega arith, refl), (1, omega arith, refl))
    there (suc (suc label)) l = absurd (omega (arith, l))

    here : (label : ℕ) → label < 2 → OccursIn orientation.active label
    here zero l = (0 ∷ 0 ∷ 1 ∷ [], (1, omega arith, refl), (0, omega arith, refl))
    here (suc zero) l = (0 ∷ 0 ∷ 1 ∷ [], (1, omega arith, refl), (2, omega arith, refl))
    here (suc (suc label)) l = absurd (omega (arith, l))

pub orientation_given : SolvableGiven orientation orientation 0
orientation_given = SolvableGiven-itself orientation IsInput-orientation

-- ---- the relaxation of sinkless orientation
-- what it is derived twice
abbrev pub turned : Problem
turned = record {
  labels = 2;
  active = record { degree = 3; configs = (0 ∷ 1 ∷ 1 ∷ []) ∷ [] };
  passive = record { degree = 2; configs = (0 ∷ 1 ∷ []) ∷ (1 ∷ 1 ∷ []) ∷ [] };
}

-- with the labels exchanged it is the first problem
pub turn : ℕ → ℕ
turn zero = 1
turn (suc x) = 0

pub turned_relaxed : IsRelaxed turned relaxed_sinkless turn
unfolding turn
turned_relaxed = record {
  active_degree = refl;
  passive_degree = refl;
  active = λ config held. elim (Contains-cases config (0 ∷ 1 ∷ 1 ∷ []) [] held) [
    | inl e ↦ subst (λ (c : List ℕ). Has relaxed_sinkless.active (map turn c)) (sym e) (0, omega arith, refl)
    | inr none ↦ absurd (Contains-none config none)
  ];
  passive = λ config held. elim (Contains-cases config (0 ∷ 1 ∷ []) ((1 ∷ 1 ∷ []) ∷ []) held) [
    | inl e ↦ subst (λ (c : List ℕ). Has relaxed_sinkless.passive (map turn c)) (sym e) (1, omega arith, refl)
    | inr more ↦ elim (Contains-cases config (1 ∷ 1 ∷ []) [] more) [
      | inl e ↦ subst (λ (c : List ℕ). Has relaxed_sinkless.passive (map turn c)) (sym e) (0, omega arith, refl)
      | inr none ↦ absurd (Contains-none config none)
    ]
  ];
}

pub back_relaxed : IsRelaxed (derived_by 2 relaxed_sinkless) relaxed_sinkless turn
back_relaxed = subst (λ last. IsRelaxed last relaxed_sinkless turn) (sym relaxed_sinkless_twice) turned_relaxed

-- the labels of both colours that name an edge can't stand around it
coloured_not_given : (c : ℕ) → 2 ≤ c → ZeroGiven turned (colouring 3 2 c) → ⊥
coloured_not_given c two (sets, upper) =
    no_pair ((upper.good (0 ∷ 1 ∷ []) (colours_there 3 2 c (0 ∷ 1 ∷ []) refl ((omega arith, tt), (omega (arith, two), (omega (arith, two), tt))))).choice (0 ∷ 0 ∷ []) (zero_in 0 (omega (arith, two)), (zero_in 1 (omega (arith, two)), tt)))
  where
    no_pair : Has turned.passive (0 ∷ 0 ∷ []) → ⊥
    no_pair bad = elim (Contains-cases (0 ∷ 0 ∷ []) (0 ∷ 1 ∷ []) ((1 ∷ 1 ∷ []) ∷ []) bad) [
      | inl f ↦ cc
      | inr more ↦ elim (Contains-cases (0 ∷ 0 ∷ []) (1 ∷ 1 ∷ []) [] more) [ inl f ↦ cc | inr none ↦ Contains-none (0 ∷ 0 ∷ []) none ]
    ]

    drawn_from : (x k : ℕ) (labels : List ℕ) → IsChoice labels (map sets (replicate k x)) → Contains labels 0 → Contains (sets x) 0
    drawn_from x zero [] chosen at = absurd (Contains-none 0 at)
    drawn_from x zero (label ∷ labels) chosen at = absurd chosen
    drawn_from x (suc k) [] chosen at = absurd chosen
    drawn_from x (suc k) (label ∷ labels) chosen at = elim (Contains-cases 0 label labels at) [
      | inl e ↦ subst (Contains (sets x)) (sym e) chosen.0
      | inr later ↦ drawn_from x k labels chosen.1 later
    ]

    zero_in : (x : ℕ) → x < c → Contains (sets x) 0
    zero_in x l = active (upper.choice (x ∷ x ∷ x ∷ []) (colour_there 3 2 c x (omega arith) l))
      where
        active : (labels : List ℕ) × IsChoice labels (sets x ∷ sets x ∷ sets x ∷ []) × Has turned.active labels → Contains (sets x) 0
        active (labels, chosen, has) = drawn_from x 3 labels chosen (elim (Contains-cases (sorted labels) (0 ∷ 1 ∷ 1 ∷ []) [] has) [
          | inl e ↦ Contains-Rearranged 0 (Rearranged-sym (Rearranged-sorted labels)) (subst (λ (c : List ℕ). Contains c 0) (sym e) (0, omega arith, refl))
          | inr none ↦ absurd (Contains-none (sorted labels) none)
        ])

pub sinkless_coloured : (c T : ℕ) → 2 ≤ c → SolvableGiven relaxed_sinkless (colouring 3 2 c) T → ⊥
sinkless_coloured c T two h =
    fixed_point_given IsProblem-relaxed_sinkless (IsInput-colouring relaxed_sinkless c IsProblem-relaxed_sinkless two) chain.IsLowerChain.done two_steps back_relaxed
    (λ given. coloured_not_given c two (subst (λ last. ZeroGiven last (colouring 3 2 c)) relaxed_sinkless_twice given)) T h

-- ---- given a colouring of the edges
IsProblem-edge_colouring : IsProblem edge_colouring
IsProblem-edge_colouring = record {
  active = record { least = omega arith; most = omega arith; configs = (record { count = refl; below = (omega arith, (omega arith, (omega arith, tt))); ascends = (omega arith, (omega arith, tt)) }, tt); ascends = tt };
  passive = record {
    least = omega arith;
    most = omega arith;
    configs = (
      record { count = refl; below = (omega arith, (omega arith, tt)); ascends = (omega arith, tt) },
      (
        record { count = refl; below = (omega arith, (omega arith, tt)); ascends = (omega arith, tt) },
        (record { count = refl; below = (omega arith, (omega arith, tt)); ascends = (omega arith, tt) }, tt),
      ),
    );
    ascends = (refl, (refl, tt));
  };
}

-- an edge of each colour
edge_of : (x : ℕ) → x < 3 → Contains edge_colouring.passive.configs (x ∷ x ∷ [])
edge_of zero l = (0, omega arith, refl)
edge_of (suc zero) l = (1, omega arith, refl)
edge_of (suc (suc zero)) l = (2, omega arith, refl)
edge_of (suc (suc (suc x))) l = absurd (omega (arith, l))

IsInput-edge_colouring : IsInput relaxed_sinkless edge_colouring
IsInput-edge_colouring = record {
  is_problem = IsProblem-edge_colouring;
  active_degree = refl;
  passive_degree = refl;
  some = omega arith;
  occurs = λ label l. (here label l, (label ∷ label ∷ [], edge_of label l, (0, omega arith, refl)));
}
  where
    here : (label : ℕ) → label < 3 → OccursIn edge_colouring.active label
    here zero l = (0 ∷ 1 ∷ 2 ∷ [], (0, omega arith, refl), (0, omega arith, refl))
    here (suc zero) l = (0 ∷ 1 ∷ 2 ∷ [], (0, omega arith, refl), (1, omega arith, refl))
    here (suc (suc zero)) l = (0 ∷ 1 ∷ 2 ∷ [], (0, omega arith, refl), (2, omega arith, refl))
    here (suc (suc (suc label))) l = absurd (omega (arith, l))

-- no edge may be named at both ends, so that no label that names one goes with a colour
turned_not_given : ZeroGiven turned edge_colouring → ⊥
turned_not_given (sets, upper) = active (upper.choice (0 ∷ 1 ∷ 2 ∷ []) (0, omega arith, refl))
  where
    no_pair : Has turned.passive (0 ∷ 0 ∷ []) → ⊥
    no_pair bad = elim (Contains-cases (0 ∷ 0 ∷ []) (0 ∷ 1 ∷ []) ((1 ∷ 1 ∷ []) ∷ []) bad) [
      | inl f ↦ cc
      | inr more ↦ elim (Contains-cases (0 ∷ 0 ∷ []) (1 ∷ 1 ∷ []) [] more) [ inl f ↦ cc | inr none ↦ Contains-none (0 ∷ 0 ∷ []) none ]
    ]

    none_of : (x : ℕ) → x < 3 → Contains (sets x) 0 → ⊥
    none_of x l held = no_pair ((upper.good (x ∷ x ∷ []) (edge_of x l)).choice (0 ∷ 0 ∷ []) (held, (held, tt)))

    active : (labels : List ℕ) × IsChoice labels (sets 0 ∷ sets 1 ∷ sets 2 ∷ []) × Has turned.active labels → ⊥
    active (labels, chosen, has) = which labels chosen zero_in
      where
        zero_in : Contains labels 0
        zero_in = elim (Contains-cases (sorted labels) (0 ∷ 1 ∷ 1 ∷ []) [] has) [
          | inl e ↦ Contains-Rearranged 0 (Rearranged-sym (Rearranged-sorted labels)) (subst (λ (c : List ℕ). Contains c 0) (sym e) (0, omega arith, refl))
          | inr none ↦ absurd (Contains-none (sorted labels) none)
        ]

        which : (labels : List ℕ) → IsChoice labels (sets 0 ∷ sets 1 ∷ sets 2 ∷ []) → Contains labels 0 → ⊥
        which [] chosen at = chosen
        which (x ∷ []) chosen at = chosen.1
        which (x ∷ y ∷ []) chosen at = chosen.1.1
        which (x ∷ y ∷ z ∷ []) chosen at = elim (Contains-cases 0 x (y ∷ z ∷ []) at) [
          | inl e ↦ none_of 0 (omega arith) (subst (Contains (sets 0)) (sym e) chosen.0)
          | inr more ↦ elim (Contains-cases 0 y (z ∷ []) more) [
            | inl e ↦ none_of 1 (omega arith) (subst (Contains (sets 1)) (sym e) chosen.1.0)
            | inr last ↦ elim (Contains-cases 0 z [] last) [
              | inl e ↦ none_of 2 (omega arith) (subst (Contains (sets 2)) (sym e) chosen.1.1.0)
              | inr none ↦ Contains-none 0 none
            ]
          ]
        ]
        which (x ∷ y ∷ z ∷ w ∷ labels) chosen at = chosen.1.1.1

pub sinkless_edge_coloured : (T : ℕ) → SolvableGiven relaxed_sinkless edge_colouring T → ⊥
sinkless_edge_coloured T h =
    fixed_point_given IsProblem-relaxed_sinkless IsInput-edge_colouring chain.IsLowerChain.done two_steps back_relaxed
    (λ given. turned_not_given (subst (λ last. ZeroGiven last edge_colouring) relaxed_sinkless_twice given)) T h
