-- What makes a problem with names.
use Rattle.std.proofs.Common.{◌≡◌, ℕ, ◌<◌, Bool, true, false, cond, List, [], length, map, get_or, None, Some, refl, sym, subst, arith, inl, inr}
use Rattle.std.specs.Prelude.{◌&&◌, ◌||◌}
use Rattle.re_labels.proofs.LeastLabels.{length-set}
use Rattle.re_labels.proofs.Membership.{AllByRecursion-In, AllByRecursion-from_In, In-map_from, all-In, length-map'}
use Rattle.re_labels.proofs.Tests.{or-true}
use Rattle.re_labels.specs.Lists.{count_from}
use Rattle.re_labels.specs.Names.{IsName, IsNames}
use Rattle.re_labels.specs.Sets.{IsLabelSet}
use Rattle.re_problem.proofs.Building.{occurs-fact}
use Rattle.re_problem.proofs.NewNumbers.{named_in}
use Rattle.re_problem.specs.NamedProblems.{IsNamedProblem, NamedProblem, all_occur, are_named, built, occurs, unnamed}
use Rattle.re_problem.specs.Problems.{IsProblem}
use Rattle.re_changes.proofs.Numbering.{rising-names}
use Rattle.re_changes.proofs.OneChange.{counted-below}

-- each label occurs where three make a problem
all-occur : (named : NamedProblem) → built named.names named.active named.passive ≡ Some named → all_occur (length named.names) named.active named.passive ≡ true
all-occur named is = go (are_named (length named.names) named.active) (are_named (length named.names) named.passive) (all_occur (length named.names) named.active named.passive) is
  where
    go : (a b c : Bool) → cond (a && b && c) (Some named) None ≡ Some named → c ≡ true
    go true true true e = refl
    go true true false e = cc
    go true false c e = cc
    go false b c e = cc

pub IsNamed-built : (named : NamedProblem) → IsNames named.names → IsProblem (unnamed named) → built named.names named.active named.passive ≡ Some named → IsNamedProblem named
IsNamed-built named names problem is = record {
  names = names;
  problem = problem;
  occur = λ label below.
      elim (or-true (occurs named.active label) (occurs named.passive label)
      (all-In (λ label. occurs named.active label || occurs named.passive label) (count_from 0 (length named.names)) (all-occur named is) label (counted-below (length named.names) label below))) [
        | inl h ↦ inl (occurs-fact named.active label h)
        | inr h ↦ inr (occurs-fact named.passive label h)
      ];
}

-- the names of labels that stay are names
pub IsNames-kept : (names : List (List ℕ)) (stay : List ℕ) → IsNames names → IsLabelSet (length names) stay → IsNames (map (λ label. get_or names label []) stay)
IsNames-kept names stay is set = record {
  ascends = rising-names names stay is.ascends set;
  each = AllByRecursion-from_In IsName (map (λ label. get_or names label []) stay) (λ name i.
      let (label, j, e) = In-map_from (λ label. get_or names label []) name stay i in
      subst IsName (sym e) (AllByRecursion-In IsName names (get_or names label []) is.each (named_in names label (AllByRecursion-In (λ x. x < length names) stay label set.1 j))));
  few = let c = length-map' (λ label. get_or names label []) stay in let l = length-set (length names) stay set in let f = is.few in omega arith;
}
