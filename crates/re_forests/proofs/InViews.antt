-- What an algorithm outputs at views is of the greatest trimmed set: each view of an active node is seen over each of its ports, and all views around
-- a node are views.
use Rattle.std.proofs.Common.{◌≡◌, ℕ, zero, suc, pred, ◌≤◌, Bool, true, false, List, length, ◌∙◌, subst, arith}
use Rattle.std.specs.Prelude.{Contains}
use Rattle.std.specs.List.{AllByRecursion, list_all}
use Rattle.std.proofs.lemmas.List.Elements.{Contains-get_or}
use Rattle.re_labels.specs.Configs.{sorted}
use Rattle.re_forests.proofs.Ports.{placed}
use Rattle.re_forests.proofs.Trimming.{around_stands, has_within, left_first, left_next, trimmed_set_trimmed}
use Rattle.re_forests.specs.Flexible.{side}
use Rattle.re_forests.specs.TrimmedSets.{held, left_after, stands, trimmed_problem, trimmed_set}
use Rattle.re_labels.proofs.Membership.{AllByRecursion-from_contains, Contains-count_from, Contains-filter_cases, Contains-map, Contains-map_cases, count_from_range}
use Rattle.re_labels.specs.Lists.{count_from}
use Rattle.re_laws.specs.Algorithms.{Plain, SolvesBy, answer, around, at_port, back_at}
use Rattle.re_problem.specs.Problems.{IsProblem, Problem}
use Rattle.re_labels.specs.Constraints.{Has}
use Rattle.re_forests.specs.TrimmedWithPorts.{NothingLeftLaw, TrimmedProblemLaw}
use Rattle.re_laws.proofs.JoinedBranches.{back-shift, backs-child}
use Rattle.re_laws.proofs.ViewLaws.{IsTree-full, IsView-pad, IsView-shift, child_of, cut-pad, shift-shift}
use Rattle.re_laws.specs.Trees.{IsView, full, pad, shift}
use Rattle.re_laws.proofs.Mapping.{count_of}

module _ (problem : Problem) (is : IsProblem problem) (T : ℕ) (algorithm : Plain → List ℕ) (solves : SolvesBy problem T algorithm) where
  abbrev a : ℕ
  a = problem.active.degree

  abbrev p : ℕ
  p = problem.passive.degree

  -- a passive node sees v over one of its ports, and has port i there
  record IsSeen (v : Plain) (i : ℕ) : Type 0 where
    by : Plain
    is_view : IsView p a (suc T) by
    port : ℕ
    least : 1 ≤ port
    most : port ≤ p
    shown : shift T by port ≡ v
    back : back_at by port ≡ i

  seen : (v : Plain) (i : ℕ) → IsView a p T v → 1 ≤ i → i ≤ a → IsSeen v i
  seen v i is_v low high =
      let big : Plain = pad a p (suc (suc T)) tt v in
      let some : 1 ≤ a = omega (arith, low, high) in
      let some' : 1 ≤ p = let two = is.passive.least in omega (arith, two) in
      let wide : IsView a p (suc (suc T)) big = IsView-pad a p T (suc (suc T)) tt v some some' is_v (omega arith) in
      let (c, at, child) = child_of a p (suc T) a big wide (pred i) (omega (arith, low, high)) in
      record {
        by = shift (suc T) big i;
        is_view = IsView-shift a p (suc T) big i c wide low high at child;
        port = c.back;
        least = child.least;
        most = child.most;
        shown = shift-shift a p T big i c wide at child ∙ cut-pad a p T (suc (suc T)) tt v is_v (omega arith);
        back = back-shift a p T big i c at child;
      }

  -- the views around a passive node
  beside : (w : Plain) (q : ℕ) → IsView p a (suc T) w → 1 ≤ q → q ≤ p → IsView a p T (shift T w q) × (1 ≤ back_at w q) × (back_at w q ≤ a)
  beside w q is_w low high =
      let (c, at, child) = child_of p a T p w is_w (pred q) (omega (arith, low, high)) in
      let same : back_at w q ≡ c.back = backs-child (pred q) c w at in
      let least = child.least in
      let most = child.most in
      (IsView-shift p a T w q c is_w low high at child, omega (arith, same, least), omega (arith, same, most))

  has_active : (v : Plain) → IsView a p T v → Has problem.active (algorithm v)
  has_active v is_v = solves.active v is_v

  size : (v : Plain) → IsView a p T v → length (algorithm v) ≡ a
  size v is_v = count_of problem.labels problem.active (algorithm v) is.active (has_active v is_v)

  member : (v : Plain) (i : ℕ) → IsView a p T v → 1 ≤ i → i ≤ a → Contains (algorithm v) (at_port (algorithm v) i)
  member v i is_v low high = Contains-get_or (algorithm v) (pred i) 0 (let count = size v is_v in omega (arith, count, low, high))

  -- where the labels at all ports of views are of a set, so are those around nodes
  module _ (set : List ℕ) (each : (v : Plain) (i : ℕ) → IsView a p T v → 1 ≤ i → i ≤ a → Contains set (at_port (algorithm v) i)) where
    all_active : (v : Plain) → IsView a p T v → AllByRecursion (Contains set) (algorithm v)
    all_active v is_v = AllByRecursion-from_contains (Contains set) (algorithm v) (λ y on.
        let (k, low, e) = placed (algorithm v) y on in
        let count = size v is_v in
        subst (Contains set) e (each v (suc k) is_v (omega arith) (omega (arith, count, low))))

    all_passive : (w : Plain) → IsView p a (suc T) w → AllByRecursion (Contains set) (around p T algorithm w)
    all_passive w is_w = AllByRecursion-from_contains (Contains set) (around p T algorithm w) (λ y on.
        let (q, there, e) = Contains-map_cases (λ port. at_port (algorithm (shift T w port)) (back_at w port)) (count_from 1 p) y on in
        let (low, high) = count_from_range 1 p q there in
        let (is_v, least, most) = beside w q is_w low (omega (arith, high)) in
        subst (Contains set) e (each (shift T w q) (back_at w q) is_v least most))

  left : (r : ℕ) (v : Plain) (i : ℕ) → IsView a p T v → 1 ≤ i → i ≤ a → Contains (left_after problem r) (at_port (algorithm v) i)
  left zero v i is_v low high = left_first problem is true (algorithm v) (at_port (algorithm v) i) (has_active v is_v) (member v i is_v low high)
  left (suc r) v i is_v low high = next (λ u j is_u l h. left r u j is_u l h)
    where
      next : ((u : Plain) (j : ℕ) → IsView a p T u → 1 ≤ j → j ≤ a → Contains (left_after problem r) (at_port (algorithm u) j))
          → Contains (left_after problem (suc r)) (at_port (algorithm v) i)
      next before = left_next problem is r (at_port (algorithm v) i) (before v i is_v low high) sides
        where
          sides : (active : Bool) → stands (side problem active) (left_after problem r) (at_port (algorithm v) i) ≡ true
          sides true =
              around_stands problem.active (left_after problem r) (algorithm v) (at_port (algorithm v) i) (has_active v is_v)
              (all_active (left_after problem r) before v is_v) (member v i is_v low high)
          sides false =
              let s : IsSeen v i = seen v i is_v low high in
              let held : Contains (around p T algorithm s.by) (at_port (algorithm (shift T s.by s.port)) (back_at s.by s.port)) =
              Contains-map (λ port. at_port (algorithm (shift T s.by port)) (back_at s.by port)) (count_from 1 p) s.port
              (Contains-count_from 1 p s.port s.least (let most = s.most in omega (arith, most))) in
              let there : Contains (around p T algorithm s.by) (at_port (algorithm v) i) =
              subst (λ j. Contains (around p T algorithm s.by) (at_port (algorithm v) j)) s.back
              (subst (λ u. Contains (around p T algorithm s.by) (at_port (algorithm u) (back_at s.by s.port))) s.shown held) in
              around_stands problem.passive (left_after problem r) (around p T algorithm s.by) (at_port (algorithm v) i) (solves.passive s.by s.is_view)
              (all_passive (left_after problem r) before s.by s.is_view) there

  at_last : (v : Plain) (i : ℕ) → IsView a p T v → 1 ≤ i → i ≤ a → Contains (trimmed_set problem) (at_port (algorithm v) i)
  at_last v i is_v low high = left (suc problem.labels) v i is_v low high

  pub trimmed_solves : SolvesBy (trimmed_problem problem) T algorithm
  trimmed_solves = record {
    active = λ v is_v. has_within (trimmed_set problem) problem.active (algorithm v) (solves.active v is_v) (all_active (trimmed_set problem) at_last v is_v);
    passive = λ w is_w. has_within (trimmed_set problem) problem.passive (around p T algorithm w) (solves.passive w is_w) (all_passive (trimmed_set problem) at_last w is_w);
  }

  pub found : (x : ℕ) × Contains (trimmed_set problem) x
  found =
      let two = is.active.least in
      let two' = is.passive.least in (
        at_port (algorithm (full a p T a tt)) 1,
        at_last (full a p T a tt) 1 (IsTree-full a p T a tt (omega (arith, two)) (omega (arith, two'))) (omega arith) (omega (arith, two)),
      )

-- fewer configurations make it no easier
loosened : (problem : Problem) (T : ℕ) (algorithm : Plain → List ℕ) → SolvesBy (trimmed_problem problem) T algorithm → SolvesBy problem T algorithm
loosened problem T algorithm solves = record {
  active = λ v is_v. (Contains-filter_cases (list_all (held (trimmed_set problem))) problem.active.configs (sorted (algorithm v)) (solves.active v is_v)).0;
  passive = λ w is_w. (Contains-filter_cases (list_all (held (trimmed_set problem))) problem.passive.configs
      (sorted (around problem.passive.degree T algorithm w)) (solves.passive w is_w)).0;
}

pub trimmed_problem_law : TrimmedProblemLaw
trimmed_problem_law problem T is = (
  λ (table, solved). (table, record { entries = solved.entries; solves = trimmed_solves problem is T (answer table) solved.solves }),
  λ (table, solved). (table, record { entries = solved.entries; solves = loosened problem T (answer table) solved.solves }),
)

pub never : NothingLeftLaw
never problem T is none (table, solved) =
    let (x, on) = found problem is T (answer table) solved.solves in
    none (trimmed_set problem) x (trimmed_set_trimmed problem is) on
