-- What is solvable is solvable given an input problem, and given one that says nothing no more is.
use Rattle.std.proofs.Common.{◌≡◌, ℕ, zero, suc, pred, ◌+◌, ◌≤◌, ◌<◌, Some, List, [], ◌∷◌, subst, refl, sym, ◌∙◌, ap, arith, one-add}
use Rattle.std.specs.Prelude.{Contains, replicate}
use Rattle.std.proofs.lemmas.List.{get_or-replicate, length-replicate}
use Rattle.re_labels.proofs.NextMultisets.{below-replicate}
use Rattle.re_labels.specs.Configs.{IsConfig}
use Rattle.re_labels.proofs.Membership.{Contains-here}
use Rattle.re_labels.specs.Lists.{IsRising}
use Rattle.re_labels.proofs.Sorting.{sorted_again}
use Rattle.re_given.proofs.GivenTables.{SolvableGiven-by}
use Rattle.re_given.proofs.Relabelled.{IsTree-relabelled, backs-cut, backs-relabelled, child_at-relabelled, relabelled, relabelled_child, relabelled-shift}
use Rattle.re_given.specs.Given.{SolvableGiven, SolvesGivenBy, answer_known, around_known}
use Rattle.re_given.specs.InputViews.{Fits, FitsAround, InputView, known}
use Rattle.re_given.specs.Inputs.{IsInput, nothing}
use Rattle.re_laws.proofs.Ports.{map-count}
use Rattle.re_laws.specs.Algorithms.{Plain, Solvable, SolvesBy, answer, around, at_port, back_at}
use Rattle.re_laws.proofs.Tables.{Solvable-by}
use Rattle.re_problem.specs.NamedProblems.{OccursIn}
use Rattle.re_problem.specs.Problems.{IsProblem, Problem}
use Rattle.re_labels.specs.Constraints.{Constraint, Has, IsConstraint}
use Rattle.re_laws.proofs.ViewLaws.{IsChild, IsTree-cut, IsView-shift, IsView-pad, child_of, cut-pad, shift-cut}
use Rattle.re_laws.specs.Trees.{Child, IsTree, IsView, backs, child_at, cut, end, leaf, more, pad, shift}

-- ---- an algorithm that takes no notice of the input labels
-- the view without its input labels
abbrev pub plain : InputView → Plain
plain v = relabelled (λ _. tt) v

plain-known : (T : ℕ) (x : InputView) → cut T (plain (known T x)) ≡ cut T (plain x)
plain-known zero x = refl
plain-known (suc T) leaf = refl
plain-known (suc T) end = refl
plain-known (suc T) (more back label branch rest) =
    let here : cut T (plain (known T branch)) ≡ cut T (plain branch) = plain-known T branch in
    let there : cut (suc T) (plain (known (suc T) rest)) ≡ cut (suc T) (plain rest) = plain-known (suc T) rest in
    cc

pub SolvesGivenBy-plain : (problem input : Problem) (T : ℕ) (f : Plain → List ℕ) → SolvesBy problem T f → SolvesGivenBy problem input T (λ k. f (cut T (plain k)))
SolvesGivenBy-plain problem input T f solves = record {
  active = λ v is fits. rw (plain-known T v) (solves.active (cut T (plain v)) (IsTree-cut problem.active.degree problem.passive.degree (suc T) T problem.active.degree (plain v) (IsTree-relabelled (λ _. tt) problem.active.degree problem.passive.degree (suc T) problem.active.degree v is) (omega arith)));
  passive = λ v is fits.
      let view : IsView problem.passive.degree problem.active.degree (suc (suc T)) (plain v) = IsTree-relabelled (λ _. tt) problem.passive.degree problem.active.degree (suc (suc T)) problem.passive.degree v is in
      rw (around_is v is) (solves.passive (cut (suc T) (plain v)) (IsTree-cut problem.passive.degree problem.active.degree (suc (suc T)) (suc T) problem.passive.degree (plain v) view (omega arith)));
}
  where
    around_is : (v : InputView) → IsView problem.passive.degree problem.active.degree (suc (suc T)) v → around_known problem.passive.degree T (λ k. f (cut T (plain k))) v ≡ around problem.passive.degree T f (cut (suc T) (plain v))
    around_is v is = map-count (λ port. at_port (f (cut T (plain (known T (shift (suc T) v port))))) (at_port (backs v) port)) (λ port. at_port (f (shift T (cut (suc T) (plain v)) port)) (back_at (cut (suc T) (plain v)) port)) 1 problem.passive.degree
        (λ k l. rw one-add (each k l (child_of problem.passive.degree problem.active.degree (suc T) problem.passive.degree v is k l)))
      where
        each : (k : ℕ) → k < problem.passive.degree → (c : Child ℕ) × (child_at k v ≡ Some c) × IsChild problem.active.degree problem.passive.degree (suc T) c
            → at_port (f (cut T (plain (known T (shift (suc T) v (suc k)))))) (at_port (backs v) (suc k)) ≡ at_port (f (shift T (cut (suc T) (plain v)) (suc k))) (back_at (cut (suc T) (plain v)) (suc k))
        each k l (c, at, child) =
            let view_is : cut T (plain (known T (shift (suc T) v (suc k)))) ≡ shift T (cut (suc T) (plain v)) (suc k) =
            plain-known T (shift (suc T) v (suc k)) ∙ (ap (cut T) (relabelled-shift (λ _. tt) (suc T) v (suc k) c at) ∙ sym (shift-cut (suc T) T (plain v) (suc k) (relabelled_child (λ _. tt) c) (omega arith) (child_at-relabelled (λ _. tt) k c v at))) in
            let backs_is : backs (cut (suc T) (plain v)) ≡ backs v = backs-cut T (plain v) ∙ backs-relabelled (λ _. tt) v in
            rw (view_is, backs_is) refl

pub SolvableGiven-ungiven : (problem input : Problem) (T : ℕ) → IsInput problem input → Solvable problem T → SolvableGiven problem input T
SolvableGiven-ungiven problem input T is (table, solves) = SolvableGiven-by problem input T (λ k. answer table (cut T (plain k))) is (SolvesGivenBy-plain problem input T (answer table) solves.solves)

-- ---- an input that says nothing
-- the view with the one label on each edge
abbrev pub labelled : Plain → InputView
labelled v = relabelled (λ _. 0) v

-- where as many of the one label as there are edges are the configuration, they fit
FitsAround-labelled : (own other : Constraint) (d e t n m : ℕ) (x : Plain) → Has own (replicate d 0) → Has other (replicate e 0) → 1 ≤ d → 1 ≤ e → n + m ≡ d → IsTree d e t n x → FitsAround own other (replicate m 0) (labelled x)
FitsAround-labelled own other d e zero n m leaf has has' some some' count h = tt
FitsAround-labelled own other d e (suc t) n m leaf has has' some some' count h = tt
FitsAround-labelled own other d e zero n m end has has' some some' count h = absurd h
FitsAround-labelled own other d e (suc t) zero m end has has' some some' count h = let all : m ≡ d = omega arith in rw all has
FitsAround-labelled own other d e (suc t) (suc n) m end has has' some some' count h = absurd h
FitsAround-labelled own other d e zero n m (more back payload branch rest) has has' some some' count h = absurd h
FitsAround-labelled own other d e (suc t) zero m (more back payload branch rest) has has' some some' count h = absurd h
FitsAround-labelled own other d e (suc t) (suc n) m (more back payload branch rest) has has' some some' count h = (
  FitsAround-labelled other own e d t (pred e) 1 branch has' has some' some (omega arith) h.2,
  FitsAround-labelled own other d e (suc t) n (suc m) rest has has' some some' (omega arith) h.3,
)

-- views that are alike but for their last layer are known alike where they are labelled
same_known : (d e t n : ℕ) (x y : Plain) → IsTree d e (suc t) n x → IsTree d e (suc t) n y → cut t x ≡ cut t y → known t (labelled x) ≡ known t (labelled y)
same_known d e t n leaf y h h' same = absurd h
same_known d e t n x leaf h h' same = absurd h'
same_known d e t zero end end h h' same = refl
same_known d e t (suc n) end y h h' same = absurd h
same_known d e t (suc n) x end h h' same = absurd h'
same_known d e t zero (more back payload branch rest) y h h' same = absurd h
same_known d e t zero x (more back payload branch rest) h h' same = absurd h'
same_known d e zero (suc n) (more back payload branch rest) (more back' payload' branch' rest') h h' same =
    ap (more 0 0 leaf) (same_known d e zero n rest rest' h.3 h'.3 refl)
same_known d e (suc t) (suc n) (more back payload branch rest) (more back' payload' branch' rest') h h' same =
    let at_back : back ≡ back' = cc in
    let at_branch : cut t branch ≡ cut t branch' = cc in
    let at_rest : cut (suc t) rest ≡ cut (suc t) rest' = cc in
    let here : known t (labelled branch) ≡ known t (labelled branch') = same_known e d t (pred e) branch branch' h.2 h'.2 at_branch in
    let there : known (suc t) (labelled rest) ≡ known (suc t) (labelled rest') = same_known d e (suc t) n rest rest' h.3 h'.3 at_rest in
    rw (at_back, here, there) refl

Has-alone : (n : ℕ) → Has (record { degree = n; configs = replicate n 0 ∷ [] }) (replicate n 0)
Has-alone n = (0, omega arith, sym (sorted_again (replicate n 0) (rises n)))
  where
    rises : (n : ℕ) → IsRising (λ x y. x ≤ y) (replicate n 0)
    rises zero = tt
    rises (suc zero) = tt
    rises (suc (suc n)) = (omega arith, rises (suc n))

module _ (problem : Problem) (is : IsProblem problem) (T : ℕ) (f : InputView → List ℕ) (solves : SolvesGivenBy problem (nothing problem) T f) where
  active_some : 1 ≤ problem.active.degree
  active_some = let l = is.active.least in omega arith

  passive_some : 1 ≤ problem.passive.degree
  passive_some = let l = is.passive.least in omega arith

  active_fits : (radius : ℕ) (v : Plain) → IsView problem.active.degree problem.passive.degree radius v → Fits (nothing problem).active (nothing problem).passive (labelled v)
  active_fits radius v = FitsAround-labelled (nothing problem).active (nothing problem).passive problem.active.degree problem.passive.degree radius problem.active.degree 0 v (Has-alone problem.active.degree) (Has-alone problem.passive.degree) active_some passive_some (omega arith)

  passive_fits : (radius : ℕ) (v : Plain) → IsView problem.passive.degree problem.active.degree radius v → Fits (nothing problem).passive (nothing problem).active (labelled v)
  passive_fits radius v = FitsAround-labelled (nothing problem).passive (nothing problem).active problem.passive.degree problem.active.degree radius problem.passive.degree 0 v (Has-alone problem.passive.degree) (Has-alone problem.active.degree) passive_some active_some (omega arith)

  -- the view with one more layer of edges
  abbrev deeper : Plain → Plain
  deeper v = pad problem.active.degree problem.passive.degree (suc T) tt v

  -- what the algorithm gives where nothing is given
  abbrev bare : Plain → List ℕ
  bare v = f (known T (labelled (deeper v)))

  deeper_is : (v : Plain) → IsView problem.active.degree problem.passive.degree T v → IsView problem.active.degree problem.passive.degree (suc T) (deeper v) × (cut T (deeper v) ≡ v)
  deeper_is v view = (IsView-pad problem.active.degree problem.passive.degree T (suc T) tt v active_some passive_some view (omega arith), cut-pad problem.active.degree problem.passive.degree T (suc T) tt v view (omega arith))

  bare_active : (v : Plain) → IsView problem.active.degree problem.passive.degree T v → Has problem.active (bare v)
  bare_active v view =
      let (there, same) = deeper_is v view in
      solves.active (labelled (deeper v)) (IsTree-relabelled (λ _. 0) problem.active.degree problem.passive.degree (suc T) problem.active.degree (deeper v) there) (active_fits (suc T) (deeper v) there)

  bare_passive : (v : Plain) → IsView problem.passive.degree problem.active.degree (suc T) v → Has problem.passive (around problem.passive.degree T bare v)
  bare_passive v view = subst (Has problem.passive) shown (solves.passive (labelled s) (IsTree-relabelled (λ _. 0) problem.passive.degree problem.active.degree (suc (suc T)) problem.passive.degree s s_view) (passive_fits (suc (suc T)) s s_view))
    where
      s : Plain
      s = pad problem.passive.degree problem.active.degree (suc (suc T)) tt v

      s_view : IsView problem.passive.degree problem.active.degree (suc (suc T)) s
      s_view = IsView-pad problem.passive.degree problem.active.degree (suc T) (suc (suc T)) tt v passive_some active_some view (omega arith)

      s_cut : cut (suc T) s ≡ v
      s_cut = cut-pad problem.passive.degree problem.active.degree (suc T) (suc (suc T)) tt v view (omega arith)

      backs_same : backs (labelled s) ≡ backs v
      backs_same = backs-relabelled (λ _. 0) s ∙ (sym (backs-cut T s) ∙ ap backs s_cut)

      shown : around_known problem.passive.degree T f (labelled s) ≡ around problem.passive.degree T bare v
      shown = map-count (λ port. at_port (f (known T (shift (suc T) (labelled s) port))) (at_port (backs (labelled s)) port)) (λ port. at_port (bare (shift T v port)) (back_at v port)) 1 problem.passive.degree
          (λ k l. rw one-add (each k l (child_of problem.passive.degree problem.active.degree (suc T) problem.passive.degree s s_view k l)))
        where
          each : (k : ℕ) → k < problem.passive.degree → (c : Child (Unit {0})) × (child_at k s ≡ Some c) × IsChild problem.active.degree problem.passive.degree (suc T) c
              → at_port (f (known T (shift (suc T) (labelled s) (suc k)))) (at_port (backs (labelled s)) (suc k)) ≡ at_port (bare (shift T v (suc k))) (back_at v (suc k))
          each k l (c, at, child) =
              let u : Plain = shift (suc T) s (suc k) in
              let u_view : IsView problem.active.degree problem.passive.degree (suc T) u = IsView-shift problem.passive.degree problem.active.degree (suc T) s (suc k) c s_view (omega arith) (omega arith) at child in
              let seen : cut T u ≡ shift T v (suc k) = sym (shift-cut (suc T) T s (suc k) c (omega arith) at) ∙ ap (λ w. shift T w (suc k)) s_cut in
              let near_view : IsView problem.active.degree problem.passive.degree T (shift T v (suc k)) = subst (IsView problem.active.degree problem.passive.degree T) seen (IsTree-cut problem.active.degree problem.passive.degree (suc T) T problem.active.degree u u_view (omega arith)) in
              let (there, cut_is) = deeper_is (shift T v (suc k)) near_view in
              let alike : known T (labelled u) ≡ known T (labelled (deeper (shift T v (suc k)))) =
              same_known problem.active.degree problem.passive.degree T problem.active.degree u (deeper (shift T v (suc k))) u_view there (seen ∙ sym cut_is) in
              let turned : known T (shift (suc T) (labelled s) (suc k)) ≡ known T (labelled (deeper (shift T v (suc k)))) = ap (known T) (sym (relabelled-shift (λ _. 0) (suc T) s (suc k) c at)) ∙ alike in
              rw (turned, backs_same) refl

  pub SolvesBy-nothing : SolvesBy problem T bare
  SolvesBy-nothing = record { active = bare_active; passive = bare_passive }

pub Solvable-nothing : (problem : Problem) (T : ℕ) → IsProblem problem → SolvableGiven problem (nothing problem) T → Solvable problem T
Solvable-nothing problem T is (table, solves) = Solvable-by problem T (bare problem is T (answer_known table) solves.solves) (SolvesBy-nothing problem is T (answer_known table) solves.solves)

-- it is an input problem
pub IsInput-nothing : (problem : Problem) → IsProblem problem → IsInput problem (nothing problem)
IsInput-nothing problem is = record {
  is_problem = record { active = constraint_is problem.active.degree is.active.least is.active.most; passive = constraint_is problem.passive.degree is.passive.least is.passive.most };
  active_degree = refl;
  passive_degree = refl;
  some = omega arith;
  occurs = λ label l. (there problem.active.degree label l (let low = is.active.least in omega arith), there problem.passive.degree label l (let low = is.passive.least in omega arith));
}
  where
    config_is : (n : ℕ) → IsConfig n 1 (replicate n 0)
    config_is n = record { count = length-replicate {A = ℕ} n 0; below = below-replicate n 0 1 (omega arith); ascends = rises n }
      where
        rises : (n : ℕ) → IsRising (λ x y. x ≤ y) (replicate n 0)
        rises zero = tt
        rises (suc zero) = tt
        rises (suc (suc n)) = (omega arith, rises (suc n))

    constraint_is : (n : ℕ) → 2 ≤ n → n ≤ 6 → IsConstraint 1 (record { degree = n; configs = replicate n 0 ∷ [] })
    constraint_is n low high = record { least = low; most = high; configs = (config_is n, tt); ascends = tt }

    there : (n label : ℕ) → label < 1 → 1 ≤ n → OccursIn (record { degree = n; configs = replicate n 0 ∷ [] }) label
    there n label l some =
        (replicate n 0, Contains-here (replicate n 0) [], (0, omega (arith, length-replicate {A = ℕ} n 0), get_or-replicate n 0 0 label (omega arith) ∙ (let is_zero : 0 ≡ label = omega arith in is_zero)))
