-- All closures of a problem have one certificate, and one answer.
use Rattle.std.proofs.Common.{◌≡◌, ℕ, suc, ◌<◌, Bool, List, [], ◌∷◌, ◌++◌, length, map, None, Some, refl, sym, ap, ◌∙◌, subst, ◌⊎◌, inl, inr, arith}
use Rattle.std.specs.Prelude.{slice_index_or}
use Rattle.re_labels.specs.Rows.{placed}
use Rattle.re_labels.proofs.Membership.{Contains-In, In, In-Contains}
use Rattle.re_labels.proofs.Rising.{same_members}
use Rattle.re_labels.specs.Lists.{count_from, place_of}
use Rattle.re_labels.specs.Sets.{number}
use Rattle.re_labels.specs.Constraints.{Constraint}
use Rattle.re_labels.specs.GoodRows.{max_rows, max_sets}
use Rattle.re_problem.specs.NamedProblems.{NamedProblem, unnamed}
use Rattle.re_problem.specs.Problems.{IsProblem, Problem}
use Rattle.re_problem.specs.Steps.{SetEntry}
use Rattle.re_problem.specs.Zero.{zero_place}
use Rattle.re_cert.specs.Bounds.{Bound, BoundStep, has_row_maps, last_problem}
use Rattle.re_cert.specs.declared.certificate.Kind.TheVariants.{Fixed}
use Rattle.re_chains.specs.OverChains.{certificate_outcome}
use Rattle.re_step.specs.LabelNames.{label_names}
use Rattle.re_closure_laws.proofs.Generated.{active_first, passive_first}
use Rattle.re_closure_laws.proofs.Unique.{closure_unique_law, occurs_too}
use Rattle.re_closure_laws.specs.Closures.{AreClosure, AreTopmost, down_lines, up_lines}
use Rattle.re_closure_laws.specs.Lines.{Family, below, entries_within, labels_within, others, problem_of, topmost}
use Rattle.re_closure.specs.Closures.{HasRoom, IsClosed, IsSolvableBy, LimitIs}
use Rattle.re_closure.specs.Limits.{IsSmallClosure, PassesLimit}
use Rattle.re_closure.specs.Sides.{bound_by, closed_bound, entries_by, first_step, in_form, named_of, step_to}
use Rattle.re_closure.specs.declared.types.ClosureLimit.{ClosureLimit}
use Rattle.re_closure.specs.declared.types.ClosureLimit.TheVariants.{Combinations, Configurations, Labels, Rows, Steps}
use Rattle.re_frame.specs.Outcomes.{Outcome, limit, refused}
use Rattle.re_closure.specs.ClosureWords.{closure_line, limit_line}
use Rattle.re_closure.specs.Laws.{IsOnWay, IsWayLine, OneOutcomeLaw}

module _ (problem : Problem) (a p b q : Family) (is : IsProblem problem) (one : AreClosure problem a p) (two : AreClosure problem b q) where
  a_top : AreTopmost problem.active.degree (down_lines problem) a.lines
  a_top = subst (λ d. AreTopmost d (down_lines problem) a.lines) one.active_degree one.active_lines

  b_top : AreTopmost problem.active.degree (down_lines problem) b.lines
  b_top = subst (λ d. AreTopmost d (down_lines problem) b.lines) two.active_degree two.active_lines

  p_top : AreTopmost problem.passive.degree (up_lines problem) p.lines
  p_top = subst (λ d. AreTopmost d (up_lines problem) p.lines) one.passive_degree one.passive_lines

  q_top : AreTopmost problem.passive.degree (up_lines problem) q.lines
  q_top = subst (λ d. AreTopmost d (up_lines problem) q.lines) two.passive_degree two.passive_lines

  to_q : (set : List ℕ) → In set p.sets → In set q.sets
  to_q set i = Contains-In set q.sets ((two.sets set).1 (elim ((one.sets set).0 (In-Contains set p.sets i)) [
    | inl h ↦ inl (occurs_too problem.labels problem.passive.degree (up_lines problem) p.lines q.lines (passive_first problem is) p_top q_top set h)
    | inr h ↦ inr (h.0, occurs_too problem.labels problem.active.degree (down_lines problem) a.lines b.lines (active_first problem is) a_top b_top h.0 h.1, h.2)
  ]))

  to_p : (set : List ℕ) → In set q.sets → In set p.sets
  to_p set i = Contains-In set p.sets ((one.sets set).1 (elim ((two.sets set).0 (In-Contains set q.sets i)) [
    | inl h ↦ inl (occurs_too problem.labels problem.passive.degree (up_lines problem) q.lines p.lines (passive_first problem is) q_top p_top set h)
    | inr h ↦ inr (h.0, occurs_too problem.labels problem.active.degree (down_lines problem) b.lines a.lines (active_first problem is) b_top a_top h.0 h.1, h.2)
  ]))

  pub one_sets : p.sets ≡ q.sets
  one_sets = same_members (λ s t. number s < number t) (λ s t u h k. omega (arith, h, k)) (λ s h. absurd (omega (arith, h))) p.sets q.sets one.ascends two.ascends to_q to_p

  other_sets : a.sets ≡ b.sets
  other_sets = one.opposite ∙ ap (map (others problem.labels)) one_sets ∙ sym two.opposite

  pub out_is : problem_of a p ≡ problem_of b q
  out_is = (closure_unique_law problem a p b q is one two).0

  between_is : problem_of p a ≡ problem_of q b
  between_is = (closure_unique_law problem a p b q is one two).1

  pub top_a : topmost a ≡ topmost b
  top_a = ap (λ (r : Problem). r.active) out_is

  top_p : topmost p ≡ topmost q
  top_p = ap (λ (r : Problem). r.active) between_is

  pub below_p : below p ≡ below q
  below_p = ap (λ (r : Problem). r.passive) out_is

  pub below_a : below a ≡ below b
  below_a = ap (λ (r : Problem). r.passive) between_is

  closed_named : named_of a p ≡ named_of b q
  closed_named = λ i. record { names = label_names (length (one_sets i)); active = top_a i; passive = below_p i }

  pub between_named : named_of p a ≡ named_of q b
  between_named = λ i. record { names = label_names (length (other_sets i)); active = top_p i; passive = below_a i }

  abbrev within_entries : Constraint → List (List ℕ) → List SetEntry
  within_entries K sets = entries_by (place_of (map (labels_within sets) sets)) (max_sets K (length sets))

  entries_a : entries_within a ≡ entries_within b
  entries_a = λ i. within_entries (below_a i) (other_sets i)

  entries_p : entries_within p ≡ entries_within q
  entries_p = λ i. within_entries (below_p i) (one_sets i)

  -- the bound by a step and the steps to the closure and back
  pub same_bound : (r : Bool) (chain : Bound) (one_step two_step : BoundStep) → one_step ≡ two_step → bound_by r chain one_step a p ≡ bound_by r chain two_step b q
  same_bound r chain one_step two_step same = λ i. record {
    kind = Fixed;
    back = suc (length chain.steps);
    first = chain.first;
    steps = chain.steps ++ same i ∷ in_form r (step_to (closed_named i) (max_rows (below_a i) (length (other_sets i))) (entries_a i))
        ∷ in_form r (step_to (between_named i) (max_rows (below_p i) (length (one_sets i))) (entries_p i)) ∷ [];
    renaming = map (λ label. (label, label)) (count_from 0 (length (other_sets i)));
  }

module _ (chain : Bound) (a p b q : Family) (is : IsProblem (unnamed (last_problem chain))) (one : AreClosure (unnamed (last_problem chain)) a p) (two : AreClosure (unnamed (last_problem chain)) b q) where
  abbrev P : Problem
  P = unnamed (last_problem chain)

  between : named_of p a ≡ named_of q b
  between = between_named P a p b q is one two

  abbrev r : Bool
  r = has_row_maps chain.steps

  first : first_step (unnamed (last_problem chain)) a p ≡ first_step (unnamed (last_problem chain)) b q
  first = λ i. step_to (between i) (max_rows P.passive P.labels) (entries_by (place_of (one_sets P a p b q is one two i)) (max_sets P.passive P.labels))

  pub one_bound : closed_bound chain a p ≡ closed_bound chain b q
  one_bound = same_bound P a p b q is one two r chain (in_form r (first_step P a p)) (in_form r (first_step P b q)) (ap (in_form r) first)

-- ---- answers
bounds : (chain bound other : Bound) → IsProblem (unnamed (last_problem chain)) → IsClosed chain bound → IsClosed chain other → bound ≡ other
bounds chain bound other is f g = f.bound_is ∙ one_bound chain f.active f.passive g.active g.passive is f.closure.closure g.closure.closure ∙ sym g.bound_is

pub not_both : (problem : Problem) (a p b q : Family) (place : ℕ) → IsProblem problem → AreClosure problem a p → AreClosure problem b q → zero_place (problem_of a p) ≡ None → zero_place (problem_of b q) ≡ Some place → ⊥
not_both problem a p b q place is one two none some = let e : None ≡ Some place = sym none ∙ ap zero_place (out_is problem a p b q is one two) ∙ some in cc

pub lines : (problem : NamedProblem) (sets others : List (List ℕ)) → IsProblem (unnamed problem) → IsSolvableBy problem sets → IsSolvableBy problem others → sets ≡ others
lines problem sets others is s t =
    let u = unnamed problem in
    let e : Some s.place ≡ Some t.place = sym s.first ∙ ap zero_place (out_is u s.active s.passive t.active t.passive is s.closure.closure t.closure.closure) ∙ t.first in
    let same : s.place ≡ t.place = cc in
    s.sets_are
    ∙ (λ i. placed (one_sets u s.active s.passive t.active t.passive is s.closure.closure t.closure.closure i)
    (slice_index_or (top_a u s.active s.passive t.active t.passive is s.closure.closure t.closure.closure i).configs (same i) []))
    ∙ sym t.sets_are

-- ---- limits
room_passes : (chain : Bound) (passed : ClosureLimit) → HasRoom chain → LimitIs chain passed → PassesLimit (unnamed (last_problem chain)) passed
room_passes chain Rows room told = told.1
room_passes chain Combinations room told = told.1
room_passes chain (Labels count) room told = told.1
room_passes chain Configurations room told = told.1
room_passes chain Steps room told = absurd (omega (arith, room, told))

-- a closure within its limits passes none but those of the way
pub small_passes : (problem : Problem) (a p : Family) (passed : ClosureLimit) → IsProblem problem → IsSmallClosure problem a p → PassesLimit problem passed → IsOnWay passed
small_passes problem a p Rows is small told = tt
small_passes problem a p Combinations is small told = tt
small_passes problem a p (Labels count) is small told =
    let same = ap length (one_sets problem a p told.active told.passive is small.closure told.closure) in
    let few = small.labels in
    let labels = told.labels in
    let many = told.many in
    absurd (omega (arith, same, few, labels, many))
small_passes problem a p Configurations is small told = elim told.many [
  | inl many ↦
      let same = ap (λ (K : Constraint). length K.configs) (below_p problem a p told.active told.passive is small.closure told.closure) in
      let few = small.below_passive in
      absurd (omega (arith, same, few, many))
  | inr many ↦
      let same = ap (λ (K : Constraint). length K.configs) (below_a problem a p told.active told.passive is small.closure told.closure) in
      let few = small.below_active in
      absurd (omega (arith, same, few, many))
]
small_passes problem a p Steps is small told = absurd told

pub two_passes : (problem : Problem) (one two : ClosureLimit) → IsProblem problem → PassesLimit problem one → PassesLimit problem two → (one ≡ two) ⊎ (IsOnWay one ⊎ IsOnWay two)
two_passes problem Rows two is h k = inr (inl tt)
two_passes problem Combinations two is h k = inr (inl tt)
two_passes problem one Rows is h k = inr (inr tt)
two_passes problem one Combinations is h k = inr (inr tt)
two_passes problem (Labels n) (Labels m) is h k =
    let same = ap length (one_sets problem h.active h.passive k.active k.passive is h.closure k.closure) in
    inl (ap Labels (sym h.labels ∙ same ∙ k.labels))
two_passes problem (Labels n) Configurations is h k =
    let same = ap length (one_sets problem h.active h.passive k.active k.passive is h.closure k.closure) in
    let few = k.labels in
    let labels = h.labels in
    let many = h.many in
    absurd (omega (arith, same, few, labels, many))
two_passes problem Configurations (Labels m) is h k =
    let same = ap length (one_sets problem h.active h.passive k.active k.passive is h.closure k.closure) in
    let few = h.labels in
    let labels = k.labels in
    let many = k.many in
    absurd (omega (arith, same, few, labels, many))
two_passes problem Configurations Configurations is h k = inl refl
two_passes problem Steps two is h k = absurd h
two_passes problem one Steps is h k = absurd k

two_limits : (chain : Bound) (one two : ClosureLimit) → IsProblem (unnamed (last_problem chain)) → LimitIs chain one → LimitIs chain two → (one ≡ two) ⊎ (IsOnWay one ⊎ IsOnWay two)
two_limits chain Rows two is h k = inr (inl tt)
two_limits chain Combinations two is h k = inr (inl tt)
two_limits chain (Labels n) two is h k = two_passes (unnamed (last_problem chain)) (Labels n) two is h.1 (room_passes chain two h.0 k)
two_limits chain Configurations two is h k = two_passes (unnamed (last_problem chain)) Configurations two is h.1 (room_passes chain two h.0 k)
two_limits chain Steps Rows is h k = inr (inr tt)
two_limits chain Steps Combinations is h k = inr (inr tt)
two_limits chain Steps (Labels m) is h k = let room = k.0 in absurd (omega (arith, h, room))
two_limits chain Steps Configurations is h k = let room = k.0 in absurd (omega (arith, h, room))
two_limits chain Steps Steps is h k = inl refl

pub limit_lines : (one two : ClosureLimit) → (one ≡ two) ⊎ (IsOnWay one ⊎ IsOnWay two) → (given other : Outcome) → given ≡ limit (limit_line one) → other ≡ limit (limit_line two)
    → (given ≡ other) ⊎ (IsWayLine given ⊎ IsWayLine other)
limit_lines one two (inl e) given other f g = inl (f ∙ ap (λ passed. limit (limit_line passed)) e ∙ sym g)
limit_lines one two (inr (inl way)) given other f g = inr (inl (one, way, f))
limit_lines one two (inr (inr way)) given other f g = inr (inr (two, way, g))

-- ---- outcomes
pub one_outcome : OneOutcomeLaw
one_outcome chain one two is (inl f) (inl g) = inl (f.1.one ∙ ap certificate_outcome (bounds chain f.0 g.0 is f.1.closed g.1.closed) ∙ sym g.1.one)
one_outcome chain one two is (inl f) (inr (inl s)) =
    absurd (not_both (unnamed (last_problem chain)) f.1.closed.active f.1.closed.passive s.3.active s.3.passive s.3.place is f.1.closed.closure.closure s.3.closure.closure f.1.closed.not_zero s.3.first)
one_outcome chain one two is (inr (inl s)) (inl f) =
    absurd (not_both (unnamed (last_problem chain)) f.1.closed.active f.1.closed.passive s.3.active s.3.passive s.3.place is f.1.closed.closure.closure s.3.closure.closure f.1.closed.not_zero s.3.first)
one_outcome chain one two is (inr (inl s)) (inr (inl t)) = inl (s.1 ∙ ap (λ sets. refused (closure_line (last_problem chain) sets)) (lines (last_problem chain) s.0 t.0 is s.3 t.3) ∙ sym t.1)
one_outcome chain one two is (inl f) (inr (inr l)) =
    inr (inr (l.0, small_passes (unnamed (last_problem chain)) f.1.closed.active f.1.closed.passive l.0 is f.1.closed.closure (room_passes chain l.0 f.1.room l.2), l.1))
one_outcome chain one two is (inr (inl s)) (inr (inr l)) =
    inr (inr (l.0, small_passes (unnamed (last_problem chain)) s.3.active s.3.passive l.0 is s.3.closure (room_passes chain l.0 s.2 l.2), l.1))
one_outcome chain one two is (inr (inr l)) (inl f) =
    inr (inl (l.0, small_passes (unnamed (last_problem chain)) f.1.closed.active f.1.closed.passive l.0 is f.1.closed.closure (room_passes chain l.0 f.1.room l.2), l.1))
one_outcome chain one two is (inr (inr l)) (inr (inl s)) =
    inr (inl (l.0, small_passes (unnamed (last_problem chain)) s.3.active s.3.passive l.0 is s.3.closure (room_passes chain l.0 s.2 l.2), l.1))
one_outcome chain one two is (inr (inr l)) (inr (inr m)) = limit_lines l.0 m.0 (two_limits chain l.0 m.0 is l.2 m.2) one two l.1 m.1
