-- With a diagram all closures have one certificate, and one answer, too.
use Rattle.std.proofs.Common.{◌≡◌, ℕ, true, List, length, map, refl, sym, ap, ◌∙◌, ◌⊎◌, inl, inr, arith}
use Rattle.re_algo.specs.Constructions.{top_places}
use Rattle.re_cert.specs.Bounds.{Bound, last_problem}
use Rattle.re_shaping.specs.RowForms.{by_rows}
use Rattle.re_chains.specs.OverChains.{certificate_outcome}
use Rattle.re_problem.specs.NamedProblems.{NamedProblem, unnamed}
use Rattle.re_problem.specs.Problems.{IsProblem, Problem}
use Rattle.re_problem.specs.Steps.LowerMap.{by_row}
use Rattle.re_labels.specs.GoodRows.{max_rows}
use Rattle.re_closure_laws.specs.Closures.{AreClosure}
use Rattle.re_closure_laws.specs.Lines.{Family}
use Rattle.re_closure.proofs.OneOutcome.{between_named, limit_lines, lines, not_both, one_sets, same_bound, small_passes, two_passes}
use Rattle.re_closure.specs.Closures.{HasRoom}
use Rattle.re_closure.specs.ClosureWords.{closure_line}
use Rattle.re_closure.specs.Diagrams.{raised}
use Rattle.re_closure.specs.Laws.{IsOnWay, OneRaisedOutcomeLaw}
use Rattle.re_closure.specs.Limits.{IsSmallClosure}
use Rattle.re_closure.specs.RaisedClosures.{IsRaisedClosed, MayRise, PassesRaised, RaisedLimitIs, raised_bound, raised_step}
use Rattle.re_closure.specs.declared.types.ClosureLimit.{ClosureLimit}
use Rattle.re_closure.specs.declared.types.ClosureLimit.TheVariants.{Combinations, Configurations, Labels, Rows, Steps}
use Rattle.re_frame.specs.Outcomes.{refused}

module _ (edges : List (ℕ × ℕ)) (chain : Bound) (is : IsProblem (unnamed (raised edges (last_problem chain)))) where
  abbrev P : NamedProblem
  P = last_problem chain

  abbrev R : Problem
  R = unnamed (raised edges (last_problem chain))

  one_raised : (a p b q : Family) → AreClosure (unnamed (raised edges (last_problem chain))) a p → AreClosure (unnamed (raised edges (last_problem chain))) b q → raised_bound edges chain a p ≡ raised_bound edges chain b q
  one_raised a p b q one two =
      same_bound R a p b q is one two true (by_rows chain) (raised_step (unnamed P) R a p) (raised_step (unnamed P) R b q) (λ i. record {
        lower = true;
        next = between_named R a p b q is one two i;
        rows = max_rows P.passive (length P.names);
        map = by_row (map (top_places (max_rows R.passive R.labels) (one_sets R a p b q is one two i)) (max_rows P.passive (length P.names)));
      })

  bounds : (bound other : Bound) → IsRaisedClosed edges chain bound → IsRaisedClosed edges chain other → bound ≡ other
  bounds bound other f g = f.bound_is ∙ one_raised f.active f.passive g.active g.passive f.closure.closure g.closure.closure ∙ sym g.bound_is

  -- ---- limits
  room_passes : (passed : ClosureLimit) → HasRoom chain → RaisedLimitIs edges chain passed → PassesRaised edges (last_problem chain) passed
  room_passes Rows room told = told.1
  room_passes Combinations room told = told.1
  room_passes (Labels count) room told = told.1
  room_passes Configurations room told = told.1
  room_passes Steps room told = absurd (omega (arith, room, told))

  small_raised : (a p : Family) (passed : ClosureLimit) → MayRise edges (last_problem chain) → IsSmallClosure (unnamed (raised edges (last_problem chain))) a p → PassesRaised edges (last_problem chain) passed → IsOnWay passed
  small_raised a p Rows may small told = tt
  small_raised a p Combinations may small told = tt
  small_raised a p (Labels count) may small told = small_passes R a p (Labels count) is small told.1
  small_raised a p Configurations may small (inl many) = let few = may.configs in absurd (omega (arith, few, many))
  small_raised a p Configurations may small (inr told) = small_passes R a p Configurations is small told.1
  small_raised a p Steps may small told = absurd told.1

  two_raised : (one two : ClosureLimit) → PassesRaised edges (last_problem chain) one → PassesRaised edges (last_problem chain) two → (one ≡ two) ⊎ (IsOnWay one ⊎ IsOnWay two)
  two_raised Rows two h k = inr (inl tt)
  two_raised Combinations two h k = inr (inl tt)
  two_raised one Rows h k = inr (inr tt)
  two_raised one Combinations h k = inr (inr tt)
  two_raised (Labels n) (Labels m) h k = two_passes R (Labels n) (Labels m) is h.1 k.1
  two_raised (Labels n) Configurations h (inl many) = let few = h.0.configs in absurd (omega (arith, few, many))
  two_raised (Labels n) Configurations h (inr k) = two_passes R (Labels n) Configurations is h.1 k.1
  two_raised Configurations (Labels m) (inl many) k = let few = k.0.configs in absurd (omega (arith, few, many))
  two_raised Configurations (Labels m) (inr h) k = two_passes R Configurations (Labels m) is h.1 k.1
  two_raised Configurations Configurations h k = inl refl
  two_raised Steps two h k = absurd h.1
  two_raised one Steps h k = absurd k.1

  two_limits : (one two : ClosureLimit) → RaisedLimitIs edges chain one → RaisedLimitIs edges chain two → (one ≡ two) ⊎ (IsOnWay one ⊎ IsOnWay two)
  two_limits Rows two h k = inr (inl tt)
  two_limits Combinations two h k = inr (inl tt)
  two_limits (Labels n) two h k = two_raised (Labels n) two h.1 (room_passes two h.0 k)
  two_limits Configurations two h k = two_raised Configurations two h.1 (room_passes two h.0 k)
  two_limits Steps Rows h k = inr (inr tt)
  two_limits Steps Combinations h k = inr (inr tt)
  two_limits Steps (Labels m) h k = let room = k.0 in absurd (omega (arith, h, room))
  two_limits Steps Configurations h k = let room = k.0 in absurd (omega (arith, h, room))
  two_limits Steps Steps h k = inl refl

-- ---- outcomes
pub one_raised_outcome : OneRaisedOutcomeLaw
one_raised_outcome edges chain one two is (inl f) (inl g) = inl (f.1 ∙ ap certificate_outcome (bounds edges chain is f.0 g.0 f.4 g.4) ∙ sym g.1)
one_raised_outcome edges chain one two is (inl f) (inr (inl s)) =
    absurd (not_both (unnamed (raised edges (last_problem chain))) f.4.active f.4.passive s.3.1.active s.3.1.passive s.3.1.place is f.4.closure.closure s.3.1.closure.closure f.4.not_zero s.3.1.first)
one_raised_outcome edges chain one two is (inr (inl s)) (inl f) =
    absurd (not_both (unnamed (raised edges (last_problem chain))) f.4.active f.4.passive s.3.1.active s.3.1.passive s.3.1.place is f.4.closure.closure s.3.1.closure.closure f.4.not_zero s.3.1.first)
one_raised_outcome edges chain one two is (inr (inl s)) (inr (inl t)) =
    inl (s.1 ∙ ap (λ sets. refused (closure_line (last_problem chain) sets)) (lines (raised edges (last_problem chain)) s.0 t.0 is s.3.1 t.3.1) ∙ sym t.1)
one_raised_outcome edges chain one two is (inl f) (inr (inr l)) = inr (inr (l.0, small_raised edges chain is f.4.active f.4.passive l.0 f.4.may f.4.closure (room_passes edges chain is l.0 f.3 l.2), l.1))
one_raised_outcome edges chain one two is (inr (inl s)) (inr (inr l)) =
    inr (inr (l.0, small_raised edges chain is s.3.1.active s.3.1.passive l.0 s.3.0 s.3.1.closure (room_passes edges chain is l.0 s.2 l.2), l.1))
one_raised_outcome edges chain one two is (inr (inr l)) (inl f) = inr (inl (l.0, small_raised edges chain is f.4.active f.4.passive l.0 f.4.may f.4.closure (room_passes edges chain is l.0 f.3 l.2), l.1))
one_raised_outcome edges chain one two is (inr (inr l)) (inr (inl s)) =
    inr (inl (l.0, small_raised edges chain is s.3.1.active s.3.1.passive l.0 s.3.0 s.3.1.closure (room_passes edges chain is l.0 s.2 l.2), l.1))
one_raised_outcome edges chain one two is (inr (inr l)) (inr (inr m)) = limit_lines l.0 m.0 (two_limits edges chain is l.0 m.0 l.2 m.2) one two l.1 m.1
