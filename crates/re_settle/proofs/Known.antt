-- What each of the words shows where it finds something.
use Rattle.std.proofs.Common.{◌≡◌, ℕ, zero, suc, ◌*◌, ◌≤◌, ◌<◌, ◌⊎◌, true, List, [], ◌∷◌, length, refl, subst, sym, ◌∙◌, arith, Ok, None}
use Rattle.re_cert.specs.Bounds.{Bound, is_bound, last_problem}
use Rattle.re_cert.specs.declared.certificate.Kind.TheVariants as kind
use Rattle.re_cert.specs.declared.certificate.TheConstants.{MAX_STEPS}
use Rattle.re_shaping.specs.Merging.{merge_limit, merge_refusal, merged}
use Rattle.re_chains.specs.Chains.{IsOverProblems, chain_with}
use Rattle.re_shaping.specs.Stepped.{stepped, stepping_fault}
use Rattle.re_chains.specs.ChainTexts.{problem_chain}
use Rattle.re_closure.specs.Closures.{IsClosed, IsSolvableBy}
use Rattle.re_closure.specs.RaisedClosures.{IsRaisedClosed}
use Rattle.re_going_on.specs.CycleAnswers as cycle
use Rattle.re_going_on.specs.declared.cycle.Cycle.TheVariants as cycle_answer
use Rattle.re_shaping.specs.Extensions.{GoesOn}
use Rattle.re_given_words.proofs.CountingMeans.{told_means}
use Rattle.re_given_words.specs.Counting.{CountMeans, MayTell}
use Rattle.re_given_words.specs.declared.counting.Counted.{Counted}
use Rattle.re_given_words.specs.declared.counting.Counted.TheVariants as counted
use Rattle.re_labels.specs.declared.TheConstants.{MAX_LABELS}
use Rattle.re_settings.specs.declared.setting.Setting.TheVariants as setting
use Rattle.re_going_on.specs.ShortestAnswers as shortest
use Rattle.re_going_on.specs.declared.shortening.Shortest.TheVariants as shortest_answer
use Rattle.re_laws.proofs.ZeroRounds.{Solvable-zero}
use Rattle.re_laws.specs.Algorithms.{Solvable}
use Rattle.re_problem.proofs.ZeroPlaces.{no-place}
use Rattle.re_problem.specs.NamedProblems.{NamedProblem, unnamed}
use Rattle.re_problem.specs.Problems.{IsProblem}
use Rattle.re_problem.specs.Zero.{zero_place}
use Rattle.re_relaxed.specs.Answers as relaxed
use Rattle.re_relaxed.specs.declared.types.Relaxed.TheVariants as relaxed_answer
use Rattle.re_search.specs.Searches.{Answers, FindsTrue, FindsValid}
use Rattle.re_search.specs.declared.types.Search.{Search}
use Rattle.re_search.specs.declared.types.Search.TheVariants.{Found}
use Rattle.re_classes.specs.Classes.{IsAboveLog}
use Rattle.re_flexible.specs.Lengths.{IsFlexibility}
use Rattle.re_flexible.specs.declared.levels.Flexibility.TheVariants.{Length}
use Rattle.re_evidence.proofs.Forests.{above_not_flexible, never_not_flexible}
use Rattle.re_gap.specs.Laws.{AboveLogOnViewsLaw, NotFlexibleLaw}
use Rattle.re_settle.proofs.Fixed.{above_log_on, found_first}
use Rattle.re_evidence.specs.Claims.{Holds}
use Rattle.re_settle.specs.Ways.{ClosesBehind, HasText, IsFixedPoint, IsKnown, IsTried, SaysCounted, ShowsZero}
use Rattle.re_evidence.specs.declared.types.Claim.{Claim}
use Rattle.re_evidence.specs.declared.types.Claim.TheVariants.{AtMost, MoreThan, Never}
use Rattle.re_settle.specs.declared.types.Way.TheVariants.{Closure, Cycle, Fixed, Flexible, Longest, Lower, Merge, Raised, Relaxed, Rounds, Shortest, Through, Upper, Zero}

-- ---- searches of `re`
pub lower_known : (times : ℕ) (problem : NamedProblem) (steps rounds : ℕ) (search : Search) (bound : Bound) → search ≡ Found bound → steps ≤ 8
    → Answers kind.Lower steps 0 problem (Ok search) → FindsTrue kind.Lower problem (Ok search) → HasText bound → rounds ≡ length bound.steps
    → IsKnown times problem (MoreThan rounds) (Lower steps 0)
lower_known times problem steps rounds search bound is few answers told text count = subst (λ k. IsKnown times problem (MoreThan k) (Lower steps 0)) (sym count) (record {
  shown = record {
    tried = (few, refl);
    shows = (length bound.steps, refl, record { bound = bound; finds = subst (λ s. Answers kind.Lower steps 0 problem (Ok s)) is answers; count = refl; text = text });
  };
  holds = subst (λ s. FindsTrue kind.Lower problem (Ok s)) is told;
})

pub upper_known : (times : ℕ) (problem : NamedProblem) (steps rounds : ℕ) (search : Search) (bound : Bound) → search ≡ Found bound → steps ≤ 9
    → Answers kind.Upper steps 0 problem (Ok search) → FindsTrue kind.Upper problem (Ok search) → HasText bound → rounds ≡ length bound.steps
    → IsKnown times problem (AtMost rounds) (Upper steps 0)
upper_known times problem steps rounds search bound is few answers told text count = subst (λ k. IsKnown times problem (AtMost k) (Upper steps 0)) (sym count) (record {
  shown = record {
    tried = (few, refl);
    shows = (length bound.steps, refl, record { bound = bound; finds = subst (λ s. Answers kind.Upper steps 0 problem (Ok s)) is answers; count = refl; text = text });
  };
  holds = subst (λ s. FindsTrue kind.Upper problem (Ok s)) is told;
})

-- a problem that isn't solvable without communication takes more than 0 rounds
pub zero_known : (times : ℕ) (problem : NamedProblem) → IsProblem (unnamed problem) → zero_place (unnamed problem) ≡ None → IsKnown times problem (MoreThan 0) Zero
zero_known times problem is none = record {
  shown = record { tried = tt; shows = subst (λ place. ShowsZero place (MoreThan 0)) (sym none) refl };
  holds = λ T few solvable. cannot (subst (Solvable (unnamed problem)) (no_more T few) solvable);
}
  where
    no_more : (T : ℕ) → T ≤ 0 → T ≡ 0
    no_more T few = omega arith

    cannot : Solvable (unnamed problem) 0 → ⊥
    cannot solvable = (no-place (unnamed problem) None (sym none)).0 refl ((Solvable-zero (unnamed problem) is).0 solvable)

-- ---- what is counted
-- it says what it means
count-holds : (problem : NamedProblem) (counts : Counted) (claim : Claim) → CountMeans (unnamed problem) None counts → SaysCounted counts claim → Holds claim (unnamed problem)
count-holds problem (counted.Exactly rounds) claim means says = subst (λ c. Holds c (unnamed problem)) (sym says) means
count-holds problem (counted.MoreThan rounds) claim means says = subst (λ c. Holds c (unnamed problem)) (sym says) means
count-holds problem (counted.Passed rounds limit) claim means says = subst (λ c. Holds c (unnamed problem)) (sym says) means
count-holds problem (counted.Stopped rounds steps limit) claim means says = subst (λ c. Holds c (unnamed problem)) (sym says) means
count-holds problem (counted.Tried rounds) claim means says = absurd says

pub count_known : (times : ℕ) (problem : NamedProblem) (most : ℕ) (counts : Counted) (claim : Claim) → IsProblem (unnamed problem) → most ≡ 8 ⊎ most ≡ 9 → MayTell (unnamed problem) None most counts
    → SaysCounted counts claim → IsKnown times problem claim (Rounds most)
count_known times problem most counts claim is tried told says = record {
  shown = record { tried = tried; shows = (counts, told, says) };
  holds = count-holds problem counts claim (told_means (unnamed problem) is None most counts tt told) says;
}

-- ---- searches of `re` for fixed points
-- a fixed point is a bound of order log N too
pub fixed_known : (times : ℕ) (problem : NamedProblem) (search : Search) (bound : Bound) → search ≡ Found bound → is_bound bound ≡ true → IsOverProblems bound
    → Answers kind.Fixed 4 0 problem (Ok search) → FindsValid kind.Fixed (Ok search) → FindsTrue kind.Fixed problem (Ok search) → HasText bound
    → IsFixedPoint times problem (Fixed 4 0)
fixed_known times problem search bound is fits over answers valid told text =
    let found : Answers kind.Fixed 4 0 problem (Ok (Found bound)) = subst (λ s. Answers kind.Fixed 4 0 problem (Ok s)) is answers in
    record {
      known = record {
        shown = record { tried = (refl, refl); shows = (refl, (length bound.steps, record { bound = bound; finds = found; count = refl; text = text })) };
        holds = subst (λ s. FindsTrue kind.Fixed problem (Ok s)) is told;
      };
      finds = refl;
      above = above_log_on problem bound fits over (found_first kind.Fixed 4 0 problem bound found) (subst (λ s. FindsValid kind.Fixed (Ok s)) is valid);
    }

-- ---- fixed points that go on from the problem
-- what a fixed point that goes on from a chain says of its first problem
record IsNever (problem : NamedProblem) : Type 0 where
  holds : Holds Never (unnamed problem)
  above : IsAboveLog (unnamed problem)

never_on : (most : ℕ) (problem : NamedProblem) (chain bound : Bound) → chain.first ≡ problem → GoesOn kind.Fixed most MAX_LABELS chain bound → IsNever problem
never_on most problem chain bound first goes = record {
  holds = subst (λ (p : NamedProblem). Holds Never (unnamed p)) first goes.means;
  above = above_log_on problem bound goes.fits goes.problems (goes.first ∙ first) goes.valid;
}

-- a closure, also behind derived problems
never_behind : (steps : ℕ) (problem : NamedProblem) (chain : Bound) → chain.first ≡ problem → ClosesBehind steps chain → IsNever problem
never_behind zero problem chain first (bound, closed, text) = never_on 3 problem chain bound first closed.goes_on
never_behind (suc steps) problem chain first (sets, solvable, none, behind) = never_behind steps problem (stepped chain) first behind

-- what they show is true
pub closure_holds : (problem : NamedProblem) (steps : ℕ) → ClosesBehind steps (problem_chain problem) → Holds Never (unnamed problem)
closure_holds problem steps closes = (never_behind steps problem (problem_chain problem) refl closes).holds

pub closure_known : (times : ℕ) (problem : NamedProblem) (chain : Bound) (steps : ℕ) → chain ≡ problem_chain problem → steps ≤ 2 → ClosesBehind steps chain
    → IsFixedPoint times problem (Closure steps)
closure_known times problem chain steps start few closes =
    let on : ClosesBehind steps (problem_chain problem) = subst (ClosesBehind steps) start closes in
    let never = never_behind steps problem (problem_chain problem) refl on in
    record { known = record { shown = record { tried = few; shows = (refl, on) }; holds = never.holds }; finds = refl; above = never.above }

-- one derived problem more
pub closes_later : (chain next : Bound) (steps : ℕ) (sets : List (List ℕ)) → IsSolvableBy (last_problem chain) sets → stepping_fault chain ≡ None → next ≡ stepped chain → ClosesBehind steps next
    → ClosesBehind (suc steps) chain
closes_later chain next steps sets solvable none is closes = (sets, solvable, none, subst (ClosesBehind steps) is closes)

-- what a diagram raises
pub raised_known : (times : ℕ) (problem : NamedProblem) (chain bound : Bound) (low high : ℕ) → chain ≡ problem_chain problem → low < length problem.names → high < length problem.names
    → IsRaisedClosed ((low, high) ∷ []) chain bound → HasText bound → IsFixedPoint times problem (Raised low high)
raised_known times problem chain bound low high start is_low is_high closed text =
    let on : IsRaisedClosed ((low, high) ∷ []) (problem_chain problem) bound = subst (λ (c : Bound). IsRaisedClosed ((low, high) ∷ []) c bound) start closed in
    let above = above_log_on problem bound on.goes_on.fits on.goes_on.problems on.goes_on.first on.goes_on.valid in
    record {
      known = record {
        shown = record { tried = tt; shows = (refl, record { is_low = is_low; is_high = is_high; bound = bound; closed = on; text = text }) };
        holds = on.goes_on.means;
      };
      finds = refl;
      above = above;
    }

-- the fixed point of the closure behind a merge
pub merge_known : (times : ℕ) (problem : NamedProblem) (chain bound : Bound) (from to : ℕ) → chain ≡ merged from to (problem_chain problem) → merge_refusal from to (problem_chain problem) ≡ None
    → merge_limit from to (problem_chain problem) ≡ None → HasText chain → IsClosed chain bound → HasText bound → IsFixedPoint times problem (Merge from to)
merge_known times problem chain bound from to is may within shown closed text =
    let on : IsClosed (merged from to (problem_chain problem)) bound = subst (λ c. IsClosed c bound) is closed in
    let never = never_on 3 problem (merged from to (problem_chain problem)) bound refl on.goes_on in
    record {
      known = record {
        shown = record { tried = tt; shows = (refl, record { may = may; within = within; chain = subst HasText is shown; bound = bound; closed = on; text = text }) };
        holds = never.holds;
      };
      finds = refl;
      above = never.above;
    }

pub cycle_known : (times nodes : ℕ) (problem : NamedProblem) (chain bound : Bound) → nodes ≡ 300 * times → chain ≡ problem_chain problem
    → cycle.Answers setting.Alone 8 chain (cycle_answer.Found bound) → HasText bound → IsFixedPoint times problem (Cycle 8 1 nodes)
cycle_known times nodes problem chain bound many start answers text =
    let on : cycle.Answers setting.Alone 8 (problem_chain problem) (cycle_answer.Found bound) = subst (λ c. cycle.Answers setting.Alone 8 c (cycle_answer.Found bound)) start answers in
    let never = never_on 8 problem (problem_chain problem) bound refl on in
    record { known = record { shown = record { tried = (refl, refl, many); shows = (refl, (bound, on, text)) }; holds = never.holds }; finds = refl; above = never.above }

pub relaxed_known : (times nodes : ℕ) (problem : NamedProblem) (chain bound : Bound) → IsTried times problem (Relaxed nodes) → chain ≡ problem_chain problem
    → relaxed.Answers chain (relaxed_answer.Found bound) → HasText bound → IsFixedPoint times problem (Relaxed nodes)
relaxed_known times nodes problem chain bound tried start answers text =
    let on : relaxed.Answers (problem_chain problem) (relaxed_answer.Found bound) = subst (λ c. relaxed.Answers c (relaxed_answer.Found bound)) start answers in
    let never = never_on MAX_STEPS problem (problem_chain problem) bound refl on.1 in
    record { known = record { shown = record { tried = tried; shows = (refl, (bound, on, text)) }; holds = never.holds }; finds = refl; above = never.above }

pub through_known : (times : ℕ) (problem : NamedProblem) (chain bound : Bound) → chain ≡ problem_chain problem → relaxed.Answers chain (relaxed_answer.Found bound) → HasText bound
    → IsFixedPoint times problem Through
through_known times problem chain bound start answers text =
    let on : relaxed.Answers (problem_chain problem) (relaxed_answer.Found bound) = subst (λ c. relaxed.Answers c (relaxed_answer.Found bound)) start answers in
    let never = never_on MAX_STEPS problem (problem_chain problem) bound refl on.1 in
    record { known = record { shown = record { tried = tt; shows = (refl, (bound, on, text)) }; holds = never.holds }; finds = refl; above = never.above }

-- ---- bounds that go on from the problem
pub longest_known : (times : ℕ) (problem : NamedProblem) (chain bound : Bound) (steps labels rounds : ℕ) → IsTried times problem (Longest steps labels) → chain ≡ problem_chain problem
    → GoesOn kind.Lower steps labels chain bound → HasText bound → rounds ≡ length bound.steps → IsKnown times problem (MoreThan rounds) (Longest steps labels)
longest_known times problem chain bound steps labels rounds tried start answers text count =
    let on : GoesOn kind.Lower steps labels (problem_chain problem) bound = subst (λ (c : Bound). GoesOn kind.Lower steps labels c bound) start answers in
    subst (λ k. IsKnown times problem (MoreThan k) (Longest steps labels)) (sym count)
    (record { shown = record { tried = tried; shows = (bound, refl, on, text) }; holds = on.means })

pub shortest_known : (times : ℕ) (problem : NamedProblem) (chain bound : Bound) (steps labels rounds : ℕ) → IsTried times problem (Shortest steps labels)
    → chain ≡ chain_with kind.Upper problem [] → shortest.Answers setting.Alone steps labels chain (shortest_answer.Found bound) → HasText bound
    → rounds ≡ length bound.steps → IsKnown times problem (AtMost rounds) (Shortest steps labels)
shortest_known times problem chain bound steps labels rounds tried start answers text count =
    let on : shortest.Answers setting.Alone steps labels (chain_with kind.Upper problem []) (shortest_answer.Found bound) =
    subst (λ (c : Bound). shortest.Answers setting.Alone steps labels c (shortest_answer.Found bound)) start answers in
    subst (λ k. IsKnown times problem (AtMost k) (Shortest steps labels)) (sym count) (record {
      shown = record { tried = tried; shows = (bound, refl, on, text) };
      holds = on.may.means;
    })

-- ---- flexible sets
-- where no set is flexible the order of log N is a bound below, and no number of rounds is enough with port numbers alone
pub flexible_known : NotFlexibleLaw → AboveLogOnViewsLaw → (times : ℕ) (problem : NamedProblem) (count : ℕ) → IsProblem (unnamed problem) → IsFlexibility (unnamed problem) (Length count) → IsFixedPoint times problem Flexible
flexible_known gap views times problem count is counted = record {
  known = record {
    shown = record { tried = tt; shows = (refl, (count, counted)) };
    holds = never_not_flexible gap (unnamed problem) count is counted;
  };
  finds = refl;
  above = views (unnamed problem) is (above_not_flexible gap (unnamed problem) count is counted);
}
