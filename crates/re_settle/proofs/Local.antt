-- What is known of a problem, said of local algorithms.
use Rattle.std.proofs.Common.{◌≡◌, ℕ, Bool, ◌≤◌, true, [], length, ap, refl, ◌∙◌, sym, subst, arith, None, Some}
use Rattle.std.specs.Prelude.{if◌then◌else◌}
use Rattle.re_forest_words.specs.Showings.{IsShown as IsGreedyShown, ShownLaw}
use Rattle.re_forest_words.specs.declared.showing.Shown.{Shown as GreedyShown}
use Rattle.re_cert.specs.Bounds.{Bound}
use Rattle.re_cert.specs.declared.certificate.Kind.TheVariants.{Upper}
use Rattle.re_chains.specs.Chains.{chain_with}
use Rattle.re_classes.proofs.Decided.{above_log_star}
use Rattle.re_evidence.proofs.FewColours.{few_enough}
use Rattle.re_evidence.proofs.Local.{few_order, least_class}
use Rattle.re_given.specs.Given.{SolvableGiven}
use Rattle.re_given.specs.Inputs.{IsInput}
use Rattle.re_given_words.proofs.CountingMeans.{count_means}
use Rattle.re_given_words.specs.Counting.{IsCounted}
use Rattle.re_given_words.specs.Extensions.{GoesOnGiven}
use Rattle.re_given_words.specs.declared.counting.Counted.TheVariants as counted
use Rattle.re_given.specs.InputExamples.{edge_colouring}
use Rattle.re_inputs.proofs.NamedProofs.{inputs, named_inputs}
use Rattle.re_inputs.specs.NamedInputs.{edge_colours, fits, input_of, law_input}
use Rattle.re_labels.proofs.Tests.{eqb-apart}
use Rattle.re_labels.specs.declared.sides.Side.{Side}
use Rattle.re_labels.specs.declared.sides.Side.TheVariants.{Active, Passive}
use Rattle.re_problem.specs.NamedProblems.{NamedProblem, unnamed}
use Rattle.re_problem.specs.Problems.{IsProblem, Problem}
use Rattle.re_settle.proofs.Counts.{never_counts}
use Rattle.re_evidence.specs.Colours.{few_colours}
use Rattle.re_evidence.specs.Classes.{LeastHolds}
use Rattle.re_settle.specs.Classes.{least_of}
use Rattle.re_evidence.specs.Colours.{IsSolvableGivenFew, colours_of}
use Rattle.re_evidence.specs.Colours.{IsColouringOf}
use Rattle.re_settle.specs.Coloured.{IsColoured, IsTriedGiven}
use Rattle.re_settle.specs.Ways.{IsFixedPoint, IsFound, IsFoundFurther, IsKnown, IsNever}
use Rattle.re_evidence.specs.declared.types.Claim.TheVariants.{Exactly, Never}
use Rattle.re_settle.specs.declared.types.Coloured.{Coloured}
use Rattle.re_settle.specs.declared.types.Further.TheVariants as further
use Rattle.re_evidence.specs.declared.types.Least.{Least}
use Rattle.re_settle.specs.declared.types.Settled.{Settled}
use Rattle.re_settle.specs.declared.types.ColouredWay.TheVariants.{Rounds, Shortest}
use Rattle.re_settle.specs.declared.types.Settled.TheVariants as settled
use Rattle.re_settle.specs.declared.types.Shown.{Shown as Bounded}
use Rattle.re_settle.specs.declared.types.Way.{Way}
use Rattle.re_settle.specs.declared.types.Way.TheVariants.{Cover}
use Rattle.re_chains.specs.GivenTexts.{IsGivenText, given_text}

-- ---- given a proper colouring
-- what is counted given few colours
pub counted_coloured : (times : ℕ) (problem input : NamedProblem) (side : Side) (colours k : ℕ) → IsProblem (unnamed problem)
    → colours ≡ few_colours side problem.active.degree problem.passive.degree → IsColouringOf problem side colours input
    → IsCounted (unnamed problem) (Some (unnamed input)) 8 (counted.Exactly k) → IsColoured times problem (record { side = side; colours = colours; way = Rounds 8 })
counted_coloured times problem input side colours k is few colouring counts =
    let means = count_means (unnamed problem) is (Some (unnamed input)) 8 (counted.Exactly k) colouring.is_input counts in
    record {
      tried = refl;
      colours = few;
      shows = (k, subst (λ (p : Problem). IsCounted (unnamed problem) (Some p) 8 (counted.Exactly k)) colouring.same counts);
      solvable = few_enough problem input side colours k few colouring means.0;
    }

-- the upper bound that is found given few colours
pub shortened_coloured : (times : ℕ) (problem input : NamedProblem) (chain bound : Bound) (side : Side) (colours steps labels : ℕ)
    → colours ≡ few_colours side problem.active.degree problem.passive.degree → IsColouringOf problem side colours input → IsTriedGiven times problem (Shortest steps labels)
    → chain ≡ chain_with Upper problem [] → GoesOnGiven input Upper steps labels chain bound → IsGivenText bound input (given_text bound input)
    → IsColoured times problem (record { side = side; colours = colours; way = Shortest steps labels })
shortened_coloured times problem input chain bound side colours steps labels few colouring tried start goes_on text =
    let on : GoesOnGiven input Upper steps labels (chain_with Upper problem []) bound = subst (λ (c : Bound). GoesOnGiven input Upper steps labels c bound) start goes_on in
    record {
      tried = tried;
      colours = few;
      shows = record { input = input; colouring = colouring; bound = bound; goes_on = on; text = text };
      solvable = few_enough problem input side colours (length bound.steps) few colouring on.means;
    }

-- ---- what no number of rounds solves
pub never_found : (times : ℕ) (problem : NamedProblem) (way : Way) → IsProblem (unnamed problem) → IsNever times problem way → IsFound times problem (settled.Never way)
never_found times problem way is never = record {
  shown = never.known.shown;
  holds = never.known.holds;
  class = least_class (unnamed problem) (least_of way) never.least;
  counted = never_counts problem is never.known.holds;
  fixed = λ shows. refl;
  closed = λ steps few within shows. refl;
}

pub fixed_never : (times : ℕ) (problem : NamedProblem) (way : Way) → IsFixedPoint times problem way → IsNever times problem way
fixed_never times problem way fixed =
    record { known = fixed.known; least = subst (λ (l : Least). LeastHolds l (unnamed problem)) (sym fixed.finds) fixed.above }

pub fixed_found : (times : ℕ) (problem : NamedProblem) (way : Way) → IsProblem (unnamed problem) → IsFixedPoint times problem way → IsFound times problem (settled.Never way)
fixed_found times problem way is fixed = never_found times problem way is (fixed_never times problem way fixed)

-- a graph
pub cover_never : (times : ℕ) (problem : NamedProblem) (nodes : ℕ) → IsProblem (unnamed problem) → IsKnown times problem Never (Cover nodes) → IsNever times problem (Cover nodes)
cover_never times problem nodes is known = record { known = known; least = above_log_star (unnamed problem) is known.holds }

-- ---- what is found of the class besides
pub nothing_further : (times : ℕ) (problem : NamedProblem) (settled : Settled) → IsFound times problem settled → IsFoundFurther times problem settled further.Nothing
nothing_further times problem settled found = record { shown = tt; class = found.class; above = tt }

pub coloured_further : (times : ℕ) (problem : NamedProblem) (way : Way) (coloured : Coloured) → IsProblem (unnamed problem) → IsFound times problem (settled.Never way)
    → IsColoured times problem coloured → IsFoundFurther times problem (settled.Never way) (further.FewColours coloured)
coloured_further times problem way coloured is found few =
    let order = few_order coloured.side (unnamed problem) is found.holds few.solvable in
    record { shown = few; class = order; above = order.1 }

pub fixed_further : (times : ℕ) (problem : NamedProblem) (way later : Way) → IsFixedPoint times problem later
    → IsFoundFurther times problem (settled.Never way) (further.FixedPoint later)
fixed_further times problem way later fixed = record { shown = (fixed.known.shown, fixed.finds); class = fixed.above; above = tt }

pub greedy_further : ShownLaw → (times : ℕ) (problem : NamedProblem) (way : Way) (shown : GreedyShown) → IsProblem (unnamed problem) → IsFound times problem (settled.Never way)
    → IsGreedyShown (unnamed problem) 2 shown → IsFoundFurther times problem (settled.Never way) further.Greedy
greedy_further law times problem way shown is found by =
    let means = law (unnamed problem) 2 shown is by in
    record { shown = (shown, by); class = few_order Active (unnamed problem) is found.holds means.0; above = means.1 }

pub greedy_bounded : ShownLaw → (times : ℕ) (problem : NamedProblem) (more : Bounded) (shown : GreedyShown) → IsProblem (unnamed problem)
    → IsFound times problem (settled.Within more None) → IsGreedyShown (unnamed problem) 2 shown → IsFoundFurther times problem (settled.Within more None) further.Greedy
greedy_bounded law times problem more shown is found by = record { shown = (shown, by); class = found.class; above = (law (unnamed problem) 2 shown is by).1 }
