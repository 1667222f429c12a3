-- What `given` accepts, and bounds that go on from a chain by it.
use Rattle.std.proofs.Common.{◌≡◌, ◌++◌, ◌≤◌, ℕ, true, List, [], length, refl, sym, ap, ◌∙◌, subst, arith, append-nil, Some}
use Rattle.std.specs.Prelude.{IfSome}
use Rattle.std.proofs.lemmas.List.{append_cancel_left}
use Rattle.re_problem.specs.NamedProblems.{IsNamedProblem, NamedProblem, unnamed}
use Rattle.re_cert.specs.Bounds.{Bound, BoundStep, built, is_bound}
use Rattle.re_cert.specs.declared.certificate.Kind.{Kind}
use Rattle.re_chains.specs.Chains.{IsOverProblems}
use Rattle.re_check.proofs.Meaning.{verdict_means}
use Rattle.re_check.specs.Verdicts.{Means}
use Rattle.re_check.specs.declared.verdict.Verdict.{Verdict}
use Rattle.re_shaping.proofs.Continued.{behind, built-bound, whole}
use Rattle.re_shaping.specs.Extensions.{AreSmall, continued}
use Rattle.re_shaping.specs.declared.extending.Extension.{Extension}
use Rattle.re_frame.specs.Outcomes.{Outcome}
use Rattle.re_settings.proofs.GivenMeans.{answer_law}
use Rattle.re_given_words.specs.Extensions.{GoesOnGiven, TakenLaw}
use Rattle.re_settings.specs.Taken.{IsTaken}
use Rattle.re_given_words.specs.Extensions.{GoesOnIn}
use Rattle.re_settings.specs.Settings.{IsTakenIn, MeansIn, input_of}
use Rattle.re_settings.specs.declared.setting.Setting.{Setting}
use Rattle.re_settings.specs.declared.setting.Setting.TheVariants as settings
use Rattle.re_settings.specs.declared.verdicts.GivenVerdict.TheVariants as verdicts
use Rattle.re_settings.specs.declared.bound_words.BoundWord.TheVariants.{Given}

-- ---- what goes on from a chain
-- what is accepted means what its line says
taken_means : (input : NamedProblem) (bound : Bound) → IsNamedProblem input → is_bound bound ≡ true → IsOverProblems bound → IsTaken input bound
    → MeansIn (settings.Given input) bound.kind (length bound.steps) (unnamed bound.first)
taken_means input bound names fits problems taken =
    (answer_law Given input bound names (record { fits = fits; first = problems.first; next = problems.next })).holds (ap (λ (o : Outcome). o.status) taken)

pub taken_law : TakenLaw
taken_law input bound most labels names fits problems taken = record {
  fits = fits;
  problems = problems;
  of_kind = refl;
  first = refl;
  more = [];
  steps = sym (append-nil bound.steps);
  few = omega arith;
  small = tt;
  accepted = taken;
  means = taken_means input bound names fits problems taken;
}

-- a bound that is taken goes on from itself
pub goes_on_itself : (setting : Setting) (bound : Bound) (most labels : ℕ) → IfSome (input_of setting) IsNamedProblem → is_bound bound ≡ true → IsOverProblems bound → IsTakenIn setting bound
    → GoesOnIn setting bound.kind most labels bound bound
goes_on_itself settings.Alone bound most labels names fits problems taken = record {
  fits = fits;
  problems = problems;
  of_kind = refl;
  first = refl;
  more = [];
  steps = sym (append-nil bound.steps);
  few = omega arith;
  small = tt;
  valid = taken;
  means = subst (λ (v : Verdict). Means v (unnamed bound.first)) taken (verdict_means bound fits problems.first problems.next);
}
goes_on_itself (settings.Given input) bound most labels names fits problems taken = taken_law input bound most labels names fits problems taken

-- and is what it makes with nothing behind it
pub with_nothing : (bound : Bound) (extension : Extension) → extension.kind ≡ bound.kind → extension.back ≡ bound.back → extension.steps.items ≡ [] → extension.renaming.items ≡ bound.renaming → continued bound extension ≡ bound
with_nothing bound extension kind back steps renaming =
    λ i. record { kind = kind i; back = back i; first = bound.first; steps = (ap (λ more. bound.steps ++ more) steps ∙ append-nil bound.steps) i; renaming = renaming i }

pub goes_on : (input : NamedProblem) (kind : Kind) (most labels back : ℕ) (chain bound : Bound) (more : List BoundStep) (renaming : List (ℕ × ℕ)) → IsNamedProblem input
    → built (behind kind back chain more renaming) ≡ Some bound → IsOverProblems bound → length more ≤ most → AreSmall labels more → IsTaken input bound → GoesOnGiven input kind most labels chain bound
goes_on input kind most labels back chain bound more renaming names made problems few small taken =
    let same : bound ≡ behind kind back chain more renaming = whole kind back chain bound more renaming made in
    let fits : is_bound bound ≡ true = built-bound (behind kind back chain more renaming) bound made in
    record {
      fits = fits;
      problems = problems;
      of_kind = ap (λ (b : Bound). b.kind) same;
      first = ap (λ (b : Bound). b.first) same;
      more = more;
      steps = ap (λ (b : Bound). b.steps) same;
      few = few;
      small = small;
      accepted = taken;
      means = subst (λ (k : Kind). MeansIn (settings.Given input) k (length bound.steps) (unnamed chain.first)) (ap (λ (b : Bound). b.kind) same)
          (subst (λ (p : NamedProblem). MeansIn (settings.Given input) bound.kind (length bound.steps) (unnamed p)) (ap (λ (b : Bound). b.first) same) (taken_means input bound names fits problems taken));
    }

-- what doesn't: a step to a problem of too many labels
pub not_small : (input : NamedProblem) (kind : Kind) (most labels : ℕ) (chain bound : Bound) (more : List BoundStep) → bound.steps ≡ chain.steps ++ more → (AreSmall labels more → ⊥) → GoesOnGiven input kind most labels chain bound → ⊥
not_small input kind most labels chain bound more steps large on =
    large (subst (AreSmall labels) (sym (append_cancel_left chain.steps more on.more (sym steps ∙ on.steps))) on.small)
