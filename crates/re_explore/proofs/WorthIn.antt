-- Bounds that go on from a chain in a setting, and what their texts are worth.
use Rattle.std.proofs.Common.{◌≡◌, ◌≤◌, ℕ, suc, List, [], ◌∷◌, ◌++◌, append_assoc, length, sym, ap, ◌∙◌, subst, arith}
use Rattle.std.specs.Prelude.{Contains, codes}
use Rattle.std.proofs.lemmas.List.Elements.{Contains-append_right}
use Rattle.re_labels.proofs.Membership.{AllByRecursion-contains, Contains-here, Contains-map}
use Rattle.re_labels.specs.declared.TheConstants.{MAX_LABELS}
use Rattle.re_problem.specs.NamedProblems.{IsNamedProblem, NamedProblem, unnamed}
use Rattle.re_cert.specs.Bounds.{Bound, BoundStep, next_problems}
use Rattle.re_cert.specs.declared.certificate.Kind.{Kind}
use Rattle.re_cert.specs.declared.certificate.Kind.TheVariants as kind
use Rattle.re_chains.proofs.WordsGiven.{text_checked}
use Rattle.re_chains.specs.GivenTexts.{IsGivenText}
use Rattle.re_chains.specs.OverChains.{or_fault}
use Rattle.re_chains.specs.TwoTexts.{back_problem, front_bound}
use Rattle.re_check.specs.Verdicts.{Means}
use Rattle.re_check.specs.declared.verdict.Verdict.TheVariants.{Accepted}
use Rattle.re_frame.specs.Check.{verdict_outcome}
use Rattle.re_frame.specs.Outcomes.{Outcome, done}
use Rattle.re_frame.specs.declared.status.Status.TheVariants.{Done}
use Rattle.re_bounds.specs.GivenBounds.{MeansGiven}
use Rattle.re_given_words.specs.Extensions.{GoesOnIn}
use Rattle.re_settings.specs.Settings.{GivesIn, IsTextIn}
use Rattle.re_settings.specs.Verdicts.{accepted_line, bound_outcome, given_outcome}
use Rattle.re_settings.specs.declared.setting.Setting.{Setting}
use Rattle.re_settings.specs.declared.setting.Setting.TheVariants as settings
use Rattle.re_settings.specs.declared.bound_words.BoundWord.TheVariants.{Given}
use Rattle.re_explore.specs.Worth.{IsAccepted, IsJudgedIn}

-- `given` gives to a text that is read as a bound and an input problem what it gives to these
text_judged : (bound : Bound) (input : NamedProblem) (text : List ℕ) → IsGivenText bound input text → bound_outcome Given text ≡ given_outcome Given input bound
unfolding bound_outcome
text_judged bound input text is =
    ap (λ fault. or_fault fault (given_outcome Given (back_problem (codes "given") text) (front_bound (codes "given") text))) is.read.right
    ∙ ap (λ (b : Bound). given_outcome Given (back_problem (codes "given") text) b) is.read.bound_is
    ∙ ap (λ (p : NamedProblem). given_outcome Given p bound) is.read.input_is

-- a text that is given is read as the bound
pub gives_text : (setting : Setting) (bound : Bound) (outcome : Outcome) → GivesIn setting bound outcome → outcome.status ≡ Done → IsTextIn setting bound outcome.text
gives_text settings.Alone bound outcome gives finished = gives finished
gives_text (settings.Given input) bound outcome gives finished = gives finished

judged : (setting : Setting) (kind : Kind) (most labels : ℕ) (chain bound : Bound) (text : List ℕ) → IsTextIn setting bound text → GoesOnIn setting kind most labels chain bound → IsJudgedIn setting kind (length bound.steps) text
judged settings.Alone kind most labels chain bound text text_of on = text_checked bound text text_of ∙ ap verdict_outcome on.valid
judged (settings.Given input) kind most labels chain bound text text_of on =
    text_judged bound input text text_of ∙ on.accepted ∙ ap (λ (k : Kind). done (accepted_line k (length bound.steps))) on.of_kind

pub accepted : (setting : Setting) (kind : Kind) (most labels : ℕ) (chain bound : Bound) (text : List ℕ) → IsTextIn setting bound text → GoesOnIn setting kind most labels chain bound → IsAccepted setting kind most labels chain text
accepted setting kind most labels chain bound text text_of on = record {
  bound = bound;
  text_of = text_of;
  goes_on = on;
  judged = judged setting kind most labels chain bound text text_of on;
}

-- ---- more steps
-- the steps of a bound that goes on from a longer chain
all_steps : (chain longer bound : Bound) (s : BoundStep) (more : List BoundStep) → longer.steps ≡ chain.steps ++ s ∷ [] → bound.steps ≡ longer.steps ++ more → bound.steps ≡ chain.steps ++ s ∷ more
all_steps chain longer bound s more steps is = is ∙ ap (λ l. l ++ more) steps ∙ append_assoc chain.steps (s ∷ []) more

next_named : (chain bound : Bound) (s : BoundStep) (more : List BoundStep) → bound.steps ≡ chain.steps ++ s ∷ more → ((problem : NamedProblem) → Contains (next_problems bound.steps) problem → IsNamedProblem problem) → IsNamedProblem s.next
next_named chain bound s more all named =
    let stands : Contains bound.steps s = subst (λ steps. Contains steps s) (sym all) (Contains-append_right chain.steps (s ∷ more) s (Contains-here s more)) in
    named s.next (Contains-map (λ (s : BoundStep). s.next) bound.steps s stands)

-- a bound that goes on from the chain with a step more goes on from the chain
pub one_less : (setting : Setting) (most : ℕ) (chain longer bound : Bound) (s : BoundStep) → longer.first ≡ chain.first → longer.steps ≡ chain.steps ++ s ∷ [] → GoesOnIn setting kind.Fixed most MAX_LABELS longer bound
    → GoesOnIn setting kind.Fixed (suc most) MAX_LABELS chain bound
one_less settings.Alone most chain longer bound s first steps on =
    let all = all_steps chain longer bound s on.more steps on.steps in
    let named = next_named chain bound s on.more all (λ problem i. AllByRecursion-contains IsNamedProblem (next_problems bound.steps) problem on.problems.next i) in
    record {
      fits = on.fits;
      problems = on.problems;
      of_kind = on.of_kind;
      first = on.first ∙ first;
      more = s ∷ on.more;
      steps = all;
      few = (let few = on.few in omega (arith, few));
      small = (named.names.few, on.small);
      valid = on.valid;
      means = subst (λ p. Means (Accepted kind.Fixed (length bound.steps)) (unnamed p)) first on.means;
    }
one_less (settings.Given input) most chain longer bound s first steps on =
    let all = all_steps chain longer bound s on.more steps on.steps in
    let named = next_named chain bound s on.more all (λ problem i. AllByRecursion-contains IsNamedProblem (next_problems bound.steps) problem on.problems.next i) in
    record {
      fits = on.fits;
      problems = on.problems;
      of_kind = on.of_kind;
      first = on.first ∙ first;
      more = s ∷ on.more;
      steps = all;
      few = (let few = on.few in omega (arith, few));
      small = (named.names.few, on.small);
      accepted = on.accepted;
      means = subst (λ p. MeansGiven kind.Fixed (length bound.steps) (unnamed p) (unnamed input)) first on.means;
    }

-- one with few more steps has no more than many
pub no_more : (setting : Setting) (few most : ℕ) (chain bound : Bound) → few ≤ most → GoesOnIn setting kind.Fixed few MAX_LABELS chain bound → GoesOnIn setting kind.Fixed most MAX_LABELS chain bound
no_more settings.Alone few most chain bound less on = record {
  fits = on.fits;
  problems = on.problems;
  of_kind = on.of_kind;
  first = on.first;
  more = on.more;
  steps = on.steps;
  few = (let short = on.few in omega (arith, short, less));
  small = on.small;
  valid = on.valid;
  means = on.means;
}
no_more (settings.Given input) few most chain bound less on = record {
  fits = on.fits;
  problems = on.problems;
  of_kind = on.of_kind;
  first = on.first;
  more = on.more;
  steps = on.steps;
  few = (let short = on.few in omega (arith, short, less));
  small = on.small;
  accepted = on.accepted;
  means = on.means;
}
