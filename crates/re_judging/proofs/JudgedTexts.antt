-- What `judge` tells is true.
use Rattle.std.proofs.Common.{◌≡◌, ℕ, zero, suc, ◌+◌, true, List, inl, inr, refl, sym, ap, ◌∙◌, subst, arith, Option, None, Some}
use Rattle.std.specs.Prelude.{codes}
use Rattle.re_judging.proofs.FactLaws.{all_true, nothing_holds, with_holds}
use Rattle.re_judging.specs.Facts.{FactHolds, KnownHolds, nothing_known, with_fact}
use Rattle.re_judging.specs.Joints.{behind_joint, first_part, joint_at}
use Rattle.re_judging.specs.Judging.{GoesOn, IsJudgedBy, IsJudgedFirst, IsLast, IsNext, IsTold, IsToldOf, JudgeLaw, MayJudge, in_part, other_problem, refused_status, told}
use Rattle.re_judging.specs.PartAnswers.{PartMeans}
use Rattle.re_judging.specs.PartVerdicts.{IsPart}
use Rattle.re_judging.specs.declared.types.Judged.{Judged}
use Rattle.re_judging.specs.declared.types.Judged.TheVariants.{Holds, Refused}
use Rattle.re_judging.specs.declared.types.Known.{Known}
use Rattle.re_frame.specs.Outcomes.{Outcome, limit_of, outcome_of}
use Rattle.re_frame.specs.Runs.{MaySay}
use Rattle.re_frame.specs.declared.status.Status.{Status}
use Rattle.re_frame.specs.declared.status.Status.TheVariants.{BadInput, BadWords, Done, Limit, No, NoMemory, ReadFault, WriteFault}
use Rattle.re_gap.specs.Laws.{AboveLogOnViewsLaw, NotFlexibleLaw}
use Rattle.re_problem.specs.NamedProblems.{NamedProblem, unnamed}
use Rattle.re_problem.specs.Problems.{IsProblem}

-- a refusal isn't Done
not_done : (status : Status) → refused_status status ≡ Done → ⊥
not_done Done e = cc
not_done No e = cc
not_done BadWords e = cc
not_done BadInput e = cc
not_done Limit e = cc
not_done ReadFault e = cc
not_done WriteFault e = cc
not_done NoMemory e = cc

pub refusal : (number : ℕ) (given outcome : Outcome) → outcome ≡ in_part number given → outcome.status ≡ Done → ⊥
refusal number given outcome is done = not_done given.status (sym (ap (λ (o : Outcome). o.status) is) ∙ done)

no_limit : (outcome : Outcome) → outcome ≡ limit_of 16 (codes "parts") → outcome.status ≡ Done → ⊥
no_limit outcome is done =
    let other : Limit ≡ Done = sym (ap (λ (o : Outcome). o.status) is) ∙ done in cc

module _ (gap : NotFlexibleLaw) (views : AboveLogOnViewsLaw) (problem : NamedProblem) (is : IsProblem (unnamed problem)) where
  -- what is known is true where it is told
  tells : (known : Known) (outcome : Outcome) → KnownHolds known (unnamed problem) → outcome ≡ told problem known → IsTold problem outcome
  tells known outcome holds lines = record { known = known; lines = lines; is_true = all_true gap (unnamed problem) known is holds }

  abbrev Further : (Known → Outcome → Type 0) → Type 0
  Further may = (known : Known) (outcome : Outcome) → KnownHolds known (unnamed problem) → may known outcome → outcome.status ≡ Done → IsTold problem outcome

  judged_told : (may : Known → Outcome → Type 0) → Further may → (number : ℕ) (known : Known) (judged : Judged) (outcome : Outcome) → KnownHolds known (unnamed problem) → PartMeans judged
      → IsJudgedBy may number problem known judged outcome → outcome.status ≡ Done → IsTold problem outcome
  judged_told may further number known (Refused output) outcome holds means answer done = absurd (refusal number (outcome_of output) outcome answer done)
  judged_told may further number known (Holds part) outcome holds means (inl (same, more)) done =
      further (with_fact known part.fact) outcome
      (with_holds gap views (unnamed problem) known part.fact is holds (subst (λ (p : NamedProblem). FactHolds part.fact (unnamed p)) same means.1)) more done
  judged_told may further number known (Holds part) outcome holds means (inr (other, answer)) done = absurd (refusal number other_problem outcome answer done)

  next_told : (may : List ℕ → Known → Outcome → Type 0) → ((bytes : List ℕ) → Further (may bytes)) → (at : Option ℕ) (number : ℕ) (bytes : List ℕ) → Further (λ known outcome. IsNext may at number problem known bytes outcome)
  next_told may further None number bytes known outcome holds lines done = tells known outcome holds lines
  next_told may further (Some at) number bytes known outcome holds (judged, part, answer) done =
      judged_told (may (behind_joint at bytes)) (further (behind_joint at bytes)) number known judged outcome holds part.means answer done

  last_told : (at : Option ℕ) (known : Known) (outcome : Outcome) → KnownHolds known (unnamed problem) → IsLast at problem known outcome → outcome.status ≡ Done → IsTold problem outcome
  last_told None known outcome holds lines done = tells known outcome holds lines
  last_told (Some at) known outcome holds limit done = absurd (no_limit outcome limit done)

  going_on : (left number : ℕ) (bytes : List ℕ) → Further (GoesOn left number problem bytes)
  going_on zero number bytes known outcome holds may done = last_told (joint_at bytes) known outcome holds may done
  going_on (suc left) number bytes known outcome holds may done =
      next_told (GoesOn left (suc number) problem) (going_on left (suc number)) (joint_at bytes) number bytes known outcome holds may done

first_told : NotFlexibleLaw → AboveLogOnViewsLaw → (bytes : List ℕ) (first : Judged) (outcome : Outcome) → PartMeans first → IsJudgedFirst bytes first outcome → outcome.status ≡ Done
    → IsToldOf first outcome
first_told gap views bytes (Refused output) outcome means answer done = refusal 1 (outcome_of output) outcome answer done
first_told gap views bytes (Holds part) outcome means answer done =
    going_on gap views part.problem means.0 15 2 bytes (with_fact nothing_known part.fact) outcome
    (with_holds gap views (unnamed part.problem) nothing_known part.fact means.0 (nothing_holds (unnamed part.problem)) means.1) answer done

pub judged_true : NotFlexibleLaw → AboveLogOnViewsLaw → JudgeLaw
judged_true gap views bytes outcome may done = first_told gap views bytes may.first outcome may.judged.means may.answer done

-- ---- what it may say
refusal_says : (status : Status) → MaySay (refused_status status) true
refusal_says Done = refl
refusal_says No = refl
refusal_says BadWords = refl
refusal_says BadInput = tt
refusal_says Limit = tt
refusal_says ReadFault = refl
refusal_says WriteFault = refl
refusal_says NoMemory = refl

part_says : (number : ℕ) (given outcome : Outcome) → outcome ≡ in_part number given → MaySay outcome.status true
part_says number given outcome is = subst (λ (o : Outcome). MaySay o.status true) (sym is) (refusal_says given.status)

told_says : (problem : NamedProblem) (known : Known) (outcome : Outcome) → outcome ≡ told problem known → MaySay outcome.status true
told_says problem known outcome is = subst (λ (o : Outcome). MaySay o.status true) (sym is) tt

limit_says : (outcome : Outcome) → outcome ≡ limit_of 16 (codes "parts") → MaySay outcome.status true
limit_says outcome is = subst (λ (o : Outcome). MaySay o.status true) (sym is) tt

module _ (problem : NamedProblem) where
  abbrev Well : (Known → Outcome → Type 0) → Type 0
  Well may = (known : Known) (outcome : Outcome) → may known outcome → MaySay outcome.status true

  judged_says : (may : Known → Outcome → Type 0) → Well may → (number : ℕ) (known : Known) (judged : Judged) (outcome : Outcome) → IsJudgedBy may number problem known judged outcome
      → MaySay outcome.status true
  judged_says may well number known (Refused output) outcome answer = part_says number (outcome_of output) outcome answer
  judged_says may well number known (Holds part) outcome (inl (same, more)) = well (with_fact known part.fact) outcome more
  judged_says may well number known (Holds part) outcome (inr (other, answer)) = part_says number other_problem outcome answer

  next_says : (may : List ℕ → Known → Outcome → Type 0) → ((bytes : List ℕ) → Well (may bytes)) → (at : Option ℕ) (number : ℕ) (bytes : List ℕ) → Well (λ known outcome. IsNext may at number problem known bytes outcome)
  next_says may well None number bytes known outcome lines = told_says problem known outcome lines
  next_says may well (Some at) number bytes known outcome (judged, part, answer) =
      judged_says (may (behind_joint at bytes)) (well (behind_joint at bytes)) number known judged outcome answer

  last_says : (at : Option ℕ) (known : Known) (outcome : Outcome) → IsLast at problem known outcome → MaySay outcome.status true
  last_says None known outcome lines = told_says problem known outcome lines
  last_says (Some at) known outcome limit = limit_says outcome limit

  going_says : (left number : ℕ) (bytes : List ℕ) → Well (GoesOn left number problem bytes)
  going_says zero number bytes known outcome may = last_says (joint_at bytes) known outcome may
  going_says (suc left) number bytes known outcome may = next_says (GoesOn left (suc number) problem) (going_says left (suc number)) (joint_at bytes) number bytes known outcome may

first_says : (bytes : List ℕ) (first : Judged) (outcome : Outcome) → IsJudgedFirst bytes first outcome → MaySay outcome.status true
first_says bytes (Refused output) outcome answer = part_says 1 (outcome_of output) outcome answer
first_says bytes (Holds part) outcome answer = going_says part.problem 15 2 bytes (with_fact nothing_known part.fact) outcome answer

pub judging_says : (bytes : List ℕ) (outcome : Outcome) → MayJudge bytes outcome → MaySay outcome.status true
judging_says bytes outcome may = first_says bytes may.first outcome may.answer

-- ---- part by part
pub goes_none : (left number : ℕ) (problem : NamedProblem) (bytes : List ℕ) (known : Known) (outcome : Outcome) → None ≡ joint_at bytes → outcome ≡ told problem known
    → GoesOn left number problem bytes known outcome
goes_none zero number problem bytes known outcome none lines = subst (λ at. IsLast at problem known outcome) none lines
goes_none (suc left) number problem bytes known outcome none lines = subst (λ at. IsNext (GoesOn left (suc number) problem) at number problem known bytes outcome) none lines

pub goes_next : (left before number at : ℕ) (problem : NamedProblem) (bytes behind part : List ℕ) (known : Known) (judged : Judged) (outcome : Outcome) → left ≡ suc before → Some at ≡ joint_at bytes
    → behind ≡ behind_joint at bytes → part ≡ first_part behind → IsPart part judged → IsJudgedBy (GoesOn before (number + 1) problem behind) number problem known judged outcome
    → GoesOn left number problem bytes known outcome
goes_next left before number at problem bytes behind part known judged outcome one here rest first is answer =
    let next : number + 1 ≡ suc number = omega arith in
    let P : List ℕ → Type 0 = λ behind. IsPart (first_part behind) judged in
    let Q : List ℕ → Type 0 = λ behind. IsJudgedBy (GoesOn before (suc number) problem behind) number problem known judged outcome in
    subst (λ left. GoesOn left number problem bytes known outcome) (sym one)
    (subst (λ at. IsNext (GoesOn before (suc number) problem) at number problem known bytes outcome) here (
      judged,
      subst P rest (subst (λ part. IsPart part judged) first is),
      subst Q rest (subst (λ n. IsJudgedBy (GoesOn before n problem behind) number problem known judged outcome) next answer),
    ))
