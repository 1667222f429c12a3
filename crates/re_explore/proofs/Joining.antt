-- Parts of evidence, one behind another.
use Rattle.std.proofs.Common.{◌≡◌, ◌<◌, ℕ, List, [], ◌∷◌, ◌++◌, length, refl, subst, inl, inr}
use Rattle.re_explore.specs.Evidence.{GoesOn, IsLeftOut, IsUnjudged, Joins, with_joint}
use Rattle.re_io.specs.declared.read.TheConstants.{MAX_BYTES}
use Rattle.re_problem.specs.NamedProblems.{NamedProblem}

-- ---- one part
pub joined_part : (problem : NamedProblem) (text part longer : List ℕ) → longer ≡ with_joint text part → Joins problem text (part ∷ []) longer
joined_part problem text part longer is = inl is

pub long_part : (problem : NamedProblem) (text part longer : List ℕ) → longer ≡ with_joint text part → MAX_BYTES < length longer → Joins problem text (part ∷ []) text
long_part problem text part longer is long = inr (subst (IsLeftOut problem) is (inl long), refl)

pub unjudged_part : (problem : NamedProblem) (text part longer : List ℕ) → longer ≡ with_joint text part → IsUnjudged problem longer → Joins problem text (part ∷ []) text
unjudged_part problem text part longer is unjudged = inr (subst (IsLeftOut problem) is (inr unjudged), refl)

-- ---- more of them
pub goes_nowhere : (problem : NamedProblem) (text : List ℕ) → GoesOn problem text text
goes_nowhere problem text = ([], refl)

pub goes_by : (problem : NamedProblem) (text : List ℕ) (found : List (List ℕ)) (longer : List ℕ) → Joins problem text found longer → GoesOn problem text longer
goes_by problem text found longer joins = (found, joins)

joins_more : (problem : NamedProblem) (text : List ℕ) (found more : List (List ℕ)) (middle longer : List ℕ) → Joins problem text found middle → Joins problem middle more longer
    → Joins problem text (found ++ more) longer
joins_more problem text [] more middle longer same next = subst (λ t. Joins problem t more longer) same next
joins_more problem text (part ∷ found) more middle longer (inl there) next = inl (joins_more problem (with_joint text part) found more middle longer there next)
joins_more problem text (part ∷ found) more middle longer (inr (left, others)) next = inr (left, joins_more problem text found more middle longer others next)

pub goes_further : (problem : NamedProblem) (text middle longer : List ℕ) → GoesOn problem text middle → GoesOn problem middle longer → GoesOn problem text longer
goes_further problem text middle longer (found, first) (more, next) = (found ++ more, joins_more problem text found more middle longer first next)
