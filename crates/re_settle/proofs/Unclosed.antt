-- Where no fixed point of a closure shows that no number of rounds is enough.
use Rattle.std.proofs.Common.{◌≡◌, ◌≤◌, ◌<◌, ◌⊎◌, ℕ, zero, suc, Bool, true, false, List, length, nat_lt, None, Some, inl, inr, refl, sym, ap, ◌∙◌, subst, arith}
use Rattle.std.proofs.lemmas.Bool.Decides.{nat_tests}
use Rattle.std.specs.Prelude.{◌↔◌, IsTrue, if◌then◌else◌, slice_index_or}
use Rattle.re_cert.specs.Bounds.{Bound, last_problem}
use Rattle.re_chains.specs.OverChains.{certificate_outcome}
use Rattle.re_closure.specs.ClosureWords.{IsClosureLine, MayFind, closure_line, limit_line}
use Rattle.re_closure.specs.Closures.{HasRoom, IsClosed, IsSolvableBy, LimitIs}
use Rattle.re_closure.specs.Laws.{IsWayLine, OneOutcomeLaw}
use Rattle.re_closure.specs.declared.types.ClosureLimit.{ClosureLimit}
use Rattle.re_closure.specs.declared.types.ClosureLimit.TheVariants.{Combinations, Configurations, Labels, Rows, Steps}
use Rattle.re_frame.specs.Outcomes.{Outcome, done, limit, refused, too_long, within_limit}
use Rattle.re_frame.specs.declared.status.Status.{Status}
use Rattle.re_frame.specs.declared.status.Status.TheVariants as status
use Rattle.re_settings.specs.declared.setting.Setting.TheVariants.{Alone}
use Rattle.re_io.specs.declared.read.TheConstants.{MAX_BYTES}
use Rattle.re_problem.specs.NamedProblems.{NamedProblem, unnamed}
use Rattle.re_problem.specs.Problems.{IsProblem}
use Rattle.re_problem.specs.Zero.{zero_place}
use Rattle.re_settle.specs.Ways.{ClosesBehind, HasText, IsClosable, IsEnd, IsUnclosed}
use Rattle.re_shaping.specs.Stepped.{stepped, stepping_fault}
use Rattle.re_shaping.specs.declared.stepping.ChainStepFault.{ChainStepFault}
use Rattle.re_texts.specs.PrintedCertificates.{certificate_text}

-- ---- answers of the word `closure` to a chain
abbrev MayGive : Bound → Outcome → Type 0
MayGive chain outcome = MayFind (IsClosureLine chain) Alone chain outcome

-- a fixed point that has a text is given as it
done_text : (bound : Bound) → HasText bound → done (certificate_text bound) ≡ certificate_outcome bound
unfolding within_limit
done_text bound text =
    let few = text.short in
    let short : nat_lt MAX_BYTES (length (certificate_text bound)) ≡ false = grind (arith, nat_tests) in
    sym (ap (λ (over : Bool). if over then too_long else done (certificate_text bound)) short)

with_text : (chain bound : Bound) → HasRoom chain → IsClosed chain bound → HasText bound → MayGive chain (done (certificate_text bound))
with_text chain bound room closed text =
    inl (bound, record { one = done_text bound text; gives = λ finished. text; room = room; closed = closed; goes_on = closed.goes_on })

-- for one whose text is too long there is a line
long_text : (bound : Bound) → MAX_BYTES < length (certificate_text bound) → too_long ≡ certificate_outcome bound
unfolding within_limit
long_text bound many =
    let long : nat_lt MAX_BYTES (length (certificate_text bound)) ≡ true = grind (arith, nat_tests) in
    sym (ap (λ (over : Bool). if over then too_long else done (certificate_text bound)) long)

limit_isnt_done : status.Limit ≡ status.Done → ⊥
limit_isnt_done e = cc

limit_isnt_no : status.Limit ≡ status.No → ⊥
limit_isnt_no e = cc

done_isnt_limit : status.Done ≡ status.Limit → ⊥
done_isnt_limit e = cc

done_isnt_no : status.Done ≡ status.No → ⊥
done_isnt_no e = cc

no_isnt_limit : status.No ≡ status.Limit → ⊥
no_isnt_limit e = cc

without_text : (chain bound : Bound) → HasRoom chain → IsClosed chain bound → MAX_BYTES < length (certificate_text bound) → MayGive chain too_long
without_text chain bound room closed many =
    inl (bound, record { one = long_text bound many; gives = λ finished. absurd (limit_isnt_done finished); room = room; closed = closed; goes_on = closed.goes_on })

-- what shows that the closure is solvable without communication is given so
solvable_text : (chain : Bound) (sets : List (List ℕ)) → HasRoom chain → IsSolvableBy (last_problem chain) sets → MayGive chain (refused (closure_line (last_problem chain) sets))
solvable_text chain sets room solvable = inr (inl (sets, refl, room, solvable))

-- ---- these answers differ
-- and none of them is a limit on the way to the closure
status_apart : (one two : Outcome) → (one.status ≡ two.status → ⊥) → one ≡ two → ⊥
status_apart one two apart e = apart (ap (λ (o : Outcome). o.status) e)

way_apart : (outcome : Outcome) → (outcome.status ≡ status.Limit → ⊥) → IsWayLine outcome → ⊥
way_apart outcome apart (passed, way, e) = apart (ap (λ (o : Outcome). o.status) e)

-- the line of a text that is too long differs from these in its eighth letter
letters_apart : (a b : ℕ) → a ≡ b → a ≡ 109 → b ≡ 99 → ⊥
letters_apart a b e f g = omega (arith, e, f, g)

long_apart : IsWayLine too_long → ⊥
long_apart (Rows, way, e) = letters_apart _ _ (ap (λ (o : Outcome). slice_index_or o.text 7 0) e) refl refl
long_apart (Combinations, way, e) = letters_apart _ _ (ap (λ (o : Outcome). slice_index_or o.text 7 0) e) refl refl
long_apart (Labels count, way, e) = absurd way
long_apart (Configurations, way, e) = absurd way
long_apart (Steps, way, e) = absurd way

module _ (law : OneOutcomeLaw) (chain : Bound) (is : IsProblem (unnamed (last_problem chain))) (room : HasRoom chain) where
  -- the chain decides the answer, but for these limits
  apart : (one two : Outcome) → MayGive chain one → MayGive chain two → (one ≡ two → ⊥) → (IsWayLine one → ⊥) → (IsWayLine two → ⊥) → ⊥
  apart one two f g differ no_way no_other = go (law chain one two is f g)
    where
      go : (one ≡ two) ⊎ (IsWayLine one ⊎ IsWayLine two) → ⊥
      go (inl e) = differ e
      go (inr (inl way)) = no_way way
      go (inr (inr way)) = no_other way

  -- a closure that is solvable without communication has no fixed point
  pub text_or_solvable : (bound : Bound) (sets : List (List ℕ)) → IsClosed chain bound → HasText bound → IsSolvableBy (last_problem chain) sets → ⊥
  text_or_solvable bound sets closed text solvable =
      let given : Outcome = done (certificate_text bound) in
      let other : Outcome = refused (closure_line (last_problem chain) sets) in
      apart given other (with_text chain bound room closed text) (solvable_text chain sets room solvable)
      (status_apart given other done_isnt_no) (way_apart given done_isnt_limit) (way_apart other no_isnt_limit)

  pub long_or_solvable : (bound : Bound) (sets : List (List ℕ)) → IsClosed chain bound → MAX_BYTES < length (certificate_text bound) → IsSolvableBy (last_problem chain) sets → ⊥
  long_or_solvable bound sets closed many solvable =
      let other : Outcome = refused (closure_line (last_problem chain) sets) in
      apart too_long other (without_text chain bound room closed many) (solvable_text chain sets room solvable)
      (status_apart too_long other limit_isnt_no) long_apart (way_apart other no_isnt_limit)

  -- there is one fixed point
  pub text_or_long : (bound other : Bound) → IsClosed chain bound → HasText bound → IsClosed chain other → MAX_BYTES < length (certificate_text other) → ⊥
  text_or_long bound other closed text other_closed many =
      let given : Outcome = done (certificate_text bound) in
      apart given too_long (with_text chain bound room closed text) (without_text chain other room other_closed many)
      (status_apart given too_long done_isnt_limit) (way_apart given done_isnt_limit) long_apart

-- ---- where a chain isn't gone on with
pub end_by_fault : (times : ℕ) (chain : Bound) (fault : ChainStepFault) → stepping_fault chain ≡ Some fault → IsEnd times chain
end_by_fault times chain fault stops none small = let e : None ≡ Some fault = sym none ∙ stops in cc

pub end_by_size : (times : ℕ) (chain next : Bound) (last : NamedProblem) (may : Bool) → next ≡ stepped chain → last ≡ last_problem next → IsTrue may ↔ IsClosable times last → may ≡ false → IsEnd times chain
end_by_size times chain next last may is_next is_last decides off none small =
    let here : IsClosable times (last_problem next) = subst (λ (b : Bound). IsClosable times (last_problem b)) (sym is_next) small in
    let wrong : false ≡ true = sym off ∙ decides.1 (subst (IsClosable times) (sym is_last) here) in
    cc

-- ---- what excludes a fixed point of a closure
module _ (times more : ℕ) (chain : Bound) where
  -- the problem is solvable without communication
  pub unclosed_at_once : (place : ℕ) → zero_place (unnamed (last_problem chain)) ≡ Some place → IsUnclosed times more chain
  unclosed_at_once place fit zero few here behind = let e : None ≡ Some place = sym here.not_zero ∙ fit in cc
  unclosed_at_once place fit (suc steps) few (here, small, later) behind = let e : None ≡ Some place = sym here.not_zero ∙ fit in cc

  -- a limit is passed
  pub unclosed_by_limit : (passed : ClosureLimit) → LimitIs chain passed → IsUnclosed times more chain
  unclosed_by_limit passed told zero few here behind = here.within passed told
  unclosed_by_limit passed told (suc steps) few (here, small, later) behind = here.within passed told

  module _ (law : OneOutcomeLaw) (is : IsProblem (unnamed (last_problem chain))) (room : HasRoom chain) where
    -- the text of the fixed point is too long
    pub unclosed_by_length : (bound : Bound) → IsClosed chain bound → MAX_BYTES < length (certificate_text bound) → IsUnclosed times more chain
    unclosed_by_length bound closed many zero few here (other, other_closed, text) = text_or_long law chain is room other bound other_closed text closed many
    unclosed_by_length bound closed many (suc steps) few (here, small, later) (sets, solvable, none, behind) = long_or_solvable law chain is room bound sets closed many solvable

    -- the closure is solvable without communication, and the chain isn't gone on with, or shows nothing there
    module _ (sets : List (List ℕ)) (solvable : IsSolvableBy (last_problem chain) sets) where
      pub unclosed_here : more ≡ 0 → IsUnclosed times more chain
      unclosed_here most zero few here (bound, closed, text) = text_or_solvable law chain is room bound sets closed text solvable
      unclosed_here most (suc steps) few within behind = absurd (omega (arith, most, few))

      pub unclosed_at_end : IsEnd times chain → IsUnclosed times more chain
      unclosed_at_end ends zero few here (bound, closed, text) = text_or_solvable law chain is room bound sets closed text solvable
      unclosed_at_end ends (suc steps) few (here, small, later) (others, other_solvable, none, behind) = ends none small

      pub unclosed_later : (next : Bound) (less : ℕ) → next ≡ stepped chain → more ≡ suc less → IsUnclosed times less next → IsUnclosed times more chain
      unclosed_later next less is_next one unclosed zero few here (bound, closed, text) = text_or_solvable law chain is room bound sets closed text solvable
      unclosed_later next less is_next one unclosed (suc steps) few (here, small, later) (others, other_solvable, none, behind) =
          subst (IsUnclosed times less) is_next unclosed steps (omega (arith, one, few)) later behind
