-- How many labels the search for a renaming tries.
use Rattle.std.proofs.Common.{◌≡◌, ℕ, zero, suc, ◌+◌, ◌-◌, ◌<◌, ◌≤◌, Bool, true, false, cond, eqb, List, length, drop, take, length-drop, zero-add, refl, sym, ap, ◌∙◌, subst, arith, inl, inr, Some, None}
use Rattle.std.specs.List.{sum_by}
use Rattle.std.proofs.lemmas.List.Sums.{sum_by_push}
use Rattle.re_labels.proofs.Sorting.{take_all}
use Rattle.re_labels.proofs.Membership.{count_from-last}
use Rattle.re_labels.proofs.Tests.{below-cases, eqb-apart, eqb-same}
use Rattle.re_labels.specs.Lists.{count_from}
use Rattle.re_labels.specs.declared.TheConstants.{MAX_LABELS}
use Rattle.re_problem.specs.NamedProblems.{NamedProblem}
use Rattle.re_shaping.specs.Answers.{IsSettled, Takes}
use Rattle.re_shaping.specs.Colours.{colour_at, mark_of, refined, with_single}
use Rattle.re_shaping.specs.Tries.{first_shared, tries_for, tries_of}
use Rattle.re_shaping.specs.declared.finding.Renaming.{Renaming}
use Rattle.re_shaping.specs.declared.finding.Renaming.TheVariants.{Found, Missing, TooMany}
use Rattle.re_shaping.specs.declared.finding.TheConstants.{MAX_TRIES}

-- ---- whole searches
same_marks : (colours others : List ℕ) → mark_of colours ≡ mark_of others → eqb (mark_of colours) (mark_of others) ≡ true
same_marks colours others e = subst (λ m. eqb (mark_of colours) m ≡ true) e (eqb-same (mark_of colours))

pub marked_tries : (depth : ℕ) (from to : NamedProblem) (colours others : List ℕ) → (mark_of colours ≡ mark_of others → ⊥) → tries_of depth from to colours others ≡ 0
unfolding tries_of
marked_tries zero from to colours others differ = let t : eqb (mark_of colours) (mark_of others) ≡ false = eqb-apart (mark_of colours) (mark_of others) differ in rw t refl
marked_tries (suc depth) from to colours others differ = let t : eqb (mark_of colours) (mark_of others) ≡ false = eqb-apart (mark_of colours) (mark_of others) differ in rw t refl

either_one : (b : Bool) (n : ℕ) → cond b n n ≡ n
either_one true n = refl
either_one false n = refl

pub apart_tries : (depth : ℕ) (from to : NamedProblem) (colours others : List ℕ) → None ≡ first_shared colours → tries_of depth from to colours others ≡ 0
unfolding tries_of
apart_tries zero from to colours others none = let e : first_shared colours ≡ None = sym none in rw e (either_one (eqb (mark_of colours) (mark_of others)) 0)
apart_tries (suc depth) from to colours others none = let e : first_shared colours ≡ None = sym none in rw e (either_one (eqb (mark_of colours) (mark_of others)) 0)

pub deep_tries : (depth single : ℕ) (from to : NamedProblem) (colours others : List ℕ) → depth ≡ 0 → mark_of colours ≡ mark_of others → Some single ≡ first_shared colours
    → tries_of depth from to colours others ≡ suc MAX_TRIES
unfolding tries_of
deep_tries depth single from to colours others end same shared =
    let t : eqb (mark_of colours) (mark_of others) ≡ true = same_marks colours others same in
    let e : first_shared colours ≡ Some single = sym shared in
    let whole : tries_of 0 from to colours others ≡ suc MAX_TRIES = rw (t, e) refl in
    ap (λ d. tries_of d from to colours others) end ∙ whole

pub shared_tries : (depth less single : ℕ) (from to : NamedProblem) (colours others : List ℕ) → depth ≡ suc less → mark_of colours ≡ mark_of others → Some single ≡ first_shared colours
    → tries_of depth from to colours others ≡ sum_by (tries_for (tries_of less from to) from to colours others single) (count_from 0 (length others))
unfolding tries_of
shared_tries depth less single from to colours others more same shared =
    let t : eqb (mark_of colours) (mark_of others) ≡ true = same_marks colours others same in
    let e : first_shared colours ≡ Some single = sym shared in
    let whole : tries_of (suc less) from to colours others ≡ sum_by (tries_for (tries_of less from to) from to colours others single) (count_from 0 (length others)) = rw (t, e) refl in
    ap (λ d. tries_of d from to colours others) more ∙ whole

pub same_tries : (less : ℕ) (from to : NamedProblem) (colours others : List ℕ) (single label : ℕ) → colour_at others label ≡ colour_at colours single
    → tries_for (tries_of less from to) from to colours others single label ≡ suc (tries_of less from to (refined MAX_LABELS from (with_single colours single)) (refined MAX_LABELS to (with_single others label)))
unfolding tries_for
same_tries less from to colours others single label e =
    let t : eqb (colour_at others label) (colour_at colours single) ≡ true = subst (λ v. eqb (colour_at others label) v ≡ true) e (eqb-same (colour_at others label)) in rw t refl

pub other_tries : (less : ℕ) (from to : NamedProblem) (colours others : List ℕ) (single label : ℕ) → (colour_at others label ≡ colour_at colours single → ⊥)
    → tries_for (tries_of less from to) from to colours others single label ≡ 0
unfolding tries_for
other_tries less from to colours others single label differ = let t : eqb (colour_at others label) (colour_at colours single) ≡ false = eqb-apart (colour_at others label) (colour_at colours single) differ in rw t refl

-- ---- sums over the labels so far
sum_next : (f : ℕ → ℕ) (n : ℕ) → sum_by f (count_from 0 (suc n)) ≡ sum_by f (count_from 0 n) + f n
sum_next f n = ap (sum_by f) (count_from-last 0 n) ∙ sum_by_push f (count_from 0 n) (0 + n) ∙ ap (λ k. sum_by f (count_from 0 n) + f k) (zero-add n)

pub sum_more : (f : ℕ → ℕ) (n : ℕ) → sum_by f (count_from 0 (n + 1)) ≡ sum_by f (count_from 0 n) + f n
sum_more f n = ap (λ k. sum_by f (count_from 0 k)) one ∙ sum_next f n
  where
    one : n + 1 ≡ suc n
    one = omega arith

pub sum_most : (f : ℕ → ℕ) (label n : ℕ) → label < n → sum_by f (count_from 0 label) + f label ≤ sum_by f (count_from 0 n)
sum_most f label zero below = absurd (omega arith)
sum_most f label (suc n) below = elim (below-cases label n (omega arith)) [
  | inl earlier ↦ let rest : sum_by f (count_from 0 label) + f label ≤ sum_by f (count_from 0 n) = sum_most f label n earlier in omega (arith, rest, sum_next f n)
  | inr now ↦ subst (λ k. sum_by f (count_from 0 k) + f k ≤ sum_by f (count_from 0 (suc n))) (sym now) (omega (arith, sum_next f n))
]

-- ---- what is left of the tries
-- a label of another colour takes none
pub passed_by : (f : ℕ → ℕ) (start tries label : ℕ) → start ≡ tries + sum_by f (count_from 0 label) → f label ≡ 0 → start ≡ tries + sum_by f (count_from 0 (label + 1))
passed_by f start tries label before none = omega (arith, before, none, sum_more f label)

-- one of the same colour takes one and those that follow
pub tried_all : (f : ℕ → ℕ) (start tries left following label : ℕ) → start ≡ tries + sum_by f (count_from 0 label) → (tries ≡ 0 → ⊥) → tries - 1 ≡ left + following → f label ≡ suc following
    → start ≡ left + sum_by f (count_from 0 (label + 1))
tried_all f start tries left following label before some taken is = omega (arith, before, some, taken, is, sum_more f label)

-- no try is left for it
pub none_left : (f : ℕ → ℕ) (start tries following label n : ℕ) → start ≡ tries + sum_by f (count_from 0 label) → tries ≡ 0 → label < n → f label ≡ suc following → start < sum_by f (count_from 0 n)
none_left f start tries following label n before none below is = omega (arith, before, none, is, sum_most f label n below)

-- too few are left for those that follow
pub few_left : (f : ℕ → ℕ) (start tries following label n : ℕ) → start ≡ tries + sum_by f (count_from 0 label) → tries - 1 < following → label < n → f label ≡ suc following → start < sum_by f (count_from 0 n)
few_left f start tries following label n before few below is = omega (arith, before, few, is, sum_most f label n below)

pub takes_none : (before whole : ℕ) (result : Renaming) → whole ≡ 0 → IsSettled result → Takes before before whole result
takes_none before whole (Found images) none settled = tt
takes_none before whole Missing none settled = omega arith
takes_none before whole TooMany none settled = absurd settled

-- ---- the labels behind one
pub behind_whole : (all : List ℕ) (x : ℕ) → take (length all - (x + 1)) (drop (x + 1) all) ≡ drop (x + 1) all
behind_whole all x = take_all (drop (x + 1) all) (length all - (x + 1)) (omega (arith, length-drop (x + 1) all))
