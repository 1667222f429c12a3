-- The canonical text of a problem is read as the problem.
use Rattle.std.proofs.lemmas.List.{append-nil}
use Rattle.std.proofs.Common.{◌≡◌, ℕ, zero, suc, ◌<◌, ◌≤◌, ◌+◌, false, cond, not, List, [], ◌∷◌, ◌++◌, length, filter, flat_map, get_or, map, refl, sym, ap, ◌∙◌, subst, arith, inl, inr, append_assoc, decimal, None}
use Rattle.std.specs.List.{AllByRecursion}
use Rattle.std.proofs.lemmas.Grind.{flat_map-append}
use Rattle.re_texts.proofs.BlocksWritten.{Writes, block_written, written_names}
use Rattle.re_texts.proofs.ConfigLines.{name_at}
use Rattle.re_texts.proofs.StandingLines.{AllStand, block_passed, group_alone, group_ended}
use Rattle.re_texts.specs.CanonicalLines.{CanonicalLaw, CanonicalLinesLaw, IsWithinLimits, block_lines, canonical_lines, lines_for}
use Rattle.re_problem.specs.ItemSteps.{is_nil}
use Rattle.re_labels.proofs.ListSets.{In-list_set, list_set-In, one_set, rising-list_set}
use Rattle.re_labels.proofs.Membership.{In, In-append_cases, In-append_left, In-append_right}
use Rattle.re_problem.proofs.EndedLines.{NoFeed, lines_in-ended, parts-ended}
use Rattle.re_problem.specs.CanonicalTexts.{canonical, config_text, lines_text}
use Rattle.re_problem.specs.NamedProblems.{IsNamedProblem, NamedProblem}
use Rattle.re_problem.specs.ProblemTexts.{all_but_last, block, block_constraint, closed, end_fault, ended, fault_if, first_fault, first_from, groups, last_or, line_items, lines_in, lines_of, names_in, names_of, open_block, problem_of}
use Rattle.re_problem.specs.declared.fault.InputFault.TheVariants.{MissingBlock}
use Rattle.re_labels.specs.declared.TheConstants.{MAX_LABELS}

-- ---- the lines of the text
lines_text-ended : (names : List (List ℕ)) (degree : ℕ) (configs : List (List ℕ)) → lines_text names degree configs ≡ ended (lines_for names degree configs)
lines_text-ended names degree [] = sym (append-nil ((37 ∷ decimal degree) ++ 10 ∷ []))
lines_text-ended names degree (config ∷ configs) = each (config ∷ configs)
  where
    each : (configs : List (List ℕ)) → flat_map (λ c. config_text names c ++ 10 ∷ []) configs ≡ ended (map (config_text names) configs)
    each [] = refl
    each (c ∷ cs) = ap (λ t. (config_text names c ++ 10 ∷ []) ++ t) (each cs)

pub text_ended : (problem : NamedProblem) → canonical problem ≡ ended (canonical_lines problem)
unfolding canonical
text_ended problem =
    (λ i. (lines_text-ended problem.names problem.active.degree problem.active.configs i ++ 10 ∷ []) ++ lines_text-ended problem.names problem.passive.degree problem.passive.configs i)
    ∙ append_assoc (ended (block_lines problem.names problem.active)) (10 ∷ []) (ended (block_lines problem.names problem.passive))
    ∙ sym (flat_map-append (λ l. l ++ 10 ∷ []) (block_lines problem.names problem.active) ([] ∷ block_lines problem.names problem.passive))

pub all_append : {X : Type 0} (P : X → Type 0) (xs ys : List X) → AllByRecursion P xs → AllByRecursion P ys → AllByRecursion P (xs ++ ys)
all_append P [] ys h k = k
all_append P (x ∷ xs) ys h k = (h.0, all_append P xs ys h.1 k)

-- no line of the text has a line feed
pub canonical_feeds : (problem : NamedProblem) → IsNamedProblem problem → AllByRecursion NoFeed (canonical_lines problem)
canonical_feeds problem is =
    let active = (block_written problem.names problem.active is.names is.problem.active).feed in
    let passive = (block_written problem.names problem.passive is.names is.problem.passive).feed in
    all_append NoFeed (block_lines problem.names problem.active) ([] ∷ block_lines problem.names problem.passive) active (tt, passive)

-- where a name stands
In-place : (names : List (List ℕ)) (name : List ℕ) → In name names → (label : ℕ) × (label < length names) × (name_at names label ≡ name)
In-place [] name i = absurd i
In-place (first ∷ names) name (inl e) = (zero, omega arith, sym e)
In-place (first ∷ names) name (inr i) = let r = In-place names name i in (suc r.0, omega (arith, r.1), r.2)

module _ (problem : NamedProblem) (is : IsNamedProblem problem) where
  abbrev active_lines : List (List ℕ)
  active_lines = block_lines problem.names problem.active

  abbrev passive_lines : List (List ℕ)
  passive_lines = block_lines problem.names problem.passive

  abbrev all_lines : List (List ℕ)
  all_lines = canonical_lines problem

  active : Writes problem.names problem.active (block_lines problem.names problem.active)
  active = block_written problem.names problem.active is.names is.problem.active

  passive : Writes problem.names problem.passive (block_lines problem.names problem.passive)
  passive = block_written problem.names problem.passive is.names is.problem.passive

  lines_are : lines_of (canonical problem) ≡ canonical_lines problem
  lines_are =
      ap lines_of (text_ended problem)
      ∙ ap lines_in (parts-ended (canonical_lines problem) (all_append NoFeed active_lines ([] ∷ passive_lines) active.feed (tt, passive.feed)))
      ∙ lines_in-ended (canonical_lines problem)

  -- ---- the blocks
  cut : groups (canonical_lines problem) ≡ active_lines ∷ passive_lines ∷ []
  cut = group_ended active_lines passive_lines active.filled ∙ ap (λ g. active_lines ∷ g) (group_alone passive_lines passive.filled)

  cut_ended : groups (active_lines ++ [] ∷ []) ≡ active_lines ∷ [] ∷ []
  cut_ended = group_ended active_lines [] active.filled

  -- the first of two groups, which is filled, has ended
  one_closed : (a b : List (List ℕ)) → is_nil a ≡ false → filter (λ g. not (is_nil g)) (all_but_last (a ∷ b ∷ [])) ≡ a ∷ []
  one_closed a b some = ap (λ t. cond (not t) (a ∷ []) []) some

  block_is : (k : ℕ) → block (canonical_lines problem) k ≡ get_or (active_lines ∷ passive_lines ∷ []) k []
  block_is k =
      ap (λ g. get_or (filter (λ b. not (is_nil b)) (all_but_last g) ++ last_or [] g ∷ []) k []) cut
      ∙ ap (λ g. get_or (g ++ passive_lines ∷ []) k []) (one_closed active_lines passive_lines active.some)

  -- ---- the names
  names_are : names_of (canonical_lines problem) ≡ problem.names
  names_are = one_set (names_of (canonical_lines problem)) problem.names (rising-list_set (written_names (canonical_lines problem))) is.names.ascends
      (λ name i. held name (In-list_set (written_names (canonical_lines problem)) name i)) (λ name i. list_set-In (written_names (canonical_lines problem)) name (written name i))
    where
      split : written_names (canonical_lines problem) ≡ written_names active_lines ++ written_names passive_lines
      split = flat_map-append (λ line. names_in (line_items line)) active_lines ([] ∷ passive_lines)

      held : (name : List ℕ) → In name (written_names (canonical_lines problem)) → In name problem.names
      held name i = elim (In-append_cases name (written_names active_lines) (written_names passive_lines) (subst (In name) split i)) [
        | inl j ↦ active.names_held name j
        | inr j ↦ passive.names_held name j
      ]

      written_at : (label : ℕ) → label < length problem.names → In (name_at problem.names label) (written_names (canonical_lines problem))
      written_at label below = subst (In (name_at problem.names label)) (sym split) (elim (is.occur label below) [
        | inl o ↦ In-append_left (name_at problem.names label) (written_names active_lines) (written_names passive_lines) (active.names_written label o)
        | inr o ↦ In-append_right (name_at problem.names label) (written_names active_lines) (written_names passive_lines) (passive.names_written label o)
      ])

      written : (name : List ℕ) → In name problem.names → In name (written_names (canonical_lines problem))
      written name i = let (label, below, at) = In-place problem.names name i in subst (λ n. In n (written_names (canonical_lines problem))) at (written_at label below)

  problem_is : problem_of (canonical_lines problem) ≡ problem
  problem_is =
      ap (λ names. record { names = names; active = block_constraint names (block (canonical_lines problem) 0); passive = block_constraint names (block (canonical_lines problem) 1) }) names_are
      ∙ (λ i. record { names = problem.names; active = block_constraint problem.names (block_is 0 i); passive = block_constraint problem.names (block_is 1 i) })
      ∙ (λ i. record {
        names = problem.names;
        active = record { degree = active.degree i; configs = active.configs i };
        passive = record { degree = passive.degree i; configs = passive.configs i };
      })

  -- ---- no fault
  module _ (limits : IsWithinLimits problem) (byte start : ℕ) where
    few_names : length (names_of (canonical_lines problem)) ≤ MAX_LABELS
    few_names = subst (λ n. length n ≤ MAX_LABELS) (sym names_are) is.names.few

    same_lines : (active_lines ++ [] ∷ []) ++ passive_lines ≡ canonical_lines problem
    same_lines = append_assoc active_lines ([] ∷ []) passive_lines

    past_active : first_from byte start [] (canonical_lines problem) ≡ first_from byte start (active_lines ++ [] ∷ []) passive_lines
    past_active = block_passed byte start [] active_lines ([] ∷ passive_lines) (omega arith) (active.stand limits.0) few_names

    past_passive : first_from byte start (active_lines ++ [] ∷ []) passive_lines ≡ end_fault start (canonical_lines problem)
    past_passive =
        let room : length (closed (active_lines ++ [] ∷ [])) < 2 = (
        let e : closed (active_lines ++ [] ∷ []) ≡ active_lines ∷ [] = ap (λ g. filter (λ b. not (is_nil b)) (all_but_last g)) cut_ended ∙ one_closed active_lines [] active.some in
        subst (λ c. length c < 2) (sym e) (omega arith)) in
        let idle : open_block (active_lines ++ [] ∷ []) ≡ [] = ap (last_or []) cut_ended in
        let all : (active_lines ++ [] ∷ []) ++ (passive_lines ++ []) ≡ canonical_lines problem = ap (λ l. (active_lines ++ [] ∷ []) ++ l) (append-nil passive_lines) ∙ same_lines in
        ap (first_from byte start (active_lines ++ [] ∷ [])) (sym (append-nil passive_lines))
        ∙ block_passed byte start (active_lines ++ [] ∷ []) passive_lines [] room (subst (λ done. AllStand done passive_lines) (sym idle) (passive.stand limits.1)) (subst (λ l. length (names_of l) ≤ MAX_LABELS) (sym all) few_names)
        ∙ ap (end_fault start) same_lines

    no_fault : first_fault byte start (canonical_lines problem) ≡ None
    no_fault = past_active ∙ past_passive ∙ ap (λ t. fault_if t (MissingBlock (start + length (canonical_lines problem)))) (ap is_nil (block_is 1) ∙ passive.some)

pub canonical_lines_law : CanonicalLinesLaw
canonical_lines_law problem is = (text_ended problem, lines_are problem is)

pub canonical_law : CanonicalLaw
canonical_law problem is limits = (
  λ byte start. ap (first_fault byte start) (lines_are problem is) ∙ no_fault problem is limits byte start,
  ap problem_of (lines_are problem is) ∙ problem_is problem is,
)
