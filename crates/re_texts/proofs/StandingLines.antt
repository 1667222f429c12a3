-- Lines that may stand one behind the other in a block have no fault.
use Rattle.std.proofs.lemmas.List.{append-nil}
use Rattle.std.proofs.Common.{◌≡◌, ℕ, ◌<◌, ◌≤◌, ◌+◌, true, false, cond, not, leb, ltb, List, [], ◌∷◌, ◌++◌, length, flat_map, refl, sym, ap, ◌∙◌, subst, arith, append_assoc, None}
use Rattle.std.specs.List.{AllByRecursion, onto_first}
use Rattle.std.proofs.lemmas.Bool.Decides.{nat_tests}
use Rattle.std.proofs.lemmas.Grind.{flat_map-append}
use Rattle.re_problem.specs.Bytes.{bad_byte, is_empty_line}
use Rattle.re_labels.proofs.ListSets.{list_set-longer}
use Rattle.re_labels.specs.ListSets.{list_set}
use Rattle.re_problem.proofs.TextLines.{closed_more, open_more}
use Rattle.re_problem.specs.ProblemTexts.{block_configs, byte_fault, bytes_of, closed, degree_fault, fault_at, fault_if, first_from, groups, has_form, line_degree, line_items, names_in, names_of, open_block, or_else}
use Rattle.re_problem.specs.declared.fault.InputFault.TheVariants.{BadItem, ExtraBlock, TooManyConfigurations, TooManyLabels}
use Rattle.re_labels.specs.declared.constraint_table.TheConstants.{MAX_CONFIGURATIONS}
use Rattle.re_labels.specs.declared.TheConstants.{MAX_LABELS}

-- the line may stand behind these of its block, whatever the names are
pub record MayStand (done : List (List ℕ)) (line : List ℕ) : Type 0 where
  pub filled : is_empty_line line ≡ false
  pub allowed : bad_byte line ≡ None
  pub formed : has_form done line ≡ true
  pub degree : (number : ℕ) → degree_fault number done (line_degree line) ≡ None
  pub few : (names : List (List ℕ)) → length (block_configs names (done ++ line ∷ [])) ≤ MAX_CONFIGURATIONS

-- and so on for each of the lines
abbrev pub AllStand : List (List ℕ) → List (List ℕ) → Type 0
AllStand done [] = Unit {0}
AllStand done (line ∷ lines) = MayStand done line × AllStand (done ++ line ∷ []) lines

no_fault : (byte start : ℕ) (before : List (List ℕ)) (line : List ℕ) → length (closed before) < 2 → MayStand (open_block before) line → length (names_of (before ++ line ∷ [])) ≤ MAX_LABELS → fault_at byte start before line ≡ None
no_fault byte start before line room stands few_names =
    let number : ℕ = start + length before in
    let names : List (List ℕ) = names_of (before ++ line ∷ []) in
    λ i. cond (stands.filled i) None
    (or_else
    (or_else (byte_fault (byte + bytes_of before) (stands.allowed i))
    (or_else (fault_if (at_least 2 (length (closed before)) room i) (ExtraBlock (start + length before)))
    (or_else (fault_if (not (stands.formed i)) (BadItem (start + length before))) (stands.degree (start + length before) i))))
    (or_else (fault_if (at_most MAX_LABELS (length (names_of (before ++ line ∷ []))) few_names i) (TooManyLabels (start + length before)))
    (fault_if (at_most MAX_CONFIGURATIONS (length (block_configs (names_of (before ++ line ∷ [])) (open_block before ++ line ∷ []))) (stands.few (names_of (before ++ line ∷ []))) i) (TooManyConfigurations (start + length before)))))
  where
    at_least : (least n : ℕ) → n < least → leb least n ≡ false
    at_least least n below = grind (arith, nat_tests)

    at_most : (most n : ℕ) → n ≤ most → ltb most n ≡ false
    at_most most n few = grind (arith, nat_tests)

names_longer : (xs ys : List (List ℕ)) → length (names_of xs) ≤ length (names_of (xs ++ ys))
names_longer xs ys =
    let more = list_set-longer (flat_map (λ line. names_in (line_items line)) xs) (flat_map (λ line. names_in (line_items line)) ys) in
    subst (λ n. length (names_of xs) ≤ length (list_set n)) (sym (flat_map-append (λ line. names_in (line_items line)) xs ys)) more

-- past all lines of a block
pub block_passed : (byte start : ℕ) (before lines rest : List (List ℕ)) → length (closed before) < 2 → AllStand (open_block before) lines → length (names_of (before ++ (lines ++ rest))) ≤ MAX_LABELS
    → first_from byte start before (lines ++ rest) ≡ first_from byte start (before ++ lines) rest
block_passed byte start before [] rest room stand few = ap (λ b. first_from byte start b rest) (sym (append-nil before))
block_passed byte start before (line ∷ lines) rest room stand few =
    let all : (before ++ line ∷ []) ++ (lines ++ rest) ≡ before ++ (line ∷ lines ++ rest) = append_assoc before (line ∷ []) (lines ++ rest) in
    let fewer : length (names_of ((before ++ line ∷ []) ++ (lines ++ rest))) ≤ MAX_LABELS = subst (λ l. length (names_of l) ≤ MAX_LABELS) (sym all) few in
    let here : length (names_of (before ++ line ∷ [])) ≤ MAX_LABELS = omega (arith, fewer, names_longer (before ++ line ∷ []) (lines ++ rest)) in
    ap (λ f. or_else f (first_from byte start (before ++ line ∷ []) (lines ++ rest))) (no_fault byte start before line room stand.0 here)
    ∙ block_passed byte start (before ++ line ∷ []) lines rest
    (subst (λ b. length b < 2) (sym (closed_more before line stand.0.filled)) room) (subst (λ b. AllStand b lines) (sym (open_more before line stand.0.filled)) stand.1) fewer
    ∙ ap (λ b. first_from byte start b rest) (append_assoc before (line ∷ []) lines)

-- ---- the cut at empty lines
-- no line is empty
abbrev pub AllFilled : List (List ℕ) → Type 0
AllFilled lines = AllByRecursion (λ line. is_empty_line line ≡ false) lines

pub group_alone : (lines : List (List ℕ)) → AllFilled lines → groups lines ≡ lines ∷ []
group_alone [] filled = refl
group_alone (line ∷ lines) filled = ap (λ t. cond t ([] ∷ groups lines) (onto_first line (groups lines))) filled.0 ∙ ap (onto_first line) (group_alone lines filled.1)

pub group_ended : (lines rest : List (List ℕ)) → AllFilled lines → groups (lines ++ [] ∷ rest) ≡ lines ∷ groups rest
group_ended [] rest filled = refl
group_ended (line ∷ lines) rest filled =
    ap (λ t. cond t ([] ∷ groups (lines ++ [] ∷ rest)) (onto_first line (groups (lines ++ [] ∷ rest)))) filled.0 ∙ ap (onto_first line) (group_ended lines rest filled.1)
