-- A chain with a step more.
use Rattle.std.proofs.Common.{◌≡◌, ℕ, ◌<◌, ◌≤◌, Bool, true, false, not, cond, leb, List, [], ◌∷◌, ◌++◌, length, map, None, Some, refl, sym, ap, ◌∙◌, arith, length-append}
use Rattle.std.proofs.lemmas.Bool.{false≢true}
use Rattle.std.proofs.lemmas.Bool.Decides.{nat_tests}
use Rattle.std.proofs.lemmas.List.{map-append}
use Rattle.std.specs.Prelude.{◌&&◌, ◌||◌, if◌then◌else◌}
use Rattle.std.specs.List.{list_all}
use Rattle.re_labels.proofs.Tests.{and-true, or-left, or-right, true-and}
use Rattle.re_problem.specs.NamedProblems.{NamedProblem}
use Rattle.re_problem.specs.ProblemTexts.{last_or}
use Rattle.re_cert.proofs.FittingStates.{one_more}
use Rattle.re_cert.specs.Bounds.{Bound, BoundStep, built, has_row_maps, is_bound, is_by_row, kind_fits, last_problem, map_fits, one_form, renaming_fits, row_fits, step_fits, steps_fit}
use Rattle.re_cert.specs.declared.certificate.Kind.{Kind}
use Rattle.re_cert.specs.declared.certificate.Kind.TheVariants.{Fixed, Lower, Upper}
use Rattle.re_cert.specs.declared.certificate.TheConstants.{MAX_STEPS}
use Rattle.re_chains.specs.Chains.{IsSound, chain_kind, chain_with}
use Rattle.re_shaping.proofs.MoreSteps.{all-sets}
use Rattle.re_shaping.proofs.RowForms.{next-same, step-fits, step-form, step-sound}
use Rattle.re_shaping.specs.RowForms.{by_rows, step_by_rows}
use Rattle.re_check.specs.Clauses.{step_fault}
use Rattle.re_search.proofs.Paths.{fits-more, valid-more}
use Rattle.re_bridge.specs.Bridged.{in_one_form}
use Rattle.re_labels.specs.declared.TheConstants.{MAX_ROWS}

-- the steps of a bound fit, and have maps of one form
pub bound-parts : (bound : Bound) (kind : Kind) → is_bound bound ≡ true → bound.kind ≡ kind → (steps_fit kind bound.first bound.steps ≡ true) × (one_form bound.steps ≡ true)
bound-parts bound kind is of_kind =
    let (front, back) = and-true (leb (length bound.steps) MAX_STEPS && steps_fit bound.kind bound.first bound.steps && one_form bound.steps) (renaming_fits bound) is in
    let (fitting, form) = and-true (leb (length bound.steps) MAX_STEPS && steps_fit bound.kind bound.first bound.steps) (one_form bound.steps) front in
    (ap (λ k. steps_fit k bound.first bound.steps) (sym of_kind) ∙ (and-true (leb (length bound.steps) MAX_STEPS) (steps_fit bound.kind bound.first bound.steps) fitting).1, form)

-- steps that fit and have maps of one form make a bound that is a chain
chain-renaming : (kind : Kind) (first : NamedProblem) (steps : List BoundStep) → renaming_fits (chain_with kind first steps) ≡ true
chain-renaming Lower first steps = refl
chain-renaming Upper first steps = refl
chain-renaming Fixed first steps = refl

pub few-bound : (kind : Kind) (first : NamedProblem) (steps : List BoundStep) → length steps ≤ MAX_STEPS → steps_fit (chain_kind kind) first steps ≡ true → one_form steps ≡ true → is_bound (chain_with kind first steps) ≡ true
few-bound kind first steps few fit form =
    let small : leb (length steps) MAX_STEPS ≡ true = grind (arith, nat_tests) in
    true-and (leb (length steps) MAX_STEPS && steps_fit (chain_kind kind) first steps && one_form steps) (renaming_fits (chain_with kind first steps))
    (true-and (leb (length steps) MAX_STEPS && steps_fit (chain_kind kind) first steps) (one_form steps) (true-and (leb (length steps) MAX_STEPS) (steps_fit (chain_kind kind) first steps) small fit) form) (chain-renaming kind first steps)

pub more-bound : (kind : Kind) (bound : Bound) (s : BoundStep) → chain_kind kind ≡ kind → is_bound bound ≡ true → bound.kind ≡ kind → length bound.steps < MAX_STEPS → step_fits kind (last_problem bound) s ≡ true
    → one_form (bound.steps ++ s ∷ []) ≡ true → is_bound (chain_with kind bound.first (bound.steps ++ s ∷ [])) ≡ true
more-bound kind bound s open_ is of_kind room fit form =
    few-bound kind bound.first (bound.steps ++ s ∷ []) (omega (arith, room, length-append bound.steps (s ∷ [])))
    (ap (λ k. steps_fit k bound.first (bound.steps ++ s ∷ [])) open_ ∙ fits-more kind bound.first bound.steps s (bound-parts bound kind is of_kind).0 fit) form

pub more-sound : (kind : Kind) (bound : Bound) (s : BoundStep) → IsSound bound → step_fault (last_problem bound) s ≡ None → IsSound (chain_with kind bound.first (bound.steps ++ s ∷ []))
more-sound kind bound s sound met = valid-more 1 bound.first bound.steps s sound met

-- ---- the form of the maps
-- upper steps have no maps by rows
sets-only : (before : NamedProblem) (steps : List BoundStep) → steps_fit Upper before steps ≡ true → list_all (λ (s : BoundStep). not (is_by_row s.map)) steps ≡ true
sets-only before [] fit = refl
sets-only before (s ∷ steps) fit =
    let (here, later) = and-true (step_fits Upper before s) (steps_fit Upper s.next steps) fit in
    let (front, map) = and-true (kind_fits Upper s && leb (length s.rows) MAX_ROWS && list_all (row_fits before) s.rows) (map_fits before s.next s.map) here in
    let (few, rows) = and-true (kind_fits Upper s && leb (length s.rows) MAX_ROWS) (list_all (row_fits before) s.rows) front in
    true-and (not (is_by_row s.map)) (list_all (λ (s : BoundStep). not (is_by_row s.map)) steps)
    (of_kind s.lower (not (is_by_row s.map)) (and-true (kind_fits Upper s) (leb (length s.rows) MAX_ROWS) few).0) (sets-only s.next steps later)
  where
    of_kind : (lower sets : Bool) → (if lower then false else true && sets) ≡ true → sets ≡ true
    of_kind true sets h = absurd (false≢true h)
    of_kind false sets h = h

pub upper-form : (bound : Bound) (s : BoundStep) → is_bound bound ≡ true → bound.kind ≡ Upper → not (is_by_row s.map) ≡ true → one_form (bound.steps ++ s ∷ []) ≡ true
upper-form bound s is upper by_sets =
    or-right (list_all (λ (s : BoundStep). is_by_row s.map) (bound.steps ++ s ∷ [])) (list_all (λ (s : BoundStep). not (is_by_row s.map)) (bound.steps ++ s ∷ []))
    (one_more (λ (s : BoundStep). not (is_by_row s.map)) bound.steps s (sets-only bound.first bound.steps (bound-parts bound Upper is upper).0) by_sets)

any-more : (steps : List BoundStep) (s : BoundStep) → has_row_maps (steps ++ s ∷ []) ≡ (has_row_maps steps || is_by_row s.map)
any-more [] s = go (is_by_row s.map)
  where
    go : (b : Bool) → (b || false) ≡ b
    go true = refl
    go false = refl
any-more (t ∷ steps) s = ap (λ b. is_by_row t.map || b) (any-more steps s) ∙ go (is_by_row t.map)
  where
    go : (b : Bool) → (b || (has_row_maps steps || is_by_row s.map)) ≡ ((b || has_row_maps steps) || is_by_row s.map)
    go true = refl
    go false = refl

pub sets-form : (steps : List BoundStep) (s : BoundStep) (r : Bool) → r ≡ (has_row_maps steps || is_by_row s.map) → r ≡ false → one_form (steps ++ s ∷ []) ≡ true
sets-form steps s r is none =
    or-right (list_all (λ (s : BoundStep). is_by_row s.map) (steps ++ s ∷ [])) (list_all (λ (s : BoundStep). not (is_by_row s.map)) (steps ++ s ∷ []))
    (all-sets (steps ++ s ∷ []) (any-more steps s ∙ sym is ∙ none))

-- written by rows, the maps of lower steps are by rows
rows-all : (before : NamedProblem) (steps : List BoundStep) → steps_fit Lower before steps ≡ true → list_all (λ (s : BoundStep). is_by_row s.map) (map step_by_rows steps) ≡ true
rows-all before [] fit = refl
rows-all before (s ∷ steps) fit =
    let both = and-true (step_fits Lower before s) (steps_fit Lower s.next steps) fit in
    true-and (is_by_row (step_by_rows s).map) (list_all (λ (s : BoundStep). is_by_row s.map) (map step_by_rows steps)) (step-form Lower before s both.0) (rows-all s.next steps both.1)

pub rows-form : (bound : Bound) (s : BoundStep) → is_bound bound ≡ true → bound.kind ≡ Lower → step_fits Lower (last_problem bound) s ≡ true → one_form (map step_by_rows bound.steps ++ step_by_rows s ∷ []) ≡ true
rows-form bound s is lower fit =
    or-left (list_all (λ (s : BoundStep). is_by_row s.map) (map step_by_rows bound.steps ++ step_by_rows s ∷ [])) (list_all (λ (s : BoundStep). not (is_by_row s.map)) (map step_by_rows bound.steps ++ step_by_rows s ∷ []))
    (one_more (λ (s : BoundStep). is_by_row s.map) (map step_by_rows bound.steps) (step_by_rows s) (rows-all bound.first bound.steps (bound-parts bound Lower is lower).0) (step-form Lower (last_problem bound) s fit))

pub last-same : (bound : Bound) → last_problem (by_rows bound) ≡ last_problem bound
last-same bound = ap (last_or bound.first) (next-same bound.steps)

-- ---- what comes of both forms
pub sets-chain : (bound : Bound) (s : BoundStep) (r : Bool) → r ≡ (has_row_maps bound.steps || is_by_row s.map) → r ≡ false
    → chain_with Lower bound.first (bound.steps ++ s ∷ []) ≡ chain_with Lower bound.first (in_one_form (bound.steps ++ s ∷ []))
sets-chain bound s r is none =
    let e : false ≡ has_row_maps (bound.steps ++ s ∷ []) = sym none ∙ is ∙ sym (any-more bound.steps s) in
    (λ i. chain_with Lower bound.first (cond (e i) (map step_by_rows (bound.steps ++ s ∷ [])) (bound.steps ++ s ∷ [])))

pub rows-chain : (bound : Bound) (s : BoundStep) (r : Bool) → r ≡ (has_row_maps bound.steps || is_by_row s.map) → r ≡ true
    → chain_with Lower bound.first (map step_by_rows bound.steps ++ step_by_rows s ∷ []) ≡ chain_with Lower bound.first (in_one_form (bound.steps ++ s ∷ []))
rows-chain bound s r is some =
    let e : true ≡ has_row_maps (bound.steps ++ s ∷ []) = sym some ∙ is ∙ sym (any-more bound.steps s) in
    ap (chain_with Lower bound.first) (sym (map-append step_by_rows bound.steps (s ∷ [])))
    ∙ (λ i. chain_with Lower bound.first (cond (e i) (map step_by_rows (bound.steps ++ s ∷ [])) (bound.steps ++ s ∷ [])))

-- ---- what the program holds
pub held-more : (kind : Kind) (bound : Bound) (s : BoundStep) (first : NamedProblem) (steps : List BoundStep) (renaming : List (ℕ × ℕ)) → chain_kind kind ≡ kind → first ≡ bound.first → steps ≡ bound.steps ++ s ∷ [] → renaming ≡ []
    → record { kind = kind; back = 0; first = first; steps = steps; renaming = renaming } ≡ chain_with kind bound.first (bound.steps ++ s ∷ [])
held-more kind bound s first steps renaming open_ e f g = (λ i. record { kind = sym open_ i; back = 0; first = e i; steps = f i; renaming = g i })

pub surely-built : (bound given : Bound) → given ≡ bound → is_bound bound ≡ true → built given ≡ Some bound
surely-built bound given e is = ap built e ∙ ap (λ b. cond b (Some bound) None) is

pub rows-fits : (bound rows : Bound) (s t : BoundStep) → rows ≡ by_rows bound → t ≡ step_by_rows s → step_fits Lower (last_problem bound) s ≡ true → step_fault (last_problem bound) s ≡ None
    → (step_fits Lower (last_problem rows) t ≡ true) × (step_fault (last_problem rows) t ≡ None)
rows-fits bound rows s t e f fit met =
    let last : last_problem rows ≡ last_problem bound = ap last_problem e ∙ last-same bound in
    ((λ i. step_fits Lower (last i) (f i)) ∙ step-fits Lower (last_problem bound) s fit met, (λ i. step_fault (last i) (f i)) ∙ step-sound (last_problem bound) s met)

pub rows-formed : (bound rows : Bound) (s t : BoundStep) → rows ≡ by_rows bound → t ≡ step_by_rows s → is_bound bound ≡ true → bound.kind ≡ Lower → step_fits Lower (last_problem bound) s ≡ true → one_form (rows.steps ++ t ∷ []) ≡ true
rows-formed bound rows s t e f is lower fit = (λ i. one_form ((e i).steps ++ f i ∷ [])) ∙ rows-form bound s is lower fit

pub rows-given : (bound rows : Bound) (s t : BoundStep) (r : Bool) → rows ≡ by_rows bound → t ≡ step_by_rows s → r ≡ (has_row_maps bound.steps || is_by_row s.map) → r ≡ true
    → chain_with Lower rows.first (rows.steps ++ t ∷ []) ≡ chain_with Lower bound.first (in_one_form (bound.steps ++ s ∷ []))
rows-given bound rows s t r e f is some = (λ i. chain_with Lower (e i).first ((e i).steps ++ f i ∷ [])) ∙ rows-chain bound s r is some
