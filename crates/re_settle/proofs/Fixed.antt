-- Fixed points take at least the order of log N rounds with unique identifiers.
use Rattle.std.proofs.Common.{◌≡◌, ℕ, Bool, true, false, List, [], ◌∷◌, ◌++◌, flat_map, length, take, sym, ap, ◌∙◌, subst, Ok, Err, None, Option, Some}
use Rattle.std.specs.Prelude.{◌&&◌, find, is_none, is_some, map, nat_lt, not, if◌then◌else◌}
use Rattle.re_cert.specs.Bounds.{Bound, is_bound, is_fixed}
use Rattle.re_cert.specs.declared.certificate.Kind.{Kind}
use Rattle.re_cert.specs.declared.certificate.Kind.TheVariants as kind
use Rattle.re_chains.specs.Chains.{IsOverProblems}
use Rattle.re_check.specs.Verdicts.{verdict_of}
use Rattle.re_check.specs.declared.verdict.Verdict.TheVariants.{Accepted}
use Rattle.re_classes.specs.Classes.{IsAboveLog}
use Rattle.re_given_bounds.proofs.ClassMeaning.{above_log}
use Rattle.re_problem.specs.NamedProblems.{NamedProblem, unnamed}
use Rattle.re_problem.specs.Zero.{zero_place}
use Rattle.re_search.specs.Searches.{Answers, concluded, search_of}
use Rattle.re_search.specs.declared.types.FindFault.{FindFault}
use Rattle.re_search.specs.declared.types.FindFault.TheVariants.{TooManyNodes}
use Rattle.re_search.specs.declared.types.Search.{Search}
use Rattle.re_search.specs.declared.types.Search.TheVariants.{Found, NotFound}
use Rattle.re_search.specs.declared.walking.TheConstants.{MAX_NODES}
use Rattle.re_search.specs.Nodes.{Node, all_nodes, child, children, preorder, root, steps_from, succeeds, way_back}
use Rattle.re_search.specs.Paths.{bound_of}
use Rattle.re_search.proofs.Findings.{first-told}
use Rattle.re_settle.specs.Ways.{HasText, IsUnfixed}
use Rattle.re_step.specs.Derivations.{step_limit}

-- what is accepted as a fixed point and begins with the problem
pub above_log_on : (problem : NamedProblem) (bound : Bound) → is_bound bound ≡ true → IsOverProblems bound → bound.first ≡ problem
    → verdict_of bound ≡ Accepted kind.Fixed (length bound.steps) → IsAboveLog (unnamed problem)
above_log_on problem bound fits over first accepted =
    subst (λ (p : NamedProblem). IsAboveLog (unnamed p)) first (above_log bound (record { fits = fits; first = over.first; next = over.next }) accepted)

-- ---- what a search finds
-- nothing is found where no node succeeds
none : (bound : Bound) (many : Bool) (nodes cut : ℕ) → (if many then Err TooManyNodes else Ok (NotFound nodes cut)) ≡ Ok (Found bound) → ⊥
none bound true nodes cut e = cc
none bound false nodes cut e = cc

-- its first problem
pub found_first : (kind : Kind) (depth most : ℕ) (first : NamedProblem) (bound : Bound) → search_of kind depth most first ≡ Ok (Found bound) → bound.first ≡ first
unfolding search_of
found_first kind depth most first bound is = go (find (succeeds kind first) (take MAX_NODES (all_nodes kind depth most first))) is
  where
    go : (o : Option Node) → concluded kind first (all_nodes kind depth most first) o ≡ Ok (Found bound) → bound.first ≡ first
    go (Some node) e =
        let same : bound_of kind first node ≡ bound = cc in
        sym (ap (λ (b : Bound). b.first) same) ∙ first-told kind first node (if is_fixed kind then way_back first node else None)
    go None e = absurd (none bound (nat_lt MAX_NODES (length (all_nodes kind depth most first))) _ _ e)

-- ---- where the problem is solvable without communication
-- no fixed point is found: there are no steps from it, and it doesn't succeed itself
module _ (first : NamedProblem) (place : ℕ) (fit : zero_place (unnamed first) ≡ Some place) where
  no_steps : children kind.Fixed 0 (root first 4) ≡ []
  no_steps = ap (λ (zero : Option ℕ). if (true && not (is_some zero)) && is_none (step_limit (unnamed first)) then map (child (root first 4)) (steps_from kind.Fixed 0 first) else []) fit

  one_node : all_nodes kind.Fixed 4 0 first ≡ root first 4 ∷ []
  one_node = ap (λ (nodes : List Node). (root first 4 ∷ flat_map (preorder kind.Fixed 0 3) nodes) ++ []) no_steps

  fails : succeeds kind.Fixed first (root first 4) ≡ false
  fails = ap (λ (zero : Option ℕ). not (is_some zero) && is_some (way_back first (root first 4))) fit

  none_succeeds : find (succeeds kind.Fixed first) (take MAX_NODES (all_nodes kind.Fixed 4 0 first)) ≡ None
  none_succeeds =
      ap (λ (nodes : List Node). find (succeeds kind.Fixed first) (take MAX_NODES nodes)) one_node
      ∙ ap (λ (success : Bool). if success then Some (root first 4) else None) fails

  not_found : (bound : Bound) → search_of kind.Fixed 4 0 first ≡ Ok (Found bound) → ⊥
  unfolding search_of
  not_found bound is =
      none bound (nat_lt MAX_NODES (length (all_nodes kind.Fixed 4 0 first))) _ _ (sym (ap (concluded kind.Fixed first (all_nodes kind.Fixed 4 0 first)) none_succeeds) ∙ is)

  pub unfixed_at_once : IsUnfixed first
  unfixed_at_once (never, (count, finds)) = not_found finds.bound finds.finds

-- ---- where something else comes of the search
pub unfixed_without_text : (problem : NamedProblem) (search : Search) (certificate : Bound) (has : Bool) → search ≡ Found certificate → Answers kind.Fixed 4 0 problem (Ok search)
    → (HasText certificate → has ≡ true) → has ≡ false → IsUnfixed problem
unfixed_without_text problem search certificate has is answers whole off (never, (count, finds)) =
    let two : Ok (Found certificate) ≡ Ok (Found finds.bound) = sym (answers ∙ ap Ok is) ∙ finds.finds in
    let one : certificate ≡ finds.bound = cc in
    let wrong : false ≡ true = sym off ∙ whole (subst HasText (sym one) finds.text) in
    cc

pub unfixed_not_found : (problem : NamedProblem) (search : Search) (nodes cut : ℕ) → search ≡ NotFound nodes cut → Answers kind.Fixed 4 0 problem (Ok search) → IsUnfixed problem
unfixed_not_found problem search nodes cut is answers (never, (count, finds)) =
    let two : Ok (NotFound nodes cut) ≡ Ok (Found finds.bound) = sym (answers ∙ ap Ok is) ∙ finds.finds in
    cc

pub unfixed_by_limit : (problem : NamedProblem) (fault : FindFault) → fault ≡ TooManyNodes → Answers kind.Fixed 4 0 problem (Err fault) → IsUnfixed problem
unfixed_by_limit problem fault is answers (never, (count, finds)) =
    let answer : Answers kind.Fixed 4 0 problem (Err TooManyNodes) = subst (λ (f : FindFault). Answers kind.Fixed 4 0 problem (Err f)) is answers in
    let two : Err TooManyNodes ≡ Ok (Found finds.bound) = sym answer ∙ finds.finds in
    cc
