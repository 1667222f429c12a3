-- The views that the nodes of a level see, and the labels that come from them.
use Rattle.std.proofs.Common.{inl, inr, ◌≡◌, ℕ, zero, suc, ◌+◌, ◌<◌, List, [], ◌∷◌, ◌++◌, map, length, get_or, slice_get, refl, sym, ap, ◌∙◌, subst, arith, Some, None, length-append}
use Rattle.std.specs.Prelude.{find, unwrap_or}
use Rattle.std.specs.List.{AllByRecursion}
use Rattle.std.proofs.lemmas.Option.{get_or_from_slice_get, slice_get_within}
use Rattle.std.proofs.lemmas.List.{get_or-map}
use Rattle.arrayvec.specs.ArrayVec.{ArrayVec}
use Rattle.re_labels.specs.Rows.{choices}
use Rattle.re_extract.specs.Seen.{AreViews, HasChoice, IsPut, labels_over, set_over}
use Rattle.re_extract.specs.declared.sights.Sight.{Sight}
use Rattle.re_labels.proofs.Membership.{AllByRecursion-weaker, all-push}
use Rattle.re_labels.specs.Lists.{count_from}
use Rattle.re_laws.specs.Algorithms.{Plain, around, at_port, back_at}
use Rattle.re_laws.specs.Slow.{slow}
use Rattle.re_pool.proofs.Growing.{Keeps-refl, Keeps-trans}
use Rattle.re_pool.specs.Pools.{IsPool, Keeps, tree_at}
use Rattle.re_pool.specs.declared.shape.Shape.{Shape}
use Rattle.re_problem.specs.Problems.{Problem}
use Rattle.re_problem.specs.Steps.{SetEntry, set_for}
use Rattle.re_labels.specs.Constraints.{Constraint, has_config}
use Rattle.re_laws.specs.Trees.{IsView, shift}

-- ---- the views that are seen
-- what stood at a place still stands there
abbrev pub Stays : List ℕ → List ℕ → Type 0
Stays old new = (place id : ℕ) → slice_get old place ≡ Some id → slice_get new place ≡ Some id

Stays-push : (old : List ℕ) (x : ℕ) → Stays old (old ++ x ∷ [])
Stays-push [] x place id h = absurd (cc)
Stays-push (y ∷ old) x zero id h = h
Stays-push (y ∷ old) x (suc place) id h = Stays-push old x place id h

pub Stays-put : (old new : List ℕ) (x : ℕ) → IsPut old new x → Stays old new
Stays-put old new x put =
    elim put [
      | inl e ↦ λ place id h. subst (λ ids. slice_get ids place ≡ Some id) (sym e) h
      | inr e ↦ λ place id h. subst (λ ids. slice_get ids place ≡ Some id) (sym e) (Stays-push old x place id h)
    ]

pub AreViews-kept : (old new : List Shape) (degree other radius : ℕ) (ids : List ℕ) → Keeps old new → AreViews old degree other radius ids → AreViews new degree other radius ids
AreViews-kept old new degree other radius ids keeps all =
    AllByRecursion-weaker
    (λ id. (id < length old) × IsView degree other radius (tree_at old id))
    (λ id. (id < length new) × IsView degree other radius (tree_at new id))
    (λ id h. (omega (arith, keeps.held, h.0), subst (IsView degree other radius) (sym (keeps.trees id h.0)) h.1))
    ids all

AreViews-put : (pool : List Shape) (degree other radius : ℕ) (old new : List ℕ) (x : ℕ) → IsPut old new x → AreViews pool degree other radius old → (x < length pool) × IsView degree other radius (tree_at pool x)
    → AreViews pool degree other radius new
AreViews-put pool degree other radius old new x put all here =
    elim put [
      | inl e ↦ subst (AreViews pool degree other radius) (sym e) all
      | inr e ↦ subst (AreViews pool degree other radius) (sym e) (all-push (λ id. (id < length pool) × IsView degree other radius (tree_at pool id)) old x all here)
    ]

-- ---- what one node sees
-- the label that the neighbour on a port gives to the edge
abbrev pub given : ℕ → (Plain → List ℕ) → Plain → ℕ → ℕ
given T f v port = at_port (f (shift T v port)) (back_at v port)

-- the place is that of the view of the neighbour on this port, and the other number is its port
record IsSight (pool : List Shape) (next : List ℕ) (T : ℕ) (v : Plain) (port : ℕ) (sight : Sight) : Type 0 where
  over : ℕ
  stored : slice_get next sight.place ≡ Some over
  held : over < length pool
  view : tree_at pool over ≡ shift T v port
  back : sight.back ≡ back_at v port

abbrev AreSights : List Shape → List ℕ → ℕ → Plain → ℕ → List Sight → Type 0
AreSights pool next T v port [] = Unit {0}
AreSights pool next T v port (sight ∷ sights) = IsSight pool next T v port sight × AreSights pool next T v (suc port) sights

module _ (pool later : List Shape) (next more : List ℕ) (T : ℕ) (v : Plain) (keeps : Keeps pool later) (stays : Stays next more) where
  IsSight-later : (port : ℕ) (sight : Sight) → IsSight pool next T v port sight → IsSight later more T v port sight
  IsSight-later port sight is = record {
    over = is.over;
    stored = stays sight.place is.over is.stored;
    held = omega (arith, keeps.held, is.held);
    view = keeps.trees is.over is.held ∙ is.view;
    back = is.back;
  }

  AreSights-later : (port : ℕ) (sights : List Sight) → AreSights pool next T v port sights → AreSights later more T v port sights
  AreSights-later port [] are = tt
  AreSights-later port (sight ∷ sights) are = (IsSight-later port sight are.0, AreSights-later (suc port) sights are.1)

AreSights-push : (pool : List Shape) (next : List ℕ) (T : ℕ) (v : Plain) (port : ℕ) (sights : List Sight) (sight : Sight) → AreSights pool next T v port sights → IsSight pool next T v (port + length sights) sight
    → AreSights pool next T v port (sights ++ sight ∷ [])
AreSights-push pool next T v port [] sight are is = let e : port + 0 ≡ port = omega arith in (subst (λ n. IsSight pool next T v n sight) e is, tt)
AreSights-push pool next T v port (first ∷ sights) sight are is =
    let e : port + suc (length sights) ≡ suc port + length sights = omega arith in
    (are.0, AreSights-push pool next T v (suc port) sights sight are.1 (subst (λ n. IsSight pool next T v n sight) e is))

-- the sets over the ports, from the labels of the neighbours' views
sets_seen : (pool : List Shape) (next : List ℕ) (T : ℕ) (f : Plain → List ℕ) (answers : List (List ℕ)) (entries : List SetEntry) (v : Plain) (port : ℕ) (sights : List Sight)
    → answers ≡ map (λ id. f (tree_at pool id)) next → AreSights pool next T v port sights
    → map (set_over entries answers) sights ≡ map (set_for entries) (map (given T f v) (count_from port (length sights)))
sets_seen pool next T f answers entries v port [] are_answers are = refl
sets_seen pool next T f answers entries v port (sight ∷ sights) are_answers are =
    let is = are.0 in
    let low : sight.place < length next = slice_get_within next sight.place is.over is.stored in
    let at : get_or answers sight.place [] ≡ f (shift T v port) =
    ap (λ l. get_or l sight.place []) are_answers
    ∙ (get_or-map (λ id. f (tree_at pool id)) next sight.place 0 [] low
    ∙ (ap (λ id. f (tree_at pool id)) (get_or_from_slice_get next sight.place is.over 0 is.stored) ∙ ap f is.view)) in
    let label : at_port (get_or answers sight.place []) sight.back ≡ given T f v port = ap (λ l. at_port l sight.back) at ∙ ap (at_port (f (shift T v port))) is.back in
    let rest = sets_seen pool next T f answers entries v (suc port) sights are_answers are.1 in
    (λ i. set_for entries (label i) ∷ rest i)

-- ---- what the nodes of a level see
abbrev IsAround : List Shape → List Shape → List ℕ → ℕ → ℕ → ℕ → ArrayVec Sight → Type 0
IsAround start here next d T id sights = (length sights.items ≡ d) × AreSights here next T (tree_at start id) 1 sights.items

abbrev AreAround : List Shape → List Shape → List ℕ → ℕ → ℕ → List ℕ → List (ArrayVec Sight) → Type 0
AreAround start here next d T [] [] = Unit {0}
AreAround start here next d T (id ∷ ids) [] = ⊥
AreAround start here next d T [] (sights ∷ all) = ⊥
AreAround start here next d T (id ∷ ids) (sights ∷ all) = IsAround start here next d T id sights × AreAround start here next d T ids all

AreAround-later : (start here later : List Shape) (next more : List ℕ) (d T : ℕ) (ids : List ℕ) (all : List (ArrayVec Sight)) → Keeps here later → Stays next more → AreAround start here next d T ids all
    → AreAround start later more d T ids all
AreAround-later start here later next more d T [] [] keeps stays are = tt
AreAround-later start here later next more d T (id ∷ ids) [] keeps stays are = absurd are
AreAround-later start here later next more d T [] (sights ∷ all) keeps stays are = absurd are
AreAround-later start here later next more d T (id ∷ ids) (sights ∷ all) keeps stays are =
    ((are.0.0, AreSights-later here later next more T (tree_at start id) keeps stays 1 sights.items are.0.1), AreAround-later start here later next more d T ids all keeps stays are.1)

AreAround-push : (start here : List Shape) (next : List ℕ) (d T : ℕ) (ids : List ℕ) (all : List (ArrayVec Sight)) (id : ℕ) (sights : ArrayVec Sight) → AreAround start here next d T ids all → IsAround start here next d T id sights
    → AreAround start here next d T (ids ++ id ∷ []) (all ++ sights ∷ [])
AreAround-push start here next d T [] [] id sights are is = (is, tt)
AreAround-push start here next d T (x ∷ ids) [] id sights are is = absurd are
AreAround-push start here next d T [] (y ∷ all) id sights are is = absurd are
AreAround-push start here next d T (x ∷ ids) (y ∷ all) id sights are is = (are.0, AreAround-push start here next d T ids all id sights are.1 is)

-- what the nodes of the level have seen so far
pub record Level (start here : List Shape) (d e T : ℕ) (next ids : List ℕ) (all : List (ArrayVec Sight)) : Type 0 where
  pub keeps : Keeps start here
  pub pool : IsPool here
  pub views : AreViews here e d T next
  around_is : AreAround start here next d T ids all

pub level_none : (start : List Shape) (d e T : ℕ) (next : List ℕ) (all : List (ArrayVec Sight)) → IsPool start → next ≡ [] → all ≡ [] → Level start start d e T next [] all
level_none start d e T next all pool none none' = record {
  keeps = Keeps-refl start;
  pool = pool;
  views = subst (AreViews start e d T) (sym none) tt;
  around_is = subst (AreAround start start next d T []) (sym none') tt;
}

-- and what the next one sees over its first ports
pub record Looking (start here : List Shape) (d e T : ℕ) (next ids : List ℕ) (all : List (ArrayVec Sight)) (view : ℕ) (sights : List Sight) (i port : ℕ) : Type 0 where
  pub level : Level start here d e T next ids all
  pub port_is : port ≡ i
  pub count : length sights ≡ i
  sights_are : AreSights here next T (tree_at start view) 1 sights

pub looking_none : (start here : List Shape) (d e T : ℕ) (next ids : List ℕ) (all : List (ArrayVec Sight)) (view : ℕ) (sights : List Sight) → Level start here d e T next ids all → sights ≡ []
    → Looking start here d e T next ids all view sights 0 0
looking_none start here d e T next ids all view sights level none =
    record { level = level; port_is = refl; count = ap length none; sights_are = subst (AreSights here next T (tree_at start view) 1) (sym none) tt }

-- one port more
pub looking_more : (start here later : List Shape) (d e T : ℕ) (next next' ids : List ℕ) (all : List (ArrayVec Sight)) (view : ℕ) (sights sights' : List Sight) (i port over place back : ℕ)
    → Looking start here d e T next ids all view sights i port → Keeps here later → IsPool later → over < length later → tree_at later over ≡ shift T (tree_at start view) (port + 1) → IsView e d T (tree_at later over)
    → IsPut next next' over → slice_get next' place ≡ Some over → back ≡ back_at (tree_at start view) (suc i) → sights' ≡ sights ++ record { place = place; back = back } ∷ []
    → Looking start later d e T next' ids all view sights' (i + 1) (port + 1)
looking_more start here later d e T next next' ids all view sights sights' i port over place back so_far keeps pool held seen is put stored back_is are =
    let v = tree_at start view in
    let stays = Stays-put next next' over put in
    let before = so_far.level in
    let at : port + 1 ≡ 1 + length sights = let p = so_far.port_is in let n = so_far.count in omega arith in
    let at' : suc i ≡ 1 + length sights = let n = so_far.count in omega arith in
    let sight : IsSight later next' T v (1 + length sights) (record { place = place; back = back }) =
    record { over = over; stored = stored; held = held; view = seen ∙ ap (shift T v) at; back = back_is ∙ ap (back_at v) at' } in
    let grown = AreSights-push later next' T v 1 sights (record { place = place; back = back }) (AreSights-later here later next next' T v keeps stays 1 sights so_far.sights_are) sight in
    record {
      level = record {
        keeps = Keeps-trans start here later before.keeps keeps;
        pool = pool;
        views = AreViews-put later e d T next next' over put (AreViews-kept here later e d T next keeps before.views) (held, is);
        around_is = AreAround-later start here later next next' d T ids all keeps stays before.around_is;
      };
      port_is = ap (λ n. n + 1) so_far.port_is;
      count = ap length are ∙ (length-append sights (record { place = place; back = back } ∷ []) ∙ ap (λ n. n + 1) so_far.count);
      sights_are = subst (AreSights later next' T v 1) (sym are) grown;
    }

-- one node more
pub level_more : (start here : List Shape) (d e T : ℕ) (next ids ids' : List ℕ) (all all' : List (ArrayVec Sight)) (view i port : ℕ) (sights : ArrayVec Sight)
    → Looking start here d e T next ids all view sights.items i port → i ≡ d → ids' ≡ ids ++ view ∷ [] → all' ≡ all ++ sights ∷ [] → Level start here d e T next ids' all'
level_more start here d e T next ids ids' all all' view i port sights looked whole more more' = record {
  keeps = looked.level.keeps;
  pool = looked.level.pool;
  views = looked.level.views;
  around_is = subst (λ l. AreAround start here next d T l all') (sym more)
      (subst (AreAround start here next d T (ids ++ view ∷ [])) (sym more') (AreAround-push start here next d T ids all view sights looked.level.around_is (looked.count ∙ whole, looked.sights_are)));
}

-- ---- the labels
module _ (start here : List Shape) (next : List ℕ) (problem : Problem) (T : ℕ) (f : Plain → List ℕ) (entries : List SetEntry) (answers : List (List ℕ)) (are_answers : answers ≡ map (λ id. f (tree_at here id)) next) where
  sets_around : (id : ℕ) (sights : ArrayVec Sight) → IsAround start here next problem.active.degree T id sights
      → map (set_over entries answers) sights.items ≡ map (set_for entries) (around problem.active.degree T f (tree_at start id))
  sets_around id sights is =
      sets_seen here next T f answers entries (tree_at start id) 1 sights.items are_answers is.1
      ∙ ap (λ n. map (set_for entries) (map (given T f (tree_at start id)) (count_from 1 n))) is.0

  -- the nodes output what the construction with one round more gives
  choices_around : (ids : List ℕ) (all : List (ArrayVec Sight)) → AreAround start here next problem.active.degree T ids all
      → map (labels_over problem.active entries answers) all ≡ map (λ id. slow problem (set_for entries) T f (tree_at start id)) ids
  choices_around [] [] are = refl
  choices_around (id ∷ ids) [] are = absurd are
  choices_around [] (sights ∷ all) are = absurd are
  choices_around (id ∷ ids) (sights ∷ all) are =
      let here_is = sets_around id sights are.0 in
      let rest = choices_around ids all are.1 in
      (λ i. unwrap_or (find (has_config problem.active) (choices (here_is i))) [] ∷ rest i)

  -- each node has a choice, where each view has one
  some_around : (ids : List ℕ) (all : List (ArrayVec Sight)) → AreAround start here next problem.active.degree T ids all
      → AllByRecursion (λ id. find (has_config problem.active) (choices (map (set_for entries) (around problem.active.degree T f (tree_at start id)))) ≡ None → ⊥) ids
      → AllByRecursion (HasChoice problem.active entries answers) all
  some_around [] [] are some = tt
  some_around (id ∷ ids) [] are some = absurd are
  some_around [] (sights ∷ all) are some = absurd are
  some_around (id ∷ ids) (sights ∷ all) are some =
      let here_is = sets_around id sights are.0 in
      (λ none. some.0 (ap (λ sets. find (has_config problem.active) (choices sets)) (sym here_is) ∙ none), some_around ids all are.1 some.1)

  pub level_labels : (e : ℕ) (ids : List ℕ) (all : List (ArrayVec Sight)) → Level start here problem.active.degree e T next ids all
      → map (labels_over problem.active entries answers) all ≡ map (λ id. slow problem (set_for entries) T f (tree_at start id)) ids
  level_labels e ids all level = choices_around ids all level.around_is

  pub level_some : (e : ℕ) (ids : List ℕ) (all : List (ArrayVec Sight)) → Level start here problem.active.degree e T next ids all
      → AllByRecursion (λ id. find (has_config problem.active) (choices (map (set_for entries) (around problem.active.degree T f (tree_at start id)))) ≡ None → ⊥) ids
      → AllByRecursion (HasChoice problem.active entries answers) all
  level_some e ids all level = some_around ids all level.around_is

-- ---- what code holds
module _ (constraint held : Constraint) (entries listed : List SetEntry) (answers shown : List (List ℕ)) (all seen : List (ArrayVec Sight))
    (is : held ≡ constraint) (are : listed ≡ entries) (given_are : shown ≡ answers) (all_are : seen ≡ all) where
  pub chosen_as : AllByRecursion (HasChoice constraint entries answers) all → AllByRecursion (HasChoice held listed shown) seen
  chosen_as = subst (λ (t : Constraint × List SetEntry × List (List ℕ) × List (ArrayVec Sight)). AllByRecursion (HasChoice t.0 t.1 t.2) t.3) (sym (λ i. (is i, are i, given_are i, all_are i)))

  pub labels_as : map (labels_over held listed shown) seen ≡ map (labels_over constraint entries answers) all
  labels_as = (λ i. map (labels_over (is i) (are i) (given_are i)) (all_are i))
