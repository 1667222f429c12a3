-- Views put into a pool one after another, and what an algorithm gives at them.
use Rattle.std.proofs.Common.{◌≡◌, ℕ, ◌+◌, ◌<◌, ◌≤◌, List, [], ◌∷◌, ◌++◌, map, length, get_or, take, refl, sym, ap, ◌∙◌, subst, arith}
use Rattle.std.specs.List.{AllByRecursion}
use Rattle.std.proofs.lemmas.List.{get_or-map, length-map, map-append, take_more}
use Rattle.re_extract.specs.Seen.{AreViews}
use Rattle.re_labels.proofs.Membership.{AllByRecursion-contains, AllByRecursion-from_contains, AllByRecursion-weaker, all-push}
use Rattle.re_laws.specs.Algorithms.{Plain}
use Rattle.re_pool.proofs.Growing.{Keeps-trans}
use Rattle.re_pool.proofs.NarrowViews.{narrow_tree}
use Rattle.re_pool.specs.Narrow.{IsNarrow}
use Rattle.re_pool.specs.Pools.{IsPool, Keeps, tree_at}
use Rattle.re_pool.specs.declared.shape.Shape.{Shape}
use Rattle.re_laws.proofs.AllViewsLemmas.{all_views-IsView}
use Rattle.re_laws.specs.AllViews.{all_views}
use Rattle.re_laws.specs.Shown.{tree_of_view}
use Rattle.re_laws.specs.Trees.{IsView}
use Rattle.re_laws.specs.declared.View.{View}

-- the numbers so far stand for these trees
pub record Placed (start here : List Shape) (trees : List Plain) (ids : List ℕ) : Type 0 where
  pub keeps : Keeps start here
  pub pool : IsPool here
  pub held : AllByRecursion (λ id. id < length here) ids
  pub trees_are : map (tree_at here) ids ≡ trees

trees_kept : (here later : List Shape) (ids : List ℕ) → Keeps here later → AllByRecursion (λ id. id < length here) ids → map (tree_at later) ids ≡ map (tree_at here) ids
trees_kept here later [] keeps held = refl
trees_kept here later (id ∷ ids) keeps held =
    let first = keeps.trees id held.0 in
    let rest = trees_kept here later ids keeps held.1 in
    (λ i. first i ∷ rest i)

pub placed_more : (start here later : List Shape) (trees trees' : List Plain) (ids ids' : List ℕ) (id : ℕ) (tree : Plain) → Placed start here trees ids → Keeps here later → IsPool later → id < length later
    → tree_at later id ≡ tree → trees' ≡ trees ++ tree ∷ [] → ids' ≡ ids ++ id ∷ [] → Placed start later trees' ids'
placed_more start here later trees trees' ids ids' id tree so_far keeps pool held is more more' =
    let before = AllByRecursion-weaker (λ id. id < length here) (λ id. id < length later) (λ id l. omega (arith, keeps.held, l)) ids so_far.held in
    record {
      keeps = Keeps-trans start here later so_far.keeps keeps;
      pool = pool;
      held = subst (AllByRecursion (λ id. id < length later)) (sym more') (all-push (λ id. id < length later) ids id before held);
      trees_are = ap (map (tree_at later)) more'
          ∙ (map-append (tree_at later) ids (id ∷ [])
          ∙ (ap (λ l. l ++ tree_at later id ∷ []) (trees_kept here later ids keeps so_far.held ∙ so_far.trees_are)
          ∙ (ap (λ t. trees ++ t ∷ []) is ∙ sym more)));
    }

-- all views
views_of : (pool : List Shape) (degree other radius : ℕ) (ids : List ℕ) (trees : List Plain) → AllByRecursion (λ id. id < length pool) ids → map (tree_at pool) ids ≡ trees
    → AllByRecursion (IsView degree other radius) trees → AreViews pool degree other radius ids
views_of pool degree other radius ids trees held are all = go ids held (subst (AllByRecursion (IsView degree other radius)) (sym are) all)
  where
    go : (ids : List ℕ) → AllByRecursion (λ id. id < length pool) ids → AllByRecursion (IsView degree other radius) (map (tree_at pool) ids) → AreViews pool degree other radius ids
    go [] held all = tt
    go (id ∷ ids) held all = ((held.0, all.0), go ids held.1 all.1)

all_are : (degree other radius : ℕ) → AllByRecursion (IsView degree other radius) (all_views degree other radius)
all_are degree other radius = AllByRecursion-from_contains (IsView degree other radius) (all_views degree other radius) (all_views-IsView degree other radius)

pub all_views_of : (pool : List Shape) (degree other radius : ℕ) (ids : List ℕ) → AllByRecursion (λ id. id < length pool) ids → map (tree_at pool) ids ≡ all_views degree other radius → AreViews pool degree other radius ids
all_views_of pool degree other radius ids held are = views_of pool degree other radius ids (all_views degree other radius) held are (all_are degree other radius)

-- each of them is narrow
pub all_narrow : (degree other radius : ℕ) → degree ≤ 6 → other ≤ 6 → AllByRecursion IsNarrow (all_views degree other radius)
all_narrow degree other radius few few' =
    AllByRecursion-weaker (IsView degree other radius) IsNarrow (λ v is. narrow_tree degree other radius degree v (omega arith) (omega arith) few is) (all_views degree other radius) (all_are degree other radius)

-- the answers by numbers are the answers by trees
pub answers_at : (f : Plain → List ℕ) (pool : List Shape) (ids : List ℕ) → map (λ id. f (tree_at pool id)) ids ≡ map f (map (tree_at pool) ids)
answers_at f pool [] = refl
answers_at f pool (id ∷ ids) = ap (λ l. f (tree_at pool id) ∷ l) (answers_at f pool ids)

-- ---- views as they are held
pub view_held : (P : Plain → Type 0) (views : List (View (Unit {0}))) (i : ℕ) (view : View (Unit {0})) → AllByRecursion P (map tree_of_view views) → i < length views → view ≡ get_or views i view → P (tree_of_view view)
view_held P views i view all low is =
    let few : i < length (map tree_of_view views) = omega (arith, length-map views tree_of_view) in
    let at : get_or (map tree_of_view views) i (tree_of_view view) ≡ tree_of_view view = get_or-map tree_of_view views i view (tree_of_view view) low ∙ ap tree_of_view (sym is) in
    AllByRecursion-contains P (map tree_of_view views) (tree_of_view view) all (i, few, at)

pub shown_more : (views : List (View (Unit {0}))) (i : ℕ) (view : View (Unit {0})) → i < length views → view ≡ get_or views i view
    → map tree_of_view (take (i + 1) views) ≡ map tree_of_view (take i views) ++ tree_of_view view ∷ []
shown_more views i view low is =
    ap (map tree_of_view) (take_more views i view low ∙ ap (λ x. take i views ++ x ∷ []) (sym is)) ∙ map-append tree_of_view (take i views) (view ∷ [])
