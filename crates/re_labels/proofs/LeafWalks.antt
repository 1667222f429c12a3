-- Ways down a prefix tree to a leaf, and on to the next one.
use Rattle.std.proofs.Common.{◌≡◌, ℕ, zero, suc, ◌<◌, ◌≤◌, ◌+◌, List, [], ◌∷◌, length, get_or, set, refl, sym, ap, ◌∙◌, subst, arith, inl, inr, add-one}
use Rattle.std.proofs.lemmas.List.{get_or-set_other, get_or-set_same, length-set}
use Rattle.re_labels.proofs.Before.{three_ways}
use Rattle.re_labels.proofs.TreeRanks.{after-rank, first-rank, inner-short, last-rank, leaf-rank, leaves-counted, root-leaves, root-rank, some-below}
use Rattle.re_labels.proofs.TreeWalks.{first_link}
use Rattle.re_labels.specs.declared.configurations.Way.{Way}
use Rattle.re_labels.specs.declared.prefix_tree.Kind.{Kind}
use Rattle.re_labels.specs.declared.prefix_tree.Kind.TheVariants.{Inner, Leaf}
use Rattle.re_labels.specs.declared.prefix_tree.Node.{Node}
use Rattle.re_labels.specs.LeafWalks.{IsEnd, IsPath, IsWay, count_at, start_of}
use Rattle.re_labels.specs.PrefixTrees.{IsLink, IsTree, first_of, held_configs, leaves_of, node_at}

-- ---- paths
module _ (nodes : List Node) (key : ℕ → List ℕ) where
  abbrev IsChild : ℕ → ℕ → Type 0
  IsChild place above = (place < length nodes) × (key place ≡ (node_at nodes place).label ∷ key above)

  pub path-within : (places : List ℕ) (depth i : ℕ) → IsPath nodes key places depth → i ≤ depth → get_or places i 0 < length nodes
  path-within places depth zero path l = subst (λ q. q < length nodes) (sym path.root) path.filled
  path-within places depth (suc i) path l = subst (λ j. get_or places j 0 < length nodes) (add-one i) (path.child i (omega arith)).0

  pub path-shorter : (places : List ℕ) (depth less : ℕ) → IsPath nodes key places depth → less ≤ depth → IsPath nodes key places less
  path-shorter places depth less path l = record { root = path.root; filled = path.filled; child = λ i m. path.child i (omega arith) }

  -- one place more
  pub path-more : (places : List ℕ) (depth target : ℕ) → IsPath nodes key places depth → depth + 1 < length places → IsChild target (get_or places depth 0)
      → IsPath nodes key (set places (depth + 1) target) (depth + 1)
  path-more places depth target path room child = record {
    root = other 0 (λ e. omega arith) ∙ path.root;
    filled = path.filled;
    child = λ i l. elim (three_ways i depth) [
      | inl less ↦
          subst (λ q. IsChild q (get_or (set places (depth + 1) target) i 0)) (sym (other (i + 1) (λ e. omega arith)))
          (subst (IsChild (get_or places (i + 1) 0)) (sym (other i (λ e. omega arith))) (path.child i less))
      | inr (inl same) ↦
          subst (λ j. IsChild (get_or (set places (depth + 1) target) (j + 1) 0) (get_or (set places (depth + 1) target) j 0)) (sym same)
          (subst (λ q. IsChild q (get_or (set places (depth + 1) target) depth 0)) (sym (get_or-set_same places (depth + 1) target 0 room))
          (subst (IsChild target) (sym (other depth (λ e. omega arith))) child))
      | inr (inr more) ↦ absurd (omega arith)
    ];
  }
    where
      other : (j : ℕ) → (j ≡ depth + 1 → ⊥) → get_or (set places (depth + 1) target) j 0 ≡ get_or places j 0
      other j apart = get_or-set_other places (depth + 1) j target 0 apart

module _ (degree : ℕ) (nodes : List Node) (key : ℕ → List ℕ) (tree : IsTree degree nodes (held_configs nodes) key) where
  pub path-length : (places : List ℕ) (depth i : ℕ) → IsPath nodes key places depth → i ≤ depth → length (key (get_or places i 0)) ≡ i
  path-length places depth zero path l = ap (λ q. length (key q)) path.root ∙ ap length tree.root
  path-length places depth (suc i) path l =
      ap (λ j. length (key (get_or places j 0))) (sym (add-one i)) ∙ ap length (path.child i (omega arith)).1 ∙ ap suc (path-length places depth i path (omega arith))

  pub one-leaf : (q : ℕ) → q < length nodes → length (key q) ≡ degree → count_at nodes key q ≡ 1
  one-leaf q l deep = sym (leaves-counted degree nodes key tree q l) ∙ by_kind (node_at nodes q).kind refl
    where
      by_kind : (k : Kind) → (node_at nodes q).kind ≡ k → leaves_of (node_at nodes q).kind ≡ 1
      by_kind (Inner first leaves) e = absurd (let short = inner-short degree nodes (held_configs nodes) key q first leaves tree l e in omega arith)
      by_kind (Leaf config) e = ap leaves_of e

  -- all leaves lie below the root
  pub root-end : (q : ℕ) → q ≡ 0 → 0 < length nodes → start_of nodes key q + count_at nodes key q ≡ length (held_configs nodes)
  root-end q e filled =
      let all = sym (leaves-counted degree nodes key tree 0 filled) ∙ root-leaves degree nodes key tree filled in
      let none = root-rank degree nodes key 0 tree in
      ap (λ p. start_of nodes key p + count_at nodes key p) e ∙ omega arith

-- ---- steps of a walk
pub way-down : (degree level : ℕ) (nodes : List Node) (way : Way) (first : ℕ) → IsWay degree level nodes way → level < degree → way.number < length (held_configs nodes) → degree ≤ 6
    → first ≡ first_of (node_at nodes (get_or way.places level 0)).kind
    → IsWay degree (level + 1) nodes (record { number = way.number; places = set way.places (level + 1) first })
way-down degree level nodes way first is l some six kind =
    let seven = is.seven in
    let room : level + 1 < length way.places = omega arith in
    let place = get_or way.places level 0 in
    let within = path-within nodes is.key way.places level level is.path (omega arith) in
    let short = subst (λ n. n < degree) (sym (path-length degree nodes is.key is.tree way.places level level is.path (omega arith))) l in
    let link = first_link degree nodes (held_configs nodes) is.key is.tree place first within short kind in
    let ranked = first-rank degree nodes is.key is.tree place within short first 0 link (some-below degree nodes is.key place is.tree within (omega arith)) in
    let child = (link.child ranked.0).1 in
    record {
      key = is.key;
      tree = is.tree;
      path = path-more nodes is.key way.places level first is.path room (link.within, child);
      seven = length-set way.places (level + 1) first ∙ is.seven;
      first = let same = ranked.1 in let begun = is.first in let here : way.number ≡ start_of nodes is.key first = omega arith in here ∙ ap (start_of nodes is.key) (sym (get_or-set_same way.places (level + 1) first 0 room));
    }

pub way-end : (degree : ℕ) (nodes : List Node) (way : Way) → IsWay degree degree nodes way → IsEnd degree degree nodes way
way-end degree nodes way is =
    let within = path-within nodes is.key way.places degree degree is.path (omega arith) in
    let one = one-leaf degree nodes is.key is.tree (get_or way.places degree 0) within (path-length degree nodes is.key is.tree way.places degree degree is.path (omega arith)) in
    record { key = is.key; tree = is.tree; path = is.path; seven = is.seven; last = let first = is.first in omega arith }

pub end-low : (degree depth : ℕ) (nodes : List Node) (way : Way) → IsEnd degree depth nodes way → way.number + 1 < length (held_configs nodes) → 0 < depth
end-low degree zero nodes way is more = absurd (let end = root-end degree nodes is.key is.tree (get_or way.places 0 0) is.path.root is.path.filled in let last = is.last in omega arith)
end-low degree (suc depth) nodes way is more = omega arith

pub end-up : (degree depth above : ℕ) (nodes : List Node) (way : Way) → IsEnd degree depth nodes way → above + 1 ≡ depth → depth ≤ degree → (node_at nodes (get_or way.places depth 0)).next ≡ 0 → IsEnd degree above nodes way
end-up degree depth above nodes way is e most none =
    let child = is.path.child above (omega arith) in
    let path = path-shorter nodes is.key way.places depth above is.path (omega arith) in
    let within = path-within nodes is.key way.places above above path (omega arith) in
    let short = subst (λ n. n < degree) (sym (path-length degree nodes is.key is.tree way.places above above path (omega arith))) (omega arith) in
    let sums = last-rank degree nodes is.key is.tree (get_or way.places above 0) within short (get_or way.places (above + 1) 0) child.0 child.1 (ap (λ j. (node_at nodes (get_or way.places j 0)).next) e ∙ none) in
    record {
      key = is.key;
      tree = is.tree;
      path = path;
      seven = is.seven;
      last = is.last ∙ ap (λ j. start_of nodes is.key (get_or way.places j 0) + count_at nodes is.key (get_or way.places j 0)) (sym e) ∙ sym sums;
    }

pub way-on : (degree depth above next : ℕ) (nodes : List Node) (way : Way) → IsEnd degree depth nodes way → above + 1 ≡ depth → depth ≤ degree
    → next ≡ (node_at nodes (get_or way.places depth 0)).next → 0 < next → degree ≤ 6
    → IsWay degree depth nodes (record { number = way.number + 1; places = set way.places depth next })
way-on degree depth above next nodes way is e most same some six =
    let seven = is.seven in
    let room : depth < length way.places = omega arith in
    let at = get_or way.places (above + 1) 0 in
    let child = is.path.child above (omega arith) in
    let path = path-shorter nodes is.key way.places depth above is.path (omega arith) in
    let within = path-within nodes is.key way.places above above path (omega arith) in
    let short = subst (λ n. n < degree) (sym (path-length degree nodes is.key is.tree way.places above above path (omega arith))) (omega arith) in
    let there : (node_at nodes at).next ≡ next = ap (λ j. (node_at nodes (get_or way.places j 0)).next) e ∙ sym same in
    let filled = subst (λ n. 0 < n) (sym there) some in
    let link : IsLink nodes is.key (is.key (get_or way.places above 0)) ((node_at nodes at).label + 1) next =
    subst (IsLink nodes is.key (is.key (get_or way.places above 0)) ((node_at nodes at).label + 1)) there (is.tree.sibling at (is.key (get_or way.places above 0)) child.0 child.1) in
    let sums = after-rank degree nodes is.key is.tree (get_or way.places above 0) within short at child.0 child.1 filled in
    record {
      key = is.key;
      tree = is.tree;
      path = subst (λ j. IsPath nodes is.key (set way.places j next) j) e (path-more nodes is.key way.places above next path (omega arith) (link.within, (link.child some).1));
      seven = length-set way.places depth next ∙ is.seven;
      first = is.last ∙ ap (λ j. start_of nodes is.key (get_or way.places j 0) + count_at nodes is.key (get_or way.places j 0)) (sym e) ∙ sym sums
          ∙ ap (start_of nodes is.key) (there ∙ sym (get_or-set_same way.places depth next 0 room));
    }

pub way-config : (degree : ℕ) (nodes : List Node) (way : Way) (config : List ℕ) → IsWay degree degree nodes way → (node_at nodes (get_or way.places degree 0)).kind ≡ Leaf config
    → get_or (held_configs nodes) way.number [] ≡ config
way-config degree nodes way config is kind =
    let within = path-within nodes is.key way.places degree degree is.path (omega arith) in
    leaf-rank degree nodes is.key is.tree (get_or way.places degree 0) way.number 0 config within kind (subst (λ k. 0 < leaves_of k) (sym kind) (omega arith)) (let first = is.first in omega arith)

pub way-root : (degree : ℕ) (nodes : List Node) (key : ℕ → List ℕ) (way : Way) → IsTree degree nodes (held_configs nodes) key → 0 < length nodes → way.number ≡ 0 → get_or way.places 0 0 ≡ 0 → length way.places ≡ 7 → IsWay degree 0 nodes way
way-root degree nodes key way tree filled number root seven = record {
  key = key;
  tree = tree;
  path = record { root = root; filled = filled; child = λ i l. absurd (omega arith) };
  seven = seven;
  first = let none = root-rank degree nodes key 0 tree in let here : way.number ≡ start_of nodes key 0 = omega arith in here ∙ ap (start_of nodes key) (sym root);
}
