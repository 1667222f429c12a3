-- Walks down a prefix tree: what lies behind the first branch, and what comes after it.
use Rattle.std.proofs.Common.{◌≡◌, ◌∷◌, ◌∙◌, ◌+◌, ℕ, zero, suc, ◌<◌, List, [], length, get_or, drop, refl, sym, ap, subst, arith}
use Rattle.std.specs.Prelude.{Contains, ◌↔◌}
use Rattle.std.proofs.Math.Seq.{drop-cons}
use Rattle.re_labels.proofs.Membership.{In-Contains}
use Rattle.re_labels.proofs.TreeGrowth.{length-prefix}
use Rattle.re_labels.proofs.TreeLeaves.{held_place, reached}
use Rattle.re_labels.proofs.TreeRanks.{begins-is, counted-some}
use Rattle.re_labels.proofs.TreeWalks.{first_link}
use Rattle.re_labels.specs.Endings.{IsBranches, IsEnding, IsFirst}
use Rattle.re_labels.specs.PrefixTrees.{IsBelow, IsLink, IsPrefixTree, IsTree, begins, first_of, held_configs, node_at, prefix}
use Rattle.re_labels.specs.declared.branches.Branches.{Branches}
use Rattle.re_labels.specs.declared.prefix_tree.Kind.{Kind}
use Rattle.re_labels.specs.declared.prefix_tree.Kind.TheVariants.{Inner, Leaf}
use Rattle.re_labels.specs.declared.prefix_tree.Node.{Node}
use Rattle.re_labels.specs.declared.TheConstants.{MAX_LABELS}

module _ (degree : ℕ) (nodes : List Node) (depth : ℕ) (at : Branches) (is : IsBranches degree nodes depth at) (deep : depth < degree) where
  -- a configuration behind its first labels
  goes_on : (config : List ℕ) → length config ≡ degree → drop depth config ≡ get_or config depth 0 ∷ drop (suc depth) config
  goes_on config long = drop-cons config depth 0 (omega arith)

  ending-parts : (x : ℕ) (ending : List ℕ) (e : IsEnding degree nodes depth at (x ∷ ending)) → (get_or e.config depth 0 ≡ x) × (drop (suc depth) e.config ≡ ending)
  ending-parts x ending e =
      let long = (held_place degree nodes e.key e.tree e.config e.held).2 in
      let two : get_or e.config depth 0 ∷ drop (suc depth) e.config ≡ x ∷ ending = sym (goes_on e.config long) ∙ e.rest in
      let one : get_or e.config depth 0 ≡ x = cc in
      let others : drop (suc depth) e.config ≡ ending = cc in
      (one, others)

  -- a label that comes next is below 128
  pub ending-narrow : (x : ℕ) (ending : List ℕ) → IsEnding degree nodes depth at (x ∷ ending) → x < MAX_LABELS
  ending-narrow x ending e =
      let parts = ending-parts x ending e in
      let there = reached degree nodes e.key e.tree e.config e.held (suc depth) (omega arith) in
      let upper = e.tree.parent there.0 (above_root there.0 there.2) there.1 in
      let two : (node_at nodes there.0).label ∷ e.key upper.0 ≡ get_or e.config depth 0 ∷ prefix e.config depth = sym upper.2 ∙ there.2 in
      let one : (node_at nodes there.0).label ≡ get_or e.config depth 0 = cc in
      let low = e.tree.narrow there.0 there.1 in
      omega (arith, low, one, parts.0)
    where
      above_root : (q : ℕ) → e.key q ≡ prefix e.config (suc depth) → 0 < q
      above_root zero on = absurd (let empty = e.tree.root in cc)
      above_root (suc q) on = omega arith

  -- a configuration whose first labels are those at the first branch
  ending-at : (key : ℕ → List ℕ) → IsTree degree nodes (held_configs nodes) key → 0 < at.place → (config : List ℕ) → Contains (held_configs nodes) config → key at.place ≡ prefix config (suc depth)
      → IsEnding degree nodes depth at ((node_at nodes at.place).label ∷ drop (suc depth) config)
  ending-at key tree some config held on =
      let up = tree.parent at.place some (is.within some) in
      let two : (node_at nodes at.place).label ∷ key up.0 ≡ get_or config depth 0 ∷ prefix config depth = sym up.2 ∙ on in
      let same : (node_at nodes at.place).label ≡ get_or config depth 0 = cc in
      let long = (held_place degree nodes key tree config held).2 in
      record {
        some = some;
        key = key;
        tree = tree;
        config = config;
        held = held;
        rest = goes_on config long ∙ ap (λ l. l ∷ drop (suc depth) config) (sym same);
        inner = λ _. (on ∙ ap (λ l. l ∷ prefix config depth) (sym same), omega (arith, same));
        leaf = λ e. absurd (omega (arith, e));
      }

  pub none-there : at.place ≡ 0 → (ending : List ℕ) → IsEnding degree nodes depth at ending → ⊥
  none-there none ending e = let some = e.some in omega (arith, some, none)

  module _ (some : 0 < at.place) where
    -- some configuration lies behind the first branch
    some-there : (config : List ℕ) × Contains (held_configs nodes) config × (is.tree.0 at.place ≡ prefix config (suc depth))
    some-there =
        let key = is.tree.0 in
        let found = counted-some (begins (key at.place)) (held_configs nodes) (is.tree.1.filled at.place some (is.within some)) in
        let count : length (key at.place) ≡ suc depth = (let e = is.deep some deep key is.tree.1 in omega (arith, e)) in
        (found.0, In-Contains found.0 (held_configs nodes) found.1, begins-is (key at.place) found.0 found.2 ∙ ap (prefix found.0) count)

    pub first-there : IsFirst degree nodes depth at (node_at nodes at.place).label
    first-there = record {
      some = (drop (suc depth) some-there.0, ending-at is.tree.0 is.tree.1 some some-there.0 some-there.1 some-there.2);
      least = λ other ending e. let low = (e.inner deep).1 in let same = (ending-parts other ending e).0 in omega (arith, low, same);
    }

    pub narrow-there : (node_at nodes at.place).label < MAX_LABELS
    narrow-there = is.tree.1.narrow at.place (is.within some)

  module _ (label : ℕ) (first : IsFirst degree nodes depth at label) where
    filled : 0 < at.place
    filled = first.some.1.some

    pub label-there : (node_at nodes at.place).label ≡ label
    label-there =
        let here = first-there filled in
        let low = first.least (node_at nodes at.place).label here.some.0 here.some.1 in
        let high = here.least label first.some.0 first.some.1 in
        omega (arith, low, high)

    -- the configurations with this ending are those behind the first branch
    up : (key : ℕ → List ℕ) → IsTree degree nodes (held_configs nodes) key → (config ending : List ℕ) → Contains (held_configs nodes) config → key at.place ≡ prefix config (suc depth) → drop (suc depth) config ≡ ending
        → IsEnding degree nodes depth at (label ∷ ending)
    up key tree config ending held on rest = subst (IsEnding degree nodes depth at) (λ i. label-there i ∷ rest i) (ending-at key tree filled config held on)

    down : (ending : List ℕ) (e : IsEnding degree nodes depth at (label ∷ ending)) → (e.key at.place ≡ prefix e.config (suc depth)) × (drop (suc depth) e.config ≡ ending)
    down ending e =
        let parts = ending-parts label ending e in
        ((e.inner deep).0 ∙ ap (λ l. l ∷ prefix e.config depth) (label-there ∙ sym parts.0), parts.1)

    module _ (low : Branches) where
      abbrev pub IsLow : Kind → Type 0
      IsLow (Inner first leaves) = low.place ≡ first
      IsLow (Leaf config) = low.place ≡ at.place

      abbrev IsDown : ℕ → Type 0
      IsDown next = IsBranches degree nodes next low × ((ending : List ℕ) → IsEnding degree nodes next low ending ↔ IsEnding degree nodes depth at (label ∷ ending))

      under-inner : (child leaves : ℕ) → (node_at nodes at.place).kind ≡ Inner child leaves → low.place ≡ child → IsDown (suc depth)
      under-inner child leaves kind same = (
        record {
          tree = is.tree;
          within = λ _. (link is.tree.0 is.tree.1).within;
          deep = λ there _ key tree. let e = ap length ((link key tree).child there).1 in let long = is.deep filled deep key tree in omega (arith, e, long);
        },
        λ ending. (forth ending, back ending),
      )
        where
          short : (key : ℕ → List ℕ) → IsTree degree nodes (held_configs nodes) key → length (key at.place) < degree
          short key tree = (subst (IsBelow degree nodes (held_configs nodes) key (key at.place)) kind (tree.below at.place (is.within filled))).0

          link : (key : ℕ → List ℕ) → IsTree degree nodes (held_configs nodes) key → IsLink nodes key (key at.place) 0 low.place
          link key tree = first_link degree nodes (held_configs nodes) key tree at.place low.place (is.within filled) (short key tree) (same ∙ sym (ap first_of kind))

          inside : suc depth < degree
          inside = let s = short is.tree.0 is.tree.1 in let long = is.deep filled deep is.tree.0 is.tree.1 in omega (arith, s, long)

          forth : (ending : List ℕ) → IsEnding degree nodes (suc depth) low ending → IsEnding degree nodes depth at (label ∷ ending)
          forth ending e =
              let child = ((link e.key e.tree).child e.some).1 in
              let two : (node_at nodes low.place).label ∷ e.key at.place ≡ (node_at nodes low.place).label ∷ prefix e.config (suc depth) = sym child ∙ (e.inner inside).0 in
              let on : e.key at.place ≡ prefix e.config (suc depth) = cc in
              up e.key e.tree e.config ending e.held on e.rest

          back : (ending : List ℕ) → IsEnding degree nodes depth at (label ∷ ending) → IsEnding degree nodes (suc depth) low ending
          back ending e =
              let both = down ending e in
              let there = reached degree nodes e.key e.tree e.config e.held (suc (suc depth)) (omega (arith, inside)) in
              let on : e.key there.0 ≡ get_or e.config (suc depth) 0 ∷ e.key at.place = there.2 ∙ ap (λ k. get_or e.config (suc depth) 0 ∷ k) (sym both.0) in
              let near = (link e.key e.tree).nearest there.0 (get_or e.config (suc depth) 0) there.1 on (omega arith) in
              record {
                some = near.0;
                key = e.key;
                tree = e.tree;
                config = e.config;
                held = e.held;
                rest = both.1;
                inner = λ _. (((link e.key e.tree).child near.0).1 ∙ ap (λ k. (node_at nodes low.place).label ∷ k) both.0, near.1);
                leaf = λ last. absurd (omega (arith, last, inside));
              }

      under-leaf : (config : List ℕ) → (node_at nodes at.place).kind ≡ Leaf config → low.place ≡ at.place → IsDown (suc depth)
      under-leaf config kind same = (
        record {
          tree = is.tree;
          within = λ there. subst (λ p. p < length nodes) (sym same) (is.within filled);
          deep = λ there inside key tree. absurd (omega (arith, inside, last));
        },
        λ ending. (forth ending, back ending),
      )
        where
          last : suc depth ≡ degree
          last =
              let below : IsBelow degree nodes (held_configs nodes) is.tree.0 (is.tree.0 at.place) (Leaf config) =
              subst (IsBelow degree nodes (held_configs nodes) is.tree.0 (is.tree.0 at.place)) kind (is.tree.1.below at.place (is.within filled)) in
              let long = is.deep filled deep is.tree.0 is.tree.1 in
              let count = ap length below.1 ∙ length-prefix config degree in
              omega (arith, long, count)

          forth : (ending : List ℕ) → IsEnding degree nodes (suc depth) low ending → IsEnding degree nodes depth at (label ∷ ending)
          forth ending e = up e.key e.tree e.config ending e.held (ap e.key (sym same) ∙ e.leaf last ∙ ap (prefix e.config) (sym last)) e.rest

          back : (ending : List ℕ) → IsEnding degree nodes depth at (label ∷ ending) → IsEnding degree nodes (suc depth) low ending
          back ending e =
              let both = down ending e in
              record {
                some = subst (λ p. 0 < p) (sym same) e.some;
                key = e.key;
                tree = e.tree;
                config = e.config;
                held = e.held;
                rest = both.1;
                inner = λ inside. absurd (omega (arith, inside, last));
                leaf = λ _. ap e.key same ∙ both.0 ∙ ap (prefix e.config) last;
              }

      pub below-there : (kind : Kind) → (node_at nodes at.place).kind ≡ kind → IsLow kind
          → IsBranches degree nodes (depth + 1) low × ((ending : List ℕ) → IsEnding degree nodes (depth + 1) low ending ↔ IsEnding degree nodes depth at (label ∷ ending))
      below-there (Inner child leaves) kind same = let e : suc depth ≡ depth + 1 = omega arith in subst IsDown e (under-inner child leaves kind same)
      below-there (Leaf config) kind same = let e : suc depth ≡ depth + 1 = omega arith in subst IsDown e (under-leaf config kind same)

    pub after-there : (high : Branches) → high.place ≡ (node_at nodes at.place).next
        → IsBranches degree nodes depth high × ((other : ℕ) (ending : List ℕ) → IsEnding degree nodes depth high (other ∷ ending) ↔ ((label < other) × IsEnding degree nodes depth at (other ∷ ending)))
    after-there high same = (
      record {
        tree = is.tree;
        within = λ _. (own is.tree.0 is.tree.1).1.within;
        deep = λ there _ key tree.
            let link = own key tree in
            let e = ap length (link.1.child there).1 in
            let f = ap length link.2 in
            let long = is.deep filled deep key tree in
            omega (arith, e, f, long);
      },
      λ other ending. (forth other ending, back other ending),
    )
      where
        link : (key : ℕ → List ℕ) → IsTree degree nodes (held_configs nodes) key → (above : List ℕ) → key at.place ≡ (node_at nodes at.place).label ∷ above → IsLink nodes key above ((node_at nodes at.place).label + 1) high.place
        link key tree above on = subst (IsLink nodes key above ((node_at nodes at.place).label + 1)) (sym same) (tree.sibling at.place above (is.within filled) on)

        own : (key : ℕ → List ℕ) → IsTree degree nodes (held_configs nodes) key → (above : List ℕ) × IsLink nodes key above ((node_at nodes at.place).label + 1) high.place × (key at.place ≡ (node_at nodes at.place).label ∷ above)
        own key tree = let up = tree.parent at.place filled (is.within filled) in (key up.0, link key tree (key up.0) up.2, up.2)

        forth : (other : ℕ) (ending : List ℕ) → IsEnding degree nodes depth high (other ∷ ending) → (label < other) × IsEnding degree nodes depth at (other ∷ ending)
        forth other ending e =
            let here = own e.key e.tree in
            let child = here.1.child e.some in
            let two : (node_at nodes high.place).label ∷ here.0 ≡ (node_at nodes high.place).label ∷ prefix e.config depth = sym child.1 ∙ (e.inner deep).0 in
            let above : here.0 ≡ prefix e.config depth = cc in
            let long = (held_place degree nodes e.key e.tree e.config e.held).2 in
            let parts : get_or e.config depth 0 ∷ drop (suc depth) e.config ≡ other ∷ ending = sym (goes_on e.config long) ∙ e.rest in
            let label_is : get_or e.config depth 0 ≡ other = cc in
            let low = child.0 in
            let high_low = (e.inner deep).1 in
            let there = label-there in (
              omega (arith, low, high_low, there, label_is),
              record {
                some = filled;
                key = e.key;
                tree = e.tree;
                config = e.config;
                held = e.held;
                rest = e.rest;
                inner = λ _. (here.2 ∙ ap (λ k. (node_at nodes at.place).label ∷ k) above, omega (arith, low, high_low));
                leaf = λ last. absurd (omega (arith, last));
              },
            )

        back : (other : ℕ) (ending : List ℕ) → ((label < other) × IsEnding degree nodes depth at (other ∷ ending)) → IsEnding degree nodes depth high (other ∷ ending)
        back other ending (more, e) =
            let parts = ending-parts other ending e in
            let here = link e.key e.tree (prefix e.config depth) (e.inner deep).0 in
            let there = reached degree nodes e.key e.tree e.config e.held (suc depth) (omega arith) in
            let is_label = label-there in
            let near = here.nearest there.0 (get_or e.config depth 0) there.1 there.2 (omega (arith, more, parts.0, is_label)) in
            record {
              some = near.0;
              key = e.key;
              tree = e.tree;
              config = e.config;
              held = e.held;
              rest = e.rest;
              inner = λ _. ((here.child near.0).1, near.1);
              leaf = λ last. absurd (omega (arith, last));
            }

-- ---- all branches
module _ (degree : ℕ) (some_label : 0 < degree) (nodes : List Node) (whole : IsPrefixTree degree nodes) (all : Branches) where
  pub all-there : 0 < length nodes → all.place ≡ first_of (node_at nodes 0).kind
      → IsBranches degree nodes 0 all × ((ending : List ℕ) → IsEnding degree nodes 0 all ending ↔ Contains (held_configs nodes) ending)
  all-there filled same = (
    record {
      tree = whole;
      within = λ _. (link whole.0 whole.1).within;
      deep = λ there _ key tree. let e = ap length ((link key tree).child there).1 in omega (arith, e);
    },
    λ ending. (λ e. subst (Contains (held_configs nodes)) e.rest e.held, back ending),
  )
    where
      link : (key : ℕ → List ℕ) → IsTree degree nodes (held_configs nodes) key → IsLink nodes key [] 0 all.place
      link key tree = subst (λ k. IsLink nodes key k 0 all.place) tree.root
          (first_link degree nodes (held_configs nodes) key tree 0 all.place filled (subst (λ k. length k < degree) (sym tree.root) some_label) same)

      back : (ending : List ℕ) → Contains (held_configs nodes) ending → IsEnding degree nodes 0 all ending
      back ending held =
          let there = reached degree nodes whole.0 whole.1 ending held (suc zero) (omega arith) in
          let near = (link whole.0 whole.1).nearest there.0 (get_or ending 0 0) there.1 there.2 (omega arith) in
          record {
            some = near.0;
            key = whole.0;
            tree = whole.1;
            config = ending;
            held = held;
            rest = refl;
            inner = λ _. (((link whole.0 whole.1).child near.0).1, near.1);
            leaf = λ last. absurd (omega (arith, last));
          }
