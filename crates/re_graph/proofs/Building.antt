-- What the tests of a graph tell.
use Rattle.std.proofs.Common.{◌≡◌, ℕ, zero, suc, pred, ◌<◌, ◌≤◌, ◌+◌, true, eqb, ltb, leb, ◌&&◌, ◌⊎◌, inl, inr, List, [], ◌∷◌, length, get_or, sym, ap, ◌∙◌, subst, arith}
use Rattle.std.specs.Prelude.{Contains}
use Rattle.std.specs.List.{AllByRecursion, list_all, list_any}
use Rattle.std.proofs.lemmas.List.{get_or_default}
use Rattle.std.proofs.lemmas.Bool.{leb-true}
use Rattle.re_cover.specs.declared.ends.GraphEnd.{GraphEnd}
use Rattle.re_cover.specs.Graphs.{IsEndOf, IsGraph, IsPassiveEnd, PortGraph, active_end, no_end, passive_end, place_among, same_end, standing_from}
use Rattle.re_cover.proofs.Standing.{place_among-is, same_end-same}
use Rattle.re_graph.specs.Building.{are_ends, ends_once, is_end_of, is_graph, nodes_once, nodes_stand, ports_stand, stands}
use Rattle.re_labels.proofs.Membership.{any_found}
use Rattle.re_labels.proofs.Tests.{and-true, below-true, eqb-true}

end-is : (nodes degree : ℕ) (here : GraphEnd) → is_end_of nodes degree here ≡ true → IsEndOf nodes degree here
end-is nodes degree here test =
    let (first, most) = and-true (ltb here.node nodes && leb 1 here.port) (leb here.port degree) test in
    let (node, least) = and-true (ltb here.node nodes) (leb 1 here.port) first in
    record { node = below-true here.node nodes node; least = leb-true 1 here.port least; most = leb-true here.port degree most }

ends-are : (nodes degree : ℕ) (ends : List GraphEnd) → list_all (is_end_of nodes degree) ends ≡ true → AllByRecursion (IsEndOf nodes degree) ends
ends-are nodes degree [] test = tt
ends-are nodes degree (here ∷ ends) test =
    let (first, rest) = and-true (is_end_of nodes degree here) (list_all (is_end_of nodes degree) ends) test in
    (end-is nodes degree here first, ends-are nodes degree ends rest)

all-are : (nodes degree p : ℕ) (passive : List (List GraphEnd)) → list_all (are_ends nodes degree p) passive ≡ true
    → AllByRecursion (λ ends. length ends ≡ p) passive × AllByRecursion (AllByRecursion (IsEndOf nodes degree)) passive
all-are nodes degree p [] test = (tt, tt)
all-are nodes degree p (ends ∷ passive) test =
    let (first, rest) = and-true (are_ends nodes degree p ends) (list_all (are_ends nodes degree p) passive) test in
    let (count, are) = and-true (eqb (length ends) p) (list_all (is_end_of nodes degree) ends) first in
    let (counts, all) = all-are nodes degree p passive rest in
    ((eqb-true (length ends) p count, counts), (ends-are nodes degree ends are, all))

-- ---- each end stands somewhere
ports-at : (passive : List (List GraphEnd)) (node ports port : ℕ) → ports_stand passive node ports ≡ true → 1 ≤ port → port ≤ ports → stands passive (record { node = node; port = port }) ≡ true
ports-at passive node zero port test low high = absurd (omega arith)
ports-at passive node (suc ports) port test low high =
    let (first, rest) = and-true (stands passive (record { node = node; port = suc ports })) (ports_stand passive node ports) test in
    go first (λ high. ports-at passive node ports port rest low high) (last port ports high)
  where
    last : (x y : ℕ) → x ≤ suc y → (x ≤ y) ⊎ (x ≡ suc y)
    last x y l = grind arith

    go : stands passive (record { node = node; port = suc ports }) ≡ true → (port ≤ ports → stands passive (record { node = node; port = port }) ≡ true) → (port ≤ ports) ⊎ (port ≡ suc ports) → stands passive (record { node = node; port = port }) ≡ true
    go first rest (inl less) = rest less
    go first rest (inr same) = subst (λ p. stands passive (record { node = node; port = p }) ≡ true) (sym same) first

nodes-at : (passive : List (List GraphEnd)) (degree nodes node port : ℕ) → nodes_stand passive degree nodes ≡ true → node < nodes → 1 ≤ port → port ≤ degree → stands passive (record { node = node; port = port }) ≡ true
nodes-at passive degree zero node port test less low high = absurd (omega arith)
nodes-at passive degree (suc nodes) node port test less low high =
    let (first, rest) = and-true (ports_stand passive nodes degree) (nodes_stand passive degree nodes) test in
    go first (λ less. nodes-at passive degree nodes node port rest less low high) (last node nodes less)
  where
    last : (x y : ℕ) → x < suc y → (x < y) ⊎ (x ≡ y)
    last x y l = grind arith

    go : ports_stand passive nodes degree ≡ true → (node < nodes → stands passive (record { node = node; port = port }) ≡ true) → (node < nodes) ⊎ (node ≡ nodes) → stands passive (record { node = node; port = port }) ≡ true
    go first rest (inl less) = rest less
    go first rest (inr same) = ports-at passive node degree port (subst (λ n. ports_stand passive n degree ≡ true) (sym same) first) low high

-- ---- and nowhere else
ends-at : (passive : List (List GraphEnd)) (node port : ℕ) (ends : List GraphEnd) (k : ℕ) → ends_once passive node port ends ≡ true → k < length ends → standing_from 0 passive (get_or ends k no_end) ≡ record { node = node; port = port + k }
ends-at passive node port [] k test less = absurd (omega arith)
ends-at passive node port (here ∷ ends) zero test less =
    let (first, rest) = and-true (same_end (standing_from 0 passive here) (record { node = node; port = port })) (ends_once passive node (suc port) ends) test in
    same_end-same (standing_from 0 passive here) (record { node = node; port = port }) first ∙ ap (λ p. record { node = node; port = p }) (let z : port ≡ port + 0 = omega arith in z)
ends-at passive node port (here ∷ ends) (suc k) test less =
    let (first, rest) = and-true (same_end (standing_from 0 passive here) (record { node = node; port = port })) (ends_once passive node (suc port) ends) test in
    ends-at passive node (suc port) ends k rest (omega arith) ∙ ap (λ p. record { node = node; port = p }) (let z : suc port + k ≡ port + suc k = omega arith in z)

once-at : (passive : List (List GraphEnd)) (node : ℕ) (nodes : List (List GraphEnd)) (s k : ℕ) → nodes_once passive node nodes ≡ true → s < length nodes → k < length (get_or nodes s []) → standing_from 0 passive (get_or (get_or nodes s []) k no_end) ≡ record { node = node + s; port = 1 + k }
once-at passive node [] s k test less few = absurd (omega arith)
once-at passive node (ends ∷ nodes) zero k test less few =
    let (first, rest) = and-true (ends_once passive node 1 ends) (nodes_once passive (suc node) nodes) test in
    ends-at passive node 1 ends k first few ∙ ap (λ n. record { node = n; port = 1 + k }) (let z : node ≡ node + 0 = omega arith in z)
once-at passive node (ends ∷ nodes) (suc s) k test less few =
    let (first, rest) = and-true (ends_once passive node 1 ends) (nodes_once passive (suc node) nodes) test in
    once-at passive (suc node) nodes s k rest (omega arith) few ∙ ap (λ n. record { node = n; port = 1 + k }) (let z : suc node + s ≡ node + suc s = omega arith in z)

count-at : (p : ℕ) (passive : List (List GraphEnd)) (s : ℕ) → AllByRecursion (λ ends. length ends ≡ p) passive → s < length passive → length (get_or passive s []) ≡ p
count-at p [] s all less = absurd (omega arith)
count-at p (ends ∷ passive) zero all less = all.0
count-at p (ends ∷ passive) (suc s) all less = count-at p passive s all.1 (omega arith)

module _ (graph : PortGraph) (counts : AllByRecursion (λ ends. length ends ≡ graph.passive_degree) graph.passive) where
  stands-at : (here : GraphEnd) → stands graph.passive here ≡ true → (there : GraphEnd) × IsPassiveEnd graph there × (active_end graph there ≡ here)
  stands-at here test = go (any_found (λ ends. list_any (λ other. same_end other here) ends) graph.passive test)
    where
      go : (ends : List GraphEnd) × Contains graph.passive ends × (list_any (λ other. same_end other here) ends ≡ true) → (there : GraphEnd) × IsPassiveEnd graph there × (active_end graph there ≡ here)
      go (ends, (s, less, at), found) =
          let (low, is) = place_among-is ends here found in
          let ends_is : get_or graph.passive s [] ≡ ends = get_or_default graph.passive s [] ends less ∙ at in
          let count : length ends ≡ graph.passive_degree = ap length (sym ends_is) ∙ count-at graph.passive_degree graph.passive s counts less in (
            record { node = s; port = suc (place_among ends here) },
            record { node = less; least = omega arith; most = omega (arith, low, count) },
            ap (λ e. get_or e (place_among ends here) no_end) ends_is ∙ is,
          )

  back-at : nodes_once graph.passive 0 graph.passive ≡ true → (there : GraphEnd) → IsPassiveEnd graph there → passive_end graph (active_end graph there) ≡ there
  back-at test there is =
      let low = is.least in
      let high = is.most in
      let few : pred there.port < length (get_or graph.passive there.node []) = omega (arith, low, high, count-at graph.passive_degree graph.passive there.node counts is.node) in
      let node_is : 0 + there.node ≡ there.node = omega arith in
      let port_is : 1 + pred there.port ≡ there.port = omega (arith, low) in
      once-at graph.passive 0 graph.passive there.node (pred there.port) test is.node few ∙ (λ i. record { node = node_is i; port = port_is i })

pub graph_is : (graph : PortGraph) → list_all (are_ends graph.nodes graph.active_degree graph.passive_degree) graph.passive ≡ true → nodes_stand graph.passive graph.active_degree graph.nodes ≡ true → nodes_once graph.passive 0 graph.passive ≡ true → IsGraph graph
graph_is graph all stand once =
    let (counts, ends) = all-are graph.nodes graph.active_degree graph.passive_degree graph.passive all in
    record {
      count = counts;
      ends = ends;
      each = λ here is. stands-at graph counts here (nodes-at graph.passive graph.active_degree graph.nodes here.node here.port stand is.node is.least is.most);
      once = λ there other is is' same. sym (back-at graph counts once there is) ∙ ap (passive_end graph) same ∙ back-at graph counts once other is';
    }

-- the parts of the test
pub is_graph-graph : (graph : PortGraph) → is_graph graph ≡ true → IsGraph graph
is_graph-graph graph test =
    let t1 = and-true _ (nodes_once graph.passive 0 graph.passive) test in
    let t2 = and-true _ (nodes_stand graph.passive graph.active_degree graph.nodes) t1.0 in
    let t3 = and-true _ (list_all (are_ends graph.nodes graph.active_degree graph.passive_degree) graph.passive) t2.0 in
    graph_is graph t3.1 t2.1 t1.1
