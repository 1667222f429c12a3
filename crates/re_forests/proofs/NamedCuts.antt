-- A named view to a depth hangs on the view to one hop more; and a neighbour's named view is the node's own, as the neighbour sees it.
use Rattle.std.proofs.Common.{◌≡◌, ℕ, zero, suc, pred, ◌+◌, ◌*◌, Some, ◌∷◌, refl, sym, ◌∙◌, ap, ap₂, arith}
use Rattle.std.specs.Prelude.{unwrap_or}
use Rattle.re_forests.proofs.Edges.{skip}
use Rattle.re_forests.proofs.Moving.{Behind, Rooted}
use Rattle.re_forests.proofs.NamedTrees.{insert, moved}
use Rattle.re_forests.proofs.NamedViews.{choice, edge_of, first_edge, named_active, named_passive}
use Rattle.re_forests.proofs.ShownAlike.{Reaches}
use Rattle.re_layers.specs.Networks.{Network}
use Rattle.re_given.specs.InputViews.{payloads}
use Rattle.re_laws.proofs.ViewLaws.{HasRoom, cut-cut, cut-put}
use Rattle.re_laws.specs.Trees.{Child, Tree, child_at, cut, end, leaf, more, others, put}

first_edge-cut : (a none r : ℕ) (t : Tree ℕ) → first_edge a none (cut (suc r) t) ≡ first_edge a none t
first_edge-cut a none r leaf = refl
first_edge-cut a none r end = refl
first_edge-cut a none r (more back label branch rest) = refl

mutual
  pub cut_active : (a N : ℕ) (D x : ℕ) (port : ℕ → ℕ) (t : Tree ℕ) → cut D (named_active a N x port (cut (suc D) t)) ≡ cut D (named_active a N x port t)
  cut_active a N zero x port t = refl
  cut_active a N (suc D) x port leaf = refl
  cut_active a N (suc D) x port end = refl
  cut_active a N (suc D) x port (more back label branch rest) =
      let name : N + edge_of a (x * a + port zero) back (cut (suc D) branch) ≡ N + edge_of a (x * a + port zero) back branch =
      ap (λ e. N + choice (pred back) (x * a + port zero) e) (first_edge-cut a (x * a + port zero) D branch) in
      let here : cut D (named_passive a N (cut (suc D) branch)) ≡ cut D (named_passive a N branch) = cut_passive a N D branch in
      let there : cut (suc D) (named_active a N x (λ k. port (suc k)) (cut (suc (suc D)) rest)) ≡ cut (suc D) (named_active a N x (λ k. port (suc k)) rest) =
      cut_active a N (suc D) x (λ k. port (suc k)) rest in
      ap (λ n. more back n (cut D (named_passive a N (cut (suc D) branch))) (cut (suc D) (named_active a N x (λ k. port (suc k)) (cut (suc (suc D)) rest)))) name
      ∙ ap₂ (λ b r. more back (N + edge_of a (x * a + port zero) back branch) b r) here there

  pub cut_passive : (a N : ℕ) (D : ℕ) (t : Tree ℕ) → cut D (named_passive a N (cut (suc D) t)) ≡ cut D (named_passive a N t)
  cut_passive a N zero t = refl
  cut_passive a N (suc D) leaf = refl
  cut_passive a N (suc D) end = refl
  cut_passive a N (suc D) (more back label branch rest) =
      ap₂ (λ b r. more back label b r) (cut_active a N D label (skip (pred back)) branch) (cut_passive a N (suc D) rest)

-- ---- what a network shows, it shows to a depth
pub payloads-cut : (k : ℕ) (t : Tree ℕ) → payloads (cut (suc k) t) ≡ payloads t
payloads-cut k leaf = refl
payloads-cut k end = refl
payloads-cut k (more back name branch rest) = ap (λ xs. name ∷ xs) (payloads-cut k rest)

Behind-cut : (G : Network) (q k : ℕ) (t : Tree ℕ) → Behind G q t → Behind G q (cut k t)
Behind-cut G q zero t h = tt
Behind-cut G q (suc k) leaf h = tt
Behind-cut G q (suc k) end h = tt
Behind-cut G q (suc zero) (more back name branch rest) h = (λ node. absurd node, tt, Behind-cut G q (suc zero) rest h.2)
Behind-cut G q (suc (suc k)) (more back name leaf rest) h = (λ node. absurd node, tt, Behind-cut G q (suc (suc k)) rest h.2)
Behind-cut G q (suc (suc k)) (more back name end rest) h = (h.0, tt, Behind-cut G q (suc (suc k)) rest h.2)
Behind-cut G q (suc (suc k)) (more back name (more b n br r) rest) h = (
  λ node. h.0 tt ∙ ap (λ xs. insert (pred back) q xs) (sym (payloads-cut k (more b n br r))),
  Behind-cut G name (suc k) (more b n br r) h.1,
  Behind-cut G q (suc (suc k)) rest h.2,
)

pub Rooted-cut : (G : Network) (r k : ℕ) (t : Tree ℕ) → Rooted G r t → Rooted G r (cut (suc k) t)
Rooted-cut G r k t h = record { near = h.near ∙ sym (payloads-cut k t); behind = Behind-cut G r (suc k) t h.behind }

-- named views are whole
mutual
  pub Reaches-active : (a N k x : ℕ) (port : ℕ → ℕ) (t : Tree ℕ) → Reaches k (cut k (named_active a N x port t))
  Reaches-active a N zero x port t = tt
  Reaches-active a N (suc k) x port leaf = tt
  Reaches-active a N (suc k) x port end = tt
  Reaches-active a N (suc k) x port (more back label branch rest) = (Reaches-passive a N k branch, Reaches-active a N (suc k) x (λ k. port (suc k)) rest)

  Reaches-passive : (a N k : ℕ) (t : Tree ℕ) → Reaches k (cut k (named_passive a N t))
  Reaches-passive a N zero t = tt
  Reaches-passive a N (suc k) leaf = tt
  Reaches-passive a N (suc k) end = tt
  Reaches-passive a N (suc k) (more back label branch rest) = (Reaches-active a N k label (skip (pred back)) branch, Reaches-passive a N (suc k) rest)

-- ---- children
-- a child of an active node and of a passive node, named
abbrev pub named_behind : ℕ → ℕ → ℕ → ℕ → Child ℕ → Child ℕ
named_behind a N x j c = record { back = c.back; payload = N + edge_of a (x * a + j) c.back c.branch; branch = named_passive a N c.branch }

abbrev pub named_child : ℕ → ℕ → Child ℕ → Child ℕ
named_child a N c = record { back = c.back; payload = c.payload; branch = named_active a N c.payload (skip (pred c.back)) c.branch }

named_put : (a N x : ℕ) (port : ℕ → ℕ) (k : ℕ) (c : Child ℕ) (t : Tree ℕ) → HasRoom k t
    → named_active a N x port (put k c t) ≡ put k (named_behind a N x (port k) c) (named_active a N x (λ i. port (skip k i)) t)
named_put a N x port zero c t room = refl
named_put a N x port (suc k) c leaf room = absurd room
named_put a N x port (suc k) c end room = absurd room
named_put a N x port (suc k) c (more back label branch rest) room =
    ap (λ r. more back (N + edge_of a (x * a + port zero) back branch) (named_passive a N branch) r) (named_put a N x (λ i. port (suc i)) k c rest room)

others-named : (a N k : ℕ) (t : Tree ℕ) → others k (named_passive a N t) ≡ named_passive a N (others k t)
others-named a N k leaf = refl
others-named a N k end = refl
others-named a N zero (more back label branch rest) = refl
others-named a N (suc k) (more back label branch rest) = ap (λ r. more back label (named_active a N label (skip (pred back)) branch) r) (others-named a N k rest)

pub child_at-named : (a N k : ℕ) (c : Child ℕ) (t : Tree ℕ) → child_at k t ≡ Some c → child_at k (named_passive a N t) ≡ Some (named_child a N c)
child_at-named a N k c leaf at = absurd (cc)
child_at-named a N k c end at = absurd (cc)
child_at-named a N zero c (more back label branch rest) at =
    let is : _ = ap (λ found. unwrap_or found c) at in
    ap (λ (c : Child ℕ). Some (named_child a N c)) is
child_at-named a N (suc k) c (more back label branch rest) at = child_at-named a N k c rest at

-- the name of a passive node is the same, seen from a neighbour
same_name : (a k : ℕ) (c : Child ℕ) (t : Tree ℕ) (r : ℕ) → child_at k t ≡ Some c → edge_of a (c.payload * a + pred c.back) (suc k) (cut (suc r) (others k t)) ≡ first_edge a 0 t
same_name a k c leaf r at = absurd (cc)
same_name a k c end r at = absurd (cc)
same_name a zero c (more back label branch rest) r at =
    let is : _ = ap (λ found. unwrap_or found c) at in
    ap (λ (c : Child ℕ). c.payload * a + pred c.back) (sym is)
same_name a (suc k) c (more back label branch rest) r at = refl

-- the view of the neighbour at place k, named, is the named view as this neighbour sees it
pub same_cut : (a N T k : ℕ) (c : Child ℕ) (w : Tree ℕ) → child_at k w ≡ Some c → HasRoom (pred c.back) c.branch
    → cut (suc T) (named_active a N c.payload (λ i. i) (cut (suc (suc T)) (put (pred c.back) (record { back = suc k; payload = c.payload; branch = cut (suc (suc T)) (others k w) }) c.branch)))
    ≡ cut (suc T) (moved (N + first_edge a 0 w) k (named_child a N c) (named_passive a N w))
same_cut a N T k c w at room =
    let turned : Child ℕ = record { back = suc k; payload = c.payload; branch = cut (suc (suc T)) (others k w) } in
    let others_named : Tree ℕ = named_active a N c.payload (skip (pred c.back)) c.branch in
    let root : Child ℕ = record { back = suc k; payload = N + first_edge a 0 w; branch = others k (named_passive a N w) } in
    let one : cut (suc T) (named_active a N c.payload (λ i. i) (cut (suc (suc T)) (put (pred c.back) turned c.branch))) ≡ cut (suc T) (named_active a N c.payload (λ i. i) (put (pred c.back) turned c.branch)) =
    cut_active a N (suc T) c.payload (λ i. i) (put (pred c.back) turned c.branch) in
    let two : named_active a N c.payload (λ i. i) (put (pred c.back) turned c.branch) ≡ put (pred c.back) (named_behind a N c.payload (pred c.back) turned) others_named =
    named_put a N c.payload (λ i. i) (pred c.back) turned c.branch room in
    let name : N + edge_of a (c.payload * a + pred c.back) (suc k) (cut (suc (suc T)) (others k w)) ≡ N + first_edge a 0 w = ap (λ e. N + e) (same_name a k c w (suc T) at) in
    let behind : cut T (named_passive a N (cut (suc (suc T)) (others k w))) ≡ cut T (others k (named_passive a N w)) =
    sym (cut_passive a N T (cut (suc (suc T)) (others k w)))
    ∙ (ap (λ z. cut T (named_passive a N z)) (cut-cut (suc T) (suc (suc T)) (others k w) (omega arith))
    ∙ (cut_passive a N T (others k w) ∙ ap (cut T) (sym (others-named a N k w)))) in
    one ∙ (ap (cut (suc T)) two ∙ (cut-put T (pred c.back) (named_behind a N c.payload (pred c.back) turned) others_named
    ∙ (ap₂ (λ n b. put (pred c.back) (record { back = suc k; payload = n; branch = b }) (cut (suc T) others_named)) name behind
    ∙ sym (cut-put T (pred c.back) root others_named))))
