-- Identifiers of which a label stands around no passive node are left out, one after another. Of those that stay each label does.
use Rattle.std.proofs.Common.{◌≡◌, ℕ, zero, suc, ◌+◌, ◌*◌, ◌/◌, ◌%◌, ◌≤◌, ◌<◌, Bool, true, false, cond, eqb, inl, inr, List, [], ◌∷◌, map, length, refl, sym, ◌∙◌, ap, subst, arith, eq-or-lt_of_le}
use Rattle.std.specs.List.{AllByRecursion, list_any}
use Rattle.std.specs.Prelude.{◌⊎◌, Contains}
use Rattle.std.proofs.lemmas.Bool.Decides.{eqb_tells}
use Rattle.std.proofs.lemmas.List.{length-map}
use Rattle.std.proofs.lemmas.Nat.{div-add-mod', div-mul-add, mod-mul-add, mod_below}
use Rattle.re_labels.proofs.Rearranging.{Contains-Rearranged}
use Rattle.re_labels.proofs.Sorting.{Rearranged-sorted, sorted_map}
use Rattle.re_labels.specs.Configs.{sorted}
use Rattle.re_local.proofs.UnavoidableIdentifiers.{first_ports, joined_there, label_there, labels_at_below, length-labels_at, same_port}
use Rattle.re_local.specs.Identifiers.{IdHypergraph, identifiers, labels_at}
use Rattle.re_local.specs.Separating.{HasAllEdges}
use Rattle.re_labels.proofs.Membership.{Contains-here, Contains-later, any_found, any_true}
use Rattle.re_labels.proofs.Tests.{eqb-apart, eqb-same, eqb-true}
use Rattle.re_problem.specs.NamedProblems.{OccursIn}
use Rattle.re_labels.specs.Constraints.{Constraint, Has}

-- identifiers of one colour, one for each of these ports, that the hypergraph joins by these ports
pub record AreJoined (a N : ℕ) (hyper : IdHypergraph) (colour : ℕ → ℕ) (shade : ℕ) (ports : List ℕ) : Type 0 where
  pub ids : List ℕ
  pub count : length ids ≡ length ports
  pub below : AllByRecursion (λ x. x < N) ids
  pub shades : AllByRecursion (λ x. colour x ≡ shade) ids
  pub joined : hyper (sorted (labels_at a ids ports)) ≡ true

-- no identifiers that all have the colour m + port are joined, all by that port
abbrev pub IsGood : ℕ → ℕ → ℕ → IdHypergraph → ℕ → (ℕ → ℕ) → Type 0
IsGood a p N hyper m colour = (i : ℕ) → i < a → (ids : List ℕ) → length ids ≡ p → AllByRecursion (λ x. x < N) ids → AllByRecursion (λ x. colour x ≡ m + i) ids → hyper (sorted (labels_at a ids (same_port i p))) ≡ true → ⊥

-- however identifiers get m colours, and as many more for ports as long as that is good, those of one of the m colours are joined by each p ports
abbrev pub JoinsWithin : ℕ → ℕ → ℕ → IdHypergraph → ℕ → Type 0
JoinsWithin a p N hyper m =
    (colour : ℕ → ℕ) → ((x : ℕ) → x < N → colour x < m + a) → IsGood a p N hyper m colour →
    (shade : ℕ) × (shade < m) × ((ports : List ℕ) → length ports ≡ p → AllByRecursion (λ i. i < a) ports → AreJoined a N hyper colour shade ports)

-- the label of the identifier's other name
abbrev pub relabel : ℕ → (ℕ → ℕ) → ℕ → ℕ
relabel a name u = name (u / a) * a + u % a

-- the hypergraph of identifiers under other names
abbrev pub renamed : ℕ → (ℕ → ℕ) → IdHypergraph → IdHypergraph
renamed a name hyper labels = hyper (sorted (map (relabel a name) labels))

pub record Pruned (a p N : ℕ) (hyper : IdHypergraph) (m : ℕ) : Type 0 where
  pub count : ℕ
  pub up_to : count ≤ N
  pub name : ℕ → ℕ
  pub kept : IdHypergraph
  pub from : (labels : List ℕ) → kept (sorted labels) ≡ true → hyper (sorted (map (relabel a name) labels)) ≡ true
  pub edges : HasAllEdges a p count kept
  pub joins : JoinsWithin a p count kept m

-- ---- which labels stand around a passive node
search_below : (P Q : ℕ → Type 0) → ((x : ℕ) → P x ⊎ Q x) → (n : ℕ) → ((x : ℕ) × (x < n) × P x) ⊎ ((x : ℕ) → x < n → Q x)
search_below P Q each zero = inr (λ x l. absurd (omega arith))
search_below P Q each (suc n) = elim (each n) [
  | inl p ↦ inl (n, omega arith, p)
  | inr q ↦ elim (search_below P Q each n) [
    | inl f ↦ inl (f.0, (let l = f.1 in omega arith), f.2)
    | inr all ↦ inr (λ x l. elim (eq-or-lt_of_le l) [ inl e ↦ subst Q (omega (arith, e)) q | inr m ↦ all x (omega arith) ])
  ]
]

abbrev Lacks : Constraint → ℕ → Type 0
Lacks constraint label = OccursIn constraint label → ⊥

occurs_or_lacks : (constraint : Constraint) (label : ℕ) → OccursIn constraint label ⊎ Lacks constraint label
occurs_or_lacks constraint label = tell (list_any (λ config. list_any (eqb label) config) constraint.configs) refl
  where
    tell : (b : Bool) → b ≡ list_any (λ config. list_any (eqb label) config) constraint.configs → OccursIn constraint label ⊎ Lacks constraint label
    tell true e =
        let (config, held, some) = any_found (λ config. list_any (eqb label) config) constraint.configs (sym e) in
        let (u, at, same) = any_found (eqb label) config some in
        inl (config, held, subst (Contains config) (sym (eqb-true label u same)) at)
    tell false e = inr (λ (config, held, at).
        let found : list_any (λ config. list_any (eqb label) config) constraint.configs ≡ true = any_true (λ config. list_any (eqb label) config) constraint.configs config held (any_true (eqb label) config label at (eqb-same label)) in
        absurd (cc))

all_or_lacks : (a p N : ℕ) (hyper : IdHypergraph) → ((x : ℕ) × (x < N) × (i : ℕ) × (i < a) × Lacks (identifiers a p N hyper).passive (x * a + i)) ⊎ HasAllEdges a p N hyper
all_or_lacks a p N hyper = elim (search_below (λ x. (i : ℕ) × (i < a) × Lacks (identifiers a p N hyper).passive (x * a + i)) (λ x. (i : ℕ) → i < a → OccursIn (identifiers a p N hyper).passive (x * a + i))
    (λ x. search_below (λ i. Lacks (identifiers a p N hyper).passive (x * a + i)) (λ i. OccursIn (identifiers a p N hyper).passive (x * a + i))
    (λ i. elim (occurs_or_lacks (identifiers a p N hyper).passive (x * a + i)) [ inl e ↦ inr e | inr l ↦ inl l ]) a) N) [
      | inl f ↦ inl (f.0, f.1, f.2.0, f.2.1, f.2.2)
      | inr all ↦ inr (λ x i xl il. all x xl i il)
    ]

-- ---- one identifier less: the last one takes the name of the one left out
module _ (a p M m x i : ℕ) (hyper : IdHypergraph) (x_below : x < suc M) (i_below : i < a) (lacks : Lacks (identifiers a p (suc M) hyper).passive (x * a + i)) where
  abbrev old : ℕ → ℕ
  old y = cond (eqb y x) M y

  abbrev new : ℕ → ℕ
  new y = cond (eqb y M) x y

  new_below : (y : ℕ) → y < suc M → (y ≡ x → ⊥) → new y < M
  new_below y l away = elim (eqb_tells y M) [
    | inl t ↦ rw t.0 (elim (eq-or-lt_of_le x_below) [ inl e ↦ absurd (away (t.1 ∙ (let e' = e in omega arith))) | inr more ↦ omega arith ])
    | inr t ↦ rw t.0 (elim (eq-or-lt_of_le l) [ inl e ↦ absurd (t.1 (let e' = e in omega arith)) | inr more ↦ omega arith ])
  ]

  old_new : (y : ℕ) → (y ≡ x → ⊥) → old (new y) ≡ y
  old_new y away = elim (eqb_tells y M) [
    | inl t ↦ rw t.0 (rw (eqb-same x) (sym t.1))
    | inr t ↦ rw t.0 (rw (eqb-apart y x away) refl)
  ]

  -- the colour of the one left out says which port it lacks
  abbrev whole : (ℕ → ℕ) → ℕ → ℕ
  whole colour y = cond (eqb y x) (m + i) (colour (new y))

  at_left : (colour : ℕ → ℕ) (y : ℕ) → y ≡ x → whole colour y ≡ m + i
  at_left colour y e = ap (λ b. cond b (m + i) (colour (new y))) (ap (λ z. eqb z x) e ∙ eqb-same x)

  at_other : (colour : ℕ → ℕ) (y : ℕ) → (y ≡ x → ⊥) → whole colour y ≡ colour (new y)
  at_other colour y away = ap (λ b. cond b (m + i) (colour (new y))) (eqb-apart y x away)

  abbrev Away : List ℕ → Type 0
  Away ids = AllByRecursion (λ y. y ≡ x → ⊥) ids

  renamed_labels : (ids ports : List ℕ) → Away ids → AllByRecursion (λ j. j < a) ports → map (relabel a old) (labels_at a (map new ids) ports) ≡ labels_at a ids ports
  renamed_labels [] ports away low = refl
  renamed_labels (y ∷ ids) [] away low = refl
  renamed_labels (y ∷ ids) (j ∷ ports) away low =
      let here : relabel a old (new y * a + j) ≡ y * a + j =
      ap (λ z. old z * a + (new y * a + j) % a) (div-mul-add (new y) a j low.0) ∙ (ap (λ k. old (new y) * a + k) (mod-mul-add (new y) a j low.0) ∙ ap (λ z. z * a + j) (old_new y away.0)) in
      ap (λ u. u ∷ map (relabel a old) (labels_at a (map new ids) ports)) here ∙ ap (λ l. (y * a + j) ∷ l) (renamed_labels ids ports away.1 low.1)

  -- what is joined stays joined under new names
  same_joined : (ids ports : List ℕ) → Away ids → AllByRecursion (λ j. j < a) ports → hyper (sorted (labels_at a ids ports)) ≡ renamed a old hyper (sorted (labels_at a (map new ids) ports))
  same_joined ids ports away low =
      ap hyper (sym (sorted_map (relabel a old) (labels_at a (map new ids) ports) ∙ ap sorted (renamed_labels ids ports away low)))

  news_below : (ids : List ℕ) → AllByRecursion (λ y. y < suc M) ids → Away ids → AllByRecursion (λ y. y < M) (map new ids)
  news_below [] below away = tt
  news_below (y ∷ ids) below away = (new_below y below.0 away.0, news_below ids below.1 away.1)

  news_shade : (colour : ℕ → ℕ) (shade : ℕ) (ids : List ℕ) → AllByRecursion (λ y. whole colour y ≡ shade) ids → Away ids → AllByRecursion (λ y. colour y ≡ shade) (map new ids)
  news_shade colour shade [] shades away = tt
  news_shade colour shade (y ∷ ids) shades away = (sym (at_other colour y away.0) ∙ shades.0, news_shade colour shade ids shades.1 away.1)

  all_away : (colour : ℕ → ℕ) (shade : ℕ) (ids : List ℕ) → ((y : ℕ) → Contains ids y → whole colour y ≡ shade → y ≡ x → ⊥) → AllByRecursion (λ y. whole colour y ≡ shade) ids → Away ids
  all_away colour shade [] each shades = tt
  all_away colour shade (y ∷ ids) each shades = (each y (Contains-here y ids) shades.0, all_away colour shade ids (λ z at. each z (Contains-later z y ids at)) shades.1)

  joins_less : JoinsWithin a p (suc M) hyper m → JoinsWithin a p M (renamed a old hyper) m
  joins_less joins colour below good =
      let (shade, low, each) = joins (whole colour) whole_below whole_good in
      (shade, low, λ ports count small. back shade low ports small (each ports count small))
    where
      whole_below : (y : ℕ) → y < suc M → whole colour y < m + a
      whole_below y l = elim (eqb_tells y x) [
        | inl e ↦ subst (λ c. c < m + a) (sym (at_left colour y e.1)) (omega arith)
        | inr away ↦ subst (λ c. c < m + a) (sym (at_other colour y away.1)) (below (new y) (new_below y l away.1))
      ]

      whole_good : IsGood a p (suc M) hyper m (whole colour)
      whole_good q ql ids count ids_below shades joined =
          let ports : List ℕ = same_port q p in
          let small : AllByRecursion (λ j. j < a) ports = (first_ports a p q ql).1 in
          let ports_count : length ports ≡ p = (first_ports a p q ql).0 in
          let away : Away ids = all_away colour (m + q) ids (λ y at is e. clash y at is e ports_count small) shades in
          good q ql (map new ids) (length-map ids new ∙ count) (news_below ids ids_below away) (news_shade colour (m + q) ids shades away) (sym (same_joined ids ports away small) ∙ joined)
        where
          clash : (y : ℕ) → Contains ids y → whole colour y ≡ m + q → y ≡ x → length (same_port q p) ≡ p → AllByRecursion (λ j. j < a) (same_port q p) → ⊥
          clash y at is e ports_count small =
              let same : m + i ≡ m + q = sym (at_left colour y e) ∙ is in
              let port : q ≡ i = omega arith in
              let labels : List ℕ = labels_at a ids (same_port q p) in
              let there : Contains labels (y * a + q) = subst (λ k. Contains (labels_at a ids (same_port q k)) (y * a + q)) count (label_there a y q ids at) in
              let has : Has (identifiers a p (suc M) hyper).passive labels = joined_there a p (suc M) hyper labels (length-labels_at a ids (same_port q p) (count ∙ sym ports_count) ∙ ports_count) (labels_at_below a (suc M) ids (same_port q p) ids_below small) joined in
              lacks (sorted labels, has, Contains-Rearranged (x * a + i) (Rearranged-sorted labels) (subst (λ z. Contains labels (z * a + i)) e (subst (λ k. Contains labels (y * a + k)) port there)))

      back : (shade : ℕ) → shade < m → (ports : List ℕ) → AllByRecursion (λ j. j < a) ports → AreJoined a (suc M) hyper (whole colour) shade ports → AreJoined a M (renamed a old hyper) colour shade ports
      back shade low ports small all =
          let away : Away all.ids = all_away colour shade all.ids (λ y at is e. let same : m + i ≡ shade = sym (at_left colour y e) ∙ is in omega (arith, same, low)) all.shades in
          record {
            ids = map new all.ids;
            count = length-map all.ids new ∙ all.count;
            below = news_below all.ids all.below away;
            shades = news_shade colour shade all.ids all.shades away;
            joined = sym (same_joined all.ids ports away small) ∙ all.joined;
          }

-- ---- one after another
relabel_same : (a : ℕ) (labels : List ℕ) → map (relabel a (λ x. x)) labels ≡ labels
relabel_same a [] = refl
relabel_same a (u ∷ labels) = ap (λ v. v ∷ map (relabel a (λ x. x)) labels) (div-add-mod' u a) ∙ ap (λ l. u ∷ l) (relabel_same a labels)

relabel_twice : (a : ℕ) (one two : ℕ → ℕ) (labels : List ℕ) → 1 ≤ a → map (relabel a one) (map (relabel a two) labels) ≡ map (relabel a (λ y. one (two y))) labels
relabel_twice a one two [] some = refl
relabel_twice a one two (u ∷ labels) some =
    let i : u % a < a = mod_below u a (omega arith) in
    let here : relabel a one (relabel a two u) ≡ relabel a (λ y. one (two y)) u =
    ap (λ z. one z * a + (two (u / a) * a + u % a) % a) (div-mul-add (two (u / a)) a (u % a) i) ∙ ap (λ k. one (two (u / a)) * a + k) (mod-mul-add (two (u / a)) a (u % a) i) in
    ap (λ v. v ∷ map (relabel a one) (map (relabel a two) labels)) here ∙ ap (λ l. relabel a (λ y. one (two y)) u ∷ l) (relabel_twice a one two labels some)

pub pruned : (a p N m : ℕ) (hyper : IdHypergraph) → 1 ≤ a → JoinsWithin a p N hyper m → Pruned a p N hyper m
pruned a p zero m hyper some joins = record { count = 0; up_to = omega arith; name = λ x. x; kept = hyper; from = λ labels h. subst (λ l. hyper (sorted l) ≡ true) (sym (relabel_same a labels)) h; edges = λ x i l il. absurd (omega arith); joins = joins }
pruned a p (suc M) m hyper some joins = elim (all_or_lacks a p (suc M) hyper) [
  | inl f ↦
      (let before : Pruned a p M (renamed a (old a p M m f.0 f.2 hyper f.1 f.3 f.4) hyper) m =
      pruned a p M m (renamed a (old a p M m f.0 f.2 hyper f.1 f.3 f.4) hyper) some (joins_less a p M m f.0 f.2 hyper f.1 f.3 f.4 joins) in
      record {
        count = before.count;
        up_to = (let l = before.up_to in omega (arith, l));
        name = λ y. old a p M m f.0 f.2 hyper f.1 f.3 f.4 (before.name y);
        kept = before.kept;
        from = λ labels h.
            subst (λ l. hyper l ≡ true) (sorted_map (relabel a (old a p M m f.0 f.2 hyper f.1 f.3 f.4)) (map (relabel a before.name) labels) ∙ ap sorted (relabel_twice a (old a p M m f.0 f.2 hyper f.1 f.3 f.4) before.name labels some))
            (before.from labels h);
        edges = before.edges;
        joins = before.joins;
      })
  | inr all ↦ record { count = suc M; up_to = omega arith; name = λ x. x; kept = hyper; from = λ labels h. subst (λ l. hyper (sorted l) ≡ true) (sym (relabel_same a labels)) h; edges = all; joins = joins }
]
