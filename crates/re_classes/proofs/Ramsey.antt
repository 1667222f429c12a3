-- Ramsey's theorem: of a long list of numbers, whose parts of k elements have finitely many colours, a long part has parts of k elements of one colour.
use Rattle.std.proofs.Common.{◌≡◌, ℕ, zero, suc, ◌+◌, ◌≤◌, ◌<◌, List, [], ◌∷◌, length, refl, sym, ◌∙◌, ap, subst, arith, inl, inr, ◌⊎◌}
use Rattle.std.specs.Prelude.{Contains}
use Rattle.std.specs.List.{AllByRecursion}
use Rattle.std.proofs.lemmas.List.{nil_from_length}
use Rattle.re_labels.proofs.Membership.{Contains-cases, Contains-here, Contains-later, Contains-none}
use Rattle.re_classes.proofs.Parts.{Part, held, left_out, none, part_cases, part_empty, part_of_none, part_trans, part_whole}

module _ (C : Type 0) (decide : (x y : C) → (x ≡ y) ⊎ (x ≡ y → ⊥)) (first : C) (more_colours : List C) where
  -- a part of at least s elements, of which each part of k elements has this colour
  pub record Alike (f : List ℕ → C) (k s : ℕ) (S : List ℕ) : Type 0 where
    pub elements : List ℕ
    pub colour : C
    pub part : Part elements S
    pub enough : s ≤ length elements
    pub among : Contains (first ∷ more_colours) colour
    pub same : (xs : List ℕ) → Part xs elements → length xs ≡ k → f xs ≡ colour

  -- each part of k elements has one of the colours
  abbrev pub IsColouring : (List ℕ → C) → ℕ → List ℕ → Type 0
  IsColouring f k S = (xs : List ℕ) → Part xs S → length xs ≡ k → Contains (first ∷ more_colours) (f xs)

  -- so many elements are enough
  pub record Bound (k s : ℕ) : Type 0 where
    pub bound : ℕ
    pub found : (S : List ℕ) → bound ≤ length S → (f : List ℕ → C) → IsColouring f k S → Alike f k s S

  -- the colour of a part of k + 1 elements is the one that goes with its first element
  abbrev Layered : (List ℕ → C) → ℕ → List ℕ → List C → Type 0
  Layered f k [] [] = Unit {0}
  Layered f k [] (c ∷ cs) = ⊥
  Layered f k (x ∷ xs) [] = ⊥
  Layered f k (x ∷ xs) (c ∷ cs) = ((ys : List ℕ) → Part ys xs → length ys ≡ k → f (x ∷ ys) ≡ c) × Layered f k xs cs

  record Layers (f : List ℕ → C) (k n : ℕ) (S : List ℕ) : Type 0 where
    elements : List ℕ
    colours : List C
    part : Part elements S
    count : length elements ≡ n
    layered : Layered f k elements colours
    among : AllByRecursion (Contains (first ∷ more_colours)) colours

  record LayersBound (k n : ℕ) : Type 0 where
    bound : ℕ
    found : (S : List ℕ) → bound ≤ length S → (f : List ℕ → C) → IsColouring f (suc k) S → Layers f k n S

  layers_more : (k n : ℕ) → ((s : ℕ) → Bound k s) → LayersBound k n → LayersBound k (suc n)
  layers_more k n one fewer = record { bound = suc (one fewer.bound).bound; found = from }
    where
      from : (S : List ℕ) → suc (one fewer.bound).bound ≤ length S → (f : List ℕ → C) → IsColouring f (suc k) S → Layers f k (suc n) S
      from [] l f each = absurd (omega (arith, l))
      from (x ∷ S) l f each =
          let near : Alike (λ xs. f (x ∷ xs)) k fewer.bound S = (one fewer.bound).found S (omega (arith, l)) (λ xs. f (x ∷ xs)) (λ xs part e. each (x ∷ xs) (held part) (ap suc e)) in
          let far : Layers f k n near.elements = fewer.found near.elements near.enough f (λ xs part e. each xs (left_out (part_trans part near.part)) e) in
          record {
            elements = x ∷ far.elements;
            colours = near.colour ∷ far.colours;
            part = held (part_trans far.part near.part);
            count = ap suc far.count;
            layered = ((λ ys part e. near.same ys (part_trans part far.part) e), far.layered);
            among = (near.among, far.among);
          }

  layers : (k : ℕ) → ((s : ℕ) → Bound k s) → (n : ℕ) → LayersBound k n
  layers k one zero = record {
    bound = 0;
    found = λ S l f each. record { elements = []; colours = []; part = part_empty S; count = refl; layered = tt; among = tt };
  }
  layers k one (suc n) = layers_more k n one (layers k one n)

  -- the elements of one colour, and the others
  record Split (f : List ℕ → C) (k : ℕ) (y : C) (ys : List C) (S : List ℕ) : Type 0 where
    these : List ℕ
    others : List ℕ
    colours : List C
    these_part : Part these S
    others_part : Part others S
    count : length these + length others ≡ length S
    same : (xs : List ℕ) → Part xs these → length xs ≡ suc k → f xs ≡ y
    layered : Layered f k others colours
    among : AllByRecursion (Contains ys) colours

  split : (f : List ℕ → C) (k : ℕ) (y : C) (ys : List C) (S : List ℕ) (cs : List C) → Layered f k S cs → AllByRecursion (Contains (y ∷ ys)) cs → Split f k y ys S
  split f k y ys [] [] layered among = record {
    these = [];
    others = [];
    colours = [];
    these_part = none;
    others_part = none;
    count = refl;
    same = λ xs part e. absurd (empty xs part e);
    layered = tt;
    among = tt;
  }
    where
      empty : (xs : List ℕ) → Part xs [] → length xs ≡ suc k → ⊥
      empty xs part e = let is : xs ≡ [] = part_of_none part in let zero_is : 0 ≡ suc k = sym (ap length is) ∙ e in omega (arith, zero_is)
  split f k y ys [] (c ∷ cs) layered among = absurd layered
  split f k y ys (x ∷ S) [] layered among = absurd layered
  split f k y ys (x ∷ S) (c ∷ cs) layered among = at (split f k y ys S cs layered.1 among.1) (decide c y)
    where
      at : Split f k y ys S → (c ≡ y) ⊎ (c ≡ y → ⊥) → Split f k y ys (x ∷ S)
      at rest (inl is) = record {
        these = x ∷ rest.these;
        others = rest.others;
        colours = rest.colours;
        these_part = held rest.these_part;
        others_part = left_out rest.others_part;
        count = one_more (length rest.these) (length rest.others) (length S) rest.count;
        same = λ xs part e. which xs e (part_cases part);
        layered = rest.layered;
        among = rest.among;
      }
        where
          one_more : (a b n : ℕ) → a + b ≡ n → suc a + b ≡ suc n
          one_more a b n e = omega (arith, e)

          which : (xs : List ℕ) → length xs ≡ suc k → Part xs rest.these ⊎ ((vs : List ℕ) × (xs ≡ x ∷ vs) × Part vs rest.these) → f xs ≡ y
          which xs e (inl part) = rest.same xs part e
          which xs e (inr (vs, it, part)) =
              let count : suc (length vs) ≡ suc k = sym (ap length it) ∙ e in
              ap f it ∙ (layered.0 vs (part_trans part rest.these_part) (omega (arith, count)) ∙ is)
      at rest (inr other) = record {
        these = rest.these;
        others = x ∷ rest.others;
        colours = c ∷ rest.colours;
        these_part = left_out rest.these_part;
        others_part = held rest.others_part;
        count = more (length rest.these) (length rest.others) (length S) rest.count;
        same = rest.same;
        layered = ((λ vs part e. layered.0 vs (part_trans part rest.others_part) e), rest.layered);
        among = (elim (Contains-cases c y ys among.0) [ inl is ↦ absurd (other is) | inr there ↦ there ], rest.among);
      }
        where
          more : (a b n : ℕ) → a + b ≡ n → a + suc b ≡ suc n
          more a b n e = omega (arith, e)

  -- s elements for each colour
  abbrev each_of : ℕ → List C → ℕ
  each_of s [] = s
  each_of s (y ∷ ys) = s + each_of s ys

  pub gathered : (f : List ℕ → C) (k s : ℕ) (y : C) (ys : List C) (S : List ℕ) (cs : List C) → Layered f k S cs → AllByRecursion (Contains (y ∷ ys)) cs → each_of s ys ≤ length S
      → (c : C) × (xs : List ℕ) × Contains (y ∷ ys) c × Part xs S × (s ≤ length xs) × ((us : List ℕ) → Part us xs → length us ≡ suc k → f us ≡ c)
  gathered f k s y [] S cs layered among l =
      (y, S, Contains-here y [], part_whole S, l, all S cs layered among)
    where
      all : (S : List ℕ) (cs : List C) → Layered f k S cs → AllByRecursion (Contains (y ∷ [])) cs → (us : List ℕ) → Part us S → length us ≡ suc k → f us ≡ y
      all [] [] layered among us part e = let is : us ≡ [] = part_of_none part in let zero_is : 0 ≡ suc k = sym (ap length is) ∙ e in absurd (omega (arith, zero_is))
      all [] (c ∷ cs) layered among us part e = absurd layered
      all (x ∷ S) [] layered among us part e = absurd layered
      all (x ∷ S) (c ∷ cs) layered among us part e = elim (part_cases part) [
        | inl later ↦ all S cs layered.1 among.1 us later e
        | inr (vs, it, later) ↦ (
            let count : suc (length vs) ≡ suc k = sym (ap length it) ∙ e in
            ap f it ∙ (layered.0 vs later (omega (arith, count)) ∙ elim (Contains-cases c y [] among.0) [ inl is ↦ is | inr there ↦ absurd (Contains-none c there) ])
            )
      ]
  gathered f k s y (z ∷ ys) S cs layered among l = at (split f k y (z ∷ ys) S cs layered among) (λ others colours la am en. gathered f k s z ys others colours la am en)
    where
      at : (parts : Split f k y (z ∷ ys) S)
          → ((others : List ℕ) (colours : List C) → Layered f k others colours → AllByRecursion (Contains (z ∷ ys)) colours → each_of s ys ≤ length others
          → (c : C) × (xs : List ℕ) × Contains (z ∷ ys) c × Part xs others × (s ≤ length xs) × ((us : List ℕ) → Part us xs → length us ≡ suc k → f us ≡ c))
          → (c : C) × (xs : List ℕ) × Contains (y ∷ z ∷ ys) c × Part xs S × (s ≤ length xs) × ((us : List ℕ) → Part us xs → length us ≡ suc k → f us ≡ c)
      at parts further = which (or_less s (length parts.these))
        where
          or_less : (s n : ℕ) → (s ≤ n) ⊎ (n < s)
          or_less zero n = inl (omega arith)
          or_less (suc s) zero = inr (omega arith)
          or_less (suc s) (suc n) = elim (or_less s n) [ inl l ↦ inl (omega (arith, l)) | inr l ↦ inr (omega (arith, l)) ]

          left : (s a b n e : ℕ) → a < s → a + b ≡ n → s + e ≤ n → e ≤ b
          left s a b n e few count l = omega (arith, few, count, l)

          which : (s ≤ length parts.these) ⊎ (length parts.these < s) → (c : C) × (xs : List ℕ) × Contains (y ∷ z ∷ ys) c × Part xs S × (s ≤ length xs) × ((us : List ℕ) → Part us xs → length us ≡ suc k → f us ≡ c)
          which (inl enough) = (y, parts.these, Contains-here y (z ∷ ys), parts.these_part, enough, parts.same)
          which (inr few) =
              let (c, xs, at, part, enough, same) = further parts.others parts.colours parts.layered parts.among (left s (length parts.these) (length parts.others) (length S) (each_of s ys) few parts.count l) in
              (c, xs, Contains-later c y (z ∷ ys) at, part_trans part parts.others_part, enough, same)

  ramsey_more : (k s : ℕ) → LayersBound k (each_of s more_colours) → Bound (suc k) s
  ramsey_more k s layered = record { bound = layered.bound; found = from }
    where
      from : (S : List ℕ) → layered.bound ≤ length S → (f : List ℕ → C) → IsColouring f (suc k) S → Alike f (suc k) s S
      from S l f each =
          let it : Layers f k (each_of s more_colours) S = layered.found S l f each in
          let enough : each_of s more_colours ≤ length it.elements = omega (arith, it.count) in
          let (c, xs, at, part, many, same) = gathered f k s first more_colours it.elements it.colours it.layered it.among enough in
          record { elements = xs; colour = c; part = part_trans part it.part; enough = many; among = at; same = same }

  pub ramsey : (k s : ℕ) → Bound k s
  ramsey zero s = record {
    bound = s;
    found = λ S l f each. record {
      elements = S;
      colour = f [];
      part = part_whole S;
      enough = l;
      among = each [] (part_empty S) refl;
      same = λ xs part e. ap f (nil_from_length xs e);
    };
  }
  ramsey (suc k) s = ramsey_more k s (layers k (λ t. ramsey k t) (each_of s more_colours))

  -- the same for several colourings at once
  pub record AlikeAll {U : Type 0} (us : List U) (size : U → ℕ) (f : U → List ℕ → C) (s : ℕ) (S : List ℕ) : Type 0 where
    pub elements : List ℕ
    pub part : Part elements S
    pub enough : s ≤ length elements
    pub same : (u : U) → Contains us u → (xs ys : List ℕ) → Part xs elements → Part ys elements → length xs ≡ size u → length ys ≡ size u → f u xs ≡ f u ys

  pub record BoundAll {U : Type 0} (us : List U) (size : U → ℕ) (s : ℕ) : Type 0 where
    pub bound : ℕ
    pub found : (S : List ℕ) → bound ≤ length S → (f : U → List ℕ → C) → ((u : U) → Contains us u → IsColouring (f u) (size u) S) → AlikeAll us size f s S

  pub ramsey_all : {U : Type 0} (us : List U) (size : U → ℕ) (s : ℕ) → BoundAll us size s
  ramsey_all [] size s = record {
    bound = s;
    found = λ S l f each. record { elements = S; part = part_whole S; enough = l; same = λ u at. absurd (Contains-none u at) };
  }
  ramsey_all (v ∷ us) size s = record {
    bound = (ramsey (size v) (ramsey_all us size s).bound).bound;
    found = λ S l f each.
        let near : Alike (f v) (size v) (ramsey_all us size s).bound S = (ramsey (size v) (ramsey_all us size s).bound).found S l (f v) (each v (Contains-here v us)) in
        let far : AlikeAll us size f s near.elements = (ramsey_all us size s).found near.elements near.enough f (λ u at xs part e. each u (Contains-later u v us at) xs (part_trans part near.part) e) in
        record {
          elements = far.elements;
          part = part_trans far.part near.part;
          enough = far.enough;
          same = λ u at xs ys part part' e e'. elim (Contains-cases u v us at) [
            | inl is ↦ (
                let one : (zs : List ℕ) → Part zs far.elements → length zs ≡ size u → f u zs ≡ near.colour = λ zs p d. subst (λ w. f w zs ≡ near.colour) (sym is) (near.same zs (part_trans p far.part) (d ∙ ap size is)) in
                one xs part e ∙ sym (one ys part' e')
                )
            | inr there ↦ far.same u there xs ys part part' e e'
          ];
        };
  }
