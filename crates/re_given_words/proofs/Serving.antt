-- What is left of open multisets of ports, and what is under way.
use Rattle.std.proofs.Common.{◌≡◌, ℕ, zero, suc, ◌+◌, true, List, [], ◌∷◌, ◌++◌, length, Option, None, Some, refl, sym, ap, ◌∙◌, subst, arith, ◌⊎◌, inl, inr, length-append}
use Rattle.std.specs.Prelude.{Contains}
use Rattle.std.specs.List.{AllZip, insert}
use Rattle.std.proofs.lemmas.List.Elements.{Contains-append_cases, Contains-append_left, Contains-append_right}
use Rattle.re_labels.proofs.Membership.{Contains-cases, Contains-here, Contains-later, Contains-none}
use Rattle.re_labels.proofs.Rearranging.{Contains-Rearranged, Rearranged-refl, Rearranged-sym, length-Rearranged}
use Rattle.re_labels.specs.Rearranging.{Rearranged, chained, kept as beside, swapped}
use Rattle.re_labels.specs.Constraints.{Constraint}
use Rattle.re_problem.specs.Problems.{Problem}
use Rattle.re_given_words.specs.Ahead.{HaveChoices, StandsAt}
use Rattle.re_given_words.specs.Searching.{AreLeft, IsAdded, IsLeft, IsOrdered, IsPart, IsPassed, IsRefused, IsSupplied, IsUnderWay, ShowsTwoBy}
use Rattle.re_given_words.specs.declared.searching.Next.{Next}
use Rattle.re_given_words.specs.declared.searching.Open.{Open}
use Rattle.re_given_words.specs.declared.standing.Standing.{Standing}

-- ---- the rows of one multiset, as far as they are looked at
module _ (active : Constraint) (standing : List Standing) (ports : List ℕ) where
  -- those that are kept are among those that are looked at, and are all that may stand beside the others
  pub record AreFitting (seen kept : List (List (List ℕ))) : Type 0 where
    pub among : (sets : List (List ℕ)) → Contains kept sets → Contains seen sets
    pub fitting : (whole : List Standing) → HaveChoices active whole → IsPart standing whole → (sets : List (List ℕ)) → Contains seen sets → AllZip (StandsAt whole) ports sets → Contains kept sets

  pub fitting-none : AreFitting [] []
  fitting-none = record { among = λ sets held. held; fitting = λ whole have part sets held zip. held }

  pub fitting-kept : (seen kept : List (List (List ℕ))) (row : List (List ℕ)) → AreFitting seen kept → AreFitting (seen ++ row ∷ []) (kept ++ row ∷ [])
  fitting-kept seen kept row are = record {
    among = λ sets held. elim (Contains-append_cases kept (row ∷ []) sets held) [
      | inl before ↦ Contains-append_left seen (row ∷ []) sets (are.among sets before)
      | inr last ↦ Contains-append_right seen (row ∷ []) sets last
    ];
    fitting = λ whole have part sets held zip. elim (Contains-append_cases seen (row ∷ []) sets held) [
      | inl before ↦ Contains-append_left kept (row ∷ []) sets (are.fitting whole have part sets before zip)
      | inr last ↦ Contains-append_right kept (row ∷ []) sets last
    ];
  }

  pub fitting-refused : (seen kept : List (List (List ℕ))) (row : List (List ℕ)) → AreFitting seen kept → IsRefused active ports row standing → AreFitting (seen ++ row ∷ []) kept
  fitting-refused seen kept row are refused = record {
    among = λ sets held. Contains-append_left seen (row ∷ []) sets (are.among sets held);
    fitting = λ whole have part sets held zip. elim (Contains-append_cases seen (row ∷ []) sets held) [
      | inl before ↦ are.fitting whole have part sets before zip
      | inr last ↦ elim (Contains-cases sets row [] last) [
        | inl same ↦ absurd (refused whole have part (subst (AllZip (StandsAt whole) ports) same zip))
        | inr none ↦ absurd (Contains-none sets none)
      ]
    ];
  }

  pub left-from : (before after : Open) → before.ports ≡ ports → after.ports ≡ ports → AreFitting before.rows.items after.rows.items → IsLeft active standing before after
  left-from before after same kept are = record {
    ports = kept ∙ sym same;
    rows = are.among;
    fitting = λ whole have part (sets, held, zip).
        let here : AllZip (StandsAt whole) ports sets = subst (λ l. AllZip (StandsAt whole) l sets) same zip in
        (sets, are.fitting whole have part sets held here, subst (λ l. AllZip (StandsAt whole) l sets) (sym kept) here);
  }

-- ---- one more in a list
pub inserted-at : {X : Type 0} (x : X) (xs : List X) (place : ℕ) → Rearranged (x ∷ xs) (insert xs place x)
inserted-at x xs zero = Rearranged-refl (x ∷ xs)
inserted-at x [] (suc place) = Rearranged-refl (x ∷ [])
inserted-at x (y ∷ xs) (suc place) = chained swapped (beside (inserted-at x xs place))

-- ---- all of them
module _ (active : Constraint) (standing : List Standing) where
  pub left-none : AreLeft active standing [] []
  left-none = record { count = refl; ports = λ o held. absurd (Contains-none o held); left = λ o held. absurd (Contains-none o held) }

  pub left-more : (before after next : List Open) (one more : Open) → AreLeft active standing before after → IsLeft active standing one more → Rearranged (more ∷ after) next → AreLeft active standing (before ++ one ∷ []) next
  left-more before after next one more are is moved = record {
    count =
        let b : length (before ++ one ∷ []) ≡ length before + 1 = length-append before (one ∷ []) in
        let n : suc (length after) ≡ length next = length-Rearranged moved in
        let c : length after ≡ length before = are.count in
        omega (arith, b, n, c);
    ports = λ o held. elim (Contains-append_cases before (one ∷ []) o held) [
      | inl first ↦ let (left, at, same) = are.ports o first in (left, Contains-Rearranged left moved (Contains-later left more after at), same)
      | inr last ↦ elim (Contains-cases o one [] last) [
        | inl same ↦ (more, Contains-Rearranged more moved (Contains-here more after), is.ports ∙ ap (λ (o : Open). o.ports) (sym same))
        | inr none ↦ absurd (Contains-none o none)
      ]
    ];
    left = λ left held. elim (Contains-cases left more after (Contains-Rearranged left (Rearranged-sym moved) held)) [
      | inl same ↦ (one, Contains-append_right before (one ∷ []) one (Contains-here one []), subst (IsLeft active standing one) (sym same) is)
      | inr later ↦ let (o, at, there) = are.left left later in (o, Contains-append_left before (one ∷ []) o at, there)
    ];
  }

  -- one has no row that may stand beside the others
  pub dead : (opens : List Open) (one more : Open) → Contains opens one → IsLeft active standing one more → more.rows.items ≡ []
      → (whole : List Standing) → HaveChoices active whole → IsPart standing whole → ((open_ : Open) → Contains opens open_ → IsSupplied whole open_) → ⊥
  dead opens one more held is none whole have part supplied =
      let (sets, at, zip) = is.fitting whole have part (supplied one held) in
      Contains-none sets (subst (λ l. Contains l sets) none at)

-- ---- under way
module _ (problem : Problem) (rows : List (List (List ℕ))) where
  pub way-on : (first : Open) (others left : List Open) (standing more : List Standing) (sets : List (List ℕ)) → IsUnderWay problem rows (first ∷ others) standing → Contains first.rows.items sets
      → IsAdded problem.active first.ports sets standing true more → AreLeft problem.active more others left → IsUnderWay problem rows left more
  way-on first others left standing more sets way held added are = record {
    choice = added.choice;
    served = λ ports config. serve ports (way.served ports config);
    ordered = λ o at sets there.
        let (before, among, is) = are.left o at in
        way.ordered before (Contains-later before first others among) sets (is.rows sets there);
    supplied = λ whole shows part o at.
        let (before, among, is) = are.left o at in
        is.fitting whole shows.choice part (way.supplied whole shows (λ i s stands. part i s (added.kept i s stands)) before (Contains-later before first others among));
  }
    where
      kept : (ports : List ℕ) (sets : List (List ℕ)) → AllZip (StandsAt standing) ports sets → AllZip (StandsAt more) ports sets
      kept [] [] zip = tt
      kept [] (s ∷ sets) zip = absurd zip
      kept (i ∷ ports) [] zip = absurd zip
      kept (i ∷ ports) (s ∷ sets) zip = (added.kept i s zip.0, kept ports sets zip.1)

      serve : (ports : List ℕ) → ((sets : List (List ℕ)) × AllZip (StandsAt standing) ports sets × IsOrdered rows sets) ⊎ ((o : Open) × Contains (first ∷ others) o × (o.ports ≡ ports))
          → ((sets : List (List ℕ)) × AllZip (StandsAt more) ports sets × IsOrdered rows sets) ⊎ ((o : Open) × Contains left o × (o.ports ≡ ports))
      serve ports (inl (others_sets, zip, ordered)) = inl (others_sets, kept ports others_sets zip, ordered)
      serve ports (inr (o, at, same)) = elim (Contains-cases o first others at) [
        | inl is ↦ inl (sets, subst (λ l. AllZip (StandsAt more) l sets) (ap (λ (o : Open). o.ports) (sym is) ∙ same) (added.placed refl), way.ordered first (Contains-here first others) sets held)
        | inr later ↦ let (after, there, ports_same) = are.ports o later in inr (after, there, ports_same ∙ same)
      ]

  pub passed-refused : (standing : List Standing) (ports : List ℕ) (sets : List (List ℕ)) (next : Option Next) → IsRefused problem.active ports sets standing → IsPassed problem rows standing ports sets next
  passed-refused standing ports sets next refused whole shows part zip = absurd (refused whole shows.choice part zip)

  pub passed-dead : (first : Open) (others : List Open) (standing more : List Standing) (sets : List (List ℕ)) (next : Option Next) → IsUnderWay problem rows (first ∷ others) standing → IsAdded problem.active first.ports sets standing true more
      → ((whole : List Standing) → HaveChoices problem.active whole → IsPart more whole → ((o : Open) → Contains others o → IsSupplied whole o) → ⊥)
      → IsPassed problem rows standing first.ports sets next
  passed-dead first others standing more sets next way added none whole shows part zip =
      absurd (none whole shows.choice (added.whole whole shows.choice part zip).1 (λ o at. way.supplied whole shows part o (Contains-later o first others at)))

  pub passed-on : (standing : List Standing) (ports : List ℕ) (sets : List (List ℕ)) (more : Next) (next : Option Next) → IsAdded problem.active ports sets standing true more.standing.items → next ≡ Some more
      → IsPassed problem rows standing ports sets next
  passed-on standing ports sets more next added same whole shows part zip = (more, same, (added.whole whole shows.choice part zip).1)

  -- nothing is open
  pub shown : (standing : List Standing) → IsUnderWay problem rows [] standing → (whole : List Standing) × ShowsTwoBy problem rows whole
  shown standing way = (
    standing,
    record {
      served = λ ports config. elim (way.served ports config) [
        | inl served ↦ served
        | inr (o, at, same) ↦ absurd (Contains-none o at)
      ];
      choice = way.choice;
    },
  )

  -- the rows of the first that are tried lead nowhere
  abbrev pub AreTried : List Standing → List ℕ → List (List (List ℕ)) → Type 0
  AreTried standing ports seen = (sets : List (List ℕ)) → Contains seen sets → (whole : List Standing) → ShowsTwoBy problem rows whole → IsPart standing whole → AllZip (StandsAt whole) ports sets → ⊥

  pub tried-none : (standing : List Standing) (ports : List ℕ) → AreTried standing ports []
  tried-none standing ports sets held = absurd (Contains-none sets held)

  pub tried-more : (standing : List Standing) (ports : List ℕ) (seen : List (List (List ℕ))) (row : List (List ℕ)) → AreTried standing ports seen
      → ((whole : List Standing) → ShowsTwoBy problem rows whole → IsPart standing whole → AllZip (StandsAt whole) ports row → ⊥) → AreTried standing ports (seen ++ row ∷ [])
  tried-more standing ports seen row tried none sets held whole shows part zip = elim (Contains-append_cases seen (row ∷ []) sets held) [
    | inl before ↦ tried sets before whole shows part zip
    | inr last ↦ elim (Contains-cases sets row [] last) [
      | inl same ↦ none whole shows part (subst (AllZip (StandsAt whole) ports) same zip)
      | inr nothing ↦ Contains-none sets nothing
    ]
  ]

  pub all-tried : (first : Open) (others : List Open) (standing : List Standing) → IsUnderWay problem rows (first ∷ others) standing → AreTried standing first.ports first.rows.items
      → (whole : List Standing) → ShowsTwoBy problem rows whole → IsPart standing whole → ⊥
  all-tried first others standing way tried whole shows part =
      let (sets, held, zip) = way.supplied whole shows part first (Contains-here first others) in
      tried sets held whole shows part zip

  -- what stands next leads nowhere, or there is none
  pub next-nowhere : (standing : List Standing) (ports : List ℕ) (sets : List (List ℕ)) (next : Option Next) (more : Next) → next ≡ Some more → IsPassed problem rows standing ports sets next
      → ((whole : List Standing) → ShowsTwoBy problem rows whole → IsPart more.standing.items whole → ⊥)
      → (whole : List Standing) → ShowsTwoBy problem rows whole → IsPart standing whole → AllZip (StandsAt whole) ports sets → ⊥
  next-nowhere standing ports sets next more is passed none whole shows part zip =
      let (other, same, held) = passed whole shows part zip in
      let other_is : other ≡ more = (let there : Some other ≡ Some more = sym same ∙ is in cc) in
      none whole shows (subst (λ (n : Next). IsPart n.standing.items whole) other_is held)

  pub next-none : (standing : List Standing) (ports : List ℕ) (sets : List (List ℕ)) (next : Option Next) → next ≡ None → IsPassed problem rows standing ports sets next
      → (whole : List Standing) → ShowsTwoBy problem rows whole → IsPart standing whole → AllZip (StandsAt whole) ports sets → ⊥
  next-none standing ports sets next is passed whole shows part zip =
      let (other, same, held) = passed whole shows part zip in
      absurd (let there : Some other ≡ None = sym same ∙ is in cc)
