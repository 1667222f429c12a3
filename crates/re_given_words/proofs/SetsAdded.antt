-- One set more at a port, and sets at ports one after another.
use Rattle.std.proofs.Common.{◌≡◌, ℕ, zero, suc, ◌+◌, ◌-◌, ◌<◌, ◌≤◌, Bool, true, false, eqb, List, [], ◌∷◌, ◌++◌, length, take, get_or, refl, sym, ap, ◌∙◌, subst, arith, ◌⊎◌, inl, inr, true≢false, append-nil, length-append}
use Rattle.std.specs.Prelude.{Contains}
use Rattle.std.specs.List.{AllZip}
use Rattle.std.proofs.lemmas.List.{append_assoc}
use Rattle.std.proofs.lemmas.List.Elements.{Contains-append_cases, Contains-append_left, Contains-append_right, Contains-get_or}
use Rattle.std.proofs.Math.Seq.{take-length, take-suc}
use Rattle.re_labels.proofs.Membership.{Contains-cases, Contains-here, Contains-none}
use Rattle.re_labels.proofs.Tests.{eqb-apart, same_or_not}
use Rattle.re_labels.specs.Lists.{count_from}
use Rattle.re_labels.proofs.Goodness.{IsAllowed-is_allowed, is_allowed-IsAllowed}
use Rattle.re_labels.specs.Constraints.{Constraint}
use Rattle.re_labels.specs.GoodRows.{IsAllowed, is_allowed}
use Rattle.re_given_words.proofs.TwoRounds.{stand}
use Rattle.re_given_words.specs.Ahead.{HaveChoices, StandsAt}
use Rattle.re_given_words.specs.Searching.{AreAllowed, AreDrawn, IsAdded, IsDrawn, IsMissed, IsPart, IsRefused}
use Rattle.re_given_words.specs.declared.standing.Standing.{Standing}

-- ---- what is looked at so far
pub seen-more : {X : Type 0} (xs : List X) (i : ℕ) (x : X) → i < length xs → x ≡ get_or xs i x → take (i + 1) xs ≡ take i xs ++ x ∷ []
seen-more xs i x low is = let e : i + 1 ≡ suc i = omega arith in ap (λ n. take n xs) e ∙ take-suc xs i x low ∙ (λ k. take i xs ++ sym is k ∷ [])

pub seen-all : {X : Type 0} (xs : List X) (i : ℕ) → i ≤ length xs → length xs ≤ i → take i xs ≡ xs
seen-all xs i low high = let e : i ≡ length xs = omega (arith, low, high) in ap (λ n. take n xs) e ∙ take-length xs

pub seen-held : {X : Type 0} (xs : List X) (i : ℕ) (x : X) → i < length xs → x ≡ get_or xs i x → Contains xs x
seen-held xs i x low is = subst (Contains xs) (sym is) (Contains-get_or xs i x low)

-- ---- the choices with one set more
pub stands-more : (standing : List Standing) (new : Standing) (i : ℕ) (s : List ℕ) → StandsAt (standing ++ new ∷ []) i s → StandsAt standing i s ⊎ ((i ≡ new.port) × (s ≡ new.set))
stands-more standing new i s held =
    elim (Contains-append_cases standing (new ∷ []) (stand i s) held) [
      | inl before ↦ inl before
      | inr last ↦ elim (Contains-cases (stand i s) new [] last) [
        | inl same ↦ inr (ap (λ (t : Standing). t.port) same, ap (λ (t : Standing). t.set) same)
        | inr none ↦ absurd (Contains-none (stand i s) none)
      ]
    ]

module _ (standing : List Standing) (new : Standing) where
  abbrev more : List Standing
  more = standing ++ new ∷ []

  old-at : (i : ℕ) (s : List ℕ) → new.port < i → StandsAt more i s → StandsAt standing i s
  old-at i s less held = elim (stands-more standing new i s held) [ inl before ↦ before | inr same ↦ absurd (let e : i ≡ new.port = same.0 in omega (arith, e, less)) ]

  -- behind the port of the new set all stand already
  later-old : (lo k : ℕ) (sets : List (List ℕ)) → new.port < lo → AllZip (StandsAt more) (count_from lo k) sets → AllZip (StandsAt standing) (count_from lo k) sets
  later-old lo zero [] less zip = tt
  later-old lo zero (s ∷ sets) less zip = absurd zip
  later-old lo (suc k) [] less zip = absurd zip
  later-old lo (suc k) (s ∷ sets) less zip = (old-at lo s less zip.0, later-old (suc lo) k sets (omega (arith, less)) zip.1)

  later-drawn : (lo k : ℕ) (sets : List (List ℕ)) → new.port < lo → AllZip (StandsAt more) (count_from lo k) sets → AllZip (IsDrawn standing new) (count_from lo k) sets
  later-drawn lo zero [] less zip = tt
  later-drawn lo zero (s ∷ sets) less zip = absurd zip
  later-drawn lo (suc k) [] less zip = absurd zip
  later-drawn lo (suc k) (s ∷ sets) less zip = (inr (λ e. omega (arith, e, less), old-at lo s less zip.0), later-drawn (suc lo) k sets (omega (arith, less)) zip.1)

  -- a choice leaves the new set out, or draws it
  parted : (lo k : ℕ) (sets : List (List ℕ)) → AllZip (StandsAt more) (count_from lo k) sets → AllZip (StandsAt standing) (count_from lo k) sets ⊎ AllZip (IsDrawn standing new) (count_from lo k) sets
  parted lo zero [] zip = inl tt
  parted lo zero (s ∷ sets) zip = absurd zip
  parted lo (suc k) [] zip = absurd zip
  parted lo (suc k) (s ∷ sets) zip = go (stands-more standing new lo s zip.0) (same_or_not lo new.port) (parted (suc lo) k sets zip.1)
    where
      go : StandsAt standing lo s ⊎ ((lo ≡ new.port) × (s ≡ new.set)) → (lo ≡ new.port) ⊎ (lo ≡ new.port → ⊥)
          → AllZip (StandsAt standing) (count_from (suc lo) k) sets ⊎ AllZip (IsDrawn standing new) (count_from (suc lo) k) sets
          → AllZip (StandsAt standing) (count_from lo (suc k)) (s ∷ sets) ⊎ AllZip (IsDrawn standing new) (count_from lo (suc k)) (s ∷ sets)
      go (inr (e, same)) port rest = inr (inl (e, same), later-drawn (suc lo) k sets (omega (arith, e)) zip.1)
      go (inl before) (inl e) rest = inl (before, later-old (suc lo) k sets (omega (arith, e)) zip.1)
      go (inl before) (inr other) (inl rest) = inl (before, rest)
      go (inl before) (inr other) (inr rest) = inr (inr (other, before), rest)

  pub choices-more : (active : Constraint) → HaveChoices active standing → AreAllowed active standing new [] → HaveChoices active more
  choices-more active have allowed sets zip =
      elim (parted 0 active.degree sets zip) [
        | inl before ↦ have sets before
        | inr drawn ↦ allowed sets (let e : active.degree - 0 ≡ active.degree = omega arith in subst (λ n. AllZip (IsDrawn standing new) (count_from 0 n) sets) (sym e) drawn)
      ]

  drawn-whole : (whole : List Standing) → IsPart standing whole → StandsAt whole new.port new.set → (ports : List ℕ) (sets : List (List ℕ)) → AllZip (IsDrawn standing new) ports sets → AllZip (StandsAt whole) ports sets
  drawn-whole whole part stands [] [] zip = tt
  drawn-whole whole part stands [] (s ∷ sets) zip = absurd zip
  drawn-whole whole part stands (i ∷ ports) [] zip = absurd zip
  drawn-whole whole part stands (i ∷ ports) (s ∷ sets) zip = (go zip.0, drawn-whole whole part stands ports sets zip.1)
    where
      go : IsDrawn standing new i s → StandsAt whole i s
      go (inl (e, same)) = subst (λ (t : Standing). Contains whole t) (λ k. stand (sym e k) (sym same k)) stands
      go (inr (other, before)) = part i s before

  pub missed-whole : (active : Constraint) → IsMissed active standing new [] → (whole : List Standing) → HaveChoices active whole → IsPart standing whole → StandsAt whole new.port new.set → ⊥
  missed-whole active (sets, drawn, bad) whole have part stands =
      bad (have sets (drawn-whole whole part stands (count_from 0 active.degree) sets (let e : active.degree - 0 ≡ active.degree = omega arith in subst (λ n. AllZip (IsDrawn standing new) (count_from 0 n) sets) e drawn)))

  -- ---- the sets that are drawn, one after another
  ports-on : (a : ℕ) (drawn : List (List ℕ)) (s : List ℕ) → length drawn < a → count_from (length drawn) (a - length drawn) ≡ length drawn ∷ count_from (length (drawn ++ s ∷ [])) (a - length (drawn ++ s ∷ []))
  ports-on a drawn s less =
      let count : length (drawn ++ s ∷ []) ≡ suc (length drawn) = (let e : length (drawn ++ s ∷ []) ≡ length drawn + 1 = length-append drawn (s ∷ []) in omega (arith, e)) in
      let more : a - length drawn ≡ suc (a - suc (length drawn)) = omega (arith, less) in
      ap (count_from (length drawn)) more ∙ (λ k. length drawn ∷ count_from (sym count k) (a - sym count k))

  drawn-first : (a : ℕ) (drawn sets : List (List ℕ)) → length drawn < a → AreDrawn a standing new drawn sets
      → (s : List ℕ) × (rest : List (List ℕ)) × (sets ≡ s ∷ rest) × IsDrawn standing new (length drawn) s × AreDrawn a standing new (drawn ++ s ∷ []) rest
  drawn-first a drawn [] less are = absurd (subst (λ ports. AllZip (IsDrawn standing new) ports []) (ports-on a drawn [] less) are)
  drawn-first a drawn (s ∷ rest) less are =
      let both : AllZip (IsDrawn standing new) (length drawn ∷ count_from (length (drawn ++ s ∷ [])) (a - length (drawn ++ s ∷ []))) (s ∷ rest)
      = subst (λ ports. AllZip (IsDrawn standing new) ports (s ∷ rest)) (ports-on a drawn s less) are in
      (s, rest, refl, both.0, both.1)

  pub allowed-on : (active : Constraint) (drawn : List (List ℕ)) → length drawn < active.degree → ((s : List ℕ) → IsDrawn standing new (length drawn) s → AreAllowed active standing new (drawn ++ s ∷ []))
      → AreAllowed active standing new drawn
  allowed-on active drawn less each sets are =
      let (s, rest, same, first, others) = drawn-first active.degree drawn sets less are in
      subst (λ l. IsAllowed active (drawn ++ l)) (sym same) (subst (IsAllowed active) (append_assoc drawn (s ∷ []) rest) (each s first rest others))

  pub missed-on : (active : Constraint) (drawn : List (List ℕ)) (s : List ℕ) → length drawn < active.degree → IsDrawn standing new (length drawn) s → IsMissed active standing new (drawn ++ s ∷ []) → IsMissed active standing new drawn
  missed-on active drawn s less first (rest, others, bad) = (
    s ∷ rest,
    subst (λ ports. AllZip (IsDrawn standing new) ports (s ∷ rest)) (sym (ports-on active.degree drawn s less)) (first, others),
    λ allowed. bad (subst (IsAllowed active) (sym (append_assoc drawn (s ∷ []) rest)) allowed),
  )

  -- at the port of the new set
  pub new-allowed : (active : Constraint) (drawn : List (List ℕ)) → length drawn < active.degree → length drawn ≡ new.port → AreAllowed active standing new (drawn ++ new.set ∷ []) → AreAllowed active standing new drawn
  new-allowed active drawn less here allowed = allowed-on active drawn less go
    where
      go : (s : List ℕ) → IsDrawn standing new (length drawn) s → AreAllowed active standing new (drawn ++ s ∷ [])
      go s (inl (e, same)) = subst (λ t. AreAllowed active standing new (drawn ++ t ∷ [])) (sym same) allowed
      go s (inr (other, stands)) = absurd (other here)

  pub new-missed : (active : Constraint) (drawn : List (List ℕ)) → length drawn < active.degree → length drawn ≡ new.port → IsMissed active standing new (drawn ++ new.set ∷ []) → IsMissed active standing new drawn
  new-missed active drawn less here missed = missed-on active drawn new.set less (inl (here, refl)) missed

  -- at another port
  pub others-allowed : (active : Constraint) (drawn : List (List ℕ)) → length drawn < active.degree → (length drawn ≡ new.port → ⊥)
      → ((other : Standing) → Contains standing other → other.port ≡ length drawn → AreAllowed active standing new (drawn ++ other.set ∷ [])) → AreAllowed active standing new drawn
  others-allowed active drawn less apart each = allowed-on active drawn less go
    where
      go : (s : List ℕ) → IsDrawn standing new (length drawn) s → AreAllowed active standing new (drawn ++ s ∷ [])
      go s (inl (e, same)) = absurd (apart e)
      go s (inr (other, stands)) = each (stand (length drawn) s) stands refl

  pub others-more : (active : Constraint) (drawn : List (List ℕ)) (seen : List Standing) (item : Standing) → ((other : Standing) → Contains seen other → other.port ≡ length drawn → AreAllowed active standing new (drawn ++ other.set ∷ []))
      → (item.port ≡ length drawn → AreAllowed active standing new (drawn ++ item.set ∷ []))
      → (other : Standing) → Contains (seen ++ item ∷ []) other → other.port ≡ length drawn → AreAllowed active standing new (drawn ++ other.set ∷ [])
  others-more active drawn seen item each last other held =
      elim (Contains-append_cases seen (item ∷ []) other held) [
        | inl before ↦ each other before
        | inr here ↦ elim (Contains-cases other item [] here) [
          | inl same ↦ subst (λ (t : Standing). t.port ≡ length drawn → AreAllowed active standing new (drawn ++ t.set ∷ [])) (sym same) last
          | inr none ↦ absurd (Contains-none other none)
        ]
      ]

  pub other-missed : (active : Constraint) (drawn : List (List ℕ)) (other : Standing) → length drawn < active.degree → (length drawn ≡ new.port → ⊥) → Contains standing other → length drawn ≡ other.port
      → IsMissed active standing new (drawn ++ other.set ∷ []) → IsMissed active standing new drawn
  other-missed active drawn other less apart held here missed =
      missed-on active drawn other.set less (inr (apart, subst (λ i. StandsAt standing i other.set) (sym here) held)) missed

  -- all are drawn
  none-left : (a : ℕ) (drawn sets : List (List ℕ)) → a ≤ length drawn → AreDrawn a standing new drawn sets → sets ≡ []
  none-left a drawn [] most are = refl
  none-left a drawn (s ∷ sets) most are =
      let none : a - length drawn ≡ 0 = omega (arith, most) in absurd (subst (λ n. AllZip (IsDrawn standing new) (count_from (length drawn) n) (s ∷ sets)) none are)

  pub whole-allowed : (active : Constraint) (drawn : List (List ℕ)) → active.degree ≤ length drawn → is_allowed active drawn ≡ true → AreAllowed active standing new drawn
  whole-allowed active drawn most passes sets are =
      subst (IsAllowed active) (sym (append-nil drawn) ∙ ap (λ l. drawn ++ l) (sym (none-left active.degree drawn sets most are))) (is_allowed-IsAllowed active drawn passes)

  pub whole-missed : (active : Constraint) (drawn : List (List ℕ)) → active.degree ≤ length drawn → is_allowed active drawn ≡ false → IsMissed active standing new drawn
  whole-missed active drawn most fails = (
    [],
    (let none : 0 ≡ active.degree - length drawn = omega (arith, most) in subst (λ n. AllZip (IsDrawn standing new) (count_from (length drawn) n) []) none tt),
    λ allowed. true≢false (sym (IsAllowed-is_allowed active drawn (subst (IsAllowed active) (append-nil drawn) allowed)) ∙ fails),
  )

-- ---- sets at ports, one after another
module _ (active : Constraint) where
  -- the set stands already, or none does
  pub added-same : (port : ℕ) (set : List ℕ) (standing : List Standing) → HaveChoices active standing → StandsAt standing port set → IsAdded active (port ∷ []) (set ∷ []) standing true standing
  added-same port set standing have stands = record {
    choice = have;
    kept = λ i s held. held;
    placed = λ e. (stands, tt);
    whole = λ whole others part zip. (refl, part);
  }

  pub added-missed : (new : Standing) (standing : List Standing) → HaveChoices active standing → IsMissed active standing new [] → IsAdded active (new.port ∷ []) (new.set ∷ []) standing false standing
  added-missed new standing have missed = record {
    choice = have;
    kept = λ i s held. held;
    placed = λ e. absurd (true≢false (sym e));
    whole = λ whole others part zip. absurd (missed-whole standing new active missed whole others part zip.0);
  }

  pub added-new : (new : Standing) (standing : List Standing) → HaveChoices active standing → AreAllowed active standing new [] → IsAdded active (new.port ∷ []) (new.set ∷ []) standing true (standing ++ new ∷ [])
  added-new new standing have allowed = record {
    choice = choices-more standing new active have allowed;
    kept = λ i s held. Contains-append_left standing (new ∷ []) (stand i s) held;
    placed = λ e. (Contains-append_right standing (new ∷ []) new (Contains-here new []), tt);
    whole = λ whole others part zip. (
      refl,
      λ i s held. elim (stands-more standing new i s held) [
        | inl before ↦ part i s before
        | inr same ↦ subst (λ (t : Standing). Contains whole t) (λ k. stand (sym same.0 k) (sym same.1 k)) zip.0
      ],
    );
  }

  pub added-none : (sets : List (List ℕ)) (standing : List Standing) (fits : Bool) → HaveChoices active standing → fits ≡ eqb (length sets) 0 → IsAdded active [] sets standing fits standing
  added-none [] standing fits have e = record {
    choice = have;
    kept = λ i s held. held;
    placed = λ all. tt;
    whole = λ whole others part zip. (e, part);
  }
  added-none (s ∷ sets) standing fits have e = record {
    choice = have;
    kept = λ i s held. held;
    placed = λ all. absurd (true≢false (sym all ∙ e ∙ eqb-apart (suc (length sets)) 0 (λ h. omega (arith, h))));
    whole = λ whole others part zip. absurd zip;
  }

  pub added-few : (port : ℕ) (ports : List ℕ) (standing : List Standing) → HaveChoices active standing → IsAdded active (port ∷ ports) [] standing false standing
  added-few port ports standing have = record {
    choice = have;
    kept = λ i s held. held;
    placed = λ e. absurd (true≢false (sym e));
    whole = λ whole others part zip. absurd zip;
  }

  pub added-on : (port : ℕ) (set : List ℕ) (ports : List ℕ) (sets : List (List ℕ)) (standing mid all : List Standing) (fits : Bool) → IsAdded active (port ∷ []) (set ∷ []) standing true mid → IsAdded active ports sets mid fits all
      → IsAdded active (port ∷ ports) (set ∷ sets) standing fits all
  added-on port set ports sets standing mid all fits first others = record {
    choice = others.choice;
    kept = λ i s held. others.kept i s (first.kept i s held);
    placed = λ e. (others.kept port set (first.placed refl).0, others.placed e);
    whole = λ whole have part zip. others.whole whole have (first.whole whole have part (zip.0, tt)).1 zip.1;
  }

  pub added-whole : (ports some : List ℕ) (sets others : List (List ℕ)) (standing all : List Standing) (fits : Bool) → some ≡ ports → others ≡ sets → IsAdded active some others standing fits all → IsAdded active ports sets standing fits all
  added-whole ports some sets others standing all fits e f added = subst (λ l. IsAdded active l sets standing fits all) e (subst (λ l. IsAdded active some l standing fits all) f added)

  pub added-refused : (port : ℕ) (set : List ℕ) (ports : List ℕ) (sets : List (List ℕ)) (standing mid : List Standing) → IsAdded active (port ∷ []) (set ∷ []) standing false mid → IsAdded active (port ∷ ports) (set ∷ sets) standing false mid
  added-refused port set ports sets standing mid first = record {
    choice = first.choice;
    kept = first.kept;
    placed = λ e. absurd (true≢false (sym e));
    whole = λ whole have part zip. absurd (true≢false (sym (first.whole whole have part (zip.0, tt)).0));
  }

  pub refused-from : (ports : List ℕ) (sets : List (List ℕ)) (standing all : List Standing) → IsAdded active ports sets standing false all → IsRefused active ports sets standing
  refused-from ports sets standing all added whole have part zip = true≢false (sym (added.whole whole have part zip).0)
