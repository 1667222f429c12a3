-- The steps by which a line is gathered from a source.
use Rattle.std.proofs.Common.{◌≡◌, ℕ, true, false, List, [], ◌∷◌, ◌++◌, length, Option, Contains, refl, sym, ap, ◌∙◌, arith, subst, append_assoc, append-nil, length-append, eqb, eq-eqb}
use Rattle.std.proofs.KnownBytes.{Consumes-trans}
use Rattle.std.specs.Io.KnownBytes.{IsAtEnd}
use Rattle.re_io.proofs.LinePieces.{no_feed_append}
use Rattle.re_io.specs.LineReading.{GivesPart, IsFirstLine, LinesHeld, Refills, Takes}

pub takes_on : (old mid same new : LinesHeld) (a b c : Option (List ℕ)) (bs cs : List ℕ) → Takes old mid a b bs → same.taken ≡ mid.taken
    → Takes same new b c cs → Takes old new a c (bs ++ cs)
takes_on old mid same new a b c bs cs first count next = record {
  consumed = Consumes-trans a b c bs cs first.consumed next.consumed;
  count = omega (arith, first.count, next.count, length-append bs cs);
}

-- the bytes taken since the call began, of which the text was given and the rest is pending
pub record Gathered (old now : LinesHeld) (before after : Option (List ℕ)) (bytes text : List ℕ) : Type 0 where
  pub taken : Takes old now before after bytes
  pub input : old.pending ++ bytes ≡ text ++ now.pending
  pub whole : Contains text 10 → ⊥

module _ (old now : LinesHeld) (before after : Option (List ℕ)) (bytes text : List ℕ) (g : Gathered old now before after bytes text) where
  pub feed_met : (new : LinesHeld) (longer rest : List ℕ) → GivesPart now.pending text true longer rest → new.taken ≡ now.taken → new.pending ≡ rest
      → (all : List ℕ) × Takes old new before after all × IsFirstLine (old.pending ++ all) (record { text = longer; ended = true }) new.pending after
  feed_met new longer rest part count left = (
    bytes,
    record { consumed = g.taken.consumed; count = count ∙ g.taken.count },
    record {
      bytes =
          g.input ∙ ap (λ l. text ++ l) part.moved ∙ sym (append_assoc text part.piece (10 ∷ rest)) ∙ ap (λ l. l ++ (10 ∷ rest)) (sym part.text)
          ∙ sym (append_assoc longer (10 ∷ []) rest) ∙ ap (λ l. (longer ++ 10 ∷ []) ++ l) (sym left);
      whole = subst (λ l. Contains l 10 → ⊥) (sym part.text) (no_feed_append text part.piece g.whole part.whole);
      filled = λ never. cc;
      last = λ never. cc;
    },
  )

  pub piece_moved : (new : LinesHeld) (longer : List ℕ) → GivesPart now.pending text false longer new.pending → new.taken ≡ now.taken
      → Gathered old new before after bytes longer
  piece_moved new longer part count = record {
    taken = record { consumed = g.taken.consumed; count = count ∙ g.taken.count };
    input =
        g.input ∙ ap (λ l. text ++ l) part.moved.0 ∙ sym part.text ∙ sym (append-nil longer) ∙ ap (λ l. longer ++ l) (sym part.moved.1);
    whole = subst (λ l. Contains l 10 → ⊥) (sym part.text) (no_feed_append text part.piece g.whole part.whole);
  }

  module _ (none : now.pending ≡ []) (new : LinesHeld) (later : Option (List ℕ)) (more : List ℕ) (t : Takes now new after later more) where
    all_given : old.pending ++ (bytes ++ more) ≡ text ++ more
    all_given =
        sym (append_assoc old.pending bytes more) ∙ ap (λ l. l ++ more) (g.input ∙ ap (λ l. text ++ l) none ∙ append-nil text)

    on : Takes old new before later (bytes ++ more)
    on = takes_on old now now new before after later bytes more g.taken refl t

    pub refilled : Refills true more new.pending later → Gathered old new before later (bytes ++ more) text
    refilled fresh = record { taken = on; input = all_given ∙ ap (λ l. text ++ l) (sym fresh.0); whole = g.whole }

    module _ (end : Refills false more new.pending later) (final : LinesHeld) (count : final.taken ≡ new.taken) (left : final.pending ≡ new.pending) where
      counted : Takes old final before later (bytes ++ more)
      counted = record { consumed = on.consumed; count = count ∙ on.count }

      pub last_line : (text ≡ [] → ⊥)
          → (all : List ℕ) × Takes old final before later all × IsFirstLine (old.pending ++ all) (record { text = text; ended = false }) final.pending later
      last_line some = (
        bytes ++ more,
        counted,
        record {
          bytes = all_given ∙ ap (λ l. text ++ l) (end.0 ∙ sym (left ∙ end.1));
          whole = g.whole;
          filled = λ _. some;
          last = λ _. (left ∙ end.1, end.2);
        },
      )

      pub no_line : text ≡ []
          → (all : List ℕ) × Takes old final before later all × ((old.pending ++ all ≡ []) × (final.pending ≡ []) × IsAtEnd later)
      no_line empty = (
        bytes ++ more,
        counted,
        (all_given ∙ ap (λ l. l ++ more) empty ∙ end.0, left ∙ end.1, end.2),
      )

pub not_empty : (xs ys : List ℕ) → false ≡ eqb (length xs) 0 → xs ≡ ys → ys ≡ [] → ⊥
not_empty xs ys some same none =
    let zero : length xs ≡ 0 = ap length (same ∙ none) in
    let yes : eqb (length xs) 0 ≡ true = eq-eqb _ _ zero in
    cc
