-- The numbers of a command are such as words can give it.
use Rattle.std.proofs.Common.{◌≡◌, ℕ, ◌≤◌, Bool, true, false, cond, not, List, [], ◌∷◌, Option, Some, None, refl, sym, subst, arith}
use Rattle.std.specs.List.{AllByRecursion}
use Rattle.std.specs.Prelude.{codes, if◌then◌else◌, nat_le, ◌&&◌, ◌==◌}
use Rattle.std.specs.Str.{bytes_eq}
use Rattle.std.proofs.lemmas.Bool.Decides.{nat_tests}
use Rattle.re_cert.specs.declared.certificate.Kind.{Kind}
use Rattle.re_families.specs.Families.{is_degree, number_fits, out_of_range, passive_fits}
use Rattle.re_families.specs.declared.types.Family.{Family}
use Rattle.re_families.specs.declared.types.Family.TheVariants.{Colouring, Matching, Mis, Orientation}
use Rattle.re_problem.specs.Numerals.{number_of}
use Rattle.re_labels.proofs.Tests.{and-true}
use Rattle.re_words.specs.Command.{IsMaking, IsReading, command_among, command_of, command_of_five, command_of_three, command_of_two, diagrams, family_named, family_with, is_family, is_made, is_search, kind_named, least_steps, one_word, rounds_up_to, search_with, step_from, steps_of, word_of}
use Rattle.re_words.specs.declared.command.Command.{Command}
use Rattle.re_words.specs.declared.command.Command.TheVariants.{Extracts, Makes, Maps, Reads, Streams, Tables, Runs}
use Rattle.re_words.specs.declared.command.Making.{Making}
use Rattle.re_words.specs.declared.command.Making.TheVariants.{OfFamily, OneStep}
use Rattle.re_words.specs.declared.command.Reading.{Reading}
use Rattle.re_words.specs.declared.command.Reading.TheVariants.{Rounds, Search, Step}
use Rattle.re_families.proofs.Whole.{number_range}
use Rattle.re_cert.specs.declared.certificate.TheConstants.{MAX_STEPS}

-- ---- what the tests say
le_of : (a b : ℕ) → nat_le a b ≡ true → a ≤ b
le_of a b h = grind (arith, nat_tests)

equal_most : (a b most : ℕ) → (a == b) ≡ true → b ≤ most → a ≤ most
equal_most a b most h l = grind (arith, nat_tests)

search_range : (kind : Kind) (steps changes : ℕ) → is_search kind steps changes ≡ true → (least_steps kind ≤ steps) × (steps ≤ MAX_STEPS) × (changes ≤ 8)
search_range kind steps changes h =
    let all = and-true (nat_le (least_steps kind) steps && nat_le steps MAX_STEPS) (nat_le changes 8) h in
    let both = and-true (nat_le (least_steps kind) steps) (nat_le steps MAX_STEPS) all.0 in
    (le_of (least_steps kind) steps both.0, le_of steps MAX_STEPS both.1, le_of changes 8 all.1)

degree_most : (degree : ℕ) → is_degree degree ≡ true → degree ≤ 6
degree_most degree h = le_of degree 6 (and-true (nat_le 2 degree) (nat_le degree 6) h).1

passive_most : (kind : Family) (passive : ℕ) → passive_fits kind passive ≡ true → passive ≤ 6
passive_most Colouring passive h = degree_most passive h
passive_most Matching passive h = degree_most passive h
passive_most Orientation passive h = degree_most passive h
passive_most Mis passive h = equal_most passive 2 6 h (omega arith)

-- the numbers of a family are small, and none is out of its range
pub record IsSmall (kind : Family) (active passive number : ℕ) : Type 0 where
  pub active_small : active ≤ 6
  pub passive_small : passive ≤ 6
  pub number_small : number ≤ 16
  pub in_range : out_of_range kind active passive number ≡ None

pub family_range : (kind : Family) (active passive number : ℕ) → is_family kind active passive number ≡ true → IsSmall kind active passive number
family_range kind active passive number h =
    let all = and-true (is_degree active && passive_fits kind passive) (number_fits kind number) h in
    let both = and-true (is_degree active) (passive_fits kind passive) all.0 in record {
      active_small = degree_most active both.0;
      passive_small = passive_most kind passive both.1;
      number_small = number_range kind number all.1;
      in_range = go (is_degree active) (passive_fits kind passive) (number_fits kind number) both.0 both.1 all.1;
    }
  where
    go : (x y z : Bool) → x ≡ true → y ≡ true → z ≡ true → (if not x then Some active else if not y then Some passive else if not z then Some number else None) ≡ None
    go false y z p q r = absurd (cc)
    go true false z p q r = absurd (cc)
    go true true false p q r = absurd (cc)
    go true true true p q r = refl

-- ---- what the words name
abbrev IsWithin : Option Command → Type 0
IsWithin None = Unit {0}
IsWithin (Some (Streams streaming)) = Unit {0}
IsWithin (Some (Reads reading)) = IsReading reading
IsWithin (Some (Maps mapping)) = Unit {0}
IsWithin (Some (Tables form)) = Unit {0}
IsWithin (Some Extracts) = Unit {0}
IsWithin (Some (Makes making)) = IsMaking making
IsWithin (Some Runs) = Unit {0}

among : (commands : List Command) (word : List ℕ) → AllByRecursion (λ command. IsWithin (Some command)) commands → IsWithin (command_among commands word)
among [] word h = tt
among (command ∷ commands) word h = go (bytes_eq (word_of command) word) (among commands word h.1)
  where
    go : (b : Bool) → IsWithin (command_among commands word) → IsWithin (cond b (Some command) (command_among commands word))
    go true rest = h.0
    go false rest = rest

chosen : (b : Bool) (x y : Option Command) → IsWithin x → IsWithin y → IsWithin (if b then x else y)
chosen true x y h k = h
chosen false x y h k = k

steps_within : (number : Option ℕ) → IsWithin (steps_of number)
steps_within None = tt
steps_within (Some n) = chosen (nat_le 1 n && nat_le n MAX_STEPS) (Some (Reads (Step n))) None tt tt

rounds_within : (number : Option ℕ) → IsWithin (rounds_up_to number)
rounds_within None = tt
rounds_within (Some most) = chosen (nat_le most MAX_STEPS) (Some (Reads (Rounds most))) None tt tt

search_within : (kind : Option Kind) (steps changes : Option ℕ) → IsWithin (search_with kind steps changes)
search_within None steps changes = tt
search_within (Some kind) None changes = tt
search_within (Some kind) (Some steps) None = tt
search_within (Some kind) (Some steps) (Some changes) = go (is_search kind steps changes) refl
  where
    go : (b : Bool) → is_search kind steps changes ≡ b → IsWithin (if b then Some (Reads (Search kind steps changes)) else None)
    go true is = search_range kind steps changes is
    go false is = tt

step_within : (number : Option ℕ) → IsWithin (step_from number)
step_within None = tt
step_within (Some colours) = go (is_made colours) refl
  where
    go : (b : Bool) → is_made colours ≡ b → IsWithin (if b then Some (Makes (OneStep colours)) else None)
    go true is = (family_range Colouring 3 2 colours is).in_range
    go false is = tt

family_within : (kind : Option Family) (active passive number : Option ℕ) → IsWithin (family_with kind active passive number)
family_within None active passive number = tt
family_within (Some kind) None passive number = tt
family_within (Some kind) (Some active) None number = tt
family_within (Some kind) (Some active) (Some passive) None = tt
family_within (Some kind) (Some active) (Some passive) (Some number) = go (is_family kind active passive number) refl
  where
    go : (b : Bool) → is_family kind active passive number ≡ b → IsWithin (if b then Some (Makes (OfFamily kind active passive number)) else None)
    go true is = (family_range kind active passive number is).in_range
    go false is = tt

one_of_four : (a b c d : Bool) (w x y z : Option Command) → IsWithin w → IsWithin x → IsWithin y → IsWithin z
    → IsWithin (if a then w else if b then x else if c then y else if d then z else None)
one_of_four true b c d w x y z h k l m = h
one_of_four false true c d w x y z h k l m = k
one_of_four false false true d w x y z h k l m = l
one_of_four false false false true w x y z h k l m = m
one_of_four false false false false w x y z h k l m = tt

two_within : (first second : List ℕ) → IsWithin (command_of_two first second)
unfolding command_of_two
two_within first second =
    one_of_four (bytes_eq (codes "diagram") first) (bytes_eq (codes "step") first) (bytes_eq (codes "rounds") first) (bytes_eq (codes "make") first)
    (command_among diagrams second) (steps_of (number_of second)) (rounds_up_to (number_of second)) (step_from (number_of second))
    (among diagrams second (tt, (tt, tt))) (steps_within (number_of second)) (rounds_within (number_of second)) (step_within (number_of second))

three_within : (first second third : List ℕ) → IsWithin (command_of_three first second third)
unfolding command_of_three
three_within first second third = search_within (kind_named first) (number_of second) (number_of third)

five_within : (first name active passive number : List ℕ) → IsWithin (command_of_five first name active passive number)
unfolding command_of_five
five_within first name active passive number =
    chosen (bytes_eq (codes "family") first) (family_with (family_named name) (number_of active) (number_of passive) (number_of number)) None
    (family_within (family_named name) (number_of active) (number_of passive) (number_of number)) tt

words_within : (words : List (List ℕ)) → IsWithin (command_of words)
unfolding command_of
words_within [] = tt
words_within (word ∷ []) = among one_word word (tt, (tt, (tt, (tt, (tt, (tt, (tt, (tt, (tt, (tt, (tt, (tt, (tt, (tt, tt))))))))))))))
words_within (first ∷ second ∷ []) = two_within first second
words_within (first ∷ second ∷ third ∷ []) = three_within first second third
words_within (first ∷ second ∷ third ∷ fourth ∷ []) = tt
words_within (first ∷ second ∷ third ∷ fourth ∷ fifth ∷ []) = five_within first second third fourth fifth
words_within (first ∷ second ∷ third ∷ fourth ∷ fifth ∷ sixth ∷ words) = tt

pub words_make : (words : List (List ℕ)) (making : Making) → Some (Makes making) ≡ command_of words → IsMaking making
words_make words making is = subst IsWithin (sym is) (words_within words)

pub words_read : (words : List (List ℕ)) (reading : Reading) → Some (Reads reading) ≡ command_of words → IsReading reading
words_read words reading is = subst IsWithin (sym is) (words_within words)
