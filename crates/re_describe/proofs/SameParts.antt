-- Texts of evidence that write the same: part by part, and each writes the same as itself.
use Rattle.std.proofs.Common.{◌≡◌, ℕ, zero, suc, ◌+◌, ◌-◌, ◌≤◌, min, Bool, true, false, List, codes, length, take, drop, refl, sym, ap, ◌∙◌, subst, arith, length-drop, length-take, Option, None, Some}
use Rattle.std.specs.Option.{option_map}
use Rattle.re_chains.specs.TwoTexts.{has_line}
use Rattle.re_describe.specs.GroupTexts.{WritesBehind, WritesEvidence, WritesGraphBy, WritesKind, WritesPart, WritesParts}
use Rattle.re_io.specs.declared.read.TheConstants.{MAX_BYTES}
use Rattle.re_judging.proofs.FaultLaws.{none_first, none_in_part, none_many}
use Rattle.re_judging.specs.Joints.{behind_joint, first_part, in_front, joint_at}
use Rattle.re_judging.specs.Judging.{in_part}
use Rattle.re_judging.specs.PartFaults.{fault_behind, part_fault, parts_fault, too_many}
use Rattle.re_judging.specs.PartVerdicts.{kind_of}
use Rattle.re_judging.specs.declared.types.PartKind.{PartKind}
use Rattle.re_judging.specs.declared.types.PartKind.TheVariants.{Certificate, Flexible, Given, Graph, Greedy, Length}

-- ---- part by part
-- the last ones
pub last_parts : (more : ℕ) (bytes text : List ℕ) → WritesPart (first_part bytes) (first_part text) → joint_at bytes ≡ None → joint_at text ≡ None → WritesParts more bytes text
last_parts zero bytes text first last also = (first, last, also)
last_parts (suc more) bytes text first last also =
    (first, subst (λ at. WritesBehind (WritesParts more) at (joint_at text) bytes text) (sym last) (subst (λ other. WritesBehind (WritesParts more) None other bytes text) (sym also) tt))

-- ones with others behind them
pub next_parts : (more at other : ℕ) (bytes text : List ℕ) → (more ≡ 0 → ⊥) → WritesPart (first_part bytes) (first_part text) → joint_at bytes ≡ Some at → joint_at text ≡ Some other
    → WritesParts (more - 1) (behind_joint at bytes) (behind_joint other text) → WritesParts more bytes text
next_parts zero at other bytes text some first joint also behind = absurd (some refl)
next_parts (suc more) at other bytes text some first joint also behind =
    let fewer : suc more - 1 ≡ more = omega arith in
    let rest : WritesParts more (behind_joint at bytes) (behind_joint other text) = subst (λ m. WritesParts m (behind_joint at bytes) (behind_joint other text)) fewer behind in
    (first, subst (λ found. WritesBehind (WritesParts more) found (joint_at text) bytes text) (sym joint) (subst (λ found. WritesBehind (WritesParts more) (Some at) found bytes text) (sym also) rest))

-- ---- a text writes the same as itself
same_graph : (given : Bool) (bytes : List ℕ) → length bytes ≤ MAX_BYTES → WritesGraphBy given bytes bytes
same_graph true bytes few = record { short = few; given = refl; read = refl; lines = refl }
same_graph false bytes few = record { short = few; given = refl; read = refl; lines = refl }

same_kind : (kind : PartKind) (bytes : List ℕ) → length bytes ≤ MAX_BYTES → WritesKind kind bytes bytes
same_kind Certificate bytes few = refl
same_kind Given bytes few = record { bound = refl; input = refl }
same_kind Graph bytes few = same_graph (has_line (codes "given") bytes) bytes few
same_kind Length bytes few = record { problem = refl; lines = refl }
same_kind Flexible bytes few = record { problem = refl; lines = refl }
same_kind Greedy bytes few = record { chain = refl; lines = refl }

same_part : (bytes : List ℕ) → length bytes ≤ MAX_BYTES → part_fault bytes ≡ None → WritesPart bytes bytes
same_part bytes few right = record { kind = refl; form = refl; right = right; same = same_kind (kind_of bytes) bytes few }

few_first : (at : Option ℕ) (bytes : List ℕ) → length bytes ≤ MAX_BYTES → length (in_front at bytes) ≤ MAX_BYTES
few_first None bytes few = few
few_first (Some at) bytes few = let e = length-take at bytes in omega (arith, e, few)

few_behind : (at : ℕ) (bytes : List ℕ) → length bytes ≤ MAX_BYTES → length (behind_joint at bytes) ≤ MAX_BYTES
few_behind at bytes few = let e = length-drop (at + 6) bytes in omega (arith, e, few)

same_behind : (more number : ℕ) (bytes : List ℕ) → length bytes ≤ MAX_BYTES → ((rest : List ℕ) → length rest ≤ MAX_BYTES → parts_fault more number rest ≡ None → WritesParts more rest rest)
    → (at : Option ℕ) → fault_behind (parts_fault more number) at bytes ≡ None → WritesBehind (WritesParts more) at at bytes bytes
same_behind more number bytes few same None none = tt
same_behind more number bytes few same (Some at) none = same (behind_joint at bytes) (few_behind at bytes few) none

same_parts : (more number : ℕ) (bytes : List ℕ) → length bytes ≤ MAX_BYTES → parts_fault more number bytes ≡ None → WritesParts more bytes bytes
same_parts zero number bytes few right =
    let (here, last) = none_first (option_map (in_part number) (part_fault (first_part bytes))) (too_many (joint_at bytes)) right in
    let none = none_many (joint_at bytes) last in
    (same_part (first_part bytes) (few_first (joint_at bytes) bytes few) (none_in_part number (part_fault (first_part bytes)) here), none, none)
same_parts (suc more) number bytes few right =
    let (here, later) = none_first (option_map (in_part number) (part_fault (first_part bytes))) (fault_behind (parts_fault more (suc number)) (joint_at bytes) bytes) right in (
      same_part (first_part bytes) (few_first (joint_at bytes) bytes few) (none_in_part number (part_fault (first_part bytes)) here),
      same_behind more (suc number) bytes few (λ rest few none. same_parts more (suc number) rest few none) (joint_at bytes) later,
    )

pub same_evidence : (bytes text : List ℕ) → length bytes ≤ MAX_BYTES → parts_fault 15 1 bytes ≡ None → text ≡ bytes → WritesEvidence bytes text
same_evidence bytes text few right same = subst (WritesEvidence bytes) (sym same) (record { short = few; parts = same_parts 15 1 bytes few right })
