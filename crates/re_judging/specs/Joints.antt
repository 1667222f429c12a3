-- Texts of several parts, joined by lines `=====`.
use Rattle.std.specs.Prelude.{ℕ, ◌+◌, Bool, List, [], ◌∷◌, codes, drop, length, take, if◌then◌else◌, Option, None, Some}
use Rattle.std.specs.Str.{bytes_eq}
use Rattle.re_problem.specs.ProblemTexts.{lines_of}

-- the line between two parts
abbrev pub is_joint : List ℕ → Bool
is_joint line = bytes_eq line (codes "=====")

-- the byte at which the first such line begins, of lines of which the first begins at this one
abbrev pub joint_in : ℕ → List (List ℕ) → Option ℕ
joint_in byte [] = None
joint_in byte (line ∷ lines) = if is_joint line then Some byte else joint_in (byte + (length line + 1)) lines

-- that of a text
abbrev pub joint_at : List ℕ → Option ℕ
joint_at bytes = joint_in 0 (lines_of bytes)

-- the bytes in front of it, and those behind the line
abbrev pub in_front : Option ℕ → List ℕ → List ℕ
in_front None bytes = bytes
in_front (Some at) bytes = take at bytes

abbrev pub first_part : List ℕ → List ℕ
first_part bytes = in_front (joint_at bytes) bytes

abbrev pub behind_joint : ℕ → List ℕ → List ℕ
behind_joint at bytes = drop (at + 6) bytes
