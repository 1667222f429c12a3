use Rattle.std.proofs.Common.{◌≡◌, ◌≤◌, ◌<◌, ◌+◌, length}
use Rattle.re_judging.specs.Joints.{joint_at, joint_in}
use Rattle.re_problem.specs.ProblemTexts.{lines_of}
use Rattle.re_judging.proofs.joints.joint_at.Given as goal

-- no line in front of the rest stands between two parts
abbrev pub invariant-lines : goal.invariant-lines
invariant-lines l = (joint_at l.text ≡ joint_in l.byte (lines_of l.rest)) × (l.byte ≤ length l.text + 1) × (0 < length l.rest → l.byte + length l.rest ≤ length l.text)

abbrev pub decreases-lines : goal.decreases-lines
decreases-lines l = length l.rest
