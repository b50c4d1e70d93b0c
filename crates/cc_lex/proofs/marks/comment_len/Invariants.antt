use Rattle.std.proofs.Common.{◌≡◌, ◌≤◌, ◌-◌, length, drop}
use Rattle.cc_lex.specs.Reading.{comment_len, further}
use Rattle.cc_lex.proofs.marks.comment_len.Given as goal

abbrev pub invariant-loop-n : goal.invariant-loop-n
invariant-loop-n l = record { within : l.n ≤ length l.text; so_far : comment_len l.text ≡ further l.n (comment_len (drop l.n l.text)) }

abbrev pub decreases-loop-n : goal.decreases-loop-n
decreases-loop-n l = length l.text - l.n
