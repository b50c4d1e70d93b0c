use Rattle.std.proofs.Common.{◌≡◌, ◌+◌, ◌≤◌, ◌-◌, length, drop}
use Rattle.cc_lex.specs.Bytes.{is_digit_in}
use Rattle.cc_lex.specs.Reading.{run}
use Rattle.cc_lex.proofs.bytes.digits_len.Given as goal

abbrev pub invariant-loop-n : goal.invariant-loop-n
invariant-loop-n l = record { within : l.n ≤ length l.text; so_far : run (is_digit_in l.base) l.text ≡ l.n + run (is_digit_in l.base) (drop l.n l.text) }

abbrev pub decreases-loop-n : goal.decreases-loop-n
decreases-loop-n l = length l.text - l.n
