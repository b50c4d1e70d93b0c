use Rattle.std.proofs.Common.{◌≡◌, ◌++◌, drop, map}
use Rattle.std.specs.Prelude.{decimal}
use Rattle.cc_trace.specs.Text.{spaced}
use Rattle.cc_trace.proofs.writing.put_numbers.Given as goal

-- with the numbers that are left it is the line
abbrev pub invariant-loop-number : goal.invariant-loop-number
invariant-loop-number l = l.text ++ spaced (map decimal (drop l.number-index l.numbers)) ≡ l.fn.text ++ l.name ++ spaced (map decimal l.numbers)
