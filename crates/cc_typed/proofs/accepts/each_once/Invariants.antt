use Rattle.std.proofs.Common.{◌≡◌, drop}
use Rattle.cc_typed.specs.Accepts.{are_each_once}
use Rattle.cc_typed.proofs.Sites.{once_with}
use Rattle.cc_typed.proofs.accepts.each_once.Given as goal

abbrev pub invariant-loop-number : goal.invariant-loop-number
invariant-loop-number l = once_with 0 l.seen (drop l.number-index l.numbers) ≡ are_each_once l.fn.count l.numbers
