use Rattle.std.proofs.Common.{◌≡◌, ◌++◌, drop, map}
use Rattle.cc_names.proofs.strings.Strings.copies.Given as goal

abbrev pub invariant-loop-string : goal.invariant-loop-string
invariant-loop-string l = l.all ++ map (λ k. k.now) (drop l.string-index l.string-items) ≡ map (λ k. k.now) l.string-items
