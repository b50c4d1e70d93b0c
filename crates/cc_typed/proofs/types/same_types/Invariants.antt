use Rattle.std.proofs.Common.{◌≡◌, drop}
use Rattle.cc_typed.specs.Types.{is_same_all}
use Rattle.cc_typed.proofs.types.same_types.Given as goal

abbrev pub invariant-loop-at : goal.invariant-loop-at
invariant-loop-at l = is_same_all (drop l.at l.ts) (drop l.at l.us) ≡ is_same_all l.ts l.us
