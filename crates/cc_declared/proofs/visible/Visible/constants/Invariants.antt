use Rattle.std.proofs.Common.{◌≡◌, Ok, drop}
use Rattle.std.specs.Prelude.{neg_ℤ, pos}
use Rattle.cc_typed.specs.Types.{Int}
use Rattle.cc_faults.specs.Judged.{after_each}
use Rattle.cc_declared.specs.Walks.{and_constant_found}
use Rattle.cc_declared.proofs.visible.Visible.constants.Given as goal

abbrev pub invariant-loop-c : goal.invariant-loop-c
invariant-loop-c l =
    after_each and_constant_found (l.self, l.so_far.before, l.so_far.found, l.least) (drop l.c-index l.all) ≡ after_each and_constant_found (l.fn.self, Ok (neg_ℤ (pos 1)), Ok Int, l.fn.least) l.all
