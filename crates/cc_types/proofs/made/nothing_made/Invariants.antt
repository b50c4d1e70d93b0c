use Rattle.std.proofs.Common.{◌≡◌, replicate, false}
use Rattle.cc_types.specs.Making as making
use Rattle.cc_types.proofs.made.nothing_made.Given as goal

abbrev pub invariant-loop : goal.invariant-loop
invariant-loop l =
    record { kinds : l.kinds ≡ replicate l.counter making.no_kind; there : l.there ≡ replicate l.counter false }
