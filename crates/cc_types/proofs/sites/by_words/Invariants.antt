use Rattle.std.proofs.Common.{◌≡◌, None, length}
use Rattle.cc_types.specs.Naming.{parted_before}
use Rattle.cc_types.proofs.sites.by_words.Given as goal

abbrev pub invariant-loop-clause : goal.invariant-loop-clause
invariant-loop-clause l =
    parted_before l.left l.parted ≡ parted_before l.fn.clauses (record { such_that = None; least_by = None })

abbrev pub decreases-loop-clause : goal.decreases-loop-clause
decreases-loop-clause l = length l.left
