use Rattle.std.proofs.Common.{ℕ, ◌<◌, slice_get}
use Rattle.cc_code.specs.Control.{ComesTo}
use Rattle.cc_code.specs.Rules.{AgreesThere}
use Rattle.cc_code.proofs.offers.agrees_everywhere.Given as goal

abbrev pub invariant-loop-wait : goal.invariant-loop-wait
invariant-loop-wait l = (w : ℕ) → w < l.wait → ComesTo l.raw l.at w → AgreesThere l.raw l.alt l.site (slice_get l.raw.instrs w)
