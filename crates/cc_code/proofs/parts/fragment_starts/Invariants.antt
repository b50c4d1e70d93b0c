use Rattle.std.proofs.Common.{◌≡◌, take}
use Rattle.cc_code.specs.Checked.{address_starts}
use Rattle.cc_code.specs.Control.{fragments}
use Rattle.cc_code.proofs.parts.fragment_starts.Given as goal

abbrev pub invariant-loop-site : goal.invariant-loop-site
invariant-loop-site l = record {
  are : l.site-items ≡ l.raw.sites;
  starts : l.starts.items ≡ address_starts l.raw (fragments (take l.site-index l.site-items));
}
