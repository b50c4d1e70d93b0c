use Rattle.std.proofs.Common.{◌≡◌, drop}
use Rattle.std.specs.List.{list_all}
use Rattle.cc_source.specs.Straight.{is_straight_site}
use Rattle.cc_source.proofs.checks.straight_sites.Given as goal

abbrev pub invariant-loop-site : goal.invariant-loop-site
invariant-loop-site l = list_all is_straight_site (drop l.site-index l.sites) ≡ list_all is_straight_site l.sites
