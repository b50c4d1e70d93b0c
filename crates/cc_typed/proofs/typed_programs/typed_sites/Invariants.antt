use Rattle.std.proofs.Common.{◌≡◌, drop}
use Rattle.std.specs.List.{list_all}
use Rattle.cc_typed.specs.Checked.{parts_of}
use Rattle.cc_typed.specs.Typed.{is_typed_site}
use Rattle.cc_typed.proofs.typed_programs.typed_sites.Given as goal

abbrev pub invariant-loop-site : goal.invariant-loop-site
invariant-loop-site l =
    list_all (is_typed_site (parts_of l.parts)) (drop l.site-index l.sites) ≡ list_all (is_typed_site (parts_of l.parts)) l.sites
