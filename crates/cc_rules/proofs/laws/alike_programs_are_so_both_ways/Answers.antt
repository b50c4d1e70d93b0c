use Rattle.cc_rules.proofs.BothWays.{back, has-sites, well-formed}
use Rattle.cc_rules.proofs.laws.alike_programs_are_so_both_ways.Goals as goal

pub returns : goal.returns
returns c = record { back = back; well_formed = well-formed; sites = has-sites }
