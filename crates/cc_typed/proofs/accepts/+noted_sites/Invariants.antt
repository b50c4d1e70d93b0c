use Rattle.std.proofs.Common.{◌≡◌, ◌++◌, drop}
use Rattle.cc_typed.specs.Accepts.{sites_of_body, sites_of_list}
use Rattle.cc_typed.proofs.accepts.+noted_sites.Given as goal

abbrev pub invariant-note_all-loop-s : goal.invariant-note_all-loop-s
invariant-note_all-loop-s l = l.sites ++ sites_of_body (drop l.s-index l.all) ≡ l.fn.sites ++ sites_of_body l.all

abbrev pub invariant-note_alternatives-loop-a : goal.invariant-note_alternatives-loop-a
invariant-note_alternatives-loop-a l = l.sites ++ sites_of_list (drop l.a-index l.all) ≡ l.fn.sites ++ sites_of_list l.all
