use Rattle.std.proofs.Common.{◌≡◌, drop}
use Rattle.cc_code.specs.Works.{after_cells, environment}
use Rattle.cc_vm.specs.Machine.{between}
use Rattle.cc_vm.proofs.offers.environment.Given as goal

abbrev pub invariant-loop-part : goal.invariant-loop-part
invariant-loop-part l =
    after_cells l.env (environment (drop l.part-index l.parts) (between l.r.first l.r.end l.cells)) ≡ environment l.parts (between l.r.first l.r.end l.cells)
