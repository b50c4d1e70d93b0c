use Rattle.std.proofs.Common.{None, Some, subst}
use Rattle.cc_vm.proofs.Onward.{comes-from}
use Rattle.cc_vm.specs.Going.{Advances}
use Rattle.cc_vm.specs.Lists.{kept_state}
use Rattle.cc_vm.specs.Running.{Follows}
use Rattle.cc_vm.proofs.going.advance.Goals as goal

pub returns-in-Some : goal.returns-in-Some
returns-in-Some c =
    let advanced : Advances c.args.raw.now c.args.room c.offers.lists c.offers.alts c.advance_once.new.lists c.advance_once.new.alts (Some c.in-Some.request) =
    subst (Advances c.args.raw.now c.args.room c.offers.lists c.offers.alts c.advance_once.new.lists c.advance_once.new.alts) c.in-Some.is c.in_ok-request.ensures in
    comes-from c.args.raw.now c.args.room (λ process fed. Follows c.args.raw.now process fed (kept_state c.args.lists.now c.args.alts.now)) (λ process fed. Follows c.args.raw.now process fed (kept_state c.offers.lists c.offers.alts))
    c.advance_once.new.lists c.advance_once.new.alts c.in-Some.request c.offers.invariant.1 advanced

pub offers-preserved : goal.offers-preserved
offers-preserved c =
    let advanced : Advances c.args.raw.now c.args.room c.offers.lists c.offers.alts c.advance_once.new.lists c.advance_once.new.alts None =
    subst (Advances c.args.raw.now c.args.room c.offers.lists c.offers.alts c.advance_once.new.lists c.advance_once.new.alts) c.in-None.is c.in_ok-request.ensures in
    (advanced.0, λ process fed follows. advanced.1 process fed (c.offers.invariant.1 process fed follows))
