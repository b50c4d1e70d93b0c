use Rattle.std.proofs.Common.{None, arith, subst}
use Rattle.cc_base.specs.declared.request.Request.TheVariants as request
use Rattle.cc_code.specs.Steps.{Asks}
use Rattle.cc_vm.proofs.Onward.{fault-comes, pends-comes}
use Rattle.cc_vm.specs.Going.{Pends}
use Rattle.cc_vm.specs.Lists.{ComesTo, FallsIf, GoOn, IsReady, kept_state}
use Rattle.cc_vm.specs.Offering.{AllAsk, Opened}
use Rattle.cc_vm.specs.Running.{Follows}
use Rattle.cc_vm.specs.declared.lists.Lists.{Lists}
use Rattle.cc_vm.proofs.going.advance_once.Goals as goal

pub returns-then-not-is_offer : goal.returns-then-not-is_offer
returns-then-not-is_offer c =
    let b : Lists = c.run_on.new.lists in
    let came : IsReady c.args.raw.now c.args.room b × GoOn c.args.raw.now c.args.lists.now b = subst (ComesTo c.args.raw.now c.args.room c.args.lists.now b) c.in-None.is c.in_ok-kind.ensures.comes in
    let pends : Pends c.args.raw.now c.args.room b c.ask.new.alts c.args.alts.now c.instr_at-instr.result c.in_ok-request.request =
    record { ready = came.0; here = c.instr_at-instr.ensures; awaits = c.in_ok-request.ensures } in
    pends-comes c.args.raw.now c.requires.verified c.args.room c.requires.room b c.ask.new.alts c.args.alts.now c.instr_at-instr.result c.in_ok-request.request pends
    (λ process fed. Follows c.args.raw.now process fed (kept_state c.args.lists.now c.args.alts.now))
    (λ process fed follows. came.1 process fed c.args.alts.now follows)

pub returns-in-Some-2 : goal.returns-in-Some-2
returns-in-Some-2 c =
    let b : Lists = c.run_on.new.lists in
    let came : IsReady c.args.raw.now c.args.room b × GoOn c.args.raw.now c.args.lists.now b = subst (ComesTo c.args.raw.now c.args.room c.args.lists.now b) c.in-None.is c.in_ok-kind.ensures.comes in
    let opened : AllAsk c.args.raw.now b c.args.alts.now (Asks (request.Fault c.in-Some-2.kind)) =
    subst (Opened c.args.raw.now c.args.room b c.args.alts.now c.open_next.new.lists c.open_next.new.alts) c.in-Some-2.is c.in_ok-kind-2.ensures in
    fault-comes c.args.raw.now c.args.room (λ process fed. Follows c.args.raw.now process fed (kept_state c.args.lists.now c.args.alts.now)) c.open_next.new.lists c.open_next.new.alts c.in-Some-2.kind
    (λ process fed follows. opened process fed (came.1 process fed c.args.alts.now follows))

pub returns-in-None-2 : goal.returns-in-None-2
returns-in-None-2 c =
    let b : Lists = c.run_on.new.lists in
    let came : IsReady c.args.raw.now c.args.room b × GoOn c.args.raw.now c.args.lists.now b = subst (ComesTo c.args.raw.now c.args.room c.args.lists.now b) c.in-None.is c.in_ok-kind.ensures.comes in
    let falls : FallsIf c.args.raw.now c.args.lists.now b None = subst (FallsIf c.args.raw.now c.args.lists.now b) c.in-None.is c.in_ok-kind.ensures.falls in
    let opened : Opened c.args.raw.now c.args.room b c.args.alts.now c.open_next.new.lists c.open_next.new.alts None =
    subst (Opened c.args.raw.now c.args.room b c.args.alts.now c.open_next.new.lists c.open_next.new.alts) c.in-None-2.is c.in_ok-kind-2.ensures in
    (opened.0, λ process fed follows. opened.1 process fed (came.1 process fed c.args.alts.now follows), omega (arith, opened.2, falls.0))
