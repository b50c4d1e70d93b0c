use Rattle.std.proofs.Common.{ap, sym, subst, ◌∙◌, map}
use Rattle.std.proofs.lemmas.List.{map-set}
use Rattle.cc_base.specs.declared.request.Grant.TheVariants.{Go}
use Rattle.cc_kernel.proofs.Requests.{same-outs}
use Rattle.cc_kernel.proofs.Simulates.{state-go}
use Rattle.cc_kernel.proofs.Resting.{rest-ready}
use Rattle.cc_kernel.specs.Resting.{AllRest}
use Rattle.cc_kernel.specs.Store.{Contents, contents}
use Rattle.cc_kernel.proofs.Stacks.{within-same}
use Rattle.cc_kernel.specs.Seats.{is_out, with_ready}
use Rattle.cc_kernel.specs.Stacks.{served_by}
use Rattle.cc_kernel.proofs.perform.perform.Goals as goal

pub returns-in-Print-clause-state : goal.returns-in-Print-clause-state
returns-in-Print-clause-state g c s k a =
    rw (c.in-Print.is, c.go_on.ensures.contents)
    (state-go (g.B.Behave.at c.args.code.now) s (contents c.args.store.now) c.args.pid.0 c.args.process Go k c.requires.running a)

pub returns-in-Print-clause-outs : goal.returns-in-Print-clause-outs
returns-in-Print-clause-outs g c =
    same-outs _ _ (ap (λ x. map is_out x.seats) c.go_on.ensures.contents ∙ map-set is_out c.args.store.now.seats.items c.args.pid.0 (with_ready c.args.process Go))

pub returns-in-Print-clause-rest : goal.returns-in-Print-clause-rest
returns-in-Print-clause-rest g c all =
    let m = g.B.Behave.means c.args.code.now in
    let x = contents c.args.store.now in
    let F : Contents g.row.B-Proc.Denot → Type 0 = λ y. AllRest m y in
    rw c.in-Print.is (subst F (sym c.go_on.ensures.contents) (rest-ready m x.seats x.pending c.args.pid.0 c.args.process Go all))

pub returns-in-Print-clause-cells : goal.returns-in-Print-clause-cells
returns-in-Print-clause-cells g c h =
    let m = g.B.Behave.means c.args.code.now in
    let old = c.args.store.now in
    let new = c.go_on.new.store in
    within-same m old.most new.most (served_by old.served) (served_by new.served) c.go_on.ensures.most (ap (λ y. y.served) c.go_on.ensures.contents) h
