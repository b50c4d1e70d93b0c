use Rattle.std.proofs.Common.{◌≡◌, ◌<◌, refl, ap, sym, subst, ◌∙◌, arith, length, not, nat_eq}
use Rattle.std.specs.List.{filter}
use Rattle.std.proofs.lemmas.Grind.{common_steps}
use Rattle.cc_base.specs.Grants.{value_cells}
use Rattle.cc_kernel.proofs.Replies.{value-cells-is}
use Rattle.cc_kernel.proofs.Serving.{found-at}
use Rattle.cc_kernel.proofs.Stacks.{within-more}
use Rattle.cc_kernel.proofs.Timed.{process-stands, stands-for, taken-timed}
use Rattle.cc_kernel.specs.Seats.{no_call, served_call}
use Rattle.cc_kernel.specs.Stacks.{one_more, served_by}
use Rattle.cc_kernel.specs.Store.{Contents}
use Rattle.cc_kernel.specs.Timed.{without_some}
use Rattle.cc_rules.specs.Choice.{call_deadline}
use Rattle.cc_rules.specs.declared.process.TransactionCall.{TransactionCall}
use Rattle.cc_timer.specs.declared.who.Who.TheVariants as who
use Rattle.cc_kernel.proofs.settle.accept.Goals as goal

pub take_call-call-requires-clause-stands : goal.take_call-call-requires-clause-stands
take_call-call-requires-clause-stands g c n e =
    let old = c.args.store.now in
    stands-for old.seats.items old.pending.items old.deadlines.pairs (who.Call c.args.number) n c.requires.timed e

pub wake-requires-clause-stands : goal.wake-requires-clause-stands
wake-requires-clause-stands g c =
    let old = c.args.store.now in
    rw c.take_call-call.ensures.deadlines
    (process-stands old.seats.items _ _ c.args.pid
    (taken-timed old.seats.items old.pending.items old.deadlines.pairs c.args.number c.take_call-call.result c.take_call-call.ensures.call c.requires.timed))

pub returns-clause-contents : goal.returns-clause-contents
returns-clause-contents g c call found =
    let old = c.args.store.now in
    let taken = sym c.take_call-call.ensures.call ∙ found in
    let same : c.take_call-call.result ≡ call = cc in
    let number = (found-at old.pending.items c.args.number.0 call found).0 in
    let own : call.number ≡ c.args.number = ap (λ n. record { 0 = n }) number in
    let pending =
    c.take_call-call.ensures.pending
    ∙ ap (λ n. filter (λ (other : TransactionCall). not (nat_eq other.number.0 n)) old.pending.items) (sym number) in
    let deadlines =
    c.take_call-call.ensures.deadlines
    ∙ ap (λ n. without_some (call_deadline c.take_call-call.result.waiting) (who.Call n) old.deadlines.pairs) (sym own) in
    let served =
    c.add.ensures.by
    ∙ ap (λ v. one_more (served_by v) c.args.pid.0 c.served_call-served.result) c.wake.ensures.served
    ∙ ap (one_more (served_by old.served) c.args.pid.0) (c.served_call-served.ensures ∙ ap served_call same) in
    let serve : Contents g.row.B-Proc.Denot → Contents g.row.B-Proc.Denot = λ y. record y { served = served_by c.add.new.self } in
    ap serve c.wake.ensures.contents ∙ rw (pending, deadlines, served, same) refl

pub shape-requires : goal.shape-requires
shape-requires g c =
    let m = g.B.Behave.means c.args.code.now in
    let calls = c.args.store.now.pending.items in
    let call = c.take_call-call.result in
    let at = found-at calls c.args.number.0 call c.take_call-call.ensures.call in
    let known = c.requires.known at.1.0 no_call at.1.1 in
    rw c.served_call-served.ensures (subst (λ (k : TransactionCall). k.trans < length m.shapes) at.1.2 known)

pub returns-clause-cells : goal.returns-clause-cells
returns-clause-cells g c h =
    let m = g.B.Behave.means c.args.code.now in
    let old = c.args.store.now in
    let served = c.served_call-served.result in
    let most = c.wake.ensures.most in
    let own : value_cells m served.trans ≡ c.shape.result.value = value-cells-is m served.trans c.shape.result c.shape.ensures in
    within-more m old.most c.max-store.result (served_by old.served) (served_by c.add.new.self) c.args.pid.0 served (c.add.ensures.by ∙ ap (λ v. one_more (served_by v) c.args.pid.0 served) c.wake.ensures.served)
    (grind (arith, common_steps, most)) (rw own (grind (arith, common_steps))) h
