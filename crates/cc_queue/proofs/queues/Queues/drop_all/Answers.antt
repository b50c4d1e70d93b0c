use Rattle.std.proofs.Common.{◌≡◌, false, eqb, filter, length, not, sym, ap, ◌∙◌, arith}
use Rattle.std.specs.Prelude.{nat_eq}
use Rattle.std.proofs.lemmas.Bool.{eq-eqb}
use Rattle.cc_queue.specs.Calls.{CallList}
use Rattle.cc_queue.specs.declared.call.PendingCall.{PendingCall}
use Rattle.cc_queue.proofs.Ordered.{among_all, among_contained, contains_from_among, filter_filter, filter_whole, shorter}
use Rattle.cc_queue.proofs.queues.Queues.drop_all.Goals as goal

pub loop-call-smaller : goal.loop-call-smaller
loop-call-smaller c =
    let x = c.in-Some.ensures.call in
    let less = shorter x.0 c.loop-call.self.calls (among_contained x.0 _ x.1) in
    let named = ap (λ n. length (filter (λ (d : PendingCall). not (eqb d.number.0 n.0)) c.loop-call.self.calls)) x.2 in
    omega (arith, less, named, ap (λ (v : CallList). length v.calls) c.drop_call.ensures)

pub loop-call-preserved : goal.loop-call-preserved
loop-call-preserved c =
    let test : PendingCall → _ = λ d. not (nat_eq d.target.0 c.args.target.0) in
    let once =
    filter_filter test c.in-Some.call.0 c.loop-call.self.calls
    (λ d m e. ap not (eq-eqb d.target.0 c.args.target.0 (c.in-Some.ensures.only d (contains_from_among d _ m) e)))
    in
    (ap (λ (v : CallList). filter test v.calls) c.drop_call.ensures ∙ once ∙ c.loop-call.invariant.0, ap (λ (v : CallList). v.spare) c.drop_call.ensures ∙ c.loop-call.invariant.1)

pub returns : goal.returns
returns c =
    let test : PendingCall → _ = λ d. not (nat_eq d.target.0 c.args.target.0) in
    let none = among_all (λ (d : PendingCall). nat_eq d.target.0 c.args.target.0 ≡ false) c.loop-call.self.calls c.in_default.ensures.call in
    let whole = filter_whole test c.loop-call.self.calls (λ d m. ap not (none d m)) in
    let calls = sym whole ∙ c.loop-call.invariant.0 in
    let left = c.loop-call.invariant.1 in
    λ j. record { calls = calls j; spare = left j }
