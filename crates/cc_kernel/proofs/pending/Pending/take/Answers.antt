use Rattle.std.specs.HashMap.{get}
use Rattle.std.specs.Option.{option_map}
use Rattle.std.proofs.Common.{ap, sym, ◌∙◌, not, nat_eq, Bool, List, Some}
use Rattle.cc_kernel.proofs.Asked.{asked-less, asked-numbered, filter-map, queued-number}
use Rattle.cc_kernel.specs.Asked.{asked_call, who_waits}
use Rattle.cc_kernel.specs.Lists.{CallList}
use Rattle.cc_rules.specs.declared.process.TransactionCall.{TransactionCall}
use Rattle.cc_rules.specs.declared.process.Waiting.{Waiting}
use Rattle.cc_kernel.proofs.pending.Pending.take.Goals as goal

pub returns-in_default-clause-call : goal.returns-in_default-clause-call
returns-in_default-clause-call c =
    let k = c.self.inside in
    rw (← c.self.view_is)
    (sym (asked-numbered (get nat_eq k.waiters) k.queues.calls c.args.number.0 ∙ ap (option_map (asked_call (get nat_eq k.waiters))) (sym c.take.ensures.call ∙ c.in_default.is)))

pub returns-in_default-clause-others : goal.returns-in_default-clause-others
returns-in_default-clause-others c =
    let k = c.self.inside in
    let other : TransactionCall → Bool = λ call. not (nat_eq call.number.0 c.args.number.0) in
    let F : List TransactionCall → CallList = λ calls. record { items = calls; spare = k.queues.spare } in
    rw (c.take.ensures.others, ← c.self.view_is) (ap F (sym (filter-map (asked_call (get nat_eq k.waiters)) other k.queues.calls)))

pub returns-clause-call : goal.returns-clause-call
returns-clause-call c =
    let k = c.self.inside in
    let call = c.in-Some.call in
    let found = sym c.take.ensures.call ∙ c.in-Some.is in
    let F : Waiting → TransactionCall = λ waiting. record { number = call.number; target = call.target; trans = call.trans; args = call.args; waiting = waiting } in
    rw (← c.self.view_is)
    (ap (λ w. Some (F w)) (c.forget-waiting.ensures.waiting ∙ ap (λ n. who_waits (get nat_eq k.waiters n)) (sym (queued-number k.queues.calls c.args.number.0 call found)))
    ∙ sym (asked-numbered (get nat_eq k.waiters) k.queues.calls c.args.number.0 ∙ ap (option_map (asked_call (get nat_eq k.waiters))) found))

pub returns-clause-others : goal.returns-clause-others
returns-clause-others c =
    let k = c.self.inside in
    let F : List TransactionCall → CallList = λ calls. record { items = calls; spare = k.queues.spare } in
    rw (c.take.ensures.others, ← c.self.view_is)
    (ap F (asked-less (get nat_eq k.waiters) (get nat_eq c.forget-waiting.new.waiters) c.args.number.0 c.forget-waiting.ensures.at k.queues.calls))
