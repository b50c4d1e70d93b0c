use Rattle.std.proofs.Common.{ap, ◌∙◌}
use Rattle.cc_faults.specs.Faults.{noted}
use Rattle.cc_faults.specs.Judged.{answer, answer_map, answer_pair, faults, second}
use Rattle.cc_rows.specs.Accepts.{types_in}
use Rattle.cc_types.proofs.Naming.{accepted-fault, accepted-scope, accepted-value}
use Rattle.cc_types.specs.Judging.{nothing}
use Rattle.cc_types.specs.Naming.{after_naming, naming, transaction_in_body}
use Rattle.cc_types.proofs.checker.Checker.accepted.Goals as goal

pub returns-clause-value : goal.returns-clause-value
returns-clause-value c =
    let s = c.args.self.now.scope in
    let ts = types_in c.types_accepted-types.result in
    let inner = c.in_ok-within.within.scope in
    let here = c.transaction_in_body-found.ensures ∙ ap (λ t. transaction_in_body t c.args.around.role c.args.a.now.name) c.text.ensures.text in
    let names = c.in_ok-names.ensures.value ∙ ap (λ xs. answer_map nothing (answer (naming inner ts 0 s xs))) c.as_slice.ensures in
    c.kept.ensures.kept
    ∙ ap (λ b. answer_map second (answer_pair c.in_ok-names.names b)) c.number_and_count.ensures
    ∙ accepted-value c.args.self.now.text c.args.around s c.args.a.now _ c.len-count.result inner ts _ c.in_ok-names.names here c.len-count.ensures (ap (λ w. w.scope) c.in_ok-within.ensures.deeper) c.types_accepted-types.ensures.types c.accepted-transaction.ensures.value names

pub returns-clause-noted : goal.returns-clause-noted
returns-clause-noted c =
    let s = c.args.self.now.scope in
    let ts = types_in c.types_accepted-types.result in
    let inner = c.in_ok-within.within.scope in
    let here = c.transaction_in_body-found.ensures ∙ ap (λ t. transaction_in_body t c.args.around.role c.args.a.now.name) c.text.ensures.text in
    let names = c.in_ok-names.ensures.noted ∙ ap (λ xs. noted c.accepted-transaction.new.least (faults (naming inner ts 0 s xs))) c.as_slice.ensures in
    accepted-fault c.args.self.now.text c.args.around s c.args.a.now _ c.len-count.result inner ts c.args.least.now c.accepted-transaction.new.least _ here c.len-count.ensures (ap (λ w. w.scope) c.in_ok-within.ensures.deeper) c.types_accepted-types.ensures.types c.accepted-transaction.ensures.noted names

pub returns-clause-after : goal.returns-clause-after
returns-clause-after c =
    let s = c.args.self.now.scope in
    let ts = types_in c.types_accepted-types.result in
    let inner = c.in_ok-within.within.scope in
    let here = c.transaction_in_body-found.ensures ∙ ap (λ t. transaction_in_body t c.args.around.role c.args.a.now.name) c.text.ensures.text in
    let names = c.in_ok-names.ensures.after ∙ ap (λ xs. after_naming inner ts 0 s xs) c.as_slice.ensures in
    accepted-scope c.args.self.now.text c.args.around s c.args.a.now _ c.len-count.result inner ts _ here c.len-count.ensures (ap (λ w. w.scope) c.in_ok-within.ensures.deeper) c.types_accepted-types.ensures.types names
