use Rattle.std.proofs.Common.{◌≡◌, ◌∙◌, ap, sym, arith, [], take}
use Rattle.std.proofs.lemmas.List.{take_all}
use Rattle.cc_faults.proofs.Judged.{after-nil}
use Rattle.cc_faults.specs.Faults.{noted}
use Rattle.cc_faults.specs.Judged.{each_after, faults}
use Rattle.cc_faults.specs.Programs.{and_transaction, transaction}
use Rattle.cc_faults.specs.Scopes.{is_among}
use Rattle.cc_types.proofs.Makings.{start-makes, start-noted, transactions-made}
use Rattle.cc_types.proofs.Passings.{names-more, transactions-more, transactions-noted}
use Rattle.cc_types.specs.Passing.{and_made}
use Rattle.cc_types.proofs.checker.Checker.transactions.Goals as goal

pub loop-transaction-init : goal.loop-transaction-init
loop-transaction-init c =
    let f = transaction c.args.kind c.args.self.now.scope in
    record {
      names = λ x. ap (λ us. is_among us x) (c.new-names.ensures.empty ∙ sym (after-nil and_transaction []));
      made = λ ds e. start-makes f and_transaction [] and_made c.args.made.now ds e;
      so_far = start-noted f and_transaction [] c.args.least.now;
    }

pub loop-transaction-preserved : goal.loop-transaction-preserved
loop-transaction-preserved c =
    let k = c.args.kind in
    let s = c.args.self.now.scope in
    let all = c.args.all.now in
    let i = c.loop-transaction.transaction-index in
    let d = c.transaction-item.result in
    let lt = c.loop-transaction-test.true in
    let is = c.transaction-item.is in
    let before = c.loop-transaction.invariant in
    record {
      names = names-more k s all i d c.loop-transaction.names c.transaction.new.names lt is before.names c.in_ok-transaction.ensures.names;
      made = transactions-more k s all i d c.loop-transaction.names c.transaction.new.names c.args.made.now c.loop-transaction.made c.transaction.new.made lt is before.names before.made c.in_ok-transaction.ensures.made;
      so_far = transactions-noted k s all i d c.loop-transaction.names c.transaction.new.names c.args.least.now c.loop-transaction.least c.transaction.new.least lt is before.names before.so_far c.in_ok-transaction.ensures.noted;
    }

pub returns-clause-made : goal.returns-clause-made
returns-clause-made c = λ ds good.
    let f = transaction c.args.kind c.args.self.now.scope in
    let all = c.args.all.now in
    let whole : take c.loop-transaction.transaction-index all ≡ all = take_all c.loop-transaction.transaction-index all (omega (arith, c.loop-transaction-test.false)) in
    c.loop-transaction.invariant.made ds (ap (each_after f and_transaction []) whole ∙ good) ∙ transactions-made c.args.made.now ds

pub returns-clause-noted : goal.returns-clause-noted
returns-clause-noted c =
    let f = transaction c.args.kind c.args.self.now.scope in
    let all = c.args.all.now in
    let whole : take c.loop-transaction.transaction-index all ≡ all = take_all c.loop-transaction.transaction-index all (omega (arith, c.loop-transaction-test.false)) in
    c.loop-transaction.invariant.so_far ∙ ap (λ ds. noted c.args.least.now (faults (each_after f and_transaction [] ds))) whole
