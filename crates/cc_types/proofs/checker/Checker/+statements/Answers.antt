use Rattle.std.proofs.Common.{◌<◌, length, ap, sym, ◌∙◌, arith}
use Rattle.cc_faults.proofs.Judged.{loop-after, loop-answer_after, loop-noted_after}
use Rattle.cc_faults.specs.Faults.{noted}
use Rattle.cc_faults.specs.Judged.{answer, faults}
use Rattle.cc_faults.specs.Statements.{after, judged}
use Rattle.cc_faults.specs.Scopes.{left}
use Rattle.cc_declared.specs.Undone.{undone}
use Rattle.cc_types.proofs.Judging.{accept-noted, accept-scope, accept-value, alternative-noted, alternative-scope, alternative-value, left-behind}
use Rattle.cc_types.specs.Judging.{after_alternative, alternative_judged, round_block}
use Rattle.cc_types.proofs.checker.Checker.+statements.Goals as goal

pub entries-loop-s-preserved : goal.entries-loop-s-preserved
entries-loop-s-preserved t c =
    let text = c.args.self.now.text in
    let w = c.args.around in
    let now = c.loop-s.self.scope in
    let same = c.loop-s.invariant.text in
    let x = c.s-item.result in
    let lt : c.loop-s.s-index < length c.args.all.now = omega arith in
    record {
      value = loop-answer_after (judged text w) (after text w) c.args.self.now.scope now c.args.all.now c.loop-s.s-index x c.loop-s.done c.in_ok-done.done c.in_ok-one.one lt c.s-item.is c.loop-s.invariant.after c.loop-s.invariant.value (c.in_ok-one.ensures.value ∙ ap (λ u. answer (judged u w now x)) same) c.in_ok-done.ensures.put;
      so_far = loop-noted_after (judged text w) (after text w) c.args.self.now.scope now c.args.all.now c.loop-s.s-index x c.args.least.now c.loop-s.least c.statement.new.least lt c.s-item.is c.loop-s.invariant.after c.loop-s.invariant.so_far (c.in_ok-one.ensures.noted ∙ ap (λ u. noted c.loop-s.least (faults (judged u w now x))) same);
      after = loop-after (after text w) c.args.self.now.scope now c.args.all.now c.loop-s.s-index x lt c.s-item.is c.loop-s.invariant.after ∙ sym (c.in_ok-one.ensures.after ∙ ap (λ u. after u w now x) same);
      names = c.in_ok-one.ensures.names ∙ c.loop-s.invariant.names;
      text = c.statement.ensures.text ∙ same;
    }

pub alternatives-loop-a-preserved : goal.alternatives-loop-a-preserved
alternatives-loop-a-preserved t c =
    let text = c.args.self.now.text in
    let w = c.args.around in
    let now = c.loop-a.self.scope in
    let same = c.loop-a.invariant.text in
    let x = c.a-item.result in
    let lt : c.loop-a.a-index < length c.args.all.now = omega arith in
    record {
      value = loop-answer_after (alternative_judged text w) (after_alternative text w) c.args.self.now.scope now c.args.all.now c.loop-a.a-index x c.loop-a.done c.in_ok-done.done c.in_ok-one.one lt c.a-item.is c.loop-a.invariant.after c.loop-a.invariant.value (c.in_ok-one.ensures.value ∙ ap (λ u. answer (alternative_judged u w now x)) same) c.in_ok-done.ensures.put;
      so_far = loop-noted_after (alternative_judged text w) (after_alternative text w) c.args.self.now.scope now c.args.all.now c.loop-a.a-index x c.args.least.now c.loop-a.least c.alternative.new.least lt c.a-item.is c.loop-a.invariant.after c.loop-a.invariant.so_far (c.in_ok-one.ensures.noted ∙ ap (λ u. noted c.loop-a.least (faults (alternative_judged u w now x))) same);
      after = loop-after (after_alternative text w) c.args.self.now.scope now c.args.all.now c.loop-a.a-index x lt c.a-item.is c.loop-a.invariant.after ∙ sym (c.in_ok-one.ensures.after ∙ ap (λ u. after_alternative u w now x) same);
      names = c.in_ok-one.ensures.names ∙ c.loop-a.invariant.names;
      text = c.alternative.ensures.text ∙ same;
    }

pub block-returns-clause-after : goal.block-returns-clause-after
block-returns-clause-after t c =
    left-behind c.args.self.now.scope c.entries.new.self.scope c.restore.new.self.scope c.entries.new.hidden (c.in_ok-done.ensures.names ∙ ap (λ hs. undone hs c.args.self.now.scope.names) c.new-hidden.ensures) c.restore.ensures.scope
    ∙ ap (left c.args.self.now.scope) c.in_ok-done.ensures.after

pub accept-returns-clause-value : goal.accept-returns-clause-value
accept-returns-clause-value t c =
    accept-value c.args.self.now.text c.head.new.self.text c.args.around c.in_ok-inner.inner c.args.self.now.scope c.head.new.self.scope c.args.part.now c.as_slice.result.now c.in_ok-site.site c.in_ok-head.head c.in_ok-block.block c.part_made.result c.head.ensures.text (c.in_ok-inner.ensures.round ∙ ap (λ u. round_block u c.args.around c.args.part.now.head) c.head.ensures.text) c.in_ok-head.ensures.after c.as_slice.ensures c.in_ok-site.ensures.next c.in_ok-head.ensures.value c.in_ok-block.ensures.value c.part_made.ensures.part

pub accept-returns-clause-noted : goal.accept-returns-clause-noted
accept-returns-clause-noted t c =
    accept-noted c.args.self.now.text c.head.new.self.text c.args.around c.in_ok-inner.inner c.args.self.now.scope c.head.new.self.scope c.args.part.now c.as_slice.result.now c.args.least.now c.head.new.least c.block.new.least c.head.ensures.text (c.in_ok-inner.ensures.round ∙ ap (λ u. round_block u c.args.around c.args.part.now.head) c.head.ensures.text) c.in_ok-head.ensures.after c.as_slice.ensures c.in_ok-head.ensures.noted c.in_ok-block.ensures.noted

pub accept-returns-clause-after : goal.accept-returns-clause-after
accept-returns-clause-after t c =
    accept-scope c.args.self.now.text c.head.new.self.text c.args.around c.in_ok-inner.inner c.args.self.now.scope c.head.new.self.scope c.args.part.now c.as_slice.result.now c.block.new.self.scope c.restore.new.self.scope c.head.new.hidden c.head.ensures.text (c.in_ok-inner.ensures.round ∙ ap (λ u. round_block u c.args.around c.args.part.now.head) c.head.ensures.text) c.in_ok-head.ensures.after c.as_slice.ensures (c.in_ok-head.ensures.names ∙ ap (λ hs. undone hs c.args.self.now.scope.names) c.new-hidden.ensures) c.in_ok-block.ensures.after c.restore.ensures.scope

pub alternative-returns-clause-value : goal.alternative-returns-clause-value
alternative-returns-clause-value t c =
    alternative-value c.args.self.now.text c.offered.new.self.text c.args.around c.in_ok-inner.inner c.args.self.now.scope c.offered.new.self.scope c.args.a.now c.as_slice.result.now c.in_ok-offered.offered c.in_ok-entries.entries c.alternative_made.result c.offered.ensures.text c.in_ok-inner.ensures.deeper c.in_ok-offered.ensures.after c.as_slice.ensures c.in_ok-offered.ensures.value c.in_ok-entries.ensures.value c.alternative_made.ensures.alternative

pub alternative-returns-clause-noted : goal.alternative-returns-clause-noted
alternative-returns-clause-noted t c =
    alternative-noted c.args.self.now.text c.offered.new.self.text c.args.around c.in_ok-inner.inner c.args.self.now.scope c.offered.new.self.scope c.args.a.now c.as_slice.result.now c.args.least.now c.offered.new.least c.block.new.least c.offered.ensures.text c.in_ok-inner.ensures.deeper c.in_ok-offered.ensures.after c.as_slice.ensures c.in_ok-offered.ensures.noted c.in_ok-entries.ensures.noted

pub alternative-returns-clause-after : goal.alternative-returns-clause-after
alternative-returns-clause-after t c =
    alternative-scope c.args.self.now.text c.offered.new.self.text c.args.around c.in_ok-inner.inner c.args.self.now.scope c.offered.new.self.scope c.args.a.now c.as_slice.result.now c.block.new.self.scope c.offered.ensures.text c.in_ok-inner.ensures.deeper c.in_ok-offered.ensures.after c.as_slice.ensures c.in_ok-offered.ensures.names c.in_ok-entries.ensures.after
