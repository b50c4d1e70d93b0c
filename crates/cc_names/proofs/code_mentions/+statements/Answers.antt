use Rattle.std.proofs.Common.{refl, sym, append_assoc, arith}
use Rattle.cc_names.specs.Mentions.{in_choice, in_entry, in_list, in_optional_expression}
use Rattle.cc_names.specs.Seen.{in_all_alternatives, in_alternative}
use Rattle.cc_names.proofs.Walks.{seen-end, seen-more}
use Rattle.cc_names.proofs.code_mentions.+statements.Goals as goal

pub see_entries-loop-entry-preserved : goal.see_entries-loop-entry-preserved
see_entries-loop-entry-preserved t c =
    seen-more in_entry in_list (λ a rest. refl) c.loop-entry.numbers c.see_entry.new.numbers _ c.args.all.now c.loop-entry.entry-index c.entry-item.result
    c.loop-entry-test.true c.entry-item.is c.in_ok-see_entry.ensures c.loop-entry.invariant

pub see_entries-returns : goal.see_entries-returns
see_entries-returns t c =
    seen-end in_entry in_list refl c.loop-entry.numbers _ c.args.all.now c.loop-entry.entry-index (omega (arith, c.loop-entry-test.false)) c.loop-entry.invariant

pub see_alternatives-loop-a-preserved : goal.see_alternatives-loop-a-preserved
see_alternatives-loop-a-preserved t c =
    seen-more in_alternative in_all_alternatives (λ a rest. sym (append_assoc (in_optional_expression a.guard) (in_choice a.choice) (in_all_alternatives rest))) c.loop-a.numbers c.see_alternative.new.numbers _ c.args.all.now c.loop-a.a-index c.a-item.result
    c.loop-a-test.true c.a-item.is c.in_ok-see_alternative.ensures c.loop-a.invariant

pub see_alternatives-returns : goal.see_alternatives-returns
see_alternatives-returns t c =
    seen-end in_alternative in_all_alternatives refl c.loop-a.numbers _ c.args.all.now c.loop-a.a-index (omega (arith, c.loop-a-test.false)) c.loop-a.invariant
