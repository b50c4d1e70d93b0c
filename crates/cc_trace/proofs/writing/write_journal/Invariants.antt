use Rattle.std.proofs.Common.{◌≡◌, take}
use Rattle.std.specs.List.{AllByRecursion}
use Rattle.cc_trace.specs.Text.{IsWithinBounds, journal_text}
use Rattle.cc_trace.proofs.writing.write_journal.Given as goal

-- the lines of the events so far
abbrev pub invariant-loop-at : goal.invariant-loop-at
invariant-loop-at l = record {
  within_bounds : AllByRecursion IsWithinBounds (take l.at l.journal.items);
  text : l.text ≡ journal_text (take l.at l.journal.items);
}
