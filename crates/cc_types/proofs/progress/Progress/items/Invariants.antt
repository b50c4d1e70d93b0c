use Rattle.std.proofs.Common.{◌≡◌, List, take}
use Rattle.cc_faults.specs.Faults.{noted}
use Rattle.cc_faults.specs.Judged.{Good, after_each, each_after, faults}
use Rattle.cc_faults.specs.Programs.{Passed, Piece, and_item, item_in}
use Rattle.cc_types.specs.Making.{with_piece}
use Rattle.cc_types.specs.Passing.{HasPassed}
use Rattle.cc_types.proofs.progress.Progress.items.Given as goal

abbrev pub invariant-loop-item : goal.invariant-loop-item
invariant-loop-item l =
    record {
      found : (b : Passed) → HasPassed l.all b l.fn.self
          → (l.least ≡ noted l.fn.least (faults (each_after (item_in l.fn.self.text l.all) (and_item l.fn.self.text) b (take l.item-index l.all))))
          × ((vs : List Piece) → each_after (item_in l.fn.self.text l.all) (and_item l.fn.self.text) b (take l.item-index l.all) ≡ Good vs → l.self.made ≡ after_each with_piece l.fn.self.made vs);
      passed : (b : Passed) → HasPassed l.all b l.fn.self → HasPassed l.all (after_each (and_item l.fn.self.text) b (take l.item-index l.all)) l.self;
      text : l.self.text ≡ l.fn.self.text;
    }
