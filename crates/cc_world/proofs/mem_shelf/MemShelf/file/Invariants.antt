use Rattle.std.proofs.Common.{◌≡◌}
use Rattle.std.specs.Ordering.{nat_cmp}
use Rattle.std.specs.Cmp.Lexicographic.{slice_cmp}
use Rattle.std.specs.FinMap.{get, find}
use Rattle.std.specs.VecDeque.Iter.{deque_iter_rest}
use Rattle.cc_world.specs.MemShelf.{files_of}
use Rattle.cc_world.proofs.mem_shelf.MemShelf.file.Given as goal

abbrev pub invariant-loop-entry : goal.invariant-loop-entry
invariant-loop-entry l = get (files_of l.self) l.name ≡ find (slice_cmp nat_cmp) l.name (deque_iter_rest l.entry-iterator)
