-- What the objects over the system show: their counts, and of readers and writers whose bytes are known those bytes.
use Rattle.std.specs.Prelude.{ℕ, List, Option}
use Rattle.std.specs.declared.io.traits.Read as read
use Rattle.std.specs.declared.io.traits.Write as write
use Rattle.cc_world.specs.Shelf.{Missed}
use Rattle.cc_world.specs.declared.system.DirShelf.{DirShelf}
use Rattle.cc_world.specs.declared.system.RealClock.{RealClock}
use Rattle.cc_world.specs.declared.streams.StdSink.{StdSink}
use Rattle.cc_world.specs.declared.streams.StdSource.{StdSource}
use Rattle.cc_world.specs.Told.{told_if}

-- how often a source has failed
abbrev pub source_faults : {R : Type 0} {G : read.Ghosts R} → StdSource R G → ℕ
source_faults s = s.faults

-- the bytes that a source has left, where it tells them
abbrev pub source_left : {R : Type 0} {G : read.Ghosts R} → StdSource R G → Option (List ℕ)
source_left {R} {G} s = told_if s.tells (G.remaining s.reader)

-- how often a sink has failed
abbrev pub sink_faults : {W : Type 0} {G : write.Ghosts W} → StdSink W G → ℕ
sink_faults s = s.faults

-- the bytes that a sink holds, where it tells them
abbrev pub sink_held : {W : Type 0} {G : write.Ghosts W} → StdSink W G → Option (List ℕ)
sink_held {W} {G} s = told_if s.tells (G.contents s.writer)

-- the calls of a shelf that failed
abbrev pub shelf_failed : {R : Type 0} → DirShelf R → List Missed
shelf_failed s = s.failed.items

-- the latest answer of a clock, 0 before the first
abbrev pub latest_answer : {R : Type 0} → RealClock R → ℕ
latest_answer c = c.latest
