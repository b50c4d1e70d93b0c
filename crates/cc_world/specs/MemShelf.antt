-- What a shelf in memory shows.
use Rattle.std.specs.Prelude.{List}
use Rattle.std.specs.FinMap as map
use Rattle.cc_world.specs.Shelf.{Files, Missed}
use Rattle.cc_world.specs.declared.calls.Calls.{Calls}
use Rattle.cc_world.specs.declared.mem_shelf.MemShelf.{MemShelf}

-- what each file holds: the first entry of its name
abbrev pub files_of : MemShelf → Files
files_of s = map.from_entries s.entries.items

-- the calls that failed
abbrev pub failed_of : MemShelf → List Missed
failed_of s = s.failed.items

-- its calls so far, and those that are to fail
abbrev pub calls_of : MemShelf → Calls
calls_of s = s.calls
