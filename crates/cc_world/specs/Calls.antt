-- The calls of an object in memory, some of which are to fail.
use Rattle.std.specs.Prelude.{◌+◌, ◌-◌, ◌^◌, ℕ, ℤ, List, min, pos, Contains}
use Rattle.cc_world.specs.declared.calls.Calls.{Calls}

-- these are to fail, and none was made
abbrev pub none_made : List ℤ → Calls
none_made failing = record { failing = failing; made = 0 }

-- the number of the next call, from 1; it stays at the last number of a u64
abbrev pub next_number : Calls → ℕ
next_number calls = min (calls.made + 1) (2 ^ 64 - 1)

-- the next call is one of those that are to fail
abbrev pub FailsNext : Calls → Type 0
FailsNext calls = Contains calls.failing (pos (next_number calls))

-- after one call more
abbrev pub counted : Calls → Calls
counted calls = record calls { made = next_number calls }
