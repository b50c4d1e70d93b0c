-- What a source in memory shows.
use Rattle.std.specs.Prelude.{ℕ, List, drop}
use Rattle.cc_world.specs.declared.calls.Calls.{Calls}
use Rattle.cc_world.specs.declared.memory.MemSource.{MemSource}

-- the bytes that are left
abbrev pub bytes_left : MemSource → List ℕ
bytes_left s = drop s.at s.bytes

-- how often it has failed
abbrev pub faults_of : MemSource → ℕ
faults_of s = s.faults

-- how many bytes it gives at most in a call
abbrev pub piece_of : MemSource → ℕ
piece_of s = s.piece

-- its calls so far, and those that are to fail
abbrev pub calls_of : MemSource → Calls
calls_of s = s.calls
