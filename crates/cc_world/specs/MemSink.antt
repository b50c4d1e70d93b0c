-- What a sink in memory shows.
use Rattle.std.specs.Prelude.{ℕ, List}
use Rattle.cc_world.specs.declared.calls.Calls.{Calls}
use Rattle.cc_world.specs.declared.memory.MemSink.{MemSink}

-- the bytes that it holds
abbrev pub bytes_held : MemSink → List ℕ
bytes_held s = s.bytes

-- how often it has failed
abbrev pub faults_of : MemSink → ℕ
faults_of s = s.faults

-- how often memory was wanting
abbrev pub wants_of : MemSink → ℕ
wants_of s = s.wants

-- how many bytes it takes at most in a call
abbrev pub piece_of : MemSink → ℕ
piece_of s = s.piece

-- its calls so far, and those that are to fail
abbrev pub calls_of : MemSink → Calls
calls_of s = s.calls
