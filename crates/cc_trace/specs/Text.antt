-- The text of a journal: a line for each event, in their order.
use Rattle.std.specs.Prelude.{◌≡◌, ◌≢◌, ◌+◌, ◌<◌, ◌^◌, ℕ, List, [], ◌∷◌, ◌++◌, length, decimal, codes, Result, Ok, Err}
use Rattle.std.specs.List.{AllByRecursion, flat_map}
use Rattle.cc_rules.specs.Lists.{EventList}
use Rattle.cc_rules.specs.declared.event.Event.{Event}
use Rattle.cc_rules.specs.declared.event.Event.TheVariants.{Ask, Accept, Instant, Expire, Withdraw, Time, End}
use Rattle.cc_rules.specs.declared.event.Word.{Word}
use Rattle.cc_rules.specs.declared.event.Word.TheVariants as word
use Rattle.cc_trace.specs.declared.fault.TraceError.{TraceError}
use Rattle.cc_trace.specs.declared.fault.TraceError.TheVariants as fault

-- the name of a request
abbrev pub word_name : Word → List ℕ
word_name word.Pause = codes "pause"
word_name word.Create = codes "create"
word_name word.Call = codes "call"
word_name word.TimedCall = codes "timedcall"
word_name word.Send = codes "send"
word_name word.Select = codes "select"
word_name word.Delay = codes "delay"
word_name word.Reply = codes "reply"
word_name word.Print = codes "print"
word_name word.Get = codes "get"
word_name word.Done = codes "done"
word_name word.Fault = codes "fault"

-- the fields of an event: its name, and what it says
abbrev pub fields : Event → List ℕ × List (List ℕ)
fields (Ask pid word) = (codes "ask", decimal pid.0 ∷ word_name word ∷ [])
fields (Accept pid alt call) = (codes "accept", decimal pid.0 ∷ decimal alt ∷ decimal call.0 ∷ [])
fields (Instant pid alt) = (codes "instant", decimal pid.0 ∷ decimal alt ∷ [])
fields (Expire pid alt) = (codes "expire", decimal pid.0 ∷ decimal alt ∷ [])
fields (Withdraw call) = (codes "withdraw", decimal call.0 ∷ [])
fields (Time moment) = (codes "time", decimal moment ∷ [])
fields End = (codes "end", [])

-- each field after one space (32), and then a newline (10)
abbrev pub spaced : List (List ℕ) → List ℕ
spaced [] = 10 ∷ []
spaced (field ∷ fields) = 32 ∷ field ++ spaced fields

-- the line of an event
abbrev pub line : Event → List ℕ
line event = (fields event).0 ++ spaced (fields event).1

-- the text of a journal
abbrev pub journal_text : List Event → List ℕ
journal_text events = flat_map line events

-- the numbers of an event are within their bounds: those of a moment below 2^64, all others below 2^32
abbrev pub IsWithinBounds : Event → Type 0
IsWithinBounds (Ask pid word) = pid.0 < 2 ^ 32
IsWithinBounds (Accept pid alt call) = (pid.0 < 2 ^ 32) × (alt < 2 ^ 32) × (call.0 < 2 ^ 32)
IsWithinBounds (Instant pid alt) = (pid.0 < 2 ^ 32) × (alt < 2 ^ 32)
IsWithinBounds (Expire pid alt) = (pid.0 < 2 ^ 32) × (alt < 2 ^ 32)
IsWithinBounds (Withdraw call) = call.0 < 2 ^ 32
IsWithinBounds (Time moment) = moment < 2 ^ 64
IsWithinBounds End = Unit {0}

-- the text of these events, whose numbers are within their bounds
pub record IsTextOf (bytes : List ℕ) (events : List Event) : Type 0 where
  pub within_bounds : AllByRecursion IsWithinBounds events
  pub text : bytes ≡ journal_text events

-- The n-th line, from 1, is the first that is no event's: the lines before it are the text of events, and what is left,
-- which is not empty, begins with the line of no event within the bounds.
pub record FirstBadLine (bytes : List ℕ) (n : ℕ) : Type 0 where
  pub before : List Event
  pub rest : List ℕ
  pub within_bounds : AllByRecursion IsWithinBounds before
  pub text : bytes ≡ journal_text before ++ rest
  pub number : n ≡ length before + 1
  pub is_there : rest ≢ []
  pub no_line : (event : Event) (more : List ℕ) → IsWithinBounds event → rest ≢ line event ++ more

-- the answer is the journal of these events, or that memory ran out
abbrev pub IsJournalOrMemory : List Event → Result EventList TraceError → Type 0
IsJournalOrMemory events (Ok journal) = journal.items ≡ events
IsJournalOrMemory events (Err (fault.BadLine n)) = ⊥
IsJournalOrMemory events (Err fault.Memory) = Unit {0}

-- the answer is that this line is bad, or that memory ran out
abbrev pub IsBadLineOrMemory : ℕ → Result EventList TraceError → Type 0
IsBadLineOrMemory n (Ok journal) = ⊥
IsBadLineOrMemory n (Err (fault.BadLine line)) = line ≡ n
IsBadLineOrMemory n (Err fault.Memory) = Unit {0}

-- where the answer is that a line is bad, it is the first that is
abbrev pub IsFirstWhereBad : List ℕ → TraceError → Type 0
IsFirstWhereBad text (fault.BadLine n) = FirstBadLine text n
IsFirstWhereBad text fault.Memory = Unit {0}
