-- How the lines of a journal are read from the front of a text.
use Rattle.std.specs.Prelude.{◌-◌, ◌+◌, ◌*◌, ℕ, ◌&&◌, ◌==◌, nat_lt, nat_le, if◌then◌else◌, List, [], ◌∷◌, map, Option, Some, None, codes}
use Rattle.std.specs.Char.{is_ascii_digit}
use denote.Ref.{Bor}
use Rattle.cc_rules.specs.declared.event.Event.{Event}
use Rattle.cc_rules.specs.declared.event.Event.TheVariants.{Ask, Accept, Instant, Expire, Withdraw, Time, End}
use Rattle.cc_rules.specs.declared.event.Word.{Word}
use Rattle.cc_rules.specs.declared.event.Word.TheVariants as word
use Rattle.cc_trace.specs.declared.names.Name.{Name}
use Rattle.cc_trace.specs.declared.names.Name.TheVariants as name

-- what stands at the front of a text, and the text after it
abbrev pub Read : Type 0 → Type 0
Read A = Option (A × List ℕ)

infixl 10 ◌>>=◌
abbrev pub ◌>>=◌ : {A B : Type 0} → Option A → (A → Option B) → Option B
None >>= f = None
(Some x) >>= f = f x

-- Digits after those of n, up to the byte that ends them. No digit stands after a 0 at the front.
abbrev pub digits_after : (most end n : ℕ) → List ℕ → Read ℕ
digits_after most end n [] = None
digits_after most end n (b ∷ bytes) =
    if b == end then Some (n, bytes) else
    if is_ascii_digit b && nat_lt 0 n && nat_le (n * 10 + (b - 48)) most then digits_after most end (n * 10 + (b - 48)) bytes else None

-- a number of at most this much, and the byte that ends it
abbrev pub number_at : (most end : ℕ) → List ℕ → Read ℕ
number_at most end [] = None
number_at most end (b ∷ bytes) = if is_ascii_digit b then digits_after most end (b - 48) bytes else None

-- what follows a name
abbrev pub after_name : List ℕ → List ℕ → Option (List ℕ)
after_name [] text = Some text
after_name (c ∷ name) [] = None
after_name (c ∷ name) (b ∷ text) = if c == b then after_name name text else None

abbrev pub or_else : {A : Type 0} → A → Option (List ℕ) → Read A → Read A
or_else item (Some rest) next = Some (item, rest)
or_else item None next = next

-- the first row of a table whose name stands at the front
abbrev pub row_at : {A : Type 0} → List (List ℕ × A) → List ℕ → Read A
row_at [] text = None
row_at (row ∷ rows) text = or_else row.1 (after_name row.0 text) (row_at rows text)

-- the rows of a table of the code
abbrev pub rows : {A : Type 0} → List (Bor (List ℕ) × A) → List (List ℕ × A)
rows table = map (λ row. (row.0.now, row.1)) table

-- the names at the front of a line, each with the byte after it
abbrev pub names : List (List ℕ × Name)
names =
    (codes "ask ", name.Ask) ∷
    (codes "accept ", name.Accept) ∷
    (codes "instant ", name.Instant) ∷
    (codes "expire ", name.Expire) ∷
    (codes "withdraw ", name.Withdraw) ∷
    (codes "time ", name.Time) ∷
    (codes "end\n", name.End) ∷
    []

-- the words at the end of a line
abbrev pub words : List (List ℕ × Word)
words =
    (codes "pause\n", word.Pause) ∷
    (codes "create\n", word.Create) ∷
    (codes "call\n", word.Call) ∷
    (codes "timedcall\n", word.TimedCall) ∷
    (codes "send\n", word.Send) ∷
    (codes "select\n", word.Select) ∷
    (codes "delay\n", word.Delay) ∷
    (codes "reply\n", word.Reply) ∷
    (codes "print\n", word.Print) ∷
    (codes "get\n", word.Get) ∷
    (codes "done\n", word.Done) ∷
    (codes "fault\n", word.Fault) ∷
    []

-- the number of a process, an alternative or a call
abbrev pub small_at : ℕ → List ℕ → Read ℕ
small_at end text = number_at 4294967295 end text

unfoldable pub ask_at : List ℕ → Read Event
ask_at text = do
  pid ← small_at 32 text
  word ← row_at words pid.1
  Some (Ask (record { 0 = pid.0 }) word.0, word.1)

unfoldable pub accept_at : List ℕ → Read Event
accept_at text = do
  pid ← small_at 32 text
  alt ← small_at 32 pid.1
  call ← small_at 10 alt.1
  Some (Accept (record { 0 = pid.0 }) alt.0 (record { 0 = call.0 }), call.1)

unfoldable pub instant_at : List ℕ → Read Event
instant_at text = do
  pid ← small_at 32 text
  alt ← small_at 10 pid.1
  Some (Instant (record { 0 = pid.0 }) alt.0, alt.1)

unfoldable pub expire_at : List ℕ → Read Event
expire_at text = do
  pid ← small_at 32 text
  alt ← small_at 10 pid.1
  Some (Expire (record { 0 = pid.0 }) alt.0, alt.1)

unfoldable pub withdraw_at : List ℕ → Read Event
withdraw_at text = do
  call ← small_at 10 text
  Some (Withdraw (record { 0 = call.0 }), call.1)

unfoldable pub time_at : List ℕ → Read Event
time_at text = do
  moment ← number_at 18446744073709551615 10 text
  Some (Time moment.0, moment.1)

-- what stands after the name
abbrev pub after_name_at : Name → List ℕ → Read Event
after_name_at name.Ask text = ask_at text
after_name_at name.Accept text = accept_at text
after_name_at name.Instant text = instant_at text
after_name_at name.Expire text = expire_at text
after_name_at name.Withdraw text = withdraw_at text
after_name_at name.Time text = time_at text
after_name_at name.End text = Some (End, text)

-- the line of an event
unfoldable pub event_at : List ℕ → Read Event
event_at text = do
  name ← row_at names text
  after_name_at name.0 name.1
