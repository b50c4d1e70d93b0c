-- What a clock tells that follows a script. It counts its answers and its rests, each up to the last number of 64 bits, and tells
-- nothing once one of the counts stands there.
use Rattle.std.specs.Prelude.{ℕ, zero, suc, ◌-◌, ◌<◌, min, Bool, ◌&&◌, if◌then◌else◌, nat_lt, List, [], ◌∷◌, ◌++◌, length, get_or, Option, Some, None}
use Rattle.cc_world.specs.declared.script_clock.ScriptClock.{ScriptClock}

-- the answer of this index, from 0: past the end of the script its last moment
abbrev pub answer_at : List ℕ → ℕ → ℕ
answer_at script n = get_or script (min n (length script - 1)) 0

-- the first n answers
abbrev pub first_answers : List ℕ → ℕ → List ℕ
first_answers script zero = []
first_answers script (suc n) = first_answers script n ++ answer_at script n ∷ []

-- the count does not stand at its last value
abbrev pub is_below_last : ℕ → Bool
is_below_last n = nat_lt n 18446744073709551615

abbrev pub is_telling : ScriptClock → Bool
is_telling c = is_below_last c.answers && is_below_last c.rests

-- its answers so far, and how often it was told to rest, while it tells them
abbrev pub answers_of : ScriptClock → Option (List ℕ)
answers_of c = if is_telling c then Some (first_answers c.script c.answers) else None

abbrev pub rests_of : ScriptClock → Option ℕ
rests_of c = if is_telling c then Some c.rests else None
