-- What a process asks, and what comes of the grant that answers, as cells. A text's meaning and its code's are to have these
-- words in common.
use Rattle.std.specs.Prelude.{ℕ, ℤ, pos, negsuc, List, [], ◌∷◌, length, replicate, Option, Some, None, Result, Ok, Err}
use Rattle.cc_base.specs.Formats.{formatted}
use Rattle.cc_base.specs.Numbers.{byte_of, callee, number_of}
use Rattle.cc_base.specs.Outcome.{Eval, ◌>>=◌, ◌>>◌, pure, stop, ask}
use Rattle.cc_base.specs.declared.alternatives.Alt.{Alt}
use Rattle.cc_base.specs.declared.names.FaultKind.{FaultKind}
use Rattle.cc_base.specs.declared.names.FaultKind.TheVariants.{CalleeGone, NoAlternative}
use Rattle.cc_base.specs.declared.request.Grant.{Grant}
use Rattle.cc_base.specs.declared.request.Grant.TheVariants as grant
use Rattle.cc_base.specs.declared.request.Request.TheVariants as request

-- what arithmetic gives, or the request of its fault
abbrev pub or_fault : {S A : Type 0} → Result A FaultKind → Eval S A
or_fault (Ok a) = pure a
or_fault (Err kind) = stop (request.Fault kind)

-- the process that was made, as a number
abbrev pub process_made : Grant → ℤ
process_made (grant.Made p) = number_of p
process_made _ = pos 0

-- the next byte, or -1 at the end of the input
abbrev pub byte_got : Grant → ℤ
byte_got (grant.Byte (Some b)) = pos b
byte_got _ = negsuc 0

-- the cells with which a call was answered that gives this many; a Value's cells as they stand
abbrev pub call_cells : {S : Type 0} → ℕ → Grant → Eval S (List ℤ)
call_cells n (grant.Value cs) = pure cs
call_cells n grant.Gone = stop (request.Fault CalleeGone)
call_cells n _ = pure (replicate n (pos 0))

-- the same of a timed call; none where it was withdrawn
abbrev pub timed_cells : {S : Type 0} → ℕ → Grant → Eval S (Option (List ℤ))
timed_cells n grant.Late = pure None
timed_cells n (grant.Value cs) = pure (Some cs)
timed_cells n grant.Gone = stop (request.Fault CalleeGone)
timed_cells n _ = pure (Some (replicate n (pos 0)))

-- the arguments of the call that was taken
abbrev pub args_taken : Grant → List ℤ
args_taken (grant.Took alt args) = args
args_taken _ = []

-- the alternative that was taken or chosen
abbrev pub alternative_taken : Grant → ℕ
alternative_taken (grant.Took alt args) = alt
alternative_taken (grant.Chose alt) = alt
alternative_taken _ = 0

-- a new process of this kind with these arguments, as a number
abbrev pub create : {S : Type 0} → ℕ → List ℤ → Eval S ℤ
create kind args = ask (request.Create kind args) >>= (λ g. pure (process_made g))

-- a call of a transaction, which gives this many cells, of the process of this number
abbrev pub transact : {S : Type 0} → ℕ → ℕ → ℤ → List ℤ → Eval S (List ℤ)
transact trans cells process args =
    or_fault (callee process) >>= (λ target. ask (request.Call target trans args) >>= call_cells cells)

-- the same within so many milliseconds
abbrev pub transact_within : {S : Type 0} → ℕ → ℕ → ℤ → ℤ → List ℤ → Eval S (Option (List ℤ))
transact_within trans cells wait process args =
    or_fault (callee process) >>= (λ target. ask (request.TimedCall target trans args wait) >>= timed_cells cells)

-- an asynchronous call
abbrev pub send : {S : Type 0} → ℕ → ℤ → List ℤ → Eval S (Unit {0})
send trans process args = or_fault (callee process) >>= (λ target. ask (request.Send target trans args) >> pure tt)

-- one of these alternatives, which is a fault where none is open
abbrev pub select : {S : Type 0} → List (ℕ × Alt) → Eval S Grant
select [] = stop (request.Fault NoAlternative)
select (a ∷ alts) = ask (request.Select (a ∷ alts))

-- a wait of so many milliseconds
abbrev pub delay : {S : Type 0} → ℤ → Eval S (Unit {0})
delay wait = ask (request.Delay wait) >> pure tt

-- the answer to the innermost call that is served
abbrev pub reply : {S : Type 0} → List ℤ → Eval S (Unit {0})
reply value = ask (request.Reply value) >> pure tt

-- a number is printed as one byte, which is then the value
abbrev pub put_byte : {S : Type 0} → ℤ → Eval S ℤ
put_byte n = ask (request.Print (byte_of n ∷ [])) >> pure (pos (byte_of n))

-- the next byte of the input
abbrev pub get_byte : {S : Type 0} → Eval S ℤ
get_byte = ask request.Get >>= (λ g. pure (byte_got g))

-- a format is printed with these numbers; the value is how many bytes those are
abbrev pub print_format : {S : Type 0} → List ℕ → List ℤ → Eval S ℤ
print_format format numbers =
    ask (request.Print (formatted format numbers)) >> pure (pos (length (formatted format numbers)))
