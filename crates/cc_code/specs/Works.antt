-- What each instruction does with the cells that it takes.
use Rattle.std.specs.List.{list_all}
use Rattle.std.specs.Prelude.{ℕ, ◌+◌, ◌*◌, ◌^◌, ℤ, pos, negsuc, ◌+ℤ◌, int_lt, nat_eq, nat_le, nat_lt, Bool, if◌then◌else◌, List, [], ◌∷◌, ◌++◌, length, take, drop, replicate, get_or, slice_get, Option, Some, None, Result, Ok, Err}
use Rattle.cc_base.specs.Granted.{or_fault, create, transact, transact_within, send, select, delay, reply, put_byte, get_byte, print_format, args_taken, alternative_taken}
use Rattle.cc_base.specs.Numbers.{at_zero, compared, converted, indexed, logical_not, operated, opposite, truth, updated}
use Rattle.cc_base.specs.Outcome.{Eval, ◌>>=◌, ◌>>◌, pure, stop, set_variables, tick}
use Rattle.cc_base.specs.declared.alternatives.Alt.{Alt}
use Rattle.cc_base.specs.declared.alternatives.Alt.TheVariants as alt
use Rattle.cc_base.specs.declared.names.FaultKind.{FaultKind}
use Rattle.cc_base.specs.declared.names.FaultKind.TheVariants.{Index}
use Rattle.cc_base.specs.declared.numbers.Comparison.{Comparison}
use Rattle.cc_base.specs.declared.numbers.Comparison.TheVariants.{Less, AtMost, Greater, AtLeast, Equal, Different}
use Rattle.cc_base.specs.declared.numbers.NumberType.{NumberType}
use Rattle.cc_base.specs.declared.numbers.NumberType.TheVariants.{Int, Long}
use Rattle.cc_base.specs.declared.numbers.Operator.{Operator}
use Rattle.cc_base.specs.declared.numbers.Operator.TheVariants.{Add, Subtract, Multiply, Divide, Remainder}
use Rattle.cc_base.specs.declared.request.Grant.{Grant}
use Rattle.cc_base.specs.declared.request.Request.TheVariants.{Fault}
use Rattle.cc_code.specs.Operands.{format_at, shape_at}
use Rattle.cc_code.specs.declared.code.EnvironmentPart.{EnvironmentPart}
use Rattle.cc_code.specs.declared.code.RawCode.{RawCode}
use Rattle.cc_code.specs.declared.code.Site.{Site}
use Rattle.cc_code.specs.declared.code.TableEntry.{TableEntry}
use Rattle.cc_code.specs.declared.instr.Instr.{Instr}
use Rattle.cc_code.specs.declared.instr.Instr.TheVariants as instr

-- the variable cells of the part that runs, and the alternatives that the process has opened
pub record Store : Type 0 where
  pub cells : List ℤ
  pub offers : List (ℕ × Alt)

-- where an instruction goes on, with the cells that it gives
pub record Next : Type 0 where
  pub address : ℕ
  pub given : List ℤ

abbrev pub go_to : ℕ → List ℤ → Eval Store Next
go_to address given = pure (record { address = address; given = given })

-- the first and the second of the cells taken
abbrev pub first : List ℤ → ℤ
first [] = pos 0
first (x ∷ xs) = x

abbrev pub second : List ℤ → ℤ
second [] = pos 0
second (x ∷ xs) = first xs

abbrev pub index_fault : {S A : Type 0} → Eval S A
index_fault = stop (Fault Index)

-- an offset that many cells further, which is a number of 64 bits
unfoldable pub further : ℤ → ℕ → Result ℤ FaultKind
further offset n = if int_lt (offset +ℤ pos n) (pos (2 ^ 63)) then Ok (offset +ℤ pos n) else Err Index

-- so many cells from an offset on are variable cells
abbrev pub is_within : ℕ → ℕ → List ℤ → Bool
is_within offset n cells = nat_le (offset + n) (length cells)

abbrev pub if_within : {A : Type 0} → ℕ → ℕ → (List ℤ → Eval Store A) → Eval Store A
if_within offset n go = λ store left. (if is_within offset n store.cells then go store.cells else index_fault) store left

abbrev pub at_offset : {A : Type 0} → ℤ → (ℕ → Eval Store A) → Eval Store A
at_offset (pos offset) go = go offset
at_offset (negsuc n) go = index_fault

-- n variable cells from an offset on
abbrev pub cells_from : ℕ → ℕ → List ℤ → List ℤ
cells_from offset n cells = take n (drop offset cells)

-- the variable cells with these in place of those from an offset on
abbrev pub with_cells : ℕ → List ℤ → List ℤ → List ℤ
with_cells offset new cells = take offset cells ++ new ++ drop (offset + length new) cells

abbrev pub set_cells : List ℤ → Eval Store (Unit {0})
set_cells cells = λ store. set_variables (record { cells = cells; offers = store.offers }) store

abbrev pub fetched_in : ℕ → ℕ → List ℤ → Eval Store (List ℤ)
fetched_in n offset cells = pure (cells_from offset n cells)

abbrev pub fetched : ℕ → ℕ → Eval Store (List ℤ)
fetched n offset = if_within offset n (fetched_in n offset)

abbrev pub stored_in : List ℤ → ℕ → List ℤ → Eval Store (Unit {0})
stored_in new offset cells = set_cells (with_cells offset new cells)

-- cells are stored, where they are variable cells
abbrev pub stored : List ℤ → ℕ → Eval Store (Unit {0})
stored new offset = if_within offset (length new) (stored_in new offset)

-- the new number is stored, and the old one given
abbrev pub bumped_to : ℕ → List ℤ → ℤ → Eval Store (List ℤ)
bumped_to offset cells new = set_cells (with_cells offset (new ∷ []) cells) >> pure (get_or cells offset (pos 0) ∷ [])

abbrev pub bumped_in : NumberType → ℤ → ℕ → List ℤ → Eval Store (List ℤ)
bumped_in t d offset cells = or_fault (updated Add t Int (get_or cells offset (pos 0)) d) >>= bumped_to offset cells

-- the old cell is given, and its sum with a number stored
abbrev pub bumped : NumberType → ℤ → ℕ → Eval Store (List ℤ)
bumped t d offset = if_within offset 1 (bumped_in t d offset)

-- no open alternative has this number or a greater one
abbrev pub is_above : ℕ → List (ℕ × Alt) → Bool
is_above i offers = list_all (λ (a : ℕ × Alt). nat_lt a.0 i) offers

abbrev pub offered : ℕ → Alt → Eval Store (Unit {0})
offered i a = λ store left. (if is_above i store.offers then set_variables (record { cells = store.cells; offers = store.offers ++ (i, a) ∷ [] }) else index_fault) store left

abbrev pub no_offers : Eval Store (Unit {0})
no_offers = λ store. set_variables (record { cells = store.cells; offers = [] }) store

abbrev pub after_cells : List ℤ → Option (List ℤ) → Option (List ℤ)
after_cells front None = None
after_cells front (Some back) = Some (front ++ back)

-- the cells of an environment, where all are variable cells
abbrev pub environment : List EnvironmentPart → List ℤ → Option (List ℤ)
environment [] cells = Some []
environment (p ∷ ps) cells =
    if is_within p.offset p.cells cells
    then after_cells (cells_from p.offset p.cells cells) (environment ps cells)
    else None

abbrev pub offered_in : ℕ → ℕ → ℕ → Option (List ℤ) → Eval Store (Unit {0})
offered_in i site trans None = index_fault
offered_in i site trans (Some env) = offered i (alt.Accept trans site env)

-- an accept at a site, in the environment as it is now
abbrev pub offered_accept : ℕ → ℕ → Option Site → Eval Store (Unit {0})
offered_accept i number None = index_fault
offered_accept i number (Some site) = λ store. offered_in i number site.trans (environment site.env store.cells) store

-- the first entry of an alternative
abbrev pub entry_of : ℕ → List TableEntry → Option TableEntry
entry_of i [] = None
entry_of i (e ∷ es) = if nat_eq e.alt i then Some e else entry_of i es

-- the arguments of the call that was taken are stored where the site of the entry says
abbrev pub stored_at : Option Site → List ℤ → Eval Store (Unit {0})
stored_at None args = index_fault
stored_at (Some site) args = stored args site.into

abbrev pub taken_at : RawCode → Option ℕ → List ℤ → Eval Store (Unit {0})
taken_at k None args = pure tt
taken_at k (Some site) args = stored_at (slice_get k.sites site) args

abbrev pub taken_by : RawCode → Option TableEntry → Grant → Eval Store Next
taken_by k None g = index_fault
taken_by k (Some e) g = taken_at k e.site (args_taken g) >> go_to e.address []

abbrev pub taken_in : RawCode → List TableEntry → Grant → Eval Store Next
taken_in k table g = taken_by k (entry_of (alternative_taken g) table) g

-- one of the open alternatives, of which none is open then
abbrev pub selected : Eval Store Grant
selected = λ store. (no_offers >> select store.offers) store

abbrev pub table_at : RawCode → ℕ → List TableEntry
table_at k j = get_or k.tables j []

-- on what a timed call gives, or on at another address where it was withdrawn
abbrev pub in_time : ℕ → ℕ → Option (List ℤ) → Eval Store Next
in_time next late None = go_to late []
in_time next late (Some value) = go_to next value

-- the offset of an element of so many cells
abbrev pub element_offset : ℕ → List ℤ → ℕ → Eval Store ℤ
element_offset s vs i = or_fault (further (first vs) (i * s))

abbrev pub element : ℕ → ℕ → List ℤ → Eval Store ℤ
element l s vs = or_fault (indexed l (second vs)) >>= element_offset s vs

-- the cells of an element
abbrev pub element_cells : ℕ → List ℤ → ℕ → Eval Store (List ℤ)
element_cells s vs i = pure (take s (drop (i * s) vs))

abbrev pub picked : ℕ → ℕ → List ℤ → Eval Store (List ℤ)
picked l s vs = or_fault (indexed l (get_or vs (l * s) (pos 0))) >>= element_cells s vs

abbrev pub op : Operator → NumberType → List ℤ → Eval Store ℤ
op o t vs = or_fault (operated o t (first vs) (second vs))

abbrev pub truth_that : Comparison → List ℤ → ℤ
truth_that o vs = truth (compared o (first vs) (second vs))

-- on at the next address with one cell, with these cells, with none
abbrev pub on_with : ℕ → Eval Store ℤ → Eval Store Next
on_with next p = p >>= (λ v. go_to next (v ∷ []))

abbrev pub on_with_cells : ℕ → Eval Store (List ℤ) → Eval Store Next
on_with_cells next p = p >>= (λ vs. go_to next vs)

abbrev pub on_after : ℕ → Eval Store (Unit {0}) → Eval Store Next
on_after next p = p >>= (λ _. go_to next [])

-- what the instruction before address `next` does with the cells that it takes; of calls and ends of parts, which have rules of
-- their own, nothing is said here, and the last four lines are never looked at
abbrev pub works : RawCode → ℕ → Instr → List ℤ → Eval Store Next
works k next (instr.Const v) vs = go_to next (v ∷ [])
works k next (instr.Zeros n) vs = go_to next (replicate n (pos 0))
works k next (instr.Drop n) vs = go_to next []
works k next instr.Dup vs = go_to next (first vs ∷ first vs ∷ [])
works k next (instr.Field o) vs = on_with next (or_fault (further (first vs) o))
works k next (instr.Index l s) vs = on_with next (element l s vs)
works k next (instr.Fetch n) vs = on_with_cells next (at_offset (first vs) (fetched n))
works k next (instr.Put n) vs = at_offset (first vs) (stored (drop 1 vs)) >> go_to next (drop 1 vs)
works k next (instr.Bump t d) vs = on_with_cells next (at_offset (first vs) (bumped t d))
works k next (instr.Zero o n) vs = on_after next (stored (replicate n (pos 0)) o)
works k next (instr.Part p n m) vs = if nat_le (p + m) n then go_to next (take m (drop p vs)) else index_fault
works k next (instr.Pick l s) vs = on_with_cells next (picked l s vs)
works k next (instr.Add t) vs = on_with next (op Add t vs)
works k next (instr.Sub t) vs = on_with next (op Subtract t vs)
works k next (instr.Mul t) vs = on_with next (op Multiply t vs)
works k next (instr.Div t) vs = on_with next (op Divide t vs)
works k next (instr.Rem t) vs = on_with next (op Remainder t vs)
works k next (instr.Neg t) vs = on_with next (or_fault (opposite t (first vs)))
works k next instr.Lt vs = go_to next (truth_that Less vs ∷ [])
works k next instr.Le vs = go_to next (truth_that AtMost vs ∷ [])
works k next instr.Gt vs = go_to next (truth_that Greater vs ∷ [])
works k next instr.Ge vs = go_to next (truth_that AtLeast vs ∷ [])
works k next instr.Eq vs = go_to next (truth_that Equal vs ∷ [])
works k next instr.Ne vs = go_to next (truth_that Different vs ∷ [])
works k next instr.Not vs = go_to next (logical_not (first vs) ∷ [])
works k next (instr.Narrow t) vs = on_with next (or_fault (converted Long t (first vs)))
works k next (instr.Jump a) vs = go_to a []
works k next (instr.JumpZero a) vs = go_to (at_zero (first vs) a next) []
works k next instr.Tick vs = on_after next tick
works k next (instr.Create kind) vs = on_with next (create kind vs)
works k next (instr.Ask t) vs = on_with_cells next (transact t (shape_at k t).value (first vs) (drop 1 vs))
works k next (instr.AskWithin t a) vs = transact_within t (shape_at k t).value (first vs) (second vs) (drop 2 vs) >>= in_time next a
works k next (instr.Send t) vs = on_after next (send t (first vs) (drop 1 vs))
works k next instr.SelBegin vs = on_after next no_offers
works k next (instr.OfferAccept i s) vs = on_after next (offered_accept i s (slice_get k.sites s))
works k next (instr.OfferAfter i) vs = on_after next (offered i (alt.After (first vs)))
works k next (instr.OfferNow i) vs = on_after next (offered i alt.Now)
works k next (instr.OfferEnd i) vs = on_after next (offered i alt.Terminate)
works k next (instr.SelWait j) vs = selected >>= taken_in k (table_at k j)
works k next instr.Wait vs = on_after next (delay (first vs))
works k next (instr.Reply n) vs = on_after next (reply vs)
works k next instr.PutByte vs = on_with next (put_byte (first vs))
works k next instr.GetByte vs = on_with next get_byte
works k next (instr.Format f) vs = on_with next (print_format (format_at k f) vs)
works k next (instr.Call f) vs = go_to next []
works k next (instr.Ret n) vs = go_to next []
works k next instr.Yield vs = go_to next []
works k next instr.End vs = go_to next []
