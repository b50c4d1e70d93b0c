-- What is visible, and what is known of a whole text.
use Rattle.std.specs.Prelude.{ℕ, suc, Bool, true, false, ◌||◌, if◌then◌else◌, nat_eq, List, [], ◌∷◌, ◌++◌, length, Option, Some, None, Result, Ok, Err, slice_get, slice_set}
use Rattle.cc_typed.specs.declared.tree.Site.{Site}
use Rattle.cc_typed.specs.declared.types.DataType.{DataType}
use Rattle.cc_typed.specs.declared.types.Structure.{Structure}
use Rattle.cc_faults.specs.declared.fault.FaultAt.{FaultAt}
use Rattle.cc_faults.specs.declared.plain.Identifier.{Identifier}
use Rattle.cc_faults.specs.declared.scope.Around.{Around}
use Rattle.cc_faults.specs.declared.scope.KindHead.{KindHead}
use Rattle.cc_faults.specs.declared.scope.Leaves.{Leaves}
use Rattle.cc_faults.specs.declared.scope.Leaves.TheVariants as leaves
use Rattle.cc_faults.specs.declared.scope.Meaning.{Meaning}
use Rattle.cc_faults.specs.declared.scope.Meaning.TheVariants as meaning
use Rattle.cc_faults.specs.declared.scope.Named.{Named}
use Rattle.cc_faults.specs.declared.scope.Reply.{Reply}
use Rattle.cc_faults.specs.declared.scope.Reply.TheVariants as reply
use Rattle.cc_faults.specs.declared.scope.Role.{Role}
use Rattle.cc_faults.specs.declared.scope.Signature.{Signature}

-- A name that is declared means what its declaration says. Where it has no type or no value, it has the fault for which that isn't
-- known. Each list by name has an entry for each name of the text, by the name's number.
pub record Scope : Type 0 where
  -- variables, constants and functions, by name
  pub names : List (Option Named)
  -- the numbers of structures, by name
  pub structures_named : List (Option (Result ℕ FaultAt))
  -- enumerations, by name
  pub enumerations_named : List (Option (Result DataType FaultAt))
  -- the numbers of process types, by name; they are visible in the whole text
  pub processes_named : List (Option ℕ)
  -- the structures declared so far, and the names of their fields
  pub structures : List Structure
  pub members : List (List ℕ)
  -- the types of the variables of the function or body so far
  pub variables : List DataType
  -- the accepts of the text so far
  pub sites : List Site

-- what is known of the whole text at each point of it
pub record Text : Type 0 where
  -- of each function but `main`, as written: its types, or the first fault of its head
  pub functions : List (Result Signature FaultAt)
  -- `main`, with nothing, and each specification as written
  pub kinds : List KindHead
  pub formats : List (List ℕ)

-- ---- names

abbrev pub or_none : {A : Type 0} → Option (Option A) → Option A
or_none None = None
or_none (Some a) = a

abbrev pub entry_at : {A : Type 0} → List (Option A) → Identifier → Option A
entry_at xs x = or_none (slice_get xs x.name)

-- what a name means at this point
abbrev pub meaning_at : Scope → Identifier → Option Named
meaning_at s x = entry_at s.names x

-- it is declared in this very scope
abbrev pub is_here : ℕ → Option Named → Bool
is_here scope None = false
is_here scope (Some n) = nat_eq n.scope scope

abbrev pub is_there : {A : Type 0} → Option A → Bool
is_there None = false
is_there (Some a) = true

abbrev pub is_among : List ℕ → ℕ → Bool
is_among [] x = false
is_among (y ∷ ys) x = nat_eq y x || is_among ys x

abbrev pub one_behind : Option ℕ → Option ℕ
one_behind None = None
one_behind (Some n) = Some (suc n)

-- how many stand before a number in a list; none where it isn't in it
abbrev pub position : List ℕ → ℕ → Option ℕ
position [] x = None
position (y ∷ ys) x = if nat_eq y x then Some 0 else one_behind (position ys x)

-- ---- what is visible after a declaration: it hides what the name meant before; a second one in one scope declares nothing

abbrev pub with_name : ℕ → Scope → Identifier → Meaning → Scope
with_name scope s x m = record s { names = slice_set s.names x.name (Some (record { scope = scope; meaning = m })) }

abbrev pub with_variable : ℕ → Scope → Identifier → Result DataType FaultAt → Scope
with_variable scope s x (Err f) = with_name scope s x (meaning.Typeless f)
with_variable scope s x (Ok t) =
    record (with_name scope s x (meaning.Variable (length s.variables))) { variables = s.variables ++ t ∷ [] }

-- after a variable, with its type or the fault for which it has none
abbrev pub declared : ℕ → Scope → Identifier → Result DataType FaultAt → Scope
declared scope s x t = if is_here scope (meaning_at s x) then s else with_variable scope s x t

-- what is visible after a scope: what was visible before it; the variables and accepts so far stay
abbrev pub left : Scope → Scope → Scope
left outer inner = record inner { names = outer.names }

-- ---- where a phrase stands

abbrev pub deeper : Around → Around
deeper w = record w { scope = suc w.scope }

abbrev pub inside_loop : Around → Around
inside_loop w = record w { breaks = leaves.Inside; continues = leaves.Inside }

abbrev pub from_accept : Leaves → Leaves
from_accept leaves.Nothing = leaves.Nothing
from_accept leaves.Inside = leaves.Outside
from_accept leaves.Outside = leaves.Outside

-- in the scope of an accept's parameters, and so in its clauses
abbrev pub in_clause : Around → Around
in_clause w = record (deeper w) { pure = true }

-- in the block of an accept, which is a scope within that of its parameters
abbrev pub in_accept : Reply → Around → Around
in_accept r w =
    record (deeper (deeper w)) { reply = r; breaks = from_accept w.breaks; continues = from_accept w.continues }

-- in the outermost block of a function or body
abbrev pub outermost : Role → Around
outermost r =
    record { scope = 2; role = r; reply = reply.Nowhere; breaks = leaves.Nothing; continues = leaves.Nothing; pure = false }
