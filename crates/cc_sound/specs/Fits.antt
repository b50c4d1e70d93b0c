-- What is known at a point of a text, beside the parts of the whole program: names lead to what is there, and lists so far are fronts
-- of the lists in the end.
use Rattle.std.specs.List.{list_all}
use Rattle.std.specs.Prelude.{◌≡◌, ◌<◌, ◌++◌, ℕ, Bool, true, List, Option, Some, None, Ok, Err, length, slice_get}
use Rattle.cc_base.specs.Numbers.{fits}
use Rattle.cc_typed.specs.KnownTypes.{is_known, is_process_type, is_whole}
use Rattle.cc_typed.specs.Parts.{Parts}
use Rattle.cc_typed.specs.Table.{fields_of}
use Rattle.cc_typed.specs.Missing.{variables_of}
use Rattle.cc_typed.specs.Typed.{Surroundings, function_parameters, is_function, kind_parameters}
use Rattle.cc_typed.specs.Types.{Int}
use Rattle.cc_typed.specs.declared.tree.Transaction.{Transaction}
use Rattle.cc_typed.specs.declared.types.DataType.{DataType}
use Rattle.cc_typed.specs.declared.types.DataType.TheVariants.{Void}
use Rattle.cc_faults.specs.Rows.{names_of, transaction_named, transactions_of}
use Rattle.cc_faults.specs.Scopes.{Scope, Text, entry_at, meaning_at}
use Rattle.cc_faults.specs.declared.plain.Identifier.{Identifier}
use Rattle.cc_faults.specs.declared.scope.Around.{Around}
use Rattle.cc_faults.specs.declared.scope.KindHead.{KindHead}
use Rattle.cc_faults.specs.declared.scope.Leaves.{Leaves}
use Rattle.cc_faults.specs.declared.scope.Leaves.TheVariants as leaves
use Rattle.cc_faults.specs.declared.scope.Reply.{Reply}
use Rattle.cc_faults.specs.declared.scope.Reply.TheVariants as reply
use Rattle.cc_faults.specs.declared.scope.Role.{Role}
use Rattle.cc_faults.specs.declared.scope.Role.TheVariants as role
use Rattle.cc_faults.specs.declared.scope.Meaning.{Meaning}
use Rattle.cc_faults.specs.declared.scope.Meaning.TheVariants as meaning
use Rattle.cc_faults.specs.declared.scope.Named.{Named}
use Rattle.cc_faults.specs.declared.scope.Signature.{Signature}
use Rattle.cc_faults.specs.declared.scope.TransactionHead.{TransactionHead}

abbrev pub IsFront : {A : Type 0} → List A → List A → Type 0
IsFront {A} xs ys = (rest : List A) × (ys ≡ xs ++ rest)

-- the transaction of such a head and of these types, of kind k
abbrev pub transaction_with : ℕ → TransactionHead → Signature → Transaction
transaction_with k h g = record { kind = k; is_async = h.is_async; parameters = g.parameters; value = g.result }

-- the heads that are known of a whole text are those of the program's parts
pub record TextFits (t : Text) (p : Parts) : Type 0 where
  pub functions : (f : ℕ) (g : Signature) → slice_get t.functions f ≡ Some (Ok g) → (function_parameters (slice_get p.functions f) ≡ g.parameters) × (is_function (slice_get p.functions f) g.result ≡ true)
  pub kinds : (k : ℕ) (h : KindHead) (ts : List DataType) → slice_get t.kinds k ≡ Some h → h.parameters ≡ Ok ts → kind_parameters (slice_get p.kinds k) ≡ ts
  pub each_kind : length t.kinds ≡ length p.kinds
  pub transactions : (k x : ℕ) (h : TransactionHead) (g : Signature) → transaction_named (transactions_of (slice_get t.kinds k)) x ≡ Some h → h.signature ≡ Ok g → slice_get p.transactions h.number ≡ Some (transaction_with k h g)
  pub asynchronous : (k x : ℕ) (h : TransactionHead) (g : Signature) → transaction_named (transactions_of (slice_get t.kinds k)) x ≡ Some h → h.signature ≡ Ok g → h.is_async ≡ true → g.result ≡ Void
  pub parameters : (k x : ℕ) (h : TransactionHead) (g : Signature) → transaction_named (transactions_of (slice_get t.kinds k)) x ≡ Some h → h.signature ≡ Ok g → list_all (is_whole p) g.parameters ≡ true
  pub formats : t.formats ≡ p.formats

-- a name leads to one of so many functions or so many variables, or to an `int`
abbrev pub IsThere : ℕ → ℕ → Meaning → Type 0
IsThere functions variables (meaning.Variable v) = v < variables
IsThere functions variables (meaning.Constant n) = fits 31 n ≡ true
IsThere functions variables (meaning.Function f) = f < functions
IsThere functions variables meaning.Main = Unit {0}
IsThere functions variables (meaning.Typeless f) = Unit {0}
IsThere functions variables (meaning.Valueless f) = Unit {0}

-- names lead to what is there
abbrev pub AreThere : ℕ → Scope → Type 0
AreThere functions s =
    (x : Identifier) (n : Named) → meaning_at s x ≡ Some n → IsThere functions (length s.variables) n.meaning

pub record ScopeFits (t : Text) (s : Scope) (p : Parts) : Type 0 where
  pub names : AreThere (length t.functions) s
  pub structures_named : (x : Identifier) (n : ℕ) → entry_at s.structures_named x ≡ Some (Ok n) → n < length s.structures
  pub processes_named : (x : Identifier) (k : ℕ) → entry_at s.processes_named x ≡ Some k → is_process_type p k ≡ true
  pub enumerations_named : (x : Identifier) (u : DataType) → entry_at s.enumerations_named x ≡ Some (Ok u) → u ≡ Int
  pub members : (n : ℕ) → length (names_of (slice_get s.members n)) ≡ length (fields_of (slice_get s.structures n))
  pub structures : IsFront s.structures p.structures

-- ---- where a statement stands

-- in a function, in `main`, or in the body of a process type, whose variables are those of its kind
abbrev pub RoleStands : Parts → Option ℕ → Option DataType → List DataType → Role → Type 0
RoleStands p kind result variables (role.Function o) = (kind ≡ None) × ((u : DataType) → o ≡ Ok u → result ≡ Some u)
RoleStands p kind result variables (role.Main o) = (kind ≡ Some 0) × ((u : DataType) → o ≡ Ok u → result ≡ Some u)
RoleStands p kind result variables (role.Body (Ok k)) =
    (kind ≡ Some k)
    × (result ≡ Some Void)
    × (is_process_type p k ≡ true)
    × (variables_of (slice_get p.kinds k) ≡ variables)
RoleStands p kind result variables (role.Body (Err f)) = ⊥

abbrev pub ReplyStands : Option DataType → Reply → Type 0
ReplyStands replies reply.Nowhere = replies ≡ None
ReplyStands replies (reply.With o) = (u : DataType) → o ≡ Ok u → replies ≡ Some u

abbrev pub LeavesStand : Bool → Leaves → Type 0
LeavesStand may leaves.Nothing = Unit {0}
LeavesStand may leaves.Inside = may ≡ true
LeavesStand may leaves.Outside = Unit {0}

-- the surroundings say the same as what is around
pub record Stands (t : Text) (w : Around) (a : Surroundings) : Type 0 where
  pub whole : TextFits t a.parts
  pub role : RoleStands a.parts a.kind a.result a.variables w.role
  pub reply : ReplyStands a.replies w.reply
  pub breaks : LeavesStand a.may_break w.breaks
  pub continues : LeavesStand a.may_continue w.continues

-- what is visible, and the types of the variables so far are known
abbrev pub Inside : Text → Parts → Scope → Type 0
Inside t p s = ScopeFits t s p × (list_all (is_known p) s.variables ≡ true)

-- the variables and the accepts so far are fronts of those in the end
abbrev pub Ends : Surroundings → Scope → Type 0
Ends a s = IsFront s.variables a.variables × IsFront s.sites a.parts.sites
