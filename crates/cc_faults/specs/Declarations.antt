-- What the items of a text declare: structures, enumerations with their constants, and the heads of functions, process types
-- and transactions.
use Rattle.std.specs.Prelude.{ℕ, suc, ◌+◌, ℤ, pos, neg_ℤ, ◌+ℤ◌, Bool, true, false, if◌then◌else◌, nat_eq, List, [], ◌∷◌, ◌++◌, length, Option, Some, None, Result, Ok, Err, replicate, slice_set}
use Rattle.cc_typed.specs.Table.{cells_in, cells_in_all}
use Rattle.cc_typed.specs.Types.{Int}
use Rattle.cc_typed.specs.declared.types.DataType.{DataType}
use Rattle.cc_typed.specs.declared.types.DataType.TheVariants.{Void}
use Rattle.cc_typed.specs.declared.types.Field.{Field as TypedField}
use Rattle.cc_typed.specs.declared.types.Structure.{Structure}
use Rattle.cc_faults.specs.Judged.{Judged, Good, found, map, checked, both, known, outcome, each, each_after, after_each, second}
use Rattle.cc_faults.specs.Made.{array_of}
use Rattle.cc_faults.specs.Rows.{array_length, few_cells, fresh, not_large, structure_not_large, value_given, value_in_range, value_type, written}
use Rattle.cc_faults.specs.Scopes.{Scope, Text, entry_at, is_among, is_here, is_there, meaning_at, with_name}
use Rattle.cc_faults.specs.declared.fault.FaultAt.{FaultAt}
use Rattle.cc_faults.specs.declared.plain.Constant.{Constant}
use Rattle.cc_faults.specs.declared.plain.ConstantValue.{ConstantValue}
use Rattle.cc_faults.specs.declared.plain.Field.{Field}
use Rattle.cc_faults.specs.declared.plain.Identifier.{Identifier}
use Rattle.cc_faults.specs.declared.plain.Item.{Item}
use Rattle.cc_faults.specs.declared.plain.Item.TheVariants as item
use Rattle.cc_faults.specs.declared.plain.Length.{Length}
use Rattle.cc_faults.specs.declared.plain.Parameter.{Parameter}
use Rattle.cc_faults.specs.declared.plain.Plain.{Plain}
use Rattle.cc_faults.specs.declared.plain.Transaction.{Transaction}
use Rattle.cc_faults.specs.declared.plain.TypeName.{TypeName}
use Rattle.cc_faults.specs.declared.scope.KindHead.{KindHead}
use Rattle.cc_faults.specs.declared.scope.Meaning.{Meaning}
use Rattle.cc_faults.specs.declared.scope.Meaning.TheVariants as meaning
use Rattle.cc_faults.specs.declared.scope.Named.{Named}
use Rattle.cc_faults.specs.declared.scope.Signature.{Signature}
use Rattle.cc_faults.specs.declared.scope.TransactionHead.{TransactionHead}

-- the scope of the items in their order; functions are announced in scope 0, which is round it
abbrev pub items_scope : ℕ
items_scope = 1

-- ---- a space of names by itself: fields of a structure, transactions, specifications, bodies: 2

abbrev pub unused : List ℕ → Identifier → Judged (Unit {0})
unused before x = fresh (is_among before x.name) x

abbrev pub and_name : List ℕ → Identifier → List ℕ
and_name before x = x.name ∷ before

-- ---- structures

-- the type of a field: 3, 4, 5, 6, 8
abbrev pub field_with : Scope → Field → Option Length → Judged DataType
field_with s f None = value_type s f.of
field_with s f (Some n) =
    checked (both (value_type s f.of) (array_length s n)) (λ (v : DataType × ℕ). not_large s.structures f.name (array_of v.0 v.1))

-- 2
abbrev pub field : Scope → List ℕ → Field → Judged DataType
field s before f = map second (both (unused before f.name) (field_with s f f.length))

abbrev pub and_field : List ℕ → Field → List ℕ
and_field before f = and_name before f.name

-- fields of these types, with so many cells before the first
abbrev pub laid_out : List Structure → ℕ → List DataType → List TypedField
laid_out structures before [] = []
laid_out structures before (t ∷ ts) =
    record { data_type = t; offset = before } ∷ laid_out structures (before + cells_in structures t) ts

abbrev pub structure_of : Scope → List DataType → Structure
structure_of s ts = record { fields = laid_out s.structures 0 ts; cells = cells_in_all s.structures ts }

-- 8
abbrev pub structure : Scope → Identifier → List Field → Judged Structure
structure s x fields = checked (map (structure_of s) (each_after (field s) and_field [] fields)) (structure_not_large x)

abbrev pub field_names : List Field → List ℕ
field_names [] = []
field_names (f ∷ fs) = f.name.name ∷ field_names fs

abbrev pub next_structure : Scope → Structure → ℕ
next_structure s c = length s.structures

abbrev pub with_structure_name : Scope → Identifier → Result ℕ FaultAt → Scope
with_structure_name s x n = record s { structures_named = slice_set s.structures_named x.name (Some n) }

abbrev pub with_structure : Scope → List Field → Option Structure → Scope
with_structure s fields None = s
with_structure s fields (Some c) =
    record s { structures = s.structures ++ c ∷ []; members = s.members ++ field_names fields ∷ [] }

-- a structure is visible after its declaration; a second one of its name declares nothing
abbrev pub after_structure : Scope → Identifier → List Field → Scope
after_structure s x fields =
    if is_there (entry_at s.structures_named x)
    then s
    else with_structure
    (with_structure_name s x (outcome (map (next_structure s) (structure s x fields))))
    fields
    (found (structure s x fields))

-- ---- enumerations

abbrev pub signed : Bool → ℤ → ℤ
signed true n = neg_ℤ n
signed false n = n

abbrev pub one_above : ℤ → ℤ
one_above n = n +ℤ pos 1

-- what a constant is set to: 3, 7. Without a value it is one more than that before it; where that one has none, so has this
-- one, without a fault of its own.
abbrev pub value_set : Scope → Result ℤ FaultAt → Identifier → Option ConstantValue → Judged ℤ
value_set s before x None = map one_above (known before)
value_set s before x (Some v) = map (signed v.negative) (value_given s x v.length)

-- 7
abbrev pub constant_value : Scope → Result ℤ FaultAt → Constant → Judged ℤ
constant_value s before c = checked (value_set s before c.name c.value) (value_in_range c.name)

-- 2
abbrev pub constant : Scope → Result ℤ FaultAt → Constant → Judged ℤ
constant s before c =
    map second (both (fresh (is_here items_scope (meaning_at s c.name)) c.name) (constant_value s before c))

abbrev pub constant_meaning : Result ℤ FaultAt → Meaning
constant_meaning (Ok n) = meaning.Constant n
constant_meaning (Err f) = meaning.Valueless f

-- a constant is visible after its own value
abbrev pub after_constant : Scope → Result ℤ FaultAt → Constant → Scope
after_constant s before c =
    if is_here items_scope (meaning_at s c.name)
    then s
    else with_name items_scope s c.name (constant_meaning (outcome (constant_value s before c)))

-- what stands before a constant: what is visible, and the value of the one before it
abbrev pub Before : Type 0
Before = Scope × Result ℤ FaultAt

abbrev pub constant_in : Before → Constant → Judged ℤ
constant_in b c = constant b.0 b.1 c

abbrev pub and_constant : Before → Constant → Before
and_constant b c = (after_constant b.0 b.1 c, outcome (constant_value b.0 b.1 c))

-- the first constant is 0
abbrev pub before_constants : Scope → Before
before_constants s = (s, Ok (neg_ℤ (pos 1)))

abbrev pub constants : Scope → List Constant → Judged (List ℤ)
constants s cs = each_after constant_in and_constant (before_constants s) cs

abbrev pub after_constants : Scope → List Constant → Scope
after_constants s cs = (after_each and_constant (before_constants s) cs).0

abbrev pub int_type : List ℤ → DataType
int_type ns = Int

abbrev pub with_enumeration_name : Scope → Identifier → Result DataType FaultAt → Scope
with_enumeration_name s x t = record s { enumerations_named = slice_set s.enumerations_named x.name (Some t) }

-- an enumeration is visible after its declaration; a second one of its name declares its constants alone
abbrev pub named_enumeration : Option Identifier → Result DataType FaultAt → Scope → Scope
named_enumeration None t s = s
named_enumeration (Some x) t s = if is_there (entry_at s.enumerations_named x) then s else with_enumeration_name s x t

abbrev pub after_enumeration : Scope → Option Identifier → List Constant → Scope
after_enumeration s x cs = named_enumeration x (outcome (map int_type (constants s cs))) (after_constants s cs)

-- ---- heads

abbrev pub types_of : List Parameter → List TypeName
types_of [] = []
types_of (p ∷ ps) = p.of ∷ types_of ps

-- the types of parameters: 4, 5, 9
abbrev pub parameters : Scope → Identifier → List TypeName → Judged (List DataType)
parameters s x ts = checked (each (value_type s) ts) (few_cells s.structures x)

abbrev pub signature_of : DataType × List DataType → Signature
signature_of v = record { parameters = v.1; result = v.0 }

-- the head of a function
abbrev pub signature : Scope → Identifier → TypeName → List Parameter → Judged Signature
signature s x result ps = map signature_of (both (written s result) (parameters s x (types_of ps)))

-- an asynchronous transaction has no value
abbrev pub transaction_result : Scope → Option TypeName → Judged DataType
transaction_result s None = Good Void
transaction_result s (Some t) = written s t

-- the line of a transaction
abbrev pub transaction_signature : Scope → Transaction → Judged Signature
transaction_signature s d = map signature_of (both (transaction_result s d.result) (parameters s d.name d.parameters))

-- ---- what is known of the whole text

abbrev pub is_async : Option TypeName → Bool
is_async None = true
is_async (Some t) = false

-- transactions from number n on
abbrev pub transaction_heads : Scope → ℕ → List Transaction → List TransactionHead
transaction_heads s n [] = []
transaction_heads s n (d ∷ ds) =
    record { name = d.name.name; number = n; is_async = is_async d.result; signature = outcome (transaction_signature s d) }
    ∷ transaction_heads s (suc n) ds

-- after a function: among the items its name is declared from here on, unless an item before it declares the name. Its entry of
-- scope 0 was no declaration among the items, so one before it could take the name without being a second one.
abbrev pub after_function : Scope → Identifier → Option Named → Scope
after_function s x None = s
after_function s x (Some n) = if nat_eq n.scope items_scope then s else with_name items_scope s x n.meaning

-- what is visible after an item
abbrev pub after_item : Scope → Item → Scope
after_item s (item.Structure x fields) = after_structure s x fields
after_item s (item.Enumeration x cs) = after_enumeration s x cs
after_item s (item.Specification x ts ds) = s
after_item s (item.Body x names block) = s
after_item s (item.Function result x ps block) = after_function s x (meaning_at s x)

-- the functions but `main`
abbrev pub head_of : Scope → Item → List (Result Signature FaultAt)
head_of s (item.Function result x ps block) = if nat_eq x.name 0 then [] else outcome (signature s x result ps) ∷ []
head_of s _ = []

abbrev pub function_heads : Scope → List Item → List (Result Signature FaultAt)
function_heads s [] = []
function_heads s (i ∷ rest) = head_of s i ++ function_heads (after_item s i) rest

-- the specifications, with transactions from number n on
abbrev pub kind_of : Scope → ℕ → Item → List KindHead
kind_of s n (item.Specification x ts ds) =
    record { count = length ts; parameters = outcome (parameters s x ts); transactions = transaction_heads s n ds } ∷ []
kind_of s n _ = []

abbrev pub transactions_in : Item → ℕ
transactions_in (item.Specification x ts ds) = length ds
transactions_in _ = 0

abbrev pub kind_heads : Scope → ℕ → List Item → List KindHead
kind_heads s n [] = []
kind_heads s n (i ∷ rest) = kind_of s n i ++ kind_heads (after_item s i) (n + transactions_in i) rest

abbrev pub main_head : KindHead
main_head = record { count = 0; parameters = Ok []; transactions = [] }

-- functions are visible in the whole text, and of two of one name the first; n functions other than `main` stand before these
-- items
abbrev pub with_first : List (Option Named) → Identifier → Meaning → List (Option Named)
with_first names x m =
    if is_there (entry_at names x) then names else slice_set names x.name (Some (record { scope = 0; meaning = m }))

abbrev pub functions_in : Item → ℕ
functions_in (item.Function result x ps block) = if nat_eq x.name 0 then 0 else 1
functions_in _ = 0

abbrev pub announced_by : ℕ → List (Option Named) → Item → List (Option Named)
announced_by n names (item.Function result x ps block) =
    with_first names x (if nat_eq x.name 0 then meaning.Main else meaning.Function n)
announced_by n names _ = names

abbrev pub announced : ℕ → List (Option Named) → List Item → List (Option Named)
announced n names [] = names
announced n names (i ∷ rest) = announced (n + functions_in i) (announced_by n names i) rest

-- process types are visible in the whole text, and of two of one name the first; the next one has number k
abbrev pub with_process : List (Option ℕ) → Identifier → ℕ → List (Option ℕ)
with_process names x k = if is_there (entry_at names x) then names else slice_set names x.name (Some k)

abbrev pub kinds_in : Item → ℕ
kinds_in (item.Specification x ts ds) = 1
kinds_in _ = 0

abbrev pub specified_by : ℕ → List (Option ℕ) → Item → List (Option ℕ)
specified_by k names (item.Specification x ts ds) = with_process names x k
specified_by k names _ = names

abbrev pub specified : ℕ → List (Option ℕ) → List Item → List (Option ℕ)
specified k names [] = names
specified k names (i ∷ rest) = specified (k + kinds_in i) (specified_by k names i) rest

abbrev pub nothing : {A : Type 0} → ℕ → List (Option A)
nothing n = replicate n None

-- what is visible before the first item; `main` is kind 0
abbrev pub at_start : Plain → Scope
at_start t =
    record {
      names = announced 0 (nothing t.names) t.items;
      structures_named = nothing t.names;
      enumerations_named = nothing t.names;
      processes_named = specified 1 (nothing t.names) t.items;
      structures = [];
      members = [];
      variables = [];
      sites = [];
    }

abbrev pub text_of : Plain → Text
text_of t =
    record {
      functions = function_heads (at_start t) t.items;
      kinds = main_head ∷ kind_heads (at_start t) 0 t.items;
      formats = t.formats;
    }
