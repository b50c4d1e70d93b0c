-- What is found of a text: the program that it means, or its faults.
use Rattle.std.specs.Prelude.{ℕ, zero, suc, ◌+◌, Bool, false, ◌||◌, if◌then◌else◌, nat_eq, List, [], ◌∷◌, ◌++◌, length, Option, Some, None, slice_get}
use Rattle.cc_typed.specs.Parts.{Parts}
use Rattle.cc_typed.specs.declared.tree.Function.{Function as TypedFunction}
use Rattle.cc_typed.specs.declared.tree.Kind.{Kind}
use Rattle.cc_typed.specs.declared.tree.Statement.{Statement as TypedStatement}
use Rattle.cc_typed.specs.declared.tree.Transaction.{Transaction as TypedTransaction}
use Rattle.cc_typed.specs.declared.types.DataType.{DataType}
use Rattle.cc_typed.specs.declared.types.DataType.TheVariants.{Void}
use Rattle.cc_faults.specs.Declarations.{after_item, and_name, at_start, constants, is_async, items_scope, kinds_in, parameters, signature, structure, text_of, transaction_signature, unused}
use Rattle.cc_faults.specs.Judged.{Judged, Good, map, checked, both, second, known, outcome, each_after, after_each}
use Rattle.cc_faults.specs.Rows.{as_many, as_many_names, fresh, main_there, value_type, with_body, with_specification}
use Rattle.cc_faults.specs.Scopes.{Scope, Text, declared, entry_at, is_here, is_there, meaning_at, outermost}
use Rattle.cc_faults.specs.Statements.{after_in, judged_in, kth}
use Rattle.cc_faults.specs.declared.plain.Identifier.{Identifier}
use Rattle.cc_faults.specs.declared.plain.Item.{Item}
use Rattle.cc_faults.specs.declared.plain.Item.TheVariants as item
use Rattle.cc_faults.specs.declared.plain.Parameter.{Parameter}
use Rattle.cc_faults.specs.declared.plain.Plain.{Plain}
use Rattle.cc_faults.specs.declared.plain.Statement.{Statement}
use Rattle.cc_faults.specs.declared.plain.Transaction.{Transaction}
use Rattle.cc_faults.specs.declared.plain.TypeName.{TypeName}
use Rattle.cc_faults.specs.declared.scope.KindHead.{KindHead}
use Rattle.cc_faults.specs.declared.scope.Role.{Role}
use Rattle.cc_faults.specs.declared.scope.Role.TheVariants as role
use Rattle.cc_faults.specs.declared.scope.Signature.{Signature}

-- what stands before an item: what is visible, the names of the specifications and of the bodies, and how many specifications
pub record Passed : Type 0 where
  pub scope : Scope
  pub specifications : List ℕ
  pub bodies : List ℕ
  pub kinds : ℕ

-- what an item without a fault adds to the program
pub data Piece : Type 0 where
  NoPiece : Piece
  OneFunction : TypedFunction → Piece
  OneKind : ℕ → Kind → Piece
  Transactions : List TypedTransaction → Piece

-- ---- functions and bodies

abbrev pub no_variables : Scope → Scope
no_variables s = record s { variables = [] }

-- the parameters of a function: each has the type that is written, or the fault of that
abbrev pub after_parameters : Scope → Scope → List Parameter → Scope
after_parameters outer s [] = s
after_parameters outer s (p ∷ ps) = after_parameters outer (declared 2 s p.name (outcome (value_type outer p.of))) ps

abbrev pub in_function : Scope → List Parameter → Scope
in_function s ps = after_parameters s (no_variables s) ps

-- the names of a body, from the k-th parameter on
abbrev pub after_names : Judged (List DataType) → ℕ → Scope → List Identifier → Scope
after_names ts k s [] = s
after_names ts k s (x ∷ xs) = after_names ts (suc k) (declared 2 s x (outcome (map (kth k) ts))) xs

abbrev pub in_body : Scope → Judged (List DataType) → List Identifier → Scope
in_body s ts xs = after_names ts 0 (no_variables s) xs

-- 2
abbrev pub names_once : List Identifier → Judged (List (Unit {0}))
names_once xs = each_after unused and_name [] xs

abbrev pub names_in : List Parameter → List Identifier
names_in [] = []
names_in (p ∷ ps) = p.name ∷ names_in ps

abbrev pub result_of : Signature → DataType
result_of g = g.result

-- the type with which a function's `return` gives back its value
abbrev pub role_of : Scope → TypeName → Identifier → List Parameter → Role
role_of s result x ps =
    if nat_eq x.name 0
    then role.Main (outcome (map result_of (signature s x result ps)))
    else role.Function (outcome (map result_of (signature s x result ps)))

-- 13: `main` has no parameters
abbrev pub few_for_main : Identifier → ℕ → Judged (Unit {0})
few_for_main x n = if nat_eq x.name 0 then as_many x.place n 0 tt else Good tt

-- a head without a fault, and a block
abbrev pub FunctionParts : Type 0
FunctionParts = (Unit {0} × (Signature × (Unit {0} × List (Unit {0})))) × List TypedStatement

abbrev pub function_made : ℕ → Identifier → List DataType → FunctionParts → Piece
function_made n x ts v =
    if nat_eq x.name 0
    then OneKind 0 (record { parameters = n; variables = ts; result = v.0.1.0.result; body = v.1 })
    else OneFunction (record { parameters = n; variables = ts; result = v.0.1.0.result; body = v.1 })

-- its kind with the types of its names, and a block
abbrev pub BodyParts : Type 0
BodyParts = (Unit {0} × ((ℕ × List DataType) × List (Unit {0}))) × List TypedStatement

abbrev pub body_made : ℕ → List DataType → BodyParts → Piece
body_made n ts v = OneKind v.0.1.0.0 (record { parameters = n; variables = ts; result = Void; body = v.1 })

-- the types of a body's names, of which there are so many: 12, whatever the types of the parameters are
abbrev pub types_of_names : Identifier → ℕ → Option KindHead → Judged (List DataType)
types_of_names x n None = Good []
types_of_names x n (Some h) = map second (both (as_many_names x n h.count) (known h.parameters))

module _ (t : Text) where
  abbrev pub function : Scope → TypeName → Identifier → List Parameter → List Statement → Judged Piece
  function s result x ps block =
      map
      (function_made (length ps) x (after_in t (outermost (role_of s result x ps)) (in_function s ps) block).variables)
      (both
      (both (fresh (is_here items_scope (meaning_at s x)) x)
      (both (signature s x result ps) (both (few_for_main x (length ps)) (names_once (names_in ps)))))
      (judged_in t (outermost (role_of s result x ps)) (in_function s ps) block))

  abbrev pub kind_of_body : Scope → Identifier → Judged ℕ
  kind_of_body s x = with_specification x (entry_at s.processes_named x)

  abbrev pub body_types : Scope → Identifier → ℕ → Judged (List DataType)
  body_types s x n = checked (kind_of_body s x) (λ (k : ℕ). types_of_names x n (slice_get t.kinds k))

  abbrev pub body_role : Scope → Identifier → Role
  body_role s x = role.Body (outcome (kind_of_body s x))

  abbrev pub after_body : Scope → Identifier → List Identifier → List Statement → Scope
  after_body s x xs block = after_in t (outermost (body_role s x)) (in_body s (body_types s x (length xs)) xs) block

  -- 2 for a second body, 11, 12
  abbrev pub body : Passed → Identifier → List Identifier → List Statement → Judged Piece
  body b x xs block =
      map
      (body_made (length xs) (after_body b.scope x xs block).variables)
      (both
      (both (unused b.bodies x)
      (both (both (kind_of_body b.scope x) (body_types b.scope x (length xs))) (names_once xs)))
      (judged_in t (outermost (body_role b.scope x)) (in_body b.scope (body_types b.scope x (length xs)) xs) block))

-- ---- specifications

-- there is a body of this name
abbrev pub is_body_of : ℕ → Item → Bool
is_body_of x (item.Body y names block) = nat_eq y.name x
is_body_of x _ = false

abbrev pub has_body : ℕ → List Item → Bool
has_body x [] = false
has_body x (i ∷ rest) = is_body_of x i || has_body x rest

abbrev pub transaction_made : ℕ → Transaction → Signature → TypedTransaction
transaction_made k d g = record { kind = k; is_async = is_async d.result; parameters = g.parameters; value = g.result }

-- a transaction of kind k: 2
abbrev pub transaction : ℕ → Scope → List ℕ → Transaction → Judged TypedTransaction
transaction k s before d =
    map (transaction_made k d) (map second (both (unused before d.name) (transaction_signature s d)))

abbrev pub and_transaction : List ℕ → Transaction → List ℕ
and_transaction before d = and_name before d.name

abbrev pub SpecificationParts : Type 0
SpecificationParts = ((Unit {0} × Unit {0}) × List DataType) × List TypedTransaction

abbrev pub specification_made : SpecificationParts → Piece
specification_made v = Transactions v.1

-- 2, 10
abbrev pub specification : List Item → Passed → Identifier → List TypeName → List Transaction → Judged Piece
specification all b x ts ds =
    map specification_made
    (both
    (both (both (unused b.specifications x) (with_body (has_body x.name all) x)) (parameters b.scope x ts))
    (each_after (transaction (suc b.kinds) b.scope) and_transaction [] ds))

-- ---- items

abbrev pub no_piece : {A : Type 0} → A → Piece
no_piece v = NoPiece

-- 2 for an enumeration's name
abbrev pub fresh_enumeration : Scope → Option Identifier → Judged (Unit {0})
fresh_enumeration s None = Good tt
fresh_enumeration s (Some x) = fresh (is_there (entry_at s.enumerations_named x)) x

abbrev pub item_in : Text → List Item → Passed → Item → Judged Piece
item_in t all b (item.Structure x fields) =
    map no_piece (both (fresh (is_there (entry_at b.scope.structures_named x)) x) (structure b.scope x fields))
item_in t all b (item.Enumeration x cs) = map no_piece (both (fresh_enumeration b.scope x) (constants b.scope cs))
item_in t all b (item.Specification x ts ds) = specification all b x ts ds
item_in t all b (item.Body x xs block) = body t b x xs block
item_in t all b (item.Function result x ps block) = function t b.scope result x ps block

-- accepts are numbered over the whole text
abbrev pub with_sites : Scope → Scope → Scope
with_sites s inner = record s { sites = inner.sites }

abbrev pub scope_after : Text → Scope → Item → Scope
scope_after t s (item.Body x xs block) = with_sites s (after_body t s x xs block)
scope_after t s i = after_item s i

abbrev pub specifications_after : List ℕ → Item → List ℕ
specifications_after xs (item.Specification x ts ds) = and_name xs x
specifications_after xs _ = xs

abbrev pub bodies_after : List ℕ → Item → List ℕ
bodies_after xs (item.Body x names block) = and_name xs x
bodies_after xs _ = xs

abbrev pub and_item : Text → Passed → Item → Passed
and_item t b i =
    record {
      scope = scope_after t b.scope i;
      specifications = specifications_after b.specifications i;
      bodies = bodies_after b.bodies i;
      kinds = b.kinds + kinds_in i;
    }

abbrev pub before_items : Plain → Passed
before_items p = record { scope = at_start p; specifications = []; bodies = []; kinds = 0 }

-- ---- the program, with everything in the order written

abbrev pub functions_among : List Piece → List TypedFunction
functions_among [] = []
functions_among (OneFunction f ∷ rest) = f ∷ functions_among rest
functions_among (NoPiece ∷ rest) = functions_among rest
functions_among (OneKind k c ∷ rest) = functions_among rest
functions_among (Transactions ds ∷ rest) = functions_among rest

abbrev pub transactions_among : List Piece → List TypedTransaction
transactions_among [] = []
transactions_among (Transactions ds ∷ rest) = ds ++ transactions_among rest
transactions_among (NoPiece ∷ rest) = transactions_among rest
transactions_among (OneKind k c ∷ rest) = transactions_among rest
transactions_among (OneFunction f ∷ rest) = transactions_among rest

abbrev pub no_kind : Kind
no_kind = record { parameters = 0; variables = []; result = Void; body = [] }

-- the kind of this number; a text without a fault has each once
abbrev pub kind_among : ℕ → List Piece → Kind
kind_among k [] = no_kind
kind_among k (OneKind j c ∷ rest) = if nat_eq j k then c else kind_among k rest
kind_among k (NoPiece ∷ rest) = kind_among k rest
kind_among k (OneFunction f ∷ rest) = kind_among k rest
kind_among k (Transactions ds ∷ rest) = kind_among k rest

-- so many kinds from this number on
abbrev pub kinds_among : ℕ → ℕ → List Piece → List Kind
kinds_among k zero pieces = []
kinds_among k (suc n) pieces = kind_among k pieces ∷ kinds_among (suc k) n pieces

abbrev pub passed_all : Plain → Passed
passed_all p = after_each (and_item (text_of p)) (before_items p) p.items

abbrev pub assembled : Plain → List Piece → Parts
assembled p pieces =
    record {
      structures = (passed_all p).scope.structures;
      kinds = kinds_among 0 (suc (passed_all p).kinds) pieces;
      functions = functions_among pieces;
      transactions = transactions_among pieces;
      sites = (passed_all p).scope.sites;
      formats = p.formats;
    }

abbrev pub pieces_with : Unit {0} × List Piece → List Piece
pieces_with v = v.1

abbrev pub pieces_of : Plain → Judged (List Piece)
pieces_of p = each_after (item_in (text_of p) p.items) (and_item (text_of p)) (before_items p) p.items

-- 1, and all that is found of the items
unfoldable pub program : Plain → Judged Parts
program p = map (assembled p) (map pieces_with (both (main_there p.items) (pieces_of p)))
