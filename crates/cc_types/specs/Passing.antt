-- How far the checker has come through the items of a text.
use Rattle.std.specs.Prelude.{◌≡◌, ℕ, Bool, ◌++◌, if◌then◌else◌, nat_eq, List, [], ◌∷◌, length, Option, Result}
use Rattle.cc_typed.specs.declared.tree.Statement.{Statement as TypedStatement}
use Rattle.cc_typed.specs.declared.tree.Transaction.{Transaction as TypedTransaction}
use Rattle.cc_typed.specs.declared.types.DataType.{DataType}
use Rattle.cc_faults.specs.Declarations.{items_scope, parameters, signature, transaction_signature}
use Rattle.cc_faults.specs.Faults.{noted}
use Rattle.cc_faults.specs.Judged.{Judged, Good, after_each, both, each_after, faults, map, second}
use Rattle.cc_faults.specs.Programs.{Passed, Piece, and_item, and_transaction, body_made, body_role, body_types, few_for_main, function_made, has_body, in_body, in_function, item_in, kind_of_body, names_in, names_once, role_of, specification_made, transaction, transaction_made}
use Rattle.cc_faults.specs.Rows.{fresh, with_body}
use Rattle.cc_faults.specs.Scopes.{Scope, Text, is_among, is_here, meaning_at, outermost}
use Rattle.cc_faults.specs.declared.fault.FaultAt.{FaultAt}
use Rattle.cc_faults.specs.declared.plain.Identifier.{Identifier}
use Rattle.cc_faults.specs.declared.plain.Item.{Item}
use Rattle.cc_faults.specs.declared.plain.Parameter.{Parameter}
use Rattle.cc_faults.specs.declared.plain.Statement.{Statement}
use Rattle.cc_faults.specs.declared.plain.Transaction.{Transaction}
use Rattle.cc_faults.specs.declared.plain.TypeName.{TypeName}
use Rattle.cc_faults.specs.declared.scope.Role.{Role}
use Rattle.cc_faults.specs.declared.scope.Role.TheVariants as role
use Rattle.cc_types.specs.Judging.{after_entries, entries_judged}
use Rattle.cc_types.specs.Making.{Makes, with_piece}
use Rattle.cc_types.specs.declared.made.Made.{Made}
use Rattle.cc_types.specs.declared.specifications.Specified.{Specified}

-- what the checker has: what is known of the text, what is visible, the program so far, the names of all bodies of the text, those of the
-- specifications and of the bodies so far, and how many specifications
pub record Progress : Type 0 where
  pub text : Text
  pub scope : Scope
  pub made : Made
  pub all_bodies : List ℕ
  pub specifications : List ℕ
  pub bodies : List ℕ
  pub kinds : ℕ

abbrev pub AreAlike : List ℕ → List ℕ → Type 0
AreAlike xs ys = (x : ℕ) → is_among xs x ≡ is_among ys x

-- it has what stands before an item of these
pub record HasPassed (all : List Item) (b : Passed) (w : Progress) : Type 0 where
  pub scope : w.scope ≡ b.scope
  pub outside : w.scope.variables ≡ []
  pub all_bodies : (x : ℕ) → is_among w.all_bodies x ≡ has_body x all
  pub specifications : AreAlike w.specifications b.specifications
  pub bodies : AreAlike w.bodies b.bodies
  pub kinds : w.kinds ≡ b.kinds

-- ---- functions and bodies

abbrev pub block_judged : Text → Role → Scope → List Statement → Judged (List TypedStatement)
block_judged t r s xs = entries_judged t (outermost r) s xs

abbrev pub after_block : Text → Role → Scope → List Statement → Scope
after_block t r s xs = after_entries t (outermost r) s xs

-- the type with which a `return` gives back its value
abbrev pub role_with : Identifier → Result DataType FaultAt → Role
role_with x u = if nat_eq x.name 0 then role.Main u else role.Function u

abbrev pub is_main : Identifier → Bool
is_main x = nat_eq x.name 0

-- a body, whose name is taken or not
unfoldable pub body_judged : Text → Bool → Scope → Identifier → List Identifier → List Statement → Judged Piece
body_judged t taken s x xs block =
    map
    (body_made (length xs) (after_block t (body_role t s x) (in_body s (body_types t s x (length xs)) xs) block).variables)
    (both
    (both (fresh taken x)
    (both (both (kind_of_body t s x) (body_types t s x (length xs))) (names_once xs)))
    (block_judged t (body_role t s x) (in_body s (body_types t s x (length xs)) xs) block))

-- a function, or `main`
unfoldable pub function_judged : Text → Scope → TypeName → Identifier → List Parameter → List Statement → Judged Piece
function_judged t s of x ps block =
    map
    (function_made (length ps) x (after_block t (role_of s of x ps) (in_function s ps) block).variables)
    (both
    (both (fresh (is_here items_scope (meaning_at s x)) x)
    (both (signature s x of ps) (both (few_for_main x (length ps)) (names_once (names_in ps)))))
    (block_judged t (role_of s of x ps) (in_function s ps) block))

-- ---- specifications

-- a transaction of this kind, whose name is taken or not
abbrev pub transaction_judged : ℕ → Scope → Bool → Transaction → Judged TypedTransaction
transaction_judged k s taken d = map (transaction_made k d) (map second (both (fresh taken d.name) (transaction_signature s d)))

abbrev pub transactions_judged : ℕ → Scope → List Transaction → Judged (List TypedTransaction)
transactions_judged k s ds = each_after (transaction k s) and_transaction [] ds

unfoldable pub specification_judged : Specified → Scope → List TypeName → List Transaction → Judged Piece
specification_judged v s ts ds =
    map specification_made
    (both
    (both (both (fresh v.taken v.name) (with_body v.there v.name)) (parameters s v.name ts))
    (transactions_judged v.number s ds))

-- with a transaction more
abbrev pub and_made : Made → TypedTransaction → Made
and_made m d = record m { transactions = m.transactions ++ d ∷ [] }

-- ---- items

-- what is noted of an item, and what it adds
abbrev pub IsFound : Option FaultAt → Made → Judged Piece → Option FaultAt → Made → Type 0
IsFound m a j n b = (n ≡ noted m (faults j)) × Makes a j b

-- from what stands before an item to what stands behind it
abbrev pub Goes : Progress → Option FaultAt → Item → Progress → Option FaultAt → Type 0
Goes w m i v n =
    (all : List Item) (b : Passed) → HasPassed all b w → IsFound m w.made (item_in w.text all b i) n v.made × HasPassed all (and_item w.text b i) v

-- what is noted of items, and what they add where none has a fault
abbrev pub AreFound : Text → List Item → Passed → Option FaultAt → Made → Option FaultAt → Made → Type 0
AreFound t all b m a n c =
    (n ≡ noted m (faults (each_after (item_in t all) (and_item t) b all)))
    × ((vs : List Piece) → each_after (item_in t all) (and_item t) b all ≡ Good vs → c ≡ after_each with_piece a vs)
