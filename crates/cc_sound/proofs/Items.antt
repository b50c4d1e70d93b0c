-- What each item of a text without a fault adds to the program, and of what it was found.
use Rattle.std.proofs.Common.{◌≡◌, suc, List, [], length}
use Rattle.cc_faults.specs.Declarations.{parameters, signature, structure, constants, unused}
use Rattle.cc_faults.specs.Judged.{Good, both, each_after}
use Rattle.cc_faults.specs.Programs.{BodyParts, FunctionParts, Passed, Piece, NoPiece, Transactions, SpecificationParts, after_body, and_item, and_transaction, body_made, body_role, body_types, few_for_main, fresh_enumeration, function_made, has_body, in_body, in_function, item_in, kind_of_body, names_in, names_once, no_piece, role_of, specification_made, transaction}
use Rattle.cc_faults.specs.Rows.{fresh, with_body}
use Rattle.cc_faults.specs.Scopes.{Scope, Text, entry_at, is_here, is_there, meaning_at, outermost}
use Rattle.cc_faults.specs.Declarations.{items_scope}
use Rattle.cc_faults.specs.Statements.{after_in, judged_in}
use Rattle.cc_faults.specs.declared.plain.Identifier.{Identifier}
use Rattle.cc_faults.specs.declared.plain.Item.{Item}
use Rattle.cc_faults.specs.declared.plain.Item.TheVariants as item
use Rattle.cc_faults.specs.declared.plain.Parameter.{Parameter}
use Rattle.cc_faults.specs.declared.plain.Statement.{Statement}
use Rattle.cc_faults.specs.declared.plain.Transaction.{Transaction}
use Rattle.cc_faults.specs.declared.plain.TypeName.{TypeName}
use Rattle.cc_sound.proofs.Goods.{AreWalked, good-both, good-map, good-walk, walk-weaker}

-- a function, or `main`
pub record FunctionFound (t : Text) (b : Passed) (result : TypeName) (x : Identifier) (ps : List Parameter) (block : List Statement) (v : FunctionParts) : Type 0 where
  pub signed : signature b.scope x result ps ≡ Good v.0.1.0
  pub few : few_for_main x (length ps) ≡ Good v.0.1.1.0
  pub once : names_once (names_in ps) ≡ Good v.0.1.1.1
  pub statements : judged_in t (outermost (role_of b.scope result x ps)) (in_function b.scope ps) block ≡ Good v.1

pub record BodyFound (t : Text) (b : Passed) (x : Identifier) (xs : List Identifier) (block : List Statement) (v : BodyParts) : Type 0 where
  pub is_first : unused b.bodies x ≡ Good v.0.0
  pub kind : kind_of_body t b.scope x ≡ Good v.0.1.0.0
  pub types : body_types t b.scope x (length xs) ≡ Good v.0.1.0.1
  pub once : names_once xs ≡ Good v.0.1.1
  pub statements : judged_in t (outermost (body_role t b.scope x)) (in_body b.scope (body_types t b.scope x (length xs)) xs) block ≡ Good v.1

pub record SpecificationFound (all : List Item) (b : Passed) (x : Identifier) (ts : List TypeName) (ds : List Transaction) (v : SpecificationParts) : Type 0 where
  pub is_first : unused b.specifications x ≡ Good v.0.0.0
  pub with_its_body : with_body (has_body x.name all) x ≡ Good v.0.0.1
  pub types : parameters b.scope x ts ≡ Good v.0.1
  pub lines : each_after (transaction (suc b.kinds) b.scope) and_transaction [] ds ≡ Good v.1

-- the types of the variables of a function and of a body
abbrev pub function_variables : Text → Passed → TypeName → Identifier → List Parameter → List Statement → Scope
function_variables t b result x ps block =
    after_in t (outermost (role_of b.scope result x ps)) (in_function b.scope ps) block

abbrev pub IsPiece : Text → List Item → Passed → Item → Piece → Type 0
IsPiece t all b (item.Structure x fields) y = y ≡ NoPiece
IsPiece t all b (item.Enumeration x cs) y = y ≡ NoPiece
IsPiece t all b (item.Specification x ts ds) y =
    (v : SpecificationParts) × (y ≡ Transactions v.1) × SpecificationFound all b x ts ds v
IsPiece t all b (item.Body x xs block) y =
    (v : BodyParts) × (y ≡ body_made (length xs) (after_body t b.scope x xs block).variables v) × BodyFound t b x xs block v
IsPiece t all b (item.Function result x ps block) y =
    (v : FunctionParts)
    × (y ≡ function_made (length ps) x (function_variables t b result x ps block).variables v)
    × FunctionFound t b result x ps block v

module _ (t : Text) (all : List Item) (b : Passed) where
  specification-found : (x : Identifier) (ts : List TypeName) (ds : List Transaction) (y : Piece) → item_in t all b (item.Specification x ts ds) ≡ Good y → IsPiece t all b (item.Specification x ts ds) y
  specification-found x ts ds y e =
      let m = good-map specification_made (both (both (both (unused b.specifications x) (with_body (has_body x.name all) x)) (parameters b.scope x ts)) (each_after (transaction (suc b.kinds) b.scope) and_transaction [] ds)) y e in
      let g = good-both (both (both (unused b.specifications x) (with_body (has_body x.name all) x)) (parameters b.scope x ts)) (each_after (transaction (suc b.kinds) b.scope) and_transaction [] ds) m.0 m.1 in
      let h = good-both (both (unused b.specifications x) (with_body (has_body x.name all) x)) (parameters b.scope x ts) (m.0).0 g.0 in
      let i = good-both (unused b.specifications x) (with_body (has_body x.name all) x) (m.0).0.0 h.0 in
      (m.0, m.2, record { is_first = i.0; with_its_body = i.1; types = h.1; lines = g.1 })

  body-found : (x : Identifier) (xs : List Identifier) (block : List Statement) (y : Piece) → item_in t all b (item.Body x xs block) ≡ Good y → IsPiece t all b (item.Body x xs block) y
  body-found x xs block y e =
      let m = good-map (body_made (length xs) (after_body t b.scope x xs block).variables) (both (both (unused b.bodies x) (both (both (kind_of_body t b.scope x) (body_types t b.scope x (length xs))) (names_once xs))) (judged_in t (outermost (body_role t b.scope x)) (in_body b.scope (body_types t b.scope x (length xs)) xs) block)) y e in
      let g = good-both (both (unused b.bodies x) (both (both (kind_of_body t b.scope x) (body_types t b.scope x (length xs))) (names_once xs))) (judged_in t (outermost (body_role t b.scope x)) (in_body b.scope (body_types t b.scope x (length xs)) xs) block) m.0 m.1 in
      let h = good-both (unused b.bodies x) (both (both (kind_of_body t b.scope x) (body_types t b.scope x (length xs))) (names_once xs)) (m.0).0 g.0 in
      let i = good-both (both (kind_of_body t b.scope x) (body_types t b.scope x (length xs))) (names_once xs) (m.0).0.1 h.1 in
      let k = good-both (kind_of_body t b.scope x) (body_types t b.scope x (length xs)) (m.0).0.1.0 i.0 in
      (m.0, m.2, record { is_first = h.0; kind = k.0; types = k.1; once = i.1; statements = g.1 })

  function-found : (result : TypeName) (x : Identifier) (ps : List Parameter) (block : List Statement) (y : Piece) → item_in t all b (item.Function result x ps block) ≡ Good y → IsPiece t all b (item.Function result x ps block) y
  function-found result x ps block y e =
      let m = good-map (function_made (length ps) x (function_variables t b result x ps block).variables) (both (both (fresh (is_here items_scope (meaning_at b.scope x)) x) (both (signature b.scope x result ps) (both (few_for_main x (length ps)) (names_once (names_in ps))))) (judged_in t (outermost (role_of b.scope result x ps)) (in_function b.scope ps) block)) y e in
      let g = good-both (both (fresh (is_here items_scope (meaning_at b.scope x)) x) (both (signature b.scope x result ps) (both (few_for_main x (length ps)) (names_once (names_in ps))))) (judged_in t (outermost (role_of b.scope result x ps)) (in_function b.scope ps) block) m.0 m.1 in
      let h = good-both (fresh (is_here items_scope (meaning_at b.scope x)) x) (both (signature b.scope x result ps) (both (few_for_main x (length ps)) (names_once (names_in ps)))) (m.0).0 g.0 in
      let i = good-both (signature b.scope x result ps) (both (few_for_main x (length ps)) (names_once (names_in ps))) (m.0).0.1 h.1 in
      let k = good-both (few_for_main x (length ps)) (names_once (names_in ps)) (m.0).0.1.1 i.1 in
      (m.0, m.2, record { signed = i.0; few = k.0; once = k.1; statements = g.1 })

  pub piece-found : (i : Item) (y : Piece) → item_in t all b i ≡ Good y → IsPiece t all b i y
  piece-found (item.Structure x fields) y e =
      (good-map no_piece (both (fresh (is_there (entry_at b.scope.structures_named x)) x) (structure b.scope x fields)) y e).2
  piece-found (item.Enumeration x cs) y e =
      (good-map no_piece (both (fresh_enumeration b.scope x) (constants b.scope cs)) y e).2
  piece-found (item.Specification x ts ds) y e = specification-found x ts ds y e
  piece-found (item.Body x xs block) y e = body-found x xs block y e
  piece-found (item.Function result x ps block) y e = function-found result x ps block y e

-- pieces of these items, from this point on
abbrev pub ArePieces : Text → List Item → Passed → List Item → List Piece → Type 0
ArePieces t all b items pieces = AreWalked (IsPiece t all) (and_item t) b items pieces

pub pieces-found : (t : Text) (all : List Item) (b : Passed) (items : List Item) (pieces : List Piece) → each_after (item_in t all) (and_item t) b items ≡ Good pieces → ArePieces t all b items pieces
pieces-found t all b items pieces e =
    walk-weaker (λ c i y. item_in t all c i ≡ Good y) (IsPiece t all) (and_item t) (λ c i y f. piece-found t all c i y f) b items pieces (good-walk (item_in t all) (and_item t) b items pieces e)
