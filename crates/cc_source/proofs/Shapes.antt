-- The kinds and transactions of a typed program, and their cells.
use Rattle.std.proofs.Common.{◌≡◌, ℕ, ℤ, ◌+◌, ◌<◌, ◌≤◌, zero, suc, true, false, ◌&&◌, ◌||◌, List, [], ◌∷◌, length, map, take, Option, Some, None, refl, sym, ap, ◌∙◌, subst, arith}
use Rattle.std.specs.List.{list_all}
use Rattle.std.specs.Prelude.{if◌then◌else◌, nat_eq, nat_le, nat_lt, slice_get}
use Rattle.std.proofs.lemmas.List.{length-map}
use Rattle.std.proofs.lemmas.Bool.{leb-true, lt-ltb}
use Rattle.cc_base.specs.Limits.{most_calls, most_cells, most_parameter_cells}
use Rattle.cc_base.specs.Outcome.{Asked}
use Rattle.cc_base.specs.declared.names.FaultKind.TheVariants.{Cells}
use Rattle.cc_base.specs.declared.numbers.NumberType.TheVariants as numeric
use Rattle.cc_base.specs.declared.request.Grant.{Grant}
use Rattle.cc_base.specs.declared.request.Request.TheVariants.{Fault}
use Rattle.cc_source.specs.Gives.{body_variables}
use Rattle.cc_source.specs.Known.{and-left, and-right}
use Rattle.cc_source.specs.Lists.{exec_all}
use Rattle.cc_source.specs.Programs.{body, call, cells_all, left_at_start, meaning, parameter_cells, shape_of, variables_at_start}
use Rattle.cc_source.specs.Projections.{passes-get, transaction-value}
use Rattle.cc_source.specs.Straight.{is_straight_value}
use Rattle.cc_typed.proofs.Tables.{type-cells}
use Rattle.cc_typed.specs.KnownTypes.{are_parameters, is_process_type, is_whole}
use Rattle.cc_typed.specs.Missing.{parameters_at, variables_of}
use Rattle.cc_typed.specs.Parts.{Parts}
use Rattle.cc_typed.specs.Table.{cells_in, cells_in_all, is_table}
use Rattle.cc_typed.specs.Typed.{are_few, are_typed_kinds, are_typed_structures, are_variables, has_few_parts, has_main, in_kind, is_typed_but_for_sites, is_typed_function, is_typed_kind, is_typed_program, is_typed_statement, is_typed_transaction}
use Rattle.cc_typed.specs.Types.{is_void}
use Rattle.cc_typed.specs.declared.tree.Kind.{Kind}
use Rattle.cc_typed.specs.declared.tree.Transaction.{Transaction}
use Rattle.cc_typed.specs.declared.types.DataType.{DataType}
use Rattle.cc_typed.specs.declared.types.DataType.TheVariants.{Void, Single, Array}
use Rattle.cc_typed.specs.declared.types.ElementType.TheVariants as item
use Rattle.cc_typed.specs.declared.types.Structure.{Structure}

pub few-cells : (p : Parts) (k : ℕ) (t : Transaction) → is_typed_program p ≡ true → slice_get p.transactions k ≡ Some t
    → cells_in_all p.structures t.parameters ≤ most_parameter_cells
few-cells p k t typed e =
    let parts : is_typed_but_for_sites p ≡ true = and-left _ _ (and-left _ _ typed) in
    let all : list_all (is_typed_transaction p) p.transactions ≡ true =
    and-right (has_main p.kinds && has_few_parts p && are_typed_structures p && are_typed_kinds p 0 p.kinds && list_all (is_typed_function p) p.functions) _ parts in
    let fine : is_typed_transaction p t ≡ true = passes-get (is_typed_transaction p) p.transactions k t all e in
    let few : are_parameters p t.parameters ≡ true = and-right (is_process_type p t.kind) _ (and-left _ _ fine) in
    leb-true (cells_in_all p.structures t.parameters) most_parameter_cells (and-right _ _ few)

-- the cells of types are those that the table keeps
pub table-of : (p : Parts) → is_typed_program p ≡ true → is_table p.structures ≡ true
table-of p typed =
    let parts : is_typed_but_for_sites p ≡ true = and-left _ _ (and-left _ _ typed) in
    and-left _ _ (and-right (has_main p.kinds && has_few_parts p) _ (and-left _ _ (and-left _ _ (and-left _ _ parts))))

pub same-cells : (p : Parts) (ts : List DataType) → is_table p.structures ≡ true → cells_all p ts ≡ cells_in_all p.structures ts
same-cells p [] table = refl
same-cells p (t ∷ ts) table = let one = type-cells p.structures t table in let more = same-cells p ts table in omega (arith, one, more)

pub shape-at : (p : Parts) (k : ℕ) (t : Transaction) → slice_get p.transactions k ≡ Some t → slice_get (meaning p).shapes k ≡ Some (shape_of p t)
shape-at p k t e = go p.transactions k e
  where
    go : (ts : List Transaction) (k : ℕ) → slice_get ts k ≡ Some t → slice_get (map (shape_of p) ts) k ≡ Some (shape_of p t)
    go [] k e = cc
    go (x ∷ xs) zero e = cc
    go (x ∷ xs) (suc k) e = go xs k e

pub shape-there : (p : Parts) (k : ℕ) → k < length (meaning p).shapes → slice_get p.transactions k ≡ None → ⊥
shape-there p k lt e = go p.transactions k (subst (λ n. k < n) (length-map p.transactions (shape_of p)) lt) e
  where
    go : (ts : List Transaction) (k : ℕ) → k < length ts → slice_get ts k ≡ None → ⊥
    go [] k lt e = absurd (omega arith)
    go (x ∷ xs) zero lt e = cc
    go (x ∷ xs) (suc k) lt e = go xs k (omega arith) e

pub kind-at : (p : Parts) (k : ℕ) (kind : Kind) → slice_get p.kinds k ≡ Some kind → slice_get (meaning p).kinds k ≡ Some (parameter_cells p kind)
kind-at p k kind e = go p.kinds k e
  where
    go : (ks : List Kind) (k : ℕ) → slice_get ks k ≡ Some kind → slice_get (map (parameter_cells p) ks) k ≡ Some (parameter_cells p kind)
    go [] k e = cc
    go (x ∷ xs) zero e = cc
    go (x ∷ xs) (suc k) e = go xs k e

pub kind-none : (p : Parts) (k : ℕ) → slice_get p.kinds k ≡ None → slice_get (meaning p).kinds k ≡ None
kind-none p k e = go p.kinds k e
  where
    go : (ks : List Kind) (k : ℕ) → slice_get ks k ≡ None → slice_get (map (parameter_cells p) ks) k ≡ None
    go [] zero e = refl
    go [] (suc k) e = refl
    go (x ∷ xs) zero e = cc
    go (x ∷ xs) (suc k) e = go xs k e

-- the parameters of an accept's transaction
pub few-parameters : (p : Parts) (k : ℕ) → is_typed_program p ≡ true
    → cells_in_all p.structures (parameters_at (slice_get p.transactions k)) ≤ most_parameter_cells
few-parameters p k typed = go (slice_get p.transactions k) refl
  where
    go : (o : Option Transaction) → slice_get p.transactions k ≡ o → cells_in_all p.structures (parameters_at o) ≤ most_parameter_cells
    go None e = omega arith
    go (Some t) e = few-cells p k t typed e

-- each kind is typed, at its number
typed-at : (p : Parts) (n : ℕ) (kinds : List Kind) (k : ℕ) (kind : Kind) → are_typed_kinds p n kinds ≡ true → slice_get kinds k ≡ Some kind
    → is_typed_kind p (n + k) kind ≡ true
typed-at p n [] zero kind h e = cc
typed-at p n [] (suc k) kind h e = cc
typed-at p n (x ∷ xs) zero kind h e =
    let same : x ≡ kind = cc in
    let number : n ≡ n + 0 = omega arith in
    ap (λ m. is_typed_kind p m kind) (sym number) ∙ ap (is_typed_kind p n) (sym same) ∙ and-left _ _ h
typed-at p n (x ∷ xs) (suc k) kind h e =
    let number : suc n + k ≡ n + suc k = omega arith in
    ap (λ m. is_typed_kind p m kind) (sym number) ∙ typed-at p (suc n) xs k kind (and-right (is_typed_kind p n x) _ h) e

typed-kind : (p : Parts) (k : ℕ) (kind : Kind) → is_typed_program p ≡ true → slice_get p.kinds k ≡ Some kind → is_typed_kind p k kind ≡ true
typed-kind p k kind typed e =
    let kinds : are_typed_kinds p 0 p.kinds ≡ true =
    and-right (has_main p.kinds && has_few_parts p && are_typed_structures p) _ (and-left _ _ (and-left _ _ (and-left _ _ (and-left _ _ typed)))) in
    let number : 0 + k ≡ k = omega arith in
    ap (λ m. is_typed_kind p m kind) (sym number) ∙ typed-at p 0 p.kinds k kind kinds e

pub few-kind-cells : (p : Parts) (k : ℕ) (kind : Kind) → is_typed_program p ≡ true → slice_get p.kinds k ≡ Some kind
    → cells_in_all p.structures (take kind.parameters kind.variables) ≤ most_parameter_cells
few-kind-cells p k kind typed e =
    let variables : are_variables p kind.parameters kind.variables ≡ true = and-left _ _ (and-left _ _ (typed-kind p k kind typed e)) in
    let few : are_parameters p (take kind.parameters kind.variables) ≡ true =
    and-right (are_few kind.variables && nat_le kind.parameters (length kind.variables)) _ (and-left _ _ variables) in
    leb-true (cells_in_all p.structures (take kind.parameters kind.variables)) most_parameter_cells (and-right _ _ few)

pub body-typed : (p : Parts) (k : ℕ) (kind : Kind) → is_typed_program p ≡ true → slice_get p.kinds k ≡ Some kind
    → list_all (is_typed_statement (in_kind p k kind)) kind.body ≡ true
body-typed p k kind typed e =
    and-right (are_variables p kind.parameters kind.variables && (is_void kind.result || nat_eq k 0 && is_whole p kind.result)) _ (typed-kind p k kind typed e)

pub variables-there : (p : Parts) (k : ℕ) (kind : Kind) → slice_get p.kinds k ≡ Some kind → body_variables p (Some k) ≡ kind.variables
variables-there p k kind e = ap variables_of e

-- the body of a kind, by how many cells its variables have
pub body-many : (p : Parts) (kind : Kind) (args : List ℤ) (grants : List Grant) → is_table p.structures ≡ true
    → most_cells < cells_in_all p.structures kind.variables → body p (Some kind) args grants ≡ Asked (Fault Cells)
body-many p kind args grants table many =
    let test : nat_lt most_cells (cells_all p kind.variables) ≡ true =
    lt-ltb most_cells (cells_all p kind.variables) (omega (arith, many, same-cells p kind.variables table)) in
    ap (λ b. if b then Asked (Fault Cells) else exec_all p (call p most_calls (cells_all p kind.variables)) kind.body (variables_at_start p kind args) (left_at_start grants)) test

pub body-few : (p : Parts) (kind : Kind) (args : List ℤ) (grants : List Grant) (n : ℕ) → is_table p.structures ≡ true
    → n ≡ cells_in_all p.structures kind.variables → n ≤ most_cells
    → body p (Some kind) args grants ≡ exec_all p (call p most_calls n) kind.body (variables_at_start p kind args) (left_at_start grants)
body-few p kind args grants n table is few =
    let all : cells_all p kind.variables ≡ n = omega (arith, is, same-cells p kind.variables table) in
    ap (λ m. if nat_lt most_cells m then Asked (Fault Cells) else exec_all p (call p most_calls m) kind.body (variables_at_start p kind args) (left_at_start grants)) all
    ∙ ap (λ b. if b then Asked (Fault Cells) else exec_all p (call p most_calls n) kind.body (variables_at_start p kind args) (left_at_start grants)) (within n few)
  where
    within : (n : ℕ) → n ≤ most_cells → nat_lt most_cells n ≡ false
    within n le = grind arith

pub value-cells : (structures : List Structure) (t : DataType) → is_straight_value t ≡ true → cells_in structures t ≤ 1
unfolding is_straight_value
value-cells structures Void e = omega arith
value-cells structures (Array f n) e = cc
value-cells structures (Single (item.Number numeric.Char)) e = cc
value-cells structures (Single (item.Number numeric.Int)) e = omega arith
value-cells structures (Single (item.Number numeric.Long)) e = cc
value-cells structures (Single (item.Process k)) e = omega arith
value-cells structures (Single (item.Struct n)) e = cc

pub ruleset tables = (type-cells)

pub ruleset bodies = (table-of, body-typed, variables-there, body-many, body-few)

pub ruleset kinds = (kind-at, kind-none, same-cells, table-of, few-kind-cells)

pub ruleset shaping = (few-cells, few-parameters, value-cells, transaction-value, shape-at, shape-there, same-cells, table-of, type-cells)
