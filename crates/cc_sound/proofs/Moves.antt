-- What an item leaves for those behind it, and that what is declared at the level of items does not look at accepts.
use Rattle.std.proofs.Common.{◌≡◌, ℕ, suc, ◌+◌, ◌≤◌, Bool, true, false, List, [], ◌∷◌, ◌++◌, length, Option, Some, None, Result, ℤ, refl, ap, sym, subst, ◌∙◌, length-append, arith}
use Rattle.std.specs.Prelude.{if◌then◌else◌, nat_eq}
use Rattle.cc_typed.specs.declared.tree.Site.{Site}
use Rattle.cc_typed.specs.declared.types.DataType.{DataType}
use Rattle.cc_typed.specs.declared.types.Structure.{Structure}
use Rattle.cc_faults.specs.Declarations.{Before, after_constant, after_constants, after_enumeration, after_function, after_item, and_constant, before_constants, constant, constant_in, constant_meaning, constant_value, constants, function_heads, head_of, int_type, items_scope, kind_heads, is_async, kind_of, named_enumeration, next_structure, parameters, structure, transaction_heads, transaction_signature, transactions_in, with_enumeration_name, with_structure, with_structure_name}
use Rattle.cc_faults.specs.Judged.{Judged, after_each, both, each_after, found, in_front, map, outcome}
use Rattle.cc_faults.specs.Programs.{Passed, after_body, and_item, body_role, body_types, in_body, no_variables, scope_after}
use Rattle.cc_faults.specs.Programs as programs
use Rattle.cc_faults.specs.Scopes.{Scope, Text, declared, entry_at, is_here, is_there, meaning_at, outermost, with_name}
use Rattle.cc_faults.specs.Statements.{kth}
use Rattle.cc_faults.specs.Statements as statements
use Rattle.cc_faults.specs.declared.fault.FaultAt.{FaultAt}
use Rattle.cc_faults.specs.declared.plain.Constant.{Constant}
use Rattle.cc_faults.specs.declared.plain.Field.{Field}
use Rattle.cc_faults.specs.declared.plain.Identifier.{Identifier}
use Rattle.cc_faults.specs.declared.plain.Item.{Item}
use Rattle.cc_faults.specs.declared.plain.Item.TheVariants as item
use Rattle.cc_faults.specs.declared.plain.Statement.{Statement}
use Rattle.cc_faults.specs.declared.plain.Transaction.{Transaction}
use Rattle.cc_faults.specs.declared.scope.Named.{Named}
use Rattle.cc_sound.proofs.Growth.{front-more, front-on, front-same}
use Rattle.cc_sound.proofs.Passing.{Passes, in-passes, passes-names, passes-on}
use Rattle.cc_sound.specs.Fits.{IsFront}
use Rattle.cc_sound.specs.Sizes.{things_in_block, things_of_item, things_of_items}

pub record Moves (s r : Scope) (n : ℕ) : Type 0 where
  pub structures : IsFront s.structures r.structures
  pub sites : IsFront s.sites r.sites
  pub processes : r.processes_named ≡ s.processes_named
  pub few_structures : length r.structures ≤ length s.structures + n
  pub few_sites : length r.sites ≤ length s.sites + n

moves-same : (s : Scope) (n : ℕ) → Moves s s n
moves-same s n =
    record { structures = front-same s.structures; sites = front-same s.sites; processes = refl; few_structures = omega arith; few_sites = omega arith }

moves-on : (s r q : Scope) (n m : ℕ) → Moves s r n → Moves r q m → Moves s q (n + m)
moves-on s r q n m h i =
    record {
      structures = front-on s.structures r.structures q.structures h.structures i.structures;
      sites = front-on s.sites r.sites q.sites h.sites i.sites;
      processes = i.processes ∙ h.processes;
      few_structures = let a = h.few_structures in let b = i.few_structures in omega (arith, a, b);
      few_sites = let a = h.few_sites in let b = i.few_sites in omega (arith, a, b);
    }

moves-most : (s r : Scope) (n m : ℕ) → n ≤ m → Moves s r n → Moves s r m
moves-most s r n m le h =
    record {
      structures = h.structures;
      sites = h.sites;
      processes = h.processes;
      few_structures = let a = h.few_structures in omega (arith, a, le);
      few_sites = let a = h.few_sites in omega (arith, a, le);
    }

moves-if : (b : Bool) (s r : Scope) (n : ℕ) → Moves s r n → Moves s (if b then s else r) n
moves-if true s r n h = moves-same s n
moves-if false s r n h = h

moves-structure : (s : Scope) (x : Identifier) (r : Result ℕ FaultAt) (fields : List Field) (o : Option Structure) → Moves s (with_structure (with_structure_name s x r) fields o) 1
moves-structure s x r fields None =
    record { structures = front-same s.structures; sites = front-same s.sites; processes = refl; few_structures = omega arith; few_sites = omega arith }
moves-structure s x r fields (Some c) =
    record {
      structures = front-more s.structures c;
      sites = front-same s.sites;
      processes = refl;
      few_structures = let e = length-append s.structures (c ∷ []) in omega (arith, e);
      few_sites = omega arith;
    }

moves-constant : (s : Scope) (before : Result ℤ FaultAt) (c : Constant) → Moves s (after_constant s before c) 0
moves-constant s before c =
    moves-if (is_here items_scope (meaning_at s c.name)) s (with_name items_scope s c.name (constant_meaning (outcome (constant_value s before c)))) 0
    (record { structures = front-same s.structures; sites = front-same s.sites; processes = refl; few_structures = omega arith; few_sites = omega arith })

moves-constants : (b : Before) (cs : List Constant) → Moves b.0 (after_each and_constant b cs).0 0
unfolding after_each
moves-constants b [] = moves-same b.0 0
moves-constants b (c ∷ cs) =
    moves-on b.0 (and_constant b c).0 (after_each and_constant (and_constant b c) cs).0 0 0 (moves-constant b.0 b.1 c) (moves-constants (and_constant b c) cs)

moves-named : (s : Scope) (x : Option Identifier) (r : Result DataType FaultAt) → Moves s (named_enumeration x r s) 0
moves-named s None r = moves-same s 0
moves-named s (Some x) r =
    moves-if (is_there (entry_at s.enumerations_named x)) s (with_enumeration_name s x r) 0
    (record { structures = front-same s.structures; sites = front-same s.sites; processes = refl; few_structures = omega arith; few_sites = omega arith })

moves-function : (s : Scope) (x : Identifier) (o : Option Named) → Moves s (after_function s x o) 0
moves-function s x None = moves-same s 0
moves-function s x (Some n) =
    moves-if (nat_eq n.scope items_scope) s (with_name items_scope s x n.meaning) 0
    (record { structures = front-same s.structures; sites = front-same s.sites; processes = refl; few_structures = omega arith; few_sites = omega arith })

-- the names of a body are declared as those of an accept
pub names-alike : (ts : Judged (List DataType)) (k : ℕ) (s : Scope) (xs : List Identifier) → programs.after_names ts k s xs ≡ statements.after_names 2 ts k s xs
names-alike ts k s [] = refl
names-alike ts k s (x ∷ xs) = names-alike ts (suc k) (declared 2 s x (outcome (map (kth k) ts))) xs

module _ (t : Text) where
  pub body-passes : (s : Scope) (x : Identifier) (xs : List Identifier) (block : List Statement) → Passes (body_role t s x) (no_variables s) (after_body t s x xs block) (length xs + things_in_block block)
  body-passes s x xs block =
      passes-on (body_role t s x) (no_variables s) (in_body s (body_types t s x (length xs)) xs) (after_body t s x xs block) (length xs) (things_in_block block)
      (subst (λ q. Passes (body_role t s x) (no_variables s) q (length xs)) (sym (names-alike (body_types t s x (length xs)) 0 (no_variables s) xs)) (passes-names (body_role t s x) 2 (body_types t s x (length xs)) 0 (no_variables s) xs))
      (in-passes t (outermost (body_role t s x)) (in_body s (body_types t s x (length xs)) xs) block)

  pub item-moves : (s : Scope) (i : Item) → Moves s (scope_after t s i) (things_of_item i)
  item-moves s (item.Structure x fields) =
      moves-if (is_there (entry_at s.structures_named x)) s (with_structure (with_structure_name s x (outcome (map (next_structure s) (structure s x fields)))) fields (found (structure s x fields))) 1
      (moves-structure s x (outcome (map (next_structure s) (structure s x fields))) fields (found (structure s x fields)))
  item-moves s (item.Enumeration x cs) =
      moves-most s (after_enumeration s x cs) 0 1 (omega arith)
      (moves-on s (after_constants s cs) (after_enumeration s x cs) 0 0 (moves-constants (before_constants s) cs) (moves-named (after_constants s cs) x (outcome (map int_type (constants s cs)))))
  item-moves s (item.Specification x ts ds) = moves-same s (suc (length ds))
  item-moves s (item.Body x xs block) =
      let h = body-passes s x xs block in
      record { structures = front-same s.structures; sites = h.grows.sites; processes = refl; few_structures = omega arith; few_sites = let a = h.sites in omega (arith, a) }
  item-moves s (item.Function result x ps block) =
      moves-most s (after_function s x (meaning_at s x)) 0 (suc (length ps + things_in_block block)) (omega arith) (moves-function s x (meaning_at s x))

  pub items-move : (b : Passed) (items : List Item) → Moves b.scope (after_each (and_item t) b items).scope (things_of_items items)
  unfolding after_each
  items-move b [] = moves-same b.scope 0
  items-move b (i ∷ rest) =
      moves-on b.scope (scope_after t b.scope i) (after_each (and_item t) (and_item t b i) rest).scope (things_of_item i) (things_of_items rest) (item-moves b.scope i) (items-move (and_item t b i) rest)

-- ---- with other accepts

abbrev pub with_these : Scope → List Site → Scope
with_these s xs = record s { sites = xs }

like-if : (b : Bool) (s r q : Scope) (xs : List Site) → q ≡ with_these r xs → (if b then with_these s xs else q) ≡ with_these (if b then s else r) xs
like-if true s r q xs e = refl
like-if false s r q xs e = e

like-structure : (s : Scope) (xs : List Site) (x : Identifier) (r : Result ℕ FaultAt) (fields : List Field) (o : Option Structure) → with_structure (with_structure_name (with_these s xs) x r) fields o ≡ with_these (with_structure (with_structure_name s x r) fields o) xs
like-structure s xs x r fields None = refl
like-structure s xs x r fields (Some c) = refl

like-constants : (s : Scope) (xs : List Site) (before : Result ℤ FaultAt) (cs : List Constant) → (after_each and_constant (with_these s xs, before) cs).0 ≡ with_these (after_each and_constant (s, before) cs).0 xs
unfolding after_each
like-constants s xs before [] = refl
like-constants s xs before (c ∷ cs) =
    ap (λ q. (after_each and_constant (q, outcome (constant_value s before c)) cs).0) (like-if (is_here items_scope (meaning_at s c.name)) s (with_name items_scope s c.name (constant_meaning (outcome (constant_value s before c)))) (with_name items_scope (with_these s xs) c.name (constant_meaning (outcome (constant_value s before c)))) xs refl)
    ∙ like-constants (after_constant s before c) xs (outcome (constant_value s before c)) cs

values-like : (s : Scope) (xs : List Site) (before : Result ℤ FaultAt) (cs : List Constant) → each_after constant_in and_constant (with_these s xs, before) cs ≡ each_after constant_in and_constant (s, before) cs
unfolding each_after
values-like s xs before [] = refl
values-like s xs before (c ∷ cs) =
    ap (λ q. map in_front (both (constant s before c) (each_after constant_in and_constant (q, outcome (constant_value s before c)) cs)))
    (like-if (is_here items_scope (meaning_at s c.name)) s (with_name items_scope s c.name (constant_meaning (outcome (constant_value s before c)))) (with_name items_scope (with_these s xs) c.name (constant_meaning (outcome (constant_value s before c)))) xs refl)
    ∙ ap (λ j. map in_front (both (constant s before c) j)) (values-like (after_constant s before c) xs (outcome (constant_value s before c)) cs)

like-named : (s : Scope) (xs : List Site) (x : Option Identifier) (r : Result DataType FaultAt) → named_enumeration x r (with_these s xs) ≡ with_these (named_enumeration x r s) xs
like-named s xs None r = refl
like-named s xs (Some x) r =
    like-if (is_there (entry_at s.enumerations_named x)) s (with_enumeration_name s x r) (with_enumeration_name (with_these s xs) x r) xs refl

like-function : (s : Scope) (xs : List Site) (x : Identifier) (o : Option Named) → after_function (with_these s xs) x o ≡ with_these (after_function s x o) xs
like-function s xs x None = refl
like-function s xs x (Some n) =
    like-if (nat_eq n.scope items_scope) s (with_name items_scope s x n.meaning) (with_name items_scope (with_these s xs) x n.meaning) xs refl

pub item-like : (s : Scope) (xs : List Site) (i : Item) → after_item (with_these s xs) i ≡ with_these (after_item s i) xs
item-like s xs (item.Structure x fields) =
    like-if (is_there (entry_at s.structures_named x)) s (with_structure (with_structure_name s x (outcome (map (next_structure s) (structure s x fields)))) fields (found (structure s x fields))) (with_structure (with_structure_name (with_these s xs) x (outcome (map (next_structure s) (structure s x fields)))) fields (found (structure s x fields))) xs
    (like-structure s xs x (outcome (map (next_structure s) (structure s x fields))) fields (found (structure s x fields)))
item-like s xs (item.Enumeration x cs) =
    ap (λ j. named_enumeration x (outcome (map int_type j)) (after_constants (with_these s xs) cs)) (values-like s xs (before_constants s).1 cs)
    ∙ ap (named_enumeration x (outcome (map int_type (constants s cs)))) (like-constants s xs (before_constants s).1 cs)
    ∙ like-named (after_constants s cs) xs x (outcome (map int_type (constants s cs)))
item-like s xs (item.Specification x ts ds) = refl
item-like s xs (item.Body x names block) = refl
item-like s xs (item.Function result x ps block) = like-function s xs x (meaning_at s x)

head-like : (s : Scope) (xs : List Site) (i : Item) → head_of (with_these s xs) i ≡ head_of s i
head-like s xs (item.Structure x fields) = refl
head-like s xs (item.Enumeration x cs) = refl
head-like s xs (item.Specification x ts ds) = refl
head-like s xs (item.Body x names block) = refl
head-like s xs (item.Function result x ps block) = refl

pub functions-like : (s : Scope) (xs : List Site) (items : List Item) → function_heads (with_these s xs) items ≡ function_heads s items
functions-like s xs [] = refl
functions-like s xs (i ∷ rest) =
    ap (λ h. h ++ function_heads (after_item (with_these s xs) i) rest) (head-like s xs i)
    ∙ ap (λ q. head_of s i ++ function_heads q rest) (item-like s xs i)
    ∙ ap (λ l. head_of s i ++ l) (functions-like (after_item s i) xs rest)

kind-like : (s : Scope) (xs : List Site) (n : ℕ) (i : Item) → kind_of (with_these s xs) n i ≡ kind_of s n i
kind-like s xs n (item.Structure x fields) = refl
kind-like s xs n (item.Enumeration x cs) = refl
kind-like s xs n (item.Specification x ts ds) = ap (λ h. record { count = length ts; parameters = outcome (parameters s x ts); transactions = h } ∷ []) (lines n ds)
  where
    lines : (m : ℕ) (es : List Transaction) → transaction_heads (with_these s xs) m es ≡ transaction_heads s m es
    lines m [] = refl
    lines m (e ∷ es) = ap (λ h. record { name = e.name.name; number = m; is_async = is_async e.result; signature = outcome (transaction_signature s e) } ∷ h) (lines (suc m) es)
kind-like s xs n (item.Body x names block) = refl
kind-like s xs n (item.Function result x ps block) = refl

pub kinds-like : (s : Scope) (xs : List Site) (n : ℕ) (items : List Item) → kind_heads (with_these s xs) n items ≡ kind_heads s n items
kinds-like s xs n [] = refl
kinds-like s xs n (i ∷ rest) =
    ap (λ h. h ++ kind_heads (after_item (with_these s xs) i) (n + transactions_in i) rest) (kind-like s xs n i)
    ∙ ap (λ q. kind_of s n i ++ kind_heads q (n + transactions_in i) rest) (item-like s xs i)
    ∙ ap (λ l. kind_of s n i ++ l) (kinds-like (after_item s i) xs (n + transactions_in i) rest)

-- the heads behind an item, where its accepts are counted
pub functions-behind : (t : Text) (s : Scope) (i : Item) (items : List Item) → function_heads (scope_after t s i) items ≡ function_heads (after_item s i) items
functions-behind t s (item.Structure x fields) items = refl
functions-behind t s (item.Enumeration x cs) items = refl
functions-behind t s (item.Specification x ts ds) items = refl
functions-behind t s (item.Body x names block) items = functions-like s (after_body t s x names block).sites items
functions-behind t s (item.Function result x ps block) items = refl

pub kinds-behind : (t : Text) (s : Scope) (n : ℕ) (i : Item) (items : List Item) → kind_heads (scope_after t s i) n items ≡ kind_heads (after_item s i) n items
kinds-behind t s n (item.Structure x fields) items = refl
kinds-behind t s n (item.Enumeration x cs) items = refl
kinds-behind t s n (item.Specification x ts ds) items = refl
kinds-behind t s n (item.Body x names block) items = kinds-like s (after_body t s x names block).sites n items
kinds-behind t s n (item.Function result x ps block) items = refl
