-- What is visible among the items of a text: names lead to what is there.
use Rattle.std.proofs.Common.{◌≡◌, ◌⊎◌, inl, inr, ℕ, zero, suc, ◌+◌, ◌<◌, Bool, true, false, List, [], ◌∷◌, ◌++◌, length, Option, Some, None, Result, Ok, Err, ℤ, refl, ap, sym, subst, ◌∙◌, length-append, arith}
use Rattle.std.specs.Prelude.{if◌then◌else◌, nat_eq, nat_lt, slice_get}
use Rattle.cc_base.specs.Numbers.{fits}
use Rattle.cc_typed.specs.KnownTypes.{is_process_type}
use Rattle.cc_typed.specs.Parts.{Parts}
use Rattle.cc_typed.specs.Table.{cells_in, fields_of}
use Rattle.cc_typed.specs.Types.{Int}
use Rattle.cc_typed.specs.declared.types.DataType.{DataType}
use Rattle.cc_typed.specs.declared.types.Structure.{Structure}
use Rattle.cc_faults.proofs.Holds.{Holds, holds-checked}
use Rattle.cc_faults.specs.Declarations.{Before, after_constant, after_constants, after_function, after_item, and_constant, and_field, before_constants, constant_meaning, constant_value, constants, field, field_names, int_type, items_scope, laid_out, named_enumeration, next_structure, structure, structure_of, value_set, with_enumeration_name, with_structure, with_structure_name}
use Rattle.cc_faults.specs.Judged.{Judged, Good, Bad, after_each, answer, each_after, found, map, outcome}
use Rattle.cc_faults.specs.Programs.{scope_after}
use Rattle.cc_faults.specs.Rows.{names_of, structure_not_large, value_in_range}
use Rattle.cc_faults.specs.Scopes.{Scope, Text, entry_at, is_here, is_there, meaning_at, with_name}
use Rattle.cc_faults.specs.declared.fault.FaultAt.{FaultAt}
use Rattle.cc_faults.specs.declared.fault.TypeKind.TheVariants as kind
use Rattle.cc_faults.specs.declared.plain.Constant.{Constant}
use Rattle.cc_faults.specs.declared.plain.Field.{Field}
use Rattle.cc_faults.specs.declared.plain.Identifier.{Identifier}
use Rattle.cc_faults.specs.declared.plain.Item.{Item}
use Rattle.cc_faults.specs.declared.plain.Item.TheVariants as item
use Rattle.cc_faults.specs.declared.scope.Meaning.{Meaning}
use Rattle.cc_faults.specs.declared.scope.Meaning.TheVariants as meaning
use Rattle.cc_faults.specs.declared.scope.Named.{Named}
use Rattle.cc_sound.proofs.Goods.{good-checked, good-map, good-outcome, good-unless, good-walk, walk-length}
use Rattle.cc_sound.proofs.Growth.{entry-set, names-set}
use Rattle.cc_sound.proofs.Rows.{holds-unless}
use Rattle.cc_sound.proofs.Types.{holds-all}
use Rattle.cc_sound.specs.Fits.{AreThere, IsFront, IsThere, ScopeFits}

pub record Level (t : Text) (p : Parts) (s : Scope) : Type 0 where
  pub names : AreThere (length t.functions) s
  pub outside : (x : Identifier) (n : Named) → meaning_at s x ≡ Some n → nat_lt n.scope 2 ≡ true
  pub structures_named : (x : Identifier) (n : ℕ) → entry_at s.structures_named x ≡ Some (Ok n) → n < length s.structures
  pub processes_named : (x : Identifier) (k : ℕ) → entry_at s.processes_named x ≡ Some k → is_process_type p k ≡ true
  pub enumerations_named : (x : Identifier) (u : DataType) → entry_at s.enumerations_named x ≡ Some (Ok u) → u ≡ Int
  pub each_member : length s.members ≡ length s.structures
  pub members : (n : ℕ) → length (names_of (slice_get s.members n)) ≡ length (fields_of (slice_get s.structures n))
  pub no_variables : s.variables ≡ []

pub level-fits : (t : Text) (p : Parts) (s : Scope) → Level t p s → IsFront s.structures p.structures → ScopeFits t s p
level-fits t p s h front =
    record { names = h.names; structures_named = h.structures_named; processes_named = h.processes_named; enumerations_named = h.enumerations_named; members = h.members; structures = front }

abbrev numbered : ℕ → Result ℕ FaultAt
numbered n = Ok n

abbrev failed : FaultAt → Result ℕ FaultAt
failed f = Err f

module _ (t : Text) (p : Parts) where
  level-if : (b : Bool) (s r : Scope) → Level t p s → Level t p r → Level t p (if b then s else r)
  level-if true s r h i = h
  level-if false s r h i = i

  -- ---- names

  level-name : (s : Scope) (x : Identifier) (d : Meaning) → IsThere (length t.functions) (length s.variables) d → Level t p s → Level t p (with_name items_scope s x d)
  level-name s x d there h =
      record {
        names = names-set (length t.functions) (length s.variables) (length s.variables) s x (record { scope = items_scope; meaning = d }) (omega arith) there h.names;
        outside = λ y n e. which n (entry-set s.names x.name (record { scope = items_scope; meaning = d }) y.name n e) (h.outside y n);
        structures_named = h.structures_named;
        processes_named = h.processes_named;
        enumerations_named = h.enumerations_named;
        each_member = h.each_member;
        members = h.members;
        no_variables = h.no_variables;
      }
    where
      which : (n : Named) {o : Option Named} → ((record { scope = items_scope; meaning = d } ≡ n) ⊎ (o ≡ Some n)) → (o ≡ Some n → nat_lt n.scope 2 ≡ true) → nat_lt n.scope 2 ≡ true
      which n (inl same) go = ap (λ (m : Named). nat_lt m.scope 2) (sym same)
      which n (inr old) go = go old

  level-function : (s : Scope) (x : Identifier) (o : Option Named) → meaning_at s x ≡ o → Level t p s → Level t p (after_function s x o)
  level-function s x None e h = h
  level-function s x (Some n) e h =
      level-if (nat_eq n.scope items_scope) s (with_name items_scope s x n.meaning) h (level-name s x n.meaning (h.names x n e) h)

  -- ---- constants

  constant-there : (j : Judged ℤ) → Holds (λ n. fits 31 n ≡ true) j → IsThere (length t.functions) 0 (constant_meaning (outcome j))
  constant-there (Good n) h = h
  constant-there (Bad own f fs) h = tt

  value-fits : (s : Scope) (before : Result ℤ FaultAt) (c : Constant) → Holds (λ n. fits 31 n ≡ true) (constant_value s before c)
  value-fits s before c =
      holds-checked (λ n. Unit {0}) (λ n. fits 31 n ≡ true) (value_set s before c.name c.value) (value_in_range c.name) (holds-all (λ n. Unit {0}) (value_set s before c.name c.value) (λ n. tt))
      (λ n u. holds-unless (λ m. fits 31 m ≡ true) (fits 31 n) c.name.place kind.EnumRange n (λ e. e))

  constant-any : (v : ℕ) (d : Meaning) → IsThere (length t.functions) 0 d → IsThere (length t.functions) v d
  constant-any v (meaning.Variable n) h = absurd (omega (arith, h))
  constant-any v (meaning.Constant n) h = h
  constant-any v (meaning.Function f) h = h
  constant-any v meaning.Main h = tt
  constant-any v (meaning.Typeless f) h = tt
  constant-any v (meaning.Valueless f) h = tt

  level-constant : (s : Scope) (before : Result ℤ FaultAt) (c : Constant) → Level t p s → Level t p (after_constant s before c)
  level-constant s before c h =
      level-if (is_here items_scope (meaning_at s c.name)) s (with_name items_scope s c.name (constant_meaning (outcome (constant_value s before c)))) h
      (level-name s c.name (constant_meaning (outcome (constant_value s before c))) (constant-any (length s.variables) (constant_meaning (outcome (constant_value s before c))) (constant-there (constant_value s before c) (value-fits s before c))) h)

  level-constants : (b : Before) (cs : List Constant) → Level t p b.0 → Level t p (after_each and_constant b cs).0
  unfolding after_each
  level-constants b [] h = h
  level-constants b (c ∷ cs) h = level-constants (and_constant b c) cs (level-constant b.0 b.1 c h)

  -- ---- enumerations

  level-enumeration : (s : Scope) (x : Identifier) (r : Result DataType FaultAt) → ((u : DataType) → r ≡ Ok u → u ≡ Int) → Level t p s → Level t p (with_enumeration_name s x r)
  level-enumeration s x r go h =
      record {
        names = h.names;
        outside = h.outside;
        structures_named = h.structures_named;
        processes_named = h.processes_named;
        enumerations_named = λ y u e. which u (entry-set s.enumerations_named x.name r y.name (Ok u) e) (h.enumerations_named y u);
        each_member = h.each_member;
        members = h.members;
        no_variables = h.no_variables;
      }
    where
      which : (u : DataType) {o : Option (Result DataType FaultAt)} → ((r ≡ Ok u) ⊎ (o ≡ Some (Ok u))) → (o ≡ Some (Ok u) → u ≡ Int) → u ≡ Int
      which u (inl same) old = go u same
      which u (inr e) old = old e

  level-named : (s : Scope) (x : Option Identifier) (r : Result DataType FaultAt) → ((u : DataType) → r ≡ Ok u → u ≡ Int) → Level t p s → Level t p (named_enumeration x r s)
  level-named s None r go h = h
  level-named s (Some x) r go h =
      level-if (is_there (entry_at s.enumerations_named x)) s (with_enumeration_name s x r) h (level-enumeration s x r go h)

  int-outcome : (j : Judged (List ℤ)) (u : DataType) → outcome (map int_type j) ≡ Ok u → u ≡ Int
  int-outcome j u e = (good-map int_type j u (good-outcome (map int_type j) u e)).2

  -- ---- structures

  members-more : (ms : List (List ℕ)) (ss : List Structure) (m : List ℕ) (c : Structure) → length ms ≡ length ss → ((n : ℕ) → length (names_of (slice_get ms n)) ≡ length (fields_of (slice_get ss n))) → length m ≡ length c.fields
      → (n : ℕ) → length (names_of (slice_get (ms ++ m ∷ []) n)) ≡ length (fields_of (slice_get (ss ++ c ∷ []) n))
  members-more [] [] m c e go same zero = same
  members-more [] [] m c e go same (suc n) = refl
  members-more [] (s ∷ ss) m c e go same n = absurd (omega (arith, e))
  members-more (k ∷ ms) [] m c e go same n = absurd (omega (arith, e))
  members-more (k ∷ ms) (s ∷ ss) m c e go same zero = go zero
  members-more (k ∷ ms) (s ∷ ss) m c e go same (suc n) =
      members-more ms ss m c (omega (arith, e)) (λ i. go (suc i)) same n

  laid-length : (ss : List Structure) (before : ℕ) (ts : List DataType) → length (laid_out ss before ts) ≡ length ts
  laid-length ss before [] = refl
  laid-length ss before (u ∷ ts) = ap suc (laid-length ss (before + cells_in ss u) ts)

  names-length : (fields : List Field) → length (field_names fields) ≡ length fields
  names-length [] = refl
  names-length (f ∷ fs) = ap suc (names-length fs)

  -- what is found of a structure has its fields, laid out in order
  pub structure-made : (s : Scope) (x : Identifier) (fields : List Field) (c : Structure) → structure s x fields ≡ Good c → (ts : List DataType) × (each_after (field s) and_field [] fields ≡ Good ts) × (c ≡ structure_of s ts) × (structure_not_large x c ≡ Good c)
  structure-made s x fields c e =
      let a = good-checked (map (structure_of s) (each_after (field s) and_field [] fields)) (structure_not_large x) c e in
      let b = good-map (structure_of s) (each_after (field s) and_field [] fields) a.0 a.1 in
      let same = (good-unless _ x.place kind.LargeType a.0 c a.2).1 in
      (b.0, b.1, sym same ∙ b.2, subst (λ d. structure_not_large x d ≡ Good c) same a.2)

  fields-found : (s : Scope) (x : Identifier) (fields : List Field) (c : Structure) → structure s x fields ≡ Good c → length (field_names fields) ≡ length c.fields
  fields-found s x fields c e =
      let m = structure-made s x fields c e in
      names-length fields
      ∙ walk-length (λ r f u. field s r f ≡ Good u) and_field [] fields m.0 (good-walk (field s) and_field [] fields m.0 m.1)
      ∙ sym (laid-length s.structures 0 m.0) ∙ ap (λ (d : Structure). length d.fields) (sym m.2)

  level-unnamed : (s : Scope) (x : Identifier) (f : FaultAt) → Level t p s → Level t p (with_structure_name s x (Err f))
  level-unnamed s x f h =
      record {
        names = h.names;
        outside = h.outside;
        structures_named = λ y n e. which n (entry-set s.structures_named x.name (Err f) y.name (Ok n) e) (h.structures_named y n);
        processes_named = h.processes_named;
        enumerations_named = h.enumerations_named;
        each_member = h.each_member;
        members = h.members;
        no_variables = h.no_variables;
      }
    where
      which : (n : ℕ) {o : Option (Result ℕ FaultAt)} → ((failed f ≡ numbered n) ⊎ (o ≡ Some (numbered n))) → (o ≡ Some (numbered n) → n < length s.structures) → n < length s.structures
      which n (inl same) old = absurd (cc)
      which n (inr e) old = old e

  structure-added : (s : Scope) (x : Identifier) (fields : List Field) (j : Judged Structure) → ((c : Structure) → j ≡ Good c → length (field_names fields) ≡ length c.fields) → Level t p s → Level t p (with_structure (with_structure_name s x (outcome (map (next_structure s) j))) fields (found j))
  unfolding map answer
  structure-added s x fields (Bad true f fs) go h = level-unnamed s x f h
  structure-added s x fields (Bad false f fs) go h = level-unnamed s x f h
  structure-added s x fields (Good c) go h =
      record {
        names = h.names;
        outside = h.outside;
        structures_named = λ y n e. which n (entry-set s.structures_named x.name (Ok (length s.structures)) y.name (Ok n) e) (h.structures_named y n);
        processes_named = h.processes_named;
        enumerations_named = h.enumerations_named;
        each_member = let a = length-append s.members (field_names fields ∷ []) in let b = length-append s.structures (c ∷ []) in let e = h.each_member in omega (arith, a, b, e);
        members = members-more s.members s.structures (field_names fields) c h.each_member h.members (go c refl);
        no_variables = h.no_variables;
      }
    where
      which : (n : ℕ) {o : Option (Result ℕ FaultAt)} → ((numbered (length s.structures) ≡ numbered n) ⊎ (o ≡ Some (numbered n))) → (o ≡ Some (numbered n) → n < length s.structures) → n < length (s.structures ++ c ∷ [])
      which n (inl same) old = let e = length-append s.structures (c ∷ []) in let f : length s.structures ≡ n = cc in omega (arith, e, f)
      which n (inr i) old = let e = length-append s.structures (c ∷ []) in let lt = old i in omega (arith, e, lt)

  -- ---- items

  pub level-item : (s : Scope) (i : Item) → Level t p s → Level t p (after_item s i)
  level-item s (item.Structure x fields) h =
      level-if (is_there (entry_at s.structures_named x)) s (with_structure (with_structure_name s x (outcome (map (next_structure s) (structure s x fields)))) fields (found (structure s x fields))) h
      (structure-added s x fields (structure s x fields) (fields-found s x fields) h)
  level-item s (item.Enumeration x cs) h =
      level-named (after_constants s cs) x (outcome (map int_type (constants s cs))) (int-outcome (constants s cs)) (level-constants (before_constants s) cs h)
  level-item s (item.Specification x ts ds) h = h
  level-item s (item.Body x names block) h = h
  level-item s (item.Function result x ps block) h = level-function s x (meaning_at s x) refl h

  pub level-after : (s : Scope) (i : Item) → Level t p s → Level t p (scope_after t s i)
  level-after s (item.Structure x fields) h = level-item s (item.Structure x fields) h
  level-after s (item.Enumeration x cs) h = level-item s (item.Enumeration x cs) h
  level-after s (item.Specification x ts ds) h = level-item s (item.Specification x ts ds) h
  level-after s (item.Body x names block) h =
      record { names = h.names; outside = h.outside; structures_named = h.structures_named; processes_named = h.processes_named; enumerations_named = h.enumerations_named; each_member = h.each_member; members = h.members; no_variables = h.no_variables }
  level-after s (item.Function result x ps block) h = level-item s (item.Function result x ps block) h
