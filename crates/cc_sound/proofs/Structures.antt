-- The structures of a text without a fault are a table, with fields of known types.
use Rattle.std.proofs.Common.{◌≡◌, ℕ, suc, ◌+◌, ◌*◌, ◌≤◌, Bool, true, false, not, ◌&&◌, List, [], ◌∷◌, ◌++◌, length, Option, Some, None, Result, refl, ap, sym, subst, ◌∙◌, arith}
use Rattle.std.proofs.lemmas.Bool.{and_from, eq-eqb, le-leb, leb-true}
use Rattle.std.specs.List.{list_all}
use Rattle.std.specs.Prelude.{if◌then◌else◌, nat_eq, nat_le}
use Rattle.cc_base.specs.Limits.{most_type_cells}
use Rattle.cc_typed.proofs.Tables.{left, right}
use Rattle.cc_typed.specs.KnownTypes.{is_known, is_known_field, is_known_structure}
use Rattle.cc_typed.specs.Parts.{Parts}
use Rattle.cc_typed.specs.Sequences.{is_empty}
use Rattle.cc_typed.specs.Table.{are_fields, are_structures, cells_in, cells_in_all, is_below}
use Rattle.cc_typed.specs.declared.types.DataType.{DataType}
use Rattle.cc_typed.specs.declared.types.DataType.TheVariants.{Void, Single, Array}
use Rattle.cc_typed.specs.declared.types.Structure.{Structure}
use Rattle.cc_faults.proofs.Holds.{Holds}
use Rattle.cc_faults.specs.Declarations.{Before, after_constants, after_function, and_constant, and_field, before_constants, constant_meaning, constant_value, constants, field, field_with, int_type, items_scope, laid_out, named_enumeration, next_structure, structure, unused, with_enumeration_name, with_structure, with_structure_name}
use Rattle.cc_faults.specs.Judged.{Judged, Good, Bad, after_each, answer, both, found, map, outcome, second}
use Rattle.cc_faults.specs.Programs.{Passed, and_item, scope_after}
use Rattle.cc_faults.specs.Scopes.{Scope, Text, entry_at, is_here, is_there, meaning_at, with_name}
use Rattle.cc_faults.specs.declared.fault.FaultAt.{FaultAt}
use Rattle.cc_faults.specs.declared.fault.TypeKind.TheVariants as kind
use Rattle.cc_faults.specs.declared.plain.Constant.{Constant}
use Rattle.cc_faults.specs.declared.plain.Field.{Field}
use Rattle.cc_faults.specs.declared.plain.Identifier.{Identifier}
use Rattle.cc_faults.specs.declared.plain.Item.{Item}
use Rattle.cc_faults.specs.declared.plain.Item.TheVariants as item
use Rattle.cc_faults.specs.declared.plain.Length.{Length}
use Rattle.cc_faults.specs.declared.scope.Named.{Named}
use Rattle.cc_sound.proofs.Accepts.{holds-at}
use Rattle.cc_sound.proofs.Goods.{AreWalked, good-both, good-map, good-unless, good-walk, walk-length}
use Rattle.cc_sound.proofs.Growth.{all-append, front-on}
use Rattle.cc_sound.proofs.Heads.{false-true}
use Rattle.cc_sound.proofs.Levels.{Level, level-after, level-fits, structure-made}
use Rattle.cc_sound.proofs.Moves.{items-move}
use Rattle.cc_sound.proofs.Types.{IsKnown, array-known, element-same, value-known}
use Rattle.cc_sound.specs.Fits.{IsFront, ScopeFits}
use Rattle.cc_sound.specs.Formed.{is_formed_item}

module _ (t : Text) (s : Scope) (p : Parts) (here : ScopeFits t s p) where
  -- a type of structures that were declared before has the cells that it has in the end
  pub cells-same : (u : DataType) → is_below (length s.structures) u ≡ true → cells_in s.structures u ≡ cells_in p.structures u
  cells-same Void h = false-true h
  cells-same (Single e) h = element-same t s p here e h
  cells-same (Array e n) h = ap (λ m. n * m) (element-same t s p here e h)

  pub all_cells-same : (us : List DataType) → list_all (is_below (length s.structures)) us ≡ true → cells_in_all s.structures us ≡ cells_in_all p.structures us
  all_cells-same [] h = refl
  all_cells-same (u ∷ us) h =
      ap (λ n. n + cells_in_all s.structures us) (cells-same u (left _ _ h))
      ∙ ap (λ n. cells_in p.structures u + n) (all_cells-same us (right _ _ h))

  fields-laid : (before : ℕ) (ts : List DataType) → list_all (is_below (length s.structures)) ts ≡ true → before + cells_in_all s.structures ts ≤ most_type_cells → are_fields p.structures (length s.structures) before (laid_out s.structures before ts) (before + cells_in_all s.structures ts) ≡ true
  fields-laid before [] h le = eq-eqb before (before + 0) (omega arith)
  fields-laid before (u ∷ ts) h le =
      and_from _ _ here_laid
      (ap (λ n. are_fields p.structures (length s.structures) (before + n) (laid_out s.structures (before + cells_in s.structures u) ts) (before + (cells_in s.structures u + cells_in_all s.structures ts))) (sym (cells-same u (left _ _ h)))
      ∙ ap (λ n. are_fields p.structures (length s.structures) (before + cells_in s.structures u) (laid_out s.structures (before + cells_in s.structures u) ts) n) sums
      ∙ fields-laid (before + cells_in s.structures u) ts (right _ _ h) (omega (arith, le)))
    where
      sums : before + (cells_in s.structures u + cells_in_all s.structures ts) ≡ (before + cells_in s.structures u) + cells_in_all s.structures ts
      sums = omega arith

      here_laid : (is_below (length s.structures) u && (nat_eq before before && nat_le (before + cells_in p.structures u) most_type_cells)) ≡ true
      here_laid =
          and_from _ _ (left _ _ h)
          (and_from _ _ (eq-eqb before before refl)
          (ap (λ n. nat_le (before + n) most_type_cells) (sym (cells-same u (left _ _ h))) ∙ le-leb (before + cells_in s.structures u) most_type_cells (omega (arith, le))))

  fields-known : (before : ℕ) (ts : List DataType) → list_all (is_known p) ts ≡ true → list_all (is_known_field p) (laid_out s.structures before ts) ≡ true
  fields-known before [] h = refl
  fields-known before (u ∷ ts) h =
      and_from _ _ (left _ _ h) (fields-known (before + cells_in s.structures u) ts (right _ _ h))

  some-fields : (before : ℕ) (fields : List Field) (ts : List DataType) → length fields ≡ length ts → not (is_empty fields) ≡ true → not (is_empty (laid_out s.structures before ts)) ≡ true
  some-fields before [] ts e h = false-true h
  some-fields before (f ∷ fs) [] e h = absurd (omega (arith, e))
  some-fields before (f ∷ fs) (u ∷ ts) e h = refl

  with-known : (f : Field) (o : Option Length) → Holds (IsKnown t s p here) (field_with s f o)
  with-known f None = value-known t s p here f.of
  with-known f (Some n) = array-known t s p here f.of f.name n

  field-known : (before : List ℕ) (f : Field) (u : DataType) → field s before f ≡ Good u → IsKnown t s p here u
  field-known before f u e =
      let m = good-map second (both (unused before f.name) (field_with s f f.length)) u e in
      let b = good-both (unused before f.name) (field_with s f f.length) m.0 m.1 in
      subst (IsKnown t s p here) (sym m.2) (holds-at (IsKnown t s p here) (field_with s f f.length) (m.0).1 (with-known f f.length) b.1)

  types-known : (before : List ℕ) (fields : List Field) (ts : List DataType) → AreWalked (λ r f u. field s r f ≡ Good u) and_field before fields ts → (list_all (is_known p) ts ≡ true) × (list_all (is_below (length s.structures)) ts ≡ true)
  types-known before [] [] h = (refl, refl)
  types-known before [] (u ∷ ts) h = absurd h
  types-known before (f ∷ fs) [] h = absurd h
  types-known before (f ∷ fs) (u ∷ ts) h =
      let a = field-known before f u h.0 in
      let b = types-known (and_field before f) fs ts h.1 in (and_from _ _ a.0 b.0, and_from _ _ a.1 b.1)

  structure-typed : (x : Identifier) (fields : List Field) (c : Structure) → not (is_empty fields) ≡ true → structure s x fields ≡ Good c → (are_fields p.structures (length s.structures) 0 c.fields c.cells ≡ true) × (is_known_structure p c ≡ true)
  structure-typed x fields c form e =
      let m = structure-made t p s x fields c e in
      let walked = good-walk (field s) and_field [] fields m.0 m.1 in
      let known = types-known [] fields m.0 walked in
      let large = good-unless (nat_le c.cells most_type_cells) x.place kind.LargeType c c m.3 in
      let sized = leb-true c.cells most_type_cells large.0 in
      let cells = ap (λ (d : Structure). d.cells) m.2 in
      subst (λ (d : Structure). (are_fields p.structures (length s.structures) 0 d.fields d.cells ≡ true) × (is_known_structure p d ≡ true)) (sym m.2) (
        ap (λ n. are_fields p.structures (length s.structures) 0 (laid_out s.structures 0 m.0) n) (plain (cells_in_all s.structures m.0)) ∙ fields-laid 0 m.0 known.1 (omega (arith, sized, cells)),
        and_from _ _ (some-fields 0 fields m.0 (walk-length (λ r f u. field s r f ≡ Good u) and_field [] fields m.0 walked) form) (fields-known 0 m.0 known.0),
      )
    where
      plain : (n : ℕ) → n ≡ 0 + n
      plain n = omega arith

module _ (t : Text) (p : Parts) where
  -- structures of the table in the end
  abbrev pub AreTabled : List Structure → Type 0
  AreTabled ss =
      (are_structures p.structures 0 ss ≡ true) × (list_all (is_known_structure p) ss ≡ true)

  structures-more : (n : ℕ) (ss : List Structure) (c : Structure) → are_structures p.structures n ss ≡ true → are_fields p.structures (n + length ss) 0 c.fields c.cells ≡ true → are_structures p.structures n (ss ++ c ∷ []) ≡ true
  structures-more n [] c h i =
      let e : n + 0 ≡ n = omega arith in and_from _ _ (ap (λ m. are_fields p.structures m 0 c.fields c.cells) (sym e) ∙ i) refl
  structures-more n (s ∷ ss) c h i =
      let e : n + suc (length ss) ≡ suc n + length ss = omega arith in
      and_from _ _ (left _ _ h) (structures-more (suc n) ss c (right _ _ h) (ap (λ m. are_fields p.structures m 0 c.fields c.cells) (sym e) ∙ i))

  tabled-added : (s : Scope) (x : Identifier) (fields : List Field) (j : Judged Structure) → ((c : Structure) → j ≡ Good c → (are_fields p.structures (length s.structures) 0 c.fields c.cells ≡ true) × (is_known_structure p c ≡ true)) → AreTabled s.structures
      → AreTabled (with_structure (with_structure_name s x (outcome (map (next_structure s) j))) fields (found j)).structures
  unfolding map answer
  tabled-added s x fields (Good c) go h =
      (structures-more 0 s.structures c h.0 (ap (λ m. are_fields p.structures m 0 c.fields c.cells) plain ∙ (go c refl).0), all-append (is_known_structure p) s.structures c h.1 (go c refl).1)
    where
      plain : 0 + length s.structures ≡ length s.structures
      plain = omega arith
  tabled-added s x fields (Bad true f fs) go h = h
  tabled-added s x fields (Bad false f fs) go h = h

  same-if : (b : Bool) (s r q : Scope) → s.structures ≡ q.structures → r.structures ≡ q.structures → (if b then s else r).structures ≡ q.structures
  same-if true s r q e f = e
  same-if false s r q e f = f

  same-constants : (b : Before) (cs : List Constant) → (after_each and_constant b cs).0.structures ≡ b.0.structures
  unfolding after_each
  same-constants b [] = refl
  same-constants b (c ∷ cs) =
      same-constants (and_constant b c) cs
      ∙ same-if (is_here items_scope (meaning_at b.0 c.name)) b.0 (with_name items_scope b.0 c.name (constant_meaning (outcome (constant_value b.0 b.1 c)))) b.0 refl refl

  same-named : (s : Scope) (x : Option Identifier) (r : Result DataType FaultAt) → (named_enumeration x r s).structures ≡ s.structures
  same-named s None r = refl
  same-named s (Some x) r = same-if (is_there (entry_at s.enumerations_named x)) s (with_enumeration_name s x r) s refl refl

  same-function : (s : Scope) (x : Identifier) (o : Option Named) → (after_function s x o).structures ≡ s.structures
  same-function s x None = refl
  same-function s x (Some n) = same-if (nat_eq n.scope items_scope) s (with_name items_scope s x n.meaning) s refl refl

  tabled-if : (b : Bool) (s r : Scope) → AreTabled s.structures → AreTabled r.structures → AreTabled (if b then s else r).structures
  tabled-if true s r h i = h
  tabled-if false s r h i = i

  tabled-item : (formats : ℕ) (s : Scope) (i : Item) → is_formed_item formats i ≡ true → ScopeFits t s p → AreTabled s.structures → AreTabled (scope_after t s i).structures
  tabled-item formats s (item.Structure x fields) form here h =
      tabled-if (is_there (entry_at s.structures_named x)) s (with_structure (with_structure_name s x (outcome (map (next_structure s) (structure s x fields)))) fields (found (structure s x fields))) h
      (tabled-added s x fields (structure s x fields) (λ c e. structure-typed t s p here x fields c form e) h)
  tabled-item formats s (item.Enumeration x cs) form here h =
      subst AreTabled (sym (same-named (after_constants s cs) x (outcome (map int_type (constants s cs))) ∙ same-constants (before_constants s) cs)) h
  tabled-item formats s (item.Specification x ts ds) form here h = h
  tabled-item formats s (item.Body x xs block) form here h = h
  tabled-item formats s (item.Function result x ps block) form here h = subst AreTabled (sym (same-function s x (meaning_at s x))) h

  pub tabled-items : (formats : ℕ) (b : Passed) (items : List Item) → list_all (is_formed_item formats) items ≡ true → Level t p b.scope → IsFront (after_each (and_item t) b items).scope.structures p.structures → AreTabled b.scope.structures → AreTabled (after_each (and_item t) b items).scope.structures
  unfolding after_each
  tabled-items formats b [] form level front h = h
  tabled-items formats b (i ∷ rest) form level front h =
      tabled-items formats (and_item t b i) rest (right _ _ form) (level-after t p b.scope i level) front
      (tabled-item formats b.scope i (left _ _ form) (level-fits t p b.scope level (front-on b.scope.structures (after_each (and_item t) b (i ∷ rest)).scope.structures p.structures (items-move t b (i ∷ rest)).structures front)) h)
