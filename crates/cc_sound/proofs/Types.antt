-- Types that are written are known, and name structures that were declared before.
use Rattle.std.proofs.Common.{◌≡◌, ℕ, ◌*◌, ◌<◌, ℤ, pos, negsuc, nat_abs, true, false, ◌&&◌, ◌||◌, length, Some, Ok, refl, ap, sym, subst, ◌∙◌, arith}
use Rattle.std.proofs.lemmas.Bool.{and_from, lt-ltb, ltb-true, or_right}
use Rattle.std.specs.Prelude.{int_le, nat_le, nat_lt}
use Rattle.cc_base.specs.Limits.{most_elements, most_type_cells}
use Rattle.cc_base.specs.declared.names.Place.{Place}
use Rattle.cc_typed.proofs.Tables.{left, right}
use Rattle.cc_typed.specs.KnownTypes.{is_known, is_known_element, is_whole}
use Rattle.cc_typed.specs.Parts.{Parts}
use Rattle.cc_typed.specs.Table.{cells_of, element_cells, is_below, is_element_below}
use Rattle.cc_typed.specs.Types.{is_void, of_process, of_struct}
use Rattle.cc_typed.specs.declared.types.DataType.{DataType}
use Rattle.cc_typed.specs.declared.types.DataType.TheVariants.{Void, Single, Array}
use Rattle.cc_typed.specs.declared.types.ElementType.{ElementType}
use Rattle.cc_typed.specs.declared.types.ElementType.TheVariants as item
use Rattle.cc_faults.proofs.Holds.{Holds, holds-both, holds-checked, holds-map, holds-weaker}
use Rattle.cc_faults.specs.Judged.{Judged, Good, Bad, both, checked, known, outcome}
use Rattle.cc_faults.specs.Made.{array_of}
use Rattle.cc_faults.specs.Rows.{array_length, int_of, length_in_range, length_named, not_large, value_type, visible, visible_type, written}
use Rattle.cc_faults.specs.Scopes.{Scope, Text, entry_at, meaning_at}
use Rattle.cc_faults.specs.Statements.{local_type, type_in_form}
use Rattle.cc_faults.specs.declared.fault.TypeKind.TheVariants as kind
use Rattle.cc_faults.specs.declared.plain.Identifier.{Identifier}
use Rattle.cc_faults.specs.declared.plain.Length.{Length}
use Rattle.cc_faults.specs.declared.plain.Length.TheVariants as some_length
use Rattle.cc_faults.specs.declared.plain.Local.{Local}
use Rattle.cc_faults.specs.declared.plain.LocalForm.{LocalForm}
use Rattle.cc_faults.specs.declared.plain.LocalForm.TheVariants as form
use Rattle.cc_faults.specs.declared.plain.TypeName.{TypeName}
use Rattle.cc_faults.specs.declared.plain.TypeName.TheVariants as type_name
use Rattle.cc_faults.specs.declared.scope.Meaning.{Meaning}
use Rattle.cc_faults.specs.declared.scope.Meaning.TheVariants as meaning
use Rattle.cc_sound.proofs.Growth.{front-length}
use Rattle.cc_sound.proofs.Heads.{false-true, front-get, some-there}
use Rattle.cc_sound.proofs.Rows.{holds-known, holds-unless, type-there}
use Rattle.cc_sound.specs.Fits.{ScopeFits}

pub holds-all : {A : Type 0} (P : A → Type 0) (j : Judged A) → ((v : A) → P v) → Holds P j
holds-all P (Good v) go = go v
holds-all P (Bad own f fs) go = tt

pub outcome-holds : {A : Type 0} (P : A → Type 0) (j : Judged A) (v : A) → Holds P j → outcome j ≡ Ok v → P v
outcome-holds P (Good u) v h e = let same : u ≡ v = cc in subst P same h
outcome-holds P (Bad own f fs) v h e = absurd (cc)

in-range : (n : ℤ) (most : ℕ) → (int_le (pos 1) n && int_le n (pos most)) ≡ true → (nat_lt 0 (nat_abs n) ≡ true) × (nat_le (nat_abs n) most ≡ true)
in-range (pos m) most e = (left _ _ e, right _ _ e)
in-range (negsuc m) most e = false-true (left false (int_le (negsuc m) (pos most)) e)

module _ (t : Text) (s : Scope) (p : Parts) (here : ScopeFits t s p) where
  -- a whole type, of structures that were declared before
  abbrev pub IsWhole : DataType → Type 0
  IsWhole u = (is_whole p u ≡ true) × (is_below (length s.structures) u ≡ true)

  abbrev pub IsKnown : DataType → Type 0
  IsKnown u = (is_known p u ≡ true) × (is_below (length s.structures) u ≡ true)

  whole-struct : (k : ℕ) → k < length s.structures → IsWhole (of_struct k)
  whole-struct k lt =
      let le = front-length s.structures p.structures here.structures in
      (and_from _ _ (lt-ltb k (length p.structures) (omega (arith, lt, le))) refl, lt-ltb k (length s.structures) lt)

  pub value-whole : (n : TypeName) → Holds IsWhole (value_type s n)
  value-whole (type_name.Void q) = tt
  value-whole (type_name.Number m) = (refl, refl)
  value-whole (type_name.Structure x) =
      holds-map IsWhole of_struct _
      (holds-weaker (λ k. k < length s.structures) _ whole-struct _
      (holds-checked (λ r. entry_at s.structures_named x ≡ Some r) (λ k. k < length s.structures) (visible_type x (entry_at s.structures_named x)) known (type-there x (entry_at s.structures_named x))
      (λ r e. holds-weaker (λ k. r ≡ Ok k) _ (λ k f. here.structures_named x k (e ∙ ap (λ o. Some o) f)) (known r) (holds-known r))))
  value-whole (type_name.Enumeration x) = holds-map IsWhole int_of _ (holds-all (λ v. IsWhole (int_of v)) _ (λ v. (refl, refl)))
  value-whole (type_name.Process x) =
      holds-map IsWhole of_process _
      (holds-weaker (λ k. entry_at s.processes_named x ≡ Some k) _ (λ k e. (and_from _ _ (here.processes_named x k e) refl, refl)) _ (type-there x (entry_at s.processes_named x)))

  pub written-whole : (n : TypeName) → Holds (λ u. (is_void u || is_whole p u) ≡ true) (written s n)
  written-whole (type_name.Void q) = refl
  written-whole (type_name.Number m) = refl
  written-whole (type_name.Structure x) = holds-weaker IsWhole _ (λ u h. or_right _ _ h.0) _ (value-whole (type_name.Structure x))
  written-whole (type_name.Enumeration x) = holds-weaker IsWhole _ (λ u h. or_right _ _ h.0) _ (value-whole (type_name.Enumeration x))
  written-whole (type_name.Process x) = holds-weaker IsWhole _ (λ u h. or_right _ _ h.0) _ (value-whole (type_name.Process x))

  abbrev IsLength : ℕ → Type 0
  IsLength k = (nat_lt 0 k ≡ true) × (nat_le k most_elements ≡ true)

  range-length : (q : Place) (n : ℤ) → Holds IsLength (length_in_range q n)
  range-length q n = holds-unless IsLength (int_le (pos 1) n && int_le n (pos most_elements)) q kind.BadLength (nat_abs n) (in-range n most_elements)

  named-length : (q : Place) (m : Meaning) → Holds IsLength (length_named q m)
  named-length q (meaning.Constant n) = range-length q n
  named-length q (meaning.Valueless f) = tt
  named-length q (meaning.Variable v) = tt
  named-length q (meaning.Function f) = tt
  named-length q meaning.Main = tt
  named-length q (meaning.Typeless f) = tt

  length-typed : (n : Length) → Holds IsLength (array_length s n)
  length-typed (some_length.Number q n) = range-length q n
  length-typed (some_length.Name x) =
      holds-checked (λ m. Unit {0}) IsLength (visible x (meaning_at s x)) (length_named x.place) (holds-all _ _ (λ v. tt)) (λ m u. named-length x.place m)

  pub element-same : (e : ElementType) → is_element_below (length s.structures) e ≡ true → element_cells s.structures e ≡ element_cells p.structures e
  element-same (item.Number n) h = refl
  element-same (item.Process k) h = refl
  element-same (item.Struct n) h =
      let there = some-there s.structures n (ltb-true n (length s.structures) h) in
      ap cells_of there.1 ∙ sym (ap cells_of (front-get s.structures p.structures here.structures n there.0 there.1))

  large-sized : (x : Identifier) (u : DataType) (k : ℕ) → IsWhole u → IsLength k → Holds IsKnown (not_large s.structures x (array_of u k))
  large-sized x Void k i j = false-true i.0
  large-sized x (Array e n) k i j = false-true (right (is_known p (Array e n)) false i.0)
  large-sized x (Single e) k i j =
      holds-unless IsKnown (nat_le (k * element_cells s.structures e) most_type_cells) x.place kind.LargeType (Array e k)
      (λ f. (and_from _ _ (and_from _ _ (and_from _ _ (left (is_known_element p e) true i.0) j.0) j.1) (ap (λ n. nat_le (k * n) most_type_cells) (sym (element-same e i.1)) ∙ f), i.1))

  large-typed : (x : Identifier) (v : DataType × ℕ) → IsWhole v.0 × IsLength v.1 → Holds IsKnown (not_large s.structures x (array_of v.0 v.1))
  large-typed x v h = large-sized x v.0 v.1 h.0 h.1

  whole-known : (u : DataType) → IsWhole u → IsKnown u
  whole-known u h = (left _ _ h.0, h.1)

  pub array-known : (n : TypeName) (x : Identifier) (k : Length) → Holds IsKnown (checked (both (value_type s n) (array_length s k)) (λ (v : DataType × ℕ). not_large s.structures x (array_of v.0 v.1)))
  array-known n x k =
      holds-checked (λ v. IsWhole v.0 × IsLength v.1) IsKnown _ _ (holds-both IsWhole IsLength _ _ (value-whole n) (length-typed k)) (large-typed x)

  pub value-known : (n : TypeName) → Holds IsKnown (value_type s n)
  value-known n = holds-weaker IsWhole IsKnown whole-known (value_type s n) (value-whole n)

  form-known : (l : Local) (f : LocalForm) → Holds IsKnown (type_in_form s l f)
  form-known l form.Plain = value-known l.of
  form-known l (form.Array n) = array-known l.of l.name n
  form-known l (form.Value e) = value-known l.of

  pub local-known : (l : Local) → Holds IsKnown (local_type s l)
  local-known l = form-known l l.form
