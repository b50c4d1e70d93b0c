-- What leaves say of parts that are looked up, in the definition's own words.
use Rattle.std.proofs.Common.{◌≡◌, ℕ, Bool, true, false, if◌then◌else◌, List, Option, Some, None, slice_get, refl, ap}
use Rattle.cc_base.specs.Formats.{conversions, is_format}
use Rattle.cc_base.specs.declared.names.Place.{Place}
use Rattle.cc_faults.specs.Expressions.{field_in, field_type, kind_in, structure_at, transaction_of}
use Rattle.cc_faults.specs.Judged.{checked}
use Rattle.cc_faults.specs.Made.{part_of, type_in}
use Rattle.cc_faults.specs.Rows.{as_many, transaction_named, transactions_of, unless, well_formed}
use Rattle.cc_faults.specs.Scopes.{Scope, Text}
use Rattle.cc_faults.specs.declared.fault.TypeKind.TheVariants as kind
use Rattle.cc_faults.specs.declared.plain.Identifier.{Identifier}
use Rattle.cc_faults.specs.declared.scope.Found.{Found}
use Rattle.cc_rows.specs.Called.{transaction_behind}
use Rattle.cc_rows.specs.Fields.{structure_in, with_field}
use Rattle.cc_rows.specs.Taken.{numbers_of, taken}
use Rattle.cc_typed.specs.Table.{fields_of}
use Rattle.cc_typed.specs.declared.tree.PartStep.TheVariants as part_step
use Rattle.cc_typed.specs.declared.types.DataType.{DataType}
use Rattle.cc_typed.specs.declared.types.DataType.TheVariants.{Void, Single, Array}
use Rattle.cc_typed.specs.declared.types.ElementType.TheVariants as element

taken-cases : (f p : Place) (n : ℕ) (format : List ℕ) (b : Bool) → taken f p n (if b then Some (conversions format) else None) ≡ checked (unless b f kind.BadFormat format) (λ (bytes : List ℕ). as_many p n (conversions bytes) tt)
unfolding checked
taken-cases f p n format true = refl
taken-cases f p n format false = refl

pub taken-word : (f p : Place) (n : ℕ) (format : List ℕ) → taken f p n (numbers_of format) ≡ checked (well_formed f format) (λ (bytes : List ℕ). as_many p n (conversions bytes) tt)
taken-word f p n format = taken-cases f p n format (is_format format)

structure-word : (s : Scope) (t : DataType) → structure_at s t ≡ structure_in s.structures t
structure-word s Void = refl
structure-word s (Single (element.Number n)) = refl
structure-word s (Single (element.Struct n)) = refl
structure-word s (Single (element.Process k)) = refl
structure-word s (Array e n) = refl

pub field-word : (s : Scope) (v : Found) (k : ℕ) → field_in s v k ≡ with_field s.structures v k
field-word s v k = ap (λ c. part_of v (part_step.Field k (field_type (slice_get (fields_of c) k)))) (structure-word s (type_in v))

pub transaction-word : (t : Text) (x : Identifier) (v : Found) → transaction_of t x v ≡ transaction_behind x (transaction_named (transactions_of (slice_get t.kinds (kind_in (type_in v)))) x.name) v
transaction-word t x v = refl
