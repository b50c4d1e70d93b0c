-- A field of what is found, by the structures declared so far.
use Rattle.std.specs.Prelude.{ℕ, List, Option, None, slice_get}
use Rattle.cc_faults.specs.Expressions.{field_type}
use Rattle.cc_faults.specs.Made.{part_of, type_in}
use Rattle.cc_faults.specs.declared.scope.Found.{Found}
use Rattle.cc_typed.specs.Table.{fields_of}
use Rattle.cc_typed.specs.Types.{of_struct}
use Rattle.cc_typed.specs.declared.tree.PartStep.TheVariants as part_step
use Rattle.cc_typed.specs.declared.types.DataType.{DataType}
use Rattle.cc_typed.specs.declared.types.Structure.{Structure}

abbrev pub structure_in : List Structure → DataType → Option Structure
structure_in structures (of_struct n) = slice_get structures n
structure_in structures _ = None

abbrev pub type_of_field : List Structure → DataType → ℕ → DataType
type_of_field structures t k = field_type (slice_get (fields_of (structure_in structures t)) k)

abbrev pub with_field : List Structure → Found → ℕ → Found
with_field structures v k = part_of v (part_step.Field k (type_of_field structures (type_in v) k))
