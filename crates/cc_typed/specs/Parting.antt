-- Parts of types, by the table of structures.
use Rattle.std.specs.Prelude.{ℕ, ◌<◌, ◌*◌, ◌≡◌, Bool, true, false, List, Option, Some, None, slice_get}
use Rattle.cc_typed.specs.Layout.{count, layouts_in, part_layout}
use Rattle.cc_typed.specs.Table.{layout_of, element_cells, fields_of}
use Rattle.cc_typed.specs.Types.{is_same, of_struct}
use Rattle.cc_typed.specs.declared.types.DataType.{DataType}
use Rattle.cc_typed.specs.declared.types.DataType.TheVariants.{Void, Single, Array}
use Rattle.cc_typed.specs.declared.types.Field.{Field}
use Rattle.cc_typed.specs.declared.types.Structure.{Structure}

abbrev pub is_of_type : Option DataType → DataType → Bool
is_of_type None t = false
is_of_type (Some u) t = is_same u t

abbrev pub field_type : Option Field → Option DataType
field_type None = None
field_type (Some f) = Some f.data_type

abbrev pub offset_of : Option Field → ℕ
offset_of None = 0
offset_of (Some f) = f.offset

-- a structure of which the field of this number has this type
abbrev pub is_field_of : List Structure → DataType → ℕ → DataType → Bool
is_field_of structures (of_struct n) k u = is_of_type (field_type (slice_get (fields_of (slice_get structures n)) k)) u
is_field_of structures _ k u = false

-- an array with elements of this type
abbrev pub is_element_of : DataType → DataType → Bool
is_element_of (Array e n) u = is_same (Single e) u
is_element_of _ u = false

-- the cells before a part, by the offsets that the table keeps
abbrev pub part_offset : List Structure → DataType → ℕ → ℕ
part_offset structures (of_struct n) k = offset_of (slice_get (fields_of (slice_get structures n)) k)
part_offset structures (Array e n) k = k * element_cells structures e
part_offset structures _ k = 0

-- the part of this number of a value of type t is a value of type u
abbrev pub IsPart : List Structure → DataType → ℕ → DataType → Type 0
IsPart structures t k u =
    (k < count (layouts_in (layout_of structures t))) × (part_layout (layout_of structures t) k ≡ layout_of structures u)
