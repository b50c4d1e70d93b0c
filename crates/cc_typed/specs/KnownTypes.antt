-- Types that a variable or a parameter may have.
use Rattle.std.specs.List.{list_all}
use Rattle.std.specs.Prelude.{ℕ, Bool, true, false, not, ◌&&◌, ◌*◌, nat_le, nat_lt, List, length}
use Rattle.cc_base.specs.Limits.{most_elements, most_parameter_cells, most_type_cells}
use Rattle.cc_typed.specs.Parts.{Parts}
use Rattle.cc_typed.specs.Sequences.{is_empty}
use Rattle.cc_typed.specs.Table.{cells_in_all, element_cells}
use Rattle.cc_typed.specs.Types.{is_array}
use Rattle.cc_typed.specs.declared.types.DataType.{DataType}
use Rattle.cc_typed.specs.declared.types.DataType.TheVariants.{Void, Single, Array}
use Rattle.cc_typed.specs.declared.types.ElementType.{ElementType}
use Rattle.cc_typed.specs.declared.types.ElementType.TheVariants as item
use Rattle.cc_typed.specs.declared.types.Field.{Field}
use Rattle.cc_typed.specs.declared.types.Structure.{Structure}

-- a process type that is there: `main` is none
abbrev pub is_process_type : Parts → ℕ → Bool
is_process_type p k = nat_lt 0 k && nat_lt k (length p.kinds)

abbrev pub is_known_element : Parts → ElementType → Bool
is_known_element p (item.Number n) = true
is_known_element p (item.Process k) = is_process_type p k
is_known_element p (item.Struct n) = nat_lt n (length p.structures)

-- a type that a variable may have
abbrev pub is_known : Parts → DataType → Bool
is_known p Void = false
is_known p (Single e) = is_known_element p e
is_known p (Array e n) =
    is_known_element p e
    && nat_lt 0 n
    && nat_le n most_elements
    && nat_le (n * element_cells p.structures e) most_type_cells

-- a type that a parameter or a result may have
abbrev pub is_whole : Parts → DataType → Bool
is_whole p t = is_known p t && not (is_array t)

abbrev pub are_parameters : Parts → List DataType → Bool
are_parameters p ts = list_all (is_whole p) ts && nat_le (cells_in_all p.structures ts) most_parameter_cells

abbrev pub is_known_field : Parts → Field → Bool
is_known_field p f = is_known p f.data_type

-- a structure with fields, of types that a variable may have
abbrev pub is_known_structure : Parts → Structure → Bool
is_known_structure p s = not (is_empty s.fields) && list_all (is_known_field p) s.fields
