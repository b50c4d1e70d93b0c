-- The table of structures, and the layouts of types.
use Rattle.std.specs.Prelude.{ℕ, zero, suc, ◌+◌, ◌*◌, Bool, true, false, ◌&&◌, nat_eq, nat_lt, nat_le, List, [], ◌∷◌, length, map, Option, Some, None, slice_get}
use Rattle.cc_base.specs.Limits.{most_type_cells}
use Rattle.cc_typed.specs.Layout.{Layout, One, Several, no_layouts, laid, repeated}
use Rattle.cc_typed.specs.declared.types.DataType.{DataType}
use Rattle.cc_typed.specs.declared.types.DataType.TheVariants.{Void, Single, Array}
use Rattle.cc_typed.specs.declared.types.ElementType.{ElementType}
use Rattle.cc_typed.specs.declared.types.ElementType.TheVariants as item
use Rattle.cc_typed.specs.declared.types.Field.{Field}
use Rattle.cc_typed.specs.declared.types.Structure.{Structure}

-- none where the structure is not there
abbrev pub fields_of : Option Structure → List Field
fields_of None = []
fields_of (Some s) = s.fields

abbrev pub cells_of : Option Structure → ℕ
cells_of None = 0
cells_of (Some s) = s.cells

-- the layout of a type, by the layouts of element types
abbrev pub shaped : (ElementType → Layout) → DataType → Layout
shaped f Void = Several no_layouts
shaped f (Single e) = f e
shaped f (Array e n) = Several (repeated n (f e))

-- it names structures of smaller numbers only
abbrev pub is_element_below : ℕ → ElementType → Bool
is_element_below n (item.Number m) = true
is_element_below n (item.Process k) = true
is_element_below n (item.Struct m) = nat_lt m n

-- no `void`, and it names structures of smaller numbers only
abbrev pub is_below : ℕ → DataType → Bool
is_below n Void = false
is_below n (Single e) = is_element_below n e
is_below n (Array e m) = is_element_below n e

module _ (structures : List Structure) where
  -- the layout of an element type, where structures lie no deeper than this
  unfoldable pub element_within : ℕ → ElementType → Layout
  element_within depth (item.Number n) = One
  element_within depth (item.Process k) = One
  element_within zero (item.Struct n) = Several no_layouts
  element_within (suc depth) (item.Struct n) =
      Several (laid (map (λ (f : Field). shaped (element_within depth) f.data_type) (fields_of (slice_get structures n))))

  -- a structure holds earlier ones only, so none lies deeper than there are structures
  abbrev pub layout_of : DataType → Layout
  layout_of t = shaped (element_within (length structures)) t

  abbrev pub layouts_of : List DataType → List Layout
  layouts_of ts = map layout_of ts

  -- how many cells a type has, by the numbers that the table keeps
  abbrev pub element_cells : ElementType → ℕ
  element_cells (item.Number n) = 1
  element_cells (item.Process k) = 1
  element_cells (item.Struct n) = cells_of (slice_get structures n)

  abbrev pub cells_in : DataType → ℕ
  cells_in Void = 0
  cells_in (Single e) = element_cells e
  cells_in (Array e n) = n * element_cells e

  -- the cells of types in order
  abbrev pub cells_in_all : List DataType → ℕ
  cells_in_all [] = 0
  cells_in_all (t ∷ ts) = cells_in t + cells_in_all ts

  -- a field of structure n, with so many cells before it
  abbrev pub is_field : ℕ → ℕ → Field → Bool
  is_field n before f = is_below n f.data_type && (nat_eq f.offset before && nat_le (before + cells_in f.data_type) most_type_cells)

  -- fields of structure n that have so many cells before them and, with those, all of its cells
  abbrev pub are_fields : ℕ → ℕ → List Field → ℕ → Bool
  are_fields n before [] all = nat_eq before all
  are_fields n before (f ∷ fs) all = is_field n before f && are_fields n (before + cells_in f.data_type) fs all

  -- structures from number n on
  abbrev pub are_structures : ℕ → List Structure → Bool
  are_structures n [] = true
  are_structures n (s ∷ rest) = are_fields n 0 s.fields s.cells && are_structures (suc n) rest

  -- each structure names earlier ones only, and keeps the offsets of its fields and its number of cells
  abbrev pub is_table : Bool
  is_table = are_structures 0 structures
