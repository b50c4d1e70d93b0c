-- What a value is made of: one cell, or parts in order.
use Rattle.std.specs.Prelude.{ℕ, zero, suc, ◌+◌, ◌<◌, ◌≡◌, List, [], ◌∷◌}

mutual
  pub data Layout : Type 0 where
    One : Layout
    Several : Layouts → Layout

  pub data Layouts : Type 0 where
    no_layouts : Layouts
    and_layout : Layout → Layouts → Layouts

-- the layouts of a list
abbrev pub laid : List Layout → Layouts
laid [] = no_layouts
laid (l ∷ ls) = and_layout l (laid ls)

abbrev pub repeated : ℕ → Layout → Layouts
repeated zero l = no_layouts
repeated (suc n) l = and_layout l (repeated n l)

-- how many cells the values of a layout have
unfoldable mutual
  pub cells : Layout → ℕ
  cells One = 1
  cells (Several ls) = cells_all ls

  pub cells_all : Layouts → ℕ
  cells_all no_layouts = 0
  cells_all (and_layout l ls) = cells l + cells_all ls

-- the cells of values of these layouts, one after the other
abbrev pub cells_each : List Layout → ℕ
cells_each [] = 0
cells_each (l ∷ ls) = cells l + cells_each ls

abbrev pub count : Layouts → ℕ
count no_layouts = 0
count (and_layout l ls) = suc (count ls)

abbrev pub layout_at : Layouts → ℕ → Layout
layout_at no_layouts k = One
layout_at (and_layout l ls) zero = l
layout_at (and_layout l ls) (suc k) = layout_at ls k

-- the cells before the k-th
unfoldable pub cells_before : Layouts → ℕ → ℕ
cells_before no_layouts k = 0
cells_before (and_layout l ls) zero = 0
cells_before (and_layout l ls) (suc k) = cells l + cells_before ls k

abbrev pub layouts_in : Layout → Layouts
layouts_in One = no_layouts
layouts_in (Several ls) = ls

abbrev pub part_layout : Layout → ℕ → Layout
part_layout l k = layout_at (layouts_in l) k

-- where the part begins to which a path leads
abbrev pub offset : Layout → List ℕ → ℕ
offset l [] = 0
offset l (k ∷ path) = cells_before (layouts_in l) k + offset (part_layout l k) path

-- the path leads within the first layout to a part of the second
abbrev pub Leads : Layout → List ℕ → Layout → Type 0
Leads l [] m = l ≡ m
Leads l (k ∷ path) m = (k < count (layouts_in l)) × Leads (part_layout l k) path m
