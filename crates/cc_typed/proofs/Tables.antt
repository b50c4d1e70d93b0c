-- Layouts of types, from the table of structures.
use Rattle.std.proofs.Common.{◌≡◌, ℕ, zero, suc, ◌+◌, ◌*◌, ◌<◌, ◌≤◌, Bool, true, false, ◌&&◌, List, [], ◌∷◌, length, map, take, Option, Some, None, refl, sym, ap, ◌∙◌, arith}
use Rattle.std.proofs.lemmas.Bool.{ltb-true, lt-ltb, eqb-true}
use Rattle.std.specs.Prelude.{nat_eq, nat_lt, nat_le, slice_get}
use Rattle.cc_base.specs.Limits.{most_type_cells}
use Rattle.cc_typed.specs.Layout.{Layout, One, Several, Layouts, no_layouts, and_layout, cells, cells_all, cells_before, cells_each, count, layout_at, layouts_in, part_layout, laid, repeated}
use Rattle.cc_typed.specs.Table.{shaped, element_within, layout_of, layouts_of, fields_of, cells_of, element_cells, cells_in, cells_in_all, is_element_below, is_below, is_field, are_fields, are_structures, is_table}
use Rattle.cc_typed.specs.declared.types.ElementType.{ElementType}
use Rattle.cc_typed.specs.declared.types.ElementType.TheVariants as item
use Rattle.cc_typed.specs.declared.types.DataType.{DataType}
use Rattle.cc_typed.specs.declared.types.DataType.TheVariants.{Void, Single, Array}
use Rattle.cc_typed.specs.declared.types.Field.{Field}
use Rattle.cc_typed.specs.declared.types.Structure.{Structure}

pub cells-repeated : (n : ℕ) (l : Layout) → cells_all (repeated n l) ≡ n * cells l
unfolding cells
cells-repeated zero l = omega arith
cells-repeated (suc n) l = omega (arith, cells-repeated n l)

pub count-repeated : (n : ℕ) (l : Layout) → count (repeated n l) ≡ n
count-repeated zero l = refl
count-repeated (suc n) l = ap suc (count-repeated n l)

pub at-repeated : (n k : ℕ) (l : Layout) → k < n → layout_at (repeated n l) k ≡ l
at-repeated zero k l lt = absurd (omega arith)
at-repeated (suc n) zero l lt = refl
at-repeated (suc n) (suc k) l lt = at-repeated n k l (omega arith)

pub before-repeated : (n k : ℕ) (l : Layout) → k ≤ n → cells_before (repeated n l) k ≡ k * cells l
unfolding cells_before
before-repeated zero zero l le = omega arith
before-repeated zero (suc k) l le = absurd (omega arith)
before-repeated (suc n) zero l le = omega arith
before-repeated (suc n) (suc k) l le = omega (arith, before-repeated n k l (omega arith))

pub left : (a b : Bool) → (a && b) ≡ true → a ≡ true
left true b e = refl
left false b e = e

pub right : (a b : Bool) → (a && b) ≡ true → b ≡ true
right true b e = e
right false b e = cc

pub below-more : (n m : ℕ) (e : ElementType) → n ≤ m → is_element_below n e ≡ true → is_element_below m e ≡ true
below-more n m (item.Number k) le b = refl
below-more n m (item.Process k) le b = refl
below-more n m (item.Struct k) le b = lt-ltb k m (omega (arith, ltb-true k n b))

module _ (structures : List Structure) where
  -- what the table says of the fields of structure n
  fields-at : (n m : ℕ) (rest : List Structure) (s : Structure) → are_structures structures m rest ≡ true → slice_get rest n ≡ Some s → are_fields structures (m + n) 0 s.fields s.cells ≡ true
  fields-at n m [] s t e = cc
  fields-at zero m (r ∷ rest) s t e =
      let same : r ≡ s = cc in
      let at : m ≡ m + 0 = omega arith in
      ap (λ k. are_fields structures k 0 s.fields s.cells) (sym at) ∙ ap (λ (x : Structure). are_fields structures m 0 x.fields x.cells) (sym same) ∙ left _ _ t
  fields-at (suc n) m (r ∷ rest) s t e =
      let at : suc m + n ≡ m + suc n = omega arith in
      ap (λ k. are_fields structures k 0 s.fields s.cells) (sym at) ∙ fields-at n (suc m) rest s (right _ _ t) e

  pub fields-of : (n : ℕ) (s : Structure) → is_table structures ≡ true → slice_get structures n ≡ Some s → are_fields structures n 0 s.fields s.cells ≡ true
  fields-of n s t e = let at : 0 + n ≡ n = omega arith in ap (λ k. are_fields structures k 0 s.fields s.cells) (sym at) ∙ fields-at n 0 structures s t e

  -- a layout for each element type, of the right number of cells
  abbrev pub Right : ℕ → (ElementType → Layout) → Type 0
  Right n f = (e : ElementType) → is_element_below n e ≡ true → cells (f e) ≡ element_cells structures e

  shaped-cells : (n : ℕ) (f : ElementType → Layout) → Right n f → (t : DataType) → is_below n t ≡ true → cells (shaped f t) ≡ cells_in structures t
  unfolding cells
  shaped-cells n f r Void b = refl
  shaped-cells n f r (Single e) b = r e b
  shaped-cells n f r (Array e m) b = cells-repeated m (f e) ∙ ap (λ k. m * k) (r e b)

  abbrev pub field_layout : (ElementType → Layout) → Field → Layout
  field_layout f x = shaped f x.data_type

  fields-cells : (n : ℕ) (f : ElementType → Layout) → Right n f → (before : ℕ) (fs : List Field) (all : ℕ) → are_fields structures n before fs all ≡ true
      → before + cells_all (laid (map (field_layout f) fs)) ≡ all
  unfolding cells
  fields-cells n f r before [] all t = omega (arith, eqb-true before all t)
  fields-cells n f r before (x ∷ fs) all t =
      let fits = left (is_field structures n before x) (are_fields structures n (before + cells_in structures x.data_type) fs all) t in
      let below = left (is_below n x.data_type) (nat_eq x.offset before && nat_le (before + cells_in structures x.data_type) most_type_cells) fits in
      omega (arith, shaped-cells n f r x.data_type below, fields-cells n f r (before + cells_in structures x.data_type) fs all (right _ _ t))

  -- the layout of a structure with its number of cells, where its fields have theirs
  struct-cells : (n : ℕ) (f : ElementType → Layout) → Right n f → is_table structures ≡ true → (o : Option Structure) → slice_get structures n ≡ o
      → cells_all (laid (map (field_layout f) (fields_of o))) ≡ cells_of o
  unfolding cells
  struct-cells n f r t None e = refl
  struct-cells n f r t (Some s) e = omega (arith, fields-cells n f r 0 s.fields s.cells (fields-of n s t e))

  -- each element type has as many cells as the table says
  pub right-cells : (d : ℕ) → is_table structures ≡ true → Right d (element_within structures d)
  unfolding element_within cells
  right-cells d t (item.Number n) b = refl
  right-cells d t (item.Process n) b = refl
  right-cells zero t (item.Struct n) b = absurd (omega (arith, ltb-true n 0 b))
  right-cells (suc d) t (item.Struct n) b =
      let le : n ≤ d = omega (arith, ltb-true n (suc d) b) in
      struct-cells n (element_within structures d) (λ e under. right-cells d t e (below-more n d e le under)) t (slice_get structures n) refl

  pub slice-below : (xs : List Structure) (n : ℕ) (s : Structure) → slice_get xs n ≡ Some s → n < length xs
  slice-below [] n s e = cc
  slice-below (x ∷ xs) zero s e = omega arith
  slice-below (x ∷ xs) (suc n) s e = omega (arith, slice-below xs n s e)

  none-cells : (d n : ℕ) → slice_get structures n ≡ None → cells (element_within structures d (item.Struct n)) ≡ 0
  unfolding element_within cells
  none-cells zero n e = refl
  none-cells (suc d) n e = ap (λ o. cells_all (laid (map (field_layout (element_within structures d)) (fields_of o)))) e

  pub none-count : (d n : ℕ) → slice_get structures n ≡ None → count (layouts_in (element_within structures d (item.Struct n))) ≡ 0
  unfolding element_within
  none-count zero n e = refl
  none-count (suc d) n e = ap (λ o. count (laid (map (field_layout (element_within structures d)) (fields_of o)))) e

  pub field-length : (f : ElementType → Layout) (fs : List Field) → count (laid (map (field_layout f) fs)) ≡ length fs
  field-length f [] = refl
  field-length f (y ∷ fs) = ap suc (field-length f fs)

  found-cells : (n : ℕ) (o : Option Structure) → is_table structures ≡ true → slice_get structures n ≡ o → cells (element_within structures (length structures) (item.Struct n)) ≡ cells_of o
  found-cells n None t e = none-cells (length structures) n e
  found-cells n (Some s) t e = right-cells (length structures) t (item.Struct n) (lt-ltb n (length structures) (slice-below structures n s e)) ∙ ap cells_of e

  pub known-cells : (e : ElementType) → is_table structures ≡ true → cells (element_within structures (length structures) e) ≡ element_cells structures e
  unfolding element_within cells
  known-cells (item.Number n) t = refl
  known-cells (item.Process k) t = refl
  known-cells (item.Struct n) t = found-cells n (slice_get structures n) t refl

  -- the number of cells of a type, as the table says it
  pub type-cells : (t : DataType) → is_table structures ≡ true → cells (layout_of structures t) ≡ cells_in structures t
  unfolding cells
  type-cells Void t = refl
  type-cells (Single e) t = known-cells e t
  type-cells (Array e n) t = cells-repeated n (element_within structures (length structures) e) ∙ ap (λ k. n * k) (known-cells e t)

  pub types-cells : (ts : List DataType) → is_table structures ≡ true → cells_each (layouts_of structures ts) ≡ cells_in_all structures ts
  types-cells [] t = refl
  types-cells (u ∷ us) t = omega (arith, type-cells u t, types-cells us t)

  -- how deep is looked does not matter, where it is deep enough
  abbrev pub Alike : ℕ → (ElementType → Layout) → (ElementType → Layout) → Type 0
  Alike n f g = (e : ElementType) → is_element_below n e ≡ true → f e ≡ g e

  shaped-alike : (n : ℕ) (f g : ElementType → Layout) → Alike n f g → (t : DataType) → is_below n t ≡ true → shaped f t ≡ shaped g t
  shaped-alike n f g a Void b = refl
  shaped-alike n f g a (Single e) b = a e b
  shaped-alike n f g a (Array e m) b = ap (λ l. Several (repeated m l)) (a e b)

  fields-alike : (n : ℕ) (f g : ElementType → Layout) → Alike n f g → (before : ℕ) (fs : List Field) (all : ℕ) → are_fields structures n before fs all ≡ true
      → laid (map (field_layout f) fs) ≡ laid (map (field_layout g) fs)
  fields-alike n f g a before [] all t = refl
  fields-alike n f g a before (x ∷ fs) all t =
      let fits = left (is_field structures n before x) (are_fields structures n (before + cells_in structures x.data_type) fs all) t in
      let below = left (is_below n x.data_type) (nat_eq x.offset before && nat_le (before + cells_in structures x.data_type) most_type_cells) fits in
      ap (λ l. and_layout l (laid (map (field_layout f) fs))) (shaped-alike n f g a x.data_type below)
      ∙ ap (and_layout (shaped g x.data_type)) (fields-alike n f g a (before + cells_in structures x.data_type) fs all (right _ _ t))

  struct-alike : (n : ℕ) (f g : ElementType → Layout) → Alike n f g → is_table structures ≡ true → (o : Option Structure) → slice_get structures n ≡ o
      → Several (laid (map (field_layout f) (fields_of o))) ≡ Several (laid (map (field_layout g) (fields_of o)))
  struct-alike n f g a t None e = refl
  struct-alike n f g a t (Some s) e = ap Several (fields-alike n f g a 0 s.fields s.cells (fields-of n s t e))

  pub depths-alike : (n d e : ℕ) → n ≤ d → n ≤ e → is_table structures ≡ true → Alike n (element_within structures d) (element_within structures e)
  unfolding element_within
  depths-alike n d e ld le t (item.Number k) b = refl
  depths-alike n d e ld le t (item.Process k) b = refl
  depths-alike n zero e ld le t (item.Struct k) b = absurd (omega (arith, ltb-true k n b))
  depths-alike n (suc d) zero ld le t (item.Struct k) b = absurd (omega (arith, ltb-true k n b))
  depths-alike n (suc d) (suc e) ld le t (item.Struct k) b =
      let lt = ltb-true k n b in
      struct-alike k (element_within structures d) (element_within structures e) (depths-alike k d e (omega arith) (omega arith) t) t (slice_get structures k) refl

  at-depth : (n d : ℕ) (s : Structure) → slice_get structures n ≡ Some s → n < d → is_table structures ≡ true
      → element_within structures d (item.Struct n) ≡ Several (laid (map (field_layout (element_within structures (length structures))) s.fields))
  unfolding element_within
  at-depth n zero s e lt t = absurd (omega arith)
  at-depth n (suc d) s e lt t =
      ap (λ o. Several (laid (map (field_layout (element_within structures d)) (fields_of o)))) e
      ∙ struct-alike n (element_within structures d) (element_within structures (length structures)) (depths-alike n d (length structures) (omega arith) (omega (arith, slice-below structures n s e)) t) t (Some s) e

  -- the layout of a structure: those of its fields
  pub layout-Struct : (n : ℕ) (s : Structure) → is_table structures ≡ true → slice_get structures n ≡ Some s
      → layout_of structures (Single (item.Struct n)) ≡ Several (laid (map (λ (f : Field). layout_of structures f.data_type) s.fields))
  layout-Struct n s t e = at-depth n (length structures) s e (slice-below structures n s e) t

  -- a field in a list: its layout and its offset
  pub field-layout : (f : ElementType → Layout) (fs : List Field) (k : ℕ) (x : Field) → slice_get fs k ≡ Some x → layout_at (laid (map (field_layout f) fs)) k ≡ field_layout f x
  field-layout f [] k x e = cc
  field-layout f (y ∷ fs) zero x e = let same : y ≡ x = cc in ap (field_layout f) same
  field-layout f (y ∷ fs) (suc k) x e = field-layout f fs k x e

  pub field-count : (f : ElementType → Layout) (fs : List Field) (k : ℕ) (x : Field) → slice_get fs k ≡ Some x → k < count (laid (map (field_layout f) fs))
  field-count f [] k x e = cc
  field-count f (y ∷ fs) zero x e = omega arith
  field-count f (y ∷ fs) (suc k) x e = omega (arith, field-count f fs k x e)

  pub field-offset : (n : ℕ) (f : ElementType → Layout) → Right n f → (before : ℕ) (fs : List Field) (all k : ℕ) (x : Field) → are_fields structures n before fs all ≡ true → slice_get fs k ≡ Some x
      → before + cells_before (laid (map (field_layout f) fs)) k ≡ x.offset
  unfolding cells_before
  field-offset n f r before [] all k x t e = cc
  field-offset n f r before (y ∷ fs) all zero x t e =
      let fits = left (is_field structures n before y) (are_fields structures n (before + cells_in structures y.data_type) fs all) t in
      let same : y ≡ x = cc in
      let offset = left (nat_eq y.offset before) (nat_le (before + cells_in structures y.data_type) most_type_cells) (right (is_below n y.data_type) (nat_eq y.offset before && nat_le (before + cells_in structures y.data_type) most_type_cells) fits) in
      omega (arith, eqb-true y.offset before offset, ap (λ (z : Field). z.offset) same)
  field-offset n f r before (y ∷ fs) all (suc k) x t e =
      let fits = left (is_field structures n before y) (are_fields structures n (before + cells_in structures y.data_type) fs all) t in
      let below = left (is_below n y.data_type) (nat_eq y.offset before && nat_le (before + cells_in structures y.data_type) most_type_cells) fits in
      omega (arith, shaped-cells n f r y.data_type below, field-offset n f r (before + cells_in structures y.data_type) fs all k x (right _ _ t) e)
