-- Parts of types and of their cells.
use Rattle.std.proofs.Common.{◌≡◌, ℕ, ℤ, zero, suc, pos, ◌+◌, ◌*◌, ◌<◌, ◌≤◌, Bool, true, false, ◌&&◌, List, [], ◌∷◌, ◌++◌, length, map, get_or, set, Option, Some, None, refl, sym, ap, ◌∙◌, subst, arith}
use Rattle.std.proofs.lemmas.Bool.{eqb-true, eq-eqb}
use Rattle.std.specs.Prelude.{slice_get, nat_eq}
use Rattle.cc_typed.specs.Layout.{Layout, One, Several, Layouts, cells, cells_all, cells_before, count, layout_at, layouts_in, part_layout, laid, repeated, offset, Leads}
use Rattle.cc_typed.specs.Parting.{IsPart, field_type, is_element_of, is_field_of, is_of_type, offset_of, part_offset}
use Rattle.cc_typed.specs.Table.{layout_of, element_within, element_cells, cells_in, cells_of, fields_of, is_table}
use Rattle.cc_typed.specs.Types.{array_length, is_same, is_same_element, is_same_number}
use Rattle.cc_typed.specs.Values.{unflat, part, fetch}
use Rattle.cc_typed.proofs.Flat.{room, part-unflat}
use Rattle.cc_typed.proofs.Tables.{left, right, below-more, slice-below, type-cells, known-cells, layout-Struct, fields-of, field-layout, field-count, field-length, none-count, field-offset, right-cells, cells-repeated, count-repeated, at-repeated, before-repeated}
use Rattle.cc_typed.specs.declared.types.DataType.{DataType}
use Rattle.cc_typed.specs.declared.types.DataType.TheVariants.{Void, Single, Array}
use Rattle.cc_typed.specs.declared.types.ElementType.{ElementType}
use Rattle.cc_typed.specs.declared.types.ElementType.TheVariants as item
use Rattle.cc_base.specs.declared.numbers.NumberType.{NumberType}
use Rattle.cc_base.specs.declared.numbers.NumberType.TheVariants as numeric
use Rattle.cc_typed.specs.declared.types.Structure.{Structure}
use Rattle.cc_typed.specs.declared.types.Field as table

same-number : (n m : NumberType) → is_same_number n m ≡ true → n ≡ m
same-number numeric.Char numeric.Char b = refl
same-number numeric.Int numeric.Int b = refl
same-number numeric.Long numeric.Long b = refl
same-number numeric.Char numeric.Int b = cc
same-number numeric.Char numeric.Long b = cc
same-number numeric.Int numeric.Char b = cc
same-number numeric.Int numeric.Long b = cc
same-number numeric.Long numeric.Char b = cc
same-number numeric.Long numeric.Int b = cc

same-item : (e f : ElementType) → is_same_element e f ≡ true → e ≡ f
same-item (item.Number n) (item.Number m) b = ap item.Number (same-number n m b)
same-item (item.Process n) (item.Process m) b = ap item.Process (eqb-true n m b)
same-item (item.Struct n) (item.Struct m) b = ap item.Struct (eqb-true n m b)
same-item (item.Number n) (item.Process m) b = cc
same-item (item.Number n) (item.Struct m) b = cc
same-item (item.Process n) (item.Number m) b = cc
same-item (item.Process n) (item.Struct m) b = cc
same-item (item.Struct n) (item.Number m) b = cc
same-item (item.Struct n) (item.Process m) b = cc

pub same-type : (t u : DataType) → is_same t u ≡ true → t ≡ u
same-type Void Void b = refl
same-type (Single e) (Single f) b = ap Single (same-item e f b)
same-type (Array e n) (Array f m) b = ap (λ x. Array x n) (same-item e f (left (is_same_element e f) (nat_eq n m) b)) ∙ ap (Array f) (eqb-true n m (right (is_same_element e f) (nat_eq n m) b))
same-type Void (Single f) b = cc
same-type Void (Array f m) b = cc
same-type (Single e) Void b = cc
same-type (Single e) (Array f m) b = cc
same-type (Array e n) Void b = cc
same-type (Array e n) (Single f) b = cc

module _ (structures : List Structure) where
  pub part-size : (t : DataType) (k : ℕ) (u : DataType) → is_table structures ≡ true → IsPart structures t k u → cells (layout_at (layouts_in (layout_of structures t)) k) ≡ cells_in structures u
  part-size t k u table p = ap cells p.1 ∙ type-cells structures u table

  parts-room : (l : Layout) (k : ℕ) → k < count (layouts_in l) → cells_before (layouts_in l) k + cells (part_layout l k) ≤ cells l
  unfolding cells
  parts-room One k lt = absurd (omega arith)
  parts-room (Several ls) k lt = room ls k lt

  parts-value : (l : Layout) (cs : List ℤ) (k : ℕ) → k < count (layouts_in l) → part (unflat l cs) k ≡ unflat (part_layout l k) (fetch (cells (part_layout l k)) (cells_before (layouts_in l) k) cs)
  unfolding unflat
  parts-value One cs k lt = absurd (omega arith)
  parts-value (Several ls) cs k lt = part-unflat ls cs k lt

  slice-none : (fs : List table.Field) (k : ℕ) → slice_get fs k ≡ None → length fs ≤ k
  slice-none [] k e = omega arith
  slice-none (f ∷ fs) zero e = cc
  slice-none (f ∷ fs) (suc k) e = omega (arith, slice-none fs k e)

  struct-offset : (n k : ℕ) (o : Option Structure) (f : Option table.Field) → is_table structures ≡ true → slice_get structures n ≡ o → slice_get (fields_of o) k ≡ f
      → k < count (layouts_in (layout_of structures (Single (item.Struct n)))) → offset_of f ≡ cells_before (layouts_in (layout_of structures (Single (item.Struct n)))) k
  struct-offset n k None f table e g lt = absurd (omega (arith, lt, none-count structures (length structures) n e))
  struct-offset n k (Some s) None table e g lt =
      absurd (omega (arith, lt, ap (λ l. count (layouts_in l)) (layout-Struct structures n s table e), field-length structures (element_within structures (length structures)) s.fields, slice-none s.fields k g))
  struct-offset n k (Some s) (Some x) table e g lt =
      let d = length structures in
      let right = right-cells structures d table in
      let under : n ≤ d = omega (arith, slice-below structures structures n s e) in
      let o = field-offset structures n (element_within structures d) (λ y b. right y (below-more n d y under b)) 0 s.fields s.cells k x (fields-of structures n s table e) g in
      let at = ap (λ l. cells_before (layouts_in l) k) (layout-Struct structures n s table e) in
      omega (arith, o, at)

  pub offset-known : (t : DataType) (k : ℕ) → is_table structures ≡ true → k < count (layouts_in (layout_of structures t)) → part_offset structures t k ≡ cells_before (layouts_in (layout_of structures t)) k
  unfolding element_within
  offset-known Void k table lt = absurd (omega arith)
  offset-known (Single (item.Number n)) k table lt = absurd (omega arith)
  offset-known (Single (item.Process n)) k table lt = absurd (omega arith)
  offset-known (Single (item.Struct n)) k table lt = struct-offset n k (slice_get structures n) (slice_get (fields_of (slice_get structures n)) k) table refl refl lt
  offset-known (Array e n) k table lt =
      let l = element_within structures (length structures) e in
      ap (λ m. k * m) (sym (known-cells structures e table)) ∙ sym (before-repeated n k l (omega (arith, lt, count-repeated n l)))

  -- a part lies within the cells
  pub part-room : (t : DataType) (k : ℕ) (u : DataType) → is_table structures ≡ true → IsPart structures t k u → part_offset structures t k + cells_in structures u ≤ cells (layout_of structures t)
  part-room t k u table p =
      omega (arith, parts-room (layout_of structures t) k p.0, offset-known t k table p.0, part-size t k u table p)

  -- the value of a part is that of its cells
  pub part-value : (t : DataType) (k : ℕ) (u : DataType) (cs : List ℤ) → is_table structures ≡ true → IsPart structures t k u
      → unflat (layout_of structures u) (fetch (cells_in structures u) (part_offset structures t k) cs) ≡ part (unflat (layout_of structures t) cs) k
  part-value t k u cs table p =
      ap (λ l. unflat l (fetch (cells_in structures u) (part_offset structures t k) cs)) (sym p.1)
      ∙ ap (λ n. unflat (part_layout (layout_of structures t) k) (fetch n (part_offset structures t k) cs)) (sym (part-size t k u table p))
      ∙ ap (λ o. unflat (part_layout (layout_of structures t) k) (fetch (cells (part_layout (layout_of structures t) k)) o cs)) (offset-known t k table p.0)
      ∙ sym (parts-value (layout_of structures t) cs k p.0)

  -- a typed step leads to a part
  pub element-part : (t u : DataType) (k : ℕ) → is_element_of t u ≡ true → k < array_length t → IsPart structures t k u
  element-part Void u k b lt = cc
  element-part (Single e) u k b lt = cc
  element-part (Array e n) u k b lt =
      let l = element_within structures (length structures) e in
      (omega (arith, lt, count-repeated n l), at-repeated n k l lt ∙ ap (layout_of structures) (same-type (Single e) u b))

  struct-part : (n k : ℕ) (u : DataType) (o : Option Structure) (f : Option table.Field) → is_table structures ≡ true → slice_get structures n ≡ o → slice_get (fields_of o) k ≡ f
      → is_of_type (field_type f) u ≡ true → IsPart structures (Single (item.Struct n)) k u
  struct-part n k u o None table e g b = cc
  struct-part n k u None (Some x) table e g b = cc
  struct-part n k u (Some s) (Some x) table e g b =
      let f = element_within structures (length structures) in
      let is = layout-Struct structures n s table e in (
        omega (arith, ap (λ l. count (layouts_in l)) is, field-count structures f s.fields k x g),
        ap (λ l. part_layout l k) is ∙ field-layout structures f s.fields k x g ∙ ap (layout_of structures) (same-type x.data_type u b),
      )

  pub field-part : (t u : DataType) (k : ℕ) → is_table structures ≡ true → is_field_of structures t k u ≡ true → IsPart structures t k u
  field-part Void u k table b = cc
  field-part (Array e n) u k table b = cc
  field-part (Single (item.Number n)) u k table b = cc
  field-part (Single (item.Process n)) u k table b = cc
  field-part (Single (item.Struct n)) u k table b = struct-part n k u (slice_get structures n) (slice_get (fields_of (slice_get structures n)) k) table refl refl b

  -- a path that goes on
  leads-more : (path : List ℕ) (l m n : Layout) (k : ℕ) → Leads l path m → k < count (layouts_in m) → part_layout m k ≡ n → Leads l (path ++ k ∷ []) n
  leads-more [] l m n k e lt is = (subst (λ x. k < count (layouts_in x)) (sym e) lt, ap (λ x. part_layout x k) e ∙ is)
  leads-more (j ∷ path) l m n k e lt is = (e.0, leads-more path (part_layout l j) m n k e.1 lt is)

  offset-more : (path : List ℕ) (l m : Layout) (k : ℕ) → Leads l path m → offset l (path ++ k ∷ []) ≡ offset l path + cells_before (layouts_in m) k
  offset-more [] l m k e = let at = ap (λ x. cells_before (layouts_in x) k) e in omega (arith, at)
  offset-more (j ∷ path) l m k e = omega (arith, offset-more path (part_layout l j) m k e.1)

  pub more-leads : (t m u : DataType) (path : List ℕ) (k : ℕ) → Leads (layout_of structures t) path (layout_of structures m) → IsPart structures m k u → Leads (layout_of structures t) (path ++ k ∷ []) (layout_of structures u)
  more-leads t m u path k e p = leads-more path (layout_of structures t) (layout_of structures m) (layout_of structures u) k e p.0 p.1

  pub more-offset : (t m u : DataType) (path : List ℕ) (k : ℕ) → is_table structures ≡ true → Leads (layout_of structures t) path (layout_of structures m) → IsPart structures m k u
      → offset (layout_of structures t) (path ++ k ∷ []) ≡ offset (layout_of structures t) path + part_offset structures m k
  more-offset t m u path k table e p = offset-more path (layout_of structures t) (layout_of structures m) k e ∙ ap (λ n. offset (layout_of structures t) path + n) (sym (offset-known m k table p.0))

number-same : (n : NumberType) → is_same_number n n ≡ true
number-same numeric.Char = refl
number-same numeric.Int = refl
number-same numeric.Long = refl

item-same : (e : ElementType) → is_same_element e e ≡ true
item-same (item.Number n) = number-same n
item-same (item.Process k) = eq-eqb k k refl
item-same (item.Struct k) = eq-eqb k k refl

both : (a b : Bool) → a ≡ true → b ≡ true → (a && b) ≡ true
both true b e f = f
both false b e f = e

pub type-same : (t : DataType) → is_same t t ≡ true
type-same Void = refl
type-same (Single e) = item-same e
type-same (Array e n) = both (is_same_element e e) (nat_eq n n) (item-same e) (eq-eqb n n refl)

pub ruleset parts_of_types = (field-part, element-part, offset-known, part-room, part-value, more-leads, more-offset, same-type, type-same)
