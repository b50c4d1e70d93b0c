-- Values and their cells.
use Rattle.std.specs.Prelude.{ℕ, zero, suc, ◌+◌, ℤ, pos, List, [], ◌∷◌, ◌++◌, take, drop, get_or, length}
use Rattle.cc_typed.specs.Layout.{Layout, One, Several, Layouts, no_layouts, and_layout, cells}

-- a number, or the values of the parts of a structure or an array; a process is kept as a number
mutual
  pub data Value : Type 0 where
    Number : ℤ → Value
    Many : Values → Value

  pub data Values : Type 0 where
    no_values : Values
    and_value : Value → Values → Values

-- the cells of a value
unfoldable mutual
  pub flat : Value → List ℤ
  flat (Number n) = n ∷ []
  flat (Many vs) = flat_all vs

  pub flat_all : Values → List ℤ
  flat_all no_values = []
  flat_all (and_value v vs) = flat v ++ flat_all vs

-- the cells of values in order
abbrev pub flats : List Value → List ℤ
flats [] = []
flats (v ∷ vs) = flat v ++ flats vs

-- a number as it stands; no other value is used as one
abbrev pub number : Value → ℤ
number (Number n) = n
number (Many vs) = pos 0

abbrev pub nought : Value
nought = Number (pos 0)

-- the k-th of the values
abbrev pub value_among : Values → ℕ → Value
value_among no_values k = nought
value_among (and_value v vs) zero = v
value_among (and_value v vs) (suc k) = value_among vs k

abbrev pub set_among : Values → ℕ → Value → Values
set_among no_values k w = no_values
set_among (and_value v vs) zero w = and_value w vs
set_among (and_value v vs) (suc k) w = and_value v (set_among vs k w)

abbrev pub values_in : Value → Values
values_in (Number n) = no_values
values_in (Many vs) = vs

-- a part of a structure or an array
abbrev pub part : Value → ℕ → Value
part v k = value_among (values_in v) k

-- what a path leads to
abbrev pub read : List ℕ → Value → Value
read [] v = v
read (k ∷ path) v = read path (part v k)

-- the value with another where the path leads
abbrev pub store : List ℕ → Value → Value → Value
store [] new old = new
store (k ∷ path) new old = Many (set_among (values_in old) k (store path new (part old k)))

-- the zero of a layout
unfoldable mutual
  pub zero_of : Layout → Value
  zero_of One = nought
  zero_of (Several ls) = Many (zeros_of ls)

  pub zeros_of : Layouts → Values
  zeros_of no_layouts = no_values
  zeros_of (and_layout l ls) = and_value (zero_of l) (zeros_of ls)

-- the value of a layout that has these cells
unfoldable mutual
  pub unflat : Layout → List ℤ → Value
  unflat One cs = Number (get_or cs 0 (pos 0))
  unflat (Several ls) cs = Many (unflat_all ls cs)

  pub unflat_all : Layouts → List ℤ → Values
  unflat_all no_layouts cs = no_values
  unflat_all (and_layout l ls) cs = and_value (unflat l (take (cells l) cs)) (unflat_all ls (drop (cells l) cs))

-- a value of this layout
unfoldable mutual
  pub HasLayout : Layout → Value → Type 0
  HasLayout One (Number n) = Unit {0}
  HasLayout One (Many vs) = ⊥
  HasLayout (Several ls) (Number n) = ⊥
  HasLayout (Several ls) (Many vs) = HaveLayouts ls vs

  pub HaveLayouts : Layouts → Values → Type 0
  HaveLayouts no_layouts no_values = Unit {0}
  HaveLayouts no_layouts (and_value v vs) = ⊥
  HaveLayouts (and_layout l ls) no_values = ⊥
  HaveLayouts (and_layout l ls) (and_value v vs) = HasLayout l v × HaveLayouts ls vs

-- the values of layouts, one after the other in these cells
abbrev pub unflats : List Layout → List ℤ → List Value
unflats [] cs = []
unflats (l ∷ ls) cs = unflat l (take (cells l) cs) ∷ unflats ls (drop (cells l) cs)

-- values of these layouts, in order
abbrev pub AreOf : List Layout → List Value → Type 0
AreOf [] [] = Unit {0}
AreOf [] (v ∷ vs) = ⊥
AreOf (l ∷ ls) [] = ⊥
AreOf (l ∷ ls) (v ∷ vs) = HasLayout l v × AreOf ls vs

-- so many cells from an offset on
abbrev pub fetch : ℕ → ℕ → List ℤ → List ℤ
fetch n o cs = take n (drop o cs)

-- the cells with others in their place from an offset on
abbrev pub put : ℕ → List ℤ → List ℤ → List ℤ
put o vs cs = take o cs ++ (vs ++ drop (o + length vs) cs)
