-- Types, and the types of phrases.
use Rattle.std.specs.Prelude.{ℕ, Bool, true, false, ◌&&◌, ◌||◌, nat_eq, List, [], ◌∷◌}
use Rattle.cc_base.specs.declared.numbers.NumberType.{NumberType}
use Rattle.cc_base.specs.declared.numbers.NumberType.TheVariants as numeric
use Rattle.cc_typed.specs.declared.tree.ChainStep.{ChainStep, Part, Call', Send'}
use Rattle.cc_typed.specs.declared.tree.Expression.{Expression, Constant, GetChar, Read', Chain', Negate', Not', Plus', Parenthesized', ChangeBefore', ChangeAfter', Arithmetic', Compare', Both', Either', Choose', Assign', Update', CallFunction', CreateProcess', Within', PutChar', PrintFormat'}
use Rattle.cc_typed.specs.declared.tree.PartStep.{PartStep, Field, Element}
use Rattle.cc_typed.specs.declared.types.DataType.{DataType}
use Rattle.cc_typed.specs.declared.types.DataType.TheVariants.{Void, Single, Array}
use Rattle.cc_typed.specs.declared.types.ElementType.{ElementType}
use Rattle.cc_typed.specs.declared.types.ElementType.TheVariants as item

pattern abbrev pub of_number : NumberType → DataType
of_number n = Single (item.Number n)

pattern abbrev pub of_process : ℕ → DataType
of_process k = Single (item.Process k)

pattern abbrev pub of_struct : ℕ → DataType
of_struct n = Single (item.Struct n)

abbrev pub Int : DataType
Int = of_number numeric.Int

abbrev pub Long : DataType
Long = of_number numeric.Long

-- the same type
abbrev pub is_same_number : NumberType → NumberType → Bool
is_same_number numeric.Char numeric.Char = true
is_same_number numeric.Int numeric.Int = true
is_same_number numeric.Long numeric.Long = true
is_same_number _ _ = false

abbrev pub is_same_element : ElementType → ElementType → Bool
is_same_element (item.Number n) (item.Number m) = is_same_number n m
is_same_element (item.Process k) (item.Process j) = nat_eq k j
is_same_element (item.Struct k) (item.Struct j) = nat_eq k j
is_same_element _ _ = false

abbrev pub is_same : DataType → DataType → Bool
is_same Void Void = true
is_same (Single e) (Single f) = is_same_element e f
is_same (Array e n) (Array f m) = is_same_element e f && nat_eq n m
is_same _ _ = false

abbrev pub is_same_all : List DataType → List DataType → Bool
is_same_all [] [] = true
is_same_all [] (u ∷ us) = false
is_same_all (t ∷ ts) [] = false
is_same_all (t ∷ ts) (u ∷ us) = is_same t u && is_same_all ts us

abbrev pub is_void : DataType → Bool
is_void Void = true
is_void _ = false

abbrev pub is_arithmetic : DataType → Bool
is_arithmetic (of_number n) = true
is_arithmetic _ = false

abbrev pub is_process : DataType → Bool
is_process (of_process k) = true
is_process _ = false

abbrev pub is_process_of : ℕ → DataType → Bool
is_process_of k t = is_same (of_process k) t

abbrev pub is_struct : DataType → Bool
is_struct (of_struct n) = true
is_struct _ = false

abbrev pub is_array : DataType → Bool
is_array (Array e n) = true
is_array _ = false

-- how many elements; none of a type that is no array
abbrev pub array_length : DataType → ℕ
array_length (Array e n) = n
array_length _ = 0

-- a value of the first type may be assigned to the second
abbrev pub is_assignable : DataType → DataType → Bool
is_assignable from to = is_arithmetic from && is_arithmetic to || (is_process to || is_struct to) && is_same from to

-- the type of its numbers, and `int` for a type without any
abbrev pub number_in : DataType → NumberType
number_in (of_number n) = n
number_in _ = numeric.Int

-- the type of the part to which a step leads
unfoldable pub type_after : PartStep → DataType
type_after (Field k t) = t
type_after (Element e t) = t

-- the type of what stands after a step of a chain
unfoldable pub type_after_step : ChainStep → DataType
type_after_step (Part s) = type_after s
type_after_step (Call' trans _ args t) = t
type_after_step (Send' trans _ args) = Void

unfoldable pub type_of : Expression → DataType
type_of (Constant n t) = of_number t
type_of GetChar = Int
type_of (Read' x t _ steps u) = u
type_of (Chain' _ e _ steps u) = u
type_of (Negate' _ e t) = of_number t
type_of (Not' _ e) = Int
type_of (Plus' _ e t) = of_number t
type_of (Parenthesized' _ e t) = t
type_of (ChangeBefore' x t _ steps u d) = u
type_of (ChangeAfter' x t _ steps u d) = u
type_of (Arithmetic' _ a _ rest t) = of_number t
type_of (Compare' _ a _ rest) = Int
type_of (Both' _ a _ rest) = Int
type_of (Either' _ a _ rest) = Int
type_of (Choose' _ c _ a _ b t) = t
type_of (Assign' x t _ steps u _ e) = u
type_of (Update' x t _ steps u o _ e) = u
type_of (CallFunction' f _ args t) = t
type_of (CreateProcess' k _ args) = of_process k
type_of (Within' _ d _ p trans _ args _ e t) = t
type_of (PutChar' _ e) = Int
type_of (PrintFormat' f _ args) = Int
