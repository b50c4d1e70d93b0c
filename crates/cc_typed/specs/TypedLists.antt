-- Typed phrases in a list.
use Rattle.std.specs.List.{list_all}
use Rattle.std.specs.Prelude.{Bool, true, false, not, ◌&&◌, ◌||◌, List, [], ◌∷◌, slice_get}
use Rattle.cc_base.specs.Numbers.{wider}
use Rattle.cc_base.specs.declared.numbers.NumberType.{NumberType}
use Rattle.cc_base.specs.declared.numbers.NumberType.TheVariants as numeric
use Rattle.cc_typed.specs.Sequences.{is_empty}
use Rattle.cc_typed.specs.Parting.{is_of_type}
use Rattle.cc_typed.specs.Typed.{Surroundings, is_comparable, is_number_option, is_part_step, is_terminate, is_typed, is_typed_choice, is_typed_part, is_typed_statement, is_typed_step}
use Rattle.cc_typed.specs.Types.{Int, is_arithmetic, is_assignable, is_same, is_same_number, number_in, type_after, type_after_step, type_of}
use Rattle.cc_typed.specs.declared.tree.Alternative.{Alternative}
use Rattle.cc_typed.specs.declared.tree.Argument.{Argument}
use Rattle.cc_typed.specs.declared.tree.ChainStep.{ChainStep}
use Rattle.cc_typed.specs.declared.tree.Compared.{Compared}
use Rattle.cc_typed.specs.declared.tree.Expression.{Expression}
use Rattle.cc_typed.specs.declared.tree.Location.{Location}
use Rattle.cc_typed.specs.declared.tree.Operation.{Operation}
use Rattle.cc_typed.specs.declared.tree.PartStep.{PartStep}
use Rattle.cc_typed.specs.declared.types.DataType.{DataType}

abbrev pub is_part_first : List ChainStep → Bool
is_part_first [] = false
is_part_first (s ∷ rest) = is_part_step s

module _ (s : Surroundings) where
  abbrev pub parts_typed : DataType → List PartStep → DataType → Bool
  parts_typed t [] u = is_same t u
  parts_typed t (p ∷ rest) u = is_typed_part s t p && parts_typed (type_after p) rest u

  abbrev pub is_typed_location : Location → Bool
  is_typed_location l = is_of_type (slice_get s.variables l.variable) l.of && parts_typed l.of l.steps l.data_type

  abbrev pub steps_typed : DataType → List ChainStep → DataType → Bool
  steps_typed t [] u = is_same t u
  steps_typed t (c ∷ rest) u = is_typed_step s t c && steps_typed (type_after_step c) rest u

  abbrev pub arguments_typed : List Argument → List DataType → Bool
  arguments_typed [] [] = true
  arguments_typed [] (u ∷ us) = false
  arguments_typed (a ∷ rest) [] = false
  arguments_typed (a ∷ rest) (u ∷ us) =
      (is_typed s a.value && is_assignable (type_of a.value) a.data_type && is_same u a.data_type)
      && arguments_typed rest us

  abbrev pub operations_typed : NumberType → List Operation → NumberType → Bool
  operations_typed u [] t = is_same_number u t && not (is_same_number t numeric.Char)
  operations_typed u (o ∷ rest) t =
      (is_typed s o.operand && is_arithmetic (type_of o.operand) && is_same_number (wider u (number_in (type_of o.operand))) o.number_type)
      && operations_typed o.number_type rest t

  abbrev pub comparisons_typed : DataType → List Compared → Bool
  comparisons_typed u [] = is_same u Int
  comparisons_typed u (c ∷ rest) =
      (is_typed s c.operand && is_comparable c.comparison u (type_of c.operand)) && comparisons_typed Int rest

  abbrev pub operands_typed : DataType → List Expression → Bool
  operands_typed u [] = is_same u Int
  operands_typed u (e ∷ rest) = (is_typed s e && is_arithmetic (type_of e)) && operands_typed Int rest

  -- `terminate` has no entries
  abbrev pub is_typed_alternative : Alternative → Bool
  is_typed_alternative a =
      is_number_option s a.guard
      && is_typed_choice s a.choice
      && (not (is_terminate a.choice) || is_empty a.entries)
      && list_all (is_typed_statement s) a.entries
