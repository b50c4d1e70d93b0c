-- How far a loop over a list has come, and what it adds for each element.
use Rattle.std.specs.Prelude.{ℕ, ℤ, Bool, List, [], ◌∷◌, ◌++◌, length, Option, Result, Ok, Err}
use Rattle.cc_base.specs.declared.names.FaultKind.{FaultKind}
use Rattle.cc_typed.specs.declared.types.DataType.{DataType}
use Rattle.cc_typed.specs.declared.types.Structure.{Structure}
use Rattle.cc_faults.specs.Declarations.{after_constant, constant, constant_value, field_with, with_structure_name}
use Rattle.cc_faults.specs.Faults.{noted}
use Rattle.cc_faults.specs.Judged.{Judged, Good, both, fault, faults, map, outcome, second}
use Rattle.cc_faults.specs.Rows.{fresh, value_type}
use Rattle.cc_faults.specs.Scopes.{Scope, is_among}
use Rattle.cc_faults.specs.declared.fault.FaultAt.{FaultAt}
use Rattle.cc_faults.specs.declared.fault.TypeKind.TheVariants as kind
use Rattle.cc_faults.specs.declared.plain.Constant.{Constant}
use Rattle.cc_faults.specs.declared.plain.Field.{Field}
use Rattle.cc_faults.specs.declared.plain.Identifier.{Identifier}
use Rattle.cc_faults.specs.declared.plain.Parameter.{Parameter}
use Rattle.cc_faults.specs.declared.plain.TypeName.{TypeName}
use Rattle.cc_declared.specs.Lists.{and_keep, and_once, and_put}

-- a field whose name is taken, or not: 2, 3, 4, 5, 6, 8
abbrev pub field_at : Scope → Bool → Field → Judged DataType
field_at s taken f = map second (both (fresh taken f.name) (field_with s f f.length))

-- the types of the fields so far, what was noted, and their names, each once
abbrev pub Fields : Type 0
Fields = Result (List DataType) FaultAt × Option FaultAt × List ℕ

abbrev pub and_field_found : Scope → Fields → Field → Fields
and_field_found s w f = (
  and_put w.0 (outcome (field_at s (is_among w.2 f.name.name) f)),
  noted w.1 (faults (field_at s (is_among w.2 f.name.name) f)),
  and_once w.2 f.name.name,
)

-- the types so far, and what was noted
abbrev pub Types : Type 0
Types = Result (List DataType) FaultAt × Option FaultAt

abbrev pub and_type_found : Scope → Types → TypeName → Types
and_type_found s w t = (and_put w.0 (outcome (value_type s t)), noted w.1 (faults (value_type s t)))

abbrev pub and_parameter_found : Scope → Types → Parameter → Types
and_parameter_found s w p = and_type_found s w p.of

-- ---- enumerations

-- a value that is an `int`, or the fault of a constant
abbrev pub int_at : Identifier → Result ℤ FaultKind → Judged ℤ
int_at x (Ok n) = Good n
int_at x (Err k) = fault x.place kind.EnumRange

-- what is visible so far, the value of the constant before, the type of all, and what was noted
abbrev pub Constants : Type 0
Constants = Scope × Result ℤ FaultAt × Result DataType FaultAt × Option FaultAt

abbrev pub and_constant_found : Constants → Constant → Constants
and_constant_found w c = (
  after_constant w.0 w.1 c,
  outcome (constant_value w.0 w.1 c),
  and_keep w.2 (outcome (constant w.0 w.1 c)),
  noted w.3 (faults (constant w.0 w.1 c)),
)

-- ---- structures

-- a structure that was found, with these names of its fields, or the fault of its declaration
abbrev pub with_structure_found : Scope → Identifier → Result Structure FaultAt → List ℕ → Scope
with_structure_found s x (Err f) names = with_structure_name s x (Err f)
with_structure_found s x (Ok c) names =
    record (with_structure_name s x (Ok (length s.structures))) { structures = s.structures ++ c ∷ []; members = s.members ++ names ∷ [] }
