-- Parameters and names as variables.
use Rattle.std.specs.Prelude.{ℕ, suc, Bool, true, false, List, [], ◌∷◌, Option, Result, Err}
use Rattle.cc_typed.specs.declared.types.DataType.{DataType}
use Rattle.cc_faults.specs.Faults.{noted}
use Rattle.cc_faults.specs.Judged.{faults, outcome}
use Rattle.cc_faults.specs.Rows.{fresh, value_type}
use Rattle.cc_faults.specs.Scopes.{Scope, declared, is_among}
use Rattle.cc_faults.specs.Statements.{kth}
use Rattle.cc_faults.specs.declared.fault.FaultAt.{FaultAt}
use Rattle.cc_faults.specs.declared.fault.TypeKind.TheVariants as kind
use Rattle.cc_faults.specs.declared.plain.Identifier.{Identifier}
use Rattle.cc_faults.specs.declared.plain.Parameter.{Parameter}
use Rattle.cc_declared.specs.Lists.{and_once, made_of}

-- a parameter more: a type means the same behind it
abbrev pub and_parameter : Scope → Parameter → Scope
and_parameter s p = declared 2 s p.name (outcome (value_type s p.of))

-- ---- names, each once
abbrev pub Names : Type 0
Names = Option FaultAt × List ℕ

abbrev pub and_name_found : Names → Identifier → Names
and_name_found w x = (noted w.0 (faults (fresh (is_among w.1 x.name) x)), and_once w.1 x.name)

abbrev pub and_parameter_name : Names → Parameter → Names
and_parameter_name w p = and_name_found w p.name

-- ---- names with types that are known, or not

-- from the k-th type on, in the scope of this number
abbrev pub names_from : ℕ → Result (List DataType) FaultAt → ℕ → Scope → List Identifier → Scope
names_from scope ts k s [] = s
names_from scope ts k s (x ∷ xs) = names_from scope ts (suc k) (declared scope s x (made_of (kth k) ts)) xs

-- the types, unless there is another number of names
unfoldable pub unless_others : Bool → Identifier → Result (List DataType) FaultAt → Result (List DataType) FaultAt
unless_others true x types = types
unless_others false x types = Err (record { place = x.place; kind = kind.BodyNames })
