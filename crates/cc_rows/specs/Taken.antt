-- How many arguments `printf` takes, from the numbers that its format takes, which are known where that is well formed.
use Rattle.std.specs.Prelude.{ℕ, List, Option, Some, None, if◌then◌else◌}
use Rattle.cc_base.specs.Formats.{conversions, is_format}
use Rattle.cc_base.specs.declared.names.Place.{Place}
use Rattle.cc_faults.specs.Judged.{Judged, fault}
use Rattle.cc_faults.specs.Rows.{as_many}
use Rattle.cc_faults.specs.declared.fault.TypeKind.TheVariants as kind

abbrev pub numbers_of : List ℕ → Option ℕ
numbers_of format = if is_format format then Some (conversions format) else None

-- 28 at the format, and else 13 at the call
abbrev pub taken : Place → Place → ℕ → Option ℕ → Judged (Unit {0})
taken format p given None = fault format kind.BadFormat
taken format p given (Some numbers) = as_many p given numbers tt
