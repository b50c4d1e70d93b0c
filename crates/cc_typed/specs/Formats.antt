-- Formats of `printf`, as they are read.
use Rattle.std.specs.Prelude.{ℕ, ◌+◌, List, if◌then◌else◌, Option, Some, None}
use Rattle.cc_base.specs.Formats.{conversions, conversions_after_percent, conversions_after_percent_l, is_format, is_format_after_percent, is_format_after_percent_l}
use Rattle.cc_typed.specs.declared.formats.Reading.{Reading}
use Rattle.cc_typed.specs.declared.formats.Reading.TheVariants as reading

-- how many numbers a format takes in all that has taken n up to this point of the reading; none where a `%` begins no conversion
abbrev pub numbers_from : Reading → ℕ → List ℕ → Option ℕ
numbers_from reading.Plain n rest = if is_format rest then Some (conversions rest + n) else None
numbers_from reading.AfterPercent n rest = if is_format_after_percent rest then Some (conversions_after_percent rest + n) else None
numbers_from reading.AfterPercentL n rest = if is_format_after_percent_l rest then Some (conversions_after_percent_l rest + n) else None

abbrev pub numbers_after : Option (Reading × ℕ) → List ℕ → Option ℕ
numbers_after None rest = None
numbers_after (Some step) rest = numbers_from step.0 step.1 rest
