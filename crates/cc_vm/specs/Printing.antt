-- What a format prints, byte by byte.
use Rattle.std.specs.Prelude.{◌≡◌, ◌≢◌, ℕ, ℤ, Bool, true, false, List, [], ◌∷◌, ◌++◌}
use Rattle.cc_base.specs.Formats.{after_percent, after_percent_l, conversions, conversions_after_percent, conversions_after_percent_l, formatted, signed_decimal}
use Rattle.cc_base.specs.Numbers.{byte_of}
use Rattle.cc_vm.specs.declared.marks.Mark.{Mark}
use Rattle.cc_vm.specs.declared.marks.Mark.TheVariants as mark
use Rattle.cc_vm.specs.declared.marks.Reading.{Reading}
use Rattle.cc_vm.specs.declared.marks.Reading.TheVariants as reading

-- the byte is `%`, `d`, `c` or `l`, or none of them
abbrev pub IsMark : ℕ → Mark → Type 0
IsMark b mark.Percent = b ≡ 37
IsMark b mark.Decimal = b ≡ 100
IsMark b mark.Character = b ≡ 99
IsMark b mark.Long = b ≡ 108
IsMark b mark.Other = (b ≢ 37) × (b ≢ 100) × (b ≢ 99) × (b ≢ 108)

-- what the rest of a format prints from where its reading stands
abbrev pub printed_from : Reading → List ℕ → List ℤ → List ℕ
printed_from reading.Plain rest numbers = formatted rest numbers
printed_from reading.Percent rest numbers = after_percent rest numbers
printed_from reading.Long rest numbers = after_percent_l rest numbers

-- what was read of a conversion that is none
abbrev pub left_over : Reading → List ℕ
left_over reading.Plain = []
left_over reading.Percent = 37 ∷ []
left_over reading.Long = 37 ∷ 108 ∷ []

-- what one more byte prints, where this is the next number
abbrev pub written : Reading → Mark → ℕ → ℤ → List ℕ
written reading.Plain mark.Percent b number = []
written reading.Plain m b number = b ∷ []
written reading.Percent mark.Percent b number = b ∷ []
written reading.Percent mark.Decimal b number = signed_decimal number
written reading.Percent mark.Character b number = byte_of number ∷ []
written reading.Percent mark.Long b number = []
written reading.Percent mark.Other b number = left_over reading.Percent ++ b ∷ []
written reading.Long mark.Decimal b number = signed_decimal number
written reading.Long mark.Percent b number = left_over reading.Long
written reading.Long m b number = left_over reading.Long ++ b ∷ []

-- whether it takes a number
abbrev pub numbered : Reading → Mark → Bool
numbered reading.Percent mark.Decimal = true
numbered reading.Percent mark.Character = true
numbered reading.Long mark.Decimal = true
numbered r m = false

abbrev pub reading_after : Reading → Mark → Reading
reading_after reading.Plain mark.Percent = reading.Percent
reading_after reading.Long mark.Percent = reading.Percent
reading_after reading.Percent mark.Long = reading.Long
reading_after r m = reading.Plain

-- how many numbers the rest of a format takes from where its reading stands
abbrev pub numbers_from : Reading → List ℕ → ℕ
numbers_from reading.Plain rest = conversions rest
numbers_from reading.Percent rest = conversions_after_percent rest
numbers_from reading.Long rest = conversions_after_percent_l rest
