-- The one quotient that does not fit 64 bits.
use Rattle.std.proofs.Common.{◌≡◌, negsuc, refl, Err}
use Rattle.std.specs.Prelude.{int_div}
use Rattle.cc_base.specs.Numbers.{in_range, is_int, is_long}
use Rattle.cc_base.specs.declared.names.FaultKind.TheVariants.{Overflow}
use Rattle.cc_base.specs.declared.numbers.NumberType.{NumberType}
use Rattle.cc_base.specs.declared.numbers.NumberType.TheVariants.{Char, Int, Long}

pub least_quotient : (t : NumberType) → in_range t (int_div (negsuc 9223372036854775807) (negsuc 0)) ≡ Err Overflow
unfolding in_range is_int is_long
least_quotient Char = refl
least_quotient Int = refl
least_quotient Long = refl
