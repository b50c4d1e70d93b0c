-- Numbers and their types: what arithmetic gives, a number or a fault.
use Rattle.std.specs.Prelude.{ℕ, zero, suc, ◌-◌, ◌%◌, ◌^◌, ℤ, pos, negsuc, ◌+ℤ◌, ◌-ℤ◌, ◌*ℤ◌, int_div, int_rem, int_lt, int_le, Bool, true, false, ◌&&◌, ◌||◌, if◌then◌else◌, nat_lt, Option, Some, None, Result, Ok, Err}
use Rattle.cc_base.specs.declared.names.FaultKind.{FaultKind}
use Rattle.cc_base.specs.declared.names.FaultKind.TheVariants.{Overflow, DivideByZero, Index, NullProcess}
use Rattle.cc_base.specs.declared.names.Pid.{Pid}
use Rattle.cc_base.specs.declared.numbers.Comparison.{Comparison}
use Rattle.cc_base.specs.declared.numbers.Comparison.TheVariants.{Less, AtMost, Greater, AtLeast, Equal, Different}
use Rattle.cc_base.specs.declared.numbers.NumberType.{NumberType}
use Rattle.cc_base.specs.declared.numbers.NumberType.TheVariants.{Char, Int, Long}
use Rattle.cc_base.specs.declared.numbers.Operator.{Operator}
use Rattle.cc_base.specs.declared.numbers.Operator.TheVariants.{Add, Subtract, Multiply, Divide, Remainder}

unfoldable pub is_char : NumberType → Bool
is_char Char = true
is_char _ = false

unfoldable pub is_int : NumberType → Bool
is_int Int = true
is_int _ = false

unfoldable pub is_long : NumberType → Bool
is_long Long = true
is_long _ = false

-- the type of an operation on numbers of these types: `long` where one is, and else `int`
abbrev pub wider : NumberType → NumberType → NumberType
wider t u = if is_long t || is_long u then Long else Int

-- from -2^bits to 2^bits - 1
abbrev pub fits : ℕ → ℤ → Bool
fits bits n = int_le (negsuc (2 ^ bits - 1)) n && int_lt n (pos (2 ^ bits))

-- from 0 to 255
abbrev pub is_byte : ℤ → Bool
is_byte n = int_le (pos 0) n && int_lt n (pos 256)

-- the number is in the range of the type
abbrev pub fits_in : NumberType → ℤ → Bool
fits_in t n = if is_long t then fits 63 n else (if is_int t then fits 31 n else is_byte n)

-- a result of arithmetic in a type
unfoldable pub in_range : NumberType → ℤ → Result ℤ FaultKind
in_range t n = if fits_in t n then Ok n else Err Overflow

-- a number modulo 256
abbrev pub byte_of : ℤ → ℕ
byte_of (pos n) = n % 256
byte_of (negsuc n) = 255 - n % 256

-- a number of the first type as one of the second: modulo 256 as a `char`, and from `long` to `int` in its range
unfoldable pub converted : NumberType → NumberType → ℤ → Result ℤ FaultKind
converted from to n = if is_char to then Ok (pos (byte_of n)) else (if is_long from && is_int to then in_range to n else Ok n)

-- the first at 0, and else the second
abbrev pub at_zero : {A : Type 0} → ℤ → A → A → A
at_zero (pos zero) a b = a
at_zero (pos (suc n)) a b = b
at_zero (negsuc n) a b = b

-- an operation in a type
unfoldable pub operated : Operator → NumberType → ℤ → ℤ → Result ℤ FaultKind
operated Add t a b = in_range t (a +ℤ b)
operated Subtract t a b = in_range t (a -ℤ b)
operated Multiply t a b = in_range t (a *ℤ b)
operated Divide t a b = at_zero b (Err DivideByZero) (in_range t (int_div a b))
operated Remainder t a b = at_zero b (Err DivideByZero) (in_range t (int_rem a b))

-- the opposite of a number
abbrev pub opposite : NumberType → ℤ → Result ℤ FaultKind
opposite t n = in_range t (pos 0 -ℤ n)

-- goes on with the result of the first, or keeps its fault
abbrev pub and_with : {A B : Type 0} → Result A FaultKind → (A → Result B FaultKind) → Result B FaultKind
and_with (Ok a) f = f a
and_with (Err kind) f = Err kind

-- what an update of a number of type t by an operation with one of type u stores
abbrev pub updated : Operator → NumberType → NumberType → ℤ → ℤ → Result ℤ FaultKind
updated o t u old n = and_with (operated o (wider t u) old n) (converted (wider t u) t)

-- 1 for true, 0 for false
abbrev pub truth : Bool → ℤ
truth true = pos 1
truth false = pos 0

-- 0 for 0, and else 1
abbrev pub truth_of : ℤ → ℤ
truth_of n = at_zero n (truth false) (truth true)

-- 1 for 0, and else 0
abbrev pub logical_not : ℤ → ℤ
logical_not n = at_zero n (truth true) (truth false)

unfoldable pub compared : Comparison → ℤ → ℤ → Bool
compared Less a b = int_lt a b
compared AtMost a b = int_le a b
compared Greater a b = int_lt b a
compared AtLeast a b = int_le b a
compared Equal a b = int_le a b && int_le b a
compared Different a b = int_lt a b || int_lt b a

-- an index of an array of n elements
unfoldable pub indexed : ℕ → ℤ → Result ℕ FaultKind
indexed n (pos k) = if nat_lt k n then Ok k else Err Index
indexed n (negsuc k) = Err Index

-- how many processes can be named
abbrev pub pids : ℕ
pids = 2 ^ 32

-- the process of a number, which is one more than the process's own; none outside 1 to 4,294,967,296
abbrev pub process_of : ℤ → Option Pid
process_of (pos zero) = None
process_of (pos (suc p)) = if nat_lt p pids then Some (record { 0 = p }) else None
process_of (negsuc n) = None

-- a process, as a number
abbrev pub number_of : Pid → ℤ
number_of p = pos (suc p.0)

abbrev pub named_process : Option Pid → Result Pid FaultKind
named_process None = Err NullProcess
named_process (Some p) = Ok p

-- the process that a call names
abbrev pub callee : ℤ → Result Pid FaultKind
callee n = named_process (process_of n)
