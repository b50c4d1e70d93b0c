-- Programs whose requests were taken by hand from the rules of the language, and that the meaning gives them. Each shows one rule
-- in which a slip would be easy.
use Rattle.std.specs.Prelude.{◌≡◌, ℕ, ℤ, false, pos, negsuc, List, [], ◌∷◌, None, Some}
use Rattle.std.proofs.Common.{refl}
use Rattle.cc_base.specs.Formats.{formatted}
use Rattle.cc_base.specs.Loops.{turns as loop_turns}
use Rattle.cc_base.specs.Numbers.{compared, converted, in_range, indexed, is_char, is_int, is_long, operated}
use Rattle.cc_base.specs.declared.alternatives.Alt.TheVariants as alt
use Rattle.cc_base.specs.declared.numbers.Comparison.TheVariants.{Equal, Less}
use Rattle.cc_base.specs.declared.numbers.NumberType.TheVariants as numeric
use Rattle.cc_base.specs.declared.numbers.Operator.TheVariants.{Add, Divide, Remainder, Subtract}
use Rattle.cc_base.specs.declared.names.FaultKind.TheVariants.{CalleeGone, Index, NullProcess, Overflow}
use Rattle.cc_base.specs.declared.request.Grant.{Grant}
use Rattle.cc_base.specs.declared.request.Grant.TheVariants.{Go, Gone, Late, Made, Value}
use Rattle.cc_base.specs.declared.request.Request.{Request}
use Rattle.cc_base.specs.declared.request.Request.TheVariants.{Done, Fault, Pause, Print, Select, TimedCall}
use Rattle.cc_source.specs.Meaning.{eval, exec}
use Rattle.cc_source.specs.Programs.{act, call, fit}
use Rattle.cc_typed.specs.Layout.{cells}
use Rattle.cc_typed.specs.Parts.{Parts}
use Rattle.cc_typed.specs.Table.{element_within}
use Rattle.cc_typed.specs.Types.{Int, of_number, of_process, of_struct, type_after, type_after_step, type_of}
use Rattle.cc_typed.specs.Values.{flat, unflat, zero_of}
use Rattle.cc_typed.specs.declared.tree.Argument.{Argument}
use Rattle.cc_typed.specs.declared.tree.ChainStep.{Call, Part}
use Rattle.cc_typed.specs.declared.tree.ChainStep.TheBlock as E
use Rattle.cc_typed.specs.declared.tree.Change.TheVariants.{Up}
use Rattle.cc_typed.specs.declared.tree.Choice.{Accept as AcceptChoice, Delay as DelayChoice, Immediate}
use Rattle.cc_typed.specs.declared.tree.Choice.TheBlock as S
use Rattle.cc_typed.specs.declared.tree.Expression.{Expression, Arithmetic, Assign, Both, CallFunction, Chain, ChangeAfter, Compare, Constant, CreateProcess, PrintFormat, PutChar, Read, Update, Within}
use Rattle.cc_typed.specs.declared.tree.Function.{Function}
use Rattle.cc_typed.specs.declared.tree.Location.{Location}
use Rattle.cc_typed.specs.declared.tree.PartStep.{Element, Field}
use Rattle.cc_typed.specs.declared.tree.Statement.{Statement, Block, Continue, DoWhile, Evaluate, Finish, For, If, Return, Select as SelectStatement}
use Rattle.cc_typed.specs.declared.types.DataType.{DataType}
use Rattle.cc_typed.specs.declared.types.DataType.TheVariants.{Void, Array}
use Rattle.cc_typed.specs.declared.types.ElementType.TheVariants as item
use Rattle.cc_typed.specs.declared.types.Structure.{Structure}
use denote.Hole.Carrier.{hidden}

-- a variable as a whole
abbrev variable : ℕ → DataType → Location
variable x t = record { variable = x; of = t; steps = []; data_type = t }

-- a variable of type `int`, and its value
abbrev place : ℕ → Location
place x = variable x Int

abbrev value : ℕ → Expression
value x = Read (place x)

abbrev number : ℤ → Expression
number n = Constant n numeric.Int

-- `putchar` of a character
abbrev put : ℕ → Expression
put c = PutChar (number (pos c))

-- an argument for a parameter of type `int`
abbrev given : Expression → Argument
given e = record { value = e; data_type = Int }

-- `%d` and `%d%d`
abbrev one_number : List ℕ
one_number = 37 ∷ 100 ∷ []

abbrev two_numbers : List ℕ
two_numbers = 37 ∷ 100 ∷ 37 ∷ 100 ∷ []

-- `main` with these variables and this body, beside these structures and functions
abbrev program : List Structure → List Function → List DataType → List Statement → Parts
program structures functions types body =
    record {
      structures = structures;
      kinds = record { parameters = 0; variables = types; result = Int; body = body } ∷ [];
      functions = functions;
      transactions = [];
      sites = [];
      formats = one_number ∷ two_numbers ∷ [];
    }

-- what `main` asks after these grants, where nothing but `main` is there
abbrev asks : List DataType → List Statement → List Grant → Request
asks types body grants = act (program [] [] types body) 0 [] grants

-- `a = 1; a += a = 5; printf("%d", a);`
abbrev updates : List Statement
updates =
    Evaluate (Assign (place 0) (number (pos 1)))
    ∷ Evaluate (Update (place 0) Add (Assign (place 0) (number (pos 5))))
    ∷ Evaluate (PrintFormat 0 (value 0 ∷ []))
    ∷ []

abbrev character : Location
character = variable 0 (of_number numeric.Char)

-- `c = 255; printf("%d%d", c++, c);`, of a `char`
abbrev changes : List Statement
changes =
    Evaluate (Assign character (number (pos 255)))
    ∷ Evaluate (PrintFormat 1 (ChangeAfter character Up ∷ Read character ∷ []))
    ∷ []

-- `c -= 1000L; printf("%d", c);`, of a `char`
abbrev shrinks : List Statement
shrinks =
    Evaluate (Update character Subtract (Constant (pos 1000) numeric.Long))
    ∷ Evaluate (PrintFormat 0 (Read character ∷ []))
    ∷ []

-- the least `int`
abbrev least : Expression
least = number (negsuc 2147483647)

-- `printf("%d", least % -1); least / -1;`
abbrev quotients : List Statement
quotients =
    Evaluate (PrintFormat 0 (Arithmetic least (record { operator = Remainder; operand = number (negsuc 0); number_type = numeric.Int } ∷ []) numeric.Int ∷ []))
    ∷ Evaluate (Arithmetic least (record { operator = Divide; operand = number (negsuc 0); number_type = numeric.Int } ∷ []) numeric.Int)
    ∷ []

-- `a[2]` of `int a[2];`
abbrev past_the_end : Location
past_the_end =
    record { variable = 0; of = Array (item.Number numeric.Int) 2; steps = Element (number (pos 2)) Int ∷ []; data_type = Int }

-- `struct s { int a; int b; };`
abbrev pair : Structure
pair = record { fields = record { data_type = Int; offset = 0 } ∷ record { data_type = Int; offset = 1 } ∷ []; cells = 2 }

abbrev field : ℕ → ℕ → Location
field x k = record { variable = x; of = of_struct 0; steps = Field k Int ∷ []; data_type = Int }

-- `r.a = 3; r.b = 7; q.a = (q = r).a; printf("%d%d", q.a, q.b);`
abbrev copies : List Statement
copies =
    Evaluate (Assign (field 1 0) (number (pos 3)))
    ∷ Evaluate (Assign (field 1 1) (number (pos 7)))
    ∷ Evaluate (Assign (field 0 0) (Chain (Assign (variable 0 (of_struct 0)) (Read (variable 1 (of_struct 0)))) (Part (Field 0 Int) ∷ []) Int))
    ∷ Evaluate (PrintFormat 1 (Read (field 0 0) ∷ Read (field 0 1) ∷ []))
    ∷ []

abbrev large : Expression
large = Constant (pos 5000000000) numeric.Long

-- `process s p; p.t(putchar('x'));`
abbrev null_call : List Statement
null_call =
    Evaluate (Chain (Read (variable 0 (of_process 1))) (Call 0 (given (put 120) ∷ []) Int ∷ []) Int)
    ∷ []

-- `p = create s(); within putchar('d') ? p.t(putchar('a')) : putchar('e');`
abbrev timed_call : List Statement
timed_call =
    Evaluate (Assign (variable 0 (of_process 1)) (CreateProcess 1 []))
    ∷ Evaluate (Within (put 100) (Read (variable 0 (of_process 1))) 0 (given (put 97) ∷ []) (put 101) Int)
    ∷ []

abbrev made : List Grant
made = Go ∷ Made (record { 0 = 1 }) ∷ Go ∷ Go ∷ []

-- after its process was made, and after this answer
abbrev after : Grant → Request
after g = asks (of_process 1 ∷ []) timed_call (Go ∷ Made (record { 0 = 1 }) ∷ Go ∷ Go ∷ g ∷ [])

-- `suchthat (10 / x)` at an accept of a transaction with one parameter of type `int`
abbrev dividing : Parts
dividing =
    record {
      structures = [];
      kinds =
          record { parameters = 0; variables = []; result = Int; body = [] }
          ∷ record { parameters = 0; variables = Int ∷ []; result = Void; body = [] }
          ∷ [];
      functions = [];
      transactions = record { kind = 1; is_async = false; parameters = Int ∷ []; value = Void } ∷ [];
      sites =
          record {
            kind = 1;
            transaction = 0;
            first = 0;
            environment = [];
            such_that = Some (Arithmetic (number (pos 10)) (record { operator = Divide; operand = value 0; number_type = numeric.Int } ∷ []) numeric.Int);
            least_by = None;
          }
          ∷ [];
      formats = [];
    }

-- `for (i = 0; i < 3; i++) { if (i == 1) continue; putchar(i); }`
abbrev turns : List Statement
turns =
    For (Some (Assign (place 0) (number (pos 0))))
    (Some (Compare (value 0) (record { comparison = Less; operand = number (pos 3) } ∷ []))) (Some (ChangeAfter (place 0) Up))
    (Block (If (Compare (value 0) (record { comparison = Equal; operand = number (pos 1) } ∷ [])) Continue ∷ Evaluate (PutChar (value 0)) ∷ []))
    ∷ []

-- `do i++; while (i < n);`
abbrev counts : ℤ → List Statement
counts n = DoWhile (Evaluate (ChangeAfter (place 0) Up)) (Compare (value 0) (record { comparison = Less; operand = number n } ∷ [])) ∷ []

-- `select { (putchar('a') == 0): accept t(); or (putchar('b')): delay putchar('c'); or immediate; }`
abbrev choices : List Statement
choices =
    SelectStatement
    (record {
      guard = Some (Compare (put 97) (record { comparison = Equal; operand = number (pos 0) } ∷ []));
      choice = AcceptChoice (record { site = 0; block = [] });
      entries = [];
    }
    ∷ record { guard = Some (put 98); choice = DelayChoice (put 99); entries = [] }
    ∷ record { guard = None; choice = Immediate; entries = [] }
    ∷ [])
    ∷ []

abbrev selects : List Grant → Request
selects grants = asks [] choices grants

-- what they ask
abbrev pub WorkedPrograms : Type 0
WorkedPrograms =
    -- an update reads its place before its right operand
    (asks (Int ∷ []) updates (Go ∷ []) ≡ Print (formatted one_number (pos 6 ∷ [])))
    -- the old value, and then 256 modulo 256
    × (asks (of_number numeric.Char ∷ []) changes (Go ∷ []) ≡ Print (formatted two_numbers (pos 255 ∷ pos 0 ∷ [])))
    -- computed as `long`, and then modulo 256
    × (asks (of_number numeric.Char ∷ []) shrinks (Go ∷ []) ≡ Print (formatted one_number (pos 24 ∷ [])))
    -- its remainder is 0
    × (asks [] quotients (Go ∷ []) ≡ Print (formatted one_number (pos 0 ∷ [])))
    -- its quotient is no `int`
    × (asks [] quotients (Go ∷ Go ∷ []) ≡ Fault Overflow)
    -- `int a[2]; a[2] = putchar('x');`
    × (asks (Array (item.Number numeric.Int) 2 ∷ [])
    (Evaluate (Assign past_the_end (put 120)) ∷ []) (Go ∷ []) ≡ Fault Index)
    -- the place stays though the right operand overwrites the structure
    × (act (program (pair ∷ []) [] (of_struct 0 ∷ of_struct 0 ∷ []) copies) 0 [] (Go ∷ []) ≡ Print (formatted two_numbers (pos 3 ∷ pos 7 ∷ [])))
    -- `f(int a, int b) { } main() { f(5000000000, putchar('x')); }`
    × (act (program [] (record { parameters = 2; variables = Int ∷ Int ∷ []; result = Void; body = [] } ∷ []) []
    (Evaluate (CallFunction 0 (given large ∷ given (put 120) ∷ []) Void) ∷ [])) 0 [] (Go ∷ []) ≡ Fault Overflow)
    -- `main() { return 5000000000; }`
    × (asks [] (Finish (Some large) ∷ []) (Go ∷ []) ≡ Done)
    -- `f() { return 5000000000; } main() { f(); }`
    × (act (program [] (record { parameters = 0; variables = []; result = Int; body = Return (Some large) Int ∷ [] } ∷ []) []
    (Evaluate (CallFunction 0 [] Int) ∷ [])) 0 [] (Go ∷ []) ≡ Fault Overflow)
    -- the arguments are evaluated
    × (asks (of_process 1 ∷ []) null_call (Go ∷ []) ≡ Print (120 ∷ []))
    -- and then the process is found to be null
    × (asks (of_process 1 ∷ []) null_call (Go ∷ Go ∷ []) ≡ Fault NullProcess)
    -- the wait is evaluated before the arguments
    × (asks (of_process 1 ∷ []) timed_call (Go ∷ Made (record { 0 = 1 }) ∷ []) ≡ Print (100 ∷ []))
    -- the call, of process 1, for 100 milliseconds
    × (asks (of_process 1 ∷ []) timed_call made ≡ TimedCall (record { 0 = 1 }) 0 (pos 97 ∷ []) (pos 100))
    -- what stands for the value is evaluated where the call is late
    × (after Late ≡ Print (101 ∷ []))
    -- and not where it is answered
    × (after (Value (pos 7 ∷ [])) ≡ Done)
    -- a callee that is gone is a fault
    × (after Gone ≡ Fault CalleeGone)
    -- `0 && putchar('x');`
    × (asks [] (Evaluate (Both (number (pos 0)) (put 120 ∷ [])) ∷ []) (Go ∷ []) ≡ Done)
    -- a clause that faults holds for no call
    × (fit dividing 0 [] (pos 0 ∷ []) ≡ None)
    -- and without `by` each call that fits has the rank 0
    × (fit dividing 0 [] (pos 5 ∷ []) ≡ Some (pos 0))
    -- the first turn
    × (asks (Int ∷ []) turns (Go ∷ []) ≡ Print (0 ∷ []))
    -- `continue` goes on with the third part
    × (asks (Int ∷ []) turns (Go ∷ Go ∷ []) ≡ Print (2 ∷ []))
    -- and the loop ends
    × (asks (Int ∷ []) turns (Go ∷ Go ∷ Go ∷ []) ≡ Done)
    -- a thousand turns spend the ticks of a grant
    × (asks (Int ∷ []) (counts (pos 1000)) (Go ∷ []) ≡ Done)
    -- and one more asks for others
    × (asks (Int ∷ []) (counts (pos 1001)) (Go ∷ []) ≡ Pause)
    -- guards and durations are evaluated in the order of the text
    × (selects (Go ∷ []) ≡ Print (97 ∷ []))
    -- the duration after its guard
    × (selects (Go ∷ Go ∷ Go ∷ []) ≡ Print (99 ∷ []))
    -- and those that are open keep their numbers
    × (selects (Go ∷ Go ∷ Go ∷ Go ∷ []) ≡ Select ((1, alt.After (pos 99)) ∷ (2, alt.Now) ∷ []))

pub worked-programs : WorkedPrograms
unfolding act call fit exec eval loop_turns operated in_range converted compared indexed is_char is_int is_long element_within cells zero_of unflat flat
    type_of type_after type_after_step E.shape-the_row-Expression-2 E.hidden-the_row-Expression-2 E.hidden-the_row-PartStep-1
    E.hidden-the_row-ChainStep-3 E.hidden-the_row-Operation-4 E.hidden-the_row-Compared-5 E.hidden-the_row-Expression-6
    E.hidden-the_row-Argument-0 S.shape-the_row-Statement-1 S.hidden-the_row-Statement-1 S.hidden-the_row-Statement-0
    S.hidden-the_row-Alternative-2 hidden
worked-programs = (
  refl,
  refl,
  refl,
  refl,
  refl,
  refl,
  refl,
  refl,
  refl,
  refl,
  refl,
  refl,
  refl,
  refl,
  refl,
  refl,
  refl,
  refl,
  refl,
  refl,
  refl,
  refl,
  refl,
  refl,
  refl,
  refl,
  refl,
  refl,
)
