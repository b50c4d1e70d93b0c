-- process spec s() { trans int t(); };
-- process body s() { accept t() { treturn 1; } }
-- main() { process s p; p = create s(); delay 10; putchar(48 + (within 0 ? p.t() : 7)); }
use Rattle.std.specs.Prelude.{pos, List, [], ◌∷◌, ◌++◌, Some, None, false}
use Rattle.cc_base.specs.declared.numbers.NumberType.TheVariants.{Int}
use Rattle.cc_base.specs.declared.request.Grant.{Grant}
use Rattle.cc_base.specs.declared.request.Grant.TheVariants.{Go, Made}
use Rattle.cc_code.specs.declared.code.RawCode.{RawCode}
use Rattle.cc_code.specs.declared.instr.Instr.{Instr}
use Rattle.cc_code.specs.declared.instr.Instr.TheVariants as instr

abbrev pub main_code : List Instr
main_code =
    instr.Zero 0 1
    ∷ instr.Const (pos 0)
    ∷ instr.Create 1
    ∷ instr.Put 1
    ∷ instr.Drop 1
    ∷ instr.Const (pos 10)
    ∷ instr.Wait
    ∷ instr.Const (pos 48)
    ∷ instr.Const (pos 0)
    ∷ instr.Const (pos 0)
    ∷ instr.Fetch 1
    ∷ instr.AskWithin 0 13
    ∷ instr.Jump 14
    ∷ instr.Const (pos 7)
    ∷ instr.Add Int
    ∷ instr.PutByte
    ∷ instr.Drop 1
    ∷ instr.End
    ∷ []

-- from address 18 on
abbrev pub server_code : List Instr
server_code =
    instr.SelBegin
    ∷ instr.OfferAccept 0 0
    ∷ instr.SelWait 0
    ∷ instr.Const (pos 1)
    ∷ instr.Reply 1
    ∷ instr.Jump 26
    ∷ instr.Zeros 1
    ∷ instr.Reply 1
    ∷ instr.End
    ∷ []

abbrev pub code : RawCode
code =
    record {
      instrs = main_code ++ server_code;
      heights = 0 ∷ 0 ∷ 1 ∷ 2 ∷ 1 ∷ 0 ∷ 1 ∷ 0 ∷ 1 ∷ 2 ∷ 3 ∷ 3 ∷ 2 ∷ 1 ∷ 2 ∷ 1 ∷ 1 ∷ 0 ∷ 0 ∷ 0 ∷ 0 ∷ 0 ∷ 1 ∷ 0 ∷ 0 ∷ 1 ∷ 0 ∷ [];
      functions = [];
      kinds =
          record { entry = 0; args = 0; cells = 1; value = 0 }
          ∷ record { entry = 18; args = 0; cells = 0; value = 0 }
          ∷ [];
      transactions = record { is_async = false; args = 0; value = 1 } ∷ [];
      sites = record { trans = 0; into = 0; env = []; such = None; by = None } ∷ [];
      tables = (record { alt = 0; site = Some 0; address = 21 } ∷ []) ∷ [];
      formats = [];
    }

-- the grants of `main` until it has called
abbrev pub until_called : List Grant
until_called = Go ∷ Made (record { 0 = 1 }) ∷ Go ∷ []
