-- f(int n) { if (n) return f(n - 1); return 0; }
-- main() { putchar(f(2) + 65); }
use Rattle.std.specs.Prelude.{pos, [], ◌∷◌}
use Rattle.cc_base.specs.declared.numbers.NumberType.TheVariants.{Int}
use Rattle.cc_code.specs.declared.code.RawCode.{RawCode}
use Rattle.cc_code.specs.declared.instr.Instr.TheVariants as instr

abbrev pub code : RawCode
code =
    record {
      instrs =
          instr.Tick
          ∷ instr.Const (pos 0)
          ∷ instr.Fetch 1
          ∷ instr.JumpZero 11
          ∷ instr.Const (pos 0)
          ∷ instr.Fetch 1
          ∷ instr.Const (pos 1)
          ∷ instr.Sub Int
          ∷ instr.Call 0
          ∷ instr.Tick
          ∷ instr.Ret 1
          ∷ instr.Const (pos 0)
          ∷ instr.Tick
          ∷ instr.Ret 1
          ∷ instr.Const (pos 2)
          ∷ instr.Call 0
          ∷ instr.Const (pos 65)
          ∷ instr.Add Int
          ∷ instr.PutByte
          ∷ instr.Drop 1
          ∷ instr.End
          ∷ [];
      heights = 0 ∷ 0 ∷ 1 ∷ 1 ∷ 0 ∷ 1 ∷ 1 ∷ 2 ∷ 1 ∷ 1 ∷ 1 ∷ 0 ∷ 1 ∷ 1 ∷ 0 ∷ 1 ∷ 1 ∷ 2 ∷ 1 ∷ 1 ∷ 0 ∷ [];
      functions = record { entry = 0; args = 1; cells = 1; value = 1 } ∷ [];
      kinds = record { entry = 14; args = 0; cells = 0; value = 0 } ∷ [];
      transactions = [];
      sites = [];
      tables = [];
      formats = [];
    }
