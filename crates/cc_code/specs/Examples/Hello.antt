-- main() { putchar(72); putchar(105); }
use Rattle.std.specs.Prelude.{pos, [], ◌∷◌}
use Rattle.cc_code.specs.declared.code.RawCode.{RawCode}
use Rattle.cc_code.specs.declared.instr.Instr.TheVariants as instr

abbrev pub code : RawCode
code =
    record {
      instrs =
          instr.Const (pos 72)
          ∷ instr.PutByte
          ∷ instr.Drop 1
          ∷ instr.Const (pos 105)
          ∷ instr.PutByte
          ∷ instr.Drop 1
          ∷ instr.End
          ∷ [];
      heights = 0 ∷ 1 ∷ 1 ∷ 0 ∷ 1 ∷ 1 ∷ 0 ∷ [];
      functions = [];
      kinds = record { entry = 0; args = 0; cells = 0; value = 0 } ∷ [];
      transactions = [];
      sites = [];
      tables = [];
      formats = [];
    }
