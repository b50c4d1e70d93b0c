-- process spec s() { trans async t(int x); };
-- process body s() { select { accept t(x) suchthat (10 / x) by (0 - x) { } or terminate; } }
-- main() { create s(); }
use Rattle.std.specs.Prelude.{pos, [], ◌∷◌, Some, None, true}
use Rattle.cc_base.specs.declared.numbers.NumberType.TheVariants.{Int}
use Rattle.cc_code.specs.declared.code.RawCode.{RawCode}
use Rattle.cc_code.specs.declared.instr.Instr.TheVariants as instr

abbrev pub code : RawCode
code =
    record {
      instrs =
          instr.Create 1
          ∷ instr.Drop 1
          ∷ instr.End
          ∷ instr.SelBegin
          ∷ instr.OfferAccept 0 0
          ∷ instr.OfferEnd 1
          ∷ instr.SelWait 0
          ∷ instr.Reply 0
          ∷ instr.End
          ∷ instr.Const (pos 10)
          ∷ instr.Const (pos 0)
          ∷ instr.Fetch 1
          ∷ instr.Div Int
          ∷ instr.Yield
          ∷ instr.Const (pos 0)
          ∷ instr.Const (pos 0)
          ∷ instr.Fetch 1
          ∷ instr.Sub Int
          ∷ instr.Yield
          ∷ [];
      heights = 0 ∷ 1 ∷ 0 ∷ 0 ∷ 0 ∷ 0 ∷ 0 ∷ 0 ∷ 0 ∷ 0 ∷ 1 ∷ 2 ∷ 2 ∷ 1 ∷ 0 ∷ 1 ∷ 2 ∷ 2 ∷ 1 ∷ [];
      functions = [];
      kinds =
          record { entry = 0; args = 0; cells = 0; value = 0 }
          ∷ record { entry = 3; args = 0; cells = 1; value = 0 }
          ∷ [];
      transactions = record { is_async = true; args = 1; value = 0 } ∷ [];
      sites = record { trans = 0; into = 0; env = []; such = Some 9; by = Some 14 } ∷ [];
      tables = (record { alt = 0; site = Some 0; address = 7 } ∷ record { alt = 1; site = None; address = 8 } ∷ []) ∷ [];
      formats = [];
    }
