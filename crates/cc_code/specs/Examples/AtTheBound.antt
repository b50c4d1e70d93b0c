-- States in which as many instructions came since the last tick as may come, before instructions of several sorts.
use Rattle.std.specs.Prelude.{ℕ, [], ◌∷◌}
use Rattle.cc_base.specs.Limits.{most_steps}
use Rattle.cc_code.specs.Steps.{State}
use Rattle.cc_code.specs.declared.code.RawCode.{RawCode}
use Rattle.cc_code.specs.declared.instr.Instr.TheVariants as instr

abbrev pub code : RawCode
code =
    record {
      instrs = instr.End ∷ instr.SelWait 0 ∷ instr.Call 0 ∷ instr.Jump 0 ∷ instr.Call 1 ∷ instr.Tick ∷ [];
      heights = 0 ∷ 0 ∷ 0 ∷ 0 ∷ 0 ∷ 0 ∷ [];
      functions =
          record { entry = 0; args = 0; cells = 70000; value = 0 }
          ∷ record { entry = 0; args = 0; cells = 0; value = 0 }
          ∷ [];
      kinds = record { entry = 0; args = 0; cells = 0; value = 0 } ∷ [];
      transactions = [];
      sites = [];
      tables = [] ∷ [];
      formats = [];
    }

-- before the instruction at an address, after so many
abbrev pub before : ℕ → ℕ → State
before address count =
    record {
      address = address;
      stack = [];
      store = record { cells = []; offers = [] };
      left = record { grants = []; ticks = 7 };
      count = count;
      frames = [];
    }

abbrev pub at : ℕ → State
at address = before address most_steps

-- after a tick
abbrev pub after_tick : State
after_tick =
    record {
      address = 6;
      stack = [];
      store = record { cells = []; offers = [] };
      left = record { grants = []; ticks = 6 };
      count = 0;
      frames = [];
    }

-- one instruction short of the bound, a jump goes on to the first
abbrev pub after_jump : State
after_jump = before 0 most_steps
