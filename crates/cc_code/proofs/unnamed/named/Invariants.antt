use Rattle.std.proofs.Common.{◌≡◌, ℕ, ◌<◌, length, take}
use Rattle.std.specs.Prelude.{◌↔◌}
use Rattle.cc_code.specs.Checked.{AreNamed, IsSet}
use Rattle.cc_code.proofs.unnamed.named.Given as goal

abbrev pub invariant-loop-instr : goal.invariant-loop-instr
invariant-loop-instr l = record {
  long : length l.bits.items ≡ l.count;
  exact : (n : ℕ) → n < l.count → IsSet l.bits.items n ↔ AreNamed (take l.instr-index l.instrs) l.thing n;
}
