use Rattle.std.proofs.Common.{◌≡◌, ℕ, ◌<◌, Some, slice_get}
use Rattle.cc_code.specs.Checked.{IsSet}
use Rattle.cc_code.specs.Rules.{IsAddress}
use Rattle.cc_code.specs.declared.code.Part.{Part}
use Rattle.cc_code.proofs.unnamed.parts_lead.Given as goal

abbrev pub invariant-loop-at : goal.invariant-loop-at
invariant-loop-at l = (f : ℕ) (p : Part) → f < l.at → slice_get l.parts f ≡ Some p → (IsSet l.named.items f → ⊥) → IsAddress l.raw p.entry
