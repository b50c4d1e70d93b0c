-- The heights of code are room enough.
use Rattle.std.proofs.Common.{◌≡◌, ℕ, ◌+◌, ◌-◌, ◌<◌, ◌≤◌, length, slice_get, Some, inl, inr, refl, arith}
use Rattle.std.proofs.lemmas.Bool.{cases_lt}
use Rattle.std.proofs.lemmas.Option.{slice_get_within}
use Rattle.cc_code.proofs.Marked.{itself}
use Rattle.cc_code.proofs.Waiting.{member-holds}
use Rattle.cc_code.specs.Control.{successors}
use Rattle.cc_code.specs.Operands.{gives, takes}
use Rattle.cc_code.specs.Rules.{HasHeight, IsAddress, IsFinal, IsVerified, KeepsHeights, height_at, rest_at}
use Rattle.cc_code.specs.declared.code.RawCode.{RawCode}
use Rattle.cc_code.specs.declared.instr.Instr.{Instr}
use Rattle.cc_code.specs.declared.instr.Instr.TheVariants as instr
use Rattle.cc_code.specs.declared.rule.Rule.TheVariants as rule
use Rattle.cc_vm.specs.Running.{IsRoom}

module _ (k : RawCode) (verified : IsVerified k) (room : ℕ) (most : (at : ℕ) → height_at k at ≤ room) where
  next-there : (at : ℕ) (i : Instr) → slice_get k.instrs at ≡ Some i → (IsFinal i → ⊥) → IsAddress k (at + 1)
  next-there at i here final = elim (cases_lt (at + 1) (length k.instrs)) [
    | inl h ↦ h
    | inr h ↦ absurd (final ((verified at rule.Fall).each i here (let b : at < length k.instrs = slice_get_within k.instrs at i here in omega (arith, h, b))))
  ]

  -- where nothing is given, no more than before is left
  none-given : (at : ℕ) (i : Instr) → gives k i ≡ 0 → height_at k at - takes k i + gives k i ≤ room
  none-given at i g = (let h : height_at k at ≤ room = most at in omega (arith, g, h))

  next-given : (at : ℕ) (i : Instr) → slice_get k.instrs at ≡ Some i → (IsFinal i → ⊥) → HasHeight k (rest_at k at i + gives k i) (at + 1) → height_at k at - takes k i + gives k i ≤ room
  next-given at i here final h =
      let e : height_at k (at + 1) ≡ rest_at k at i + gives k i = h (next-there at i here final) in
      let b : height_at k (at + 1) ≤ room = most (at + 1) in
      omega (arith, e, b)

  heights-of : (at : ℕ) (i : Instr) → slice_get k.instrs at ≡ Some i → KeepsHeights k at i
  heights-of at i here = (verified at rule.Height).each i here

  given : (at : ℕ) (i : Instr) → slice_get k.instrs at ≡ Some i → height_at k at - takes k i + gives k i ≤ room
  given at (instr.Jump a) here = none-given at (instr.Jump a) refl
  given at (instr.JumpZero a) here = none-given at (instr.JumpZero a) refl
  given at (instr.Ret n) here = none-given at (instr.Ret n) refl
  given at (instr.AskWithin t a) here = next-given at (instr.AskWithin t a) here (λ f. f) (heights-of at (instr.AskWithin t a) here).gives.1
  given at (instr.SelWait j) here = none-given at (instr.SelWait j) refl
  given at instr.Yield here = none-given at instr.Yield refl
  given at instr.End here = none-given at instr.End refl
  given at i here = next-given at i here (λ f. f) (member-holds (HasHeight k (rest_at k at i + gives k i)) (successors k at i) (at + 1) (heights-of at i here).gives (itself (at + 1)))

  pub room-for : IsRoom k room
  room-for at i here = (most at, given at i here)
