-- What an instruction of a fragment of verified code finds.
use Rattle.std.proofs.Common.{◌≡◌, ℕ, ℤ, ◌+◌, ◌-◌, ◌<◌, ◌≤◌, List, length, slice_get, Some, inl, inr, arith}
use Rattle.std.proofs.lemmas.Option.{slice_get_cases}
use Rattle.cc_base.specs.Limits.{most_instructions, most_pure_depth}
use Rattle.cc_code.specs.Operands.{gives, takes}
use Rattle.cc_code.specs.Rules.{IsAddress, IsPure, IsVerified, height_at, rest_at}
use Rattle.cc_code.specs.declared.code.RawCode.{RawCode}
use Rattle.cc_code.specs.declared.instr.Instr.{Instr}
use Rattle.cc_code.specs.declared.instr.Instr.TheVariants as instr
use Rattle.cc_code.specs.declared.rule.Rule.TheVariants as rule
use Rattle.cc_vm.specs.Fragments.{HasRoom, IsReady}

room-by : (k : RawCode) (at h : ℕ) (i : Instr) → IsPure at i → takes k i ≤ h → h - takes k i + gives k i ≤ 64 → HasRoom at h i
room-by k at h (instr.Const v) p t g = omega (arith, t, g)
room-by k at h (instr.Field o) p t g = (omega (arith, t), omega (arith, t, g))
room-by k at h (instr.Index l s) p t g = (omega (arith, t), omega (arith, t, g))
room-by k at h (instr.Fetch n) p t g = (p, omega (arith, t), omega (arith, p, t, g))
room-by k at h (instr.Add y) p t g = (omega (arith, t), omega (arith, t, g))
room-by k at h (instr.Sub y) p t g = (omega (arith, t), omega (arith, t, g))
room-by k at h (instr.Mul y) p t g = (omega (arith, t), omega (arith, t, g))
room-by k at h (instr.Div y) p t g = (omega (arith, t), omega (arith, t, g))
room-by k at h (instr.Rem y) p t g = (omega (arith, t), omega (arith, t, g))
room-by k at h (instr.Neg y) p t g = (omega (arith, t), omega (arith, t, g))
room-by k at h instr.Lt p t g = (omega (arith, t), omega (arith, t, g))
room-by k at h instr.Le p t g = (omega (arith, t), omega (arith, t, g))
room-by k at h instr.Gt p t g = (omega (arith, t), omega (arith, t, g))
room-by k at h instr.Ge p t g = (omega (arith, t), omega (arith, t, g))
room-by k at h instr.Eq p t g = (omega (arith, t), omega (arith, t, g))
room-by k at h instr.Ne p t g = (omega (arith, t), omega (arith, t, g))
room-by k at h instr.Not p t g = (omega (arith, t), omega (arith, t, g))
room-by k at h (instr.Narrow y) p t g = (omega (arith, t), omega (arith, t, g))
room-by k at h (instr.Jump a) p t g = p
room-by k at h (instr.JumpZero a) p t g = (p, omega (arith, t))
room-by k at h instr.Yield p t g = omega (arith, t)
room-by k at h i p t g = absurd p

module _ (k : RawCode) (verified : IsVerified k) (cells : List ℤ) (at : ℕ) (stack : List ℤ) (ready : IsReady k cells at stack) (i : Instr) (here : slice_get k.instrs at ≡ Some i) where
  pub room : HasRoom at (length stack) i
  room =
      let p : IsPure at i × (rest_at k at i + gives k i ≤ most_pure_depth) = (verified at rule.Pure).each i here ready.part.0 in
      let t : takes k i ≤ height_at k at = ((verified at rule.Height).each i here).takes in
      room-by k at (length stack) i p.0 (omega (arith, t, ready.height)) (omega (arith, p.1, ready.height))

  pub low : at < most_instructions
  low = (verified at rule.Size).each i here

pub address-low : (k : RawCode) → IsVerified k → (at : ℕ) → IsAddress k at → at < most_instructions
address-low k verified at h = elim ((slice_get_cases k.instrs at).1) [
  | inl e ↦ (verified at rule.Size).each e.0 e.2
  | inr e ↦ absurd (omega (arith, h, e.0))
]
