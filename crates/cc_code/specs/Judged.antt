-- Which rule of several is the first that is broken.
use Rattle.std.specs.Prelude.{◌≡◌, ◌<◌, ◌≤◌, ◌⊎◌, Option, Some, None, slice_get}
use Rattle.cc_code.specs.Rules.{KeepsAt, number}
use Rattle.cc_code.specs.declared.code.RawCode.{RawCode}
use Rattle.cc_code.specs.declared.instr.Instr.{Instr}
use Rattle.cc_code.specs.declared.rule.Rule.{Rule}

-- a rule is broken, and none with a lower number
pub record IsLeast (K : Rule → Type 0) (r : Rule) : Type 0 where
  pub broken : K r → ⊥
  pub lower : (q : Rule) → number q < number r → K q

-- the first rule that is broken, if one is
abbrev pub Judged : (Rule → Type 0) → Option Rule → Type 0
Judged K None = (q : Rule) → K q
Judged K (Some r) = IsLeast K r

-- the rules of the instruction at address 0, if there is one
abbrev pub KeepsStart : RawCode → Rule → Type 0
KeepsStart k r = (i : Instr) → slice_get k.instrs 0 ≡ Some i → KeepsAt k 0 i r

-- the earlier of two rules, where there are two
abbrev pub IsEarlier : Option Rule → Option Rule → Option Rule → Type 0
IsEarlier None o r = r ≡ o
IsEarlier (Some a) None r = r ≡ Some a
IsEarlier (Some a) (Some b) r = ((r ≡ Some a) × (number a ≤ number b)) ⊎ ((r ≡ Some b) × (number b ≤ number a))
