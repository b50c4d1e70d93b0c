-- Processes that may go on at once.
use Rattle.std.specs.Prelude.{ℕ, ℤ, List}
use Rattle.cc_base.specs.Grants.{IsNext}
use Rattle.cc_base.specs.Meaning.{Meaning}
use Rattle.cc_base.specs.declared.request.Grant.{Grant}
use Rattle.cc_base.specs.declared.request.Grant.TheVariants.{Go}

-- it is a process of a program, and `Go` is the next grant that it may get
abbrev pub MayGo : {C P : Type 0} → (C → Meaning) → (C → P → ℕ → List ℤ → List Grant → Type 0) → P → Type 0
MayGo {C} means at process =
    (code : C) × (kind : ℕ) × (args : List ℤ) × (grants : List Grant)
    × at code process kind args grants
    × IsNext (means code) kind args grants Go
