-- When two meanings are one program to the machine.
use Rattle.std.specs.Prelude.{◌≡◌, ℕ, ℤ, List, length, Some, slice_get}
use Rattle.cc_base.specs.Meaning.{Meaning}
use Rattle.cc_base.specs.declared.request.Grant.{Grant}
use Rattle.cc_base.specs.Grants.{IsProper}

-- the meanings have the same kinds, transactions and ranks, and ask the same after grants that are proper
pub record AreAlike (m n : Meaning) : Type 0 where
  pub same_kinds : n.kinds ≡ m.kinds
  pub same_shapes : n.shapes ≡ m.shapes
  pub same_fit : (site : ℕ) (env args : List ℤ) → n.fit site env args ≡ m.fit site env args
  pub same_act :
      (kind : ℕ) (args : List ℤ) (grants : List Grant)
      → slice_get m.kinds kind ≡ Some (length args)
      → IsProper m kind args grants
      → n.act kind args grants ≡ m.act kind args grants
