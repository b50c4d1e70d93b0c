-- What a program is to the machine.
use Rattle.std.specs.Prelude.{ℕ, ℤ, List, Option}
use Rattle.cc_base.specs.declared.names.Shape.{Shape}
use Rattle.cc_base.specs.declared.request.Grant.{Grant}
use Rattle.cc_base.specs.declared.request.Request.{Request}

pub record Meaning : Type 0 where
  -- the number of argument cells of each kind of process; kind 0 is `main`
  pub kinds : List ℕ
  -- what each transaction takes and gives
  pub shapes : List Shape
  -- what a process of this kind, with these arguments, asks after exactly these grants
  pub act : ℕ → List ℤ → List Grant → Request
  -- the rank of a call with these arguments at this accept site in this environment; none where it does not fit
  pub fit : ℕ → List ℤ → List ℤ → Option ℤ
