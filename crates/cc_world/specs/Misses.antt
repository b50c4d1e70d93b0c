-- A list of failed calls that has room for more.
use Rattle.std.specs.Prelude.{ℕ, List}
use Rattle.cc_world.specs.Shelf.{Missed}

-- the failed calls, and for how many more there is room
pub record Noted : Type 0 where
  pub items : List Missed
  pub spare : ℕ
