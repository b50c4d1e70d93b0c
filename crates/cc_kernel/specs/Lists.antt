-- What contracts see of the lists of this crate.
use Rattle.std.specs.Prelude.{ℕ, List}
use Rattle.cc_kernel.specs.declared.seat.Seat.{Seat}
use Rattle.cc_kernel.specs.declared.served.ServedCall.{ServedCall}
use Rattle.cc_rules.specs.declared.process.TransactionCall.{TransactionCall}

-- pending calls, and for how many more there is room
pub record CallList : Type 0 where
  pub items : List TransactionCall
  pub spare : ℕ

-- served calls, each by its process and how many calls are around it; how many a process serves; and for how many more there is room
pub record ServedCalls : Type 0 where
  pub calls : List ((ℕ × ℕ) × ServedCall)
  pub depths : List (ℕ × ℕ)
  pub spare : ℕ

-- seats, and for how many more there is room
pub record SeatList (P : Type 0) : Type 0 where
  pub items : List (Seat P)
  pub spare : ℕ
