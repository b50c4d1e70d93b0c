-- What a clock that stands shows.
use Rattle.std.specs.Prelude.{ℕ}
use Rattle.cc_world.specs.declared.step_clock.StepClock.{StepClock}

-- the moment, in milliseconds
abbrev pub moment_of : StepClock → ℕ
moment_of c = c.at
