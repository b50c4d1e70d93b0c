-- When a process that waits until a moment goes on, and by which number.
use Rattle.std.specs.Prelude.{ℕ, if◌then◌else◌, List, [], ◌∷◌, Option, Some, None, nat_le}
use Rattle.std.specs.Option.{option_map}
use Rattle.cc_base.specs.declared.alternatives.Alt.{Alt}
use Rattle.cc_kernel.specs.declared.due.Due.{Due}
use Rattle.cc_rules.specs.Choice.{alternative_deadline}
use Rattle.cc_rules.specs.declared.process.ProcessStanding.{ProcessStanding}
use Rattle.cc_rules.specs.declared.process.ProcessStanding.TheVariants.{Running, AtSelect, AtDelay, AtCall, Ended, Faulted}

-- the one that comes first, and the first of the two on a tie
abbrev pub earlier : Option Due → Option Due → Option Due
earlier None second = second
earlier (Some one) None = Some one
earlier (Some one) (Some other) = if nat_le one.deadline other.deadline then Some one else Some other

-- when a select that was asked at this moment expires by this alternative
abbrev pub alternative_due : ℕ → ℕ × Alt → Option Due
alternative_due asked a = option_map (λ deadline. record { deadline = deadline; alt = a.0 }) (alternative_deadline asked a.1)

-- and by which of these it expires first
abbrev pub select_due : ℕ → List (ℕ × Alt) → Option Due
select_due asked [] = None
select_due asked (a ∷ alts) = earlier (alternative_due asked a) (select_due asked alts)

-- when a process that stands so expires
abbrev pub due_of : ProcessStanding → Option Due
due_of Running = None
due_of (AtSelect alts asked) = select_due asked alts
due_of (AtDelay deadline) = Some (record { deadline = deadline; alt = 0 })
due_of (AtCall call) = None
due_of Ended = None
due_of (Faulted kind) = None
