-- A process that is over, and the collective end.
use Rattle.std.proofs.Common.{◌≡◌, ℕ, List, [], ◌∷◌, ◌++◌, refl}
use Rattle.std.specs.Prelude.{if◌then◌else◌}
use Rattle.cc_base.specs.Meaning.{Meaning}
use Rattle.cc_base.specs.declared.request.Grant.TheVariants.{Gone}
use Rattle.cc_rules.specs.Effects.{answered, each_gets_gone}
use Rattle.cc_rules.specs.Ends.{waits_at_terminate}
use Rattle.cc_rules.specs.State.{Process, State}
use Rattle.cc_rules.specs.declared.process.ProcessStanding.TheVariants.{Ended}
use Rattle.cc_rules.specs.declared.process.TransactionCall.{TransactionCall}

pub gone-append :
    (processes : List Process) (first more : List TransactionCall)
    → each_gets_gone (each_gets_gone processes first) more ≡ each_gets_gone processes (first ++ more)
gone-append processes [] more = refl
gone-append processes (call ∷ first) more = gone-append (answered processes call Gone) first more

-- a process with its number, after the collective end
abbrev pub after_end : Meaning → State → ℕ × Process → Process
after_end m s e = if waits_at_terminate m s e.0 then record e.1 { standing = Ended; serving = [] } else e.1
