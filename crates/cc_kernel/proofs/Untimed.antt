-- What is supported has no deadline.
use Rattle.std.proofs.Common.{ℕ, List, [], ◌∷◌}
use Rattle.cc_base.specs.Meaning.{Meaning}
use Rattle.cc_base.specs.Supported.{AsksSupported, IsAccept, IsOneAccept, IsSupported}
use Rattle.cc_base.specs.declared.alternatives.Alt.{Alt}
use Rattle.cc_base.specs.declared.alternatives.Alt.TheVariants.{Accept, After, Now, Terminate}
use Rattle.cc_base.specs.declared.request.Request.{Request}
use Rattle.cc_base.specs.declared.request.Request.TheVariants.{Pause, Create, Call, TimedCall, Send, Select, Delay, Reply, Print, Get, Done, Fault}
use Rattle.cc_kernel.specs.Untimed.{AsksNoDeadline, HasNoDeadline, IsNoDelay, NoDelays}

accept-no-delay : (a : Alt) → IsAccept a → IsNoDelay a
accept-no-delay (Accept trans site env) h = tt
accept-no-delay (After wait) h = absurd h
accept-no-delay Now h = tt
accept-no-delay Terminate h = tt

one-no-delays : (alts : List (ℕ × Alt)) → IsOneAccept alts → NoDelays alts
one-no-delays [] h = tt
one-no-delays (a ∷ []) h = (accept-no-delay a.1 h, tt)
one-no-delays (a ∷ b ∷ alts) h = absurd h

supported-no-deadline : (r : Request) → IsSupported r → HasNoDeadline r
supported-no-deadline Pause h = tt
supported-no-deadline (Create kind args) h = tt
supported-no-deadline (Call target trans args) h = tt
supported-no-deadline (TimedCall target trans args wait) h = absurd h
supported-no-deadline (Send target trans args) h = tt
supported-no-deadline (Select alts) h = one-no-delays alts h
supported-no-deadline (Delay wait) h = absurd h
supported-no-deadline (Reply value) h = tt
supported-no-deadline (Print bytes) h = tt
supported-no-deadline Get h = tt
supported-no-deadline Done h = tt
supported-no-deadline (Fault kind) h = tt

-- whoever asks what is supported asks nothing with a deadline
pub asks-no-deadline : (m : Meaning) → AsksSupported m → AsksNoDeadline m
asks-no-deadline m h kind args grants exists proper = supported-no-deadline (m.act kind args grants) (h kind args grants exists proper)
