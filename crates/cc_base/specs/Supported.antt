-- The requests that the kernel can perform so far.
use Rattle.std.specs.Prelude.{ℕ, ℤ, List, [], ◌∷◌, length}
use Rattle.cc_base.specs.Grants.{HasKind, IsProper}
use Rattle.cc_base.specs.Meaning.{Meaning}
use Rattle.cc_base.specs.declared.alternatives.Alt.{Alt}
use Rattle.cc_base.specs.declared.alternatives.Alt.TheVariants.{Accept, After, Now, Terminate}
use Rattle.cc_base.specs.declared.request.Grant.{Grant}
use Rattle.cc_base.specs.declared.request.Request.{Request}
use Rattle.cc_base.specs.declared.request.Request.TheVariants.{Pause, Create, Call, TimedCall, Send, Select, Delay, Reply, Print, Get, Done, Fault}

-- the alternative accepts a transaction
abbrev pub IsAccept : Alt → Type 0
IsAccept (Accept trans site env) = Unit {0}
IsAccept (After wait) = ⊥
IsAccept Now = ⊥
IsAccept Terminate = ⊥

-- the only alternative accepts a transaction
abbrev pub IsOneAccept : List (ℕ × Alt) → Type 0
IsOneAccept [] = ⊥
IsOneAccept (a ∷ []) = IsAccept a.1
IsOneAccept (a ∷ b ∷ alts) = ⊥

-- the request has no deadline, is no asynchronous call, and no select but of one accept
abbrev pub IsSupported : Request → Type 0
IsSupported Pause = Unit {0}
IsSupported (Create kind args) = Unit {0}
IsSupported (Call target trans args) = Unit {0}
IsSupported (TimedCall target trans args wait) = ⊥
IsSupported (Send target trans args) = ⊥
IsSupported (Select alts) = IsOneAccept alts
IsSupported (Delay wait) = ⊥
IsSupported (Reply value) = Unit {0}
IsSupported (Print bytes) = Unit {0}
IsSupported Get = Unit {0}
IsSupported Done = Unit {0}
IsSupported (Fault kind) = Unit {0}

-- what a process of a kind that exists asks after proper grants is such a request
abbrev pub AsksSupported : Meaning → Type 0
AsksSupported m =
    (kind : ℕ) (args : List ℤ) (grants : List Grant)
    → HasKind m kind (length args)
    → IsProper m kind args grants
    → IsSupported (m.act kind args grants)
