-- A process that is ready asks next what its program says.
use Rattle.std.proofs.Common.{◌≡◌, ℕ, ◌⊎◌, inl, inr, sym, ap, ◌∙◌, subst, true, false, ℤ, List, [], ◌∷◌, ◌++◌, Bool}
use Rattle.cc_base.specs.Meaning.{Meaning}
use Rattle.cc_base.specs.declared.request.Grant.{Grant}
use Rattle.cc_base.specs.declared.request.Request.{Request}
use Rattle.cc_kernel.specs.Contract.{AllOut, IsReadyWith, SomeRunning}
use Rattle.cc_rules.specs.Standing.{IsOver}
use Rattle.cc_pool.specs.Driven.{NoneOut}
use Rattle.cc_rules.specs.Runs.{state_after}
use Rattle.cc_rules.specs.State.{Process, process_at}
use Rattle.cc_rules.specs.declared.event.Event.{Event}
use Rattle.cc_rules.specs.declared.event.Standing.{Standing}
use Rattle.cc_rules.specs.declared.event.Standing.TheVariants.{Going}

different : true ≡ false → ⊥
different e = cc

-- where none is out and the run goes on, one is ready
pub none-waits :
    (m : Meaning) (input : List ℕ) (events : List Event) (outs : List Bool) (standing : Standing)
    → SomeRunning m input events
    → NoneOut outs
    → standing ≡ Going
    → AllOut m input events outs ⊎ IsOver standing
    → ⊥
none-waits m input events outs standing running inside going none =
    elim none [
      | inl out ↦ different (sym (out running.0 running.1) ∙ inside running.0)
      | inr over ↦ subst IsOver going over
    ]

-- a process that was ready was given its last grant, and asked this
module _ {P : Type 0} (m : Meaning) (located : P → ℕ → List ℤ → List Grant → Type 0) (input : List ℕ) (events : List Event) (p : ℕ) (process new : P) (grant : Grant) (request : Request) (ready : IsReadyWith m located input events p process grant) where
  abbrev pub q : Process
  q = process_at (state_after m input events).processes p

  abbrev pub Went : Type 0
  Went = (request ≡ m.act q.kind q.args (ready.front ++ grant ∷ [])) × located new q.kind q.args (ready.front ++ grant ∷ [])

  pub asked-now : Went → request ≡ m.act q.kind q.args q.grants
  asked-now went = went.0 ∙ ap (m.act q.kind q.args) (sym ready.grants)

  pub located-now : Went → located new q.kind q.args q.grants
  located-now went = subst (located new q.kind q.args) (sym ready.grants) went.1
