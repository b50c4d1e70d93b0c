use Rattle.cc_rules.proofs.SoundRun.{Sound-run}
use Rattle.cc_plain.proofs.plain.Plain.step.Goals as goal

pub take-requires-clause-sound : goal.take-requires-clause-sound
take-requires-clause-sound g c =
    let p = c.self.inside in
    rw c.self.invariant.state_is
    (Sound-run (g.B.Behave.means p.code.value) p.input.value p.events.items (g.met.B.Behave.well_formed p.code.value) c.self.invariant.runs)
