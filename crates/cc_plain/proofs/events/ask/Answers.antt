use Rattle.cc_plain.proofs.After.{known-calls}
use Rattle.cc_plain.proofs.events.ask.Goals as goal

pub perform-requires-clause-known : goal.perform-requires-clause-known
perform-requires-clause-known g c =
    rw (c.deref.ensures, c.in_ok-next.ensures) (known-calls (g.B.Behave.means c.args.code.now.value) c.args.state.now c.args.pid.0 c.requires.sound)
