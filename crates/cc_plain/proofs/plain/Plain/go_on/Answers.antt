use Rattle.cc_plain.proofs.After.{after-more}
use Rattle.cc_plain.proofs.plain.Plain.go_on.Goals as goal

pub invariant_of-self-2 : goal.invariant_of-self-2
invariant_of-self-2 g c =
    let p = c.self.inside in
    let legal = rw (← c.self.view_is) at c.requires.legal in
    let state = rw (← c.self.view_is) at c.requires.state in
    let bytes = rw (← c.self.view_is) at c.requires.bytes in
    rw (c.add.ensures.items, c.reserve.ensures.items, c.turns_of.ensures, state, c.in-Ok-append.ensures.ok, c.as_slice.ensures, bytes)
    (after-more (g.B.Behave.means p.code.value) p.input.value p.events.items p.turns p.state p.printed c.args.event.now c.self.invariant legal)
