use Rattle.std.proofs.Common.{◌≡◌, ℕ, ◌-◌, min, length, get_or, ap, ◌∙◌, arith}
use Rattle.cc_world.proofs.Scripts.{got-none, got-some, tells-next}
use Rattle.cc_world.proofs.script_clock.ScriptClockClock.now.Goals as goal

pub returns-in-Some-clause-given : goal.returns-in-Some-clause-given
returns-in-Some-clause-given c =
    let clock = c.args.self.now in
    let e = c.min-at.ensures in
    let long = c.len-last.ensures in
    let at : c.min-at.result ≡ min clock.answers (length clock.script - 1) = omega (arith, e, long) in
    tells-next clock.script clock.answers c.saturating_add-self.result clock.rests c.in-Some.moment c.saturating_add-self.ensures
    (got-some clock.script c.min-at.result c.in-Some.moment c.in-Some.ensures ∙ ap (λ i. get_or clock.script i 0) at)

pub returns-in-None-clause-given : goal.returns-in-None-clause-given
returns-in-None-clause-given c =
    let clock = c.args.self.now in
    let e = c.min-at.ensures in
    let long = c.len-last.ensures in
    let at : c.min-at.result ≡ min clock.answers (length clock.script - 1) = omega (arith, e, long) in
    tells-next clock.script clock.answers c.saturating_add-self.result clock.rests 0 c.saturating_add-self.ensures
    (got-none clock.script c.min-at.result c.in-None.ensures ∙ ap (λ i. get_or clock.script i 0) at)
