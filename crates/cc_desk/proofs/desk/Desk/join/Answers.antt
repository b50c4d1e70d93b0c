use Rattle.std.proofs.Common.{rules, ap, subst}
use mathlib.Core.List.{IsPrefix}
use Rattle.cc_desk.proofs.Steps.{joins, compares, join_begins}
use Rattle.cc_desk.proofs.desk.Desk.join.Goals as goal

pub join_seat-requires : goal.join_seat-requires
join_seat-requires g c = (search rules, search rules, search rules, search rules, joins g.T.Held.events g.T.Held.outs g.T.Held.since _ _ _ _ _ (search rules) (search rules) (search rules))

pub load-requires : goal.load-requires
load-requires g c = (search rules, search rules, compares g.T.Held.events g.T.Held.outs g.T.Held.since _ _ _ _ _)

pub returns-clause-begins : goal.returns-clause-begins
returns-clause-begins g c = let known = c.load.ensures.2 in
    let r = join_begins c.into.inside.seat.me.0 c.seat.inside.seat.me.0 c.join_seat.new.seat.me.0 c.load.new.seat.me.0 known.1 (ap (λ m. m.0) c.join_seat.ensures.2) (ap (λ m. m.0) known.0) known.2 known.3 in
    (subst (λ s. IsPrefix s.seen c.load.new.seat.me.0.seen) c.into.view_is r.0, subst (λ s. IsPrefix s.seen c.load.new.seat.me.0.seen) c.seat.view_is r.1)
