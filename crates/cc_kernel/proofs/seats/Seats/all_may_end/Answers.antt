use Rattle.std.proofs.Common.{rules, ◌≡◌, ◌&&◌, ◌+◌, ap, sym, ◌∙◌, length, nat_lt}
use Rattle.cc_kernel.proofs.Counted.{all-ending, number-other, number-same}
use Rattle.cc_kernel.proofs.seats.Seats.all_may_end.Goals as goal

pub returns-then-all : goal.returns-then-all
returns-then-all g c =
    let k = c.self.inside in
    let sum = k.counts.over + k.counts.terminating in
    let long : c.len.result ≡ length k.items.items = search rules in
    rw (← c.self.view_is)
    (sym (ap (λ b. b && nat_lt 0 k.counts.terminating) (number-same sum c.len.result c.if-all.true))
    ∙ all-ending k.items.items k.counts.over k.counts.terminating c.len.result c.self.invariant.counted.over c.self.invariant.counted.terminating long)

pub returns-else-all : goal.returns-else-all
returns-else-all g c =
    let k = c.self.inside in
    let sum = k.counts.over + k.counts.terminating in
    let long : c.len.result ≡ length k.items.items = search rules in
    rw (← c.self.view_is)
    (number-other sum c.len.result c.if-all.false
    ∙ sym (ap (λ b. b && nat_lt 0 k.counts.terminating) (number-other sum c.len.result c.if-all.false))
    ∙ all-ending k.items.items k.counts.over k.counts.terminating c.len.result c.self.invariant.counted.over c.self.invariant.counted.terminating long)
