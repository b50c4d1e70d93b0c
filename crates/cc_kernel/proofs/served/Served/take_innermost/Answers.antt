use Rattle.std.proofs.Common.{◌≡◌, ◌+◌, ◌-◌, arith, nat_eq, sym}
use Rattle.std.specs.HashMap.{get}
use Rattle.cc_kernel.proofs.Stacks.{stacks-taken}
use Rattle.cc_kernel.specs.Stacks.{depth_of, is_place}
use Rattle.cc_kernel.proofs.served.Served.take_innermost.Goals as goal

pub returns-clause-call : goal.returns-clause-call
returns-clause-call c =
    let k = c.self.inside in
    let depth = c.depth_at-depth.result in
    let some = c.if-depth-eq0.false in
    let is = c.depth_at-depth.ensures in
    let here : depth - 1 + 1 ≡ depth_of (get nat_eq k.depths c.args.server.0) = omega (arith, some, is) in
    rw (← c.self.view_is)
    (stacks-taken (get is_place k.calls) (get is_place c.take_call.new.calls) (get nat_eq k.depths) (get nat_eq c.set_depth.new.depths)
    c.args.server.0 (depth - 1) c.in-Some.call here (sym c.in-Some.ensures.call) c.take_call.ensures.at c.set_depth.ensures.at)
