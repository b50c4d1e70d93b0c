use Rattle.std.proofs.Common.{nat_eq}
use Rattle.std.specs.HashMap.{get}
use Rattle.cc_kernel.proofs.Stacks.{stacks-added}
use Rattle.cc_kernel.specs.Stacks.{is_place}
use Rattle.cc_kernel.proofs.served.Served.add.Goals as goal

pub returns : goal.returns
returns c =
    let k = c.self.inside in
    record {
      by =
          rw (← c.self.view_is)
          (stacks-added (get is_place k.calls) (get is_place c.put_call.new.calls) (get nat_eq k.depths) (get nat_eq c.put_depth.new.depths)
          c.args.server.0 c.depth_at-depth.result c.args.call c.depth_at-depth.ensures c.put_call.ensures.at c.put_depth.ensures.at);
    }
