use Rattle.cc_pool.proofs.Asking.{asked-now, located-now, none-waits}
use Rattle.cc_pool.proofs.driving.take_asking.Goals as goal

pub unreachable-requires : goal.unreachable-requires
unreachable-requires g c =
    none-waits (g.B.Behave.means c.args.kernel.now.code) c.args.kernel.now.input c.args.kernel.now.journal c.args.kernel.now.outs
    _ c.requires.running c.requires.inside c.requires.going c.in_default.ensures.none

pub prepare-requires : goal.prepare-requires
prepare-requires g c =
    let k = c.args.kernel.now in
    record {
      asks = (
        c.in-Some.pid,
        c.in-Some.ensures.is_out,
        rw c.in-Some.ensures.out
            (asked-now (g.B.Behave.means k.code) (g.B.Behave.at k.code) k.input k.journal c.in-Some.pid.0 c.in-Some.process c.go.new.this c.in-Some.grant c.in_ok-request.request
            c.in-Some.ensures.ready
            (c.in_ok-request.ensures k.code _ _ c.in-Some.ensures.ready.front c.in-Some.ensures.ready.there c.in-Some.ensures.ready.is_next)),
      );
    }

pub returns-clause-out : goal.returns-clause-out
returns-clause-out g c =
    let k = c.args.kernel.now in (
      rw c.prepare.ensures.rest c.in-Some.ensures.is_out,
      located-now (g.B.Behave.means k.code) (g.B.Behave.at k.code) k.input k.journal c.in-Some.pid.0 c.in-Some.process c.go.new.this c.in-Some.grant c.in_ok-request.request
          c.in-Some.ensures.ready
          (c.in_ok-request.ensures k.code _ _ c.in-Some.ensures.ready.front c.in-Some.ensures.ready.there c.in-Some.ensures.ready.is_next),
    )
