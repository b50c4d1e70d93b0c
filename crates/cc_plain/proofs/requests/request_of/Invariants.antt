use Rattle.std.proofs.Common.{◌≡◌, take, drop, ◌⊎◌}
use Rattle.cc_base.specs.Grants.{IsProperAfter}
use Rattle.cc_plain.proofs.requests.request_of.Given as goal

abbrev pub invariant-loop-grant : goal.invariant-loop-grant
invariant-loop-grant g l =
    let q = l.process in
    let m = g.B.Behave.means l.code.value in
    record {
      there : g.B.Behave.at l.code.value l.started q.kind q.args (take l.grant-index q.grants);
      proper : IsProperAfter m q.kind q.args (take l.grant-index q.grants) (drop l.grant-index q.grants);
      asks : (l.grant-index ≡ 0) ⊎ (l.request ≡ m.act q.kind q.args (take l.grant-index q.grants));
    }
