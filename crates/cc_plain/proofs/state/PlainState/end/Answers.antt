use Rattle.std.proofs.Common.{refl, ◌≡◌, ◌<◌, length}
use Rattle.cc_rules.specs.State.{process_at}
use Rattle.cc_plain.proofs.Ended.{gone-append}
use Rattle.cc_plain.proofs.Processes.{at-is}
use Rattle.cc_plain.proofs.state.PlainState.end.Goals as goal

pub returns : goal.returns
returns c =
    let lt : c.args.at < length c.self.inside.processes.items = rw (← c.self.view_is) at c.requires.within in
    let own : c.index_mut.result.now ≡ process_at c.self.inside.processes.items c.args.at = at-is c.self.inside.processes.items c.args.at c.index_mut.result.now c.index_mut.ensures.value lt in
    rw (c.drop_all.ensures, c.in_ok-each_gets_gone.ensures, c.in_ok-gone_at.ensures, c.pending.ensures, c.serving.ensures, c.in-Some.ensures.1, gone-append, c.end.ensures, own, ← c.requires.same, ← c.self.view_is)
    refl
