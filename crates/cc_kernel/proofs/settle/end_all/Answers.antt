use Rattle.std.proofs.Common.{refl}
use Rattle.cc_kernel.proofs.Resting.{ends-rests, served-rests}
use Rattle.cc_kernel.specs.Store.{contents}
use Rattle.cc_kernel.proofs.settle.end_all.Goals as goal

pub returns-clause-contents : goal.returns-clause-contents
returns-clause-contents g c =
    let m = g.B.Behave.means c.args.code.now in
    let x = contents c.args.store.now in
    rw (c.end_terminating.ensures, c.drop_terminating.ensures, c.new.ensures, c.new-2.ensures, ends-rests m x c.requires.rest, served-rests m x c.requires.rest) refl
