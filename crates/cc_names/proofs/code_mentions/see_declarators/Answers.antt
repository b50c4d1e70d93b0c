use Rattle.std.proofs.Common.{refl, sym, append_assoc, arith}
use Rattle.cc_names.specs.Mentions.{in_declarators}
use Rattle.cc_names.specs.Seen.{in_declarator}
use Rattle.cc_names.proofs.CodeWalks.{declarators-more}
use Rattle.cc_names.proofs.Walks.{seen-end, seen-more}
use Rattle.cc_names.proofs.code_mentions.see_declarators.Goals as goal

pub loop-d-preserved : goal.loop-d-preserved
loop-d-preserved c =
    seen-more in_declarator in_declarators (declarators-more) c.loop-d.numbers c.see_declarator.new.numbers _ c.args.all.now c.loop-d.d-index c.d-item.result
    c.loop-d-test.true c.d-item.is c.in_ok-see_declarator.ensures c.loop-d.invariant

pub returns : goal.returns
returns c = seen-end in_declarator in_declarators refl c.loop-d.numbers _ c.args.all.now c.loop-d.d-index (omega (arith, c.loop-d-test.false)) c.loop-d.invariant
