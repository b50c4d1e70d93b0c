use Rattle.std.proofs.Common.{refl, sym, append_assoc, arith}
use Rattle.cc_names.specs.Mentions.{in_field_names, in_name, in_optional_length}
use Rattle.cc_names.specs.Seen.{in_field_name}
use Rattle.cc_names.proofs.Walks.{seen-end, seen-more}
use Rattle.cc_names.proofs.item_mentions.see_field_names.Goals as goal

pub loop-d-preserved : goal.loop-d-preserved
loop-d-preserved c =
    seen-more in_field_name in_field_names (λ d ds. sym (append_assoc (in_name d.name) (in_optional_length d.length) (in_field_names ds))) c.loop-d.numbers c.see_field_name.new.numbers _ c.args.all.now c.loop-d.d-index c.d-item.result
    c.loop-d-test.true c.d-item.is c.in_ok-see_field_name.ensures c.loop-d.invariant

pub returns : goal.returns
returns c = seen-end in_field_name in_field_names refl c.loop-d.numbers _ c.args.all.now c.loop-d.d-index (omega (arith, c.loop-d-test.false)) c.loop-d.invariant
