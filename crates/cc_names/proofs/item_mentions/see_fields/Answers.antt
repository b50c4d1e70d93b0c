use Rattle.std.proofs.Common.{refl, sym, append_assoc, arith}
use Rattle.cc_names.specs.Mentions.{in_field_names, in_fields, in_type}
use Rattle.cc_names.specs.Seen.{in_field}
use Rattle.cc_names.proofs.Walks.{seen-end, seen-more}
use Rattle.cc_names.proofs.item_mentions.see_fields.Goals as goal

pub loop-f-preserved : goal.loop-f-preserved
loop-f-preserved c =
    seen-more in_field in_fields (λ f fs. sym (append_assoc (in_type f.of) (in_field_names f.declarators) (in_fields fs))) c.loop-f.numbers c.see_field.new.numbers _ c.args.all.now c.loop-f.f-index c.f-item.result
    c.loop-f-test.true c.f-item.is c.in_ok-see_field.ensures c.loop-f.invariant

pub returns : goal.returns
returns c = seen-end in_field in_fields refl c.loop-f.numbers _ c.args.all.now c.loop-f.f-index (omega (arith, c.loop-f-test.false)) c.loop-f.invariant
