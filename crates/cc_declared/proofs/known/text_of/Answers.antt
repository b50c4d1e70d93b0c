use Rattle.std.proofs.Common.{rules, ◌≡◌, ap, ◌∙◌}
use Rattle.cc_faults.specs.Judged.{after_each}
use Rattle.cc_declared.specs.Announcing.{and_item}
use Rattle.cc_declared.proofs.Announces.{text-known}
use Rattle.cc_declared.proofs.known.text_of.Goals as goal

pub returns : goal.returns
returns c =
    let formats : c.as_slice-2.result.now ≡ c.args.text.now.formats = search rules in
    let all = c.in_ok-items.ensures ∙ ap (after_each and_item c.in_ok-heads.heads) c.as_slice.ensures in
    record { text = text-known c.args.text.now c.in_ok-at_start.field-0 c.in_ok-heads.heads c.items.new.self c.as_slice-2.result.now c.in_ok-at_start.ensures.start c.in_ok-heads.ensures all formats }
