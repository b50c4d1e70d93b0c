use Rattle.std.proofs.Common.{◌≡◌, List, [], ◌∙◌, subst}
use Rattle.cc_code.proofs.Holds.{marks, parts-stand}
use Rattle.cc_code.specs.Checked.{part_starts}
use Rattle.cc_code.specs.Control.{entries}
use Rattle.cc_code.specs.Reach.{Marking, ways}
use Rattle.cc_code.specs.declared.reach.Extent.TheVariants.{All}
use Rattle.cc_code.specs.declared.reach.Start.{Start}
use Rattle.cc_code.proofs.parts.in_kinds.Goals as goal

pub returns : goal.returns
returns c =
    let are : c.as_slice.result.now ≡ part_starts c.args.raw.now c.args.raw.now.kinds = c.as_slice.ensures.value ∙ c.requires.starts.kinds in
    marks c.args.raw.now (part_starts c.args.raw.now c.args.raw.now.kinds) c.in_ok-labels.labels.items c.in_ok-labels.ensures.long
    (subst (λ (l : List Start). Marking (ways c.args.raw.now All) l c.in_ok-labels.labels.items []) are c.in_ok-labels.ensures.marking)
    (entries c.args.raw.now.kinds) (parts-stand c.args.raw.now c.args.raw.now.kinds)
