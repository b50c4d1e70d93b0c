use Rattle.std.proofs.Common.{◌≡◌, List, [], ◌∙◌, subst}
use Rattle.cc_code.proofs.Holds.{addresses-stand, marks}
use Rattle.cc_code.specs.Checked.{address_starts}
use Rattle.cc_code.specs.Control.{fragments}
use Rattle.cc_code.specs.Reach.{Marking, ways}
use Rattle.cc_code.specs.declared.reach.Extent.TheVariants.{All}
use Rattle.cc_code.specs.declared.reach.Start.{Start}
use Rattle.cc_code.proofs.parts.in_fragments.Goals as goal

pub returns : goal.returns
returns c =
    let list = fragments c.args.raw.now.sites in
    let are : c.as_slice.result.now ≡ address_starts c.args.raw.now list = c.as_slice.ensures.value ∙ c.requires.starts.fragments in
    marks c.args.raw.now (address_starts c.args.raw.now list) c.in_ok-labels.labels.items c.in_ok-labels.ensures.long
    (subst (λ (l : List Start). Marking (ways c.args.raw.now All) l c.in_ok-labels.labels.items []) are c.in_ok-labels.ensures.marking)
    list (addresses-stand c.args.raw.now list)
