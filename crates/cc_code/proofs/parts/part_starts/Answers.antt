use Rattle.std.proofs.Common.{◌≡◌, ℕ, ◌+◌, List, [], ◌∷◌, ◌++◌, get_or, take, sym, ◌∙◌, ap}
use Rattle.std.proofs.lemmas.List.{map-append, take_more}
use Rattle.cc_code.specs.Checked.{part_starts}
use Rattle.cc_code.specs.Operands.{no_part}
use Rattle.cc_code.specs.Reach.{begin, place_of}
use Rattle.cc_code.specs.declared.code.Part.{Part}
use Rattle.cc_code.specs.declared.reach.Start.{Start}
use Rattle.cc_code.proofs.parts.part_starts.Goals as goal

pub loop-part-preserved : goal.loop-part-preserved
loop-part-preserved c =
    let p : Part = get_or c.args.parts.now c.loop-part.part-index no_part in
    let front : List Part = take c.loop-part.part-index c.args.parts.now in
    let next : part_starts c.args.raw.now (take (c.loop-part.part-index + 1) c.args.parts.now) ≡ part_starts c.args.raw.now front ++ begin (place_of c.args.raw.now p.entry) p.value ∷ [] =
    ap (λ (ps : List Part). part_starts c.args.raw.now ps) (take_more c.args.parts.now c.loop-part.part-index no_part c.loop-part-test.true) ∙ map-append (λ (p : Part). begin (place_of c.args.raw.now p.entry) p.value) front (p ∷ []) in
    c.in_ok-push.ensures.items ∙ ap (λ (ss : List Start). ss ++ begin c.place_of-place.result p.value ∷ []) c.loop-part.invariant ∙ ap (λ (n : ℕ). part_starts c.args.raw.now front ++ begin n p.value ∷ []) c.place_of-place.ensures ∙ sym next
