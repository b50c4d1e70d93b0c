use Rattle.std.proofs.Common.{◌≡◌, ℕ, List, [], ◌++◌, length, refl, sym, ◌∙◌, subst, Option}
use Rattle.cc_code.proofs.Holds.{marks, met, parts-stand, seeds-meet, unmet}
use Rattle.cc_code.proofs.Meets.{AreMeetings}
use Rattle.cc_code.proofs.Noting.{Seeded-after}
use Rattle.cc_code.specs.Checked.{Seeded, part_starts, steps}
use Rattle.cc_code.specs.Control.{entries}
use Rattle.cc_code.specs.Reach.{Marking, ways}
use Rattle.cc_code.specs.declared.code.RawCode.{RawCode}
use Rattle.cc_code.specs.declared.reach.Extent.TheVariants.{All}
use Rattle.cc_code.specs.declared.reach.Start.{Start}
use Rattle.cc_code.proofs.parts.Values.new.Goals as goal

pub returns : goal.returns
returns c =
    let k : RawCode = c.args.raw.now in
    let starts : List Start = part_starts k k.functions in
    let m : List (Option ℕ) = c.in_ok-labels.labels.items in
    let m2 : List (Option ℕ) = c.in_ok-meetings.meetings.items in
    let are : c.as_slice.result.now ≡ starts = c.as_slice.ensures.value ∙ c.requires.starts.functions in
    let are2 : c.as_slice-2.result.now ≡ starts = c.as_slice-2.ensures.value ∙ c.requires.starts.functions in
    let marking : Marking (ways k All) starts m [] = subst (λ (l : List Start). Marking (ways k All) l m []) are c.in_ok-labels.ensures.marking in
    let seeds : List Start = c.seed_steps.new.seeds.items in
    let first : Seeded m starts [] c.seed_starts.new.seeds.items =
    subst (λ (l : List Start). Seeded m starts l c.seed_starts.new.seeds.items) c.new-seeds.ensures.items (subst (λ (l : List Start). Seeded m l c.new-seeds.result.items c.seed_starts.new.seeds.items) are2 c.in_ok-seed_starts.ensures) in
    let seeded : Seeded m (starts ++ steps k m (length m)) [] seeds = Seeded-after m starts (steps k m (length m)) [] c.seed_starts.new.seeds.items seeds first c.in_ok-seed_steps.ensures in
    let meet : AreMeetings (ways k All) starts m seeds = seeds-meet k starts m c.in_ok-labels.ensures.long marking seeds seeded in
    let marking2 : Marking (ways k All) seeds m2 [] = subst (λ (l : List Start). Marking (ways k All) l m2 []) c.as_slice-3.ensures.value c.in_ok-meetings.ensures.marking in
    let long2 : length m2 ≡ length m = c.in_ok-meetings.ensures.long ∙ sym c.in_ok-labels.ensures.long in
    record {
      marks = marks k starts m c.in_ok-labels.ensures.long marking (entries k.functions) (parts-stand k k.functions);
      met = met k starts m c.in_ok-labels.ensures.long marking seeds m2 long2 meet marking2 refl;
      unmet = unmet k starts m c.in_ok-labels.ensures.long marking seeds m2 long2 meet marking2 refl;
    }
