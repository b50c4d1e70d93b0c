use Rattle.std.proofs.Common.{◌≡◌, ℕ, ◌+◌, List, [], ◌∷◌, ◌++◌, get_or, map, sym, ◌∙◌, ap, subst, take}
use Rattle.std.proofs.lemmas.List.{map-append, take_more}
use Rattle.cc_code.proofs.Lists.{all-taken}
use Rattle.cc_code.proofs.Noting.{Noted-after, Noted-none}
use Rattle.cc_code.specs.Checked.{Noted}
use Rattle.cc_code.specs.Reach.{begin}
use Rattle.cc_code.specs.declared.reach.Start.{Start}
use Rattle.cc_code.proofs.parts.note_starts.Goals as goal

pub loop-start-init : goal.loop-start-init
loop-start-init c = Noted-none c.args.bits.now.items

pub loop-start-preserved : goal.loop-start-preserved
loop-start-preserved c =
    let s : Start = get_or c.args.starts.now c.loop-start.start-index (begin 0 0) in
    let front : List Start = take c.loop-start.start-index c.args.starts.now in
    let next : map (λ (s : Start). s.place) (take (c.loop-start.start-index + 1) c.args.starts.now) ≡ map (λ (s : Start). s.place) front ++ s.place ∷ [] =
    ap (λ (ss : List Start). map (λ (s : Start). s.place) ss) (take_more c.args.starts.now c.loop-start.start-index (begin 0 0) c.loop-start-test.true) ∙ map-append (λ (s : Start). s.place) front (s ∷ []) in
    subst (λ (list : List ℕ). Noted list c.args.bits.now.items c.note.new.bits.items) (sym next)
    (Noted-after (map (λ (s : Start). s.place) front) (s.place ∷ []) _ _ _ c.loop-start.invariant c.note.ensures)

pub returns : goal.returns
returns c = subst (λ (ss : List Start). Noted (map (λ (s : Start). s.place) ss) c.args.bits.now.items c.loop-start.bits.items) (all-taken c.args.starts.now c.loop-start.start-index c.loop-start-test.false) c.loop-start.invariant
