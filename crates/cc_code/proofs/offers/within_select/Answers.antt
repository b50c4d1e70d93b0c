use Rattle.std.proofs.Common.{◌≡◌, ℕ, ◌+◌, ◌<◌, List, [], ◌∷◌, length, Option, Contains, sym, subst, arith}
use Rattle.cc_code.proofs.Marked.{complete, itself, only}
use Rattle.cc_code.proofs.Paths.{places-within, within, within-places}
use Rattle.cc_code.specs.Checked.{AreMarks}
use Rattle.cc_code.specs.Control.{Reaches, GoesWithin}
use Rattle.cc_code.specs.Reach.{From, Marking, begin, place_of, ways}
use Rattle.cc_code.specs.declared.code.RawCode.{RawCode}
use Rattle.cc_code.specs.declared.reach.Extent.TheVariants.{Select}
use Rattle.cc_code.specs.declared.reach.Start.{Start}
use Rattle.cc_code.proofs.offers.within_select.Goals as goal

marks-within : (k : RawCode) (a p : ℕ) (m : List (Option ℕ)) → p ≡ place_of k a → length m ≡ length k.tables + length k.instrs → Marking (ways k Select) (begin p 0 ∷ []) m [] → AreMarks k (Reaches (GoesWithin k) (a ∷ [])) m
marks-within k a p m e long marking at b = (
  λ h. (let s : (s : Start) × Contains (begin p 0 ∷ []) s × (s.label ≡ h.0) × From (ways k Select) s.place (place_of k at) = marking.sound (place_of k at) h.0 h.1 in
      let f : begin p 0 ≡ s.0 = only (begin p 0) s.0 s.1 in
      places-within k a at (subst (λ (n : ℕ). From (ways k Select) n (place_of k at)) e (subst (λ (t : Start). From (ways k Select) t.place (place_of k at)) (sym f) s.3))),
  λ r. complete (ways k Select) (begin p 0 ∷ []) m marking (λ x y d w. let h : x < length k.tables + length k.instrs = within k Select x y d in omega (arith, long))
      (begin p 0) (itself (begin p 0)) (place_of k at) (subst (λ (n : ℕ). From (ways k Select) n (place_of k at)) (sym e) (within-places k a at r)) (omega (arith, long)),
)

pub returns : goal.returns
returns c = marks-within c.args.raw.now (c.args.at + 1) c.place_of.result c.in_ok-labels.labels.items c.place_of.ensures c.in_ok-labels.ensures.long c.in_ok-labels.ensures.marking
