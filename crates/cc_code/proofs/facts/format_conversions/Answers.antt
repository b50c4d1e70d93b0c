use Rattle.std.proofs.Common.{◌≡◌, [], length, refl, sym, ◌∙◌, ap, arith}
use Rattle.std.proofs.lemmas.List.{get_or_past}
use Rattle.std.proofs.lemmas.Option.{slice_get_cases}
use Rattle.std.proofs.Common.{inl, inr}
use Rattle.cc_base.specs.Formats.{conversions, conversions_after_percent, conversions_after_percent_l}
use Rattle.cc_code.proofs.facts.format_conversions.Goals as goal

none : conversions [] ≡ 0
unfolding conversions conversions_after_percent conversions_after_percent_l
none = refl

pub returns : goal.returns
returns c = λ f. elim ((slice_get_cases c.args.raw.now.formats f).1) [
  | inl h ↦ c.loop-format.invariant.each f (omega (arith, h.1, ap length c.loop-format.invariant.are, c.loop-format-test.false))
  | inr h ↦ get_or_past c.loop-format.counts.items f 0 (omega (arith, h.0, c.loop-format.invariant.long, ap length c.loop-format.invariant.are, c.loop-format.auto)) ∙ sym none ∙ ap conversions (sym (get_or_past c.args.raw.now.formats f [] h.0))
]
