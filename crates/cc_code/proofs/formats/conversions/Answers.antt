use Rattle.std.proofs.Common.{◌≡◌, ℕ, List, [], drop, refl, sym, subst, arith}
use Rattle.std.proofs.lemmas.Grind.{common_steps}
use Rattle.cc_base.specs.Formats.{conversions, conversions_after_percent, conversions_after_percent_l}
use Rattle.cc_code.specs.Checked.{conversions_from}
use Rattle.cc_code.specs.declared.formats.Reading.{Reading}
use Rattle.cc_code.specs.declared.formats.Reading.TheVariants as reading
use Rattle.cc_code.proofs.formats.conversions.Goals as goal

none-left : (r : Reading) → conversions_from r [] ≡ 0
unfolding conversions conversions_after_percent conversions_after_percent_l
none-left reading.Plain = refl
none-left reading.Percent = refl
none-left reading.Long = refl

pub returns : goal.returns
returns c =
    let e : drop c.loop-byte.byte-index c.args.format.now ≡ [] = grind (arith, common_steps) in
    let f : conversions_from c.loop-byte.reading (drop c.loop-byte.byte-index c.args.format.now) ≡ 0 = subst (λ (l : List ℕ). conversions_from c.loop-byte.reading l ≡ 0) (sym e) (none-left c.loop-byte.reading) in
    omega (arith, c.loop-byte.invariant.rest)
