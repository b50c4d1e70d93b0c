use Rattle.std.proofs.Common.{◌≡◌, ◌≢◌, ℕ, false, eq-eqb, nat_eq, arith}
use Rattle.std.proofs.lemmas.Bool.Decides.{nat_tests}
use Rattle.cc_plain.proofs.Loops.{numbered-here, numbered-more}
use Rattle.cc_plain.proofs.alternatives.alternative_numbered.Goals as goal

pub returns-then-item-number : goal.returns-then-item-number
returns-then-item-number c =
    numbered-here c.args.alts.now c.loop-at.at c.args.number c.in-Some.item.now c.in-Some.ensures c.loop-at.invariant
    (eq-eqb c.in-Some.item.now.0 c.args.number c.if-item-number.true)

other : (a b : ℕ) → a ≢ b → nat_eq a b ≡ false
other a b h = grind (arith, nat_tests)

pub loop-at-preserved : goal.loop-at-preserved
loop-at-preserved c =
    numbered-more c.args.alts.now c.loop-at.at c.args.number c.in-Some.item.now c.in-Some.ensures c.loop-at.invariant
    (other c.in-Some.item.now.0 c.args.number c.if-item-number.false)
