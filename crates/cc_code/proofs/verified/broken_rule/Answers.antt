use Rattle.std.proofs.Common.{rules}
use Rattle.cc_code.specs.Rules.{KeepsAt}
use Rattle.cc_code.specs.declared.rule.Rule.{Rule}
use Rattle.cc_code.specs.declared.rule.Rule.TheVariants as rule
use Rattle.cc_code.proofs.verified.broken_rule.Goals as goal

by-rule : (K : Rule → Type 0) → K rule.Size → K rule.Target → K rule.Table → K rule.Height → K rule.Fall → K rule.Pure → K rule.Reach → (q : Rule) → K q
by-rule K a b c d e f g rule.Size = a
by-rule K a b c d e f g rule.Target = b
by-rule K a b c d e f g rule.Table = c
by-rule K a b c d e f g rule.Height = d
by-rule K a b c d e f g rule.Fall = e
by-rule K a b c d e f g rule.Pure = f
by-rule K a b c d e f g rule.Reach = g

pub returns : goal.returns
returns c = by-rule (KeepsAt c.args.raw.now c.args.at c.args.instr)
    (c.keeps_size.ensures.0 (search rules)) (c.keeps_target.ensures.0 (search rules)) (c.keeps_table.ensures.0 (search rules)) (c.keeps_heights.ensures.0 (search rules))
    (c.keeps_fall.ensures.0 (search rules)) (c.keeps_pure.ensures.0 (search rules)) (c.keeps_reach.ensures.0 (search rules))
