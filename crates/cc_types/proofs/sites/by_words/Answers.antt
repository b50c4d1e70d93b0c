use Rattle.std.proofs.Common.{ap, sym, ◌∙◌}
use Rattle.cc_types.proofs.Clauses.{parted-end}
use Rattle.cc_types.specs.Naming.{parted_before}
use Rattle.cc_types.proofs.sites.by_words.Goals as goal

pub loop-clause-preserved : goal.loop-clause-preserved
loop-clause-preserved c =
    ap (parted_before c.pop.new.self) c.put.ensures
    ∙ sym (parted-end c.pop.new.self c.in-Some.clause c.loop-clause.parted)
    ∙ ap (λ xs. parted_before xs c.loop-clause.parted) (sym c.in-Some.ensures)
    ∙ c.loop-clause.invariant
