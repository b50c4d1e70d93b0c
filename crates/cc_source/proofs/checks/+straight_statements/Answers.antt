use Rattle.std.proofs.Common.{ap, sym, ◌∙◌}
use Rattle.cc_source.specs.Straight.{is_straight_statement}
use Rattle.cc_source.proofs.Straight.{statement-Empty}
use Rattle.cc_source.proofs.checks.+straight_statements.Goals as goal

pub straight_statement-returns-in-Empty : goal.straight_statement-returns-in-Empty
straight_statement-returns-in-Empty t c = sym (ap is_straight_statement c.in-Empty.is ∙ statement-Empty)
