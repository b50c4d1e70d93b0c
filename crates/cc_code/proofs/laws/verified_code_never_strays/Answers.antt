use Rattle.std.proofs.Common.{sym, subst, Option}
use Rattle.cc_code.proofs.Proper.{process-ends}
use Rattle.cc_code.proofs.Standing.{fragment-runs, fragment-stands, kind-stands, runs-stand, step-stands}
use Rattle.cc_code.proofs.laws.verified_code_never_strays.Goals as goal
use Rattle.cc_code.specs.Meaning.{process}
use Rattle.cc_code.specs.Standing.{Ends, Kind}
use Rattle.cc_code.specs.declared.code.Part.{Part}

pub returns-clause-kinds : goal.returns-clause-kinds
returns-clause-kinds c = λ k n p cells left verified e. kind-stands k verified n p cells left e

pub returns-clause-fragments : goal.returns-clause-fragments
returns-clause-fragments c = λ k a cells left verified h. fragment-stands k verified a cells left h

pub returns-clause-steps : goal.returns-clause-steps
returns-clause-steps c = λ k r s verified stands fit. step-stands k verified r s stands fit

pub returns-clause-runs : goal.returns-clause-runs
returns-clause-runs c = λ k r n s verified stands fit. runs-stand k verified r n s stands fit

pub returns-clause-asks : goal.returns-clause-asks
returns-clause-asks c = λ k n p args grants verified e l proper. subst (λ (o : Option Part). Ends Kind (process k o args grants)) (sym e) (process-ends k verified n p args e grants proper)

pub returns-clause-clauses : goal.returns-clause-clauses
returns-clause-clauses c = λ k a cells verified h. fragment-runs k verified a cells h
