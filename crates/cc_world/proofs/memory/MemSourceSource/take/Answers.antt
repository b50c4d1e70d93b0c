use Rattle.std.proofs.Common.{rules, ap, ℕ, List, Some, arith, drop}
use Rattle.std.proofs.lemmas.Grind.{common_steps}
use Rattle.std.proofs.lemmas.List.{nil_from_length}
use Rattle.cc_world.proofs.Pieces.{given_first}
use Rattle.cc_world.proofs.memory.MemSourceSource.take.Goals as goal

pub returns-clause-bytes : goal.returns-clause-bytes
returns-clause-bytes c = (
  search rules,
  ap (λ (xs : List ℕ). Some xs) (given_first c.args.self.now.bytes c.copy_from_slice.new.self (drop c.min-count.result c.args.buf.now) c.args.self.now.at c.min-count.result (grind (rules, common_steps)) (grind (arith, rules, common_steps))),
  λ none. nil_from_length _ (grind (arith, rules, common_steps)),
)
