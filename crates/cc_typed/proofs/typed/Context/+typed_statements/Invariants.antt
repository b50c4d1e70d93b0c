use Rattle.std.proofs.Common.{◌≡◌, drop}
use Rattle.std.specs.List.{list_all}
use Rattle.cc_typed.specs.Checked.{around}
use Rattle.cc_typed.specs.Typed.{is_typed_statement}
use Rattle.cc_typed.specs.TypedLists.{is_typed_alternative}
use Rattle.cc_typed.proofs.typed.Context.+typed_statements.Given as goal

abbrev pub invariant-typed_statements-loop-s : goal.invariant-typed_statements-loop-s
invariant-typed_statements-loop-s l =
    list_all (is_typed_statement (around l.self)) (drop l.s-index l.all) ≡ list_all (is_typed_statement (around l.self)) l.all

abbrev pub invariant-typed_alternatives-loop-a : goal.invariant-typed_alternatives-loop-a
invariant-typed_alternatives-loop-a l =
    list_all (is_typed_alternative (around l.self)) (drop l.a-index l.all) ≡ list_all (is_typed_alternative (around l.self)) l.all
