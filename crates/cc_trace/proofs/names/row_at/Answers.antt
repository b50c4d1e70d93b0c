use Rattle.std.proofs.Common.{◌++◌, sym, ◌∙◌, ap, arith}
use Rattle.cc_trace.proofs.Tables.{not_stripped, row_found, row_passed, stripped}
use Rattle.cc_trace.proofs.names.row_at.Goals as goal

pub returns-in-Some : goal.returns-in-Some
returns-in-Some g c =
    let item = c.loop-name-item.result in
    let text = c.args.text.now in
    let found = stripped text c.as_bytes.result.now c.strip_prefix.result c.in-Some.rest c.strip_prefix.ensures.cases c.in-Some.is in
    record { row = sym (c.loop-name.invariant ∙ row_found c.args.table.now c.loop-name.name-index item text c.in-Some.rest.now (omega arith) c.loop-name-item.is (found ∙ ap (λ name. name ++ c.in-Some.rest.now) c.as_bytes.ensures.value)) }

pub loop-name-preserved : goal.loop-name-preserved
loop-name-preserved g c =
    let item = c.loop-name-item.result in
    let text = c.args.text.now in
    let none = not_stripped text c.as_bytes.result.now c.strip_prefix.result c.strip_prefix.ensures.cases c.in_default.is in
    c.loop-name.invariant ∙ row_passed c.args.table.now c.loop-name.name-index item text (omega arith) c.loop-name-item.is (λ rest e. none rest (e ∙ ap (λ name. name ++ rest) (sym c.as_bytes.ensures.value)))
