use Rattle.std.proofs.Common.{ℕ, sym, ap, ◌∙◌}
use Rattle.cc_typed.specs.declared.types.DataType.{DataType}
use Rattle.cc_faults.specs.Judged.{outcome}
use Rattle.cc_faults.specs.Made.{array_of}
use Rattle.cc_faults.specs.Rows.{array_length, not_large, value_type}
use Rattle.cc_declared.specs.Lists.{paired, ruled}
use Rattle.cc_declared.proofs.Firsts.{outcome-two}
use Rattle.cc_declared.proofs.visible.Visible.outcome_of_array.Goals as goal

pub returns : goal.returns
returns c =
    let s = c.args.self.now in
    let of = c.outcome_of_value_type-of.ensures.outcome in
    let size = c.outcome_of_length-length.ensures in
    let table = c.as_slice.ensures ∙ ap (λ w. w.structures) c.self.view_is in
    c.array.ensures
    ∙ (λ i. ruled (paired c.outcome_of_value_type-of.result c.outcome_of_length-length.result) (λ (v : DataType × ℕ). outcome (not_large (table i) c.args.x (array_of v.0 v.1))))
    ∙ (λ i. ruled (paired (of i) (size i)) (λ (v : DataType × ℕ). outcome (not_large s.structures c.args.x (array_of v.0 v.1))))
    ∙ sym (outcome-two (value_type s c.args.of) (array_length s c.args.length) (λ (v : DataType × ℕ). not_large s.structures c.args.x (array_of v.0 v.1)))
