-- An expression is at most so deep.
use Rattle.std.specs.Prelude.{ℕ, ◌-◌, Bool, ◌&&◌, nat_le, nat_lt}
use Rattle.cc_faults.specs.Depths.{depth_of, depth_of_step}
use Rattle.cc_faults.specs.declared.plain.Compared.{Compared}
use Rattle.cc_faults.specs.declared.plain.Operation.{Operation}
use Rattle.cc_faults.specs.declared.plain.Phrase.{Phrase}
use Rattle.cc_faults.specs.declared.plain.Step.{Step}

abbrev pub is_within : ℕ → Phrase → Bool
is_within n e = nat_le (depth_of e) n

abbrev pub is_step_within : ℕ → Step → Bool
is_step_within n s = nat_le (depth_of_step s) n

-- a right operand stands one deeper than the operation
abbrev pub is_operation_within : ℕ → Operation → Bool
is_operation_within n o = nat_lt 0 n && is_within (n - 1) o.operand

abbrev pub is_comparison_within : ℕ → Compared → Bool
is_comparison_within n c = nat_lt 0 n && is_within (n - 1) c.operand
