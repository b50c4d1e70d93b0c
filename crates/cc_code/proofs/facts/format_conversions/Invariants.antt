use Rattle.std.proofs.Common.{◌≡◌, ℕ, ◌<◌, length, get_or}
use Rattle.cc_base.specs.Formats.{conversions}
use Rattle.cc_code.specs.Operands.{format_at}
use Rattle.cc_code.proofs.facts.format_conversions.Given as goal

abbrev pub invariant-loop-format : goal.invariant-loop-format
invariant-loop-format l = record {
  are : l.format-items ≡ l.raw.formats;
  long : length l.counts.items ≡ l.format-index;
  each : (f : ℕ) → f < l.format-index → get_or l.counts.items f 0 ≡ conversions (format_at l.raw f);
}
