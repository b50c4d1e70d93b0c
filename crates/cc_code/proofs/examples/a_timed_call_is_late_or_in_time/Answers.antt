use Rattle.std.proofs.Common.{refl}
use Rattle.cc_base.specs.Numbers.{in_range, is_char, is_int, is_long, operated}
use Rattle.cc_code.specs.Meaning.{act}
use Rattle.cc_code.specs.Steps.{goes_on, popped, run}
use Rattle.cc_code.proofs.examples.a_timed_call_is_late_or_in_time.Goals as goal

pub returns : goal.returns
unfolding act goes_on run popped operated in_range is_long is_int is_char
returns c =
    record {
      creates = refl;
      calls = refl;
      in_time = refl;
      late = refl;
      gone = refl;
      accepts = refl;
      replies = refl;
      ends = refl;
    }
