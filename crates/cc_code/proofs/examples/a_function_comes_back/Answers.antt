use Rattle.std.proofs.Common.{refl}
use Rattle.cc_base.specs.Numbers.{in_range, is_char, is_int, is_long, operated}
use Rattle.cc_code.specs.Meaning.{act}
use Rattle.cc_code.specs.Steps.{goes_on, popped, run}
use Rattle.cc_code.proofs.examples.a_function_comes_back.Goals as goal

pub returns : goal.returns
unfolding act goes_on run popped operated in_range is_long is_int is_char
returns c =
    record {
      prints = refl;
      ends = refl;
    }
