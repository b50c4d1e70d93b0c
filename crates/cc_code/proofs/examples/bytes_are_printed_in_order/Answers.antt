use Rattle.std.proofs.Common.{refl}
use Rattle.cc_code.specs.Meaning.{act}
use Rattle.cc_code.specs.Steps.{goes_on, popped, run}
use Rattle.cc_code.proofs.examples.bytes_are_printed_in_order.Goals as goal

pub returns : goal.returns
unfolding act goes_on run popped
returns c =
    record {
      first = refl;
      second = refl;
      end = refl;
    }
