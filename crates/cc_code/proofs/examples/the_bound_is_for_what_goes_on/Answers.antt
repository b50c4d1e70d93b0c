use Rattle.std.proofs.Common.{refl}
use Rattle.cc_code.specs.Steps.{popped}
use Rattle.cc_code.proofs.examples.the_bound_is_for_what_goes_on.Goals as goal

pub returns : goal.returns
unfolding popped
returns c =
    record {
      ends = refl;
      selects = refl;
      lacks_cells = refl;
      jumps = refl;
      calls = refl;
      ticks = refl;
      one_before = refl;
    }
