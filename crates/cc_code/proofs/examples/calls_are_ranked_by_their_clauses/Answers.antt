use Rattle.std.proofs.Common.{refl}
use Rattle.cc_base.specs.Numbers.{in_range, is_char, is_int, is_long, operated}
use Rattle.cc_code.specs.Meaning.{act, fit}
use Rattle.cc_code.specs.Steps.{goes_on, popped, run}
use Rattle.cc_code.proofs.examples.calls_are_ranked_by_their_clauses.Goals as goal

pub returns : goal.returns
unfolding act fit goes_on run popped operated in_range is_long is_int is_char
returns c =
    record {
      fits = refl;
      none = refl;
      faults = refl;
      other_cells = refl;
      no_site = refl;
      opens = refl;
    }
