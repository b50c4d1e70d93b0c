use Rattle.cc_rules.proofs.GoOn.{after-append, IsRunFrom-append, IsSettledFrom-append, printed-append, turns-append}
use Rattle.cc_rules.proofs.laws.runs_go_on.Goals as goal

pub returns : goal.returns
returns c =
    record {
      after = after-append;
      legal = IsRunFrom-append;
      settled = IsSettledFrom-append;
      printed = printed-append;
      turns = turns-append;
    }
