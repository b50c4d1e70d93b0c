use Rattle.cc_rules.proofs.QuietEvents.{settling-prints, settling-settled, settling-stays, settling-turns}
use Rattle.cc_rules.proofs.laws.settling_is_quiet.Goals as goal

pub returns : goal.returns
returns c =
    record {
      turns = settling-turns;
      printed = settling-prints;
      running = λ m s events p settling run runs. settling-stays m s events p settling run runs;
      settled = settling-settled;
    }
