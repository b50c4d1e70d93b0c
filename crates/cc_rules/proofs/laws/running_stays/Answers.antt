use Rattle.cc_rules.proofs.NextStays.{same-args, same-kind, same-running, still-made}
use Rattle.cc_rules.proofs.laws.running_stays.Goals as goal

pub returns : goal.returns
returns c = record { stays = same-running; made = still-made; kind = same-kind; args = same-args }
