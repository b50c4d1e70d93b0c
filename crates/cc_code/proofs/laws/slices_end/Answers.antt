use Rattle.cc_code.proofs.Total.{step-spends}
use Rattle.cc_code.proofs.laws.slices_end.Goals as goal

pub returns : goal.returns
returns c = record { spends = λ k s i e. step-spends k s i e }
