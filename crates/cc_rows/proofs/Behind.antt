-- What is found, beside a transaction of it.
use Rattle.std.proofs.Common.{◌≡◌, refl}
use Rattle.cc_faults.specs.Judged.{answer_map, answer_pair}
use Rattle.cc_faults.specs.declared.answer.Answer.{Answer}
use Rattle.cc_faults.specs.declared.answer.Answer.TheVariants as an
use Rattle.cc_faults.specs.declared.scope.Found.{Found}
use Rattle.cc_faults.specs.declared.scope.Signature.{Signature}
use Rattle.cc_faults.specs.declared.scope.TransactionHead.{TransactionHead}
use Rattle.cc_rows.specs.Called.{behind_in, transaction_in}
use Rattle.cc_rows.specs.declared.calls.Transaction.{Transaction}

pub behind-pair : (v : Found) (t : Answer Transaction) → answer_map behind_in (answer_pair (an.Good v) t) ≡ answer_map (λ (h : TransactionHead × Signature). (v, h)) (answer_map transaction_in t)
behind-pair v (an.Good t) = refl
behind-pair v an.Typeless = refl
behind-pair v an.Faulty = refl

pub ruleset pairs = (behind-pair)
