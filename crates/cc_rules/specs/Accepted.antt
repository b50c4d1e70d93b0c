-- What holds of a call that is accepted.
use Rattle.std.specs.Prelude.{◌≡◌, ◌≤◌, ◌⊎◌, ℕ, ℤ, true, List, Some, int_lt}
use Rattle.std.specs.List.{Contains}
use Rattle.cc_base.specs.Meaning.{Meaning}
use Rattle.cc_base.specs.declared.alternatives.Alt.{Alt}
use Rattle.cc_base.specs.declared.alternatives.Alt.TheVariants.{Accept}
use Rattle.cc_base.specs.declared.names.CallId.{CallId}
use Rattle.cc_base.specs.declared.names.Pid.{Pid}
use Rattle.cc_base.specs.declared.request.Request.TheVariants.{Select}
use Rattle.cc_base.specs.Alternatives.{numbered}
use Rattle.cc_rules.specs.Events.{request_at}
use Rattle.cc_rules.specs.State.{State, process_at}
use Rattle.cc_rules.specs.declared.process.ProcessStanding.TheVariants.{AtSelect}
use Rattle.cc_rules.specs.declared.process.TransactionCall.{TransactionCall}

-- this call of the transaction is pending at p, and the accept site gives it this rank
pub record Fits (m : Meaning) (s : State) (p : Pid) (trans site : ℕ) (env : List ℤ) (call : TransactionCall) (rank : ℤ) : Type 0 where
  pub pending : Contains s.pending call
  pub target : call.target.0 ≡ p.0
  pub same_trans : call.trans ≡ trans
  pub fits : m.fit site env call.args ≡ Some rank

-- process p may take call c by its alternative i: the alternative is one of those that p asked for and waits at and accepts a
-- transaction; the call is one of those that fit it; and each other that fits has a greater rank, or the same and was
-- asked later
pub record IsChosenCall (m : Meaning) (s : State) (p : Pid) (i : ℕ) (c : CallId) : Type 0 where
  pub alts : List (ℕ × Alt)
  pub asked : request_at m s p ≡ Select alts
  -- it waits at that select, since this moment
  pub since : ℕ
  pub waits : (process_at s.processes p.0).standing ≡ AtSelect alts since
  pub trans : ℕ
  pub site : ℕ
  pub env : List ℤ
  pub alternative : numbered alts i ≡ Some (Accept trans site env)
  pub call : TransactionCall
  pub number : call.number ≡ c
  pub rank : ℤ
  pub eligible : Fits m s p trans site env call rank
  pub first :
      (other : TransactionCall) (k : ℤ)
      → Fits m s p trans site env other k
      → (int_lt rank k ≡ true) ⊎ ((rank ≡ k) × (call.number.0 ≤ other.number.0))
