use Rattle.std.proofs.Common.{ℕ, List, ap}
use Rattle.std.specs.HashMap.{get}
use Rattle.std.specs.Map.{lookup}
use Rattle.std.specs.Prelude.{nat_eq}
use Rattle.cc_queue.specs.Chains.{ends_at, is_lane}
use Rattle.cc_queue.specs.declared.chains.Ends.{Ends}
use Rattle.cc_queue.proofs.Keeping.{kept_empty}
use Rattle.cc_queue.proofs.queues.Queues.new.Goals as goal

pub invariant_of-result : goal.invariant_of-result
invariant_of-result c =
    kept_empty c.new.result (get nat_eq c.new-2.result) (ends_at c.new-3.result) (ends_at c.new-4.result) _ _ _ c.new.ensures.empty
    (λ n. ap (λ (es : List (ℕ × ℕ)). lookup (nat_eq n) es) c.new-2.ensures.empty)
    (λ q. ap (λ (es : List ((ℕ × ℕ) × Ends)). lookup (is_lane q) es) c.new-3.ensures.empty)
    (λ q. ap (λ (es : List ((ℕ × ℕ) × Ends)). lookup (is_lane q) es) c.new-4.ensures.empty)
