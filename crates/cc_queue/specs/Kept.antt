-- How the pending calls are kept.
use Rattle.std.specs.Prelude.{◌≡◌, ℕ, ◌≤◌, if◌then◌else◌, List, [], ◌∷◌, Option, Some, None, nat_lt}
use Rattle.slab.specs.Slab.{Slab, HasRoomFor}
use Rattle.cc_queue.specs.Chains.{call_at, links, IsChained}
use Rattle.cc_queue.specs.declared.call.PendingCall.{PendingCall}
use Rattle.cc_queue.specs.declared.chains.Ends.{Ends}
use Rattle.cc_queue.specs.declared.node.Chain.TheVariants.{Transaction, Target}
use Rattle.cc_queue.specs.declared.node.Node.{Node}

-- the calls in the slots
abbrev pub held_calls : List (Option Node) → List PendingCall
held_calls [] = []
held_calls (None ∷ slots) = held_calls slots
held_calls (Some node ∷ slots) = node.call ∷ held_calls slots

-- a call put in its place by its number
abbrev pub put_in_order : PendingCall → List PendingCall → List PendingCall
put_in_order call [] = call ∷ []
put_in_order call (c ∷ cs) = if nat_lt call.number.0 c.number.0 then call ∷ c ∷ cs else c ∷ put_in_order call cs

-- calls in the order of their numbers
abbrev pub in_order : List PendingCall → List PendingCall
in_order [] = []
in_order (c ∷ cs) = put_in_order c (in_order cs)

-- a call's number leads to its slot; the chains of both kinds are those of the calls; and there is the room that is told
pub record AreKept (nodes : Slab Node) (slots : ℕ → Option ℕ) (transactions targets : ℕ × ℕ → Option Ends) (spare in_slots in_transactions in_targets : ℕ) : Type 0 where
  pub numbered : (s : ℕ) (c : PendingCall) → call_at nodes s ≡ Some c → slots c.number.0 ≡ Some s
  pub held : (n s : ℕ) → slots n ≡ Some s → (c : PendingCall) × (call_at nodes s ≡ Some c) × (c.number.0 ≡ n)
  pub by_transaction : IsChained (links Transaction nodes) transactions
  pub by_target : IsChained (links Target nodes) targets
  pub room : HasRoomFor nodes spare
  pub slots_room : spare ≤ in_slots
  pub transactions_room : spare ≤ in_transactions
  pub targets_room : spare ≤ in_targets
