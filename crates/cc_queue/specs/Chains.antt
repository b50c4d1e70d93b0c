-- The chains in which the calls stand: of each chain, its calls by rising number.
use Rattle.std.specs.Prelude.{◌≡◌, ℕ, ◌+◌, ◌<◌, ◌≤◌, ◌^◌, Bool, true, false, ◌&&◌, if◌then◌else◌, Option, Some, None, nat_eq}
use Rattle.std.specs.Option.{option_map}
use Rattle.std.specs.HashMap.{HashMap, get as hash_get}
use Rattle.slab.specs.Slab.{Slab, get, slab_len}
use Rattle.cc_queue.specs.declared.call.PendingCall.{PendingCall}
use Rattle.cc_queue.specs.declared.chains.Ends.{Ends}
use Rattle.cc_queue.specs.declared.node.Chain.{Chain}
use Rattle.cc_queue.specs.declared.node.Chain.TheVariants.{Transaction, Target}
use Rattle.cc_queue.specs.declared.node.Node.{Node}

-- the key of the chain of each kind in which calls of this target and transaction stand
abbrev pub lane_of : Chain → ℕ → ℕ → ℕ × ℕ
lane_of Transaction target trans = (target, trans)
lane_of Target target trans = (target, 0)

abbrev pub other_chain : Chain → Chain
other_chain Transaction = Target
other_chain Target = Transaction

abbrev pub is_lane : ℕ × ℕ → ℕ × ℕ → Bool
is_lane l k = nat_eq l.0 k.0 && nat_eq l.1 k.1

-- where a call stands in the chains of a kind: the key of its chain, its number, and the slots of its neighbours
pub record Link : Type 0 where
  pub lane : ℕ × ℕ
  pub number : ℕ
  pub before : Option ℕ
  pub after : Option ℕ

abbrev pub link_of : Chain → Node → Link
link_of Transaction node =
    record {
      lane = lane_of Transaction node.call.target.0 node.call.trans;
      number = node.call.number.0;
      before = node.of_transaction.before;
      after = node.of_transaction.after;
    }
link_of Target node =
    record {
      lane = lane_of Target node.call.target.0 node.call.trans;
      number = node.call.number.0;
      before = node.of_target.before;
      after = node.of_target.after;
    }

abbrev pub with_before : Option ℕ → Link → Link
with_before before x = record x { before = before }

abbrev pub with_after : Option ℕ → Link → Link
with_after after x = record x { after = after }

-- the links of a kind, by slot
abbrev pub links : Chain → Slab Node → ℕ → Option Link
links chain nodes slot = option_map (link_of chain) (get nodes slot)

-- the calls, by slot
abbrev pub call_at : Slab Node → ℕ → Option PendingCall
call_at nodes slot = option_map (λ node. node.call) (get nodes slot)

-- all links but that of a slot
abbrev pub but : ℕ → (ℕ → Option Link) → ℕ → Option Link
but slot links t = if nat_eq t slot then None else links t

-- the ends of a chain
abbrev pub ends_at : {S : Type 0} → HashMap (ℕ × ℕ) Ends S → ℕ × ℕ → Option Ends
ends_at ends lane = hash_get is_lane ends lane

-- the ends of a chain once the slot is its last, and also its first where it had none
abbrev pub has_last : ℕ → Option Ends → Ends
has_last slot None = record { first = slot; last = slot }
has_last slot (Some ends) = record ends { last = slot }

-- the option names this slot; it names none
abbrev pub is_slot : Option ℕ → ℕ → Bool
is_slot None t = false
is_slot (Some slot) t = nat_eq t slot

abbrev pub is_end : Option ℕ → Bool
is_end None = true
is_end (Some slot) = false

-- the ends of a chain once this is its first or last; none where it has none any more
abbrev pub first_moved : Option ℕ → Option Ends → Option Ends
first_moved None ends = None
first_moved (Some slot) ends = option_map (λ (e : Ends). record e { first = slot }) ends

abbrev pub last_moved : Option ℕ → Option Ends → Option Ends
last_moved None ends = None
last_moved (Some slot) ends = option_map (λ (e : Ends). record e { last = slot }) ends

-- the chain and the number of a call
pub record Place : Type 0 where
  pub lane : ℕ × ℕ
  pub number : ℕ

abbrev pub place_of : Link → Place
place_of x = record { lane = x.lane; number = x.number }

-- the places of the calls, by slot
abbrev pub places : (ℕ → Option Link) → ℕ → Option Place
places links slot = option_map place_of (links slot)

-- of the calls of a chain whose numbers pass, the slot has one than which none is nearer
pub record HasNearest (places : ℕ → Option Place) (passes : ℕ → Type 0) (nearer : ℕ → ℕ → Type 0) (lane : ℕ × ℕ) (slot : ℕ) : Type 0 where
  pub place : Place
  pub at : places slot ≡ Some place
  pub in_lane : place.lane ≡ lane
  pub within : passes place.number
  pub nearest : (t : ℕ) (p : Place) → places t ≡ Some p → p.lane ≡ lane → passes p.number → nearer place.number p.number

-- the nearest of the calls of a chain whose numbers pass, if any does
abbrev pub IsNearest : (ℕ → Option Place) → (ℕ → Type 0) → (ℕ → ℕ → Type 0) → ℕ × ℕ → Option ℕ → Type 0
IsNearest places passes nearer lane None = (t : ℕ) (p : Place) → places t ≡ Some p → p.lane ≡ lane → passes p.number → ⊥
IsNearest places passes nearer lane (Some slot) = HasNearest places passes nearer lane slot

-- the chain's call of least number from this one on
abbrev pub IsNext : (ℕ → Option Place) → ℕ × ℕ → ℕ → Option ℕ → Type 0
IsNext places lane from slot = IsNearest places (λ n. from ≤ n) (λ m n. m ≤ n) lane slot

-- the chain's call of greatest number below this one
abbrev pub IsPrevious : (ℕ → Option Place) → ℕ × ℕ → ℕ → Option ℕ → Type 0
IsPrevious places lane below slot = IsNearest places (λ n. n < below) (λ m n. n ≤ m) lane slot

-- no two calls have one number
abbrev pub AreApart : (ℕ → Option Place) → Type 0
AreApart places = (s t : ℕ) (p q : Place) → places s ≡ Some p → places t ≡ Some q → p.number ≡ q.number → s ≡ t

-- each call has its neighbours in its chain, and the ends are those of each chain
pub record IsChained (links : ℕ → Option Link) (ends : ℕ × ℕ → Option Ends) : Type 0 where
  pub apart : AreApart (places links)
  pub fits : (s : ℕ) (p : Place) → places links s ≡ Some p → p.number < 2 ^ 32
  pub after : (s : ℕ) (x : Link) → links s ≡ Some x → IsNext (places links) x.lane (x.number + 1) x.after
  pub before : (s : ℕ) (x : Link) → links s ≡ Some x → IsPrevious (places links) x.lane x.number x.before
  pub first : (lane : ℕ × ℕ) → IsNext (places links) lane 0 (option_map (λ (e : Ends). e.first) (ends lane))
  pub last : (lane : ℕ × ℕ) → IsPrevious (places links) lane (2 ^ 32) (option_map (λ (e : Ends). e.last) (ends lane))

-- the calls, the links of the other kind and the room are as before
pub record Standing (chain : Chain) (old new : Slab Node) : Type 0 where
  pub calls : (t : ℕ) → call_at new t ≡ call_at old t
  pub other : (t : ℕ) → links (other_chain chain) new t ≡ links (other_chain chain) old t
  pub count : slab_len new ≡ slab_len old
  pub capacity : new.capacity ≡ old.capacity

-- the link of this kind at the slot, if there is one, was changed so, and all else stands
pub record IsWritten (chain : Chain) (slot : ℕ) (change : Link → Link) (old new : Slab Node) : Type 0 where
  pub written : (t : ℕ) → links chain new t ≡ (if nat_eq t slot then option_map change (links chain old t) else links chain old t)
  pub standing : Standing chain old new
