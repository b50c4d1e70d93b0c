-- What stays where room is made.
use Rattle.std.specs.Prelude.{◌≡◌, ◌≤◌, Bool}
use Rattle.std.specs.HashMap.{HashMap, get, spare}
use Rattle.slab.specs.Slab.{Slab}
use Rattle.cc_queue.specs.declared.node.Node.{Node}

-- the slab has the same nodes, and no less capacity
pub record HasMore (old new : Slab Node) : Type 0 where
  pub slots : new.slots ≡ old.slots
  pub capacity : old.capacity ≤ new.capacity

-- the map has the same value at each key, and no less room
pub record HasMoreIn {K V S : Type 0} (same : K → K → Bool) (old new : HashMap K V S) : Type 0 where
  pub at : (k : K) → get same new k ≡ get same old k
  pub room : spare old ≤ spare new
