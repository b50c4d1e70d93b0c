use Rattle.std.proofs.Common.{◌≡◌, ℕ, ◌≤◌, List, get_or, rules, subst}
use Rattle.cc_vm.proofs.Heights.{room-for}
use Rattle.cc_vm.proofs.room.room_for.Goals as goal

pub returns : goal.returns
returns c =
    let same : c.as_slice.result.now ≡ c.args.raw.now.heights = search rules in
    room-for c.args.raw.now c.requires c.most_height.result (subst (λ (xs : List ℕ). (at : ℕ) → get_or xs at 0 ≤ c.most_height.result) same c.most_height.ensures)
