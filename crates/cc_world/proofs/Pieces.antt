-- What a source over bytes gives.
use Rattle.std.proofs.Common.{◌≡◌, ℕ, ◌+◌, ◌≤◌, List, ◌++◌, length, take, drop, sym, ◌∙◌, ap, ap₂}
use Rattle.std.proofs.lemmas.List.{take_at, drop-drop, take-append-drop, length-take-le}

-- what is left from a place on is a piece of it, copied in front of a tail, and then what is left behind the piece
pub given_first : (all given tail : List ℕ) (at n : ℕ) → given ≡ take n (drop at all) → n ≤ length (drop at all) → drop at all ≡ take n (given ++ tail) ++ drop (at + n) all
given_first all given tail at n e le =
    let long : length given ≡ n = ap length e ∙ length-take-le n (drop at all) le in
    let front : take n (given ++ tail) ≡ take n (drop at all) = take_at given tail n long ∙ e in
    sym (ap₂ (λ (x y : List ℕ). x ++ y) front (sym (drop-drop n at all)) ∙ take-append-drop n (drop at all))
