-- Kinds in order.
use Rattle.std.proofs.Common.{◌≡◌, ℕ, ◌+◌, ◌<◌, suc, ◌&&◌, List, length, drop, get_or, ap, ◌∙◌, arith}
use Rattle.cc_typed.specs.Parts.{Parts}
use Rattle.cc_typed.specs.Typed.{are_typed_kinds, is_typed_kind}
use Rattle.cc_typed.specs.Sequences.{drop-at}
use Rattle.cc_typed.specs.declared.tree.Kind.{Kind}

pub kinds-step : (p : Parts) (kinds : List Kind) (k : ℕ) (d : Kind) → k < length kinds → are_typed_kinds p k (drop k kinds) ≡ (is_typed_kind p k (get_or kinds k d) && are_typed_kinds p (k + 1) (drop (k + 1) kinds))
kinds-step p kinds k d lt =
    let e : suc k ≡ k + 1 = omega arith in
    ap (are_typed_kinds p k) (drop-at kinds k d lt) ∙ ap (λ n. is_typed_kind p k (get_or kinds k d) && are_typed_kinds p n (drop (k + 1) kinds)) e

pub ruleset kinds_in_order = (kinds-step)
