use Rattle.std.proofs.Common.{◌≡◌, ℕ, ℤ, ◌+◌, ◌-◌, ◌≤◌, List, ◌++◌, drop, length, pos, refl, replicate, sym, take, ◌∙◌, ap, arith}
use Rattle.std.proofs.lemmas.List.{length-replicate}
use Rattle.cc_code.specs.Works.{with_cells}
use Rattle.cc_vm.proofs.Copies.{cells-up-to, taken-from, with-twice}
use Rattle.cc_vm.proofs.calls.enter.Goals as goal
use Rattle.cc_vm.specs.Machine.{between}

-- the arguments and then zeros
entered : (p n z top : ℕ) (S C : List ℤ) → n ≤ top → top ≤ length S → p + n + z ≤ length C
    → with_cells (p + n) (replicate z (pos 0)) (with_cells p (take n (drop (top - n) S)) C) ≡ with_cells p (between (top - n) top S ++ replicate z (pos 0)) C
entered p n z top S C a b c =
    let long : length (take n (drop (top - n) S)) ≡ n = taken-from (top - n) n S (omega (arith, a, b)) in
    let zeros : length (replicate z (pos 0)) ≡ z = length-replicate z (pos 0) in
    ap (λ (m : ℕ). with_cells (p + m) (replicate z (pos 0)) (with_cells p (take n (drop (top - n) S)) C)) (sym long)
    ∙ with-twice p (take n (drop (top - n) S)) (replicate z (pos 0)) C (omega (arith, long, zeros, c))
    ∙ ap (λ (xs : List ℤ). with_cells p (xs ++ replicate z (pos 0)) C) (cells-up-to (top - n) n top S (omega (arith, a)))

pub returns : goal.returns
returns c = (
  c.clear_cells.ensures
      ∙ ap (λ (xs : List ℤ). with_cells (c.args.r.now.end + c.args.part.args) (replicate (c.args.part.cells - c.args.part.args) (pos 0)) xs) c.put_cells.ensures
      ∙ entered c.args.r.now.end c.args.part.args (c.args.part.cells - c.args.part.args) c.args.r.now.top c.args.stack.now c.args.cells.now c.requires.operands c.requires.within.top (omega (arith, c.requires.cells, c.requires.among)),
  refl,
  refl,
)
