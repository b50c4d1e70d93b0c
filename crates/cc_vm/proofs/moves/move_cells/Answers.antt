use mir.Syntax.{w64}
use Rattle.std.proofs.Common.{ℕ, ℤ, ap, arith, drop, rules, sym, take, ◌∙◌}
use Rattle.std.proofs.lemmas.Int.{to_z-of_z}
use Rattle.std.specs.Prelude.{slice_set}
use Rattle.cc_code.specs.Works.{with_cells}
use Rattle.cc_vm.proofs.Between.{set-copied}
use Rattle.cc_vm.proofs.moves.move_cells.Goals as goal
use Rattle.cc_vm.specs.Machine.{cell_of}

pub returns-then-cells-eq1 : goal.returns-then-cells-eq1
returns-then-cells-eq1 c =
    ap (λ (z : ℤ). slice_set c.args.list.now c.args.to z) (to_z-of_z w64 (cell_of c.args.list.now c.args.from) (search rules))
    ∙ set-copied c.args.list.now c.args.list.now c.args.to c.args.from (omega (arith, c.requires.to, c.if-cells-eq1.true)) (omega (arith, c.requires.from, c.if-cells-eq1.true))
    ∙ ap (λ (n : ℕ). with_cells c.args.to (take n (drop c.args.from c.args.list.now)) c.args.list.now) (sym c.if-cells-eq1.true)
