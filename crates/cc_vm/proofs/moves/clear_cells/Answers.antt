use Rattle.std.proofs.Common.{ℕ, ap, arith, pos, replicate, sym, ◌∙◌}
use Rattle.cc_code.specs.Works.{with_cells}
use Rattle.cc_vm.proofs.Between.{set-with}
use Rattle.cc_vm.proofs.moves.clear_cells.Goals as goal

pub returns-then-cells-eq1 : goal.returns-then-cells-eq1
returns-then-cells-eq1 c =
    set-with c.args.list.now c.args.from (pos 0) (omega (arith, c.requires, c.if-cells-eq1.true))
    ∙ ap (λ (n : ℕ). with_cells c.args.from (replicate n (pos 0)) c.args.list.now) (sym c.if-cells-eq1.true)
