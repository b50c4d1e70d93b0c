use Rattle.std.proofs.Common.{◌≡◌, Err, rules}
use Rattle.cc_command.proofs.Written.{stopped_at, wrote_part}
use Rattle.cc_command.proofs.report.write_pieces.Goals as goal

pub returns-in_err-write_all : goal.returns-in_err-write_all
returns-in_err-write_all g c =
    let same : c.from_residual.result ≡ Err c.in_err-write_all.field-0.0 = search rules in
    rw same
    (stopped_at (λ piece. piece.now) c.args.pieces.now c.loop-piece.piece-index _ c.loop-piece-test.true _ _ _ _ _ _ _ _ _ _
    c.loop-piece.invariant
    (wrote_part _ _ _ _ _ _ _ _ c.in_err-write_all.ensures.part c.in_err-write_all.ensures.cause c.in_err-write_all.ensures.want))
