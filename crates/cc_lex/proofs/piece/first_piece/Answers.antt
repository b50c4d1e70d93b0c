use Rattle.std.proofs.Common.{◌≡◌, ℕ, ◌<◌, ◌≤◌, length, take, drop, Result, Ok, Err, IfOk, sym, subst}
use Rattle.cc_base.specs.declared.memory.Memory.{Memory}
use Rattle.cc_lex.specs.Pieces.{Stands}
use Rattle.cc_lex.specs.Reading.{piece_at}
use Rattle.cc_lex.specs.declared.piece.Piece.{Piece}
use Rattle.cc_lex.proofs.Fits.{piece_at-some, piece_at-within}
use Rattle.cc_lex.proofs.Standing.{piece_at-stands}
use Rattle.cc_lex.proofs.piece.first_piece.Goals as goal

-- what holds of the piece that is computed holds of what was found
found_has : (P : Piece × ℕ → Type 0) (result : Result (Piece × ℕ) Memory) (wanted : Piece × ℕ) → P wanted → IfOk result (λ found. ◌≡◌ {A = Piece × ℕ} found wanted) → IfOk result P
found_has P (Ok found) wanted h e = subst P (sym e) h
found_has P (Err memory) wanted h e = tt

pub returns-clause-some : goal.returns-clause-some
returns-clause-some c =
    let text = c.args.text.now in
    found_has (λ (found : Piece × ℕ). 0 < found.1) c.piece_at.result (piece_at text) (piece_at-some text c.requires) c.piece_at.ensures

pub returns-clause-within : goal.returns-clause-within
returns-clause-within c =
    let text = c.args.text.now in
    found_has (λ (found : Piece × ℕ). found.1 ≤ length text) c.piece_at.result (piece_at text) (piece_at-within text c.requires) c.piece_at.ensures

pub returns-clause-stands : goal.returns-clause-stands
returns-clause-stands c =
    let text = c.args.text.now in
    found_has (λ (found : Piece × ℕ). Stands found.0 (take found.1 text) (drop found.1 text)) c.piece_at.result (piece_at text) (piece_at-stands text c.requires) c.piece_at.ensures
