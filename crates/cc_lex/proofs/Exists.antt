-- Each text is read.
use Rattle.std.proofs.Common.{ℕ, zero, suc, ◌≤◌, List, [], ◌∷◌, length, take, drop, refl, inl, inr, arith}
use Rattle.std.proofs.lemmas.List.{length-drop}
use Rattle.cc_base.specs.declared.names.Place.{Place}
use Rattle.cc_lex.specs.Pieces.{Stands}
use Rattle.cc_lex.specs.Reading.{piece_at}
use Rattle.cc_lex.specs.Spells.{Reads, Ending, Whole, Faulty, whole, after}
use Rattle.cc_lex.specs.declared.piece.Piece.{Piece}
use Rattle.cc_lex.specs.declared.piece.Piece.TheVariants as piece
use Rattle.cc_lex.specs.declared.token.Token.{Token}
use Rattle.cc_lex.proofs.Fits.{piece_at-some}
use Rattle.cc_lex.proofs.Standing.{piece_at-stands}
use Rattle.cc_lex.proofs.Readings.{reads_fault, reads_gap, reads_token}

-- from this place on the text is read
abbrev IsRead : Place → List ℕ → Type 0
IsRead at text = (tokens : List Token) × (end : Place) × (ending : Ending) × Reads at text tokens end ending

goes_on : (at : Place) (text : List ℕ) (n : ℕ) (x : Piece) → Stands x (take n text) (drop n text) → ((next : Place) → IsRead next (drop n text)) → IsRead at text
goes_on at text n piece.Space s rest =
    let r : IsRead (after at (take n text)) (drop n text) = rest (after at (take n text)) in
    (r.0, r.1, r.2, reads_gap at text n piece.Space (inl refl) s r.0 r.1 r.2 r.3)
goes_on at text n piece.Comment s rest =
    let r : IsRead (after at (take n text)) (drop n text) = rest (after at (take n text)) in
    (r.0, r.1, r.2, reads_gap at text n piece.Comment (inr refl) s r.0 r.1 r.2 r.3)
goes_on at text n (piece.Token what) s rest =
    let r : IsRead (after at (take n text)) (drop n text) = rest (after at (take n text)) in
    (record { place = at; what = what } ∷ r.0, r.1, r.2, reads_token at text n what s r.0 r.1 r.2 r.3)
goes_on at text n (piece.Fault kind) s rest = ([], at, Faulty kind, reads_fault at text n kind s)

pub is_read : (fuel : ℕ) (at : Place) (text : List ℕ) → length text ≤ fuel → IsRead at text
is_read fuel at [] h = ([], at, Whole, whole)
is_read zero at (b ∷ bytes) h = absurd (omega arith)
is_read (suc fuel) at (b ∷ bytes) h =
    let text : List ℕ = b ∷ bytes in
    let n = (piece_at text).1 in
    goes_on at text n (piece_at text).0 (piece_at-stands text (omega arith))
    (λ next. is_read fuel next (drop n text) (omega (arith, length-drop n text, piece_at-some text (omega arith))))
