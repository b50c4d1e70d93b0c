-- Reading goes on behind the piece at the front.
use Rattle.std.proofs.Common.{◌≡◌, ◌⊎◌, ℕ, List, [], ◌∷◌, take, drop, subst, inl, inr}
use Rattle.std.proofs.lemmas.List.{take-append-drop}
use Rattle.cc_base.specs.declared.names.Place.{Place}
use Rattle.cc_lex.specs.Pieces.{Stands}
use Rattle.cc_lex.specs.Spells.{Reads, space, comment, token, faulty, after, Ending, Faulty}
use Rattle.cc_lex.specs.declared.fault.LexKind.{LexKind}
use Rattle.cc_lex.specs.declared.piece.Piece.{Piece}
use Rattle.cc_lex.specs.declared.piece.Piece.TheVariants as piece
use Rattle.cc_lex.specs.declared.token.Token.{Token}
use Rattle.cc_lex.specs.declared.token.What.{What}

pub reads_fault : (at : Place) (text : List ℕ) (n : ℕ) (kind : LexKind) → Stands (piece.Fault kind) (take n text) (drop n text) → Reads at text [] at (Faulty kind)
reads_fault at text n kind s = subst (λ (t : List ℕ). Reads at t [] at (Faulty kind)) (take-append-drop n text) (faulty kind (take n text) (drop n text) s)

pub reads_gap : (at : Place) (text : List ℕ) (n : ℕ) (x : Piece) → (x ≡ piece.Space) ⊎ (x ≡ piece.Comment) → Stands x (take n text) (drop n text)
    → (tokens : List Token) (end : Place) (ending : Ending) → Reads (after at (take n text)) (drop n text) tokens end ending → Reads at text tokens end ending
reads_gap at text n x (inl e) s tokens end ending r =
    subst (λ (t : List ℕ). Reads at t tokens end ending) (take-append-drop n text) (space (take n text) (drop n text) (subst (λ (y : Piece). Stands y (take n text) (drop n text)) e s) r)
reads_gap at text n x (inr e) s tokens end ending r =
    subst (λ (t : List ℕ). Reads at t tokens end ending) (take-append-drop n text) (comment (take n text) (drop n text) (subst (λ (y : Piece). Stands y (take n text) (drop n text)) e s) r)

pub reads_token : (at : Place) (text : List ℕ) (n : ℕ) (what : What) → Stands (piece.Token what) (take n text) (drop n text)
    → (tokens : List Token) (end : Place) (ending : Ending) → Reads (after at (take n text)) (drop n text) tokens end ending → Reads at text (record { place = at; what = what } ∷ tokens) end ending
reads_token at text n what s tokens end ending r =
    subst (λ (t : List ℕ). Reads at t (record { place = at; what = what } ∷ tokens) end ending) (take-append-drop n text) (token what (take n text) (drop n text) s r)
