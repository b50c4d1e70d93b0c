-- A text is read in one way.
use Rattle.std.proofs.Common.{◌≡◌, ℕ, zero, suc, ◌-◌, ◌<◌, ◌≤◌, List, [], ◌∷◌, ◌++◌, length, take, drop, Result, Ok, Err, refl, sym, ◌∙◌, ap, inl, inr, arith}
use Rattle.std.proofs.lemmas.List.{take_at, drop_at, length-append}
use Rattle.cc_base.specs.declared.names.Place.{Place}
use Rattle.cc_lex.specs.Pieces.{Stands}
use Rattle.cc_lex.specs.Reading.{piece_at}
use Rattle.cc_lex.specs.Spells.{Reads, whole, space, comment, token, faulty, after, Ending, Whole, Faulty, Spells, FirstFault, too_long, at_piece, Lexes, Gives, longest_text}
use Rattle.cc_lex.specs.TokenList.{TokenList}
use Rattle.cc_lex.specs.declared.fault.LexError.{LexError}
use Rattle.cc_lex.specs.declared.fault.LexError.TheVariants as error
use Rattle.cc_lex.specs.declared.fault.LexKind.{LexKind}
use Rattle.cc_lex.specs.declared.piece.Piece.{Piece}
use Rattle.cc_lex.specs.declared.piece.Piece.TheVariants as piece
use Rattle.cc_lex.specs.declared.token.Token.{Token}
use Rattle.cc_lex.proofs.Fits.{is-some}
use Rattle.cc_lex.proofs.Standing.{stands-piece_at}

-- tokens, the place of the end, and what the end is
abbrev Read : Type 0
Read = List Token × Place × Ending

abbrev next : (Place → List ℕ → Read) → Piece × ℕ → Place → List ℕ → Read
next go (piece.Space, n) at text = go (after at (take n text)) (drop n text)
next go (piece.Comment, n) at text = go (after at (take n text)) (drop n text)
next go (piece.Token what, n) at text = let read = go (after at (take n text)) (drop n text) in (record { place = at; what = what } ∷ read.0, read.1, read.2)
next go (piece.Fault kind, n) at text = ([], at, Faulty kind)

-- the text as it is read, in so many pieces at most
reading : ℕ → Place → List ℕ → Read
reading fuel at [] = ([], at, Whole)
reading zero at (b ∷ bytes) = ([], at, Whole)
reading (suc fuel) at (b ∷ bytes) = next (reading fuel) (piece_at (b ∷ bytes)) at (b ∷ bytes)

step : (fuel : ℕ) (at : Place) (text : List ℕ) → 0 < length text → 0 < fuel → reading fuel at text ≡ next (reading (fuel - 1)) (piece_at text) at text
unfolding reading
step fuel at [] h k = absurd (omega arith)
step zero at (b ∷ bytes) h k = absurd (omega arith)
step (suc fuel) at (b ∷ bytes) h k = let e : suc fuel - 1 ≡ fuel = omega arith in rw e refl

step_to : (fuel : ℕ) (at : Place) (bytes rest : List ℕ) (x : Piece) → Stands x bytes rest → length (bytes ++ rest) ≤ fuel
    → reading fuel at (bytes ++ rest) ≡ next (reading (fuel - 1)) (x, length bytes) at (bytes ++ rest)
step_to fuel at bytes rest x s h =
    let some : 0 < length bytes = is-some x bytes s.0 in
    step fuel at (bytes ++ rest) (omega (arith, length-append bytes rest)) (omega (arith, length-append bytes rest))
    ∙ ap (λ (found : Piece × ℕ). next (reading (fuel - 1)) found at (bytes ++ rest)) (stands-piece_at x bytes rest s some)

behind : (fuel : ℕ) (at : Place) (bytes rest : List ℕ) → reading fuel (after at (take (length bytes) (bytes ++ rest))) (drop (length bytes) (bytes ++ rest)) ≡ reading fuel (after at bytes) rest
behind fuel at bytes rest = rw (take_at bytes rest (length bytes) refl, drop_at bytes rest (length bytes) refl) refl

shorter : (fuel : ℕ) (x : Piece) (bytes rest : List ℕ) → Stands x bytes rest → length (bytes ++ rest) ≤ fuel → length rest ≤ fuel - 1
shorter fuel x bytes rest s h = omega (arith, length-append bytes rest, is-some x bytes s.0)

-- what is read is what is computed
reads-reading : {at end : Place} {text : List ℕ} {tokens : List Token} {ending : Ending} → Reads at text tokens end ending → (fuel : ℕ) → length text ≤ fuel
    → ◌≡◌ {A = Read} (reading fuel at text) (tokens, end, ending)
unfolding reading
reads-reading whole fuel h = refl
reads-reading (faulty {at = at} kind bytes rest s) fuel h = step_to fuel at bytes rest (piece.Fault kind) s h
reads-reading (space {at = at} bytes rest s r) fuel h =
    step_to fuel at bytes rest piece.Space s h ∙ behind (fuel - 1) at bytes rest ∙ reads-reading r (fuel - 1) (shorter fuel piece.Space bytes rest s h)
reads-reading (comment {at = at} bytes rest s r) fuel h =
    step_to fuel at bytes rest piece.Comment s h ∙ behind (fuel - 1) at bytes rest ∙ reads-reading r (fuel - 1) (shorter fuel piece.Comment bytes rest s h)
reads-reading (token {at = at} what bytes rest s r) fuel h =
    step_to fuel at bytes rest (piece.Token what) s h
    ∙ ap (λ (read : Read). let more : Read = (record { place = at; what = what } ∷ read.0, read.1, read.2) in more) (behind (fuel - 1) at bytes rest ∙ reads-reading r (fuel - 1) (shorter fuel (piece.Token what) bytes rest s h))

pub one_reading : {at : Place} {text : List ℕ} {ts us : List Token} {p q : Place} {e f : Ending} → Reads at text ts p e → Reads at text us q f → ◌≡◌ {A = Read} (ts, p, e) (us, q, f)
one_reading {text = text} r s = sym (reads-reading r (length text) (omega arith)) ∙ reads-reading s (length text) (omega arith)

-- two token lists that spell one text are one list
pub one_spelling : (text : List ℕ) (a b : TokenList) → Spells text a → Spells text b → a ≡ b
one_spelling text a b r s = ap (λ (x : Read). let list : TokenList = record { tokens = x.0; end = x.1 } in list) (one_reading r s)

-- a text that tokens spell has no fault
pub no_fault : (text : List ℕ) (list : TokenList) (place : Place) (kind : LexKind) → length text ≤ longest_text → Spells text list → FirstFault text place kind → ⊥
no_fault text list place kind h s (too_long long) = omega arith
no_fault text list place kind h s (at_piece tokens short r) =
    let same : Whole ≡ Faulty kind = ap (λ (x : Read). x.2) (one_reading s r) in
    cc

-- the first fault is one fault
pub one_fault : (text : List ℕ) (p q : Place) (k l : LexKind) → FirstFault text p k → FirstFault text q l → (p ≡ q) × (k ≡ l)
one_fault text p q k l (too_long long) (too_long longer) = (refl, refl)
one_fault text p q k l (too_long long) (at_piece us short s) = absurd (omega arith)
one_fault text p q k l (at_piece ts short r) (too_long long) = absurd (omega arith)
one_fault text p q k l (at_piece ts short r) (at_piece us small s) =
    let same : Faulty k ≡ Faulty l = ap (λ (x : Read). x.2) (one_reading r s) in
    (ap (λ (x : Read). x.1) (one_reading r s), cc)

-- ---- what was answered is the one answer

pub gives_tokens : (text : List ℕ) (result : Result TokenList LexError) → Lexes text result → (list : TokenList) → length text ≤ longest_text → Spells text list → Gives result (Ok list)
gives_tokens text (Ok found) h list short s = inl (ap (λ (x : TokenList). let r : Result TokenList LexError = Ok x in r) (one_spelling text found list h.1 s))
gives_tokens text (Err (error.Fault place kind)) h list short s = absurd (no_fault text list place kind short s h)
gives_tokens text (Err error.Memory) h list short s = inr refl

pub gives_fault : (text : List ℕ) (result : Result TokenList LexError) → Lexes text result → (place : Place) (kind : LexKind) → FirstFault text place kind → Gives result (Err (error.Fault place kind))
gives_fault text (Ok found) h place kind f = absurd (no_fault text found place kind h.0 h.1 f)
gives_fault text (Err (error.Fault place' kind')) h place kind f =
    let same : (place' ≡ place) × (kind' ≡ kind) = one_fault text place' place kind' kind h f in
    inl (rw (same.0, same.1) refl)
gives_fault text (Err error.Memory) h place kind f = inr refl
