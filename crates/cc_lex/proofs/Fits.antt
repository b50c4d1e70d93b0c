-- The piece that is computed stands at the front of a text, and no other does.
use Rattle.std.proofs.Common.{◌≡◌, ℕ, ◌+◌, ◌<◌, ◌≤◌, Bool, true, false, cond, eqb, List, [], ◌∷◌, length, take, None, refl, sym, ap, subst, inl, inr, arith}
use Rattle.std.proofs.lemmas.Bool.{eqb-true}
use Rattle.std.proofs.lemmas.List.{length-take-le}
use Rattle.cc_lex.specs.Bytes.{is_space, is_letter, is_digit, is_in_line}
use Rattle.cc_lex.specs.Pieces.{Is, Begins, StartsWith, spelling}
use Rattle.cc_lex.specs.Reading.{run, piece_at, word_at, number_at, character_at, string_at, slash_at, mark_at, mark_of, comment, comment_len}
use Rattle.cc_lex.specs.declared.fault.LexKind.{LexKind}
use Rattle.cc_lex.specs.declared.fault.LexKind.TheVariants as fault
use Rattle.cc_lex.specs.declared.piece.Piece.{Piece}
use Rattle.cc_lex.specs.declared.piece.Piece.TheVariants as piece
use Rattle.cc_lex.specs.declared.token.Mark.{Mark}
use Rattle.cc_lex.specs.declared.token.Mark.TheVariants as mark
use Rattle.cc_lex.specs.declared.token.What.{What}
use Rattle.cc_lex.specs.declared.token.What.TheVariants as what
use Rattle.cc_lex.proofs.Comments.{line-fits, block-fits}
use Rattle.cc_lex.proofs.Numerals.{number_at-fits, number-run}
use Rattle.cc_lex.proofs.Runs.{Fits, word_at-fits, reserved-IsWord}
use Rattle.cc_lex.proofs.Spellings.{no_mark, mark_at-fits}
use Rattle.cc_lex.proofs.Strings.{character_at-fits, string_at-fits}

-- ---- what is found fits

slash_mark : mark_of 47 ≡ None → ⊥
slash_mark e = cc

-- what stands at a byte that begins a mark at most
begins_none : (b : ℕ) → is_space b ≡ false → is_letter b ≡ false → is_digit b ≡ false → eqb b 39 ≡ false → eqb b 34 ≡ false → mark_of b ≡ None → Begins b → ⊥
begins_none b s l d q r none (inl h) = cc
begins_none b s l d q r none (inr (inl h)) = cc
begins_none b s l d q r none (inr (inr (inl h))) = cc
begins_none b s l d q r none (inr (inr (inr (inl h)))) = let e : eqb b 39 ≡ true = rw h refl in cc
begins_none b s l d q r none (inr (inr (inr (inr (inl h))))) = let e : eqb b 34 ≡ true = rw h refl in cc
begins_none b s l d q r none (inr (inr (inr (inr (inr (m, h)))))) = no_mark b m none h

slash-tests : (c : ℕ) (rest : List ℕ) (s t : Bool) → eqb c 47 ≡ s → eqb c 42 ≡ t
    → Fits (cond s (piece.Comment, run is_in_line rest + 2) (cond t (comment (comment_len rest)) (mark_at 47 (c ∷ rest)))) (47 ∷ c ∷ rest)
slash-tests c rest true t p q = subst (λ (x : ℕ). Fits (piece.Comment, run is_in_line rest + 2) (47 ∷ x ∷ rest)) (sym (eqb-true c 47 p)) (line-fits rest)
slash-tests c rest false true p q = subst (λ (x : ℕ). Fits (comment (comment_len rest)) (47 ∷ x ∷ rest)) (sym (eqb-true c 42 q)) (block-fits rest (comment_len rest) refl)
slash-tests c rest false false p q = mark_at-fits 47 (c ∷ rest) (λ none begins. absurd (slash_mark none))

slash-fits : (rest : List ℕ) → Fits (slash_at rest) (47 ∷ rest)
unfolding slash_at
slash-fits [] = mark_at-fits 47 [] (λ none begins. absurd (slash_mark none))
slash-fits (c ∷ rest) = slash-tests c rest (eqb c 47) (eqb c 42) refl refl

fits-mark : (b : ℕ) (rest : List ℕ) → is_space b ≡ false → is_letter b ≡ false → is_digit b ≡ false → eqb b 39 ≡ false → eqb b 34 ≡ false
    → (t : Bool) → eqb b 47 ≡ t → Fits (cond t (slash_at rest) (mark_at b rest)) (b ∷ rest)
fits-mark b rest s l d q r true e = subst (λ (x : ℕ). Fits (slash_at rest) (x ∷ rest)) (sym (eqb-true b 47 e)) (slash-fits rest)
fits-mark b rest s l d q r false e = mark_at-fits b rest (λ none begins. begins_none b s l d q r none begins)

fits-string : (b : ℕ) (rest : List ℕ) → is_space b ≡ false → is_letter b ≡ false → is_digit b ≡ false → eqb b 39 ≡ false
    → (t : Bool) → eqb b 34 ≡ t → Fits (cond t (string_at rest) (cond (eqb b 47) (slash_at rest) (mark_at b rest))) (b ∷ rest)
fits-string b rest s l d q true e = subst (λ (x : ℕ). Fits (string_at rest) (x ∷ rest)) (sym (eqb-true b 34 e)) (string_at-fits rest)
fits-string b rest s l d q false e = fits-mark b rest s l d q e (eqb b 47) refl

fits-character : (b : ℕ) (rest : List ℕ) → is_space b ≡ false → is_letter b ≡ false → is_digit b ≡ false
    → (t : Bool) → eqb b 39 ≡ t → Fits (cond t (character_at rest) (cond (eqb b 34) (string_at rest) (cond (eqb b 47) (slash_at rest) (mark_at b rest)))) (b ∷ rest)
fits-character b rest s l d true e = subst (λ (x : ℕ). Fits (character_at rest) (x ∷ rest)) (sym (eqb-true b 39 e)) (character_at-fits rest)
fits-character b rest s l d false e = fits-string b rest s l d e (eqb b 34) refl

-- what stands at a byte that is no white space, letter or digit
abbrev other_at : ℕ → List ℕ → Piece × ℕ
other_at b rest = cond (eqb b 39) (character_at rest) (cond (eqb b 34) (string_at rest) (cond (eqb b 47) (slash_at rest) (mark_at b rest)))

fits-tests : (b : ℕ) (rest : List ℕ) (s l d : Bool) → is_space b ≡ s → is_letter b ≡ l → is_digit b ≡ d
    → Fits (cond s (piece.Space, 1) (cond l (word_at (b ∷ rest)) (cond d (number_at (b ∷ rest)) (other_at b rest)))) (b ∷ rest)
fits-tests b rest true l d p q r = ((b, refl, p), omega arith)
fits-tests b rest false true d p q r = word_at-fits b rest q
fits-tests b rest false false true p q r = number_at-fits b rest r
fits-tests b rest false false false p q r = fits-character b rest p q r (eqb b 39) refl

pub piece_at-fits : (text : List ℕ) → 0 < length text → Fits (piece_at text) text
unfolding piece_at
piece_at-fits [] h = absurd (omega arith)
piece_at-fits (b ∷ rest) h = fits-tests b rest (is_space b) (is_letter b) (is_digit b) refl refl refl

pub piece_at-within : (text : List ℕ) → 0 < length text → (piece_at text).1 ≤ length text
piece_at-within text h = (piece_at-fits text h).1

-- ---- no piece is empty

starts_some : (test : ℕ → Bool) (bytes : List ℕ) → StartsWith test bytes → 0 < length bytes
starts_some test [] h = absurd h
starts_some test (b ∷ bytes) h = omega arith

spelling_some : (m : Mark) → 0 < length (spelling m)
spelling_some mark.OpenParenthesis = omega arith
spelling_some mark.CloseParenthesis = omega arith
spelling_some mark.OpenBrace = omega arith
spelling_some mark.CloseBrace = omega arith
spelling_some mark.OpenBracket = omega arith
spelling_some mark.CloseBracket = omega arith
spelling_some mark.Semicolon = omega arith
spelling_some mark.Comma = omega arith
spelling_some mark.Dot = omega arith
spelling_some mark.Colon = omega arith
spelling_some mark.Question = omega arith
spelling_some mark.Assign = omega arith
spelling_some mark.Plus = omega arith
spelling_some mark.Minus = omega arith
spelling_some mark.Star = omega arith
spelling_some mark.Slash = omega arith
spelling_some mark.Percent = omega arith
spelling_some mark.Less = omega arith
spelling_some mark.Greater = omega arith
spelling_some mark.Not = omega arith
spelling_some mark.LessEqual = omega arith
spelling_some mark.GreaterEqual = omega arith
spelling_some mark.Equal = omega arith
spelling_some mark.NotEqual = omega arith
spelling_some mark.PlusAssign = omega arith
spelling_some mark.MinusAssign = omega arith
spelling_some mark.StarAssign = omega arith
spelling_some mark.SlashAssign = omega arith
spelling_some mark.PercentAssign = omega arith
spelling_some mark.And = omega arith
spelling_some mark.Or = omega arith
spelling_some mark.Increment = omega arith
spelling_some mark.Decrement = omega arith

word_some : (what : What) (bytes : List ℕ) → Is (piece.Token what) bytes → 0 < length bytes
word_some (what.Name name) bytes h = starts_some is_letter bytes h.1.0
word_some (what.Word word) bytes h = starts_some is_letter bytes (reserved-IsWord bytes word h).0
word_some (what.Number value size) bytes h = starts_some is_digit bytes (number-run h.2).0
word_some (what.Character b) bytes h = omega (arith, ap length h.1)
word_some (what.String string) bytes h = omega (arith, ap length h.1)
word_some (what.Mark m) bytes h = rw h (spelling_some m)

fault_some : (kind : LexKind) (bytes : List ℕ) → Is (piece.Fault kind) bytes → 0 < length bytes
fault_some fault.TextTooLong bytes h = absurd h
fault_some fault.NoToken bytes h = omega (arith, ap length h.1)
fault_some fault.BadNumber bytes h = starts_some is_digit bytes h.0.0
fault_some fault.NumberTooLarge bytes h = starts_some is_digit bytes (number-run h.2).0
fault_some fault.BadCharacter bytes h = omega (arith, ap length h)
fault_some fault.BadString bytes h = omega (arith, ap length h)
fault_some fault.OpenComment bytes h = omega (arith, ap length h)

pub is-some : (x : Piece) (bytes : List ℕ) → Is x bytes → 0 < length bytes
is-some piece.Space bytes h = omega (arith, ap length h.1)
is-some piece.Comment bytes (inl h) = omega (arith, ap length h.1)
is-some piece.Comment bytes (inr h) = omega (arith, ap length h.1)
is-some (piece.Token what) bytes h = word_some what bytes h
is-some (piece.Fault kind) bytes h = fault_some kind bytes h

pub piece_at-some : (text : List ℕ) → 0 < length text → 0 < (piece_at text).1
piece_at-some text h =
    let fits : Fits (piece_at text) text = piece_at-fits text h in
    omega (arith, is-some (piece_at text).0 (take (piece_at text).1 text) fits.0, length-take-le (piece_at text).1 text fits.1)
