-- What stands at the front of a text is found, or something longer.
use Rattle.std.proofs.Common.{◌≡◌, ℕ, suc, ◌+◌, ◌<◌, true, false, cond, eqb, List, [], ◌∷◌, ◌++◌, length, Option, Some, None, refl, sym, ◌∙◌, ap, subst, inl, inr, arith}
use Rattle.std.proofs.lemmas.Bool.{ne_eqb, false_from_ne_true}
use Rattle.std.proofs.lemmas.Bool.Decides.{nat_tests}
use Rattle.std.proofs.lemmas.List.{append_assoc, length-append}
use Rattle.cc_lex.specs.Bytes.{is_space, is_letter, is_digit, is_in_line, is_plain_character, is_plain_in_string, all}
use Rattle.cc_lex.specs.Pieces.{Is, Begins, IsWord, IsDigitRun, IsOpen, StandsFor, StandFor, spelling}
use Rattle.cc_lex.specs.Reading.{run, piece_at, word_at, word_or_name, number_at, number_of, character_at, string_at, slash_at, mark_at, mark_of, mark_of_two, short_mark, comment, comment_len}
use Rattle.cc_lex.specs.Words.{reserved_word}
use Rattle.cc_lex.specs.declared.fault.LexKind.{LexKind}
use Rattle.cc_lex.specs.declared.fault.LexKind.TheVariants as fault
use Rattle.cc_lex.specs.declared.piece.Piece.{Piece}
use Rattle.cc_lex.specs.declared.piece.Piece.TheVariants as piece
use Rattle.cc_lex.specs.declared.token.Mark.{Mark}
use Rattle.cc_lex.specs.declared.token.Mark.TheVariants as mark
use Rattle.cc_lex.specs.declared.token.What.{What}
use Rattle.cc_lex.specs.declared.token.What.TheVariants as what
use Rattle.cc_lex.proofs.Comments.{comment_len-is, open-reaches, line-reaches}
use Rattle.cc_lex.proofs.Numerals.{eqb_not, number_of-is, number_of-bad, number_reaches, number-run}
use Rattle.cc_lex.proofs.Runs.{Reaches, word_reaches, reserved-IsWord}
use Rattle.cc_lex.proofs.Spellings.{mark_of-spelling, mark_at-reaches, mark_at-two}
use Rattle.cc_lex.proofs.Steps.{bounded-small, bounded-large}
use Rattle.cc_lex.proofs.Strings.{character_at-is, bad_character-reaches, string_at-is, bad_string-reaches}

-- ---- by the first byte

at_space : (b : ℕ) (rest : List ℕ) → is_space b ≡ true → ◌≡◌ {A = Piece × ℕ} (piece_at (b ∷ rest)) (piece.Space, 1)
unfolding piece_at
at_space b rest h = rw h refl

letter_space : (b : ℕ) → is_letter b ≡ true → is_space b ≡ false
letter_space b h =
    rw (eqb_not is_letter b 32 h refl, eqb_not is_letter b 9 h refl, eqb_not is_letter b 10 h refl, eqb_not is_letter b 13 h refl, eqb_not is_letter b 11 h refl, eqb_not is_letter b 12 h refl) refl

at_letter : (b : ℕ) (rest : List ℕ) → is_letter b ≡ true → piece_at (b ∷ rest) ≡ word_at (b ∷ rest)
unfolding piece_at
at_letter b rest h = rw (letter_space b h, h) refl

digit_space : (b : ℕ) → is_digit b ≡ true → is_space b ≡ false
digit_space b h =
    rw (eqb_not is_digit b 32 h refl, eqb_not is_digit b 9 h refl, eqb_not is_digit b 10 h refl, eqb_not is_digit b 13 h refl, eqb_not is_digit b 11 h refl, eqb_not is_digit b 12 h refl) refl

letter_no_digit : (b : ℕ) → is_letter b ≡ true → is_digit b ≡ true → ⊥
letter_no_digit b e h = grind (arith, nat_tests)

at_digit : (b : ℕ) (rest : List ℕ) → is_digit b ≡ true → piece_at (b ∷ rest) ≡ number_at (b ∷ rest)
unfolding piece_at
at_digit b rest h =
    let letter : is_letter b ≡ false = false_from_ne_true (is_letter b) (λ e. letter_no_digit b e h) in
    rw (digit_space b h, letter, h) refl

at_character : (rest : List ℕ) → piece_at (39 ∷ rest) ≡ character_at rest
unfolding piece_at
at_character rest = refl

at_string : (rest : List ℕ) → piece_at (34 ∷ rest) ≡ string_at rest
unfolding piece_at
at_string rest = refl

at_slash : (rest : List ℕ) → piece_at (47 ∷ rest) ≡ slash_at rest
unfolding piece_at
at_slash rest = refl

at_line : (rest : List ℕ) → ◌≡◌ {A = Piece × ℕ} (piece_at (47 ∷ 47 ∷ rest)) (piece.Comment, run is_in_line rest + 2)
unfolding piece_at slash_at
at_line rest = refl

at_block : (rest : List ℕ) → piece_at (47 ∷ 42 ∷ rest) ≡ comment (comment_len rest)
unfolding piece_at slash_at
at_block rest = refl

-- ---- comments, characters and strings

comment-long : (o : Option ℕ) → 1 < (comment o).1
comment-long None = omega arith
comment-long (Some n) = omega arith

line_found : (inside rest : List ℕ) → all is_in_line inside ≡ true → Reaches piece.Comment (length (47 ∷ 47 ∷ inside)) (piece_at (47 ∷ 47 ∷ inside ++ rest))
line_found inside rest h =
    let len : length inside + 2 ≡ suc (suc (length inside)) = omega arith in
    rw (at_line (inside ++ rest)) (subst (λ (n : ℕ). Reaches piece.Comment n (piece.Comment, run is_in_line (inside ++ rest) + 2)) len (line-reaches inside rest h))

block_found : (inside rest : List ℕ) → IsOpen inside → Reaches piece.Comment (length (47 ∷ 42 ∷ (inside ++ 42 ∷ 47 ∷ []))) (piece_at (47 ∷ 42 ∷ (inside ++ 42 ∷ 47 ∷ []) ++ rest))
block_found inside rest h =
    let len : length inside + 2 + 2 ≡ suc (suc (length (inside ++ 42 ∷ 47 ∷ []))) = omega (arith, length-append inside (42 ∷ 47 ∷ [])) in
    let same : (inside ++ 42 ∷ 47 ∷ []) ++ rest ≡ inside ++ 42 ∷ 47 ∷ rest = append_assoc inside (42 ∷ 47 ∷ []) rest in
    inl (at_block ((inside ++ 42 ∷ 47 ∷ []) ++ rest) ∙ ap (λ (t : List ℕ). comment (comment_len t)) same ∙ ap comment (comment_len-is inside rest h) ∙ ap (λ (n : ℕ). let f : Piece × ℕ = (piece.Comment, n) in f) len)

-- the bytes between two quotes
quoted : (quote : ℕ) (inside rest : List ℕ) → (inside ++ quote ∷ []) ++ rest ≡ inside ++ quote ∷ rest
quoted quote inside rest = append_assoc inside (quote ∷ []) rest

quoted_len : (quote : ℕ) (inside : List ℕ) → length inside + 2 ≡ length (quote ∷ (inside ++ quote ∷ []))
quoted_len quote inside = omega (arith, length-append inside (quote ∷ []))

character_found : (b : ℕ) (inside bytes rest : List ℕ) → bytes ≡ 39 ∷ (inside ++ 39 ∷ []) → StandsFor is_plain_character inside b
    → Reaches (piece.Token (what.Character b)) (length bytes) (piece_at (bytes ++ rest))
character_found b inside bytes rest e s =
    rw e (inl (at_character ((inside ++ 39 ∷ []) ++ rest) ∙ ap character_at (quoted 39 inside rest) ∙ character_at-is inside b rest s
    ∙ ap (λ (n : ℕ). let f : Piece × ℕ = (piece.Token (what.Character b), n) in f) (quoted_len 39 inside)))

string_found : (string inside bytes rest : List ℕ) → bytes ≡ 34 ∷ (inside ++ 34 ∷ []) → StandFor is_plain_in_string inside string
    → Reaches (piece.Token (what.String string)) (length bytes) (piece_at (bytes ++ rest))
string_found string inside bytes rest e s =
    rw e (inl (at_string ((inside ++ 34 ∷ []) ++ rest) ∙ ap string_at (quoted 34 inside rest) ∙ string_at-is inside string rest s
    ∙ ap (λ (n : ℕ). let f : Piece × ℕ = (piece.Token (what.String string), n) in f) (quoted_len 34 inside)))

-- a byte that begins nothing
no_mark_found : (b : ℕ) → (Begins b → ⊥) → (o : Option Mark) → mark_of b ≡ o → ◌≡◌ {A = Piece × ℕ} (short_mark o) (piece.Fault fault.NoToken, 1)
no_mark_found b h None e = refl
no_mark_found b h (Some m) e = absurd (h (inr (inr (inr (inr (inr (m, mark_of-spelling b m e)))))))

at_mark : (b : ℕ) (rest : List ℕ) → (Begins b → ⊥) → piece_at (b ∷ rest) ≡ mark_at b rest
unfolding piece_at
at_mark b rest h =
    let space : is_space b ≡ false = false_from_ne_true (is_space b) (λ e. h (inl e)) in
    let letter : is_letter b ≡ false = false_from_ne_true (is_letter b) (λ e. h (inr (inl e))) in
    let digit : is_digit b ≡ false = false_from_ne_true (is_digit b) (λ e. h (inr (inr (inl e)))) in
    let single : eqb b 39 ≡ false = ne_eqb b 39 (λ e. h (inr (inr (inr (inl e))))) in
    let double : eqb b 34 ≡ false = ne_eqb b 34 (λ e. h (inr (inr (inr (inr (inl e)))))) in
    let slash : eqb b 47 ≡ false = ne_eqb b 47 (λ e. h (inr (inr (inr (inr (inr (mark.Slash, ap (λ (x : ℕ). x ∷ []) (sym e)))))))) in
    rw (space, letter, digit, single, double, slash) refl

nothing_found : (b : ℕ) (rest : List ℕ) → (Begins b → ⊥) → Reaches (piece.Fault fault.NoToken) 1 (piece_at (b ∷ rest))
nothing_found b rest h = rw (at_mark b rest h) (mark_at-reaches (piece.Fault fault.NoToken) b rest (no_mark_found b h (mark_of b) refl))

-- ---- words and numbers

word_found : (x : Piece) (bytes rest : List ℕ) → IsWord bytes → word_or_name (reserved_word bytes) bytes ≡ x → Reaches x (length bytes) (piece_at (bytes ++ rest))
word_found x [] rest h e = absurd h.0
word_found x (b ∷ bytes) rest h e = rw (at_letter b (bytes ++ rest) h.0) (word_reaches x (b ∷ bytes) rest h.1 e)

run_found : (x : Piece) (bytes rest : List ℕ) → IsDigitRun bytes → number_of bytes ≡ x → Reaches x (length bytes) (piece_at (bytes ++ rest))
run_found x [] rest h e = absurd h.0
run_found x (b ∷ bytes) rest h e = rw (at_digit b (bytes ++ rest) h.0) (number_reaches x (b ∷ bytes) rest h.1 e)

-- ---- marks

slash-reaches : (rest : List ℕ) → Reaches (piece.Token (what.Mark mark.Slash)) 1 (slash_at rest)
unfolding slash_at
slash-reaches [] = mark_at-reaches (piece.Token (what.Mark mark.Slash)) 47 [] refl
slash-reaches (c ∷ rest) =
    elim (eqb c 47) as (λ s. Reaches (piece.Token (what.Mark mark.Slash)) 1 (cond s (piece.Comment, run is_in_line rest + 2) (cond (eqb c 42) (comment (comment_len rest)) (mark_at 47 (c ∷ rest))))) [
      | true ↦ inr (omega arith)
      | false ↦ elim (eqb c 42) as (λ t. Reaches (piece.Token (what.Mark mark.Slash)) 1 (cond t (comment (comment_len rest)) (mark_at 47 (c ∷ rest)))) [
        | true ↦ inr (comment-long (comment_len rest))
        | false ↦ mark_at-reaches (piece.Token (what.Mark mark.Slash)) 47 (c ∷ rest) refl
      ]
    ]

slash_equal : (rest : List ℕ) → slash_at (61 ∷ rest) ≡ mark_at 47 (61 ∷ rest)
unfolding slash_at
slash_equal rest = refl

mark_found : (m : Mark) (rest : List ℕ) → Reaches (piece.Token (what.Mark m)) (length (spelling m)) (piece_at (spelling m ++ rest))
unfolding piece_at mark_of_two
mark_found mark.OpenParenthesis rest = mark_at-reaches (piece.Token (what.Mark mark.OpenParenthesis)) 40 rest refl
mark_found mark.CloseParenthesis rest = mark_at-reaches (piece.Token (what.Mark mark.CloseParenthesis)) 41 rest refl
mark_found mark.OpenBrace rest = mark_at-reaches (piece.Token (what.Mark mark.OpenBrace)) 123 rest refl
mark_found mark.CloseBrace rest = mark_at-reaches (piece.Token (what.Mark mark.CloseBrace)) 125 rest refl
mark_found mark.OpenBracket rest = mark_at-reaches (piece.Token (what.Mark mark.OpenBracket)) 91 rest refl
mark_found mark.CloseBracket rest = mark_at-reaches (piece.Token (what.Mark mark.CloseBracket)) 93 rest refl
mark_found mark.Semicolon rest = mark_at-reaches (piece.Token (what.Mark mark.Semicolon)) 59 rest refl
mark_found mark.Comma rest = mark_at-reaches (piece.Token (what.Mark mark.Comma)) 44 rest refl
mark_found mark.Dot rest = mark_at-reaches (piece.Token (what.Mark mark.Dot)) 46 rest refl
mark_found mark.Colon rest = mark_at-reaches (piece.Token (what.Mark mark.Colon)) 58 rest refl
mark_found mark.Question rest = mark_at-reaches (piece.Token (what.Mark mark.Question)) 63 rest refl
mark_found mark.Assign rest = mark_at-reaches (piece.Token (what.Mark mark.Assign)) 61 rest refl
mark_found mark.Plus rest = mark_at-reaches (piece.Token (what.Mark mark.Plus)) 43 rest refl
mark_found mark.Minus rest = mark_at-reaches (piece.Token (what.Mark mark.Minus)) 45 rest refl
mark_found mark.Star rest = mark_at-reaches (piece.Token (what.Mark mark.Star)) 42 rest refl
mark_found mark.Slash rest = slash-reaches rest
mark_found mark.Percent rest = mark_at-reaches (piece.Token (what.Mark mark.Percent)) 37 rest refl
mark_found mark.Less rest = mark_at-reaches (piece.Token (what.Mark mark.Less)) 60 rest refl
mark_found mark.Greater rest = mark_at-reaches (piece.Token (what.Mark mark.Greater)) 62 rest refl
mark_found mark.Not rest = mark_at-reaches (piece.Token (what.Mark mark.Not)) 33 rest refl
mark_found mark.LessEqual rest = inl (mark_at-two 60 61 mark.LessEqual rest refl)
mark_found mark.GreaterEqual rest = inl (mark_at-two 62 61 mark.GreaterEqual rest refl)
mark_found mark.Equal rest = inl (mark_at-two 61 61 mark.Equal rest refl)
mark_found mark.NotEqual rest = inl (mark_at-two 33 61 mark.NotEqual rest refl)
mark_found mark.PlusAssign rest = inl (mark_at-two 43 61 mark.PlusAssign rest refl)
mark_found mark.MinusAssign rest = inl (mark_at-two 45 61 mark.MinusAssign rest refl)
mark_found mark.StarAssign rest = inl (mark_at-two 42 61 mark.StarAssign rest refl)
mark_found mark.SlashAssign rest = inl (slash_equal rest ∙ mark_at-two 47 61 mark.SlashAssign rest refl)
mark_found mark.PercentAssign rest = inl (mark_at-two 37 61 mark.PercentAssign rest refl)
mark_found mark.And rest = inl (mark_at-two 38 38 mark.And rest refl)
mark_found mark.Or rest = inl (mark_at-two 124 124 mark.Or rest refl)
mark_found mark.Increment rest = inl (mark_at-two 43 43 mark.Increment rest refl)
mark_found mark.Decrement rest = inl (mark_at-two 45 45 mark.Decrement rest refl)

-- ---- tokens

token_found : (what : What) (bytes rest : List ℕ) → Is (piece.Token what) bytes → Reaches (piece.Token what) (length bytes) (piece_at (bytes ++ rest))
token_found (what.Name name) bytes rest h =
    word_found (piece.Token (what.Name name)) bytes rest h.1 (rw h.2 (ap (λ (xs : List ℕ). piece.Token (what.Name xs)) h.0))
token_found (what.Word word) bytes rest h = word_found (piece.Token (what.Word word)) bytes rest (reserved-IsWord bytes word h) (rw h refl)
token_found (what.Number value size) bytes rest (n, long, is, fits, v, s) =
    run_found (piece.Token (what.Number value size)) bytes rest (number-run is) (number_of-is is ∙ rw (bounded-small n fits, v, s) refl)
token_found (what.Character b) bytes rest (inside, e, s) = character_found b inside bytes rest e s
token_found (what.String string) bytes rest (inside, e, s) = string_found string inside bytes rest e s
token_found (what.Mark m) bytes rest h = rw h (mark_found m rest)

-- ---- faults

fault_found : (kind : LexKind) (bytes rest : List ℕ) → Is (piece.Fault kind) bytes → Reaches (piece.Fault kind) (length bytes) (piece_at (bytes ++ rest))
fault_found fault.TextTooLong bytes rest h = absurd h
fault_found fault.NoToken bytes rest (b, e, h) = rw e (nothing_found b rest h)
fault_found fault.BadNumber bytes rest h = run_found (piece.Fault fault.BadNumber) bytes rest h.0 (number_of-bad bytes h.0 h.1)
fault_found fault.NumberTooLarge bytes rest (n, long, is, large) =
    run_found (piece.Fault fault.NumberTooLarge) bytes rest (number-run is) (number_of-is is ∙ rw (bounded-large n large) refl)
fault_found fault.BadCharacter bytes rest h = rw (h, at_character rest) (bad_character-reaches rest)
fault_found fault.BadString bytes rest h = rw (h, at_string rest) (bad_string-reaches rest)
fault_found fault.OpenComment bytes rest h = rw (h, at_block rest) (open-reaches rest (comment_len rest) refl)

-- each piece is found where it stands, or a longer one
pub found : (x : Piece) (bytes rest : List ℕ) → Is x bytes → Reaches x (length bytes) (piece_at (bytes ++ rest))
found piece.Space bytes rest (b, e, h) = rw e (inl (at_space b rest h))
found piece.Comment bytes rest (inl (inside, e, h)) = rw e (line_found inside rest h)
found piece.Comment bytes rest (inr (inside, e, h)) = rw e (block_found inside rest h)
found (piece.Token what) bytes rest h = token_found what bytes rest h
found (piece.Fault kind) bytes rest h = fault_found kind bytes rest h
