-- The pieces that a text is made of, each by the whole of its bytes: white space, comments, tokens, and faults, which
-- stand where no longer piece does.
use Rattle.std.specs.Prelude.{◌≡◌, ◌≢◌, ◌⊎◌, ℕ, pos, ◌<◌, ◌≤◌, Bool, true, false, ◌||◌, nat_lt, if◌then◌else◌, List, [], ◌∷◌, ◌++◌, length, Some, None, codes}
use Rattle.cc_lex.specs.Bytes.{is_space, is_letter, is_digit, is_word_byte, is_in_line, is_digit_in, value_of, is_plain_character, is_plain_in_string, escape, all}
use Rattle.cc_lex.specs.Words.{reserved_word}
use Rattle.cc_lex.specs.declared.fault.LexKind.{LexKind}
use Rattle.cc_lex.specs.declared.fault.LexKind.TheVariants as fault
use Rattle.cc_lex.specs.declared.piece.Piece.{Piece}
use Rattle.cc_lex.specs.declared.piece.Piece.TheVariants as piece
use Rattle.cc_lex.specs.declared.token.Mark.{Mark}
use Rattle.cc_lex.specs.declared.token.Mark.TheVariants as mark
use Rattle.cc_lex.specs.declared.token.Size.{Size}
use Rattle.cc_lex.specs.declared.token.Size.TheVariants as size
use Rattle.cc_lex.specs.declared.token.What.{What}
use Rattle.cc_lex.specs.declared.token.What.TheVariants as what

-- ---- words

-- the first byte passes a test
abbrev pub StartsWith : (ℕ → Bool) → List ℕ → Type 0
StartsWith test [] = ⊥
StartsWith test (b ∷ _) = test b ≡ true

-- a letter or _, and then letters, digits and _
abbrev pub IsWord : List ℕ → Type 0
IsWord bytes = StartsWith is_letter bytes × (all is_word_byte bytes ≡ true)

-- ---- numbers

-- nothing for a number without a suffix, l or L for one with it
abbrev pub IsSuffix : Bool → List ℕ → Type 0
IsSuffix false bytes = bytes ≡ []
IsSuffix true bytes = (bytes ≡ codes "l") ⊎ (bytes ≡ codes "L")

-- The bytes spell this number, with a suffix or without: 0 and octal digits, or decimal digits that do not begin with 0,
-- or 0x or 0X and hexadecimal digits, at least one. 48 is 0, 120 is x and 88 is X.
pub data IsNumber : List ℕ → ℕ → Bool → Type 0 where
  octal : (digits suffix : List ℕ) (long : Bool) → all (is_digit_in 8) digits ≡ true → IsSuffix long suffix
      → IsNumber (48 ∷ digits ++ suffix) (value_of 8 digits) long
  decimal : (d : ℕ) (digits suffix : List ℕ) (long : Bool) → d ≢ 48 → all (is_digit_in 10) (d ∷ digits) ≡ true → IsSuffix long suffix
      → IsNumber (d ∷ digits ++ suffix) (value_of 10 (d ∷ digits)) long
  hexadecimal : (x d : ℕ) (digits suffix : List ℕ) (long : Bool) → (x ≡ 120) ⊎ (x ≡ 88) → all (is_digit_in 16) (d ∷ digits) ≡ true → IsSuffix long suffix
      → IsNumber (48 ∷ x ∷ d ∷ digits ++ suffix) (value_of 16 (d ∷ digits)) long

abbrev pub greatest_number : ℕ
greatest_number = 9223372036854775807

-- a number is long by its suffix, or where it doesn't fit an int
abbrev pub size_of : ℕ → Bool → Size
size_of n long = if long || nat_lt 2147483647 n then size.Long else size.Int

-- from a digit on letters, digits and _
abbrev pub IsDigitRun : List ℕ → Type 0
IsDigitRun bytes = StartsWith is_digit bytes × (all is_word_byte bytes ≡ true)

-- ---- characters and strings

-- Bytes that stand for one byte: itself, or an escape, a \ (92) and a letter.
pub data StandsFor : (ℕ → Bool) → List ℕ → ℕ → Type 0 where
  plain : {test : ℕ → Bool} (b : ℕ) → test b ≡ true → StandsFor test (b ∷ []) b
  escaped : {test : ℕ → Bool} (e b : ℕ) → escape e ≡ Some b → StandsFor test (92 ∷ e ∷ []) b

-- Bytes that stand for bytes, part by part.
pub data StandFor : (ℕ → Bool) → List ℕ → List ℕ → Type 0 where
  none : {test : ℕ → Bool} → StandFor test [] []
  more : {test : ℕ → Bool} {front inside bytes : List ℕ} {b : ℕ} → StandsFor test front b → StandFor test inside bytes → StandFor test (front ++ inside) (b ∷ bytes)

-- ---- comments

-- no */ stands in these bytes
abbrev pub IsOpen : List ℕ → Type 0
IsOpen bytes = (before after : List ℕ) → ¬ (bytes ≡ before ++ (codes "*/" ++ after))

-- ---- marks

abbrev pub spelling : Mark → List ℕ
spelling mark.OpenParenthesis = codes "("
spelling mark.CloseParenthesis = codes ")"
spelling mark.OpenBrace = codes "{"
spelling mark.CloseBrace = codes "}"
spelling mark.OpenBracket = codes "["
spelling mark.CloseBracket = codes "]"
spelling mark.Semicolon = codes ";"
spelling mark.Comma = codes ","
spelling mark.Dot = codes "."
spelling mark.Colon = codes ":"
spelling mark.Question = codes "?"
spelling mark.Assign = codes "="
spelling mark.Plus = codes "+"
spelling mark.Minus = codes "-"
spelling mark.Star = codes "*"
spelling mark.Slash = codes "/"
spelling mark.Percent = codes "%"
spelling mark.Less = codes "<"
spelling mark.Greater = codes ">"
spelling mark.Not = codes "!"
spelling mark.LessEqual = codes "<="
spelling mark.GreaterEqual = codes ">="
spelling mark.Equal = codes "=="
spelling mark.NotEqual = codes "!="
spelling mark.And = codes "&&"
spelling mark.Or = codes "||"
spelling mark.Increment = codes "++"
spelling mark.Decrement = codes "--"
spelling mark.PlusAssign = codes "+="
spelling mark.MinusAssign = codes "-="
spelling mark.StarAssign = codes "*="
spelling mark.SlashAssign = codes "/="
spelling mark.PercentAssign = codes "%="

-- ---- pieces

-- What can stand at a place by its first byte alone: white space, a word, a number or its fault, a quote or its fault
-- (39 is ' and 34 is "), and a mark of one byte. & and | begin a mark only where they stand twice, and that mark is
-- longer than one byte.
abbrev pub Begins : ℕ → Type 0
Begins b =
    (is_space b ≡ true) ⊎ (is_letter b ≡ true) ⊎ (is_digit b ≡ true) ⊎ (b ≡ 39) ⊎ (b ≡ 34) ⊎ ((m : Mark) × (spelling m ≡ b ∷ []))

-- // and bytes of one line, or /* and bytes up to the first */
abbrev pub IsComment : List ℕ → Type 0
IsComment bytes =
    ((inside : List ℕ) × (bytes ≡ codes "//" ++ inside) × (all is_in_line inside ≡ true))
    ⊎ ((inside : List ℕ) × (bytes ≡ codes "/*" ++ inside ++ codes "*/") × IsOpen inside)

-- these bytes, the whole of them, spell this token
abbrev pub IsToken : What → List ℕ → Type 0
IsToken (what.Name name) bytes = (bytes ≡ name) × IsWord bytes × (reserved_word bytes ≡ None)
IsToken (what.Word word) bytes = reserved_word bytes ≡ Some word
IsToken (what.Number value size) bytes = (n : ℕ) × (long : Bool) × IsNumber bytes n long × (n ≤ greatest_number) × (value ≡ pos n) × (size ≡ size_of n long)
IsToken (what.Character b) bytes = (inside : List ℕ) × (bytes ≡ codes "'" ++ inside ++ codes "'") × StandsFor is_plain_character inside b
IsToken (what.String string) bytes = (inside : List ℕ) × (bytes ≡ codes "\"" ++ inside ++ codes "\"") × StandFor is_plain_in_string inside string
IsToken (what.Mark m) bytes = bytes ≡ spelling m

-- These bytes are wrong so, where nothing longer stands: a run from a digit on that spells no number or one that is too
-- large, a quote that begins no character or string, a /* that begins no comment, a byte that is nothing by itself.
abbrev pub IsFault : LexKind → List ℕ → Type 0
IsFault fault.BadNumber bytes = IsDigitRun bytes × ((n : ℕ) (long : Bool) → ¬ IsNumber bytes n long)
IsFault fault.NumberTooLarge bytes = (n : ℕ) × (long : Bool) × IsNumber bytes n long × (greatest_number < n)
IsFault fault.BadCharacter bytes = bytes ≡ codes "'"
IsFault fault.BadString bytes = bytes ≡ codes "\""
IsFault fault.OpenComment bytes = bytes ≡ codes "/*"
IsFault fault.NoToken bytes = (b : ℕ) × (bytes ≡ b ∷ []) × (¬ Begins b)
-- no piece is too long: that is a fault of the whole text
IsFault fault.TextTooLong bytes = ⊥

-- these bytes, the whole of them, are this piece
abbrev pub Is : Piece → List ℕ → Type 0
Is piece.Space bytes = (b : ℕ) × (bytes ≡ b ∷ []) × (is_space b ≡ true)
Is piece.Comment bytes = IsComment bytes
Is (piece.Token what) bytes = IsToken what bytes
Is (piece.Fault kind) bytes = IsFault kind bytes

-- The piece at the front of a text is these bytes, before this rest: no longer front of the text is a piece.
abbrev pub Stands : Piece → List ℕ → List ℕ → Type 0
Stands x bytes rest =
    Is x bytes × ((y : Piece) (more left : List ℕ) → rest ≡ more ++ left → 0 < length more → ¬ Is y (bytes ++ more))
