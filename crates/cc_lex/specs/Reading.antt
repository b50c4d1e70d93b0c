-- The piece at the front of a text and its length, as it is computed.
use Rattle.std.specs.Prelude.{ℕ, suc, pos, ◌+◌, Bool, true, false, ◌||◌, ◌&&◌, ◌==◌, nat_le, if◌then◌else◌, List, [], ◌∷◌, take, drop, Option, Some, None}
use Rattle.cc_lex.specs.Bytes.{is_space, is_letter, is_digit, is_word_byte, is_in_line, is_digit_in, value_of, is_plain_character, is_plain_in_string, escape}
use Rattle.cc_lex.specs.Pieces.{greatest_number, size_of}
use Rattle.cc_lex.specs.Words.{reserved_word}
use Rattle.cc_lex.specs.declared.fault.LexKind.TheVariants as fault
use Rattle.cc_lex.specs.declared.piece.Piece.{Piece}
use Rattle.cc_lex.specs.declared.piece.Piece.TheVariants as piece
use Rattle.cc_lex.specs.declared.token.Mark.{Mark}
use Rattle.cc_lex.specs.declared.token.Mark.TheVariants as mark
use Rattle.cc_lex.specs.declared.token.What.TheVariants as what
use Rattle.cc_lex.specs.declared.token.Word.{Word}

-- how many bytes at the front pass a test
abbrev pub run : (ℕ → Bool) → List ℕ → ℕ
run test [] = 0
run test (b ∷ bytes) = if test b then suc (run test bytes) else 0

-- ---- words

abbrev pub word_or_name : Option Word → List ℕ → Piece
word_or_name None bytes = piece.Token (what.Name bytes)
word_or_name (Some word) bytes = piece.Token (what.Word word)

unfoldable pub word_at : List ℕ → Piece × ℕ
word_at text =
    let len = run is_word_byte text in
    let bytes = take len text in
    (word_or_name (reserved_word bytes) bytes, len)

-- ---- numbers

-- a number that is not too large
unfoldable pub bounded : ℕ → Option ℕ
bounded n = if nat_le n greatest_number then Some n else None

abbrev pub number : Option ℕ → Bool → Piece
number None long = piece.Fault fault.NumberTooLarge
number (Some n) long = piece.Token (what.Number (pos n) (size_of n long))

-- digits, and what stands after them: nothing, or l (108) or L (76)
abbrev pub suffixed : ℕ → List ℕ → Piece
suffixed n [] = number (bounded n) false
suffixed n (b ∷ []) = if b == 108 || b == 76 then number (bounded n) true else piece.Fault fault.BadNumber
suffixed n (b ∷ c ∷ _) = piece.Fault fault.BadNumber

unfoldable pub numeral : ℕ → List ℕ → Piece
numeral base bytes =
    let len = run (is_digit_in base) bytes in
    suffixed (value_of base (take len bytes)) (drop len bytes)

abbrev pub hexadecimal : List ℕ → Piece
hexadecimal [] = piece.Fault fault.BadNumber
hexadecimal (d ∷ digits) = if is_digit_in 16 d then numeral 16 (d ∷ digits) else piece.Fault fault.BadNumber

-- what stands behind a 0: x (120) or X (88), or octal digits
abbrev pub from_zero : List ℕ → Piece
from_zero [] = numeral 8 []
from_zero (x ∷ digits) = if x == 120 || x == 88 then hexadecimal digits else numeral 8 (x ∷ digits)

-- what a run of letters, digits and _ from a digit on spells, by whether it begins with 0 (48)
unfoldable pub number_of : List ℕ → Piece
number_of [] = piece.Fault fault.BadNumber
number_of (d ∷ digits) = if d == 48 then from_zero digits else numeral 10 (d ∷ digits)

unfoldable pub number_at : List ℕ → Piece × ℕ
number_at text =
    let len = run is_word_byte text in
    (number_of (take len text), len)

-- ---- characters and strings, behind the opening quote: 39 is ', 34 is " and 92 is \

abbrev pub bad_character : Piece × ℕ
bad_character = (piece.Fault fault.BadCharacter, 1)

abbrev pub escaped_character : Option ℕ → List ℕ → Piece × ℕ
escaped_character None rest = bad_character
escaped_character (Some b) [] = bad_character
escaped_character (Some b) (c ∷ _) = if c == 39 then (piece.Token (what.Character b), 4) else bad_character

unfoldable pub character_at : List ℕ → Piece × ℕ
character_at [] = bad_character
character_at (a ∷ []) = bad_character
character_at (a ∷ b ∷ rest) =
    if a == 92 then escaped_character (escape b) rest
    else (if is_plain_character a && b == 39 then (piece.Token (what.Character a), 3) else bad_character)

abbrev pub escaped_byte : Option ℕ → Option (ℕ × ℕ)
escaped_byte None = None
escaped_byte (Some b) = Some (b, 2)

-- the byte that the bytes at the front stand for as a part of a string, and how many they are
abbrev pub string_byte : List ℕ → Option (ℕ × ℕ)
string_byte [] = None
string_byte (a ∷ []) = if is_plain_in_string a then Some (a, 1) else None
string_byte (a ∷ b ∷ _) = if a == 92 then escaped_byte (escape b) else (if is_plain_in_string a then Some (a, 1) else None)

-- a byte that more bytes stand for, before others
abbrev pub in_front : Option ℕ → ℕ → List ℕ × ℕ → List ℕ × ℕ
in_front None n found = ([], 0)
in_front (Some b) n found = (b ∷ found.0, n + found.1)

-- what the bytes at the front stand for as parts of a string, and how many they are
abbrev pub inside : List ℕ → List ℕ × ℕ
inside [] = ([], 0)
inside (a ∷ []) = if is_plain_in_string a then (a ∷ [], 1) else ([], 0)
inside (a ∷ b ∷ rest) =
    if a == 92 then in_front (escape b) 2 (inside rest)
    else (if is_plain_in_string a then in_front (Some a) 1 (inside (b ∷ rest)) else ([], 0))

abbrev pub closed_string : List ℕ × ℕ → List ℕ → Piece × ℕ
closed_string found [] = (piece.Fault fault.BadString, 1)
closed_string found (b ∷ _) = if b == 34 then (piece.Token (what.String found.0), found.1 + 2) else (piece.Fault fault.BadString, 1)

unfoldable pub string_at : List ℕ → Piece × ℕ
string_at text = let found = inside text in closed_string found (drop found.1 text)

-- ---- marks and comments

-- the mark of one byte
abbrev pub mark_of : ℕ → Option Mark
mark_of b =
    if b == 40 then Some mark.OpenParenthesis
    else (if b == 41 then Some mark.CloseParenthesis
    else (if b == 123 then Some mark.OpenBrace
    else (if b == 125 then Some mark.CloseBrace
    else (if b == 91 then Some mark.OpenBracket
    else (if b == 93 then Some mark.CloseBracket
    else (if b == 59 then Some mark.Semicolon
    else (if b == 44 then Some mark.Comma
    else (if b == 46 then Some mark.Dot
    else (if b == 58 then Some mark.Colon
    else (if b == 63 then Some mark.Question
    else (if b == 61 then Some mark.Assign
    else (if b == 43 then Some mark.Plus
    else (if b == 45 then Some mark.Minus
    else (if b == 42 then Some mark.Star
    else (if b == 47 then Some mark.Slash
    else (if b == 37 then Some mark.Percent
    else (if b == 60 then Some mark.Less
    else (if b == 62 then Some mark.Greater
    else (if b == 33 then Some mark.Not else None)))))))))))))))))))

-- the mark of a byte and =, 61, behind it
abbrev pub mark_with_equal : ℕ → Option Mark
mark_with_equal b =
    if b == 60 then Some mark.LessEqual
    else (if b == 62 then Some mark.GreaterEqual
    else (if b == 61 then Some mark.Equal
    else (if b == 33 then Some mark.NotEqual
    else (if b == 43 then Some mark.PlusAssign
    else (if b == 45 then Some mark.MinusAssign
    else (if b == 42 then Some mark.StarAssign
    else (if b == 47 then Some mark.SlashAssign
    else (if b == 37 then Some mark.PercentAssign else None))))))))

-- the mark of a byte that stands twice
abbrev pub mark_twice : ℕ → Option Mark
mark_twice b =
    if b == 38 then Some mark.And
    else (if b == 124 then Some mark.Or
    else (if b == 43 then Some mark.Increment
    else (if b == 45 then Some mark.Decrement else None)))

-- the mark of two bytes
unfoldable pub mark_of_two : ℕ → ℕ → Option Mark
mark_of_two a b = if b == 61 then mark_with_equal a else (if a == b then mark_twice a else None)

abbrev pub short_mark : Option Mark → Piece × ℕ
short_mark None = (piece.Fault fault.NoToken, 1)
short_mark (Some m) = (piece.Token (what.Mark m), 1)

abbrev pub long_mark : Option Mark → ℕ → Piece × ℕ
long_mark None b = short_mark (mark_of b)
long_mark (Some m) b = (piece.Token (what.Mark m), 2)

-- a mark that begins with this byte, before these
unfoldable pub mark_at : ℕ → List ℕ → Piece × ℕ
mark_at b [] = short_mark (mark_of b)
mark_at b (c ∷ _) = long_mark (mark_of_two b c) b

abbrev pub further : ℕ → Option ℕ → Option ℕ
further n None = None
further n (Some m) = Some (n + m)

-- how many bytes there are up to the first */, and with it: 42 is * and 47 is /
abbrev pub comment_len : List ℕ → Option ℕ
comment_len [] = None
comment_len (a ∷ []) = None
comment_len (a ∷ b ∷ rest) = if a == 42 && b == 47 then Some 2 else further 1 (comment_len (b ∷ rest))

abbrev pub comment : Option ℕ → Piece × ℕ
comment None = (piece.Fault fault.OpenComment, 2)
comment (Some n) = (piece.Comment, n + 2)

-- what stands behind a /, 47
unfoldable pub slash_at : List ℕ → Piece × ℕ
slash_at [] = mark_at 47 []
slash_at (b ∷ rest) =
    if b == 47 then (piece.Comment, run is_in_line rest + 2)
    else (if b == 42 then comment (comment_len rest) else mark_at 47 (b ∷ rest))

-- ---- pieces

unfoldable pub piece_at : List ℕ → Piece × ℕ
piece_at [] = (piece.Fault fault.NoToken, 0)
piece_at (b ∷ rest) =
    if is_space b then (piece.Space, 1)
    else (if is_letter b then word_at (b ∷ rest)
    else (if is_digit b then number_at (b ∷ rest)
    else (if b == 39 then character_at rest
    else (if b == 34 then string_at rest
    else (if b == 47 then slash_at rest
    else mark_at b rest)))))
