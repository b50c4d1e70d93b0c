-- Kinds of bytes, and what digits are worth.
use Rattle.std.specs.Prelude.{ℕ, ◌+◌, ◌-◌, ◌*◌, Bool, true, not, ◌||◌, ◌&&◌, ◌==◌, nat_le, nat_lt, if◌then◌else◌, List, [], ◌∷◌, Option, Some, None}

-- space, tab, newline, carriage return, vertical tab, form feed
abbrev pub is_space : ℕ → Bool
is_space b = b == 32 || b == 9 || b == 10 || b == 13 || b == 11 || b == 12

-- a letter, a to z or A to Z, or _
abbrev pub is_letter : ℕ → Bool
is_letter b = (nat_le 97 b && nat_le b 122) || (nat_le 65 b && nat_le b 90) || b == 95

-- 0 to 9
abbrev pub is_digit : ℕ → Bool
is_digit b = nat_le 48 b && nat_le b 57

-- a letter, _ or a digit
abbrev pub is_word_byte : ℕ → Bool
is_word_byte b = is_letter b || is_digit b

-- a byte that ends no line
abbrev pub is_in_line : ℕ → Bool
is_in_line b = not (b == 10)

-- what a byte is worth as a digit, 0 to 9, a to f or A to F, and 16 where it is none
abbrev pub digit_of : ℕ → ℕ
digit_of b =
    if is_digit b then b - 48
    else (if nat_le 97 b && nat_le b 102 then b - 87
    else (if nat_le 65 b && nat_le b 70 then b - 55 else 16))

-- a digit of a base up to 16
abbrev pub is_digit_in : ℕ → ℕ → Bool
is_digit_in base b = nat_lt (digit_of b) base

-- what digits are worth behind a number
abbrev pub value_after : ℕ → ℕ → List ℕ → ℕ
value_after base before [] = before
value_after base before (d ∷ digits) = value_after base (before * base + digit_of d) digits

abbrev pub value_of : ℕ → List ℕ → ℕ
value_of base digits = value_after base 0 digits

-- what stands for itself in a character: 32 to 126 but for ' and \
abbrev pub is_plain_character : ℕ → Bool
is_plain_character b = nat_le 32 b && nat_le b 126 && not (b == 39) && not (b == 92)

-- what stands for itself in a string: 32 to 126 and 128 to 255, but for " and \
abbrev pub is_plain_in_string : ℕ → Bool
is_plain_in_string b = (nat_le 32 b && nat_le b 126 || nat_le 128 b && nat_le b 255) && not (b == 34) && not (b == 92)

-- what an escape stands for, by its letter
abbrev pub escape : ℕ → Option ℕ
escape b =
    -- \n is the newline
    if b == 110 then Some 10
    -- \t is the tab
    else (if b == 116 then Some 9
    -- \r is the carriage return
    else (if b == 114 then Some 13
    -- \0 is the byte 0
    else (if b == 48 then Some 0
    -- \\ and \' and \" are their letter
    else (if b == 92 || b == 39 || b == 34 then Some b else None))))

-- each byte passes a test
abbrev pub all : (ℕ → Bool) → List ℕ → Bool
all test [] = true
all test (b ∷ bytes) = test b && all test bytes
