-- What a run from a digit on spells.
use Rattle.std.proofs.Common.{◌≡◌, ◌≢◌, ◌⊎◌, ℕ, suc, ◌-◌, ◌<◌, ◌≤◌, Bool, true, false, ◌&&◌, ◌||◌, cond, eqb, leb, List, [], ◌∷◌, ◌++◌, length, take, drop, Option, Some, None, refl, sym, ◌∙◌, ap, subst, inl, inr, arith}
use Rattle.std.proofs.lemmas.Bool.{and_parts, or_cases, eqb-true, eqb-false, ne_eqb, le-ltb, ltb-true, cases_lt}
use Rattle.std.proofs.lemmas.Bool.Decides.{nat_tests}
use Rattle.std.proofs.lemmas.List.{take_at, drop_at, take-append-drop}
use Rattle.cc_lex.specs.Bytes.{is_digit, is_word_byte, is_digit_in, digit_of, value_of, all}
use Rattle.cc_lex.specs.Pieces.{Is, IsSuffix, IsNumber, octal, decimal, hexadecimal as hexadecimal', IsDigitRun, greatest_number}
use Rattle.cc_lex.specs.Reading.{run, number_at, number_of, from_zero, hexadecimal, numeral, suffixed, number, bounded}
use Rattle.cc_lex.specs.declared.fault.LexKind.TheVariants as fault
use Rattle.cc_lex.specs.declared.piece.Piece.{Piece}
use Rattle.cc_lex.specs.declared.piece.Piece.TheVariants as piece
use Rattle.cc_lex.proofs.Runs.{Fits, Reaches, run_all, run_over, run_within, run_first, found_run}
use Rattle.cc_lex.proofs.Steps.{bounded-small, bounded-large}

-- a byte that passes a test is no byte that does not
pub eqb_not : (test : ℕ → Bool) (b c : ℕ) → test b ≡ true → test c ≡ false → eqb b c ≡ false
eqb_not test b c h k = ne_eqb b c (λ e. let same : test b ≡ test c = ap test e in cc)

bad : Piece
bad = piece.Fault fault.BadNumber

-- ---- from the spelling to the number

suffix_stops : (base : ℕ) → base ≤ 16 → (long : Bool) (suffix : List ℕ) → IsSuffix long suffix → run (is_digit_in base) suffix ≡ 0
suffix_stops base h false suffix e = rw e refl
suffix_stops base h true suffix (inl e) = rw (e, le-ltb 16 base h) refl
suffix_stops base h true suffix (inr e) = rw (e, le-ltb 16 base h) refl

suffixed-is : (n : ℕ) (long : Bool) (suffix : List ℕ) → IsSuffix long suffix → suffixed n suffix ≡ number (bounded n) long
suffixed-is n false suffix e = rw e refl
suffixed-is n true suffix (inl e) = rw e refl
suffixed-is n true suffix (inr e) = rw e refl

numeral-is : (base : ℕ) → base ≤ 16 → (digits suffix : List ℕ) (long : Bool) → all (is_digit_in base) digits ≡ true → IsSuffix long suffix
    → numeral base (digits ++ suffix) ≡ number (bounded (value_of base digits)) long
unfolding numeral
numeral-is base h digits suffix long d s =
    let n : run (is_digit_in base) (digits ++ suffix) ≡ length digits = omega (arith, run_over (is_digit_in base) digits suffix d, suffix_stops base h long suffix s) in
    rw (n, take_at digits suffix (length digits) refl, drop_at digits suffix (length digits) refl) (suffixed-is (value_of base digits) long suffix s)

from_zero-is : (digits suffix : List ℕ) (long : Bool) → all (is_digit_in 8) digits ≡ true → IsSuffix long suffix → from_zero (digits ++ suffix) ≡ number (bounded (value_of 8 digits)) long
from_zero-is [] suffix false d e = rw e (numeral-is 8 (omega arith) [] [] false refl refl)
from_zero-is [] suffix true d (inl e) = rw e (numeral-is 8 (omega arith) [] (108 ∷ []) true refl (inl refl))
from_zero-is [] suffix true d (inr e) = rw e (numeral-is 8 (omega arith) [] (76 ∷ []) true refl (inr refl))
from_zero-is (x ∷ digits) suffix long d s =
    let first : is_digit_in 8 x ≡ true = (and_parts (is_digit_in 8 x) (all (is_digit_in 8) digits) d).0 in
    rw (eqb_not (is_digit_in 8) x 120 first refl, eqb_not (is_digit_in 8) x 88 first refl) (numeral-is 8 (omega arith) (x ∷ digits) suffix long d s)

hexadecimal-is : (d : ℕ) (digits suffix : List ℕ) (long : Bool) → all (is_digit_in 16) (d ∷ digits) ≡ true → IsSuffix long suffix
    → hexadecimal (d ∷ digits ++ suffix) ≡ number (bounded (value_of 16 (d ∷ digits))) long
hexadecimal-is d digits suffix long h s =
    let first : is_digit_in 16 d ≡ true = (and_parts (is_digit_in 16 d) (all (is_digit_in 16) digits) h).0 in
    rw first (numeral-is 16 (omega arith) (d ∷ digits) suffix long h s)

-- the number of each spelling is found
pub number_of-is : {bytes : List ℕ} {n : ℕ} {long : Bool} → IsNumber bytes n long → number_of bytes ≡ number (bounded n) long
unfolding number_of
number_of-is (octal digits suffix long d s) = from_zero-is digits suffix long d s
number_of-is (decimal d digits suffix long ne h s) = rw (ne_eqb d 48 ne) (numeral-is 10 (omega arith) (d ∷ digits) suffix long h s)
number_of-is (hexadecimal' x d digits suffix long (inl e) h s) = rw e (hexadecimal-is d digits suffix long h s)
number_of-is (hexadecimal' x d digits suffix long (inr e) h s) = rw e (hexadecimal-is d digits suffix long h s)

-- ---- from what is found to the spelling

suffix_test : (n b : ℕ) (t : Bool) → (eqb b 108 || eqb b 76) ≡ t → (cond t (number (bounded n) true) (piece.Fault fault.BadNumber) ≡ piece.Fault fault.BadNumber) ⊎ ((long : Bool) × IsSuffix long (b ∷ []))
suffix_test n b true e = inr (true, elim (or_cases (eqb b 108) (eqb b 76) e) [ inl p ↦ inl (ap (λ (x : ℕ). x ∷ []) (eqb-true b 108 p)) | inr p ↦ inr (ap (λ (x : ℕ). x ∷ []) (eqb-true b 76 p)) ])
suffix_test n b false e = inl refl

suffixed-cases : (n : ℕ) (rest : List ℕ) → (suffixed n rest ≡ piece.Fault fault.BadNumber) ⊎ ((long : Bool) × IsSuffix long rest)
suffixed-cases n [] = inr (false, refl)
suffixed-cases n (b ∷ []) = suffix_test n b (eqb b 108 || eqb b 76) refl
suffixed-cases n (b ∷ c ∷ rest) = inl refl

-- digits of a base and a suffix
abbrev Digits : ℕ → List ℕ → Type 0
Digits base bytes = (digits suffix : List ℕ) × (long : Bool) × (bytes ≡ digits ++ suffix) × (all (is_digit_in base) digits ≡ true) × IsSuffix long suffix

numeral-cases : (base : ℕ) (bytes : List ℕ) → (numeral base bytes ≡ piece.Fault fault.BadNumber) ⊎ Digits base bytes
unfolding numeral
numeral-cases base bytes =
    let n = run (is_digit_in base) bytes in
    elim (suffixed-cases (value_of base (take n bytes)) (drop n bytes)) [
      | inl e ↦ inl e
      | inr s ↦ inr (take n bytes, drop n bytes, s.0, sym (take-append-drop n bytes), run_all (is_digit_in base) bytes, s.1)
    ]

-- a suffix begins with no digit
no_digit : (base : ℕ) → base ≤ 16 → (long : Bool) (d : ℕ) (bytes suffix : List ℕ) → IsSuffix long suffix → d ∷ bytes ≡ suffix → is_digit_in base d ≡ true → ⊥
no_digit base h false d bytes suffix s e k = let none : d ∷ bytes ≡ [] = e ∙ s in cc
no_digit base h true d bytes suffix (inl s) e k =
    let first : d ∷ bytes ≡ 108 ∷ [] = e ∙ s in
    let same : d ≡ 108 = cc in
    let no : is_digit_in base d ≡ false = rw (same, le-ltb 16 base h) refl in
    cc
no_digit base h true d bytes suffix (inr s) e k =
    let first : d ∷ bytes ≡ 76 ∷ [] = e ∙ s in
    let same : d ≡ 76 = cc in
    let no : is_digit_in base d ≡ false = rw (same, le-ltb 16 base h) refl in
    cc

-- a spelling of some number
abbrev Spelling : List ℕ → Type 0
Spelling bytes = (n : ℕ) × (long : Bool) × IsNumber bytes n long

octal-from : (bytes : List ℕ) → Digits 8 bytes → Spelling (48 ∷ bytes)
octal-from bytes (digits, suffix, long, e, d, s) =
    (value_of 8 digits, long, subst (λ (b : List ℕ). IsNumber (48 ∷ b) (value_of 8 digits) long) (sym e) (octal digits suffix long d s))

decimal-from : (d : ℕ) (bytes : List ℕ) → d ≢ 48 → is_digit_in 10 d ≡ true → Digits 10 (d ∷ bytes) → Spelling (d ∷ bytes)
decimal-from d bytes ne h ([], suffix, long, e, k, s) = absurd (no_digit 10 (omega arith) long d bytes suffix s e h)
decimal-from d bytes ne h (d' ∷ digits, suffix, long, e, k, s) =
    let same : d ≡ d' = cc in
    (value_of 10 (d' ∷ digits), long, subst (λ (b : List ℕ). IsNumber b (value_of 10 (d' ∷ digits)) long) (sym e) (decimal d' digits suffix long (subst (λ (x : ℕ). x ≢ 48) same ne) k s))

hexadecimal-from : (x d : ℕ) (bytes : List ℕ) → (x ≡ 120) ⊎ (x ≡ 88) → is_digit_in 16 d ≡ true → Digits 16 (d ∷ bytes) → Spelling (48 ∷ x ∷ d ∷ bytes)
hexadecimal-from x d bytes is h ([], suffix, long, e, k, s) = absurd (no_digit 16 (omega arith) long d bytes suffix s e h)
hexadecimal-from x d bytes is h (d' ∷ digits, suffix, long, e, k, s) =
    (value_of 16 (d' ∷ digits), long, subst (λ (b : List ℕ). IsNumber (48 ∷ x ∷ b) (value_of 16 (d' ∷ digits)) long) (sym e) (hexadecimal' x d' digits suffix long is k s))

-- what was found is a fault, or the bytes spell a number
abbrev Found : Piece → List ℕ → Type 0
Found found bytes = (found ≡ piece.Fault fault.BadNumber) ⊎ Spelling bytes

hexadecimal-digit : (x d : ℕ) (digits : List ℕ) → (x ≡ 120) ⊎ (x ≡ 88) → (t : Bool) → is_digit_in 16 d ≡ t → Found (cond t (numeral 16 (d ∷ digits)) (piece.Fault fault.BadNumber)) (48 ∷ x ∷ d ∷ digits)
hexadecimal-digit x d digits is true e = elim (numeral-cases 16 (d ∷ digits)) [ inl p ↦ inl p | inr p ↦ inr (hexadecimal-from x d digits is e p) ]
hexadecimal-digit x d digits is false e = inl refl

hexadecimal-found : (x : ℕ) (digits : List ℕ) → (x ≡ 120) ⊎ (x ≡ 88) → Found (hexadecimal digits) (48 ∷ x ∷ digits)
hexadecimal-found x [] is = inl refl
hexadecimal-found x (d ∷ digits) is = hexadecimal-digit x d digits is (is_digit_in 16 d) refl

octal-found : (bytes : List ℕ) → Found (numeral 8 bytes) (48 ∷ bytes)
octal-found bytes = elim (numeral-cases 8 bytes) [ inl p ↦ inl p | inr p ↦ inr (octal-from bytes p) ]

is_x : (x : ℕ) → (eqb x 120 || eqb x 88) ≡ true → (x ≡ 120) ⊎ (x ≡ 88)
is_x x e = elim (or_cases (eqb x 120) (eqb x 88) e) [ inl p ↦ inl (eqb-true x 120 p) | inr p ↦ inr (eqb-true x 88 p) ]

from_zero-test : (x : ℕ) (digits : List ℕ) (t : Bool) → (eqb x 120 || eqb x 88) ≡ t → Found (cond t (hexadecimal digits) (numeral 8 (x ∷ digits))) (48 ∷ x ∷ digits)
from_zero-test x digits true e = hexadecimal-found x digits (is_x x e)
from_zero-test x digits false e = octal-found (x ∷ digits)

from_zero-found : (bytes : List ℕ) → Found (from_zero bytes) (48 ∷ bytes)
from_zero-found [] = octal-found []
from_zero-found (x ∷ digits) = from_zero-test x digits (eqb x 120 || eqb x 88) refl

pub digit_in_ten : (d : ℕ) → is_digit d ≡ true → is_digit_in 10 d ≡ true
digit_in_ten d e = grind (arith, nat_tests)

number_of-test : (d : ℕ) (digits : List ℕ) → is_digit d ≡ true → (t : Bool) → eqb d 48 ≡ t → Found (cond t (from_zero digits) (numeral 10 (d ∷ digits))) (d ∷ digits)
number_of-test d digits h true e = subst (λ (x : ℕ). Found (from_zero digits) (x ∷ digits)) (sym (eqb-true d 48 e)) (from_zero-found digits)
number_of-test d digits h false e = elim (numeral-cases 10 (d ∷ digits)) [ inl p ↦ inl p | inr p ↦ inr (decimal-from d digits (eqb-false d 48 e) (digit_in_ten d h) p) ]

number_of-found : (d : ℕ) (digits : List ℕ) → is_digit d ≡ true → Found (number_of (d ∷ digits)) (d ∷ digits)
unfolding number_of
number_of-found d digits h = number_of-test d digits h (eqb d 48) refl

-- ---- pieces

not_bad : (found : Option ℕ) (long : Bool) → number found long ≡ piece.Fault fault.BadNumber → ⊥
not_bad None long e = cc
not_bad (Some n) long e = cc

number-is : (bytes : List ℕ) (n : ℕ) (long : Bool) → IsNumber bytes n long → (n ≤ greatest_number) ⊎ (greatest_number < n) → Is (number (bounded n) long) bytes
number-is bytes n long s (inl h) = rw (bounded-small n h) ((n, long, s, h, refl, refl))
number-is bytes n long s (inr h) = rw (bounded-large n h) ((n, long, s, h))

within_or_above : (n m : ℕ) → (n ≤ m) ⊎ (m < n)
within_or_above n m = elim (cases_lt m n) [ inl h ↦ inr h | inr h ↦ inl h ]

number_of-Is : (bytes : List ℕ) → IsDigitRun bytes → Found (number_of bytes) bytes → Is (number_of bytes) bytes
number_of-Is bytes h (inl e) = rw e ((h, λ n long s. not_bad (bounded n) long (sym (number_of-is s) ∙ e)))
number_of-Is bytes h (inr s) = rw (number_of-is s.2) (number-is bytes s.0 s.1 s.2 (within_or_above s.0 greatest_number))

digit_word : (b : ℕ) → is_digit b ≡ true → is_word_byte b ≡ true
digit_word b e = grind (arith, nat_tests)

pub number_at-fits : (b : ℕ) (bytes : List ℕ) → is_digit b ≡ true → Fits (number_at (b ∷ bytes)) (b ∷ bytes)
unfolding number_at
number_at-fits b bytes e =
    let n = run is_word_byte bytes in
    let first : run is_word_byte (b ∷ bytes) ≡ suc n = run_first is_word_byte b bytes (digit_word b e) in
    let passes : all is_word_byte (b ∷ take n bytes) ≡ true = rw (digit_word b e, run_all is_word_byte bytes) refl in
    (rw first (number_of-Is (b ∷ take n bytes) (e, passes) (number_of-found b (take n bytes) e)), run_within is_word_byte (b ∷ bytes))

pub number_reaches : (x : Piece) (bytes rest : List ℕ) → all is_word_byte bytes ≡ true → number_of bytes ≡ x → Reaches x (length bytes) (number_at (bytes ++ rest))
unfolding number_at
number_reaches x bytes rest h e = found_run is_word_byte number_of x bytes rest (run is_word_byte rest) h e refl

-- ---- the spelling of a number is a run

all-map : (f g : ℕ → Bool) → ((b : ℕ) → f b ≡ true → g b ≡ true) → (bytes : List ℕ) → all f bytes ≡ true → all g bytes ≡ true
all-map f g h [] e = refl
all-map f g h (b ∷ bytes) e =
    let parts : (f b ≡ true) × (all f bytes ≡ true) = and_parts (f b) (all f bytes) e in
    rw (h b parts.0, all-map f g h bytes parts.1) refl

all-append : (f : ℕ → Bool) (xs ys : List ℕ) → all f xs ≡ true → all f ys ≡ true → all f (xs ++ ys) ≡ true
all-append f [] ys e h = h
all-append f (x ∷ xs) ys e h =
    let parts : (f x ≡ true) × (all f xs ≡ true) = and_parts (f x) (all f xs) e in
    rw (parts.0, all-append f xs ys parts.1 h) refl

digit-cases : (b : ℕ) (s t u : Bool) → is_digit b ≡ s → (leb 97 b && leb b 102) ≡ t → (leb 65 b && leb b 70) ≡ u → digit_of b < 16 → is_word_byte b ≡ true
digit-cases b true t u p q r h = digit_word b p
digit-cases b false true u p q r h = grind (arith, nat_tests)
digit-cases b false false true p q r h = grind (arith, nat_tests)
digit-cases b false false false p q r h = let none : digit_of b ≡ 16 = rw (p, q, r) refl in absurd (omega arith)

digit_in_word : (base : ℕ) → base ≤ 16 → (b : ℕ) → is_digit_in base b ≡ true → is_word_byte b ≡ true
digit_in_word base h b e = digit-cases b _ _ _ refl refl refl (omega (arith, ltb-true (digit_of b) base e))

ten-cases : (b : ℕ) (s t u : Bool) → is_digit b ≡ s → (leb 97 b && leb b 102) ≡ t → (leb 65 b && leb b 70) ≡ u → digit_of b < 10 → is_digit b ≡ true
ten-cases b true t u p q r h = p
ten-cases b false true u p q r h = let is : digit_of b ≡ b - 87 = rw (p, q) refl in absurd (grind (arith, nat_tests))
ten-cases b false false true p q r h = let is : digit_of b ≡ b - 55 = rw (p, q, r) refl in absurd (grind (arith, nat_tests))
ten-cases b false false false p q r h = let none : digit_of b ≡ 16 = rw (p, q, r) refl in absurd (omega arith)

ten_digit : (b : ℕ) → is_digit_in 10 b ≡ true → is_digit b ≡ true
ten_digit b e = ten-cases b _ _ _ refl refl refl (ltb-true (digit_of b) 10 e)

suffix_words : (long : Bool) (suffix : List ℕ) → IsSuffix long suffix → all is_word_byte suffix ≡ true
suffix_words false suffix e = rw e refl
suffix_words true suffix (inl e) = rw e refl
suffix_words true suffix (inr e) = rw e refl

digits_words : (base : ℕ) → base ≤ 16 → (digits suffix : List ℕ) (long : Bool) → all (is_digit_in base) digits ≡ true → IsSuffix long suffix → all is_word_byte (digits ++ suffix) ≡ true
digits_words base h digits suffix long d s =
    all-append is_word_byte digits suffix (all-map (is_digit_in base) is_word_byte (digit_in_word base h) digits d) (suffix_words long suffix s)

x_word : (x : ℕ) → (x ≡ 120) ⊎ (x ≡ 88) → is_word_byte x ≡ true
x_word x (inl e) = rw e refl
x_word x (inr e) = rw e refl

pub number-run : {bytes : List ℕ} {n : ℕ} {long : Bool} → IsNumber bytes n long → IsDigitRun bytes
number-run (octal digits suffix long d s) = (refl, digits_words 8 (omega arith) digits suffix long d s)
number-run (decimal d digits suffix long ne h s) =
    (ten_digit d (and_parts (is_digit_in 10 d) (all (is_digit_in 10) digits) h).0, digits_words 10 (omega arith) (d ∷ digits) suffix long h s)
number-run (hexadecimal' x d digits suffix long is h s) =
    (refl, rw (x_word x is) (digits_words 16 (omega arith) (d ∷ digits) suffix long h s))

-- what is found of a run that spells no number
pub number_of-bad : (bytes : List ℕ) → IsDigitRun bytes → ((n : ℕ) (long : Bool) → IsNumber bytes n long → ⊥) → number_of bytes ≡ piece.Fault fault.BadNumber
number_of-bad [] h never = absurd h.0
number_of-bad (b ∷ bytes) h never = elim (number_of-found b bytes h.0) [ inl e ↦ e | inr s ↦ absurd (never s.0 s.1 s.2) ]
