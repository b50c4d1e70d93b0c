-- A run is the longest front of bytes that pass a test; words are such runs.
use Rattle.std.proofs.Common.{◌≡◌, ◌⊎◌, ℕ, zero, suc, ◌+◌, ◌<◌, ◌≤◌, Bool, true, false, ◌&&◌, cond, leb, List, [], ◌∷◌, ◌++◌, length, take, Option, Some, None, refl, inl, inr, arith}
use Rattle.std.proofs.lemmas.Bool.{and_parts, and_right, lt-leb}
use Rattle.std.proofs.lemmas.List.{take_at}
use Rattle.std.proofs.lemmas.Slice.Eq.{bytes_eq-Decides}
use Rattle.std.specs.Str.{bytes_eq}
use Rattle.cc_lex.specs.Bytes.{is_letter, is_word_byte, all}
use Rattle.cc_lex.specs.Pieces.{Is, IsWord}
use Rattle.cc_lex.specs.Reading.{run, word_at, word_or_name}
use Rattle.cc_lex.specs.Words.{word_in, first_word, reserved_word, language_words, unused_words}
use Rattle.cc_lex.specs.declared.piece.Piece.{Piece}
use Rattle.cc_lex.specs.declared.token.Word.{Word}

-- what is found is this piece of this length, or a longer one
abbrev pub Reaches : Piece → ℕ → Piece × ℕ → Type 0
Reaches x n found = (◌≡◌ {A = Piece × ℕ} found (x, n)) ⊎ (n < found.1)

-- what is found is the piece of that front of the text
abbrev pub Fits : Piece × ℕ → List ℕ → Type 0
Fits found text = Is found.0 (take found.1 text) × (found.1 ≤ length text)

run_step : (test : ℕ → Bool) (b : ℕ) (bytes : List ℕ) (t : Bool) → test b ≡ t → all test (take (run test bytes) bytes) ≡ true
    → all test (take (cond t (suc (run test bytes)) 0) (b ∷ bytes)) ≡ true
run_step test b bytes true e h = rw (e, h) refl
run_step test b bytes false e h = refl

-- the bytes of a run pass
pub run_all : (test : ℕ → Bool) (text : List ℕ) → all test (take (run test text) text) ≡ true
run_all test [] = refl
run_all test (b ∷ bytes) = run_step test b bytes (test b) refl (run_all test bytes)

-- a run goes over bytes that pass
pub run_over : (test : ℕ → Bool) (bytes rest : List ℕ) → all test bytes ≡ true → run test (bytes ++ rest) ≡ length bytes + run test rest
run_over test [] rest h = omega arith
run_over test (b ∷ bytes) rest h =
    let parts : (test b ≡ true) × (all test bytes ≡ true) = and_parts (test b) (all test bytes) h in
    rw parts.0 (omega (arith, run_over test bytes rest parts.1))

run_within-step : (t : Bool) (n m : ℕ) → n ≤ m → cond t (suc n) 0 ≤ suc m
run_within-step true n m h = omega arith
run_within-step false n m h = omega arith

pub run_within : (test : ℕ → Bool) (text : List ℕ) → run test text ≤ length text
run_within test [] = omega arith
run_within test (b ∷ bytes) = run_within-step (test b) (run test bytes) (length bytes) (run_within test bytes)

-- ---- words

pub letter_word : (b : ℕ) → is_letter b ≡ true → is_word_byte b ≡ true
letter_word b e = rw e refl

-- a run from a byte that passes has that byte
pub run_first : (test : ℕ → Bool) (b : ℕ) (bytes : List ℕ) → test b ≡ true → run test (b ∷ bytes) ≡ suc (run test bytes)
run_first test b bytes e = rw e refl

named : (bytes : List ℕ) (found : Option Word) → reserved_word bytes ≡ found → IsWord bytes → Is (word_or_name found bytes) bytes
named bytes None e h = (refl, h, e)
named bytes (Some word) e h = e

pub word_at-fits : (b : ℕ) (bytes : List ℕ) → is_letter b ≡ true → Fits (word_at (b ∷ bytes)) (b ∷ bytes)
unfolding word_at
word_at-fits b bytes e =
    let n = run is_word_byte bytes in
    let first : run is_word_byte (b ∷ bytes) ≡ suc n = run_first is_word_byte b bytes (letter_word b e) in
    let passes : all is_word_byte (b ∷ take n bytes) ≡ true = rw (letter_word b e, run_all is_word_byte bytes) refl in
    (rw first (named (b ∷ take n bytes) (reserved_word (b ∷ take n bytes)) refl (e, passes)), run_within is_word_byte (b ∷ bytes))

-- what is found of a run, of this length or a longer one
pub found_run : (test : ℕ → Bool) (piece_of : List ℕ → Piece) (x : Piece) (bytes rest : List ℕ) (more : ℕ) → all test bytes ≡ true → piece_of bytes ≡ x → run test rest ≡ more
    → Reaches x (length bytes) (piece_of (take (run test (bytes ++ rest)) (bytes ++ rest)), run test (bytes ++ rest))
found_run test piece_of x bytes rest zero h e r =
    let n : run test (bytes ++ rest) ≡ length bytes = omega (arith, run_over test bytes rest h) in
    inl (rw (n, take_at bytes rest (length bytes) refl, e) refl)
found_run test piece_of x bytes rest (suc more) h e r = inr (omega (arith, run_over test bytes rest h))

pub word_reaches : (x : Piece) (bytes rest : List ℕ) → all is_word_byte bytes ≡ true → word_or_name (reserved_word bytes) bytes ≡ x → Reaches x (length bytes) (word_at (bytes ++ rest))
unfolding word_at
word_reaches x bytes rest h e = found_run is_word_byte (λ (front : List ℕ). word_or_name (reserved_word front) front) x bytes rest (run is_word_byte rest) h e refl

-- ---- reserved words are words

abbrev is_word : List ℕ → Bool
is_word [] = false
is_word (b ∷ bytes) = is_letter b && all is_word_byte (b ∷ bytes)

abbrev are_words : List (List ℕ × Word) → Bool
are_words [] = true
are_words (row ∷ rows) = is_word row.0 && are_words rows

word_in-step : (bytes : List ℕ) (row : List ℕ × Word) (rows : List (List ℕ × Word)) (word : Word) (t : Bool) → bytes_eq row.0 bytes ≡ t → is_word row.0 ≡ true
    → (word_in bytes rows ≡ Some word → is_word bytes ≡ true) → cond t (Some row.1) (word_in bytes rows) ≡ Some word → is_word bytes ≡ true
word_in-step bytes row rows word true e h ih w = rw (← (bytes_eq-Decides row.0 bytes).0 e) h
word_in-step bytes row rows word false e h ih w = ih w

word_in-word : (bytes : List ℕ) (rows : List (List ℕ × Word)) (word : Word) → are_words rows ≡ true → word_in bytes rows ≡ Some word → is_word bytes ≡ true
word_in-word bytes [] word h w = absurd cc
word_in-word bytes (row ∷ rows) word h w =
    let parts : (is_word row.0 ≡ true) × (are_words rows ≡ true) = and_parts (is_word row.0) (are_words rows) h in
    word_in-step bytes row rows word (bytes_eq row.0 bytes) refl parts.0 (λ v. word_in-word bytes rows word parts.1 v) w

first_word-word : (bytes : List ℕ) (first second : Option Word) (word : Word) → (first ≡ Some word → is_word bytes ≡ true) → (second ≡ Some word → is_word bytes ≡ true)
    → first_word first second ≡ Some word → is_word bytes ≡ true
first_word-word bytes None second word p q e = q e
first_word-word bytes (Some other) second word p q e = p e

is_word-IsWord : (bytes : List ℕ) → is_word bytes ≡ true → IsWord bytes
is_word-IsWord [] h = absurd cc
is_word-IsWord (b ∷ bytes) h = and_parts (is_letter b) (all is_word_byte (b ∷ bytes)) h

-- a reserved word begins with a letter and has letters, digits and _
pub reserved-IsWord : (bytes : List ℕ) (word : Word) → reserved_word bytes ≡ Some word → IsWord bytes
unfolding reserved_word
reserved-IsWord bytes word e =
    is_word-IsWord bytes (first_word-word bytes (word_in bytes language_words) (word_in bytes unused_words) word
    (λ p. word_in-word bytes language_words word refl p) (λ p. word_in-word bytes unused_words word refl p) e)

-- ---- the lengths of reserved words

abbrev is_between : ℕ → ℕ → List ℕ → Bool
is_between low high bytes = leb low (length bytes) && leb (length bytes) high

abbrev are_between : ℕ → ℕ → List (List ℕ × Word) → Bool
are_between low high [] = true
are_between low high (row ∷ rows) = is_between low high row.0 && are_between low high rows

outside-step : (low high : ℕ) (bytes : List ℕ) (row : List ℕ × Word) (found : Option Word) (t : Bool) → bytes_eq row.0 bytes ≡ t → is_between low high row.0 ≡ true → is_between low high bytes ≡ false → found ≡ None
    → cond t (Some row.1) found ≡ None
outside-step low high bytes row found true e h k f = let same : row.0 ≡ bytes = (bytes_eq-Decides row.0 bytes).0 e in absurd (let here : is_between low high bytes ≡ true = rw (← same) h in cc)
outside-step low high bytes row found false e h k f = f

outside : (low high : ℕ) (bytes : List ℕ) (rows : List (List ℕ × Word)) → are_between low high rows ≡ true → is_between low high bytes ≡ false → word_in bytes rows ≡ None
outside low high bytes [] h k = refl
outside low high bytes (row ∷ rows) h k =
    let parts : (is_between low high row.0 ≡ true) × (are_between low high rows ≡ true) = and_parts (is_between low high row.0) (are_between low high rows) h in
    outside-step low high bytes row (word_in bytes rows) (bytes_eq row.0 bytes) refl parts.0 k (outside low high bytes rows parts.1 k)

no_word : (bytes : List ℕ) → is_between 2 9 bytes ≡ false → reserved_word bytes ≡ None
unfolding reserved_word
no_word bytes k = rw (outside 2 9 bytes language_words refl k, outside 2 9 bytes unused_words refl k) refl

-- bytes that are too short or too long for a reserved word
pub reserved_word-short : (bytes : List ℕ) → length bytes < 2 → reserved_word bytes ≡ None
reserved_word-short bytes h = no_word bytes (rw (lt-leb 2 (length bytes) h) refl)

pub reserved_word-long : (bytes : List ℕ) → 9 < length bytes → reserved_word bytes ≡ None
reserved_word-long bytes h = no_word bytes (and_right (leb 2 (length bytes)) (leb (length bytes) 9) (lt-leb (length bytes) 9 h))
