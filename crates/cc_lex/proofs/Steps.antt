-- One step of each loop.
use Rattle.std.proofs.Common.{◌≡◌, ℕ, ◌+◌, ◌-◌, ◌*◌, ◌/◌, ◌<◌, ◌≤◌, Bool, true, false, ◌&&◌, cond, eqb, leb, List, [], ◌∷◌, length, drop, get_or, Option, Some, None, refl, sym, ◌∙◌, ap, arith}
use Rattle.std.proofs.lemmas.Bool.{le-leb, lt-leb}
use Rattle.std.proofs.lemmas.Bool.Decides.{nat_tests}
use Rattle.std.proofs.lemmas.List.{at_drop_more, length-drop}
use Rattle.std.proofs.lemmas.Option.{some_pair_parts}
use Rattle.std.proofs.Math.Nat.{div-lt_iff_lt-mul, mul-le-mul_left}
use Rattle.cc_lex.specs.Bytes.{digit_of, value_after, escape, is_plain_in_string, is_digit}
use Rattle.cc_lex.specs.Pieces.{greatest_number}
use Rattle.cc_lex.specs.Reading.{bounded, comment_len, further, string_byte, escaped_byte, inside}

-- ---- numbers

pub bounded-small : (n : ℕ) → n ≤ greatest_number → bounded n ≡ Some n
unfolding bounded
bounded-small n h = rw (le-leb n greatest_number h) refl

pub bounded-large : (n : ℕ) → greatest_number < n → bounded n ≡ None
unfolding bounded
bounded-large n h = rw (lt-leb n greatest_number h) refl

pub value_after-grows : (base : ℕ) → 0 < base → (before : ℕ) (digits : List ℕ) → before ≤ value_after base before digits
value_after-grows base h before [] = omega arith
value_after-grows base h before (d ∷ digits) =
    let e : before * 1 ≤ before * base = mul-le-mul_left before (omega arith) in
    omega (arith, value_after-grows base h (before * base + digit_of d) digits, e)

pub too_large : (base digit value : ℕ) → 0 < base → digit ≤ 16 → (greatest_number - digit) / base < value → greatest_number < value * base + digit
too_large base digit value h d e = let f : greatest_number - digit < value * base = (div-lt_iff_lt-mul {k = base} {x = greatest_number - digit} {y = value} h).0 e in omega arith

digit_of-cases : (b : ℕ) (s t u : Bool) → is_digit b ≡ s → (leb 97 b && leb b 102) ≡ t → (leb 65 b && leb b 70) ≡ u → digit_of b ≤ 16
digit_of-cases b true t u p q r = grind (arith, nat_tests)
digit_of-cases b false true u p q r = grind (arith, nat_tests)
digit_of-cases b false false true p q r = grind (arith, nat_tests)
digit_of-cases b false false false p q r = grind (arith, nat_tests)

pub digit_of-le : (b : ℕ) → digit_of b ≤ 16
digit_of-le b = digit_of-cases b _ _ _ refl refl refl

-- ---- comments

pub further-further : (m n : ℕ) (o : Option ℕ) → further m (further n o) ≡ further (m + n) o
further-further m n None = refl
further-further m n (Some k) = ap (λ i. Some i) (omega arith)

open_step : (a b : ℕ) (rest : List ℕ) → (a ≡ 42 → b ≡ 47 → ⊥) → (s t : Bool) → eqb a 42 ≡ s → eqb b 47 ≡ t → comment_len (a ∷ b ∷ rest) ≡ further 1 (comment_len (b ∷ rest))
open_step a b rest h true true p q = absurd (grind (arith, nat_tests))
open_step a b rest h true false p q = rw (p, q) refl
open_step a b rest h false t p q = rw p refl

-- a comment that does not end here
pub comment_len-more : (text : List ℕ) (n : ℕ) → n + 1 < length text → (get_or text n 0 ≡ 42 → get_or text (n + 1) 0 ≡ 47 → ⊥)
    → comment_len (drop n text) ≡ further 1 (comment_len (drop (n + 1) text))
comment_len-more text n h ne =
    at_drop_more comment_len text n 0 (omega arith)
    ∙ at_drop_more (λ rest. comment_len (get_or text n 0 ∷ rest)) text (n + 1) 0 h
    ∙ open_step (get_or text n 0) (get_or text (n + 1) 0) (drop (n + 1 + 1) text) ne _ _ refl refl
    ∙ sym (at_drop_more (λ rest. further 1 (comment_len rest)) text (n + 1) 0 h)

-- a comment that ends here
pub comment_len-here : (text : List ℕ) (n : ℕ) → n + 1 < length text → get_or text n 0 ≡ 42 → get_or text (n + 1) 0 ≡ 47 → comment_len (drop n text) ≡ Some 2
comment_len-here text n h e f =
    at_drop_more comment_len text n 0 (omega arith)
    ∙ at_drop_more (λ rest. comment_len (get_or text n 0 ∷ rest)) text (n + 1) 0 h
    ∙ rw (e, f) refl

comment_len-short : (text : List ℕ) → length text ≤ 1 → comment_len text ≡ None
comment_len-short [] h = refl
comment_len-short (a ∷ []) h = refl
comment_len-short (a ∷ b ∷ rest) h = absurd (omega arith)

-- a comment that does not end at all
pub comment_len-end : (text : List ℕ) (n : ℕ) → length text ≤ n + 1 → comment_len (drop n text) ≡ None
comment_len-end text n h = comment_len-short (drop n text) (omega (arith, length-drop n text))

-- ---- strings

pub record StringStep (text : List ℕ) (b n : ℕ) : Type 0 where
  pub bytes : (inside text).0 ≡ b ∷ (inside (drop n text)).0
  pub len : (inside text).1 ≡ n + (inside (drop n text)).1
  pub some : 0 < n
  pub within : n ≤ length text

escaped_step : (a c : ℕ) (rest : List ℕ) (o : Option ℕ) → escape c ≡ o → eqb a 92 ≡ true → (b n : ℕ) → ◌≡◌ {A = Option (ℕ × ℕ)} (escaped_byte o) (Some (b, n)) → StringStep (a ∷ c ∷ rest) b n
escaped_step a c rest None e t b n h = absurd cc
escaped_step a c rest (Some x) e t b n h =
    let p : (x ≡ b) × (2 ≡ n) = some_pair_parts x b 2 n h in
    rw (← p.0, ← p.1) (record { bytes = rw (t, e) refl; len = rw (t, e) refl; some = omega arith; within = omega arith })

plain_step : (a c : ℕ) (rest : List ℕ) (t : Bool) → is_plain_in_string a ≡ t → eqb a 92 ≡ false → (b n : ℕ) → ◌≡◌ {A = Option (ℕ × ℕ)} (cond t (Some (a, 1)) None) (Some (b, n)) → StringStep (a ∷ c ∷ rest) b n
plain_step a c rest false e t b n h = absurd cc
plain_step a c rest true e t b n h =
    let p : (a ≡ b) × (1 ≡ n) = some_pair_parts a b 1 n h in
    rw (← p.0, ← p.1) (record { bytes = rw (e, t) refl; len = rw (e, t) refl; some = omega arith; within = omega arith })

last_step : (a : ℕ) (t : Bool) → is_plain_in_string a ≡ t → (b n : ℕ) → ◌≡◌ {A = Option (ℕ × ℕ)} (cond t (Some (a, 1)) None) (Some (b, n)) → StringStep (a ∷ []) b n
last_step a false e b n h = absurd cc
last_step a true e b n h =
    let p : (a ≡ b) × (1 ≡ n) = some_pair_parts a b 1 n h in
    rw (← p.0, ← p.1) (record { bytes = rw e refl; len = rw e refl; some = omega arith; within = omega arith })

two_step : (a c : ℕ) (rest : List ℕ) (t : Bool) → eqb a 92 ≡ t → (b n : ℕ) → ◌≡◌ {A = Option (ℕ × ℕ)} (cond t (escaped_byte (escape c)) (cond (is_plain_in_string a) (Some (a, 1)) None)) (Some (b, n)) → StringStep (a ∷ c ∷ rest) b n
two_step a c rest true e b n h = escaped_step a c rest (escape c) refl e b n h
two_step a c rest false e b n h = plain_step a c rest (is_plain_in_string a) refl e b n h

-- one byte of a string
pub string_step : (text : List ℕ) (b n : ℕ) → ◌≡◌ {A = Option (ℕ × ℕ)} (string_byte text) (Some (b, n)) → StringStep text b n
string_step [] b n h = absurd cc
string_step (a ∷ []) b n h = last_step a (is_plain_in_string a) refl b n h
string_step (a ∷ c ∷ rest) b n h = two_step a c rest (eqb a 92) refl b n h
