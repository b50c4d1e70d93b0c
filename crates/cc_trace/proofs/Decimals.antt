-- A number is read from the front of a text exactly where its decimal text stands there.
use Rattle.std.proofs.Common.{◌≡◌, ◌⊎◌, ℕ, zero, suc, ◌+◌, ◌-◌, ◌*◌, ◌^◌, ◌<◌, ◌≤◌, Bool, true, false, ◌&&◌, cond, eqb, ltb, leb, List, [], ◌∷◌, ◌++◌, length, get_or, Some, None, refl, sym, ◌∙◌, ap, inl, inr, arith, rules}
use Rattle.std.specs.Prelude.{decimal}
use Rattle.std.specs.Char.{is_ascii_digit}
use Rattle.std.specs.Str.{all_ascii_digits}
use Rattle.std.proofs.lemmas.Bool.{and_parts, and_from, eqb-true, ne_eqb, eq-eqb, lt-ltb, le-leb, leb-true, ltb-true}
use Rattle.std.proofs.lemmas.Fmt.{decimal_digit, decimal_nonempty, first_decimal, digits_decimal, digits_value-decimal, decimal-digits_value}
use Rattle.std.proofs.lemmas.Option.{none-some, some_pair_parts}
use Rattle.std.proofs.lemmas.Str.Parse.{IsNumeralModel, numerals_by_fold}
use Rattle.cc_trace.specs.Reading.{digits_after, number_at}

-- what a test chose
pub chosen : {A : Type 0} (b : Bool) (x y z : A) → cond b x y ≡ z → ((b ≡ true) × (x ≡ z)) ⊎ ((b ≡ false) × (y ≡ z))
chosen true x y z e = inl (refl, e)
chosen false x y z e = inr (refl, e)

-- the number of digits after those of n
abbrev value_after : ℕ → List ℕ → ℕ
value_after n [] = n
value_after n (b ∷ bytes) = value_after (n * 10 + (b - 48)) bytes

decimal_model : IsNumeralModel (λ ds. all_ascii_digits ds ≡ true) (value_after 0)
decimal_model = numerals_by_fold _ (search rules) value_after (search rules)

value_after-ge : (n : ℕ) (ds : List ℕ) → n ≤ value_after n ds
value_after-ge n [] = omega arith
value_after-ge n (d ∷ ds) = omega (arith, value_after-ge (n * 10 + (d - 48)) ds)

-- digits that were read after those of n, and the number of all of them
record Found (most end n : ℕ) (text rest : List ℕ) (m : ℕ) : Type 0 where
  digits : List ℕ
  are_digits : all_ascii_digits digits ≡ true
  text_is : text ≡ digits ++ (end ∷ rest)
  value : value_after n digits ≡ m
  no_zero : (0 < n) ⊎ (digits ≡ [])
  bounded : n ≤ most → m ≤ most

found_end : (most end n b : ℕ) (bytes rest : List ℕ) (m : ℕ) → b ≡ end → (n ≡ m) × (bytes ≡ rest) → Found most end n (b ∷ bytes) rest m
found_end most end n b bytes rest m e h = record {
  digits = [];
  are_digits = refl;
  text_is = rw (e, h.1) refl;
  value = h.0;
  no_zero = inr refl;
  bounded = λ k. omega (arith, h.0, k);
}

found_more : (most end n b : ℕ) (bytes rest : List ℕ) (m : ℕ) → is_ascii_digit b ≡ true → 0 < n → n * 10 + (b - 48) ≤ most
    → Found most end (n * 10 + (b - 48)) bytes rest m → Found most end n (b ∷ bytes) rest m
found_more most end n b bytes rest m d p h f = record {
  digits = b ∷ f.digits;
  are_digits = and_from (is_ascii_digit b) (all_ascii_digits f.digits) d f.are_digits;
  text_is = ap (λ t. b ∷ t) f.text_is;
  value = f.value;
  no_zero = inl p;
  bounded = λ k. f.bounded h;
}

digits_after-sound : (most end n : ℕ) (text rest : List ℕ) (m : ℕ) → digits_after most end n text ≡ Some (m, rest) → Found most end n text rest m
digits_after-sound most end n [] rest m e = absurd (none-some (m, rest) e)
digits_after-sound most end n (b ∷ bytes) rest m e =
    elim (chosen (eqb b end) (Some (n, bytes)) _ (Some (m, rest)) e) [
      | inl p ↦ found_end most end n b bytes rest m (eqb-true b end p.0) (some_pair_parts n m bytes rest p.1)
      | inr p ↦ elim (chosen (is_ascii_digit b && ltb 0 n && leb (n * 10 + (b - 48)) most) (digits_after most end (n * 10 + (b - 48)) bytes) None (Some (m, rest)) p.1) [
        | inl q ↦
            let both = and_parts (is_ascii_digit b && ltb 0 n) (leb (n * 10 + (b - 48)) most) q.0 in
            let first = and_parts (is_ascii_digit b) (ltb 0 n) both.0 in
            found_more most end n b bytes rest m first.0 (ltb-true 0 n first.1) (leb-true (n * 10 + (b - 48)) most both.1)
            (digits_after-sound most end (n * 10 + (b - 48)) bytes rest m q.1)
        | inr q ↦ absurd (none-some (m, rest) q.1)
      ]
    ]

zero_first : (n : ℕ) → 0 * 10 + n ≡ n
zero_first n = omega arith

number_found : (most end b : ℕ) (bytes rest : List ℕ) (m : ℕ) → most < 2 ^ 64 → is_ascii_digit b ≡ true → b - 48 ≤ most → Found most end (b - 48) bytes rest m
    → (m ≤ most) × (b ∷ bytes ≡ decimal m ++ (end ∷ rest))
number_found most end b bytes rest m h d k f =
    let small : m ≤ most = f.bounded k in
    let value : value_after 0 (b ∷ f.digits) ≡ m = ap (λ n. value_after n f.digits) (zero_first (b - 48)) ∙ f.value in
    let alone : get_or (b ∷ f.digits) 0 0 ≡ 48 → length (b ∷ f.digits) ≡ 1 = λ e. elim f.no_zero [ inl p ↦ absurd (omega (arith, e, p)) | inr p ↦ rw p refl ] in
    let text : decimal m ≡ b ∷ f.digits =
    ap decimal (sym value) ∙ decimal-digits_value decimal_model (b ∷ f.digits) (and_from (is_ascii_digit b) (all_ascii_digits f.digits) d f.are_digits) (omega arith) alone (omega (arith, value, small, h)) in
    (small, ap (λ t. b ∷ t) f.text_is ∙ ap (λ ds. ds ++ (end ∷ rest)) (sym text))

digit_bound : (b : ℕ) → is_ascii_digit b ≡ true → b - 48 ≤ 9
digit_bound b d = let parts = and_parts (leb 48 b) (leb b 57) d in omega (arith, leb-true b 57 parts.1)

-- what is read is the number's text
pub number_at-sound : (most end : ℕ) (text rest : List ℕ) (m : ℕ) → 9 ≤ most → most < 2 ^ 64 → number_at most end text ≡ Some (m, rest)
    → (m ≤ most) × (text ≡ decimal m ++ (end ∷ rest))
number_at-sound most end [] rest m k h e = absurd (none-some (m, rest) e)
number_at-sound most end (b ∷ bytes) rest m k h e =
    elim (chosen (is_ascii_digit b) (digits_after most end (b - 48) bytes) None (Some (m, rest)) e) [
      | inl p ↦ number_found most end b bytes rest m h p.0 (omega (arith, digit_bound b p.0, k)) (digits_after-sound most end (b - 48) bytes rest m p.1)
      | inr p ↦ absurd (none-some (m, rest) p.1)
    ]

-- a digit does not end a number
pub not_end : (b end : ℕ) → is_ascii_digit b ≡ true → is_ascii_digit end ≡ false → eqb b end ≡ false
not_end b end d h = ne_eqb b end (λ e. let same : is_ascii_digit b ≡ is_ascii_digit end = ap is_ascii_digit e in cc)

digits_after-complete : (most end n : ℕ) (ds rest : List ℕ) → is_ascii_digit end ≡ false → all_ascii_digits ds ≡ true → value_after n ds ≤ most → (0 < n) ⊎ (ds ≡ [])
    → digits_after most end n (ds ++ (end ∷ rest)) ≡ Some (value_after n ds, rest)
digits_after-complete most end n [] rest h d k z = rw (eq-eqb end end refl) refl
digits_after-complete most end n (b ∷ ds) rest h d k (inr z) = absurd (let bad : b ∷ ds ≡ [] = z in cc)
digits_after-complete most end n (b ∷ ds) rest h d k (inl z) =
    let parts = and_parts (is_ascii_digit b) (all_ascii_digits ds) d in
    let small : n * 10 + (b - 48) ≤ most = omega (arith, value_after-ge (n * 10 + (b - 48)) ds, k) in
    rw (not_end b end parts.0 h, parts.0, lt-ltb 0 n z, le-leb (n * 10 + (b - 48)) most small)
    (digits_after-complete most end (n * 10 + (b - 48)) ds rest h parts.1 k (inl (omega (arith, z))))

pub decimal_digits : (m : ℕ) → m < 2 ^ 64 → all_ascii_digits (decimal m) ≡ true
decimal_digits m h = digits_decimal decimal_model m h

-- what is said of a number's digits
record AreDecimal (ds : List ℕ) (m : ℕ) : Type 0 where
  digits : all_ascii_digits ds ≡ true
  value : value_after 0 ds ≡ m
  some : 0 < length ds
  first : 0 < m → 48 < get_or ds 0 0
  zero : m ≡ 0 → ds ≡ 48 ∷ []

decimal_is : (m : ℕ) → m < 2 ^ 64 → AreDecimal (decimal m) m
decimal_is m h = record {
  digits = digits_decimal decimal_model m h;
  value = digits_value-decimal decimal_model m h;
  some = decimal_nonempty m h;
  first = λ p. first_decimal m p h;
  zero = λ e. ap decimal e ∙ decimal_digit 0 (omega arith);
}

tail_of : List ℕ → List ℕ
tail_of [] = []
tail_of (_ ∷ ds) = ds

tail_none : (b : ℕ) (ds : List ℕ) → b ∷ ds ≡ 48 ∷ [] → ds ≡ []
unfolding tail_of
tail_none b ds e = ap tail_of e

goes_on : (b : ℕ) (ds : List ℕ) (m : ℕ) → AreDecimal (b ∷ ds) m → (m ≡ 0) ⊎ (0 < m) → (0 < b - 48) ⊎ (ds ≡ [])
goes_on b ds m a (inl z) = inr (tail_none b ds (a.zero z))
goes_on b ds m a (inr p) = let first : 48 < b = a.first p in inl (omega (arith, first))

zero_or : (m : ℕ) → (m ≡ 0) ⊎ (0 < m)
zero_or m = elim m as (λ m. (m ≡ 0) ⊎ (0 < m)) [ zero ↦ inl refl | suc k ↦ inr (omega arith) ]

number_again : (most end : ℕ) (ds rest : List ℕ) (m : ℕ) → is_ascii_digit end ≡ false → m ≤ most → AreDecimal ds m → number_at most end (ds ++ (end ∷ rest)) ≡ Some (m, rest)
number_again most end [] rest m h k a = absurd (let some : 0 < 0 = a.some in omega (arith, some))
number_again most end (b ∷ ds) rest m h k a =
    let parts = and_parts (is_ascii_digit b) (all_ascii_digits ds) a.digits in
    let value : value_after (b - 48) ds ≡ m = ap (λ n. value_after n ds) (sym (zero_first (b - 48))) ∙ a.value in
    rw parts.0 (digits_after-complete most end (b - 48) ds rest h parts.1 (omega (arith, value, k)) (goes_on b ds m a (zero_or m)) ∙ ap (λ n. Some (n, rest)) value)

-- the text of each number is read
pub number_at-complete : (most end m : ℕ) (rest : List ℕ) → is_ascii_digit end ≡ false → most < 2 ^ 64 → m ≤ most → number_at most end (decimal m ++ (end ∷ rest)) ≡ Some (m, rest)
number_at-complete most end m rest h bound k = number_again most end (decimal m) rest m h k (decimal_is m (omega (arith, bound, k)))
