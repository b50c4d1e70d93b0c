-- The only newline of a line is its last byte.
use Rattle.std.proofs.Common.{◌≡◌, ◌≢◌, ℕ, ◌<◌, ◌^◌, Bool, true, false, not, ◌&&◌, eqb, List, [], ◌∷◌, ◌++◌, refl, sym, ◌∙◌, ap, arith, append_assoc}
use Rattle.std.specs.Prelude.{decimal}
use Rattle.std.specs.Char.{is_ascii_digit}
use Rattle.std.specs.List.{AllByRecursion}
use Rattle.std.specs.Str.{all_ascii_digits}
use Rattle.std.proofs.lemmas.Bool.{and_from, and_parts, eqb-false, false≢true}
use Rattle.cc_rules.specs.declared.event.Event.{Event}
use Rattle.cc_rules.specs.declared.event.Event.TheVariants.{Ask, Accept, Instant, Expire, Withdraw, Time, End}
use Rattle.cc_rules.specs.declared.event.Word.{Word}
use Rattle.cc_rules.specs.declared.event.Word.TheVariants as word
use Rattle.cc_trace.specs.Text.{IsWithinBounds, fields, line, spaced, word_name}
use Rattle.cc_trace.proofs.Decimals.{decimal_digits, not_end}

-- no newline is among the bytes, as a test
abbrev has_no_newline : List ℕ → Bool
has_no_newline [] = true
has_no_newline (b ∷ bytes) = not (eqb b 10) && has_no_newline bytes

both_have_none : (a b : List ℕ) → has_no_newline a ≡ true → has_no_newline b ≡ true → has_no_newline (a ++ b) ≡ true
both_have_none [] b h k = k
both_have_none (x ∷ a) b h k =
    let parts = and_parts (not (eqb x 10)) (has_no_newline a) h in
    and_from (not (eqb x 10)) (has_no_newline (a ++ b)) parts.0 (both_have_none a b parts.1 k)

digits_have_none : (ds : List ℕ) → all_ascii_digits ds ≡ true → has_no_newline ds ≡ true
digits_have_none [] h = refl
digits_have_none (d ∷ ds) h =
    let parts = and_parts (is_ascii_digit d) (all_ascii_digits ds) h in
    and_from (not (eqb d 10)) (has_no_newline ds) (ap not (not_end d 10 parts.0 refl)) (digits_have_none ds parts.1)

number_has_none : (n : ℕ) → n < 2 ^ 64 → has_no_newline (decimal n) ≡ true
number_has_none n h = digits_have_none (decimal n) (decimal_digits n h)

small_has_none : (n : ℕ) → n < 2 ^ 32 → has_no_newline (decimal n) ≡ true
small_has_none n h = number_has_none n (omega (arith, h))

word_has_none : (w : Word) → has_no_newline (word_name w) ≡ true
word_has_none word.Pause = refl
word_has_none word.Create = refl
word_has_none word.Call = refl
word_has_none word.TimedCall = refl
word_has_none word.Send = refl
word_has_none word.Select = refl
word_has_none word.Delay = refl
word_has_none word.Reply = refl
word_has_none word.Print = refl
word_has_none word.Get = refl
word_has_none word.Done = refl
word_has_none word.Fault = refl

-- each field after a space
abbrev before_newline : List (List ℕ) → List ℕ
before_newline [] = []
before_newline (field ∷ fields) = 32 ∷ (field ++ before_newline fields)

spaced-split : (fs : List (List ℕ)) → spaced fs ≡ before_newline fs ++ (10 ∷ [])
spaced-split [] = refl
spaced-split (f ∷ fs) = ap (λ t. 32 ∷ t) (ap (λ t. f ++ t) (spaced-split fs) ∙ sym (append_assoc f (before_newline fs) (10 ∷ [])))

before_has_none : (fs : List (List ℕ)) → AllByRecursion (λ f. has_no_newline f ≡ true) fs → has_no_newline (before_newline fs) ≡ true
before_has_none [] h = refl
before_has_none (f ∷ fs) h = both_have_none f (before_newline fs) h.0 (before_has_none fs h.1)

name_has_none : (e : Event) → has_no_newline (fields e).0 ≡ true
name_has_none (Ask p w) = refl
name_has_none (Accept p a c) = refl
name_has_none (Instant p a) = refl
name_has_none (Expire p a) = refl
name_has_none (Withdraw c) = refl
name_has_none (Time t) = refl
name_has_none End = refl

fields_have_none : (e : Event) → IsWithinBounds e → AllByRecursion (λ f. has_no_newline f ≡ true) (fields e).1
fields_have_none (Ask p w) h = (small_has_none p.0 h, (word_has_none w, tt))
fields_have_none (Accept p a c) h = (small_has_none p.0 h.0, (small_has_none a h.1, (small_has_none c.0 h.2, tt)))
fields_have_none (Instant p a) h = (small_has_none p.0 h.0, (small_has_none a h.1, tt))
fields_have_none (Expire p a) h = (small_has_none p.0 h.0, (small_has_none a h.1, tt))
fields_have_none (Withdraw c) h = (small_has_none c.0 h, tt)
fields_have_none (Time t) h = (number_has_none t h, tt)
fields_have_none End h = tt

not_true : (t : Bool) → not t ≡ true → t ≡ false
not_true false h = refl
not_true true h = absurd (false≢true h)

none_of : (bytes : List ℕ) → has_no_newline bytes ≡ true → AllByRecursion (λ b. b ≢ 10) bytes
none_of [] h = tt
none_of (b ∷ bytes) h =
    let parts = and_parts (not (eqb b 10)) (has_no_newline bytes) h in
    (eqb-false b 10 (not_true (eqb b 10) parts.0), none_of bytes parts.1)

pub line_ends : (e : Event) → IsWithinBounds e → (front : List ℕ) × (line e ≡ front ++ (10 ∷ [])) × AllByRecursion (λ b. b ≢ 10) front
line_ends e h = (
  (fields e).0 ++ before_newline (fields e).1,
  ap (λ t. (fields e).0 ++ t) (spaced-split (fields e).1) ∙ sym (append_assoc (fields e).0 (before_newline (fields e).1) (10 ∷ [])),
  none_of ((fields e).0 ++ before_newline (fields e).1) (both_have_none (fields e).0 (before_newline (fields e).1) (name_has_none e) (before_has_none (fields e).1 (fields_have_none e h))),
)
