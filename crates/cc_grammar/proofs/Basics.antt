-- Laws of the words of the definitions.
use Rattle.std.proofs.Common.{◌≡◌, ℕ, Bool, true, false, ◌||◌, ◌&&◌, not, List, [], ◌∷◌, ◌++◌, ◌⊎◌, inl, inr, refl, sym, ◌∙◌, ap, append_assoc, arith}
use Rattle.std.specs.Prelude.{if◌then◌else◌, nat_lt, ◌==◌}
use Rattle.cc_lex.specs.declared.token.Token.{Token}
use Rattle.cc_grammar.specs.Begins.{has}
use Rattle.cc_grammar.specs.Kinds.{Kind, kind}
use Rattle.cc_grammar.specs.Phrases.{Marked, words, Stops, joined}
use Rattle.cc_grammar.specs.Reading.{Deep, Answer, Reader, and_then, answered, at, expected}

pub words-append : (xs ys : List Marked) → words (xs ++ ys) ≡ words xs ++ words ys
words-append [] ys = refl
words-append (m ∷ xs) ys = ap (λ (l : List Token). m.1 ∷ l) (words-append xs ys)

pub words-rest : (xs ys : List Marked) (rest : List Token) → words (xs ++ ys) ++ rest ≡ words xs ++ (words ys ++ rest)
words-rest xs ys rest = ap (λ (l : List Token). l ++ rest) (words-append xs ys) ∙ append_assoc (words xs) (words ys) rest

pub nil_right : {A : Type 0} (xs : List A) → xs ++ [] ≡ xs
nil_right [] = refl
nil_right {A = A} (x ∷ xs) = ap (λ (l : List A). x ∷ l) (nil_right xs)

-- ---- tests

pub or_left : (a b : Bool) → a ≡ true → (a || b) ≡ true
or_left true b e = refl
or_left false b e = cc

pub or_right : (a b : Bool) → b ≡ true → (a || b) ≡ true
or_right true b e = refl
or_right false b e = e

pub or_split : (a b : Bool) → (a || b) ≡ true → (a ≡ true) ⊎ ((a ≡ false) × (b ≡ true))
or_split true b e = inl refl
or_split false b e = inr (refl, e)

pub or_false_left : (a b : Bool) → (a || b) ≡ false → a ≡ false
or_false_left true b e = cc
or_false_left false b e = refl

pub or_false_right : (a b : Bool) → (a || b) ≡ false → b ≡ false
or_false_right true b e = cc
or_false_right false b e = e

pub or_none : (a b : Bool) → a ≡ false → b ≡ false → (a || b) ≡ false
or_none true b e h = cc
or_none false b e h = h

pub and_both : (a b : Bool) → a ≡ true → b ≡ true → (a && b) ≡ true
and_both true b e h = h
and_both false b e h = cc

pub and_first : (a b : Bool) → (a && b) ≡ true → a ≡ true
and_first true b e = refl
and_first false b e = e

pub and_second : (a b : Bool) → (a && b) ≡ true → b ≡ true
and_second true b e = e
and_second false b e = cc

pub not_false : (a : Bool) → not a ≡ true → a ≡ false
not_false true e = cc
not_false false e = refl

pub both_ways : (a : Bool) → (a ≡ true) ⊎ (a ≡ false)
both_ways true = inl refl
both_ways false = inr refl

pub cond_true : {A : Type 0} (b : Bool) (x y : A) → b ≡ true → (if b then x else y) ≡ x
cond_true true x y e = refl
cond_true false x y e = cc

pub cond_false : {A : Type 0} (b : Bool) (x y : A) → b ≡ false → (if b then x else y) ≡ y
cond_false true x y e = cc
cond_false false x y e = refl

-- ---- lists of kinds

pub has-append : (xs ys : List Kind) (k : Kind) → has (xs ++ ys) k ≡ (has xs k || has ys k)
has-append [] ys k = refl
has-append (x ∷ xs) ys k = go (x == k) (has-append xs ys k)
  where
    go : (b : Bool) → has (xs ++ ys) k ≡ (has xs k || has ys k) → (b || has (xs ++ ys) k) ≡ ((b || has xs k) || has ys k)
    go true e = refl
    go false e = e

pub has_left : (xs ys : List Kind) (k : Kind) → has xs k ≡ true → has (xs ++ ys) k ≡ true
has_left xs ys k e = has-append xs ys k ∙ or_left (has xs k) (has ys k) e

pub has_right : (xs ys : List Kind) (k : Kind) → has ys k ≡ true → has (xs ++ ys) k ≡ true
has_right xs ys k e = has-append xs ys k ∙ or_right (has xs k) (has ys k) e

pub has_split : (xs ys : List Kind) (k : Kind) → has (xs ++ ys) k ≡ true → (has xs k ≡ true) ⊎ ((has xs k ≡ false) × (has ys k ≡ true))
has_split xs ys k e = or_split (has xs k) (has ys k) (sym (has-append xs ys k) ∙ e)

pub lacks_left : (xs ys : List Kind) (k : Kind) → has (xs ++ ys) k ≡ false → has xs k ≡ false
lacks_left xs ys k e = or_false_left (has xs k) (has ys k) (sym (has-append xs ys k) ∙ e)

pub lacks_right : (xs ys : List Kind) (k : Kind) → has (xs ++ ys) k ≡ false → has ys k ≡ false
lacks_right xs ys k e = or_false_right (has xs k) (has ys k) (sym (has-append xs ys k) ∙ e)

pub lacks_both : (xs ys : List Kind) (k : Kind) → has xs k ≡ false → has ys k ≡ false → has (xs ++ ys) k ≡ false
lacks_both xs ys k e h = has-append xs ys k ∙ or_none (has xs k) (has ys k) e h

pub has_same : (xs : List Kind) (j k : Kind) → (j == k) ≡ true → has xs j ≡ true → has xs k ≡ true
has_same xs j k e h = let same : j ≡ k = grind arith in rw same at h

-- each of the first is one of the second
abbrev pub within : List Kind → List Kind → Bool
within [] ys = true
within (x ∷ xs) ys = has ys x && within xs ys

-- none of the first is one of the second
abbrev pub apart : List Kind → List Kind → Bool
apart [] ys = true
apart (x ∷ xs) ys = not (has ys x) && apart xs ys

pub within_has : (xs ys : List Kind) → within xs ys ≡ true → (k : Kind) → has xs k ≡ true → has ys k ≡ true
within_has [] ys w k e = cc
within_has (x ∷ xs) ys w k e =
    elim (or_split (x == k) (has xs k) e) [
      | inl h ↦ has_same ys x k h (and_first (has ys x) (within xs ys) w)
      | inr h ↦ within_has xs ys (and_second (has ys x) (within xs ys) w) k h.1
    ]

apart_false : (b : Bool) → (b ≡ true → ⊥) → b ≡ false
apart_false true h = absurd (h refl)
apart_false false h = refl

pub within_lacks : (xs ys : List Kind) → within xs ys ≡ true → (k : Kind) → has ys k ≡ false → has xs k ≡ false
within_lacks xs ys w k e = apart_false (has xs k) (λ h. (let both = within_has xs ys w k h in absurd cc))

pub apart_lacks : (xs ys : List Kind) → apart xs ys ≡ true → (k : Kind) → has ys k ≡ true → has xs k ≡ false
apart_lacks [] ys w k e = refl
apart_lacks (x ∷ xs) ys w k e =
    or_none (x == k) (has xs k)
    (apart_false (x == k) (λ h. (let out = not_false (has ys x) (and_first (not (has ys x)) (apart xs ys) w) in let in_it = has_same ys k x (flipped h) e in absurd cc)))
    (apart_lacks xs ys (and_second (not (has ys x)) (apart xs ys) w) k e)
  where
    flipped : (x == k) ≡ true → (k == x) ≡ true
    flipped h = grind arith

-- ---- what goes on with a row

pub stops_first : (f g : List Kind) (ys : List Marked) (rest : List Token) → Stops f (words ys) → Stops (joined f g ys) rest → Stops f (words ys ++ rest)
stops_first f g [] [] s t = tt
stops_first f g [] (a ∷ rest) s t = lacks_right g f (kind a) t
stops_first f g (m ∷ ys) rest s t = s

pub stops_second : (f g : List Kind) (ys : List Marked) (rest : List Token) → Stops (joined f g ys) rest → Stops g rest
stops_second f g ys [] t = tt
stops_second f g [] (a ∷ rest) t = lacks_left g f (kind a) t
stops_second f g (m ∷ ys) (a ∷ rest) t = t

pub stops_joined : (f g : List Kind) (ys : List Marked) (rest : List Token) → Stops f (words ys ++ rest) → Stops g rest → Stops (joined f g ys) rest
stops_joined f g ys [] s t = tt
stops_joined f g [] (a ∷ rest) s t = lacks_both g f (kind a) t s
stops_joined f g (m ∷ ys) (a ∷ rest) s t = t

pub stops_front : (f : List Kind) (xs ys : List Token) → Stops f (xs ++ ys) → Stops f xs
stops_front f [] ys s = tt
stops_front f (x ∷ xs) ys s = s

pub stops_at : (f : List Kind) (rest : List Token) → at f rest ≡ false → Stops f rest
stops_at f [] e = tt
stops_at f (a ∷ rest) e = e

pub at_stops : (f : List Kind) (rest : List Token) → Stops f rest → at f rest ≡ false
at_stops f [] s = refl
at_stops f (a ∷ rest) s = s

pub stops_none : (rest : List Token) → Stops [] rest
stops_none [] = tt
stops_none (a ∷ rest) = refl

-- ---- the answer that is expected

pub expected-append : (most : ℕ) {A : Type 0} (xs ys : List Marked) (answer : Answer A) (rest : List Token)
    → expected most (xs ++ ys) answer rest ≡ expected most xs (expected most ys answer rest) (words ys ++ rest)
expected-append most [] ys answer rest = refl
expected-append most (m ∷ xs) ys answer rest =
    rw (words-append xs ys, append_assoc, expected-append most xs ys answer rest) refl

and_then-cut : {A B : Type 0} (b : Bool) (cut : List Token) (answer : Answer A) (f : A → Reader B)
    → and_then (if b then (Deep, cut) else answer) f ≡ (if b then (Deep, cut) else and_then answer f)
and_then-cut true cut answer f = refl
and_then-cut false cut answer f = refl

answered-cut : {A B : Type 0} (b : Bool) (cut : List Token) (h : A → B) (answer : Answer A)
    → answered h (if b then (Deep, cut) else answer) ≡ (if b then (Deep, cut) else answered h answer)
answered-cut true cut h answer = refl
answered-cut false cut h answer = refl

pub and_then-expected : (most : ℕ) {A B : Type 0} (ms : List Marked) (answer : Answer A) (rest : List Token) (f : A → Reader B)
    → and_then (expected most ms answer rest) f ≡ expected most ms (and_then answer f) rest
and_then-expected most [] answer rest f = refl
and_then-expected most (m ∷ ms) answer rest f =
    and_then-cut (nat_lt most m.0) _ (expected most ms answer rest) f ∙ rw (and_then-expected most ms answer rest f) refl

pub answered-expected : (most : ℕ) {A B : Type 0} (ms : List Marked) (h : A → B) (answer : Answer A) (rest : List Token)
    → answered h (expected most ms answer rest) ≡ expected most ms (answered h answer) rest
answered-expected most [] h answer rest = refl
answered-expected most (m ∷ ms) h answer rest =
    answered-cut (nat_lt most m.0) _ h (expected most ms answer rest) ∙ rw (answered-expected most ms h answer rest) refl
