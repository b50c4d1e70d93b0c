-- A text begins with the lines of events, and goes on with what begins with no line: in one way.
use Rattle.std.proofs.Common.{◌≡◌, ◌≢◌, ◌⊎◌, ℕ, zero, suc, ◌+◌, ◌<◌, ◌≤◌, List, [], ◌∷◌, ◌++◌, length, take, get_or, Option, Some, None, refl, sym, ◌∙◌, ap, subst, inl, inr, arith, append_assoc, length-append}
use Rattle.std.specs.List.{AllByRecursion}
use Rattle.std.specs.Prelude.{slice_get}
use Rattle.std.proofs.lemmas.List.{append-nil, take_more}
use Rattle.std.proofs.lemmas.Option.{get_or_from_slice_get, none-some, slice_get-get_or, slice_get_within, some_pair_parts}
use Rattle.cc_rules.specs.declared.event.Event.{Event}
use Rattle.cc_rules.specs.declared.event.Event.TheVariants.{Ask, Accept, Instant, Expire, Withdraw, Time, End}
use Rattle.cc_trace.specs.Reading.{event_at}
use Rattle.cc_trace.specs.Text.{FirstBadLine, IsTextOf, IsWithinBounds, journal_text, line}
use Rattle.cc_trace.proofs.Lines.{event-complete, event-sound}

abbrev AreWithinBounds : List Event → Type 0
AreWithinBounds events = AllByRecursion IsWithinBounds events

-- the text begins with the line of no event within the bounds
abbrev NoLine : List ℕ → Type 0
NoLine text = (event : Event) (more : List ℕ) → IsWithinBounds event → text ≢ line event ++ more

-- no line is empty
some_line : (e : Event) → 0 < length (line e)
some_line (Ask p w) = omega arith
some_line (Accept p a c) = omega arith
some_line (Instant p a) = omega arith
some_line (Expire p a) = omega arith
some_line (Withdraw c) = omega arith
some_line (Time t) = omega arith
some_line End = omega arith

longer : (e : Event) (rest : List ℕ) → length rest < length (line e ++ rest)
longer e rest = omega (arith, length-append (line e) rest, some_line e)

none_begins : NoLine []
none_begins e more h eq = omega (arith, ap length eq, longer e more)

-- no line begins another
one_line : (e f : Event) (r s : List ℕ) → IsWithinBounds e → IsWithinBounds f → line e ++ r ≡ line f ++ s → (e ≡ f) × (r ≡ s)
one_line e f r s h k eq = some_pair_parts e f r s (sym (event-complete e r h) ∙ ap event_at eq ∙ event-complete f s k)

journal-cons : (e : Event) (es : List Event) (r : List ℕ) → journal_text (e ∷ es) ++ r ≡ line e ++ (journal_text es ++ r)
journal-cons e es r = append_assoc (line e) (journal_text es) r

joined : {A B : Type 0} (x y : A) (xs ys : List A) (r s : B) → x ≡ y → (xs ≡ ys) × (r ≡ s) → (x ∷ xs ≡ y ∷ ys) × (r ≡ s)
joined x y xs ys r s e h = (rw (e, h.0) refl, h.1)

-- a text is split in one way
pub one_split : (a b : List Event) (r s : List ℕ) → AreWithinBounds a → AreWithinBounds b → NoLine r → NoLine s
    → journal_text a ++ r ≡ journal_text b ++ s → (a ≡ b) × (r ≡ s)
one_split [] [] r s h k m n e = (refl, e)
one_split [] (f ∷ b) r s h k m n e = absurd (m f (journal_text b ++ s) k.0 (e ∙ journal-cons f b s))
one_split (f ∷ a) [] r s h k m n e = absurd (n f (journal_text a ++ r) h.0 (sym e ∙ journal-cons f a r))
one_split (f ∷ a) (g ∷ b) r s h k m n e =
    let parts = one_line f g (journal_text a ++ r) (journal_text b ++ s) h.0 k.0 (sym (journal-cons f a r) ∙ e ∙ journal-cons g b s) in
    joined f g a b r s parts.0 (one_split a b r s h.1 k.1 m n parts.1)

-- the text of one journal is that of no other
pub one_journal : (a b : List Event) → AreWithinBounds a → AreWithinBounds b → journal_text a ≡ journal_text b → a ≡ b
one_journal a b h k e =
    (one_split a b [] [] h k none_begins none_begins (append-nil (journal_text a) ∙ e ∙ sym (append-nil (journal_text b)))).0

pub one_bad : (text : List ℕ) (m n : ℕ) → FirstBadLine text m → FirstBadLine text n → m ≡ n
one_bad text m n x y =
    let same = one_split x.before y.before x.rest y.rest x.within_bounds y.within_bounds x.no_line y.no_line (sym x.text ∙ y.text) in
    omega (arith, x.number, y.number, ap length same.0)

pub no_bad : (text : List ℕ) (events : List Event) (n : ℕ) → IsTextOf text events → FirstBadLine text n → ⊥
no_bad text events n t x =
    let same = one_split events x.before [] x.rest t.within_bounds x.within_bounds none_begins x.no_line (append-nil (journal_text events) ∙ sym t.text ∙ x.text) in
    x.is_there (sym same.1)

-- what is read as no event begins with no line
pub no_event : (text : List ℕ) → event_at text ≡ None → NoLine text
no_event text e event more h eq = none-some (event, more) (sym e ∙ ap event_at eq ∙ event-complete event more h)

-- lines of events, and what begins with none
record Split (text : List ℕ) : Type 0 where
  before : List Event
  rest : List ℕ
  within_bounds : AreWithinBounds before
  text_is : text ≡ journal_text before ++ rest
  no_line : NoLine rest

split_more : (text rest : List ℕ) (e : Event) → IsWithinBounds e × (text ≡ line e ++ rest) → Split rest → Split text
split_more text rest e h s = record {
  before = e ∷ s.before;
  rest = s.rest;
  within_bounds = (h.0, s.within_bounds);
  text_is = h.1 ∙ ap (λ t. line e ++ t) s.text_is ∙ sym (journal-cons e s.before s.rest);
  no_line = s.no_line;
}

split_none : (text : List ℕ) → NoLine text → Split text
split_none text h = record { before = []; rest = text; within_bounds = tt; text_is = refl; no_line = h }

split_by : (fuel : ℕ) (text : List ℕ) (found : Option (Event × List ℕ)) → length text ≤ fuel → event_at text ≡ found
    → ((rest : List ℕ) → length rest < length text → Split rest) → Split text
split_by fuel text None h e next = split_none text (no_event text e)
split_by fuel text (Some found) h e next =
    let is = event-sound text found.1 found.0 e in
    split_more text found.1 found.0 is (next found.1 (omega (arith, ap length is.1, longer found.0 found.1)))

split_of : (fuel : ℕ) (text : List ℕ) → length text ≤ fuel → Split text
split_of zero text h = split_by zero text (event_at text) h refl (λ rest k. absurd (omega (arith, h, k)))
split_of (suc fuel) text h = split_by (suc fuel) text (event_at text) h refl (λ rest k. split_of fuel rest (omega (arith, h, k)))

text_or_bad : (text rest : List ℕ) (s : Split text) → s.rest ≡ rest → ((events : List Event) × IsTextOf text events) ⊎ ((n : ℕ) × FirstBadLine text n)
text_or_bad text [] s e = inl (s.before, record { within_bounds = s.within_bounds; text = s.text_is ∙ ap (λ r. journal_text s.before ++ r) e ∙ append-nil (journal_text s.before) })
text_or_bad text (b ∷ rest) s e = inr (
  length s.before + 1,
  record {
    before = s.before;
    rest = s.rest;
    within_bounds = s.within_bounds;
    text = s.text_is;
    number = refl;
    is_there = λ empty. let bad : b ∷ rest ≡ [] = sym e ∙ empty in cc;
    no_line = s.no_line;
  },
)

-- each text is that of a journal, or has a first bad line
pub text_of_or_bad : (text : List ℕ) → ((events : List Event) × IsTextOf text events) ⊎ ((n : ℕ) × FirstBadLine text n)
text_of_or_bad text = let s = split_of (length text) text (omega arith) in text_or_bad text s.rest s refl

-- ---- one more line

-- the events that were read so far, and the text that is left
pub record ReadSoFar (bytes : List ℕ) (events : List Event) (rest : List ℕ) : Type 0 where
  pub within_bounds : AreWithinBounds events
  pub text : bytes ≡ journal_text events ++ rest

all_push : (es : List Event) (e : Event) → AreWithinBounds es → IsWithinBounds e → AreWithinBounds (es ++ (e ∷ []))
all_push [] e h k = (k, tt)
all_push (f ∷ es) e h k = (h.0, all_push es e h.1 k)

pub text_push : (es : List Event) (e : Event) (r : List ℕ) → journal_text (es ++ (e ∷ [])) ++ r ≡ journal_text es ++ (line e ++ r)
text_push [] e r = append_assoc (line e) [] r
text_push (f ∷ es) e r = journal-cons f (es ++ (e ∷ [])) r ∙ ap (λ t. line f ++ t) (text_push es e r) ∙ sym (journal-cons f es (line e ++ r))

pub read_none : (text : List ℕ) → ReadSoFar text [] text
read_none text = record { within_bounds = tt; text = refl }

pub read_more : (text : List ℕ) (events : List Event) (rest after : List ℕ) (e : Event) → ReadSoFar text events rest → event_at rest ≡ Some (e, after)
    → ReadSoFar text (events ++ (e ∷ [])) after
read_more text events rest after e so_far found =
    let is = event-sound rest after e found in
    record {
      within_bounds = all_push events e so_far.within_bounds is.0;
      text = so_far.text ∙ ap (λ t. journal_text events ++ t) is.1 ∙ sym (text_push events e after);
    }

pub read_all : (text : List ℕ) (events : List Event) → ReadSoFar text events [] → IsTextOf text events
read_all text events s = record { within_bounds = s.within_bounds; text = s.text ∙ append-nil (journal_text events) }

pub read_bad : (text : List ℕ) (events : List Event) (rest : List ℕ) → ReadSoFar text events rest → rest ≢ [] → event_at rest ≡ None → FirstBadLine text (length events + 1)
read_bad text events rest s there none = record {
  before = events;
  rest = rest;
  within_bounds = s.within_bounds;
  text = s.text;
  number = refl;
  is_there = there;
  no_line = no_event rest none;
}

pub one_read : (text : List ℕ) (a b : List Event) → IsTextOf text a → IsTextOf text b → a ≡ b
one_read text a b x y = one_journal a b x.within_bounds y.within_bounds (sym x.text ∙ y.text)

-- a line has bytes of its own
pub shorter_after : (rest after : List ℕ) (e : Event) → event_at rest ≡ Some (e, after) → length after < length rest
shorter_after rest after e found = let is = event-sound rest after e found in omega (arith, ap length is.1, longer e after)

pub empty_of : (rest : List ℕ) → length rest ≡ 0 → rest ≡ []
empty_of [] e = refl
empty_of (b ∷ rest) e = absurd (omega (arith, e))

pub some_of : (rest : List ℕ) → 0 < length rest → rest ≢ []
some_of rest h e = omega (arith, h, ap length e)

-- ---- one more line written

journal_push : (es : List Event) (e : Event) → journal_text (es ++ (e ∷ [])) ≡ journal_text es ++ line e
journal_push es e = sym (append-nil (journal_text (es ++ (e ∷ [])))) ∙ text_push es e [] ∙ ap (λ l. journal_text es ++ l) (append-nil (line e))

pub take_next : (events : List Event) (i : ℕ) (e : Event) → slice_get events i ≡ Some e → take (i + 1) events ≡ take i events ++ (e ∷ [])
take_next events i e at = take_more events i e (slice_get_within events i e at) ∙ ap (λ (x : Event). take i events ++ (x ∷ [])) (get_or_from_slice_get events i e e at)

pub bounds_more : (events : List Event) (i : ℕ) (e : Event) → slice_get events i ≡ Some e → IsWithinBounds e → AreWithinBounds (take i events) → AreWithinBounds (take (i + 1) events)
bounds_more events i e at ok all = subst AreWithinBounds (sym (take_next events i e at)) (all_push (take i events) e all ok)

pub line_more : (events : List Event) (i : ℕ) (e : Event) (text : List ℕ) → slice_get events i ≡ Some e → text ≡ journal_text (take i events) → text ++ line e ≡ journal_text (take (i + 1) events)
line_more events i e text at is = ap (λ t. t ++ line e) is ∙ sym (ap journal_text (take_next events i e at) ∙ journal_push (take i events) e)

-- below the length an event stands
pub is_there : (events : List Event) (i : ℕ) → i < length events → slice_get events i ≡ None → ⊥
is_there events i h none = none-some (get_or events i End) (sym none ∙ slice_get-get_or events i End h)
