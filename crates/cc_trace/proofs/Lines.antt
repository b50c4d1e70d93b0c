-- A line is read from the front of a text exactly where the line of an event stands there.
use Rattle.std.proofs.Common.{◌≡◌, ℕ, ◌<◌, ◌^◌, List, [], ◌∷◌, ◌++◌, Option, Some, None, refl, sym, ◌∙◌, ap, subst, arith, append_assoc}
use Rattle.std.specs.Prelude.{codes, decimal}
use Rattle.std.proofs.lemmas.Option.{none-some, same_Some}
use Rattle.cc_base.specs.declared.names.CallId.{CallId}
use Rattle.cc_base.specs.declared.names.Pid.{Pid}
use Rattle.cc_rules.specs.declared.event.Event.{Event}
use Rattle.cc_rules.specs.declared.event.Event.TheVariants.{Ask, Accept, Instant, Expire, Withdraw, Time, End}
use Rattle.cc_rules.specs.declared.event.Word.{Word}
use Rattle.cc_trace.specs.Reading.{◌>>=◌, accept_at, after_name_at, ask_at, event_at, expire_at, instant_at, names, number_at, row_at, small_at, time_at, withdraw_at, words}
use Rattle.cc_trace.specs.Text.{IsWithinBounds, fields, line, spaced, word_name}
use Rattle.cc_trace.specs.declared.names.Name.{Name}
use Rattle.cc_trace.specs.declared.names.Name.TheVariants as name
use Rattle.cc_trace.proofs.Decimals.{number_at-complete, number_at-sound}
use Rattle.cc_trace.proofs.Tables.{name_text, names-sound, words-complete, words-sound}

-- each field after a space, a newline, and a text after that
abbrev pub spaced_onto : List (List ℕ) → List ℕ → List ℕ
spaced_onto [] rest = 10 ∷ rest
spaced_onto (field ∷ fields) rest = 32 ∷ (field ++ spaced_onto fields rest)

spaced-onto : (fs : List (List ℕ)) (rest : List ℕ) → spaced fs ++ rest ≡ spaced_onto fs rest
spaced-onto [] rest = refl
spaced-onto (f ∷ fs) rest = ap (λ t. 32 ∷ t) (append_assoc f (spaced fs) rest ∙ ap (λ t. f ++ t) (spaced-onto fs rest))

-- a line and a text after it, field by field
pub line-onto : (e : Event) (rest : List ℕ) → line e ++ rest ≡ (fields e).0 ++ spaced_onto (fields e).1 rest
line-onto e rest = append_assoc (fields e).0 (spaced (fields e).1) rest ∙ ap (λ t. (fields e).0 ++ t) (spaced-onto (fields e).1 rest)

small-complete : (n : ℕ) (rest : List ℕ) → n < 2 ^ 32 → small_at 32 (decimal n ++ (32 ∷ rest)) ≡ Some (n, rest)
small-complete n rest h = number_at-complete 4294967295 32 n rest refl (omega arith) (omega (arith, h))

small-complete_last : (n : ℕ) (rest : List ℕ) → n < 2 ^ 32 → small_at 10 (decimal n ++ (10 ∷ rest)) ≡ Some (n, rest)
small-complete_last n rest h = number_at-complete 4294967295 10 n rest refl (omega arith) (omega (arith, h))

small-sound : (end : ℕ) (text rest : List ℕ) (n : ℕ) → small_at end text ≡ Some (n, rest) → (n < 2 ^ 32) × (text ≡ decimal n ++ (end ∷ rest))
small-sound end text rest n e = let s = number_at-sound 4294967295 end text rest n (omega arith) (omega arith) e in (omega (arith, s.0), s.1)

then : {A B : Type 0} (r : Option A) (f : A → Option B) (x : A) (y : Option B) → r ≡ Some x → f x ≡ y → (r >>= f) ≡ y
then r f x y e h = ap (λ r. r >>= f) e ∙ h

-- ---- each line is read

ask-complete : (p : Pid) (w : Word) (rest : List ℕ) → p.0 < 2 ^ 32 → ask_at (decimal p.0 ++ (32 ∷ (word_name w ++ (10 ∷ rest)))) ≡ Some (Ask p w, rest)
unfolding ask_at
ask-complete p w rest h =
    then _ _ _ _ (small-complete p.0 (word_name w ++ (10 ∷ rest)) h) (then _ _ _ _ (words-complete w rest) refl)

accept-complete : (p : Pid) (a : ℕ) (c : CallId) (rest : List ℕ) → p.0 < 2 ^ 32 → a < 2 ^ 32 → c.0 < 2 ^ 32
    → accept_at (decimal p.0 ++ (32 ∷ (decimal a ++ (32 ∷ (decimal c.0 ++ (10 ∷ rest)))))) ≡ Some (Accept p a c, rest)
unfolding accept_at
accept-complete p a c rest h k l =
    then _ _ _ _ (small-complete p.0 (decimal a ++ (32 ∷ (decimal c.0 ++ (10 ∷ rest)))) h)
    (then _ _ _ _ (small-complete a (decimal c.0 ++ (10 ∷ rest)) k) (then _ _ _ _ (small-complete_last c.0 rest l) refl))

instant-complete : (p : Pid) (a : ℕ) (rest : List ℕ) → p.0 < 2 ^ 32 → a < 2 ^ 32 → instant_at (decimal p.0 ++ (32 ∷ (decimal a ++ (10 ∷ rest)))) ≡ Some (Instant p a, rest)
unfolding instant_at
instant-complete p a rest h k =
    then _ _ _ _ (small-complete p.0 (decimal a ++ (10 ∷ rest)) h) (then _ _ _ _ (small-complete_last a rest k) refl)

expire-complete : (p : Pid) (a : ℕ) (rest : List ℕ) → p.0 < 2 ^ 32 → a < 2 ^ 32 → expire_at (decimal p.0 ++ (32 ∷ (decimal a ++ (10 ∷ rest)))) ≡ Some (Expire p a, rest)
unfolding expire_at
expire-complete p a rest h k =
    then _ _ _ _ (small-complete p.0 (decimal a ++ (10 ∷ rest)) h) (then _ _ _ _ (small-complete_last a rest k) refl)

withdraw-complete : (c : CallId) (rest : List ℕ) → c.0 < 2 ^ 32 → withdraw_at (decimal c.0 ++ (10 ∷ rest)) ≡ Some (Withdraw c, rest)
unfolding withdraw_at
withdraw-complete c rest h = then _ _ _ _ (small-complete_last c.0 rest h) refl

time-complete : (t : ℕ) (rest : List ℕ) → t < 2 ^ 64 → time_at (decimal t ++ (10 ∷ rest)) ≡ Some (Time t, rest)
unfolding time_at
time-complete t rest h = then _ _ _ _ (number_at-complete 18446744073709551615 10 t rest refl (omega arith) (omega (arith, h))) refl

onto-complete : (e : Event) (rest : List ℕ) → IsWithinBounds e → event_at ((fields e).0 ++ spaced_onto (fields e).1 rest) ≡ Some (e, rest)
unfolding event_at
onto-complete (Ask p w) rest h = ask-complete p w rest h
onto-complete (Accept p a c) rest h = accept-complete p a c rest h.0 h.1 h.2
onto-complete (Instant p a) rest h = instant-complete p a rest h.0 h.1
onto-complete (Expire p a) rest h = expire-complete p a rest h.0 h.1
onto-complete (Withdraw c) rest h = withdraw-complete c rest h
onto-complete (Time t) rest h = time-complete t rest h
onto-complete End rest h = refl

pub event-complete : (e : Event) (rest : List ℕ) → IsWithinBounds e → event_at (line e ++ rest) ≡ Some (e, rest)
event-complete e rest h = ap event_at (line-onto e rest) ∙ onto-complete e rest h

-- ---- what is read is a line

from_then : {A B : Type 0} (r : Option A) (f : A → Option B) (y : B) → (r >>= f) ≡ Some y → (x : A) × (r ≡ Some x) × (f x ≡ Some y)
from_then None f y e = absurd (none-some y e)
from_then (Some x) f y e = (x, refl, e)

-- the event is within its bounds, and the text is its line with this name in front
abbrev IsRest : List ℕ → List ℕ → Event × List ℕ → Type 0
IsRest name text found = IsWithinBounds found.0 × (name ++ text ≡ (fields found.0).0 ++ spaced_onto (fields found.0).1 found.1)

found_is : (name text : List ℕ) (x y : Event × List ℕ) → Some x ≡ Some y → IsRest name text x → IsRest name text y
found_is name text x y e h = let P : Event × List ℕ → Type 0 = λ z. IsRest name text z in subst P (same_Some x y e) h

ask-sound : (text : List ℕ) (x : Event × List ℕ) → ask_at text ≡ Some x → IsRest (codes "ask ") text x
unfolding ask_at
ask-sound text x e =
    let p = from_then (small_at 32 text) _ x e in
    let w = from_then (row_at words p.0.1) _ x p.2 in
    let pid = small-sound 32 text p.0.1 p.0.0 p.1 in
    let word : p.0.1 ≡ word_name w.0.0 ++ (10 ∷ w.0.1) = words-sound p.0.1 w.0.1 w.0.0 w.1 ∙ append_assoc (word_name w.0.0) (10 ∷ []) w.0.1 in
    found_is (codes "ask ") text _ x w.2
    (pid.0, ap (λ t. codes "ask " ++ t) (pid.1 ∙ ap (λ t. decimal p.0.0 ++ (32 ∷ t)) word))

accept-sound : (text : List ℕ) (x : Event × List ℕ) → accept_at text ≡ Some x → IsRest (codes "accept ") text x
unfolding accept_at
accept-sound text x e =
    let p = from_then (small_at 32 text) _ x e in
    let a = from_then (small_at 32 p.0.1) _ x p.2 in
    let c = from_then (small_at 10 a.0.1) _ x a.2 in
    let pid = small-sound 32 text p.0.1 p.0.0 p.1 in
    let alt = small-sound 32 p.0.1 a.0.1 a.0.0 a.1 in
    let call = small-sound 10 a.0.1 c.0.1 c.0.0 c.1 in
    found_is (codes "accept ") text _ x c.2
    ((pid.0, alt.0, call.0), ap (λ t. codes "accept " ++ t) (pid.1 ∙ ap (λ t. decimal p.0.0 ++ (32 ∷ t)) (alt.1 ∙ ap (λ t. decimal a.0.0 ++ (32 ∷ t)) call.1)))

instant-sound : (text : List ℕ) (x : Event × List ℕ) → instant_at text ≡ Some x → IsRest (codes "instant ") text x
unfolding instant_at
instant-sound text x e =
    let p = from_then (small_at 32 text) _ x e in
    let a = from_then (small_at 10 p.0.1) _ x p.2 in
    let pid = small-sound 32 text p.0.1 p.0.0 p.1 in
    let alt = small-sound 10 p.0.1 a.0.1 a.0.0 a.1 in
    found_is (codes "instant ") text _ x a.2
    ((pid.0, alt.0), ap (λ t. codes "instant " ++ t) (pid.1 ∙ ap (λ t. decimal p.0.0 ++ (32 ∷ t)) alt.1))

expire-sound : (text : List ℕ) (x : Event × List ℕ) → expire_at text ≡ Some x → IsRest (codes "expire ") text x
unfolding expire_at
expire-sound text x e =
    let p = from_then (small_at 32 text) _ x e in
    let a = from_then (small_at 10 p.0.1) _ x p.2 in
    let pid = small-sound 32 text p.0.1 p.0.0 p.1 in
    let alt = small-sound 10 p.0.1 a.0.1 a.0.0 a.1 in
    found_is (codes "expire ") text _ x a.2
    ((pid.0, alt.0), ap (λ t. codes "expire " ++ t) (pid.1 ∙ ap (λ t. decimal p.0.0 ++ (32 ∷ t)) alt.1))

withdraw-sound : (text : List ℕ) (x : Event × List ℕ) → withdraw_at text ≡ Some x → IsRest (codes "withdraw ") text x
unfolding withdraw_at
withdraw-sound text x e =
    let c = from_then (small_at 10 text) _ x e in
    let call = small-sound 10 text c.0.1 c.0.0 c.1 in
    found_is (codes "withdraw ") text _ x c.2 (call.0, ap (λ t. codes "withdraw " ++ t) call.1)

time-sound : (text : List ℕ) (x : Event × List ℕ) → time_at text ≡ Some x → IsRest (codes "time ") text x
unfolding time_at
time-sound text x e =
    let t = from_then (number_at 18446744073709551615 10 text) _ x e in
    let moment = number_at-sound 18446744073709551615 10 text t.0.1 t.0.0 (omega arith) (omega arith) t.1 in
    found_is (codes "time ") text _ x t.2 (omega (arith, moment.0), ap (λ t. codes "time " ++ t) moment.1)

after_name-rest : (n : Name) (text : List ℕ) (x : Event × List ℕ) → after_name_at n text ≡ Some x → IsRest (name_text n) text x
after_name-rest name.Ask text x e = ask-sound text x e
after_name-rest name.Accept text x e = accept-sound text x e
after_name-rest name.Instant text x e = instant-sound text x e
after_name-rest name.Expire text x e = expire-sound text x e
after_name-rest name.Withdraw text x e = withdraw-sound text x e
after_name-rest name.Time text x e = time-sound text x e
after_name-rest name.End text x e = found_is (codes "end\n") text (End, text) x e (tt, refl)

pub event-sound : (text rest : List ℕ) (e : Event) → event_at text ≡ Some (e, rest) → IsWithinBounds e × (text ≡ line e ++ rest)
unfolding event_at
event-sound text rest e h =
    let n = from_then (row_at names text) _ (e, rest) h in
    let after = after_name-rest n.0.0 n.0.1 (e, rest) n.2 in
    (after.0, names-sound text n.0.1 n.0.0 n.1 ∙ after.1 ∙ sym (line-onto e rest))
