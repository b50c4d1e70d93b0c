-- The order of deadlines, and lists in that order.
use Rattle.std.proofs.Common.{◌≡◌, ℕ, ◌<◌, ◌≤◌, Bool, true, false, cond, ◌||◌, ◌&&◌, eqb, ltb, List, [], ◌∷◌, ◌++◌, length, Option, Some, None, filter, refl, sym, ap, ◌∙◌, subst, inl, inr, ◌⊎◌, arith, All, Contains}
use Rattle.std.specs.List.{AllByRecursion}
use Rattle.std.proofs.lemmas.Bool.{true≢false, false≢true, ltb-true, ltb-false, eqb-true, eqb-false, lt-ltb, le-ltb, eq-eqb, or_cases, or_left, or_right, or_from, or_parts, and_parts, and_from, and_cases, cond-true, cond-false, false_from_ne_true, both_ways}
use Rattle.std.proofs.lemmas.List.Elements.{filter-append, All-from_recursion}
use Rattle.cc_timer.specs.Deadlines.{is_named_before, is_due_before, IsBeforeAll, AreInOrder, with_deadline, without_deadline, IsFirst, first}
use Rattle.cc_timer.specs.declared.who.Who.{Who}
use Rattle.cc_timer.specs.declared.who.Who.TheVariants.{Process, Call}

named_irreflexive : (a : Who) → is_named_before a a ≡ false
named_irreflexive (Process p) = le-ltb p.0 p.0 (omega arith)
named_irreflexive (Call c) = le-ltb c.0 c.0 (omega arith)

named_transitive : (a b c : Who) → is_named_before a b ≡ true → is_named_before b c ≡ true → is_named_before a c ≡ true
named_transitive (Process p) (Process q) (Process r) h k = lt-ltb p.0 r.0 (omega (arith, ltb-true p.0 q.0 h, ltb-true q.0 r.0 k))
named_transitive (Process p) (Process q) (Call r) h k = refl
named_transitive (Process p) (Call q) (Process r) h k = absurd (false≢true k)
named_transitive (Process p) (Call q) (Call r) h k = refl
named_transitive (Call p) (Process q) (Process r) h k = absurd (false≢true h)
named_transitive (Call p) (Process q) (Call r) h k = absurd (false≢true h)
named_transitive (Call p) (Call q) (Process r) h k = absurd (false≢true k)
named_transitive (Call p) (Call q) (Call r) h k = lt-ltb p.0 r.0 (omega (arith, ltb-true p.0 q.0 h, ltb-true q.0 r.0 k))

named_same : (a b : Who) → is_named_before a b ≡ false → is_named_before b a ≡ false → a ≡ b
named_same (Process p) (Process q) h k =
    let e : p.0 ≡ q.0 = omega (arith, ltb-false p.0 q.0 h, ltb-false q.0 p.0 k) in
    ap (λ n. Process (record { 0 = n })) e
named_same (Process p) (Call q) h k = absurd (true≢false h)
named_same (Call p) (Process q) h k = absurd (true≢false k)
named_same (Call p) (Call q) h k =
    let e : p.0 ≡ q.0 = omega (arith, ltb-false p.0 q.0 h, ltb-false q.0 p.0 k) in
    ap (λ n. Call (record { 0 = n })) e

-- what it is to be due before another
due_cases : (d e : ℕ × Who) → is_due_before d e ≡ true → (d.0 < e.0) ⊎ ((d.0 ≡ e.0) × (is_named_before d.1 e.1 ≡ true))
unfolding is_due_before
due_cases d e h =
    elim (or_cases (ltb d.0 e.0) (eqb d.0 e.0 && is_named_before d.1 e.1) h) [
      | inl p ↦ inl (ltb-true d.0 e.0 p)
      | inr p ↦ let q = and_parts (eqb d.0 e.0) (is_named_before d.1 e.1) p in inr (eqb-true d.0 e.0 q.0, q.1)
    ]

due_earlier : (d e : ℕ × Who) → d.0 < e.0 → is_due_before d e ≡ true
unfolding is_due_before
due_earlier d e h = or_left (ltb d.0 e.0) (eqb d.0 e.0 && is_named_before d.1 e.1) (lt-ltb d.0 e.0 h)

due_at_once : (d e : ℕ × Who) → d.0 ≡ e.0 → is_named_before d.1 e.1 ≡ true → is_due_before d e ≡ true
unfolding is_due_before
due_at_once d e h k =
    or_right (ltb d.0 e.0) (eqb d.0 e.0 && is_named_before d.1 e.1) (and_from (eqb d.0 e.0) (is_named_before d.1 e.1) (eq-eqb d.0 e.0 h) k)

not_due : (d e : ℕ × Who) → is_due_before d e ≡ false → (e.0 ≤ d.0) × ((d.0 ≡ e.0) → is_named_before d.1 e.1 ≡ false)
unfolding is_due_before
not_due d e h =
    let parts = or_parts (ltb d.0 e.0) (eqb d.0 e.0 && is_named_before d.1 e.1) h in (
      ltb-false d.0 e.0 parts.0,
      λ same. elim (and_cases (eqb d.0 e.0) (is_named_before d.1 e.1) parts.1) [
        | inl apart ↦ absurd (eqb-false d.0 e.0 apart same)
        | inr later ↦ later
      ],
    )

pub never_before_itself : (d : ℕ × Who) → is_due_before d d ≡ false
never_before_itself d =
    false_from_ne_true (is_due_before d d)
    (λ h. elim (due_cases d d h) [ inl p ↦ omega arith | inr p ↦ false≢true (sym (named_irreflexive d.1) ∙ p.1) ])

pub before_before : (a b c : ℕ × Who) → is_due_before a b ≡ true → is_due_before b c ≡ true → is_due_before a c ≡ true
before_before a b c h k =
    elim (due_cases a b h) [
      | inl p ↦
          elim (due_cases b c k) [
            | inl q ↦ due_earlier a c (omega arith)
            | inr q ↦ let e : b.0 ≡ c.0 = q.0 in due_earlier a c (omega arith)
          ]
      | inr p ↦
          let e : a.0 ≡ b.0 = p.0 in
          elim (due_cases b c k) [
            | inl q ↦ due_earlier a c (omega arith)
            | inr q ↦ due_at_once a c (p.0 ∙ q.0) (named_transitive a.1 b.1 c.1 p.1 q.1)
          ]
    ]

pub not_both_ways : (a b : ℕ × Who) → is_due_before a b ≡ true → is_due_before b a ≡ false
not_both_ways a b h =
    false_from_ne_true (is_due_before b a) (λ k. both_ways (is_due_before a a) (never_before_itself a) (before_before a b a h k))

pub same_deadline : (a b : ℕ × Who) → is_due_before a b ≡ false → is_due_before b a ≡ false → a ≡ b
same_deadline a b h k =
    let p = not_due a b h in
    let q = not_due b a k in
    let e : a.0 ≡ b.0 = omega (arith, p.0, q.0) in
    let f : a.1 ≡ b.1 = named_same a.1 b.1 (p.1 e) (q.1 (sym e)) in
    λ i. (e i, f i)

-- an earlier deadline has no later moment
pub no_later : (a b : ℕ × Who) → is_due_before a b ≡ true → a.0 ≤ b.0
no_later a b h = elim (due_cases a b h) [ inl p ↦ omega arith | inr p ↦ let e : a.0 ≡ b.0 = p.0 in omega arith ]

-- each of these is due before d
abbrev pub AreBefore : List (ℕ × Who) → ℕ × Who → Type 0
AreBefore [] d = Unit {0}
AreBefore (x ∷ xs) d = (is_due_before x d ≡ true) × AreBefore xs d

IsBeforeAll-later : (d e : ℕ × Who) (es : List (ℕ × Who)) → is_due_before d e ≡ true → IsBeforeAll e es → IsBeforeAll d es
IsBeforeAll-later d e [] h k = tt
IsBeforeAll-later d e (x ∷ xs) h k = (before_before d e x h k.0, IsBeforeAll-later d e xs h k.1)

AreBefore-later : (xs : List (ℕ × Who)) (d e : ℕ × Who) → is_due_before d e ≡ true → AreBefore xs d → AreBefore xs e
AreBefore-later [] d e h k = tt
AreBefore-later (x ∷ xs) d e h k = (before_before x d e k.0 h, AreBefore-later xs d e h k.1)

IsBeforeAll-front : (d : ℕ × Who) (l m : List (ℕ × Who)) → IsBeforeAll d (l ++ m) → IsBeforeAll d l
IsBeforeAll-front d [] m h = tt
IsBeforeAll-front d (x ∷ l) m h = (h.0, IsBeforeAll-front d l m h.1)

IsBeforeAll-middle : (d : ℕ × Who) (l : List (ℕ × Who)) (k : ℕ × Who) (r : List (ℕ × Who)) → IsBeforeAll d (l ++ k ∷ r) → is_due_before d k ≡ true
IsBeforeAll-middle d [] k r h = h.0
IsBeforeAll-middle d (x ∷ l) k r h = IsBeforeAll-middle d l k r h.1

-- what is known of the two sides of a deadline
pub record Around (l : List (ℕ × Who)) (k : ℕ × Who) (r : List (ℕ × Who)) : Type 0 where
  pub left : AreInOrder l
  pub right : AreInOrder r
  pub below : AreBefore l k
  pub above : IsBeforeAll k r

pub around : (l : List (ℕ × Who)) (k : ℕ × Who) (r : List (ℕ × Who)) → AreInOrder (l ++ k ∷ r) → Around l k r
around [] k r s = record { left = tt; right = s.1; below = tt; above = s.0 }
around (x ∷ l) k r s =
    let rest = around l k r s.1 in
    record {
      left = (IsBeforeAll-front x l (k ∷ r) s.0, rest.left);
      right = rest.right;
      below = (IsBeforeAll-middle x l k r s.0, rest.below);
      above = rest.above;
    }

-- a deadline put among those of two sides
spread : (a b : Bool) (d y : ℕ × Who) (l m u v : List (ℕ × Who)) → v ≡ u ++ m → cond a (d ∷ y ∷ (l ++ m)) (cond b (y ∷ v) (y ∷ (l ++ m))) ≡ cond a (d ∷ y ∷ l) (cond b (y ∷ u) (y ∷ l)) ++ m
spread true b d y l m u v e = refl
spread false true d y l m u v e = ap (λ z. y ∷ z) e
spread false false d y l m u v e = refl

pub with_left : (d : ℕ × Who) (l : List (ℕ × Who)) (k : ℕ × Who) (r : List (ℕ × Who)) → is_due_before d k ≡ true → with_deadline d (l ++ k ∷ r) ≡ with_deadline d l ++ k ∷ r
with_left d [] k r p = cond-true (is_due_before d k) _ _ p
with_left d (y ∷ l) k r p =
    spread (is_due_before d y) (is_due_before y d) d y l (k ∷ r) (with_deadline d l) (with_deadline d (l ++ k ∷ r)) (with_left d l k r p)

past : (d y : ℕ × Who) (l : List (ℕ × Who)) → is_due_before y d ≡ true → with_deadline d (y ∷ l) ≡ y ∷ with_deadline d l
past d y l p = cond-false (is_due_before d y) _ _ (not_both_ways y d p) ∙ cond-true (is_due_before y d) _ _ p

pub with_right : (d : ℕ × Who) (l : List (ℕ × Who)) (k : ℕ × Who) (r : List (ℕ × Who)) → is_due_before k d ≡ true → AreBefore l k → with_deadline d (l ++ k ∷ r) ≡ l ++ k ∷ with_deadline d r
with_right d [] k r p b = past d k r p
with_right d (y ∷ l) k r p b = past d y (l ++ k ∷ r) (before_before y k d b.0 p) ∙ ap (λ z. y ∷ z) (with_right d l k r p b.1)

with_itself : (l : List (ℕ × Who)) (k : ℕ × Who) (r : List (ℕ × Who)) → AreBefore l k → with_deadline k (l ++ k ∷ r) ≡ l ++ k ∷ r
with_itself [] k r b = cond-false (is_due_before k k) _ _ (never_before_itself k) ∙ cond-false (is_due_before k k) _ _ (never_before_itself k)
with_itself (y ∷ l) k r b = past k y (l ++ k ∷ r) b.0 ∙ ap (λ z. y ∷ z) (with_itself l k r b.1)

pub with_same : (d : ℕ × Who) (l : List (ℕ × Who)) (k : ℕ × Who) (r : List (ℕ × Who)) → is_due_before d k ≡ false → is_due_before k d ≡ false → AreBefore l k → with_deadline d (l ++ k ∷ r) ≡ l ++ k ∷ r
with_same d l k r p q b =
    let P : ℕ × Who → Type 0 = λ x. with_deadline x (l ++ k ∷ r) ≡ l ++ k ∷ r in
    subst P (sym (same_deadline d k p q)) (with_itself l k r b)

IsBeforeAll-with : (x d : ℕ × Who) (ds : List (ℕ × Who)) → is_due_before x d ≡ true → IsBeforeAll x ds → IsBeforeAll x (with_deadline d ds)
IsBeforeAll-with x d [] p a = (p, tt)
IsBeforeAll-with x d (e ∷ es) p a =
    elim (is_due_before d e) as (λ b. IsBeforeAll x (cond b (d ∷ e ∷ es) (cond (is_due_before e d) (e ∷ with_deadline d es) (e ∷ es)))) [
      | true ↦ (p, a)
      | false ↦ elim (is_due_before e d) as (λ b. IsBeforeAll x (cond b (e ∷ with_deadline d es) (e ∷ es))) [ true ↦ (a.0, IsBeforeAll-with x d es p a.1) | false ↦ a ]
    ]

placed_in_order : (d e : ℕ × Who) (es more : List (ℕ × Who)) (b c : Bool) → is_due_before d e ≡ b → is_due_before e d ≡ c → AreInOrder (e ∷ es) → AreInOrder more → (is_due_before e d ≡ true → IsBeforeAll e more) → AreInOrder (cond b (d ∷ e ∷ es) (cond c (e ∷ more) (e ∷ es)))
placed_in_order d e es more true c p q s m above = ((p, IsBeforeAll-later d e es p s.0), s)
placed_in_order d e es more false true p q s m above = (above q, m)
placed_in_order d e es more false false p q s m above = s

pub with_in_order : (d : ℕ × Who) (ds : List (ℕ × Who)) → AreInOrder ds → AreInOrder (with_deadline d ds)
with_in_order d [] s = (tt, tt)
with_in_order d (e ∷ es) s =
    placed_in_order d e es (with_deadline d es) (is_due_before d e) (is_due_before e d) refl refl s (with_in_order d es s.1) (λ q. IsBeforeAll-with e d es q s.0)

-- whether a deadline stays where d goes
abbrev pub stays : ℕ × Who → ℕ × Who → Bool
stays d e = is_due_before d e || is_due_before e d

all_stay_above : (d : ℕ × Who) (es : List (ℕ × Who)) → IsBeforeAll d es → filter (stays d) es ≡ es
all_stay_above d [] a = refl
all_stay_above d (e ∷ es) a =
    cond-true (stays d e) _ _ (or_left (is_due_before d e) (is_due_before e d) a.0) ∙ ap (λ z. e ∷ z) (all_stay_above d es a.1)

all_stay_below : (d : ℕ × Who) (es : List (ℕ × Who)) → AreBefore es d → filter (stays d) es ≡ es
all_stay_below d [] a = refl
all_stay_below d (e ∷ es) a =
    cond-true (stays d e) _ _ (or_right (is_due_before d e) (is_due_before e d) a.0) ∙ ap (λ z. e ∷ z) (all_stay_below d es a.1)

pub without_left : (d : ℕ × Who) (l : List (ℕ × Who)) (k : ℕ × Who) (r : List (ℕ × Who)) → is_due_before d k ≡ true → IsBeforeAll k r → without_deadline d (l ++ k ∷ r) ≡ without_deadline d l ++ k ∷ r
without_left d l k r p above =
    filter-append (stays d) l (k ∷ r) ∙ ap (λ z. filter (stays d) l ++ z) (all_stay_above d (k ∷ r) (p, IsBeforeAll-later d k r p above))

pub without_right : (d : ℕ × Who) (l : List (ℕ × Who)) (k : ℕ × Who) (r : List (ℕ × Who)) → is_due_before k d ≡ true → AreBefore l k → without_deadline d (l ++ k ∷ r) ≡ l ++ k ∷ without_deadline d r
without_right d l k r p below =
    filter-append (stays d) l (k ∷ r)
    ∙ ap (λ z. z ++ filter (stays d) (k ∷ r)) (all_stay_below d l (AreBefore-later l k d p below))
    ∙ ap (λ z. l ++ z) (cond-true (stays d k) _ _ (or_right (is_due_before d k) (is_due_before k d) p))

without_itself : (l : List (ℕ × Who)) (k : ℕ × Who) (r : List (ℕ × Who)) → AreBefore l k → IsBeforeAll k r → without_deadline k (l ++ k ∷ r) ≡ l ++ r
without_itself l k r below above =
    filter-append (stays k) l (k ∷ r)
    ∙ ap (λ z. z ++ filter (stays k) (k ∷ r)) (all_stay_below k l below)
    ∙ ap (λ z. l ++ z) (cond-false (stays k k) _ _ (or_from (is_due_before k k) (is_due_before k k) (never_before_itself k) (never_before_itself k)) ∙ all_stay_above k r above)

pub without_same : (d : ℕ × Who) (l : List (ℕ × Who)) (k : ℕ × Who) (r : List (ℕ × Who)) → is_due_before d k ≡ false → is_due_before k d ≡ false → AreBefore l k → IsBeforeAll k r → without_deadline d (l ++ k ∷ r) ≡ l ++ r
without_same d l k r p q below above =
    let P : ℕ × Who → Type 0 = λ x. without_deadline x (l ++ k ∷ r) ≡ l ++ r in
    subst P (sym (same_deadline d k p q)) (without_itself l k r below above)

IsBeforeAll-filter : (test : ℕ × Who → Bool) (d : ℕ × Who) (es : List (ℕ × Who)) → IsBeforeAll d es → IsBeforeAll d (filter test es)
IsBeforeAll-filter test d [] a = tt
IsBeforeAll-filter test d (e ∷ es) a =
    elim (test e) as (λ b. IsBeforeAll d (cond b (e ∷ filter test es) (filter test es))) [
      | true ↦ (a.0, IsBeforeAll-filter test d es a.1)
      | false ↦ IsBeforeAll-filter test d es a.1
    ]

filter_in_order : (test : ℕ × Who → Bool) (es : List (ℕ × Who)) → AreInOrder es → AreInOrder (filter test es)
filter_in_order test [] s = tt
filter_in_order test (e ∷ es) s =
    elim (test e) as (λ b. AreInOrder (cond b (e ∷ filter test es) (filter test es))) [
      | true ↦ (IsBeforeAll-filter test e es s.0, filter_in_order test es s.1)
      | false ↦ filter_in_order test es s.1
    ]

pub without_in_order : (d : ℕ × Who) (ds : List (ℕ × Who)) → AreInOrder ds → AreInOrder (without_deadline d ds)
without_in_order d ds s = filter_in_order (stays d) ds s

-- the first of a list in order is the first of all
none_before : (d : ℕ × Who) (es : List (ℕ × Who)) → IsBeforeAll d es → AllByRecursion (λ e. is_due_before e d ≡ false) es
none_before d [] a = tt
none_before d (e ∷ es) a = (not_both_ways d e a.0, none_before d es a.1)

pub head_is_first : (d : ℕ × Who) (ds : List (ℕ × Who)) → AreInOrder ds → first ds ≡ Some d → IsFirst d ds
head_is_first d [] s e = absurd (cc)
head_is_first d (x ∷ xs) s e =
    let same : x ≡ d = cc in
    let P : ℕ × Who → Type 0 = λ y. IsFirst y (x ∷ xs) in
    let all = All-from_recursion (λ y. is_due_before y x ≡ false) (x ∷ xs) (never_before_itself x, none_before x xs s.0) in
    subst P same ((0, omega arith, refl), all)

none_earlier : (d : ℕ × Who) (es : List (ℕ × Who)) (now : ℕ) → now < d.0 → IsBeforeAll d es → AllByRecursion (λ (e : ℕ × Who). now < e.0) es
none_earlier d [] now h a = tt
none_earlier d (e ∷ es) now h a = (omega (arith, no_later d e a.0), none_earlier d es now h a.1)

pub none_due : (d : ℕ × Who) (ds : List (ℕ × Who)) (now : ℕ) → AreInOrder ds → first ds ≡ Some d → now < d.0 → All (λ (e : ℕ × Who). now < e.0) ds
none_due d [] now s e h = absurd (cc)
none_due d (x ∷ xs) now s e h =
    let same : x ≡ d = cc in
    let later : now < x.0 = rw same h in
    All-from_recursion (λ (y : ℕ × Who). now < y.0) (x ∷ xs) (later, none_earlier x xs now later s.0)

pub empty_from_no_first : (ds : List (ℕ × Who)) → first ds ≡ None → ds ≡ []
empty_from_no_first [] e = refl
empty_from_no_first (x ∷ xs) e = absurd (cc)

-- the first of two sides and what stands between
pub first_of_left : (l : List (ℕ × Who)) (d k : ℕ × Who) (r : List (ℕ × Who)) → first l ≡ Some d → first (l ++ k ∷ r) ≡ Some d
first_of_left [] d k r e = absurd (cc)
first_of_left (x ∷ l) d k r e = e

pub first_of_none : (l : List (ℕ × Who)) (k : ℕ × Who) (r : List (ℕ × Who)) → first l ≡ None → first (l ++ k ∷ r) ≡ Some k
first_of_none [] k r e = refl
first_of_none (x ∷ l) k r e = absurd (cc)

-- a deadline put into, or taken out of, one side
pub placed_left : (d k : ℕ × Who) (l r whole given new out : List (ℕ × Who)) → whole ≡ l ++ k ∷ r → is_due_before d k ≡ true → given ≡ l → new ≡ with_deadline d given → out ≡ new ++ k ∷ r → out ≡ with_deadline d whole
placed_left d k l r whole given new out w p g n o =
    o ∙ ap (λ z. z ++ k ∷ r) (n ∙ ap (with_deadline d) g) ∙ sym (with_left d l k r p) ∙ ap (with_deadline d) (sym w)

pub placed_right : (d k : ℕ × Who) (l r whole given new out : List (ℕ × Who)) → whole ≡ l ++ k ∷ r → is_due_before k d ≡ true → AreBefore l k → given ≡ r → new ≡ with_deadline d given → out ≡ l ++ k ∷ new → out ≡ with_deadline d whole
placed_right d k l r whole given new out w p b g n o =
    o ∙ ap (λ z. l ++ k ∷ z) (n ∙ ap (with_deadline d) g) ∙ sym (with_right d l k r p b) ∙ ap (with_deadline d) (sym w)

pub taken_left : (d k : ℕ × Who) (l r whole given new out : List (ℕ × Who)) → whole ≡ l ++ k ∷ r → is_due_before d k ≡ true → IsBeforeAll k r → given ≡ l → new ≡ without_deadline d given → out ≡ new ++ k ∷ r → out ≡ without_deadline d whole
taken_left d k l r whole given new out w p a g n o =
    o ∙ ap (λ z. z ++ k ∷ r) (n ∙ ap (without_deadline d) g) ∙ sym (without_left d l k r p a) ∙ ap (without_deadline d) (sym w)

pub taken_right : (d k : ℕ × Who) (l r whole given new out : List (ℕ × Who)) → whole ≡ l ++ k ∷ r → is_due_before k d ≡ true → AreBefore l k → given ≡ r → new ≡ without_deadline d given → out ≡ l ++ k ∷ new → out ≡ without_deadline d whole
taken_right d k l r whole given new out w p b g n o =
    o ∙ ap (λ z. l ++ k ∷ z) (n ∙ ap (without_deadline d) g) ∙ sym (without_right d l k r p b) ∙ ap (without_deadline d) (sym w)
