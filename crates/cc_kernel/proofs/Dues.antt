-- A process that waits until a moment expires by the alternative of least deadline, the first written on a tie.
use Rattle.std.proofs.Common.{◌≡◌, ◌⊎◌, inl, inr, ℕ, zero, suc, ◌+◌, ◌<◌, ◌≤◌, Bool, true, false, ◌&&◌, ◌||◌, not, List, [], ◌∷◌, ◌++◌, refl, sym, ap, ◌∙◌, arith, min, nat_eq, Option, Some, None}
use Rattle.std.specs.Prelude.{filter_map, if◌then◌else◌, nat_le, nat_lt}
use Rattle.std.specs.List.{cons_option, list_all}
use Rattle.std.specs.Option.{option_map, option_map_or}
use Rattle.std.proofs.lemmas.Bool.{eq-eqb, eqb-true, false_from_ne_true, le-leb, lt-leb, lt-ltb}
use Rattle.std.proofs.lemmas.Bool.Decides.{nat_tests}
use Rattle.cc_base.specs.Alternatives.{NumbersRise, numbered}
use Rattle.cc_base.specs.Meaning.{Meaning}
use Rattle.cc_base.specs.declared.alternatives.Alt.{Alt}
use Rattle.cc_kernel.specs.Contract.{least_of}
use Rattle.cc_kernel.specs.Due.{alternative_due, due_of, earlier, select_due}
use Rattle.cc_kernel.specs.Store.{AreNumbered}
use Rattle.cc_kernel.specs.Timed.{deadline_of}
use Rattle.cc_kernel.specs.declared.due.Due.{Due}
use Rattle.cc_rules.specs.Choice.{alternative_deadline, expires_at, expires_before, has_eligible, has_immediate, is_first_due}
use Rattle.cc_rules.specs.State.{State}
use Rattle.cc_rules.specs.declared.process.ProcessStanding.{ProcessStanding}
use Rattle.cc_rules.specs.declared.process.ProcessStanding.TheVariants.{Running, AtSelect, AtDelay, AtCall, Ended, Faulted}

le-of : (a b : ℕ) → nat_le a b ≡ true → a ≤ b
le-of a b e = grind (arith, nat_tests)

lt-of : (a b : ℕ) → nat_le a b ≡ false → b < a
lt-of a b e = grind (arith, nat_tests)

earlier-none : (o : Option Due) → earlier o None ≡ o
earlier-none None = refl
earlier-none (Some d) = refl

earlier-three : (a b c : Option Due) → earlier (earlier a b) c ≡ earlier a (earlier b c)
earlier-three None b c = refl
earlier-three (Some a) None c = refl
earlier-three (Some a) (Some b) None = earlier-none (earlier (Some a) (Some b))
earlier-three (Some a) (Some b) (Some c) = by (nat_le a.deadline b.deadline) (nat_le b.deadline c.deadline) refl refl
  where
    by :
        (p q : Bool)
        → nat_le a.deadline b.deadline ≡ p
        → nat_le b.deadline c.deadline ≡ q
        → earlier (if p then Some a else Some b) (Some c) ≡ earlier (Some a) (if q then Some b else Some c)
    by true true e f =
        let x = le-of a.deadline b.deadline e in
        let y = le-of b.deadline c.deadline f in
        ap (λ t. if t then Some a else Some c) (le-leb a.deadline c.deadline (omega (arith, x, y))) ∙ sym (ap (λ t. if t then Some a else Some b) e)
    by true false e f = refl
    by false true e f = ap (λ t. if t then Some b else Some c) f ∙ sym (ap (λ t. if t then Some a else Some b) e)
    by false false e f =
        let x = lt-of a.deadline b.deadline e in
        let y = lt-of b.deadline c.deadline f in
        ap (λ t. if t then Some b else Some c) f ∙ sym (ap (λ t. if t then Some a else Some c) (lt-leb a.deadline c.deadline (omega (arith, x, y))))

-- one alternative more
pub select-more : (asked : ℕ) (xs : List (ℕ × Alt)) (x : ℕ × Alt) → select_due asked (xs ++ x ∷ []) ≡ earlier (select_due asked xs) (alternative_due asked x)
select-more asked [] x = earlier-none (alternative_due asked x)
select-more asked (y ∷ xs) x =
    ap (earlier (alternative_due asked y)) (select-more asked xs x)
    ∙ sym (earlier-three (alternative_due asked y) (select_due asked xs) (alternative_due asked x))

-- the lesser of two, where both are there
abbrev lesser : Option ℕ → Option ℕ → Option ℕ
lesser None b = b
lesser (Some n) None = Some n
lesser (Some n) (Some k) = Some (min n k)

least-more : (o : Option ℕ) (ns : List ℕ) → least_of (cons_option o ns) ≡ lesser o (least_of ns)
least-more None ns = refl
least-more (Some n) [] = refl
least-more (Some n) (k ∷ ns) = refl

abbrev moment_of : Option Due → Option ℕ
moment_of o = option_map (λ d. d.deadline) o

lesser-earlier : (a b : Option Due) → lesser (moment_of a) (moment_of b) ≡ moment_of (earlier a b)
lesser-earlier None b = refl
lesser-earlier (Some a) None = refl
lesser-earlier (Some a) (Some b) = by (nat_le a.deadline b.deadline) refl
  where
    by : (p : Bool) → nat_le a.deadline b.deadline ≡ p → Some (min a.deadline b.deadline) ≡ moment_of (if p then Some a else Some b)
    by true e = let x = le-of a.deadline b.deadline e in let least : min a.deadline b.deadline ≡ a.deadline = omega (arith, x) in ap Some least
    by false e = let x = lt-of a.deadline b.deadline e in let least : min a.deadline b.deadline ≡ b.deadline = omega (arith, x) in ap Some least

own-moment : (i : ℕ) (o : Option ℕ) → moment_of (option_map (λ deadline. record { deadline = deadline; alt = i }) o) ≡ o
own-moment i None = refl
own-moment i (Some n) = refl

select-moment : (asked : ℕ) (alts : List (ℕ × Alt)) → least_of (filter_map (λ a. alternative_deadline asked a.1) alts) ≡ moment_of (select_due asked alts)
select-moment asked [] = refl
select-moment asked (a ∷ alts) =
    least-more (alternative_deadline asked a.1) (filter_map (λ (b : ℕ × Alt). alternative_deadline asked b.1) alts)
    ∙ ap (lesser (alternative_deadline asked a.1)) (select-moment asked alts)
    ∙ ap (λ o. lesser o (moment_of (select_due asked alts))) (sym (own-moment a.0 (alternative_deadline asked a.1)))
    ∙ lesser-earlier (alternative_due asked a) (select_due asked alts)

-- the moment at which it expires is its deadline
pub due-moment : (x : ProcessStanding) → deadline_of x ≡ moment_of (due_of x)
due-moment Running = refl
due-moment (AtSelect alts asked) = select-moment asked alts
due-moment (AtDelay deadline) = refl
due-moment (AtCall call) = refl
due-moment Ended = refl
due-moment (Faulted kind) = refl

pub due-deadline : (x : ProcessStanding) (d : Due) → due_of x ≡ Some d → deadline_of x ≡ Some d.deadline
due-deadline x d e = due-moment x ∙ ap moment_of e

pub no-due : (x : ProcessStanding) → due_of x ≡ None → deadline_of x ≡ None
no-due x e = due-moment x ∙ ap moment_of e

-- a process with a deadline expires
pub some-due : (x : ProcessStanding) (n : ℕ) → deadline_of x ≡ Some n → due_of x ≡ None → ⊥
some-due x n e none = let never : Some n ≡ None = sym e ∙ no-due x none in cc

-- the numbers of the alternatives rise from n on
abbrev RiseFrom : ℕ → List (ℕ × Alt) → Type 0
RiseFrom n [] = Unit {0}
RiseFrom n (a ∷ alts) = (n ≤ a.0) × RiseFrom (a.0 + 1) alts

rise-from : (n : ℕ) (a : ℕ × Alt) (alts : List (ℕ × Alt)) → NumbersRise (a ∷ alts) → n ≤ a.0 → RiseFrom n (a ∷ alts)
rise-from n a [] rise le = (le, tt)
rise-from n a (b ∷ alts) rise le =
    let lt : a.0 < b.0 = rise zero (suc zero) a (omega arith) (omega arith) in
    (le, rise-from (a.0 + 1) b alts (λ i k d below within. rise (suc i) (suc k) d (omega arith) (omega arith)) (omega arith))

rise-all : (alts : List (ℕ × Alt)) → NumbersRise alts → RiseFrom 0 alts
rise-all [] rise = tt
rise-all (a ∷ alts) rise = rise-from 0 a alts rise (omega arith)

one-of : (a b : Option Due) (d : Due) → earlier a b ≡ Some d → (a ≡ Some d) ⊎ (b ≡ Some d)
one-of None b d e = inr e
one-of (Some a) None d e = inl e
one-of (Some a) (Some b) d e = by (nat_le a.deadline b.deadline) e
  where
    by : (p : Bool) → (if p then Some a else Some b) ≡ Some d → (Some a ≡ Some d) ⊎ (Some b ≡ Some d)
    by true h = inl h
    by false h = inr h

-- an alternative that is due has the number and the deadline
own-due : (i : ℕ) (o : Option ℕ) (d : Due) → option_map (λ deadline. record { deadline = deadline; alt = i }) o ≡ Some d → (i ≡ d.alt) × (o ≡ Some d.deadline)
own-due i None d e = cc
own-due i (Some n) d e =
    let same : record { deadline = n; alt = i } ≡ d = cc in
    (ap (λ (x : Due). x.alt) same, ap (λ (x : Due). Some x.deadline) same)

due-above : (asked n : ℕ) (alts : List (ℕ × Alt)) (d : Due) → RiseFrom n alts → select_due asked alts ≡ Some d → n ≤ d.alt
due-above asked n [] d rise e = cc
due-above asked n (a ∷ alts) d rise e =
    elim (one-of (alternative_due asked a) (select_due asked alts) d e) [
      | inl own ↦
          let same = (own-due a.0 (alternative_deadline asked a.1) d own).0 in
          let le : n ≤ a.0 = rise.0 in
          omega (arith, same, le)
      | inr later ↦
          let le : n ≤ a.0 = rise.0 in
          let above : a.0 + 1 ≤ d.alt = due-above asked (a.0 + 1) alts d rise.1 later in
          omega (arith, le, above)
    ]

if-so : {A : Type 0} (b : Bool) (x y : A) → b ≡ true → (if b then x else y) ≡ x
if-so true x y h = refl
if-so false x y h = cc

if-not : {A : Type 0} (b : Bool) (x y : A) → b ≡ false → (if b then x else y) ≡ y
if-not true x y h = cc
if-not false x y h = refl

-- it stands under its number
due-found :
    (asked n : ℕ) (alts : List (ℕ × Alt)) (d : Due)
    → RiseFrom n alts
    → select_due asked alts ≡ Some d
    → (a : Alt) × (numbered alts d.alt ≡ Some a) × (alternative_deadline asked a ≡ Some d.deadline)
due-found asked n [] d rise e = cc
due-found asked n (a ∷ alts) d rise e =
    elim (one-of (alternative_due asked a) (select_due asked alts) d e) [
      | inl own ↦
          let is = own-due a.0 (alternative_deadline asked a.1) d own in
          (a.1, if-so (nat_eq a.0 d.alt) (Some a.1) (numbered alts d.alt) (eq-eqb a.0 d.alt is.0), is.1)
      | inr later ↦
          let found = due-found asked (a.0 + 1) alts d rise.1 later in
          let above : a.0 + 1 ≤ d.alt = due-above asked (a.0 + 1) alts d rise.1 later in
          let other : nat_eq a.0 d.alt ≡ false = false_from_ne_true (nat_eq a.0 d.alt) (λ h. let same = eqb-true a.0 d.alt h in omega (arith, same, above)) in
          (found.0, if-not (nat_eq a.0 d.alt) (Some a.1) (numbered alts d.alt) other ∙ found.1, found.2)
    ]

-- the first comes no later than the other, and has no greater number on a tie
abbrev IsNoLater : Due → Option Due → Type 0
IsNoLater d None = Unit {0}
IsNoLater d (Some e) = (d.deadline < e.deadline) ⊎ ((d.deadline ≤ e.deadline) × (d.alt ≤ e.alt))

before : (d n e k : ℕ) → (d < e) ⊎ ((d ≤ e) × (n ≤ k)) → (nat_lt d e || nat_le d e && nat_le n k) ≡ true
before d n e k (inl lt) = ap (λ b. b || nat_le d e && nat_le n k) (lt-ltb d e lt)
before d n e k (inr le) = rw (le-leb d e le.0, le-leb n k le.1) (always (nat_lt d e))
  where
    always : (b : Bool) → (b || true) ≡ true
    always true = refl
    always false = refl

one-passes :
    (d : Due) (i : ℕ) (o : Option ℕ) (rest : Option Due)
    → ((e : Due) → rest ≡ Some e → i < e.alt)
    → IsNoLater d (earlier (option_map (λ deadline. record { deadline = deadline; alt = i }) o) rest)
    → (expires_before d.deadline d.alt o i ≡ true) × IsNoLater d rest
one-passes d i None rest above h = (refl, h)
one-passes d i (Some n) None above h = (before d.deadline d.alt n i h, tt)
one-passes d i (Some n) (Some e) above h = by (nat_le n e.deadline) refl h
  where
    tie : (n ≤ e.deadline) → (d.deadline < n) ⊎ ((d.deadline ≤ n) × (d.alt ≤ i)) → (d.deadline < e.deadline) ⊎ ((d.deadline ≤ e.deadline) × (d.alt ≤ e.alt))
    tie le (inl lt) = inl (omega (arith, le, lt))
    tie le (inr k) =
        let lt : i < e.alt = above e refl in
        let a : d.deadline ≤ n = k.0 in
        let b : d.alt ≤ i = k.1 in
        inr (omega (arith, le, a), omega (arith, b, lt))

    sooner : (e.deadline < n) → (d.deadline < e.deadline) ⊎ ((d.deadline ≤ e.deadline) × (d.alt ≤ e.alt)) → d.deadline < n
    sooner lt (inl k) = omega (arith, lt, k)
    sooner lt (inr k) = let a : d.deadline ≤ e.deadline = k.0 in omega (arith, lt, a)

    by :
        (p : Bool)
        → nat_le n e.deadline ≡ p
        → IsNoLater d (if p then Some (record { deadline = n; alt = i }) else Some e)
        → (expires_before d.deadline d.alt (Some n) i ≡ true) × IsNoLater d (Some e)
    by true q k = (before d.deadline d.alt n i k, tie (le-of n e.deadline q) k)
    by false q k = (before d.deadline d.alt n i (inl (sooner (lt-of n e.deadline q) k)), k)

-- it expires before all others
all-pass :
    (asked n : ℕ) (alts : List (ℕ × Alt)) (d : Due)
    → RiseFrom n alts
    → IsNoLater d (select_due asked alts)
    → list_all (λ b. expires_before d.deadline d.alt (alternative_deadline asked b.1) b.0) alts ≡ true
all-pass asked n [] d rise h = refl
all-pass asked n (a ∷ alts) d rise h =
    let one = one-passes d a.0 (alternative_deadline asked a.1) (select_due asked alts) (λ e is. let r : a.0 + 1 ≤ e.alt = due-above asked (a.0 + 1) alts e rise.1 is in omega (arith, r)) h in
    rw one.0 (all-pass asked (a.0 + 1) alts d rise.1 one.1)

first-due :
    (moment asked : ℕ) (alts : List (ℕ × Alt)) (d : Due)
    → NumbersRise alts
    → select_due asked alts ≡ Some d
    → d.deadline ≤ moment
    → is_first_due moment asked alts d.alt ≡ true
first-due moment asked alts d rise e le =
    let from = rise-all alts rise in
    let found = due-found asked 0 alts d from e in
    let self : IsNoLater d (select_due asked alts) = rw e (inr (omega arith, omega arith)) in
    rw (found.1, found.2, le-leb d.deadline moment le) (all-pass asked 0 alts d from self)

-- a process whose deadline has come expires, where it can take neither a call nor an immediate alternative
pub expires-now :
    (m : Meaning) (s : State) (p : ℕ) (x : ProcessStanding) (d : Due)
    → AreNumbered x
    → due_of x ≡ Some d
    → d.deadline ≤ s.moment
    → has_eligible m s p ≡ false
    → has_immediate s p ≡ false
    → expires_at m s p d.alt x ≡ true
expires-now m s p Running d rise e le idle free = cc
expires-now m s p (AtSelect alts asked) d rise e le idle free = rw (first-due s.moment asked alts d rise e le, idle, free) refl
expires-now m s p (AtDelay deadline) d rise e le idle free =
    let is = own-due 0 (Some deadline) d e in
    let same : Some deadline ≡ Some d.deadline = is.1 in
    let at : deadline ≡ d.deadline = cc in
    rw (← is.0, at, le-leb d.deadline s.moment le) refl
expires-now m s p (AtCall call) d rise e le idle free = cc
expires-now m s p Ended d rise e le idle free = cc
expires-now m s p (Faulted kind) d rise e le idle free = cc

-- each delay alternative has a deadline that is no earlier than the least
least-below :
    (asked i : ℕ) (alts : List (ℕ × Alt)) (a : Alt) (d : ℕ)
    → numbered alts i ≡ Some a
    → alternative_deadline asked a ≡ Some d
    → (n : ℕ) × (least_of (filter_map (λ b. alternative_deadline asked b.1) alts) ≡ Some n) × (n ≤ d)
least-below asked i [] a d e is = cc
least-below asked i (b ∷ alts) a d e is = by (nat_eq b.0 i) e (least-below asked i alts a d)
  where
    rest : List ℕ
    rest = filter_map (λ (x : ℕ × Alt). alternative_deadline asked x.1) alts

    with-own : (o : Option ℕ) → (n : ℕ) × (lesser (Some d) o ≡ Some n) × (n ≤ d)
    with-own None = (d, refl, omega arith)
    with-own (Some k) = (min d k, refl, omega arith)

    with-other : (o : Option ℕ) (k : ℕ) → k ≤ d → (n : ℕ) × (lesser o (Some k) ≡ Some n) × (n ≤ d)
    with-other None k le = (k, refl, le)
    with-other (Some j) k le = (min j k, refl, omega (arith, le))

    by :
        (p : Bool)
        → (if p then Some b.1 else numbered alts i) ≡ Some a
        → (numbered alts i ≡ Some a → alternative_deadline asked a ≡ Some d → (n : ℕ) × (least_of rest ≡ Some n) × (n ≤ d))
        → (n : ℕ) × (least_of (cons_option (alternative_deadline asked b.1) rest) ≡ Some n) × (n ≤ d)
    by true h more =
        let same : b.1 ≡ a = cc in
        let own : alternative_deadline asked b.1 ≡ Some d = ap (alternative_deadline asked) same ∙ is in
        let r = with-own (least_of rest) in
        (r.0, least-more (alternative_deadline asked b.1) rest ∙ ap (λ o. lesser o (least_of rest)) own ∙ r.1, r.2)
    by false h more =
        let found = more h is in
        let r = with-other (alternative_deadline asked b.1) found.0 found.2 in
        (r.0, least-more (alternative_deadline asked b.1) rest ∙ ap (lesser (alternative_deadline asked b.1)) found.1 ∙ r.1, r.2)

-- where the deadline has not come, it expires by no number
pub not-yet :
    (m : Meaning) (s : State) (p i : ℕ) (x : ProcessStanding)
    → ((n : ℕ) → deadline_of x ≡ Some n → s.moment < n)
    → expires_at m s p i x ≡ false
not-yet m s p i Running later = refl
not-yet m s p i (AtSelect alts asked) later =
    and-false (is_first_due s.moment asked alts i && not (has_eligible m s p)) (not (has_immediate s p))
    (and-false (is_first_due s.moment asked alts i) (not (has_eligible m s p)) (by (numbered alts i) refl))
  where
    and-false : (a b : Bool) → a ≡ false → (a && b) ≡ false
    and-false true b h = cc
    and-false false b h = refl

    here :
        (a : Alt) (o : Option ℕ)
        → numbered alts i ≡ Some a
        → alternative_deadline asked a ≡ o
        → option_map_or (λ deadline. nat_le deadline s.moment && list_all (λ b. expires_before deadline i (alternative_deadline asked b.1) b.0) alts) o false ≡ false
    here a None e is = refl
    here a (Some d) e is =
        let least = least-below asked i alts a d e is in
        let lt : s.moment < least.0 = later least.0 least.1 in
        let le : least.0 ≤ d = least.2 in
        and-false (nat_le d s.moment) (list_all (λ b. expires_before d i (alternative_deadline asked b.1) b.0) alts) (lt-leb d s.moment (omega (arith, lt, le)))

    by :
        (o : Option Alt)
        → numbered alts i ≡ o
        → option_map_or
        (λ a.
        option_map_or
        (λ deadline. nat_le deadline s.moment && list_all (λ b. expires_before deadline i (alternative_deadline asked b.1) b.0) alts)
        (alternative_deadline asked a)
        false)
        o
        false
        ≡ false
    by None e = refl
    by (Some a) e = here a (alternative_deadline asked a) e refl
not-yet m s p i (AtDelay deadline) later = and-behind (nat_eq i 0) (nat_le deadline s.moment) (lt-leb deadline s.moment (later deadline refl))
  where
    and-behind : (a b : Bool) → b ≡ false → (a && b) ≡ false
    and-behind true b h = h
    and-behind false b h = refl
not-yet m s p i (AtCall call) later = refl
not-yet m s p i Ended later = refl
not-yet m s p i (Faulted kind) later = refl
