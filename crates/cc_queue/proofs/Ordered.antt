-- Calls in the order of their numbers: such a list is known by the calls that stand in it.
use Rattle.std.proofs.Common.{◌≡◌, ◌≢◌, ℕ, suc, zero, ◌<◌, ◌≤◌, ◌⊎◌, Bool, true, false, cond, not, eqb, ltb, List, [], ◌∷◌, ◌++◌, length, get_or, Option, Some, None, filter, refl, sym, ap, ◌∙◌, subst, inl, inr, arith, All, Contains}
use Rattle.std.specs.List.{AllByRecursion}
use Rattle.std.specs.Option.{option_map}
use Rattle.std.proofs.lemmas.Bool.{ltb-true, ltb-false, eqb-true, eq-eqb, ne_eqb, false≢true, cond-true, cond-false, not-false}
use Rattle.std.proofs.lemmas.List.Sums.{length-filter, count_by-le-length}
use Rattle.std.proofs.lemmas.List.Elements.{All-from_recursion, recursion_from_All}
use Rattle.cc_queue.specs.Calls.{AreRising, IsBelow}
use Rattle.cc_queue.specs.Kept.{held_calls, put_in_order, in_order}
use Rattle.cc_queue.specs.declared.call.PendingCall.{PendingCall}
use Rattle.cc_queue.specs.declared.node.Node.{Node}

-- the call stands in the list
abbrev pub Among : PendingCall → List PendingCall → Type 0
Among c [] = ⊥
Among c (d ∷ ds) = (d ≡ c) ⊎ Among c ds

-- no call of the list has the number of this one
abbrev pub Differs : PendingCall → List PendingCall → Type 0
Differs c cs = (d : PendingCall) → Among d cs → d.number.0 ≢ c.number.0

abbrev pub AreDistinct : List PendingCall → Type 0
AreDistinct [] = Unit {0}
AreDistinct (c ∷ cs) = Differs c cs × AreDistinct cs

pub below_among : (c d : PendingCall) (cs : List PendingCall) → IsBelow c cs → Among d cs → c.number.0 < d.number.0
below_among c d [] b m = absurd m
below_among c d (e ∷ es) b (inl same) = subst (λ (z : PendingCall). c.number.0 < z.number.0) same b.0
below_among c d (e ∷ es) b (inr m) = below_among c d es b.1 m

below_later : (c d : PendingCall) (cs : List PendingCall) → c.number.0 < d.number.0 → IsBelow d cs → IsBelow c cs
below_later c d [] h b = tt
below_later c d (e ∷ es) h b = (omega (arith, b.0), below_later c d es h b.1)

-- a call put in order
put_cases : (c d e : PendingCall) (es more : List PendingCall) (b : Bool) → (Among c more → (d ≡ c) ⊎ Among c es) → Among c (cond b (d ∷ e ∷ es) (e ∷ more)) → (d ≡ c) ⊎ ((e ≡ c) ⊎ Among c es)
put_cases c d e es more true rest m = m
put_cases c d e es more false rest (inl same) = inr (inl same)
put_cases c d e es more false rest (inr m) = elim (rest m) [ inl same ↦ inl same | inr n ↦ inr (inr n) ]

among_put : (c d : PendingCall) (cs : List PendingCall) → Among c (put_in_order d cs) → (d ≡ c) ⊎ Among c cs
among_put c d [] m = m
among_put c d (e ∷ es) m = put_cases c d e es (put_in_order d es) (ltb d.number.0 e.number.0) (among_put c d es) m

put_itself : (d : PendingCall) (cs : List PendingCall) → Among d (put_in_order d cs)
put_itself d [] = inl refl
put_itself d (e ∷ es) =
    elim (ltb d.number.0 e.number.0) as (λ b. Among d (cond b (d ∷ e ∷ es) (e ∷ put_in_order d es))) [
      | true ↦ inl refl
      | false ↦ inr (put_itself d es)
    ]

put_others : (c d : PendingCall) (cs : List PendingCall) → Among c cs → Among c (put_in_order d cs)
put_others c d [] m = absurd m
put_others c d (e ∷ es) (inl same) =
    elim (ltb d.number.0 e.number.0) as (λ b. Among c (cond b (d ∷ e ∷ es) (e ∷ put_in_order d es))) [
      | true ↦ inr (inl same)
      | false ↦ inl same
    ]
put_others c d (e ∷ es) (inr m) =
    elim (ltb d.number.0 e.number.0) as (λ b. Among c (cond b (d ∷ e ∷ es) (e ∷ put_in_order d es))) [
      | true ↦ inr (inr m)
      | false ↦ inr (put_others c d es m)
    ]

pub among_in_order : (c : PendingCall) (cs : List PendingCall) → Among c (in_order cs) → Among c cs
among_in_order c [] m = m
among_in_order c (d ∷ ds) m =
    elim (among_put c d (in_order ds) m) [ inl same ↦ inl same | inr n ↦ inr (among_in_order c ds n) ]

pub in_order_among : (c : PendingCall) (cs : List PendingCall) → Among c cs → Among c (in_order cs)
in_order_among c [] m = m
in_order_among c (d ∷ ds) (inl same) = subst (λ z. Among z (put_in_order d (in_order ds))) same (put_itself d (in_order ds))
in_order_among c (d ∷ ds) (inr m) = put_others c d (in_order ds) (in_order_among c ds m)

below_put : (c d : PendingCall) (cs : List PendingCall) → c.number.0 < d.number.0 → IsBelow c cs → IsBelow c (put_in_order d cs)
below_put c d [] h b = (h, tt)
below_put c d (e ∷ es) h b =
    elim (ltb d.number.0 e.number.0) as (λ x. IsBelow c (cond x (d ∷ e ∷ es) (e ∷ put_in_order d es))) [
      | true ↦ (h, b)
      | false ↦ (b.0, below_put c d es h b.1)
    ]

rising_cases : (d e : PendingCall) (es more : List PendingCall) (b : Bool) → ltb d.number.0 e.number.0 ≡ b → e.number.0 ≢ d.number.0 → AreRising (e ∷ es) → AreRising more → (e.number.0 < d.number.0 → IsBelow e more) → AreRising (cond b (d ∷ e ∷ es) (e ∷ more))
rising_cases d e es more true test differs r s below =
    let h = ltb-true d.number.0 e.number.0 test in ((h, below_later d e es h r.0), r)
rising_cases d e es more false test differs r s below =
    let h = ltb-false d.number.0 e.number.0 test in (below (omega (arith, h, differs)), s)

rising_put : (d : PendingCall) (cs : List PendingCall) → AreRising cs → Differs d cs → AreRising (put_in_order d cs)
rising_put d [] r differs = (tt, tt)
rising_put d (e ∷ es) r differs =
    rising_cases d e es (put_in_order d es) (ltb d.number.0 e.number.0) refl (differs e (inl refl)) r
    (rising_put d es r.1 (λ c m. differs c (inr m))) (λ h. below_put e d es h r.0)

pub in_order_rising : (cs : List PendingCall) → AreDistinct cs → AreRising (in_order cs)
in_order_rising [] d = tt
in_order_rising (c ∷ cs) d = rising_put c (in_order cs) (in_order_rising cs d.1) (λ e m. d.0 e (among_in_order e cs m))

-- two rising lists of the same calls are the same
same_head : (x y : PendingCall) (xs ys : List PendingCall) → IsBelow x xs → IsBelow y ys → Among x (y ∷ ys) → Among y (x ∷ xs) → x ≡ y
same_head x y xs ys b d (inl same) n = sym same
same_head x y xs ys b d (inr m) (inl same) = same
same_head x y xs ys b d (inr m) (inr n) = absurd (omega (arith, below_among x y xs b n, below_among y x ys d m))

same_tail : (x y : PendingCall) (xs ys : List PendingCall) → IsBelow x xs → x ≡ y → ((c : PendingCall) → Among c (x ∷ xs) → Among c (y ∷ ys)) → (c : PendingCall) → Among c xs → Among c ys
same_tail x y xs ys b e h c m =
    elim (h c (inr m)) [
      | inl same ↦
          let number : x.number.0 ≡ c.number.0 = ap (λ (z : PendingCall). z.number.0) (e ∙ same) in
          absurd (omega (arith, below_among x c xs b m))
      | inr n ↦ n
    ]

pub same_calls : (xs ys : List PendingCall) → AreRising xs → AreRising ys → ((c : PendingCall) → Among c xs → Among c ys) → ((c : PendingCall) → Among c ys → Among c xs) → xs ≡ ys
same_calls [] [] r s h k = refl
same_calls [] (y ∷ ys) r s h k = absurd (k y (inl refl))
same_calls (x ∷ xs) [] r s h k = absurd (h x (inl refl))
same_calls (x ∷ xs) (y ∷ ys) r s h k =
    let head = same_head x y xs ys r.0 s.0 (h x (inl refl)) (k y (inl refl)) in
    let tail = same_calls xs ys r.1 s.1 (same_tail x y xs ys r.0 head h) (same_tail y x ys xs s.0 (sym head) k) in
    λ i. head i ∷ tail i

-- a call at the end
pub among_append : (c d : PendingCall) (cs : List PendingCall) → Among c (cs ++ d ∷ []) → Among c cs ⊎ (d ≡ c)
among_append c d [] (inl same) = inr same
among_append c d [] (inr m) = absurd m
among_append c d (e ∷ es) (inl same) = inl (inl same)
among_append c d (e ∷ es) (inr m) = elim (among_append c d es m) [ inl n ↦ inl (inr n) | inr same ↦ inr same ]

pub append_among : (c d : PendingCall) (cs : List PendingCall) → Among c cs ⊎ (d ≡ c) → Among c (cs ++ d ∷ [])
append_among c d [] (inl m) = absurd m
append_among c d [] (inr same) = inl same
append_among c d (e ∷ es) (inl (inl same)) = inl same
append_among c d (e ∷ es) (inl (inr m)) = inr (append_among c d es (inl m))
append_among c d (e ∷ es) (inr same) = inr (append_among c d es (inr same))

below_append : (c d : PendingCall) (cs : List PendingCall) → c.number.0 < d.number.0 → IsBelow c cs → IsBelow c (cs ++ d ∷ [])
below_append c d [] h b = (h, tt)
below_append c d (e ∷ es) h b = (b.0, below_append c d es h b.1)

pub append_rising : (d : PendingCall) (cs : List PendingCall) → AreRising cs → ((c : PendingCall) → Among c cs → c.number.0 < d.number.0) → AreRising (cs ++ d ∷ [])
append_rising d [] r h = (tt, tt)
append_rising d (c ∷ cs) r h = (below_append c d cs (h c (inl refl)) r.0, append_rising d cs r.1 (λ e m. h e (inr m)))

-- what a filter keeps
filter_cases : (test : PendingCall → Bool) (c d : PendingCall) (more : List PendingCall) (b : Bool) → test d ≡ b → Among c (cond b (d ∷ more) more) → ((d ≡ c) × (test c ≡ true)) ⊎ Among c more
filter_cases test c d more true e (inl same) = inl (same, ap test (sym same) ∙ e)
filter_cases test c d more true e (inr m) = inr m
filter_cases test c d more false e m = inr m

pub among_filter : (test : PendingCall → Bool) (c : PendingCall) (cs : List PendingCall) → Among c (filter test cs) → Among c cs × (test c ≡ true)
among_filter test c [] m = absurd m
among_filter test c (d ∷ ds) m =
    elim (filter_cases test c d (filter test ds) (test d) refl m) [
      | inl here ↦ (inl here.0, here.1)
      | inr later ↦ let n = among_filter test c ds later in (inr n.0, n.1)
    ]

filter_holds : (test : PendingCall → Bool) (c d : PendingCall) (more : List PendingCall) (b : Bool) → test d ≡ b → test c ≡ true → (d ≡ c) ⊎ Among c more → Among c (cond b (d ∷ more) more)
filter_holds test c d more true e p m = m
filter_holds test c d more false e p (inl same) = absurd (false≢true (sym e ∙ ap test same ∙ p))
filter_holds test c d more false e p (inr m) = m

pub filter_among : (test : PendingCall → Bool) (c : PendingCall) (cs : List PendingCall) → Among c cs → test c ≡ true → Among c (filter test cs)
filter_among test c [] m p = absurd m
filter_among test c (d ∷ ds) (inl same) p = filter_holds test c d (filter test ds) (test d) refl p (inl same)
filter_among test c (d ∷ ds) (inr m) p = filter_holds test c d (filter test ds) (test d) refl p (inr (filter_among test c ds m p))

below_filter : (test : PendingCall → Bool) (c : PendingCall) (cs : List PendingCall) → IsBelow c cs → IsBelow c (filter test cs)
below_filter test c [] b = tt
below_filter test c (d ∷ ds) b =
    elim (test d) as (λ x. IsBelow c (cond x (d ∷ filter test ds) (filter test ds))) [
      | true ↦ (b.0, below_filter test c ds b.1)
      | false ↦ below_filter test c ds b.1
    ]

pub filter_rising : (test : PendingCall → Bool) (cs : List PendingCall) → AreRising cs → AreRising (filter test cs)
filter_rising test [] r = tt
filter_rising test (c ∷ cs) r =
    elim (test c) as (λ x. AreRising (cond x (c ∷ filter test cs) (filter test cs))) [
      | true ↦ (below_filter test c cs r.0, filter_rising test cs r.1)
      | false ↦ filter_rising test cs r.1
    ]

-- the calls in slots
abbrev pub in_slot : List (Option Node) → ℕ → Option PendingCall
in_slot slots s = option_map (λ (n : Node). n.call) (get_or slots s None)

pub among_held : (c : PendingCall) (slots : List (Option Node)) → Among c (held_calls slots) → (s : ℕ) × (in_slot slots s ≡ Some c)
among_held c [] m = absurd m
among_held c (None ∷ slots) m = let rest = among_held c slots m in (suc rest.0, rest.1)
among_held c (Some n ∷ slots) (inl same) = (zero, ap (λ z. Some z) same)
among_held c (Some n ∷ slots) (inr m) = let rest = among_held c slots m in (suc rest.0, rest.1)

pub held_among : (c : PendingCall) (slots : List (Option Node)) (s : ℕ) → in_slot slots s ≡ Some c → Among c (held_calls slots)
held_among c [] s e = absurd (cc)
held_among c (None ∷ slots) zero e = absurd (cc)
held_among c (None ∷ slots) (suc s) e = held_among c slots s e
held_among c (Some n ∷ slots) zero e = inl (cc)
held_among c (Some n ∷ slots) (suc s) e = inr (held_among c slots s e)

-- no two slots have calls of one number
abbrev pub SlotsApart : List (Option Node) → Type 0
SlotsApart slots =
    (s t : ℕ) (c d : PendingCall) → in_slot slots s ≡ Some c → in_slot slots t ≡ Some d → c.number.0 ≡ d.number.0 → s ≡ t

slots_apart_rest : (o : Option Node) (slots : List (Option Node)) → SlotsApart (o ∷ slots) → SlotsApart slots
slots_apart_rest o slots apart s t c d h k e = let p : suc s ≡ suc t = apart (suc s) (suc t) c d h k e in omega arith

pub held_distinct : (slots : List (Option Node)) → SlotsApart slots → AreDistinct (held_calls slots)
held_distinct [] apart = tt
held_distinct (None ∷ slots) apart = held_distinct slots (slots_apart_rest None slots apart)
held_distinct (Some n ∷ slots) apart = (
  λ d m e.
      let at = among_held d slots m in
      let p : suc at.0 ≡ zero = apart (suc at.0) zero d n.call at.1 refl e in
      absurd (omega arith),
  held_distinct slots (slots_apart_rest (Some n) slots apart),
)

-- `All` and `Contains` by the calls that stand in a list
all_recursion : (P : PendingCall → Type 0) (cs : List PendingCall) → ((c : PendingCall) → Among c cs → P c) → AllByRecursion P cs
all_recursion P [] h = tt
all_recursion P (c ∷ cs) h = (h c (inl refl), all_recursion P cs (λ d m. h d (inr m)))

pub all_from_among : (P : PendingCall → Type 0) (cs : List PendingCall) → ((c : PendingCall) → Among c cs → P c) → All P cs
all_from_among P cs h = All-from_recursion P cs (all_recursion P cs h)

recursion_among : (P : PendingCall → Type 0) (cs : List PendingCall) → AllByRecursion P cs → (c : PendingCall) → Among c cs → P c
recursion_among P [] a c m = absurd m
recursion_among P (d ∷ ds) a c (inl same) = subst P same a.0
recursion_among P (d ∷ ds) a c (inr m) = recursion_among P ds a.1 c m

pub among_all : (P : PendingCall → Type 0) (cs : List PendingCall) → All P cs → (c : PendingCall) → Among c cs → P c
among_all P cs a = recursion_among P cs (recursion_from_All P cs a)

pub contains_from_among : (c : PendingCall) (cs : List PendingCall) → Among c cs → Contains cs c
contains_from_among c [] m = absurd m
contains_from_among c (d ∷ ds) (inl same) = (zero, omega arith, same)
contains_from_among c (d ∷ ds) (inr m) = let rest = contains_from_among c ds m in (suc rest.0, omega (arith, rest.1), rest.2)

among_at : (c : PendingCall) (cs : List PendingCall) (k : ℕ) → k < length cs → get_or cs k c ≡ c → Among c cs
among_at c [] k h e = absurd (omega arith)
among_at c (d ∷ ds) zero h e = inl e
among_at c (d ∷ ds) (suc k) h e = inr (among_at c ds k (omega arith) e)

pub among_contained : (c : PendingCall) (cs : List PendingCall) → Contains cs c → Among c cs
among_contained c cs h = among_at c cs h.0 h.1 h.2

-- a list without a call of it is shorter
filter_le : (test : PendingCall → Bool) (cs : List PendingCall) → length (filter test cs) ≤ length cs
filter_le test cs = omega (arith, length-filter test cs, count_by-le-length test cs)

shorter_cases : (b : Bool) (d : PendingCall) (ds more : List PendingCall) → length more ≤ length ds → (b ≡ true → length more < length ds) → length (cond b (d ∷ more) more) < length (d ∷ ds)
shorter_cases true d ds more le less = let l = less refl in omega (arith, l)
shorter_cases false d ds more le less = omega (arith, le)

pub shorter : (c : PendingCall) (cs : List PendingCall) → Among c cs → length (filter (λ (d : PendingCall). not (eqb d.number.0 c.number.0)) cs) < length cs
shorter c [] m = absurd m
shorter c (d ∷ ds) (inl same) =
    let test : PendingCall → Bool = λ z. not (eqb z.number.0 c.number.0) in
    shorter_cases (test d) d ds (filter test ds) (filter_le test ds)
    (λ e. absurd (false≢true (sym (ap not (eq-eqb d.number.0 c.number.0 (ap (λ (z : PendingCall). z.number.0) same))) ∙ e)))
shorter c (d ∷ ds) (inr m) =
    let test : PendingCall → Bool = λ z. not (eqb z.number.0 c.number.0) in
    shorter_cases (test d) d ds (filter test ds) (filter_le test ds) (λ e. shorter c ds m)

-- where the calls of a number don't pass, taking them out first changes nothing
filter_once : (test : PendingCall → Bool) (d : PendingCall) (ds more : List PendingCall) (b : Bool) → (b ≡ false → test d ≡ false) → filter test more ≡ filter test ds → filter test (cond b (d ∷ more) more) ≡ filter test (d ∷ ds)
filter_once test d ds more true h e = ap (λ z. cond (test d) (d ∷ z) z) e
filter_once test d ds more false h e = e ∙ sym (cond-false (test d) _ _ (h refl))

pub filter_filter : (test : PendingCall → Bool) (number : ℕ) (cs : List PendingCall) → ((d : PendingCall) → Among d cs → d.number.0 ≡ number → test d ≡ false) → filter test (filter (λ (d : PendingCall). not (eqb d.number.0 number)) cs) ≡ filter test cs
filter_filter test number [] h = refl
filter_filter test number (d ∷ ds) h =
    filter_once test d ds (filter (λ (z : PendingCall). not (eqb z.number.0 number)) ds) (not (eqb d.number.0 number))
    (λ e. h d (inl refl) (eqb-true d.number.0 number (not-false (eqb d.number.0 number) e)))
    (filter_filter test number ds (λ z m. h z (inr m)))

pub filter_whole : (test : PendingCall → Bool) (cs : List PendingCall) → ((d : PendingCall) → Among d cs → test d ≡ true) → filter test cs ≡ cs
filter_whole test [] h = refl
filter_whole test (d ∷ ds) h = cond-true (test d) _ _ (h d (inl refl)) ∙ ap (λ z. d ∷ z) (filter_whole test ds (λ z m. h z (inr m)))

-- of the calls that pass, that of the least number comes first, and then those that pass without it
pub first_passing :
    (test : PendingCall → Bool) (c : PendingCall) (cs : List PendingCall)
    → AreRising cs
    → Among c cs
    → test c ≡ true
    → ((d : PendingCall) → Among d cs → test d ≡ true → c.number.0 ≤ d.number.0)
    → filter test cs ≡ c ∷ filter test (filter (λ (d : PendingCall). not (eqb d.number.0 c.number.0)) cs)
first_passing test c [] r m t least = absurd m
first_passing test c (d ∷ ds) r (inl same) t least =
    let other : PendingCall → Bool = λ z. not (eqb z.number.0 c.number.0) in
    let here = ap (λ (z : PendingCall). z.number.0) same in
    let rest =
    cond-false (other d) (d ∷ filter other ds) (filter other ds) (ap not (eq-eqb d.number.0 c.number.0 here))
    ∙ filter_whole other ds
    (λ z n. let below = below_among d z ds r.0 n in ap not (ne_eqb z.number.0 c.number.0 (λ k. omega (arith, below, k, here)))) in
    cond-true (test d) (d ∷ filter test ds) (filter test ds) (ap test same ∙ t)
    ∙ ap (λ z. z ∷ filter test ds) same
    ∙ sym (ap (λ zs. c ∷ filter test zs) rest)
first_passing test c (d ∷ ds) r (inr m) t least =
    let other : PendingCall → Bool = λ z. not (eqb z.number.0 c.number.0) in
    let below = below_among d c ds r.0 m in
    let fails : test d ≡ false = from_true (test d) (λ e. let l = least d (inl refl) e in omega (arith, l, below)) in
    cond-false (test d) (d ∷ filter test ds) (filter test ds) fails
    ∙ first_passing test c ds r.1 m t (λ z n. least z (inr n))
    ∙ sym (ap (λ zs. c ∷ zs) (ap (filter test) (cond-true (other d) (d ∷ filter other ds) (filter other ds) (ap not (ne_eqb d.number.0 c.number.0 (λ k. omega (arith, below, k))))) ∙ cond-false (test d) (d ∷ filter test (filter other ds)) (filter test (filter other ds)) fails))
  where
    from_true : (b : Bool) → (b ≡ true → ⊥) → b ≡ false
    from_true true h = absurd (h refl)
    from_true false h = refl
