-- The calls in their places make up the stacks, and stay so where one is put in or taken out.
use Rattle.std.proofs.Common.{rules, ◌≡◌, ◌≢◌, inl, inr, ℕ, zero, suc, ◌+◌, ◌<◌, ◌≤◌, Bool, true, false, List, [], ◌∷◌, ◌++◌, refl, sym, ap, ◌∙◌, subst, arith, nat_eq, Option, Some, None, length}
use Rattle.std.specs.Prelude.{All, IsSome, if◌then◌else◌}
use Rattle.std.specs.Option.{option_map}
use Rattle.std.proofs.lemmas.Bool.{cases_eq, cases_lt, eqb-true}
use Rattle.std.proofs.lemmas.List.{get_or_past}
use Rattle.std.proofs.lemmas.List.Elements.{All-nil, All-push}
use Rattle.cc_base.specs.Grants.{value_cells}
use Rattle.cc_base.specs.Meaning.{Meaning}
use Rattle.cc_kernel.specs.Stacks.{AreStacked, AreWithin, IsInnermost, depth_of, is_place, none_served, one_call, one_more, outermost, stacks}
use Rattle.cc_kernel.specs.Counted.{may_terminate}
use Rattle.cc_kernel.specs.Seats.{seat_at, vacant}
use Rattle.cc_kernel.specs.declared.seat.Seat.{Seat}
use Rattle.cc_kernel.specs.declared.served.ServedCall.{ServedCall}

same-number : (n : ℕ) → nat_eq n n ≡ true
same-number n = search rules

other-number : (a b : ℕ) → a ≢ b → nat_eq a b ≡ false
other-number a b ne = false-from (nat_eq a b) (λ e. ne (eqb-true a b e))
  where
    false-from : (b : Bool) → (b ≡ true → ⊥) → b ≡ false
    false-from true h = absurd (h refl)
    false-from false h = refl

same-place : (p n : ℕ) → is_place (p, n) (p, n) ≡ true
same-place p n = rw (same-number p, same-number n) refl

other-depth : (p n k : ℕ) → n ≢ k → is_place (p, n) (p, k) ≡ false
other-depth p n k ne = rw (same-number p, other-number n k ne) refl

other-server : (p q n k : ℕ) → p ≢ q → is_place (p, n) (q, k) ≡ false
other-server p q n k ne = rw (other-number p q ne) refl

-- functions that agree everywhere are one
pub same-everywhere : {A : Type 0} (f g : ℕ → A) → ((n : ℕ) → f n ≡ g n) → f ≡ g
same-everywhere f g h = λ i. λ n. h n i

-- the outermost calls, where their places have the same
outermost-same :
    (calls calls' : ℕ × ℕ → Option ServedCall) (p n : ℕ)
    → ((k : ℕ) → k < n → calls' (p, k) ≡ calls (p, k))
    → outermost calls' p n ≡ outermost calls p n
outermost-same calls calls' p zero h = refl
outermost-same calls calls' p (suc n) h =
    rw (outermost-same calls calls' p n (λ k lt. h k (omega arith)), h n (omega arith)) refl

-- the stacks, where all is the same
pub stacks-same :
    (calls calls' : ℕ × ℕ → Option ServedCall) (depths depths' : ℕ → Option ℕ)
    → ((q : ℕ × ℕ) → calls' q ≡ calls q)
    → ((p : ℕ) → depths' p ≡ depths p)
    → stacks calls' depths' ≡ stacks calls depths
stacks-same calls calls' depths depths' h k =
    same-everywhere (stacks calls' depths') (stacks calls depths)
    (λ p. ap (λ d. outermost calls' p (depth_of d)) (k p) ∙ outermost-same calls calls' p (depth_of (depths p)) (λ n lt. h (p, n)))

pub stacked-same :
    (calls calls' : ℕ × ℕ → Option ServedCall) (depths depths' : ℕ → Option ℕ) (deepest spare spare' a b a' b' : ℕ)
    → ((q : ℕ × ℕ) → calls' q ≡ calls q)
    → ((p : ℕ) → depths' p ≡ depths p)
    → spare' ≤ a'
    → spare' ≤ b'
    → deepest + spare' ≤ 4294967295
    → AreStacked calls depths deepest spare a b
    → AreStacked calls' depths' deepest spare' a' b'
stacked-same calls calls' depths depths' deepest spare spare' a b a' b' h k room room' few s =
    record {
      held = λ p n lt. subst (λ o. IsSome o) (sym (h (p, n))) (s.held p n (let e = ap depth_of (k p) in omega (arith, lt, e)));
      few = λ p. let e = ap depth_of (k p) in let le = s.few p in omega (arith, e, le);
      room = room;
      room_of_depths = room';
      countable = few;
    }

-- none is served where there is no depth
pub none-stacked : (calls : ℕ × ℕ → Option ServedCall) (depths : ℕ → Option ℕ) → ((p : ℕ) → depths p ≡ None) → stacks calls depths ≡ (λ p. [])
none-stacked calls depths h = same-everywhere (stacks calls depths) (λ p. []) (λ p. ap (λ d. outermost calls p (depth_of d)) (h p))

module _ (calls calls' : ℕ × ℕ → Option ServedCall) (depths depths' : ℕ → Option ℕ) (s depth : ℕ) (call : ServedCall) where
  module _ (here : depth ≡ depth_of (depths s))
      (put : (q : ℕ × ℕ) → calls' q ≡ (if is_place (s, depth) q then Some call else calls q))
      (deeper : (p : ℕ) → depths' p ≡ (if nat_eq s p then Some (depth + 1) else depths p)) where
    put-here : calls' (s, depth) ≡ Some call
    put-here = put (s, depth) ∙ ap (λ b. if b then Some call else calls (s, depth)) (same-place s depth)

    put-around : (k : ℕ) → k < depth → calls' (s, k) ≡ calls (s, k)
    put-around k lt = put (s, k) ∙ ap (λ b. if b then Some call else calls (s, k)) (other-depth s depth k (λ e. omega (arith, lt, e)))

    put-elsewhere : (p k : ℕ) → s ≢ p → calls' (p, k) ≡ calls (p, k)
    put-elsewhere p k ne = put (p, k) ∙ ap (λ b. if b then Some call else calls (p, k)) (other-server s p depth k ne)

    deeper-here : depth_of (depths' s) ≡ depth + 1
    deeper-here = ap depth_of (deeper s ∙ ap (λ b. if b then Some (depth + 1) else depths s) (same-number s))

    deeper-elsewhere : (p : ℕ) → s ≢ p → depths' p ≡ depths p
    deeper-elsewhere p ne = deeper p ∙ ap (λ b. if b then Some (depth + 1) else depths p) (other-number s p ne)

    added-own : stacks calls' depths' s ≡ stacks calls depths s ++ call ∷ []
    added-own =
        let next : depth + 1 ≡ suc depth = omega arith in
        ap (outermost calls' s) (deeper-here ∙ next)
        ∙ ap (λ xs. xs ++ one_call (calls' (s, depth))) (outermost-same calls calls' s depth put-around ∙ ap (outermost calls s) here)
        ∙ ap (λ o. stacks calls depths s ++ one_call o) put-here

    added-at : (p : ℕ) → stacks calls' depths' p ≡ one_more (stacks calls depths) s call p
    added-at p = elim (cases_eq s p) [
      | inl same ↦
          subst (λ r. stacks calls' depths' r ≡ one_more (stacks calls depths) s call r) same
          (added-own ∙ sym (ap (λ b. if b then stacks calls depths s ++ call ∷ [] else stacks calls depths s) (same-number s)))
      | inr ne ↦
          ap (λ d. outermost calls' p (depth_of d)) (deeper-elsewhere p ne)
          ∙ outermost-same calls calls' p (depth_of (depths p)) (λ k lt. put-elsewhere p k ne)
          ∙ sym (ap (λ b. if b then stacks calls depths p ++ call ∷ [] else stacks calls depths p) (other-number s p ne))
    ]

    -- a call is put in
    pub stacks-added : stacks calls' depths' ≡ one_more (stacks calls depths) s call
    stacks-added = same-everywhere (stacks calls' depths') (one_more (stacks calls depths) s call) added-at

    held-added :
        ((p n : ℕ) → n < depth_of (depths p) → IsSome (calls (p, n)))
        → (p n : ℕ)
        → n < depth_of (depths' p)
        → IsSome (calls' (p, n))
    held-added held p n lt = elim (cases_eq s p) [
      | inl same ↦
          subst (λ r. n < depth_of (depths' r) → IsSome (calls' (r, n))) same
          (λ below. elim (cases_eq n depth) [
            | inl e ↦ subst (λ k. IsSome (calls' (s, k))) (sym e) (subst (λ o. IsSome o) (sym put-here) (search rules))
            | inr differs ↦
                let less : n < depth = (let d = deeper-here in omega (arith, below, d, differs)) in
                subst (λ o. IsSome o) (sym (put-around n less)) (held s n (omega (arith, less, here)))
          ])
          lt
      | inr ne ↦
          subst (λ o. IsSome o) (sym (put-elsewhere p n ne))
          (held p n (let e = ap depth_of (deeper-elsewhere p ne) in omega (arith, lt, e)))
    ]

    few-added : (deepest most : ℕ) → deepest ≤ most → depth + 1 ≤ most → ((p : ℕ) → depth_of (depths p) ≤ deepest) → (p : ℕ) → depth_of (depths' p) ≤ most
    few-added deepest most le own few p = elim (cases_eq s p) [
      | inl same ↦ subst (λ r. depth_of (depths' r) ≤ most) same (let d = deeper-here in omega (arith, own, d))
      | inr ne ↦ (let e = ap depth_of (deeper-elsewhere p ne) in let f = few p in omega (arith, e, f, le))
    ]

    pub stacked-added :
        (deepest most spare spare' a b a' b' : ℕ)
        → deepest ≤ most
        → depth + 1 ≤ most
        → most ≤ deepest + 1
        → spare ≡ spare' + 1
        → a ≤ a' + 1
        → b ≤ b' + 1
        → AreStacked calls depths deepest spare a b
        → AreStacked calls' depths' most spare' a' b'
    stacked-added deepest most spare spare' a b a' b' le own least taken room room' k =
        record {
          held = held-added k.held;
          few = few-added deepest most le own k.few;
          room = (let r = k.room in omega (arith, r, taken, room));
          room_of_depths = (let r = k.room_of_depths in omega (arith, r, taken, room'));
          countable = (let r = k.countable in omega (arith, r, taken, least));
        }

  module _ (here : depth + 1 ≡ depth_of (depths s))
      (was : calls (s, depth) ≡ Some call)
      (out : (q : ℕ × ℕ) → calls' q ≡ (if is_place (s, depth) q then None else calls q))
      (less : (p : ℕ) → depths' p ≡ (if nat_eq s p then option_map (λ d. depth) (depths p) else depths p)) where
    out-around : (k : ℕ) → k < depth → calls' (s, k) ≡ calls (s, k)
    out-around k lt = out (s, k) ∙ ap (λ b. if b then None else calls (s, k)) (other-depth s depth k (λ e. omega (arith, lt, e)))

    out-elsewhere : (p k : ℕ) → s ≢ p → calls' (p, k) ≡ calls (p, k)
    out-elsewhere p k ne = out (p, k) ∙ ap (λ b. if b then None else calls (p, k)) (other-server s p depth k ne)

    written : (o : Option ℕ) → depth + 1 ≡ depth_of o → depth_of (option_map (λ d. depth) o) ≡ depth
    written None e = absurd (omega (arith, e))
    written (Some d) e = refl

    less-here : depth_of (depths' s) ≡ depth
    less-here =
        ap depth_of (less s ∙ ap (λ b. if b then option_map (λ d. depth) (depths s) else depths s) (same-number s))
        ∙ written (depths s) here

    less-elsewhere : (p : ℕ) → s ≢ p → depths' p ≡ depths p
    less-elsewhere p ne = less p ∙ ap (λ b. if b then option_map (λ d. depth) (depths p) else depths p) (other-number s p ne)

    -- a call is taken out
    pub stacks-taken : IsInnermost s call (stacks calls depths) (stacks calls' depths')
    stacks-taken =
        record {
          own =
              (let next : depth + 1 ≡ suc depth = omega arith in
              ap (outermost calls s) (sym here ∙ next)
              ∙ ap (λ o. outermost calls s depth ++ one_call o) was
              ∙ ap (λ xs. xs ++ call ∷ [])
              (sym (outermost-same calls calls' s depth out-around) ∙ ap (outermost calls' s) (sym less-here)));
          others = λ p ne.
              (let apart : s ≢ p = λ e. ne (sym e) in
              ap (λ d. outermost calls' p (depth_of d)) (less-elsewhere p apart)
              ∙ outermost-same calls calls' p (depth_of (depths p)) (λ k lt. out-elsewhere p k apart));
        }

    held-taken :
        ((p n : ℕ) → n < depth_of (depths p) → IsSome (calls (p, n)))
        → (p n : ℕ)
        → n < depth_of (depths' p)
        → IsSome (calls' (p, n))
    held-taken held p n lt = elim (cases_eq s p) [
      | inl same ↦
          subst (λ r. n < depth_of (depths' r) → IsSome (calls' (r, n))) same
          (λ below.
          let below' : n < depth = (let d = less-here in omega (arith, below, d)) in
          subst (λ o. IsSome o) (sym (out-around n below')) (held s n (omega (arith, below', here))))
          lt
      | inr ne ↦
          subst (λ o. IsSome o) (sym (out-elsewhere p n ne))
          (held p n (let e = ap depth_of (less-elsewhere p ne) in omega (arith, lt, e)))
    ]

    pub stacked-taken :
        (deepest spare a b a' b' : ℕ)
        → a ≤ a'
        → b ≤ b'
        → AreStacked calls depths deepest spare a b
        → AreStacked calls' depths' deepest spare a' b'
    stacked-taken deepest spare a b a' b' room room' k =
        record {
          held = held-taken k.held;
          few = λ p. elim (cases_eq s p) [
            | inl same ↦ subst (λ r. depth_of (depths' r) ≤ deepest) same (let d = less-here in let f = k.few s in omega (arith, d, f, here))
            | inr ne ↦ (let e = ap depth_of (less-elsewhere p ne) in let f = k.few p in omega (arith, e, f))
          ];
          room = (let r = k.room in omega (arith, r, room));
          room_of_depths = (let r = k.room_of_depths in omega (arith, r, room'));
          countable = k.countable;
        }

-- a server without a call serves none
pub none-served-none : (served : ℕ → List ServedCall) (s : ℕ) → served s ≡ [] → none_served served s ≡ served
none-served-none served s e =
    same-everywhere (none_served served s) served
    (λ p. elim (cases_eq s p) [
      | inl same ↦ subst (λ r. none_served served s r ≡ served r) same (ap (λ b. if b then [] else served s) (same-number s) ∙ sym e)
      | inr ne ↦ ap (λ b. if b then [] else served p) (other-number s p ne)
    ])

-- where one call of the server is out, the same are left of the others
pub none-served-taken :
    (old new : ℕ → List ServedCall) (s : ℕ) (call : ServedCall)
    → IsInnermost s call old new
    → none_served new s ≡ none_served old s
none-served-taken old new s call k =
    same-everywhere (none_served new s) (none_served old s)
    (λ p. elim (cases_eq s p) [
      | inl same ↦
          subst (λ r. none_served new s r ≡ none_served old s r) same
          (ap (λ b. if b then [] else new s) (same-number s) ∙ sym (ap (λ b. if b then [] else old s) (same-number s)))
      | inr ne ↦ ap (λ xs. if nat_eq s p then [] else xs) (k.others p (λ e. ne (sym e)))
    ])

pub none-served-own : (served : ℕ → List ServedCall) (s : ℕ) → none_served served s s ≡ []
none-served-own served s = ap (λ b. if b then [] else served s) (same-number s)

pub none-served-other : (served : ℕ → List ServedCall) (s p : ℕ) → p ≢ s → none_served served s p ≡ served p
none-served-other served s p ne = ap (λ b. if b then [] else served p) (other-number s p (λ e. ne (sym e)))

pub one-more-own : (served : ℕ → List ServedCall) (s : ℕ) (call : ServedCall) → one_more served s call s ≡ served s ++ call ∷ []
one-more-own served s call = ap (λ b. if b then served s ++ call ∷ [] else served s) (same-number s)

pub one-more-other : (served : ℕ → List ServedCall) (s p : ℕ) (call : ServedCall) → p ≢ s → one_more served s call p ≡ served p
one-more-other served s p call ne = ap (λ b. if b then served p ++ call ∷ [] else served p) (other-number s p (λ e. ne (sym e)))

-- what holds of all served calls holds where those of some servers are dropped
pub all-where :
    (F : ServedCall → Type 0) (served : ℕ → List ServedCall) (gone : ℕ → Bool)
    → ((p : ℕ) → All F (served p))
    → (p : ℕ)
    → All F (if gone p then [] else served p)
all-where F served gone all p = either (gone p) (all p)
  where
    either : (b : Bool) → All F (served p) → All F (if b then [] else served p)
    either true h = All-nil F
    either false h = h

module _ (m : Meaning) (most most' : ℕ) (served by : ℕ → List ServedCall) where
  -- no value of a served call has more cells than before
  pub within-same : most' ≡ most → by ≡ served → AreWithin m most served → AreWithin m most' by
  within-same e k h = λ p. rw (e, k) (h p)

  pub within-left : (s : ℕ) → most' ≡ most → by ≡ none_served served s → AreWithin m most served → AreWithin m most' by
  within-left s e k h = λ p. rw (e, k) (all-where (λ call. value_cells m call.trans ≤ most) served (nat_eq s) h p)

  -- where those of some servers are dropped
  pub within-where : (gone : ℕ → Bool) → most' ≡ most → by ≡ (λ p. if gone p then [] else served p) → AreWithin m most served → AreWithin m most' by
  within-where gone e k h = λ p. rw (e, k) (all-where (λ call. value_cells m call.trans ≤ most) served gone h p)

  -- where one more is served
  pub within-more :
      (s : ℕ) (call : ServedCall)
      → by ≡ one_more served s call
      → most ≤ most'
      → value_cells m call.trans ≤ most'
      → AreWithin m most served
      → AreWithin m most' by
  within-more s call k le own h = λ p. rw k (either (nat_eq s p) p)
    where
      weaker : (p : ℕ) → All (λ c. value_cells m c.trans ≤ most') (served p)
      weaker p = λ n d lt. let e = h p n d lt in omega (arith, e, le)

      either : (b : Bool) (p : ℕ) → All (λ c. value_cells m c.trans ≤ most') (if b then served p ++ call ∷ [] else served p)
      either true p = All-push (λ c. value_cells m c.trans ≤ most') (served p) call (weaker p) own
      either false p = weaker p

module _ (gone : ℕ → Bool) (first served : ℕ → List ServedCall) (at : ℕ) (by : ℕ → List ServedCall) (e : by ≡ (if gone at then none_served served at else served)) where
  elsewhere : (b : Bool) (p : ℕ) → p ≢ at → (if b then none_served served at else served) p ≡ served p
  elsewhere true p ne = none-served-other served at p ne
  elsewhere false p ne = refl

  here-dropped : (b : Bool) → (if b then none_served served at else served) at ≡ (if b then [] else served at)
  here-dropped true = none-served-own served at
  here-dropped false = refl

  -- the calls of one server more are dropped, where it is one of these
  pub dropped-below :
      ((p : ℕ) → p < at → served p ≡ (if gone p then [] else first p))
      → ((p : ℕ) → at ≤ p → served p ≡ first p)
      → (p : ℕ)
      → p < at + 1
      → by p ≡ (if gone p then [] else first p)
  dropped-below below above p lt =
      ap (λ (f : ℕ → List ServedCall). f p) e
      ∙ elim (cases_eq p at) [
        | inl same ↦
            subst (λ r. (if gone at then none_served served at else served) r ≡ (if gone r then [] else first r)) (sym same)
            (here-dropped (gone at) ∙ ap (λ xs. if gone at then [] else xs) (above at (omega arith)))
        | inr ne ↦ elsewhere (gone at) p ne ∙ below p (omega (arith, lt, ne))
      ]

  pub dropped-above : ((p : ℕ) → at ≤ p → served p ≡ first p) → (p : ℕ) → at + 1 ≤ p → by p ≡ first p
  dropped-above above p le =
      ap (λ (f : ℕ → List ServedCall). f p) e
      ∙ elsewhere (gone at) p (λ same. omega (arith, same, le))
      ∙ above p (omega (arith, le))

-- those of all servers
pub dropped-whole :
    {P : Type 0} (seats : List (Seat P)) (first served : ℕ → List ServedCall) (at : ℕ)
    → length seats ≤ at
    → ((p : ℕ) → p < at → served p ≡ (if may_terminate (seat_at seats p).standing then [] else first p))
    → ((p : ℕ) → at ≤ p → served p ≡ first p)
    → served ≡ (λ p. if may_terminate (seat_at seats p).standing then [] else first p)
dropped-whole seats first served at long below above =
    same-everywhere served (λ p. if may_terminate (seat_at seats p).standing then [] else first p)
    (λ p. elim (cases_lt p at) [
      | inl lt ↦ below p lt
      | inr le ↦
          above p le
          ∙ sym (ap (λ (seat : Seat _). if may_terminate seat.standing then [] else first p) (get_or_past seats p vacant (omega (arith, le, long))))
    ])
