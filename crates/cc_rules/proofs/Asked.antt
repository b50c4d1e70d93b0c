-- A call is asked, and a process is made.
use Rattle.std.proofs.Common.{◌≡◌, ◌≢◌, ℕ, zero, suc, ◌+◌, ◌<◌, ◌≤◌, ◌⊎◌, inl, inr, Bool, true, false, List, [], ◌∷◌, ◌++◌, length, set, refl, sym, ap, ◌∙◌, subst, arith, cond, Some, None}
use Rattle.std.specs.Prelude.{nat_eq}
use Rattle.std.specs.List.{Contains}
use Rattle.std.proofs.lemmas.Bool.{cases_eq}
use Rattle.std.proofs.lemmas.Bool.Decides.{nat_tests}
use Rattle.std.proofs.lemmas.List.Elements.{All-contains_itself, All-from_get_or, All-get_or, All-push, All-set, All-weaker, Contains-append_left, Contains-push, Contains-push_cases}
use Rattle.std.proofs.lemmas.List.Sums.{sum_by-le, sum_by-set, sum_by_push}
use Rattle.std.proofs.lemmas.Option.{none-some}
use Rattle.cc_base.specs.Meaning.{Meaning}
use Rattle.cc_base.specs.declared.names.CallId.{CallId}
use Rattle.cc_base.specs.declared.names.Pid.{Pid}
use Rattle.cc_rules.proofs.Held.{Held, IsFree, asked-caller, at-other, at-same, serving-set, Stands-served}
use Rattle.cc_rules.specs.Effects.{caller_of}
use Rattle.cc_base.specs.Grants.{argument_cells}
use Rattle.cc_rules.specs.Sound.{asks, is_call, SoundProcess, SoundCall, Stands, count_numbered, count_standing, IsAskedBy, IsAwaited}
use Rattle.cc_rules.specs.State.{Process, nobody, process_at, is_over}
use Rattle.cc_rules.specs.declared.process.ProcessStanding.TheVariants.{AtCall, Ended}
use Rattle.cc_rules.specs.declared.process.TransactionCall.{TransactionCall}

below-none : (n k : ℕ) → k < n → cond (nat_eq k n) 1 0 ≤ 0
below-none n k lt = grind (arith, nat_tests)

at-most-one : (b : Bool) → cond b 1 0 ≤ 1
at-most-one true = omega arith
at-most-one false = omega arith

different-none : (k n : ℕ) → (k ≡ n → ⊥) → cond (nat_eq k n) 1 0 ≤ 0
different-none k n ne = grind (arith, nat_tests)

-- no call has a number that was not drawn
none-numbered : (n : ℕ) (calls : List TransactionCall) → ((c : TransactionCall) → Contains calls c → c.number.0 < n) → count_numbered n calls ≤ 0
none-numbered n calls below =
    let f : TransactionCall → ℕ = λ call. cond (nat_eq call.number.0 n) 1 0 in
    let le = sum_by-le f 0 calls
    (All-weaker (Contains calls) (λ c. f c ≤ 0) (λ c h. below-none n c.number.0 (below c h)) calls (All-contains_itself calls)) in
    omega arith

pub none-drawn : (m : Meaning) (ps : List Process) (calls : List TransactionCall) (drawn : ℕ) → Held m ps calls drawn → count_standing ps calls drawn ≤ 0
none-drawn m ps calls drawn h =
    let pending = none-numbered drawn calls (λ c k. (h.each_call c (inl k)).number_drawn) in
    let f : Process → ℕ = λ q. count_numbered drawn q.serving in
    let served = sum_by-le f 0 ps
    (All-from_get_or (λ q. f q ≤ 0) ps nobody
    (λ i lt. none-numbered drawn (process_at ps i).serving (λ c k. (h.each_call c (inr (i, k))).number_drawn))) in
    omega arith

-- a new call is the only one of its number
once-more : (count : ℕ → ℕ) (drawn n : ℕ) → ((k : ℕ) → count k ≤ 1) → count drawn ≤ 0 → count n + cond (nat_eq drawn n) 1 0 ≤ 1
once-more count drawn n once none =
    elim (cases_eq drawn n) [
      | inl e ↦ subst (λ k. count k + cond (nat_eq drawn k) 1 0 ≤ 1) e (let one = at-most-one (nat_eq drawn drawn) in omega arith)
      | inr d ↦ (let before = once n in let other = different-none drawn n d in omega arith)
    ]

module _ (m : Meaning) (ps : List Process) (calls : List TransactionCall) (drawn : ℕ) (c : TransactionCall) (h : Held m ps calls drawn) (number : c.number.0 ≡ drawn) (arguments : argument_cells m c.trans ≡ Some (length c.args)) where
  Stands-more : (d : TransactionCall) → Stands ps calls d → Stands ps (calls ++ c ∷ []) d
  Stands-more d (inl k) = inl (Contains-append_left calls (c ∷ []) d k)
  Stands-more d (inr k) = inr k

  Stands-push : (d : TransactionCall) → Stands ps (calls ++ c ∷ []) d → Stands ps calls d ⊎ (c ≡ d)
  Stands-push d (inl k) =
      elim (Contains-push_cases calls c d k) [
        | inl j ↦ inl (inl j)
        | inr e ↦ inr e
      ]
  Stands-push d (inr k) = inl (inr k)

  once-pushed : (n : ℕ) → count_standing ps (calls ++ c ∷ []) n ≤ 1
  once-pushed n =
      let more = sum_by_push (λ (call : TransactionCall). cond (nat_eq call.number.0 n) 1 0) calls c in
      let one = once-more (count_standing ps calls) drawn n h.once (none-drawn m ps calls drawn h) in
      let same = ap {B = ℕ} (λ (k : ℕ). cond (nat_eq k n) 1 0) number in
      omega (arith, same)

  older : (qs : List Process) (d : TransactionCall) → SoundCall m qs drawn d → SoundCall m qs (drawn + 1) d
  older qs d k = record { number_drawn = (let lt = k.number_drawn in omega arith); arguments = k.arguments; waits = k.waits }

  -- a call for which nobody waits
  module _ (none : caller_of c.waiting ≡ None) where
    sent-call : (d : TransactionCall) → Stands ps calls d ⊎ (c ≡ d) → SoundCall m ps (drawn + 1) d
    sent-call d (inl k) = older ps d (h.each_call d k)
    sent-call d (inr e) =
        subst (SoundCall m ps (drawn + 1)) e
        (record { number_drawn = omega arith; arguments = arguments; waits = λ p some. absurd (none-some p (sym none ∙ some)) })

    pub Held-sent : Held m ps (calls ++ c ∷ []) (drawn + 1)
    Held-sent =
        record {
          each_process = h.each_process;
          once = once-pushed;
          each_call = λ d there. sent-call d (Stands-push d there);
          awaited = λ p n st.
              let w = h.awaited p n st in
              record { call = w.call; there = Stands-more w.call w.there; same_number = w.same_number; asked = w.asked };
        }

  -- a call that process q asked, and for which it waits
  module _ (q : ℕ) (within : q < length ps) (free : IsFree (process_at ps q)) (there : is_over (process_at ps q).standing ≡ false) (asked : IsAskedBy c.waiting q c (asks m (process_at ps q))) (call : is_call (asks m (process_at ps q)) ≡ true) where
    abbrev waiting : Process
    waiting = record (process_at ps q) { standing = AtCall c.number }

    serving-waits : (p : ℕ) → (process_at (set ps q waiting) p).serving ≡ (process_at ps p).serving
    serving-waits = serving-set ps q waiting within refl

    waiting-sound : SoundProcess m waiting
    waiting-sound =
        let k = All-get_or (SoundProcess m) ps q nobody within h.each_process in
        record { kind_exists = k.kind_exists; proper = k.proper; stands = call; free = λ over. absurd cc }

    called-call : (d : TransactionCall) → Stands ps calls d ⊎ (c ≡ d) → SoundCall m (set ps q waiting) (drawn + 1) d
    called-call d (inl k) =
        let old = h.each_call d k in
        record {
          number_drawn = (let lt = old.number_drawn in omega arith);
          arguments = old.arguments;
          waits = λ p e.
              let st = old.waits p e in
              let ne : p.0 ≢ q = λ same. free d.number (ap (λ j. (process_at ps j).standing) (sym same) ∙ st) in
              ap (λ (y : Process). y.standing) (at-other ps q p.0 waiting ne) ∙ st;
        }
    called-call d (inr e) =
        subst (SoundCall m (set ps q waiting) (drawn + 1)) e
        (record {
          number_drawn = omega arith;
          arguments = arguments;
          waits = λ p some.
              let here : Some p ≡ Some (record { 0 = q }) = sym some ∙ asked-caller c.waiting q c (asks m (process_at ps q)) asked in
              let pid : p ≡ record { 0 = q } = cc in
              ap (λ (y : Process). y.standing) (ap (λ (j : Pid). process_at (set ps q waiting) j.0) pid ∙ at-same ps q waiting within);
        })

    there-pushed : (d : TransactionCall) → Stands ps (calls ++ c ∷ []) d → Stands (set ps q waiting) (calls ++ c ∷ []) d
    there-pushed = Stands-served ps (set ps q waiting) (calls ++ c ∷ []) serving-waits

    awaited-called : (p : ℕ) (n : CallId) → (process_at (set ps q waiting) p).standing ≡ AtCall n → IsAwaited m (set ps q waiting) (calls ++ c ∷ []) p n
    awaited-called p n st =
        elim (cases_eq p q) [
          | inl e ↦
              (let here : process_at (set ps q waiting) p ≡ waiting = ap (process_at (set ps q waiting)) e ∙ at-same ps q waiting within in
              let is : AtCall c.number ≡ AtCall n = ap (λ (y : Process). y.standing) (sym here) ∙ st in
              record {
                call = c;
                there = there-pushed c (inl (Contains-push calls c));
                same_number = cc;
                asked = subst (λ y. IsAskedBy c.waiting p c (asks m y)) (sym here) (subst (λ k. IsAskedBy c.waiting k c (asks m (process_at ps q))) (sym e) asked);
              })
          | inr d ↦
              (let same = at-other ps q p waiting d in
              let w = h.awaited p n (ap (λ (y : Process). y.standing) (sym same) ∙ st) in
              record {
                call = w.call;
                there = there-pushed w.call (Stands-more w.call w.there);
                same_number = w.same_number;
                asked = subst (λ y. IsAskedBy w.call.waiting p w.call (asks m y)) (sym same) w.asked;
              })
        ]

    pub Held-called : Held m (set ps q waiting) (calls ++ c ∷ []) (drawn + 1)
    Held-called =
        record {
          each_process = All-set (SoundProcess m) ps q waiting waiting-sound h.each_process;
          once = λ n.
              (let one = once-pushed n in
              let sums = sum_by-set (λ (y : Process). count_numbered n y.serving) ps q waiting nobody within in
              omega arith);
          each_call = λ d k. called-call d (Stands-push d (Stands-served (set ps q waiting) ps (calls ++ c ∷ []) (λ p. sym (serving-waits p)) d k));
          awaited = awaited-called;
        }

-- where a new process stands, and where the others do
at-push : (ps : List Process) (x : Process) (p : ℕ) → (process_at (ps ++ x ∷ []) p ≡ process_at ps p) ⊎ ((process_at ps p ≡ nobody) × (process_at (ps ++ x ∷ []) p ≡ x))
at-push [] x zero = inr (refl, refl)
at-push [] x (suc p) = inl refl
at-push (y ∷ ps) x zero = inl refl
at-push (y ∷ ps) x (suc p) = at-push ps x p

module _ (m : Meaning) (ps : List Process) (calls : List TransactionCall) (drawn : ℕ) (x : Process) (h : Held m ps calls drawn) (none : x.serving ≡ []) (free : IsFree x) where
  serving-push : (p : ℕ) → (process_at (ps ++ x ∷ []) p).serving ≡ (process_at ps p).serving
  serving-push p =
      elim (at-push ps x p) [
        | inl e ↦ ap (λ (y : Process). y.serving) e
        | inr e ↦ ap (λ (y : Process). y.serving) e.1 ∙ none ∙ ap (λ (y : Process). y.serving) (sym e.0)
      ]

  made-call : (d : TransactionCall) → SoundCall m ps drawn d → SoundCall m (ps ++ x ∷ []) drawn d
  made-call d k =
      record {
        number_drawn = k.number_drawn;
        arguments = k.arguments;
        waits = λ p e.
            let st = k.waits p e in
            elim (at-push ps x p.0) [
              | inl same ↦ ap (λ (y : Process). y.standing) same ∙ st
              | inr same ↦ (let over : Ended ≡ AtCall d.number = ap (λ (y : Process). y.standing) (sym same.0) ∙ st in absurd cc)
            ];
      }

  made-awaited : (p : ℕ) (n : CallId) → (process_at (ps ++ x ∷ []) p).standing ≡ AtCall n → IsAwaited m (ps ++ x ∷ []) calls p n
  made-awaited p n st =
      elim (at-push ps x p) [
        | inl same ↦
            (let w = h.awaited p n (ap (λ (y : Process). y.standing) (sym same) ∙ st) in
            record {
              call = w.call;
              there = Stands-served ps (ps ++ x ∷ []) calls serving-push w.call w.there;
              same_number = w.same_number;
              asked = subst (λ y. IsAskedBy w.call.waiting p w.call (asks m y)) (sym same) w.asked;
            })
        | inr same ↦ absurd (free n (ap (λ (y : Process). y.standing) (sym same.1) ∙ st))
      ]

  pub Held-made : SoundProcess m x → Held m (ps ++ x ∷ []) calls drawn
  Held-made own =
      record {
        each_process = All-push (SoundProcess m) ps x h.each_process own;
        once = λ n.
            (let one = h.once n in
            let more = sum_by_push (λ (y : Process). count_numbered n y.serving) ps x in
            let zeros = ap (count_numbered n) none in
            omega arith);
        each_call = λ d k. made-call d (h.each_call d (Stands-served (ps ++ x ∷ []) ps calls (λ p. sym (serving-push p)) d k));
        awaited = made-awaited;
      }
