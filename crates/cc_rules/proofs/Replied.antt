-- The innermost call that a process serves is answered.
use Rattle.std.proofs.Common.{◌≡◌, ℕ, suc, ◌+◌, ◌-◌, ◌<◌, ◌≤◌, ◌⊎◌, inl, inr, ℤ, pos, true, false, List, [], ◌∷◌, ◌++◌, length, set, take, get_or, replicate, refl, sym, ap, ◌∙◌, subst, arith, cond, Option, Some, None}
use Rattle.std.specs.Prelude.{nat_eq, slice_get}
use Rattle.std.specs.List.{Contains}
use Rattle.std.specs.Option.{option_map_or}
use Rattle.std.proofs.Math.Seq.{take-length}
use Rattle.std.proofs.lemmas.Grind.{take_at_read}
use Rattle.std.proofs.lemmas.List.{length-append, length-replicate, length-take}
use Rattle.std.proofs.lemmas.List.Elements.{Contains-append_cases, Contains-append_left, Contains-push}
use Rattle.std.proofs.lemmas.List.Sums.{sum_by-cons, sum_by_push}
use Rattle.std.proofs.lemmas.Option.{slice_get_within, slice_get-get_or, get_or_from_slice_get, none-some}
use Rattle.cc_base.specs.Meaning.{Meaning}
use Rattle.cc_base.specs.declared.request.Grant.{Grant}
use Rattle.cc_base.specs.declared.request.Grant.TheVariants.{Go, Value}
use Rattle.cc_base.specs.declared.request.Request.{Request}
use Rattle.cc_rules.proofs.Answered.{Held-answered, SoundProcess-granted}
use Rattle.cc_rules.proofs.Held.{Held-set, IsFree, Resets, at-same, Contains-cons, Contains-head, Contains-nil, Contains-tail}
use Rattle.cc_rules.proofs.Own.{Held-from_sound, Held-own, there-within, Sound-from_held, own-free, own-sound, own-within, targets-stay}
use Rattle.cc_rules.proofs.Stays.{AllStay-answered, AllStay-along, AllStay-own}
use Rattle.cc_base.specs.Grants.{value_cells}
use Rattle.cc_rules.specs.Effects.{answered, granted, of_cells, replied, without_innermost}
use Rattle.cc_base.specs.Grants.{Answers}
use Rattle.cc_rules.specs.Sound.{asks, IsAskedBy, Sound, SoundProcess, count_numbered}
use Rattle.cc_rules.specs.State.{Process, State, process_at, is_over, is_running}
use Rattle.cc_rules.specs.declared.process.TransactionCall.{TransactionCall}
use Rattle.cc_rules.specs.declared.process.Waiting.{Waiting}
use Rattle.cc_rules.specs.declared.process.Waiting.TheVariants.{Nobody, Caller, Until}

pub length-of_cells : (n : ℕ) (value : List ℤ) → length (of_cells n value) ≡ n
length-of_cells n value =
    let cut = length-take n (value ++ replicate n (pos 0)) in
    let both = length-append value (replicate n (pos 0)) in
    let zeros = length-replicate n (pos 0) in
    omega arith

-- a value of the transaction's cells answers a call of it
value-answers : (m : Meaning) (w : Waiting) (c : TransactionCall) (value : List ℤ) (p : ℕ) (r : Request)
    → IsAskedBy w p c r
    → Answers m r (Value (of_cells (value_cells m c.trans) value))
value-answers m Nobody c value p r h = absurd h
value-answers m (Caller q) c value p r h =
    subst (λ x. Answers m x (Value (of_cells (value_cells m c.trans) value))) (sym h.1) (length-of_cells (value_cells m c.trans) value)
value-answers m (Until q deadline) c value p r h =
    subst (λ x. Answers m x (Value (of_cells (value_cells m c.trans) value))) (sym h.1.1) (length-of_cells (value_cells m c.trans) value)

-- a list with a last element
last-of : (xs : List TransactionCall) (c : TransactionCall) → slice_get xs (length xs - 1) ≡ Some c → xs ≡ without_innermost xs ++ c ∷ []
last-of xs c e =
    let i = length xs - 1 in
    let lt : i < length xs = slice_get_within xs i c e in
    let whole : i + 1 ≡ length xs = omega arith in
    sym (take-length xs)
    ∙ ap (λ n. take n xs) (sym whole)
    ∙ (take_at_read xs i c lt).1
    ∙ ap (λ d. take i xs ++ d ∷ []) (get_or_from_slice_get xs i c c e)

none-last : (xs : List TransactionCall) → slice_get xs (length xs - 1) ≡ None → without_innermost xs ≡ xs
none-last [] e = refl
none-last (x ∷ xs) e =
    let i = length (x ∷ xs) - 1 in
    absurd (none-some (get_or (x ∷ xs) i x) (sym e ∙ slice_get-get_or (x ∷ xs) i x (omega arith)))

module _ (ps : List Process) (p : ℕ) (x : Process) (calls : List TransactionCall) (c : TransactionCall) (front : List TransactionCall) (split : (process_at ps p).serving ≡ front ++ c ∷ []) (left : x.serving ≡ front) where
  replied-back : (d : TransactionCall) → Contains (c ∷ calls) d ⊎ Contains x.serving d → Contains calls d ⊎ Contains (process_at ps p).serving d
  replied-back d (inl h) =
      elim (Contains-cons c calls d h) [
        | inl e ↦ inr (subst (λ xs. Contains xs d) (sym split) (subst (Contains (front ++ c ∷ [])) e (Contains-push front c)))
        | inr k ↦ inl k
      ]
  replied-back d (inr h) =
      inr (subst (λ xs. Contains xs d) (sym split) (Contains-append_left front (c ∷ []) d (subst (λ xs. Contains xs d) left h)))

  last-cases : (d : TransactionCall) → Contains front d ⊎ Contains (c ∷ []) d → Contains (c ∷ calls) d ⊎ Contains x.serving d
  last-cases d (inl h) = inr (subst (λ xs. Contains xs d) (sym left) h)
  last-cases d (inr h) =
      elim (Contains-cons c [] d h) [
        | inl e ↦ inl (subst (Contains (c ∷ calls)) e (Contains-head c calls))
        | inr k ↦ absurd (Contains-nil d k)
      ]

  replied-forth : (d : TransactionCall) → Contains calls d ⊎ Contains (process_at ps p).serving d → Contains (c ∷ calls) d ⊎ Contains x.serving d
  replied-forth d (inl h) = inl (Contains-tail c calls d h)
  replied-forth d (inr h) = last-cases d (Contains-append_cases front (c ∷ []) d (subst (λ xs. Contains xs d) split h))

  replied-count : (n : ℕ) → count_numbered n (c ∷ calls) + count_numbered n x.serving ≤ count_numbered n calls + count_numbered n (process_at ps p).serving
  replied-count n =
      let f : TransactionCall → ℕ = λ call. cond (nat_eq call.number.0 n) 1 0 in
      let first = sum_by-cons f c calls in
      let last = sum_by_push f front c in
      let whole = ap (count_numbered n) split in
      let part = ap (count_numbered n) left in
      omega (arith, first, last, whole, part)

  pub Resets-replied : p < length ps → IsFree (process_at ps p) → IsFree x → Resets ps p x calls (c ∷ calls)
  Resets-replied within was free =
      record { within = within; was_free = was; free = free; back = replied-back; forth = replied-forth; count = replied-count }

-- nobody comes to its end by an answer
after-told : (ps : List Process) (c : TransactionCall) (g : Grant) (p : ℕ) → is_over (process_at ps p).standing ≡ false → is_over (process_at (answered ps c g) p).standing ≡ false
after-told ps c g p there = (AllStay-answered (suc p) ps c g p (there-within ps p there)).1.there (λ e. omega (arith, e)) there

module _ (m : Meaning) (s : State) (p : ℕ) (h : Sound m s) (r : is_running (process_at s.processes p).standing ≡ true) (a : Answers m (asks m (process_at s.processes p)) Go) where
  -- p goes on without the innermost call
  abbrev replying : Process
  replying = record (granted (process_at s.processes p) Go) { serving = without_innermost (process_at s.processes p).serving }

  replying-sound : SoundProcess m replying
  replying-sound =
      let g = SoundProcess-granted m (process_at s.processes p) Go (own-sound m s h p r) a in
      record { kind_exists = g.kind_exists; proper = g.proper; stands = tt; free = λ over. absurd cc }

  replying-free : IsFree replying
  replying-free n e = cc

  Sound-replied_with :
      (value : List ℤ) (call : Option TransactionCall)
      → slice_get (process_at s.processes p).serving (length (process_at s.processes p).serving - 1) ≡ call
      → Sound m
      (record s {
        processes =
            option_map_or (λ c. answered (set s.processes p replying) c (Value (of_cells (value_cells m c.trans) value))) call
            (set s.processes p replying);
      })
  Sound-replied_with value None e =
      let ps = set s.processes p replying in
      Sound-from_held m (record s { processes = ps })
      (Held-own m s.processes s.pending s.drawn p replying (Held-from_sound m s h) (own-within m s h p r) (own-free m s h p r) replying-free
      (none-last (process_at s.processes p).serving e)
      replying-sound)
      h.rising
      (targets-stay p s.processes ps s.pending (AllStay-own p s.processes replying refl refl)
      (ap (λ (y : Process). is_over y.standing) (at-same s.processes p replying (own-within m s h p r)))
      h.targets)
  Sound-replied_with value (Some c) e =
      let serving = (process_at s.processes p).serving in
      let ps = set s.processes p replying in
      let g = Value (of_cells (value_cells m c.trans) value) in
      let within = own-within m s h p r in
      Sound-from_held m (record s { processes = answered ps c g })
      (Held-answered m ps c s.pending s.drawn g
      (Held-set s.processes p replying s.pending (c ∷ s.pending)
      (Resets-replied s.processes p replying s.pending c (without_innermost serving) (last-of serving c e) refl within (own-free m s h p r) replying-free)
      m s.drawn
      (Held-from_sound m s h)
      replying-sound)
      (value-answers m c.waiting c value))
      h.rising
      (targets-stay p s.processes (answered ps c g) s.pending
      (AllStay-along p s.processes ps (answered ps c g) (AllStay-own p s.processes replying refl refl) (AllStay-answered p ps c g))
      (after-told ps c g p (ap (λ (y : Process). is_over y.standing) (at-same s.processes p replying within)))
      h.targets)

  pub Sound-replied : (value : List ℤ) → Sound m (replied m s p value)
  Sound-replied value = Sound-replied_with value (slice_get (process_at s.processes p).serving (length (process_at s.processes p).serving - 1)) refl
