-- A process comes to its end: whoever waits for a call that is pending at it, or that it serves, is told that it is gone.
use Rattle.std.proofs.Common.{◌≡◌, ◌≢◌, ℕ, ◌+◌, ◌<◌, ◌⊎◌, inl, inr, Bool, true, false, not, List, [], ◌++◌, length, get_or, set, refl, sym, ap, ◌∙◌, subst, arith, cond}
use Rattle.std.specs.Prelude.{filter, nat_eq}
use Rattle.std.specs.List.{Contains}
use Rattle.std.proofs.lemmas.Bool.Decides.{nat_tests}
use Rattle.std.proofs.lemmas.List.Elements.{All-filter, filter_passes, Contains-append_cases, Contains-append_left, Contains-append_right}
use Rattle.std.proofs.lemmas.List.Kept.{AllPairs-filter}
use Rattle.std.proofs.lemmas.List.Sums.{sum_by-append}
use Rattle.cc_base.specs.Meaning.{Meaning}
use Rattle.cc_base.specs.declared.names.CallId.{CallId}
use Rattle.cc_rules.proofs.Answered.{Held-gone}
use Rattle.cc_rules.proofs.Filtered.{Contains-filter, filter-cases, sum_by-split}
use Rattle.cc_rules.proofs.Held.{Held-set, IsFree, Resets, Contains-nil}
use Rattle.cc_rules.proofs.Own.{TargetsAreThere, Held-from_sound, Sound-from_held, own-free, own-sound, own-within, there-within}
use Rattle.cc_rules.proofs.Stays.{AllStay, AllStay-ended}
use Rattle.cc_rules.specs.Effects.{ended, is_for}
use Rattle.cc_rules.specs.Sound.{asks, BelongsTo, Sound, SoundProcess, count_numbered}
use Rattle.cc_rules.specs.State.{Process, State, process_at, is_over, is_running}
use Rattle.cc_rules.specs.declared.process.ProcessStanding.{ProcessStanding}
use Rattle.cc_rules.specs.declared.process.ProcessStanding.TheVariants.{AtCall}
use Rattle.cc_rules.specs.declared.process.TransactionCall.{TransactionCall}

-- the calls at p, and the others
abbrev pub calls_at : List TransactionCall → ℕ → List TransactionCall
calls_at pending p = filter (is_for p) pending

abbrev pub calls_elsewhere : List TransactionCall → ℕ → List TransactionCall
calls_elsewhere pending p = filter (λ call. not (is_for p call)) pending

lost-back :
    (pending serving : List TransactionCall) (p : ℕ) (c : TransactionCall)
    → Contains ((calls_at pending p ++ serving) ++ calls_elsewhere pending p) c
    → Contains pending c ⊎ Contains serving c
lost-back pending serving p c h =
    elim (Contains-append_cases (calls_at pending p ++ serving) (calls_elsewhere pending p) c h) [
      | inl k ↦
          elim (Contains-append_cases (calls_at pending p) serving c k) [
            | inl j ↦ inl (Contains-filter (is_for p) pending c j)
            | inr j ↦ inr j
          ]
      | inr k ↦ inl (Contains-filter (λ call. not (is_for p call)) pending c k)
    ]

lost-forth :
    (pending serving : List TransactionCall) (p : ℕ) (c : TransactionCall)
    → Contains pending c ⊎ Contains serving c
    → Contains ((calls_at pending p ++ serving) ++ calls_elsewhere pending p) c
lost-forth pending serving p c (inl h) =
    elim (filter-cases (is_for p) pending c (is_for p c) refl h) [
      | inl k ↦
          Contains-append_left (calls_at pending p ++ serving) (calls_elsewhere pending p) c
          (Contains-append_left (calls_at pending p) serving c k)
      | inr k ↦ Contains-append_right (calls_at pending p ++ serving) (calls_elsewhere pending p) c k
    ]
lost-forth pending serving p c (inr h) =
    Contains-append_left (calls_at pending p ++ serving) (calls_elsewhere pending p) c
    (Contains-append_right (calls_at pending p) serving c h)

lost-count :
    (pending serving : List TransactionCall) (p n : ℕ)
    → count_numbered n ((calls_at pending p ++ serving) ++ calls_elsewhere pending p) ≡ count_numbered n pending + count_numbered n serving
lost-count pending serving p n =
    let f : TransactionCall → ℕ = λ call. cond (nat_eq call.number.0 n) 1 0 in
    let all = sum_by-append f (calls_at pending p ++ serving) (calls_elsewhere pending p) in
    let first = sum_by-append f (calls_at pending p) serving in
    let split = sum_by-split (is_for p) f pending in
    omega arith

over-free : (x : ProcessStanding) → is_over x ≡ true → (n : CallId) → x ≡ AtCall n → ⊥
over-free x over n e = let both : is_over (AtCall n) ≡ true = ap is_over (sym e) ∙ over in cc

Resets-lost :
    (ps : List Process) (p : ℕ) (x : Process) (pending : List TransactionCall)
    → p < length ps
    → IsFree (process_at ps p)
    → IsFree x
    → x.serving ≡ []
    → Resets ps p x pending ((calls_at pending p ++ (process_at ps p).serving) ++ calls_elsewhere pending p)
Resets-lost ps p x pending within was free none =
    let serving = (process_at ps p).serving in
    record {
      within = within;
      was_free = was;
      free = free;
      back = λ c h.
          elim h [
            | inl k ↦ lost-back pending serving p c k
            | inr k ↦ absurd (Contains-nil c (subst (λ xs. Contains xs c) none k))
          ];
      forth = λ c h. inl (lost-forth pending serving p c h);
      count = λ n. (let e = lost-count pending serving p n in let z = ap (count_numbered n) none in omega arith);
    }

pub SoundProcess-over :
    (m : Meaning) (x : Process) (standing : ProcessStanding)
    → SoundProcess m x
    → BelongsTo standing (asks m x)
    → SoundProcess m (record x { standing = standing; serving = [] })
SoundProcess-over m x standing h stands = record { kind_exists = h.kind_exists; proper = h.proper; stands = stands; free = λ over. refl }

-- a target that stays is another than p
other-target : (p : ℕ) (c : TransactionCall) → not (is_for p c) ≡ true → c.target.0 ≢ p
other-target p c h e = grind (arith, nat_tests)

targets-elsewhere :
    (p : ℕ) (ps qs : List Process) (pending : List TransactionCall)
    → AllStay p ps qs
    → TargetsAreThere ps pending
    → TargetsAreThere qs (calls_elsewhere pending p)
targets-elsewhere p ps qs pending stay targets =
    let test : TransactionCall → Bool = λ call. not (is_for p call) in
    let kept = All-filter test (λ (call : TransactionCall). is_over (process_at ps call.target.0).standing ≡ false) pending targets in
    let others = filter_passes test pending in
    λ k d lt.
    (let c : TransactionCall = get_or (calls_elsewhere pending p) k d in
    let there = kept k d lt in
    (stay c.target.0 (there-within ps c.target.0 there)).1.there (other-target p c (others k d lt)) there)

pub Sound-ended :
    (m : Meaning) (s : State) (p : ℕ) (standing : ProcessStanding)
    → Sound m s
    → is_running (process_at s.processes p).standing ≡ true
    → is_over standing ≡ true
    → BelongsTo standing (asks m (process_at s.processes p))
    → Sound m (ended s p standing)
Sound-ended m s p standing h r over stands =
    let q = process_at s.processes p in
    let x : Process = record q { standing = standing; serving = [] } in
    let lost = calls_at s.pending p ++ q.serving in
    let kept = calls_elsewhere s.pending p in
    Sound-from_held m (ended s p standing)
    (Held-gone m (set s.processes p x) lost kept s.drawn
    (Held-set s.processes p x s.pending (lost ++ kept)
    (Resets-lost s.processes p x s.pending (own-within m s h p r) (own-free m s h p r) (over-free standing over) refl)
    m s.drawn
    (Held-from_sound m s h)
    (SoundProcess-over m q standing (own-sound m s h p r) stands)))
    (AllPairs-filter (λ (a b : TransactionCall). a.number.0 < b.number.0) (λ call. not (is_for p call)) s.pending h.rising)
    (targets-elsewhere p s.processes (ended s p standing).processes s.pending (AllStay-ended s p standing) h.targets)
