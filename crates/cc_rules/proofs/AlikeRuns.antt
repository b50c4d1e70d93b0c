-- Meanings that are alike have the same runs.
use Rattle.std.proofs.Common.{◌≡◌, ℕ, ℤ, Bool, true, false, ◌&&◌, List, [], ◌∷◌, ◌++◌, length, refl, sym, ap, ◌∙◌, subst, Some}
use Rattle.std.specs.Prelude.{if◌then◌else◌, slice_get}
use Rattle.std.proofs.Math.Path.{fun_ext}
use Rattle.std.proofs.lemmas.Bool.{and_parts}
use Rattle.cc_base.specs.Meaning.{Meaning}
use Rattle.cc_base.specs.declared.names.Pid.{Pid}
use Rattle.cc_base.specs.declared.request.Grant.{Grant}
use Rattle.cc_base.specs.declared.request.Request.{Request}
use Rattle.cc_rules.proofs.Own.{own-sound}
use Rattle.cc_rules.proofs.SoundRun.{Sound-first, Sound-next}
use Rattle.cc_rules.specs.Alike.{AreAlike}
use Rattle.cc_rules.specs.Effects.{effect}
use Rattle.cc_rules.specs.Ends.{is_due}
use Rattle.cc_rules.specs.Events.{is_legal, next, request_at, same_word, word_of}
use Rattle.cc_base.specs.Grants.{IsProper}
use Rattle.cc_base.specs.Requests.{WellFormed}
use Rattle.cc_rules.specs.Runs.{after, bytes_of, event_bytes, IsRun, IsRunFrom, IsSettled, IsSettledFrom, printed_from}
use Rattle.cc_rules.specs.Sound.{Sound}
use Rattle.cc_rules.specs.State.{State, first_state, is_running, process_at}
use Rattle.cc_rules.specs.declared.event.Event.{Event}
use Rattle.cc_rules.specs.declared.event.Event.TheVariants.{Ask, Accept, Instant, Expire, Withdraw, Time, End}
use Rattle.cc_rules.specs.declared.event.Word.{Word}

-- what these events are for two meanings, from this state on
pub record SameRun (m n : Meaning) (s : State) (events : List Event) : Type 0 where
  pub run : IsRunFrom n s events
  pub state : after n s events ≡ after m s events
  pub bytes : printed_from n s events ≡ printed_from m s events
  pub settled : IsSettledFrom m s events → IsSettledFrom n s events

running-if : (b x y : Bool) → (if b then false else x && y) ≡ true → x ≡ true
running-if true x y h = cc
running-if false x y h = (and_parts x y h).0

-- a meaning with other requests
abbrev pub with_act : Meaning → (ℕ → List ℤ → List Grant → Request) → Meaning
with_act m act = record m { act = act }

-- one whose requests are those of m after proper grants
module _
    (m : Meaning) (act : ℕ → List ℤ → List Grant → Request) (wf : WellFormed m)
    (same : (kind : ℕ) (args : List ℤ) (grants : List Grant) → slice_get m.kinds kind ≡ Some (length args) → IsProper m kind args grants → act kind args grants ≡ m.act kind args grants) where
  request-same : (s : State) (p : Pid) → Sound m s → is_running (process_at s.processes p.0).standing ≡ true → request_at (with_act m act) s p ≡ request_at m s p
  request-same s p h r =
      let own = own-sound m s h p.0 r in
      let q = process_at s.processes p.0 in
      same q.kind q.args q.grants own.kind_exists own.proper

  asks-running : (s : State) (p : Pid) (w : Word) → is_legal m s (Ask p w) ≡ true → is_running (process_at s.processes p.0).standing ≡ true
  asks-running s p w l = running-if (is_due m s) (is_running (process_at s.processes p.0).standing) (same_word w (word_of (request_at m s p))) l

  legal-same : (s : State) (e : Event) → Sound m s → is_legal m s e ≡ true → is_legal (with_act m act) s e ≡ true
  legal-same s (Ask p w) h l =
      let x = is_running (process_at s.processes p.0).standing in
      ap (λ r. if is_due m s then false else x && same_word w (word_of r)) (request-same s p h (asks-running s p w l)) ∙ l
  legal-same s (Accept p i c) h l = l
  legal-same s (Instant p i) h l = l
  legal-same s (Expire p i) h l = l
  legal-same s (Withdraw c) h l = l
  legal-same s (Time t) h l = l
  legal-same s End h l = l

  effect-same : (s : State) (p : Pid) (r : Request) → effect (with_act m act) s p r ≡ effect m s p r
  effect-same s p r = refl

  next-same : (s : State) (e : Event) → Sound m s → is_legal m s e ≡ true → next (with_act m act) s e ≡ next m s e
  next-same s (Ask p w) h l = ap (λ r. (let t : State = effect m s p r in record t { after_time = false })) (request-same s p h (asks-running s p w l))
  next-same s (Accept p i c) h l = refl
  next-same s (Instant p i) h l = refl
  next-same s (Expire p i) h l = refl
  next-same s (Withdraw c) h l = refl
  next-same s (Time t) h l = refl
  next-same s End h l = refl

  bytes-same : (s : State) (e : Event) → Sound m s → is_legal m s e ≡ true → event_bytes (with_act m act) s e ≡ event_bytes m s e
  bytes-same s (Ask p w) h l = ap bytes_of (request-same s p h (asks-running s p w l))
  bytes-same s (Accept p i c) h l = refl
  bytes-same s (Instant p i) h l = refl
  bytes-same s (Expire p i) h l = refl
  bytes-same s (Withdraw c) h l = refl
  bytes-same s (Time t) h l = refl
  bytes-same s End h l = refl

  settled-same : (s : State) → IsSettled m s → IsSettled (with_act m act) s
  settled-same s h (Ask p w) k = absurd cc
  settled-same s h (Accept p i c) k = h (Accept p i c) k
  settled-same s h (Instant p i) k = h (Instant p i) k
  settled-same s h (Expire p i) k = h (Expire p i) k
  settled-same s h (Withdraw c) k = h (Withdraw c) k
  settled-same s h (Time t) k = absurd cc
  settled-same s h End k = h End k

  pub SameRun-from : (s : State) (events : List Event) → Sound m s → IsRunFrom m s events → SameRun m (with_act m act) s events
  SameRun-from s [] h run = record { run = tt; state = refl; bytes = refl; settled = settled-same s }
  SameRun-from s (e ∷ events) h run =
      let n = with_act m act in
      let t = next-same s e h run.0 in
      let rest = SameRun-from (next m s e) events (Sound-next m s wf h e run.0) run.1 in
      record {
        run = (legal-same s e h run.0, subst (λ u. IsRunFrom n u events) (sym t) rest.run);
        state = ap (λ u. after n u events) t ∙ rest.state;
        bytes =
            ap (λ u. event_bytes n s e ++ printed_from n u events) t
            ∙ ap (λ first. first ++ printed_from n (next m s e) events) (bytes-same s e h run.0)
            ∙ ap (λ more. event_bytes m s e ++ more) rest.bytes;
        settled = λ k. (
          (λ turn. settled-same s (k.0 turn)),
          subst (λ u. IsSettledFrom n u events) (sym t) (rest.settled k.1),
        );
      }

-- the meaning is one with other requests alone
pub alike-is : (m n : Meaning) → AreAlike m n → with_act m n.act ≡ n
alike-is m n h =
    ap (λ kinds. record m { kinds = kinds; act = n.act }) (sym h.same_kinds)
    ∙ ap (λ shapes. record m { kinds = n.kinds; shapes = shapes; act = n.act }) (sym h.same_shapes)
    ∙ ap (λ fit. record m { kinds = n.kinds; shapes = n.shapes; act = n.act; fit = fit })
    (sym (fun_ext (λ site. fun_ext (λ env. fun_ext (λ args. h.same_fit site env args)))))

pub SameRun-alike :
    (m n : Meaning) (input : List ℕ) (events : List Event)
    → WellFormed m
    → AreAlike m n
    → IsRun m input events
    → SameRun m n (first_state input) events
SameRun-alike m n input events wf h run =
    subst (λ k. SameRun m k (first_state input) events) (alike-is m n h)
    (SameRun-from m n.act wf h.same_act (first_state input) events (Sound-first m input wf) run)
