-- A run on its way, turn by turn.
use Rattle.std.proofs.Common.{◌≡◌, ℕ, ◌≤◌, inl, inr, true, false, ◌<◌, ◌+◌, refl, sym, ap, ◌∙◌, subst, List, ◌∷◌, ◌++◌, Bool, Option, arith, cond, length, take}
use Rattle.std.proofs.lemmas.List.{append-nil}
use Rattle.std.proofs.lemmas.List.Sums.{sum_by-cons}
use Rattle.std.specs.Prelude.{if◌then◌else◌}
use Rattle.std.specs.List.{AllPass}
use Rattle.cc_base.specs.Meaning.{Meaning}
use Rattle.cc_base.specs.declared.request.Request.{Request}
use Rattle.cc_base.specs.declared.request.Request.TheVariants as request
use Rattle.cc_pool.specs.Driven.{GoesOn, NoneOut, StopsAtTheSink, StopsForMemory, is_untimed}
use Rattle.cc_rules.proofs.GoOn.{printed-append, turns-append}
use Rattle.cc_rules.proofs.QuietEvents.{settling-prints, settling-turns}
use Rattle.cc_rules.specs.Ends.{has_faulted, is_complete}
use Rattle.cc_rules.specs.Events.{next, request_at, word_of}
use Rattle.cc_rules.specs.Runs.{bytes_of, is_turn, printed, state_after, turns}
use Rattle.cc_rules.specs.Standing.{standing_of}
use Rattle.cc_rules.specs.State.{first_state}
use Rattle.cc_rules.specs.declared.event.Event.{Event}
use Rattle.cc_rules.specs.declared.event.Event.TheVariants.{Ask}
use Rattle.cc_rules.specs.declared.event.Standing.{Standing}
use Rattle.cc_rules.specs.declared.event.Standing.TheVariants.{Ended, Going}
use Rattle.cc_rules.specs.declared.event.Word.TheVariants as word
use Rattle.cc_world.proofs.Grown.{grown_twice}
use Rattle.cc_world.specs.Told.{GrewBy, GrewByPart, with_bytes}

-- at most the allowed turns were taken, none of them a Time, no process is out, and the sink grew by exactly what was
-- printed and has not failed
pub record OnItsWay (m : Meaning) (input : List ℕ) (allowed : ℕ) (journal : List Event) (outs : List Bool) (held held_now : Option (List ℕ)) (faults faults_now : ℕ) : Type 0 where
  pub within : turns journal ≤ allowed
  pub untimed : AllPass is_untimed journal
  pub inside : NoneOut outs
  pub grew : GrewBy held held_now (printed m input journal)
  pub spared : faults_now ≡ faults

pub turns-cons : (e : Event) (events : List Event) → turns (e ∷ events) ≡ cond (is_turn e) 1 0 + turns events
turns-cons e events = sum_by-cons (λ x. cond (is_turn x) 1 0) e events

module _ (m : Meaning) (input : List ℕ) (before journal : List Event) (bytes : List ℕ) (went : GoesOn m input before journal bytes) where
  -- the run printed these bytes more
  pub prints-on : printed m input journal ≡ printed m input before ++ bytes
  prints-on =
      let s = state_after m input before in
      let ask = Ask went.pid (word_of (request_at m s went.pid)) in
      ap (printed m input) went.events
      ∙ printed-append m (first_state input) before (ask ∷ went.settling)
      ∙ ap (λ bs. printed m input before ++ (bytes_of (request_at m s went.pid) ++ bs)) (settling-prints m (next m s ask) went.settling went.settles)
      ∙ ap (λ bs. printed m input before ++ bs) (append-nil (bytes_of (request_at m s went.pid)) ∙ sym went.prints)

  -- and took one turn more
  pub turns-on : turns journal ≡ turns before + 1
  turns-on =
      let s = state_after m input before in
      let ask = Ask went.pid (word_of (request_at m s went.pid)) in
      let both = ap turns went.events ∙ turns-append before (ask ∷ went.settling) in
      let one = turns-cons ask went.settling in
      omega (arith, both, one, settling-turns went.settling went.settles)

-- a request that prints something is a Print
print-word : (r : Request) (n : ℕ) → n < length (bytes_of r) → word_of r ≡ word.Print
print-word request.Pause n lt = absurd (omega (arith, lt))
print-word (request.Create kind args) n lt = absurd (omega (arith, lt))
print-word (request.Call target trans args) n lt = absurd (omega (arith, lt))
print-word (request.TimedCall target trans args wait) n lt = absurd (omega (arith, lt))
print-word (request.Send target trans args) n lt = absurd (omega (arith, lt))
print-word (request.Select alts) n lt = absurd (omega (arith, lt))
print-word (request.Delay wait) n lt = absurd (omega (arith, lt))
print-word (request.Reply value) n lt = absurd (omega (arith, lt))
print-word (request.Print bytes) n lt = refl
print-word request.Get n lt = absurd (omega (arith, lt))
print-word request.Done n lt = absurd (omega (arith, lt))
print-word (request.Fault kind) n lt = absurd (omega (arith, lt))

-- a run on its way goes on
pub way-on :
    (m : Meaning) (input : List ℕ) (allowed : ℕ) (before journal : List Event) (outs outs' : List Bool) (held mid now : Option (List ℕ)) (faults faults_mid faults_now : ℕ) (bytes : List ℕ)
    → OnItsWay m input allowed before outs held mid faults faults_mid
    → GoesOn m input before journal bytes
    → turns journal ≤ allowed
    → AllPass is_untimed journal
    → NoneOut outs'
    → GrewBy mid now bytes
    → faults_now ≡ faults_mid
    → OnItsWay m input allowed journal outs' held now faults faults_now
way-on m input allowed before journal outs outs' held mid now faults faults_mid faults_now bytes way went within untimed inside grew spared =
    record {
      within = within;
      untimed = untimed;
      inside = inside;
      grew =
          grew
          ∙ ap (λ known. with_bytes known bytes) way.grew
          ∙ grown_twice held (printed m input before) bytes
          ∙ ap (with_bytes held) (sym (prints-on m input before journal bytes went));
      spared = spared ∙ way.spared;
    }

-- it stops at the sink in the Print of its last turn
pub sink-stops :
    (m : Meaning) (input : List ℕ) (before journal : List Event) (held mid now : Option (List ℕ)) (bytes : List ℕ)
    → GrewBy held mid (printed m input before)
    → GoesOn m input before journal bytes
    → GrewByPart mid now bytes
    → StopsAtTheSink m input journal held now
sink-stops m input before journal held mid now bytes grew went part =
    let asked = bytes_of (request_at m (state_after m input before) went.pid) in
    let short : part.count < length asked = subst (λ (bs : List ℕ). part.count < length bs) went.prints part.short in
    record {
      part = printed m input before ++ take part.count bytes;
      stops =
          record {
            before = before;
            pid = went.pid;
            settling = went.settling;
            last_turn =
                went.events
                ∙ ap (λ w. before ++ Ask went.pid w ∷ went.settling) (print-word (request_at m (state_after m input before) went.pid) part.count short);
            settles = went.settles;
            count = part.count;
            proper = short;
            parts = ap (λ bs. printed m input before ++ take part.count bs) went.prints;
          };
      prints = part.held ∙ ap (λ known. with_bytes known (take part.count bytes)) grew ∙ grown_twice held (printed m input before) (take part.count bytes);
    }

-- out of memory as the bytes of its last turn are put
pub memory-stops : (m : Meaning) (input : List ℕ) (journal : List Event) (held now : Option (List ℕ)) → StopsAtTheSink m input journal held now → StopsForMemory m input journal held now
memory-stops m input journal held now at_sink = record { part = at_sink.part; stops = inr at_sink.stops; prints = at_sink.prints }

incomplete-if : (complete faulted : Bool) (rest : Standing) → (if complete then Ended faulted else rest) ≡ Going → complete ≡ false
incomplete-if true faulted rest h = cc
incomplete-if false faulted rest h = refl

-- out of memory between two turns
pub memory-stops_between :
    (m : Meaning) (input : List ℕ) (allowed : ℕ) (before journal : List Event) (held mid now : Option (List ℕ))
    → standing_of m input before allowed ≡ Going
    → GrewBy held mid (printed m input before)
    → journal ≡ before
    → now ≡ mid
    → StopsForMemory m input journal held now
memory-stops_between m input allowed before journal held mid now going grew same kept =
    let s = state_after m input before in
    record {
      part = printed m input journal;
      stops = inl (record { incomplete = rw same (incomplete-if (is_complete s) (has_faulted s) _ going); all = refl });
      prints = rw same (kept ∙ grew);
    }
