-- Meanings that are alike are so both ways, and stand alike.
use Rattle.std.proofs.Common.{◌≡◌, ◌≢◌, ℕ, ℤ, ◌<◌, ◌≤◌, Bool, true, List, [], ◌∷◌, ◌++◌, length, refl, sym, ap, ◌∙◌, subst, Some, None}
use Rattle.std.specs.Prelude.{slice_get}
use Rattle.cc_base.specs.Grants.{Answers, HasKind, IsNext, IsProper, IsProperAfter}
use Rattle.cc_base.specs.Meaning.{Meaning}
use Rattle.cc_base.specs.Requests.{HasSites, IsRequestOf, NamesSites, WellFormed}
use Rattle.cc_base.specs.declared.names.Pid.{Pid}
use Rattle.cc_base.specs.declared.request.Grant.{Grant}
use Rattle.cc_base.specs.declared.request.Request.{Request}
use Rattle.cc_rules.proofs.AlikeRuns.{SameRun-alike, alike-is, with_act}
use Rattle.cc_rules.proofs.Proper.{IsProperAfter-push}
use Rattle.cc_rules.proofs.SoundRun.{Sound-run}
use Rattle.cc_rules.specs.Alike.{AreAlike}
use Rattle.cc_rules.specs.Ends.{is_complete, is_due, is_stuck, is_unsettled}
use Rattle.cc_rules.specs.Events.{request_at}
use Rattle.cc_rules.specs.Runs.{IsRun, state_after, turns}
use Rattle.cc_rules.specs.Sound.{SoundProcess}
use Rattle.cc_rules.specs.Standing.{standing_in, standing_of}
use Rattle.cc_rules.specs.State.{State, nobody, process_at}
use Rattle.cc_rules.specs.declared.event.Event.{Event}

-- one whose requests are those of m after proper grants
module _
    (m : Meaning) (act : ℕ → List ℤ → List Grant → Request)
    (same : (kind : ℕ) (args : List ℤ) (grants : List Grant) → slice_get m.kinds kind ≡ Some (length args) → IsProper m kind args grants → act kind args grants ≡ m.act kind args grants) where
  -- what is next for the one is next for the other
  next-back :
      (kind : ℕ) (args : List ℤ) (before : List Grant) (g : Grant)
      → slice_get m.kinds kind ≡ Some (length args)
      → IsProperAfter m kind args [] before
      → IsNext (with_act m act) kind args before g
      → IsNext m kind args before g
  next-back kind args [] g k h n = n
  next-back kind args (x ∷ before) g k h n =
      let F : Request → Type 0 = λ r. Answers m r g in
      subst F (same kind args (x ∷ before) k ((λ e. cc), h)) n

  proper-back :
      (kind : ℕ) (args : List ℤ) (before grants : List Grant)
      → slice_get m.kinds kind ≡ Some (length args)
      → IsProperAfter m kind args [] before
      → IsProperAfter (with_act m act) kind args before grants
      → IsProperAfter m kind args before grants
  proper-back kind args before [] k h n = tt
  proper-back kind args before (g ∷ grants) k h n =
      let first = next-back kind args before g k h n.0 in
      (first, proper-back kind args (before ++ g ∷ []) grants k (IsProperAfter-push m kind args [] before g h first) n.1)

  alike-back : AreAlike (with_act m act) m
  alike-back =
      record {
        same_kinds = refl;
        same_shapes = refl;
        same_fit = λ site env args. refl;
        same_act = λ kind args grants k proper. sym (same kind args grants k (proper.0, proper-back kind args [] grants k tt proper.1));
      }

  request-as : (r : Request) → IsRequestOf m r → IsRequestOf (with_act m act) r
  request-as r h = h

  well-as : WellFormed m → WellFormed (with_act m act)
  well-as wf =
      record {
        main = wf.main;
        requests = λ kind args grants k proper.
            (let own : IsProper m kind args grants = (proper.0, proper-back kind args [] grants k tt proper.1) in
            let F : Request → Type 0 = λ r. IsRequestOf m r in
            request-as (act kind args grants) (subst F (sym (same kind args grants k own)) (wf.requests kind args grants k own)));
      }

  sites-as : (sites : ℕ) → HasSites m sites → HasSites (with_act m act) sites
  sites-as sites h =
      record {
        names = λ kind args grants k proper.
            (let own : IsProper m kind args grants = (proper.0, proper-back kind args [] grants k tt proper.1) in
            let F : Request → Type 0 = λ r. NamesSites sites r in
            subst F (sym (same kind args grants k own)) (h.names kind args grants k own));
        fits = h.fits;
      }

pub back : (m n : Meaning) → AreAlike m n → AreAlike n m
back m n h = subst (λ k. AreAlike k m) (alike-is m n h) (alike-back m n.act h.same_act)

pub well-formed : (m n : Meaning) → AreAlike m n → WellFormed m → WellFormed n
well-formed m n h wf = subst WellFormed (alike-is m n h) (well-as m n.act h.same_act wf)

pub has-sites : (m n : Meaning) (sites : ℕ) → AreAlike m n → HasSites m sites → HasSites n sites
has-sites m n sites h k = subst (λ x. HasSites x sites) (alike-is m n h) (sites-as m n.act h.same_act sites k)

pub due-same : (m n : Meaning) (s : State) → AreAlike m n → is_due n s ≡ is_due m s
due-same m n s h = subst (λ k. is_due k s ≡ is_due m s) (alike-is m n h) refl

pub stuck-same : (m n : Meaning) (s : State) → AreAlike m n → is_stuck n s ≡ is_stuck m s
stuck-same m n s h = subst (λ k. is_stuck k s ≡ is_stuck m s) (alike-is m n h) refl

pub unsettled-same : (m n : Meaning) (s : State) → AreAlike m n → is_unsettled n s ≡ is_unsettled m s
unsettled-same m n s h = subst (λ k. is_unsettled k s ≡ is_unsettled m s) (alike-is m n h) refl

module _
    (m n : Meaning) (input : List ℕ) (events : List Event) (wf : WellFormed m) (h : AreAlike m n) (run : IsRun m input events) where
  state-same : state_after n input events ≡ state_after m input events
  state-same = (SameRun-alike m n input events wf h run).state

  pub complete-same : is_complete (state_after n input events) ≡ is_complete (state_after m input events)
  complete-same = ap is_complete state-same

  pub standing-same : (allowed : ℕ) → standing_of n input events allowed ≡ standing_of m input events allowed
  standing-same allowed =
      ap (λ s. standing_in n s (turns events) allowed) state-same
      ∙ subst (λ k. standing_in k (state_after m input events) (turns events) allowed ≡ standing_of m input events allowed) (alike-is m n h) refl

  pub request-same :
      (p : Pid)
      → p.0 < length (state_after m input events).processes
      → request_at n (state_after n input events) p ≡ request_at m (state_after m input events) p
  request-same p lt =
      let s = state_after m input events in
      let q = process_at s.processes p.0 in
      let sound : SoundProcess m q = (Sound-run m input events wf run).each_process p.0 nobody lt in
      ap (λ t. request_at n t p) state-same ∙ h.same_act q.kind q.args q.grants sound.kind_exists sound.proper
