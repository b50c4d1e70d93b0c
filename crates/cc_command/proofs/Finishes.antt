-- How a run ends of the program of a text of `putchar` statements.
use Rattle.std.proofs.Common.{◌≡◌, ℕ, ◌+◌, ◌≤◌, ◌<◌, ◌⊎◌, inl, inr, true, false, not, ◌&&◌, Bool, Some, sym, List, [], length, Option, refl, ap, ◌∙◌, subst, arith}
use Rattle.std.proofs.lemmas.Bool.Decides.{nat_tests}
use Rattle.std.specs.List.{AllPass}
use Rattle.std.specs.Prelude.{All, nat_eq, if◌then◌else◌}
use Rattle.cc_base.specs.Meaning.{Meaning}
use Rattle.cc_base.specs.declared.request.Grant.{Grant}
use Rattle.cc_base.specs.Requests.{WellFormed}
use Rattle.cc_command.proofs.Meant.{alike-printing}
use Rattle.cc_command.proofs.Prints.{alone}
use Rattle.cc_base.specs.declared.names.FaultKind.{FaultKind}
use Rattle.cc_base.specs.declared.names.Pid.{Pid}
use Rattle.cc_command.proofs.Sizes.{few-statements}
use Rattle.cc_command.proofs.Typing.{program-straight, program-typed}
use Rattle.cc_command.specs.Outcomes.{IsAllowedRun, RunsTo, RunsUntilOutOfMemory, RunsUntilThePrintFails}
use Rattle.cc_command.specs.Reports.{process_lines, run_report}
use Rattle.cc_command.specs.Statuses.{EndsSo, report_in, status_at, status_in}
use Rattle.cc_command.specs.Texts.{MeansProgram}
use Rattle.cc_command.specs.declared.cause.Ending.{Ending}
use Rattle.cc_command.specs.declared.cause.Ending.TheVariants.{Well, Faulted, Stuck}
use Rattle.cc_command.specs.declared.cause.Ending.TheVariants as the_end
use Rattle.cc_pool.specs.Driven.{GoesToItsEnd, IsRunOf, is_untimed}
use Rattle.cc_pool.specs.Driven as pool
use Rattle.cc_pool.specs.declared.driven.Stop.{Stop}
use Rattle.cc_pool.specs.declared.driven.Stop.TheVariants as stop
use Rattle.cc_source.specs.Early.{early_meaning}
use Rattle.cc_source.specs.Lawful.{early-is, early-means, early_form}
use Rattle.cc_command.proofs.Shapes.{Steps, run-steps}
use Rattle.cc_command.specs.Printing.{printing}
use Rattle.cc_command.specs.Program.{program_of}
use Rattle.cc_typed.specs.Parts.{Parts}
use Rattle.cc_typed.specs.Typed.{is_typed_program}
use Rattle.cc_source.specs.Straight.{is_straight_program}
use Rattle.cc_rules.specs.Standing.{IsOver, deadlines, least, standing_in, standing_of}
use Rattle.cc_rules.specs.State.{State}
use Rattle.cc_rules.proofs.AlikeRuns.{SameRun-alike}
use Rattle.cc_rules.specs.Ends.{has_deadline, has_faulted, has_running, is_complete, is_stuck}
use Rattle.cc_rules.specs.Runs.{IsRun, state_after, turns}
use Rattle.cc_rules.specs.Stops.{EndsWell}
use Rattle.cc_rules.specs.declared.event.Event.{Event}
use Rattle.cc_rules.specs.declared.event.Standing.{Standing}
use Rattle.cc_rules.specs.declared.event.Standing.TheVariants.{Going, Idle, Ended, Spent}
use Rattle.cc_rules.specs.declared.event.Standing.TheVariants as stood
use Rattle.cc_rules.specs.declared.process.ProcessStanding.TheVariants.{Running}
use Rattle.cc_source.specs.Programs.{meaning}

other-number : (k n : ℕ) → k < n → nat_eq k n ≡ false
other-number k n lt = grind (arith, nat_tests)

-- while `main` is running and turns are left, the run goes on
running-goes : (m : Meaning) (grants : List Grant) (spent allowed : ℕ) → spent < allowed → standing_in m (alone grants Running) spent allowed ≡ Going
running-goes m grants spent allowed lt = ap (λ b. if b then Spent else Going) (other-number spent allowed lt)

module _ (bytes : List ℕ) (small : All (λ b. b ≤ 255) bytes) (wf : WellFormed (meaning (program_of bytes))) (events : List Event) (run : IsRun (meaning (program_of bytes)) [] events) (untimed : AllPass is_untimed events) where
  abbrev m : Meaning
  m = meaning (program_of bytes)

  steps : Steps bytes (state_after m [] events) (turns events)
  steps =
      let same = SameRun-alike m (printing bytes) [] events wf (alike-printing bytes small) run in
      subst (λ s. Steps bytes s (turns events)) same.state (run-steps bytes events same.run untimed)

  ends-from : Steps bytes (state_after m [] events) (turns events) → (allowed : ℕ) → length bytes + 1 < allowed → IsOver (standing_in m (state_after m [] events) (turns events) allowed) → EndsWell m [] events
  ends-from (inl p) allowed few over =
      let left : turns events < allowed = omega (arith, p.within, few) in
      absurd (subst IsOver (ap (λ s. standing_in m s (turns events) allowed) p.state ∙ running-goes m p.grants (turns events) allowed left) over)
  ends-from (inr p) allowed few over = record { complete = ap is_complete p.state; no_fault = ap has_faulted p.state }

  -- with turns enough it goes to its end, at which nobody has faulted
  pub ends-well : (allowed : ℕ) → length bytes + 1 < allowed → IsOver (standing_in m (state_after m [] events) (turns events) allowed) → EndsWell m [] events
  ends-well = ends-from steps

-- ---- how a run stands that ended so

over-only :
    (complete faulted stuck spent idle : Bool) (until : ℕ) (b : Bool)
    → (if complete then Ended faulted else (if stuck then stood.Stuck else (if spent then Spent else (if idle then Idle until else Going)))) ≡ Ended b
    → (complete ≡ true) × (faulted ≡ b)
over-only true faulted stuck spent idle until b e = (refl, cc)
over-only false faulted true spent idle until b e = absurd cc
over-only false faulted false true idle until b e = absurd cc
over-only false faulted false false true until b e = absurd cc
over-only false faulted false false false until b e = absurd cc

-- a run that stands so has ended
ended-so : (m : Meaning) (s : State) (spent allowed : ℕ) (b : Bool) → standing_in m s spent allowed ≡ Ended b → (is_complete s ≡ true) × (has_faulted s ≡ b)
ended-so m s spent allowed b e =
    over-only (is_complete s) (has_faulted s) (is_stuck m s) (nat_eq spent allowed) (not (has_running s) && has_deadline s) (least (deadlines s)) b e

stands-well : (m : Meaning) (s : State) (spent allowed : ℕ) → is_complete s ≡ true → has_faulted s ≡ false → standing_in m s spent allowed ≡ Ended false
stands-well m s spent allowed complete sound =
    let rest : Standing = if is_stuck m s then stood.Stuck else (if nat_eq spent allowed then Spent else (if not (has_running s) && has_deadline s then Idle (least (deadlines s)) else Going)) in
    ap (λ b. if b then Ended (has_faulted s) else rest) complete ∙ ap (λ (b : Bool). Ended b) sound

told : (ending : Ending) (stands : Standing) (faults : List (Pid × FaultKind)) → EndsSo ending stands faults → status_at stands ≡ Some (status_in ending)
told Well stands faults so = ap status_at so
told (Faulted faulted) stands faults so = ap status_at so.0
told Stuck stands faults so = ap status_at so
told the_end.Spent stands faults so = ap status_at so

zero-well : (ending : Ending) (stands : Standing) (faults : List (Pid × FaultKind)) → EndsSo ending stands faults → status_in ending ≡ 0 → stands ≡ Ended false
zero-well Well stands faults so e = so
zero-well (Faulted faulted) stands faults so e = absurd (omega (arith, e))
zero-well Stuck stands faults so e = absurd (omega (arith, e))
zero-well the_end.Spent stands faults so e = absurd (omega (arith, e))

reported : (ending : Ending) (stands : Standing) (faults : List (Pid × FaultKind)) → EndsSo ending stands faults → report_in ending ≡ run_report (status_in ending) faults
reported Well stands faults so = refl
reported (Faulted faulted) stands faults so = ap process_lines so.1
reported Stuck stands faults so = refl
reported the_end.Spent stands faults so = refl

ended-well : (ending : Ending) (stands : Standing) (faults : List (Pid × FaultKind)) → EndsSo ending stands faults → stands ≡ Ended false → ending ≡ Well
ended-well Well stands faults so e = refl
ended-well (Faulted faulted) stands faults so e =
    let both : Ended true ≡ Ended false = sym so.0 ∙ e in
    absurd cc
ended-well Stuck stands faults so e =
    let both : stood.Stuck ≡ Ended false = sym so ∙ e in
    absurd cc
ended-well the_end.Spent stands faults so e =
    let both : Spent ≡ Ended false = sym so ∙ e in
    absurd cc

-- what holds of a run that was cut short
pub if_cut : {X : Type 0} (how cut : Stop) → how ≡ cut → ¬ (cut ≡ stop.Over) → (how ≡ stop.Over) ⊎ X → X
if_cut how cut is short (inl over) = absurd (short (sym is ∙ over))
if_cut how cut is short (inr x) = x

module _ (text : List ℕ) (program : Parts) (means : MeansProgram text program) where
  typed : is_typed_program program ≡ true
  typed = ap is_typed_program means.built.same ∙ program-typed means.built.bytes means.built.form.in_range

  straight : is_straight_program program ≡ true
  straight = ap is_straight_program means.built.same ∙ program-straight means.built.bytes

  -- the program of a text is what a value of the type of straight programs means
  pub same-meaning : early_meaning program ≡ meaning program
  same-meaning = early-means program (early-is program typed straight)

  formed : WellFormed (meaning (program_of means.built.bytes))
  formed = subst (λ (p : Parts). WellFormed (meaning p)) means.built.same (subst WellFormed same-meaning (early_form program))

  module _ (journal : List Event) (faults : List (Pid × FaultKind)) (stands : Standing) (held held_after : Option (List ℕ)) (run : IsRunOf (meaning program) [] 1000000 journal faults stands) where
    allowed-run : IsAllowedRun program journal
    allowed-run = record { legal = run.legal; settled = run.settled; within = run.within }

    ends-so : stands ≡ Ended false → EndsWell (meaning program) [] journal
    ends-so e =
        let both = ended-so (meaning program) (state_after (meaning program) [] journal) (turns journal) 1000000 false (sym run.stands ∙ e) in
        record { complete = both.0; no_fault = both.1 }

    pub finishes : (ending : Ending) → EndsSo ending stands faults → GoesToItsEnd (meaning program) [] journal stands held held_after → RunsTo program journal ending held held_after
    finishes ending so end =
        record {
          goes = record {
            run = allowed-run;
            stands = ap status_at (sym run.stands) ∙ told ending stands faults so;
            prints = end.prints;
            ends = λ e. ends-so (zero-well ending stands faults so e);
          };
          reports = reported ending stands faults so ∙ ap (run_report (status_in ending)) run.lists;
        }

    same-run : IsRun (meaning (program_of means.built.bytes)) [] journal
    same-run = subst (λ (p : Parts). IsRun (meaning p) [] journal) means.built.same run.legal

    same-over : IsOver stands → IsOver (standing_of (meaning (program_of means.built.bytes)) [] journal 1000000)
    same-over over = subst (λ (p : Parts). IsOver (standing_of (meaning p) [] journal 1000000)) means.built.same (subst IsOver run.stands over)

    pub well : AllPass is_untimed journal → (ending : Ending) → EndsSo ending stands faults → IsOver stands → ending ≡ Well
    well untimed ending so over =
        let end = ends-well means.built.bytes means.built.form.in_range formed journal same-run untimed 1000000 (few-statements text program means) (same-over over) in
        let here : EndsWell (meaning program) [] journal = subst (λ (p : Parts). EndsWell (meaning p) [] journal) (sym means.built.same) end in
        ended-well ending stands faults so (run.stands ∙ stands-well (meaning program) (state_after (meaning program) [] journal) (turns journal) 1000000 here.complete here.no_fault)

    pub stops : is_complete (state_after (meaning program) [] journal) ≡ false → pool.StopsAtTheSink (meaning program) [] journal held held_after → RunsUntilThePrintFails program journal held held_after
    stops incomplete cut =
        record {
          run = allowed-run;
          part = cut.part;
          prints = cut.prints;
          stops = cut.stops;
          incomplete = incomplete;
        }

    pub out_of_memory : is_complete (state_after (meaning program) [] journal) ≡ false → pool.StopsForMemory (meaning program) [] journal held held_after → RunsUntilOutOfMemory program journal held held_after
    out_of_memory incomplete cut =
        record {
          run = allowed-run;
          part = cut.part;
          prints = cut.prints;
          stops = elim cut.stops [ inl between ↦ inl between.all | inr within ↦ inr within ];
          incomplete = incomplete;
        }
