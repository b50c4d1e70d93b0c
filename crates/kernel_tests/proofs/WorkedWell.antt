-- The programs that are written out by hand are well formed.
use Rattle.std.proofs.Common.{pos, [], ◌∷◌, refl}
use Rattle.cc_base.specs.Meaning.{Meaning}
use Rattle.cc_base.specs.declared.alternatives.Alt.TheVariants.{Accept, After, Now, Terminate}
use Rattle.cc_base.specs.declared.request.Grant.{Grant}
use Rattle.cc_base.specs.declared.request.Grant.TheVariants.{Took, Gone}
use Rattle.kernel_tests.proofs.Scripted.{WellFormed-scripted, select-of}
use Rattle.cc_base.specs.Requests.{IsRequestOf, WellFormed}
use Rattle.kernel_tests.specs.Worked.AcceptedInTime as accepted_in_time
use Rattle.kernel_tests.specs.Worked.CalleeEnded as callee_ended
use Rattle.kernel_tests.specs.Worked.CallsItself as calls_itself
use Rattle.kernel_tests.specs.Worked.EndIsDue as end_is_due
use Rattle.kernel_tests.specs.Worked.Immediate as immediate
use Rattle.kernel_tests.specs.Worked.LateCall as late_call
use Rattle.kernel_tests.specs.Worked.LeastRank as least_rank
use Rattle.kernel_tests.specs.Worked.Nested as nested
use Rattle.kernel_tests.specs.Worked.NoFit as no_fit
use Rattle.kernel_tests.specs.Worked.Script.{fits_all, unwaited, waited}

logged-well : (m : Meaning) (grant : Grant) → IsRequestOf m (least_rank.logged grant)
logged-well m (Took alt (k ∷ c ∷ [])) = tt
logged-well m _ = tt

after-well : (m : Meaning) (grant : Grant) → IsRequestOf m (callee_ended.after_call grant)
after-well m Gone = tt
after-well m _ = tt

pub least_rank-well : WellFormed least_rank.program
least_rank-well =
    let m = least_rank.program in
    WellFormed-scripted (0 ∷ 0 ∷ []) (waited 0 0 ∷ unwaited 2 ∷ []) (least_rank.main_script ∷ least_rank.server_script ∷ []) least_rank.first_argument refl
    (((λ g. refl), ((λ g. refl), ((λ g. refl), ((λ g. refl), ((λ g. refl), tt))))), (((λ g. select-of m (0, Accept 0 0 []) ([]) refl refl), ((λ g. tt), ((λ g. select-of m (0, Accept 1 1 []) ([]) refl refl), ((logged-well m), ((λ g. tt), ((λ g. select-of m (0, Accept 1 1 []) ([]) refl refl), ((logged-well m), ((λ g. tt), ((λ g. select-of m (0, Accept 1 1 []) ([]) refl refl), ((logged-well m), ((λ g. tt), tt))))))))))), tt))

pub no_fit-well : WellFormed no_fit.program
no_fit-well =
    let m = no_fit.program in
    WellFormed-scripted (0 ∷ 0 ∷ []) (unwaited 1 ∷ []) (no_fit.main_script ∷ no_fit.server_script ∷ []) no_fit.divisor_fits refl
    (((λ g. refl), ((λ g. refl), tt)), (((λ g. select-of m (0, Accept 0 0 []) ((1, Terminate) ∷ []) refl refl), ((λ g. tt), ((λ g. tt), tt))), tt))

pub late_call-well : WellFormed late_call.program
late_call-well =
    let m = late_call.program in
    WellFormed-scripted (0 ∷ 0 ∷ []) (waited 0 0 ∷ waited 0 1 ∷ []) (late_call.main_script ∷ late_call.server_script ∷ []) fits_all refl
    (((λ g. refl), ((λ g. refl), ((λ g. tt), ((λ g. refl), ((λ g. refl), ((λ g. tt), tt)))))), (((λ g. select-of m (0, Accept 0 0 []) ([]) refl refl), ((λ g. tt), ((λ g. select-of m (0, Accept 1 1 []) ([]) refl refl), ((λ g. tt), tt)))), tt))

pub accepted_in_time-well : WellFormed accepted_in_time.program
accepted_in_time-well =
    let m = accepted_in_time.program in
    WellFormed-scripted (0 ∷ 0 ∷ []) (waited 0 1 ∷ []) (accepted_in_time.main_script ∷ accepted_in_time.server_script ∷ []) fits_all refl
    (((λ g. refl), ((λ g. refl), ((λ g. tt), tt))), (((λ g. tt), ((λ g. select-of m (0, Accept 0 0 []) ([]) refl refl), ((λ g. tt), ((λ g. tt), tt)))), tt))

pub immediate-open_well : WellFormed immediate.open_program
immediate-open_well =
    let m = immediate.open_program in
    WellFormed-scripted (0 ∷ 1 ∷ []) (unwaited 0 ∷ []) (immediate.main_script (pos 1) ∷ immediate.open_script ∷ []) fits_all refl
    (((λ g. refl), ((λ g. refl), tt)), (((λ g. tt), ((λ g. select-of m (0, Accept 0 0 []) ((1, Now) ∷ []) refl refl), ((λ g. tt), ((λ g. tt), tt)))), tt))

pub immediate-closed_well : WellFormed immediate.closed_program
immediate-closed_well =
    let m = immediate.closed_program in
    WellFormed-scripted (0 ∷ 1 ∷ []) (unwaited 0 ∷ []) (immediate.main_script (pos 0) ∷ immediate.closed_script ∷ []) fits_all refl
    (((λ g. refl), ((λ g. refl), tt)), (((λ g. tt), ((λ g. select-of m (1, Now) ([]) refl refl), ((λ g. tt), tt))), tt))

pub end_is_due-well : WellFormed end_is_due.program
end_is_due-well =
    let m = end_is_due.program in
    WellFormed-scripted (0 ∷ 0 ∷ []) (waited 0 0 ∷ []) (end_is_due.main_script ∷ end_is_due.server_script ∷ []) fits_all refl
    (((λ g. refl), tt), (((λ g. select-of m (0, Accept 0 0 []) ((1, After (pos 1000)) ∷ (2, Terminate) ∷ []) refl refl), ((λ g. tt), tt)), tt))

pub calls_itself-well : WellFormed calls_itself.program
calls_itself-well =
    let m = calls_itself.program in
    WellFormed-scripted (0 ∷ 0 ∷ []) (waited 1 0 ∷ waited 0 0 ∷ []) (calls_itself.main_script ∷ calls_itself.server_script ∷ []) fits_all refl
    (((λ g. refl), ((λ g. refl), tt)), (((λ g. select-of m (0, Accept 0 0 []) ([]) refl refl), ((λ g. tt), ((λ g. refl), tt))), tt))

pub callee_ended-caller_well : WellFormed callee_ended.caller
callee_ended-caller_well =
    let m = callee_ended.caller in
    WellFormed-scripted (0 ∷ 0 ∷ []) (waited 0 0 ∷ unwaited 0 ∷ []) (callee_ended.caller_script ∷ [] ∷ []) fits_all refl
    (((λ g. refl), ((λ g. tt), ((λ g. refl), ((after-well m), tt)))), (tt, tt))

pub callee_ended-sender_well : WellFormed callee_ended.sender
callee_ended-sender_well =
    let m = callee_ended.sender in
    WellFormed-scripted (0 ∷ 0 ∷ []) (waited 0 0 ∷ unwaited 0 ∷ []) (callee_ended.sender_script ∷ [] ∷ []) fits_all refl
    (((λ g. refl), ((λ g. tt), ((λ g. refl), ((after-well m), tt)))), (tt, tt))

pub nested-well : WellFormed nested.program
nested-well =
    let m = nested.program in
    WellFormed-scripted (0 ∷ 0 ∷ 1 ∷ []) (waited 0 1 ∷ waited 0 1 ∷ []) (nested.main_script ∷ nested.server_script ∷ nested.caller_script ∷ []) fits_all refl
    (((λ g. refl), ((λ g. refl), ((λ g. refl), ((λ g. tt), tt)))), (((λ g. select-of m (0, Accept 1 0 []) ([]) refl refl), ((λ g. select-of m (0, Accept 0 1 []) ([]) refl refl), ((λ g. tt), ((λ g. tt), tt)))), (((λ g. refl), ((λ g. tt), tt)), tt)))
