-- What a grant makes of the lists is what it makes of the code's state, instruction by instruction.
use Rattle.std.proofs.Common.{◌≡◌, ℕ, ℤ, pos, Bool, true, zero, suc, ◌+◌, ◌-◌, ◌<◌, ◌≤◌, List, [], ◌∷◌, ◌++◌, drop, length, take, Option, Some, None, Result, Ok, Err, refl, sym, ◌∙◌, ap, subst, arith, slice_get}
use Rattle.cc_base.specs.Formats.{conversions, formatted}
use Rattle.cc_base.specs.Granted.{byte_got, call_cells, or_fault, process_made, timed_cells}
use Rattle.cc_base.specs.Limits.{ticks_granted}
use Rattle.cc_base.specs.Numbers.{byte_of, callee}
use Rattle.cc_base.specs.Outcome.{Asked, Left, Outcome, Through, ◌>>=◌, ◌>>◌, and_then, ask, pure}
use Rattle.cc_base.specs.declared.names.Pid.{Pid}
use Rattle.cc_base.specs.declared.alternatives.Alt.{Alt}
use Rattle.cc_base.specs.declared.names.FaultKind.{FaultKind}
use Rattle.cc_base.specs.declared.names.FaultKind.TheVariants.{CalleeGone}
use Rattle.cc_base.specs.declared.request.Grant.{Grant}
use Rattle.cc_base.specs.declared.request.Grant.TheVariants as grant
use Rattle.cc_base.specs.declared.request.Request.TheVariants as request
use Rattle.cc_code.proofs.Proper.{follows-grant}
use Rattle.cc_code.proofs.Standing.{step-stands}
use Rattle.cc_code.proofs.Total.{goes-step}
use Rattle.cc_code.specs.Operands.{format_at, gives, kind_at, shape_at, takes}
use Rattle.cc_code.specs.Rules.{IsVerified}
use Rattle.cc_code.specs.Standing.{AsksValue, Kind, NextIsAnsweredInFull, Stands, StandsAfter}
use Rattle.cc_code.specs.Steps.{Asks, Goes, Ran, State, Stops, and_on, goes_on, performed, renews, step, with_grants, worked}
use Rattle.cc_code.specs.Works.{Next, Store, go_to, in_time, with_cells, works}
use Rattle.cc_code.specs.declared.code.RawCode.{RawCode}
use Rattle.cc_code.specs.declared.instr.Instr.{Instr}
use Rattle.cc_code.specs.declared.instr.Instr.TheVariants as instr
use Rattle.cc_vm.proofs.Acts.{Fits, Keeps}
use Rattle.cc_vm.proofs.Asking.{call-operands, one-operand, timed-operands}
use Rattle.cc_vm.proofs.Between.{below-put, length-between, length-with}
use Rattle.cc_vm.proofs.Granting.{faults-with, goes-with}
use Rattle.cc_vm.proofs.Running.{fits, lies-still}
use Rattle.cc_vm.specs.Granting.{Granted, Gives, GoesWith, IsFull, MayAnswer, Resumes, granted}
use Rattle.cc_vm.specs.Lists.{IsReady, kept_state}
use Rattle.cc_vm.specs.Machine.{between, cell_of, state_of}
use Rattle.cc_vm.specs.Running.{Follows, IsRoom, Ready}
use Rattle.cc_vm.specs.declared.lists.Lists.{Lists}
use Rattle.cc_vm.specs.declared.registers.Frame.{Frame}
use Rattle.cc_vm.specs.declared.registers.Registers.{Registers}

pub some-same : (i j : Instr) → Some i ≡ Some j → i ≡ j
some-same i j e = cc

first-same : (g h : Grant) (gs hs : List Grant) → g ∷ gs ≡ h ∷ hs → g ≡ h
first-same g h gs hs e = cc

full-by : (k : RawCode) (i : Instr) (g : Grant) → IsFull k i g → AsksValue i → (cells : List ℤ) → g ≡ grant.Value cells → length cells ≡ gives k i
full-by k (instr.Ask t) g h a cells e = subst (IsFull k (instr.Ask t)) e h
full-by k (instr.AskWithin t late) g h a cells e = subst (IsFull k (instr.AskWithin t late)) e h
full-by k i g h a cells e = absurd a

module _ (k : RawCode) (verified : IsVerified k) (room : ℕ) (enough : IsRoom k room) (a : Lists) (ready : IsReady k room a) (i : Instr) (here : slice_get k.instrs a.registers.at ≡ Some i) (g : Grant) (full : IsFull k i g)
    (is-worked : (s : State) → performed k i s ≡ worked k i s) (renewed : renews i ≡ true) where
  abbrev r : Registers
  r = a.registers

  abbrev S : List ℤ
  S = a.stack.items

  abbrev C : List ℤ
  C = a.cells.items

  abbrev F : List Frame
  F = a.frames.items

  abbrev place : ℕ
  place = r.top - takes k i

  abbrev taken : List ℤ
  taken = between place r.top S

  fit : Fits k i S C r
  fit = fits k verified room enough S C F r ready i here

  low : r.bottom ≤ place
  low = (let o : takes k i ≤ r.top - r.bottom = fit.operands in omega (arith, o, fit.low))

  high : place ≤ r.top
  high = omega arith

  size : length taken ≡ takes k i
  size = (let e : length taken ≡ r.top - place = length-between place r.top S fit.top in let o : takes k i ≤ r.top - r.bottom = fit.operands in omega (arith, e, o))

  recount : Stands k Kind (with_grants (kept_state a []) (g ∷ []))
  recount = record { address = ready.stands.address; height = ready.stands.height; part = ready.stands.part }

  answered : NextIsAnsweredInFull k (with_grants (kept_state a []) (g ∷ []))
  answered j there asks cells rest e =
      let q : i ≡ j = some-same i j (sym here ∙ there) in
      subst (λ (x : Instr). length cells ≡ gives k x) q (full-by k i g full (subst AsksValue (sym q) asks) cells (first-same g (grant.Value cells) [] rest e))

  -- it goes on with these cells
  module _ (given : List ℤ) (address : ℕ) (b : Lists) (to : Gives given (takes k i) address a b) (space : place + length given ≤ length S)
      (w : (offers : List (ℕ × Alt)) (rest : List Grant)
      → works k (r.at + 1) i taken (record { cells = between r.first r.end C; offers = offers }) (record { grants = g ∷ rest; ticks = r.ticks })
      ≡ Through (record { address = address; given = given }) (record { cells = between r.first r.end C; offers = offers }) (record { grants = rest; ticks = ticks_granted })) where
    abbrev next : Registers
    next = granted r address (place + length given)

    same : (P : List ℤ → List ℤ → List Frame → Registers → Type 0) → P (with_cells place given S) C F next → P b.stack.items b.cells.items b.frames.items b.registers
    same P h =
        subst (λ (X : List ℤ). P X b.cells.items b.frames.items b.registers) (sym to.stack)
        (subst (λ (X : List ℤ). P (with_cells place given S) X b.frames.items b.registers) (sym to.cells)
        (subst (λ (X : List Frame). P (with_cells place given S) C X b.registers) (sym to.frames)
        (subst (λ (X : Registers). P (with_cells place given S) C F X) (sym to.registers) h)))

    stepped-on : (offers : List (ℕ × Alt)) (rest : List Grant) → step k (with_grants (kept_state a offers) (g ∷ rest)) ≡ Goes (with_grants (state_of next (with_cells place given S) C F offers) rest)
    stepped-on offers rest = goes-with k i F S C r here is-worked renewed offers g rest place taken given address low high fit.top refl size space (w offers rest)

    keeps : Keeps S C r (with_cells place given S) C next
    keeps =
        record {
          stack = length-with place given S space;
          cells = refl;
          below = below-put S given place (omega (arith, high, fit.top)) r.bottom low;
          outside = refl;
          bottom = refl;
          first = refl;
          end = refl;
          calls = refl;
          top = omega (arith, low);
          under = space;
        }

    next-ready : Ready k room (with_cells place given S) C F next
    next-ready =
        record {
          stands = subst (StandsAfter k Kind) (stepped-on [] []) (step-stands k verified Kind (with_grants (kept_state a []) (g ∷ [])) recount answered);
          lies = lies-still k verified room enough S C F r ready (with_cells place given S) C next keeps;
          few = omega arith;
        }

    resumes-on : Resumes k room g a b None
    resumes-on = (
      same (λ X Y Z q. Ready k room X Y Z q) next-ready,
      λ process fed offers follows.
          same (λ X Y Z q. Follows k process (fed ++ g ∷ []) (state_of q X Y Z offers))
          (follows-grant k process fed (kept_state a offers) follows g (state_of next (with_cells place given S) C F offers) (λ rest. stepped-on offers rest)),
    )

    pub resumes-with : (o : Option FaultKind) → o ≡ None → Resumes k room g a b o
    resumes-with o e = subst (Resumes k room g a b) (sym e) resumes-on

module _ (k : RawCode) (verified : IsVerified k) (room : ℕ) (enough : IsRoom k room) (a : Lists) (ready : IsReady k room a) (b : Lists) (g : Grant) where
  -- one cell in the place of the operands, or none
  space-of : (i : Instr) → slice_get k.instrs a.registers.at ≡ Some i → (given : List ℤ) → length given ≤ gives k i → a.registers.top - takes k i + length given ≤ length a.stack.items
  space-of i here given l =
      (let f : Fits k i a.stack.items a.cells.items a.registers = fits k verified room enough a.stack.items a.cells.items a.frames.items a.registers ready i here in
      let s : a.registers.top - takes k i + gives k i ≤ length a.stack.items = f.room in omega (arith, s, l))

  abbrev store : List (ℕ × Alt) → Store
  store offers = record { cells = between a.registers.first a.registers.end a.cells.items; offers = offers }

  abbrev left-with : Grant → List Grant → Left
  left-with h rest = record { grants = h ∷ rest; ticks = a.registers.ticks }

  abbrev left : List Grant → Left
  left rest = left-with g rest

  -- an instruction that is at fault after the grant
  fault-resumes : (h : Grant) (kind : FaultKind) (o : Option FaultKind) → o ≡ Some kind
      → ((offers : List (ℕ × Alt)) → step k (with_grants (kept_state a offers) (h ∷ [])) ≡ Stops (Asks (request.Fault kind))) → Resumes k room h a b o
  fault-resumes h kind o e s =
      subst (Resumes k room h a b) (sym e)
      (λ process fed offers follows. follows (h ∷ []) ∙ goes-step k (with_grants (kept_state a offers) (h ∷ [])) ∙ ap (and_on (goes_on k)) (s offers))

  module _ (t : ℕ) where
    abbrev n : ℕ
    n = (shape_at k t).args

    abbrev number : ℤ
    number = cell_of a.stack.items (a.registers.top - n - 1)

    abbrev args : List ℤ
    args = between (a.registers.top - n) a.registers.top a.stack.items

    abbrev call-by : Grant → List (ℕ × Alt) → List Grant → Result Pid FaultKind → Outcome Store Next
    call-by h offers rest u =
        and_then (and_then (or_fault u (store offers) (left-with h rest)) (λ target. ask (request.Call target t args) >>= call_cells (shape_at k t).value)) (λ ws. go_to (a.registers.at + 1) ws)

    call-works : slice_get k.instrs a.registers.at ≡ Some (instr.Ask t) → (h : Grant) (offers : List (ℕ × Alt)) (rest : List Grant) (target : Pid) → callee number ≡ Ok target
        → works k (a.registers.at + 1) (instr.Ask t) (between (a.registers.top - (1 + n)) a.registers.top a.stack.items) (store offers) (left-with h rest) ≡ call-by h offers rest (Ok target)
    call-works here h offers rest target e =
        let f : Fits k (instr.Ask t) a.stack.items a.cells.items a.registers = fits k verified room enough a.stack.items a.cells.items a.frames.items a.registers ready (instr.Ask t) here in
        let m : 1 + n ≤ a.registers.top - a.registers.bottom = f.operands in
        ap (λ (vs : List ℤ). works k (a.registers.at + 1) (instr.Ask t) vs (store offers) (left-with h rest)) (call-operands a.stack.items a.registers.top n (omega (arith, m)) f.top)
        ∙ ap (call-by h offers rest) e

    calls : slice_get k.instrs a.registers.at ≡ Some (instr.Ask t) → (h : Grant) → IsFull k (instr.Ask t) h → MayAnswer k a (instr.Ask t) h → (o : Option FaultKind) → Granted k (instr.Ask t) h a b o → Resumes k room h a b o
    calls here (grant.Value cells) full may o d =
        resumes-with k verified room enough a ready (instr.Ask t) here (grant.Value cells) full (λ s. refl) refl cells (a.registers.at + 1) b d.1
        (space-of (instr.Ask t) here cells (omega (arith, full))) (λ offers rest. call-works here (grant.Value cells) offers rest may.0 may.1) o d.0
    calls here grant.Gone full may o d =
        let f : Fits k (instr.Ask t) a.stack.items a.cells.items a.registers = fits k verified room enough a.stack.items a.cells.items a.frames.items a.registers ready (instr.Ask t) here in
        let m : 1 + n ≤ a.registers.top - a.registers.bottom = f.operands in
        fault-resumes grant.Gone CalleeGone o d
        (λ offers.
        faults-with k (instr.Ask t) a.frames.items a.stack.items a.cells.items a.registers here (λ s. refl) refl offers grant.Gone [] (a.registers.top - (1 + n)) (between (a.registers.top - (1 + n)) a.registers.top a.stack.items) CalleeGone
        (omega (arith, m, f.low)) (omega arith) f.top refl
        (let e : length (between (a.registers.top - (1 + n)) a.registers.top a.stack.items) ≡ a.registers.top - (a.registers.top - (1 + n)) = length-between (a.registers.top - (1 + n)) a.registers.top a.stack.items f.top in omega (arith, e, m))
        (call-works here grant.Gone offers [] may.0 may.1))
    calls here h full may o d = absurd may

    abbrev wait : ℤ
    wait = cell_of a.stack.items (a.registers.top - n - 2)

    module _ (late : ℕ) where
      abbrev timed : List ℤ
      timed = between (a.registers.top - (2 + n)) a.registers.top a.stack.items

      abbrev timed-by : Grant → List (ℕ × Alt) → List Grant → Result Pid FaultKind → Outcome Store Next
      timed-by h offers rest u =
          and_then (and_then (or_fault u (store offers) (left-with h rest)) (λ target. ask (request.TimedCall target t args wait) >>= timed_cells (shape_at k t).value)) (in_time (a.registers.at + 1) late)

      timed-works : slice_get k.instrs a.registers.at ≡ Some (instr.AskWithin t late) → (h : Grant) (offers : List (ℕ × Alt)) (rest : List Grant) (target : Pid) → callee number ≡ Ok target
          → works k (a.registers.at + 1) (instr.AskWithin t late) timed (store offers) (left-with h rest) ≡ timed-by h offers rest (Ok target)
      timed-works here h offers rest target e =
          let f : Fits k (instr.AskWithin t late) a.stack.items a.cells.items a.registers = fits k verified room enough a.stack.items a.cells.items a.frames.items a.registers ready (instr.AskWithin t late) here in
          let m : 2 + n ≤ a.registers.top - a.registers.bottom = f.operands in
          ap (λ (vs : List ℤ). works k (a.registers.at + 1) (instr.AskWithin t late) vs (store offers) (left-with h rest)) (timed-operands a.stack.items a.registers.top n (omega (arith, m)) f.top)
          ∙ ap (timed-by h offers rest) e

      timed-calls : slice_get k.instrs a.registers.at ≡ Some (instr.AskWithin t late) → (h : Grant) → IsFull k (instr.AskWithin t late) h → MayAnswer k a (instr.AskWithin t late) h → (o : Option FaultKind) → Granted k (instr.AskWithin t late) h a b o → Resumes k room h a b o
      timed-calls here (grant.Value cells) full may o d =
          resumes-with k verified room enough a ready (instr.AskWithin t late) here (grant.Value cells) full (λ s. refl) refl cells (a.registers.at + 1) b d.1
          (space-of (instr.AskWithin t late) here cells (omega (arith, full))) (λ offers rest. timed-works here (grant.Value cells) offers rest may.0 may.1) o d.0
      timed-calls here grant.Late full may o d =
          resumes-with k verified room enough a ready (instr.AskWithin t late) here grant.Late full (λ s. refl) refl [] late b d.1
          (space-of (instr.AskWithin t late) here [] (omega arith)) (λ offers rest. timed-works here grant.Late offers rest may.0 may.1) o d.0
      timed-calls here grant.Gone full may o d =
          let f : Fits k (instr.AskWithin t late) a.stack.items a.cells.items a.registers = fits k verified room enough a.stack.items a.cells.items a.frames.items a.registers ready (instr.AskWithin t late) here in
          let m : 2 + n ≤ a.registers.top - a.registers.bottom = f.operands in
          fault-resumes grant.Gone CalleeGone o d
          (λ offers.
          faults-with k (instr.AskWithin t late) a.frames.items a.stack.items a.cells.items a.registers here (λ s. refl) refl offers grant.Gone [] (a.registers.top - (2 + n)) timed CalleeGone
          (omega (arith, m, f.low)) (omega arith) f.top refl
          (let e : length timed ≡ a.registers.top - (a.registers.top - (2 + n)) = length-between (a.registers.top - (2 + n)) a.registers.top a.stack.items f.top in omega (arith, e, m))
          (timed-works here grant.Gone offers [] may.0 may.1))
      timed-calls here h full may o d = absurd may

  pub resumes : (i : Instr) → slice_get k.instrs a.registers.at ≡ Some i → IsFull k i g → MayAnswer k a i g → (o : Option FaultKind) → Granted k i g a b o → Resumes k room g a b o
  resumes (instr.Create kind) here full may o h =
      resumes-with k verified room enough a ready (instr.Create kind) here g full (λ s. refl) refl (process_made g ∷ []) (a.registers.at + 1) b h.1
      (space-of (instr.Create kind) here (process_made g ∷ []) (omega arith)) (λ offers rest. refl) o h.0
  resumes instr.Wait here full may o h =
      resumes-with k verified room enough a ready instr.Wait here g full (λ s. refl) refl [] (a.registers.at + 1) b h.1 (space-of instr.Wait here [] (omega arith)) (λ offers rest. refl) o h.0
  resumes (instr.Reply n) here full may o h =
      resumes-with k verified room enough a ready (instr.Reply n) here g full (λ s. refl) refl [] (a.registers.at + 1) b h.1 (space-of (instr.Reply n) here [] (omega arith)) (λ offers rest. refl) o h.0
  resumes instr.GetByte here full may o h =
      resumes-with k verified room enough a ready instr.GetByte here g full (λ s. refl) refl (byte_got g ∷ []) (a.registers.at + 1) b h.1
      (space-of instr.GetByte here (byte_got g ∷ []) (omega arith)) (λ offers rest. refl) o h.0
  resumes instr.PutByte here full may o h =
      let x : ℤ = cell_of a.stack.items (a.registers.top - 1) in
      let f : Fits k instr.PutByte a.stack.items a.cells.items a.registers = fits k verified room enough a.stack.items a.cells.items a.frames.items a.registers ready instr.PutByte here in
      let t : 1 ≤ a.registers.top - a.registers.bottom = f.operands in
      resumes-with k verified room enough a ready instr.PutByte here g full (λ s. refl) refl (pos (byte_of x) ∷ []) (a.registers.at + 1) b h.1
      (space-of instr.PutByte here (pos (byte_of x) ∷ []) (omega arith))
      (λ offers rest. ap (λ (vs : List ℤ). works k (a.registers.at + 1) instr.PutByte vs (store offers) (left rest)) (one-operand a.stack.items a.registers.top (omega (arith, t)) f.top)) o h.0
  resumes (instr.Format n) here full may o h =
      resumes-with k verified room enough a ready (instr.Format n) here g full (λ s. refl) refl
      (pos (length (formatted (format_at k n) (between (a.registers.top - conversions (format_at k n)) a.registers.top a.stack.items))) ∷ []) (a.registers.at + 1) b h.1
      (space-of (instr.Format n) here (pos (length (formatted (format_at k n) (between (a.registers.top - conversions (format_at k n)) a.registers.top a.stack.items))) ∷ []) (omega arith)) (λ offers rest. refl) o h.0
  resumes (instr.Send t) here full may o h =
      let n : ℕ = (shape_at k t).args in
      let x : ℤ = cell_of a.stack.items (a.registers.top - n - 1) in
      let args : List ℤ = between (a.registers.top - n) a.registers.top a.stack.items in
      let f : Fits k (instr.Send t) a.stack.items a.cells.items a.registers = fits k verified room enough a.stack.items a.cells.items a.frames.items a.registers ready (instr.Send t) here in
      let e : 1 + n ≤ a.registers.top - a.registers.bottom = f.operands in
      resumes-with k verified room enough a ready (instr.Send t) here g full (λ s. refl) refl [] (a.registers.at + 1) b h.1
      (space-of (instr.Send t) here [] (omega arith))
      (λ offers rest.
      ap (λ (vs : List ℤ). works k (a.registers.at + 1) (instr.Send t) vs (store offers) (left rest)) (call-operands a.stack.items a.registers.top n (omega (arith, e)) f.top)
      ∙ ap (λ (u : Result Pid FaultKind). and_then (and_then (or_fault u (store offers) (left rest)) (λ target. ask (request.Send target t args) >> pure (tt {0}))) (λ _. go_to (a.registers.at + 1) [])) may.1) o h.0
  resumes (instr.Ask t) here full may o h = calls t here g full may o h
  resumes (instr.AskWithin t late) here full may o h = timed-calls t late here g full may o h
  resumes i here full may o h = absurd may
