-- The machine's step is the code's.
use Rattle.std.proofs.Common.{◌≡◌, ℕ, ℤ, pos, zero, suc, ◌+◌, ◌-◌, ◌*◌, ◌<◌, ◌≤◌, inl, inr, Bool, true, false, List, [], ◌∷◌, ◌++◌, length, length-append, drop, take, replicate, get_or, slice_get, Option, Some, None, refl, sym, ◌∙◌, ap, subst, arith, add-one}
use Rattle.std.specs.Prelude.{nat_le, nat_lt, slice_set, if◌then◌else◌}
use Rattle.std.proofs.lemmas.Bool.Decides.{nat_tests}
use Rattle.std.proofs.lemmas.Grind.{common_steps}
use Rattle.std.proofs.lemmas.List.{get_or-set_other, get_or-set_same, length-replicate, length-set, take-take}
use Rattle.cc_base.specs.Limits.{most_calls, most_cells, most_instructions, most_steps}
use Rattle.cc_base.specs.declared.alternatives.Alt.{Alt}
use Rattle.cc_base.specs.declared.names.FaultKind.{FaultKind}
use Rattle.cc_base.specs.declared.names.FaultKind.TheVariants.{Cells, Depth, Index}
use Rattle.cc_base.specs.declared.request.Grant.{Grant}
use Rattle.cc_base.specs.declared.request.Request.TheVariants as request
use Rattle.cc_code.proofs.Proper.{follows-on, follows-stop}
use Rattle.cc_code.proofs.Standing.{step-stands}
use Rattle.cc_code.proofs.Total.{spends-lighter, step-spends}
use Rattle.std.proofs.lemmas.Option.{get_or_from_slice_get, slice_get_cases}
use Rattle.cc_base.specs.Outcome.{Left}
use Rattle.cc_code.specs.Operands.{function_at, gives, no_part, takes}
use Rattle.cc_code.specs.Rules.{IsVerified, KeepsHeights, height_at}
use Rattle.cc_code.specs.Standing.{GoBack, Kind, NextIsAnsweredInFull, Spends, StandsAfter}
use Rattle.cc_code.specs.Steps as steps
use Rattle.cc_code.specs.Steps.{Asks, Goes, Ran, State, Stepped, Stops, and_on, called, called_if, called_with, cells_at_start, cells_below, goes_on, performed, popped, returned_to, step, stepped, with_grants, within_bound}
use Rattle.cc_code.specs.Works.{with_cells}
use Rattle.cc_code.specs.declared.code.Part.{Part}
use Rattle.cc_code.specs.declared.code.RawCode.{RawCode}
use Rattle.cc_code.specs.declared.instr.Instr.{Instr}
use Rattle.cc_code.specs.declared.instr.Instr.TheVariants as instr
use Rattle.cc_code.specs.declared.rule.Rule.TheVariants as rule
use Rattle.cc_vm.proofs.Acts.{Did, Fits, Keeps, acts-did, top-none}
use Rattle.cc_vm.proofs.Between.{taken, below-put, between-put, between-split, length-between, length-with}
use Rattle.cc_vm.proofs.Fragments.{popped-is}
use Rattle.cc_vm.specs.Machine.{Acts, AreCallers, AreWithin, Calls, CallsIf, Enters, HasPlace, HasRoomFor, back_to, between, callers, frame_of, no_frame, state_of}
use Rattle.cc_vm.specs.Running.{FallsTo, Finds, Follows, GoesOn, IsLeftAt, IsRoom, Lies, Moves, Ready, RunsTo, StopsLeft, work}
use Rattle.cc_vm.specs.declared.registers.Frame.{Frame}
use Rattle.cc_vm.specs.declared.registers.Registers.{Registers}
use Rattle.cc_vm.specs.declared.registers.Stop.{Stop}
use Rattle.cc_vm.specs.declared.registers.Stop.TheVariants.{Fault, Other, Room}

-- what is not below is at least as much
not-less : (a b : ℕ) → nat_lt a b ≡ false → b ≤ a
not-less a b e = grind (arith, nat_tests)

at-most-true : (a b : ℕ) → a ≤ b → nat_le a b ≡ true
at-most-true a b h = grind (arith, nat_tests)

at-most-false : (a b : ℕ) → b < a → nat_le a b ≡ false
at-most-false a b h = grind (arith, nat_tests)

place-by : (k : RawCode) (i : Instr) (top size : ℕ) → takes k i ≤ top → top - takes k i + gives k i ≤ size → HasPlace i top size
place-by k (instr.Const v) top size t g = omega (arith, t, g)
place-by k (instr.Zeros n) top size t g = omega (arith, t, g)
place-by k (instr.Drop n) top size t g = t
place-by k instr.Dup top size t g = (omega (arith, t), omega (arith, t, g))
place-by k (instr.Field n) top size t g = omega (arith, t)
place-by k (instr.Index l s) top size t g = omega (arith, t)
place-by k (instr.Fetch n) top size t g = (omega (arith, t), omega (arith, t, g))
place-by k (instr.Put n) top size t g = omega (arith, t)
place-by k (instr.Bump y d) top size t g = omega (arith, t)
place-by k (instr.Part p n m) top size t g = t
place-by k (instr.Pick l s) top size t g = omega (arith, t)
place-by k (instr.Add y) top size t g = omega (arith, t)
place-by k (instr.Sub y) top size t g = omega (arith, t)
place-by k (instr.Mul y) top size t g = omega (arith, t)
place-by k (instr.Div y) top size t g = omega (arith, t)
place-by k (instr.Rem y) top size t g = omega (arith, t)
place-by k (instr.Neg y) top size t g = omega (arith, t)
place-by k instr.Lt top size t g = omega (arith, t)
place-by k instr.Le top size t g = omega (arith, t)
place-by k instr.Gt top size t g = omega (arith, t)
place-by k instr.Ge top size t g = omega (arith, t)
place-by k instr.Eq top size t g = omega (arith, t)
place-by k instr.Ne top size t g = omega (arith, t)
place-by k instr.Not top size t g = omega (arith, t)
place-by k (instr.Narrow y) top size t g = omega (arith, t)
place-by k (instr.JumpZero a) top size t g = omega (arith, t)
place-by k i top size t g = tt

-- as many callers as calls are active, whose cells lie below
callers-length : (F : List Frame) (n : ℕ) (S C : List ℤ) → length (callers F n S C) ≡ n
callers-length F zero S C = refl
callers-length F (suc n) S C = ap suc (callers-length F n (take (get_or F n no_frame).bottom S) (take (get_or F n no_frame).first C))

split-length : (n : ℕ) (C : List ℤ) → n ≤ length C → length (drop n C) + length (take n C) ≡ length C
split-length n C h = grind (arith, common_steps)

callers-below : (F : List Frame) (n : ℕ) (S C : List ℤ) → AreCallers F n S C → cells_below (callers F n S C) ≡ length C
callers-below F zero S C h = sym h.1
callers-below F (suc n) S C h =
    let f : ℕ = (get_or F n no_frame).first in
    ap (λ (m : ℕ). length (drop f C) + m) (callers-below F n (take (get_or F n no_frame).bottom S) (take f C) h.2) ∙ split-length f C h.1

-- a frame above them changes nothing
callers-set : (F : List Frame) (j : ℕ) (x : Frame) (n : ℕ) (S C : List ℤ) → n ≤ j → callers (slice_set F j x) n S C ≡ callers F n S C
callers-set F j x zero S C h = refl
callers-set F j x (suc n) S C h =
    let e : get_or (slice_set F j x) n no_frame ≡ get_or F n no_frame = get_or-set_other F j n x no_frame (λ q. absurd (omega (arith, h, q))) in
    ap (λ (f : Frame). record { back = f.back; stack = drop f.bottom S; cells = drop f.first C } ∷ callers (slice_set F j x) n (take f.bottom S) (take f.first C)) e
    ∙ ap (λ (fs : List steps.Frame). record { back = (get_or F n no_frame).back; stack = drop (get_or F n no_frame).bottom S; cells = drop (get_or F n no_frame).first C } ∷ fs) (callers-set F j x n (take (get_or F n no_frame).bottom S) (take (get_or F n no_frame).first C) (omega (arith, h)))

callers-kept : (F : List Frame) (j : ℕ) (x : Frame) (n : ℕ) (S C : List ℤ) → n ≤ j → AreCallers F n S C → AreCallers (slice_set F j x) n S C
callers-kept F j x zero S C h a = a
callers-kept F j x (suc n) S C h a =
    let e : get_or (slice_set F j x) n no_frame ≡ get_or F n no_frame = get_or-set_other F j n x no_frame (λ q. absurd (omega (arith, h, q))) in
    subst (λ (f : Frame). (f.bottom ≤ length S) × (f.first ≤ length C) × AreCallers (slice_set F j x) n (take f.bottom S) (take f.first C)) (sym e)
    (a.0, a.1, callers-kept F j x n (take (get_or F n no_frame).bottom S) (take (get_or F n no_frame).first C) (omega (arith, h)) a.2)

module _ (k : RawCode) (verified : IsVerified k) (room : ℕ) (enough : IsRoom k room) (S C : List ℤ) (F : List Frame) (r : Registers) (ready : Ready k room S C F r) where
  height : r.top - r.bottom ≡ height_at k r.at
  height = sym (length-between r.bottom r.top S ready.lies.top) ∙ ready.stands.height

  module _ (i : Instr) (here : slice_get k.instrs r.at ≡ Some i) where
    heights : KeepsHeights k r.at i
    heights = (verified r.at rule.Height).each i here

    pub fits : Fits k i S C r
    fits =
        let t : takes k i ≤ height_at k r.at = heights.takes in
        let g : height_at k r.at - takes k i + gives k i ≤ room = (enough r.at i here).1 in
        record {
          low = ready.lies.bottom;
          operands = omega (arith, t, height);
          top = ready.lies.top;
          room = omega (arith, t, g, height, ready.lies.operands, ready.lies.bottom);
          first = ready.lies.first;
          end = ready.lies.end;
        }

    pub found-place : HasPlace i r.top (length S)
    found-place = place-by k i r.top (length S) (let t : takes k i ≤ r.top - r.bottom = fits.operands in omega (arith, t)) fits.room

    low : r.at < most_instructions
    low = (verified r.at rule.Size).each i here

    pub found-within : AreWithin r (length S) (length C)
    found-within = record { low = low; few = ready.few; top = ready.lies.top; first = ready.lies.first; end = ready.lies.end }

  pub found : (i : Instr) → slice_get k.instrs r.at ≡ Some i → Finds k r F i
  found (instr.Call f) here = (
    ((verified r.at rule.Table).each (instr.Call f) here).0,
    λ p e. (let t : takes k (instr.Call f) ≤ r.top - r.bottom = (fits (instr.Call f) here).operands in
        let q : function_at k f ≡ p = get_or_from_slice_get k.functions f p no_part e in
        let a : (function_at k f).args ≡ p.args = ap (λ (x : Part). x.args) q in omega (arith, t, a)),
  )
  found (instr.Ret n) here = (active r.calls refl ready.stands.part, ready.lies.calls)
    where
      active : (c : ℕ) → r.calls ≡ c → GoBack k r.at (callers F c (take r.bottom S) (take r.first C)) → 0 < c
      active zero e g = absurd (((verified r.at rule.Reach).each (instr.Ret n) here).ret tt g)
      active (suc c) e g = omega arith
  found i here = tt

  -- one instruction of the code, and the bound
  step-is : (i : Instr) → slice_get k.instrs r.at ≡ Some i → (offers : List (ℕ × Alt)) (rest : List Grant) → step k (with_grants (state_of r S C F offers) rest) ≡ within_bound (performed k i (with_grants (state_of r S C F offers) rest))
  step-is i here offers rest = ap (λ (o : Option Instr). stepped k o (with_grants (state_of r S C F offers) rest)) here

  -- what stays lies as before
  pub lies-still : (S' C' : List ℤ) (r' : Registers) → Keeps S C r S' C' r' → Lies room S' C' F r'
  lies-still S' C' r' h =
      record {
        callers = subst (λ (c : ℕ). AreCallers F c (take r'.bottom S') (take r'.first C')) (sym h.calls)
            (subst (λ (b : ℕ). AreCallers F r.calls (take b S') (take r'.first C')) (sym h.bottom)
            (subst (λ (b : ℕ). AreCallers F r.calls (take r.bottom S') (take b C')) (sym h.first)
            (subst (λ (X : List ℤ). AreCallers F r.calls X (take r.first C')) (sym h.below)
            (subst (λ (X : List ℤ). AreCallers F r.calls (take r.bottom S) X) (sym h.outside) ready.lies.callers))));
        operands = omega (arith, h.bottom, h.stack, ready.lies.operands);
        bottom = omega (arith, h.bottom, h.top);
        top = omega (arith, h.under, h.stack);
        first = omega (arith, h.first, h.end, ready.lies.first);
        end = omega (arith, h.end, h.cells, ready.lies.end);
        most = omega (arith, h.end, ready.lies.most);
        calls = omega (arith, h.calls, ready.lies.calls);
      }

  pub acts-move : (i : Instr) → slice_get k.instrs r.at ≡ Some i → (S' C' : List ℤ) (r' : Registers) (o : Option Stop) → Acts i S C r S' C' r' o → Moves k room S C F r S' C' F r' o
  acts-move i here S' C' r' o h = by o (acts-did k F S C r S' C' r' o i (fits i here) h)
    where
      by : (o : Option Stop) → Did k i F S C r S' C' r' o → Moves k room S C F r S' C' F r' o
      by None d = (λ offers rest. step-is i here offers rest ∙ ap within_bound (d.0 offers rest), lies-still S' C' r' d.1)
      by (Some (Fault kind)) d = λ offers rest. step-is i here offers rest ∙ ap within_bound (d offers rest)
      by (Some Other) d = (d.0, d.1, refl, d.2)
      by (Some Room) d = (d.0, d.1, refl, d.2)

  -- all variable cells of the process
  all-cells : (p : Part) (offers : List (ℕ × Alt)) → length (between r.first r.end C) + cells_below (callers F r.calls (take r.bottom S) (take r.first C)) + p.cells ≡ r.end + p.cells
  all-cells p offers =
      let v : length (between r.first r.end C) ≡ r.end - r.first = length-between r.first r.end C ready.lies.end in
      let b : cells_below (callers F r.calls (take r.bottom S) (take r.first C)) ≡ length (take r.first C) = callers-below F r.calls (take r.bottom S) (take r.first C) ready.lies.callers in
      let t : length (take r.first C) ≡ r.first = taken r.first C (omega (arith, ready.lies.first, ready.lies.end)) in
      omega (arith, v, b, t, ready.lies.first)

  module _ (f : ℕ) (here : slice_get k.instrs r.at ≡ Some (instr.Call f)) (p : Part) (named : slice_get k.functions f ≡ Some p) where
    abbrev from : ℕ
    from = r.top - p.args

    abbrev args : List ℤ
    args = between from r.top S

    argument-cells : p.args ≤ r.top - r.bottom
    argument-cells =
        let t : takes k (instr.Call f) ≤ r.top - r.bottom = (fits (instr.Call f) here).operands in
        let q : function_at k f ≡ p = get_or_from_slice_get k.functions f p no_part named in
        let a : (function_at k f).args ≡ p.args = ap (λ (x : Part). x.args) q in omega (arith, t, a)

    args-long : length args ≡ p.args
    args-long = (let e : length args ≡ r.top - from = length-between from r.top S ready.lies.top in omega (arith, e, argument-cells))

    call-stack : between r.bottom r.top S ≡ between r.bottom from S ++ args
    call-stack = between-split r.bottom from r.top S (omega (arith, argument-cells, ready.lies.bottom)) (omega arith) ready.lies.top

    -- the tests of the code, in the machine's numbers
    called-is : (offers : List (ℕ × Alt)) (rest : List Grant)
        → performed k (instr.Call f) (with_grants (state_of r S C F offers) rest)
        ≡ called_if (nat_le most_calls r.calls) (nat_lt most_cells (r.end + p.cells)) (nat_lt p.cells p.args) p (with_grants (state_of r S C F offers) rest)
    called-is offers rest =
        ap (λ (o : Option Part). called o (with_grants (state_of r S C F offers) rest)) named
        ∙ ap (λ (n : ℕ). called_if (nat_le most_calls n) (nat_lt most_cells (length (between r.first r.end C) + cells_below (callers F r.calls (take r.bottom S) (take r.first C)) + p.cells)) (nat_lt p.cells p.args) p (with_grants (state_of r S C F offers) rest)) (callers-length F r.calls (take r.bottom S) (take r.first C))
        ∙ ap (λ (n : ℕ). called_if (nat_le most_calls r.calls) (nat_lt most_cells n) (nat_lt p.cells p.args) p (with_grants (state_of r S C F offers) rest)) (all-cells p offers)

    call-step : (t : Stepped) (offers : List (ℕ × Alt)) (rest : List Grant)
        → called_if (nat_le most_calls r.calls) (nat_lt most_cells (r.end + p.cells)) (nat_lt p.cells p.args) p (with_grants (state_of r S C F offers) rest) ≡ t
        → step k (with_grants (state_of r S C F offers) rest) ≡ within_bound t
    call-step t offers rest h = step-is (instr.Call f) here offers rest ∙ ap within_bound (called-is offers rest ∙ h)

    begun : List (ℕ × Alt) → List Grant → Stepped
    begun offers rest = called_with p (with_grants (state_of r S C F offers) rest) args (between r.bottom from S)

    module _ (C' : List ℤ) (F' : List Frame) (r' : Registers) (among : p.args ≤ p.cells) (most : r.end + p.cells ≤ most_cells) (has : HasRoomFor p room S C F r) (enters : Enters p S C F r C' F' r') where
      variables-long : length (cells_at_start p args) ≡ p.cells
      variables-long =
          let z : length (replicate (p.cells - p.args) (pos 0)) ≡ p.cells - p.args = length-replicate (p.cells - p.args) (pos 0) in
          let l : length (cells_at_start p args) ≡ length args + length (replicate (p.cells - p.args) (pos 0)) = length-append args (replicate (p.cells - p.args) (pos 0)) in
          omega (arith, z, l, args-long, among)

      below-kept : (b : ℕ) → b ≤ r.end → take b C' ≡ take b C
      below-kept b h = ap (take b) enters.0 ∙ below-put C (cells_at_start p args) r.end ready.lies.end b h

      new-variables : between r.end (r.end + p.cells) C' ≡ cells_at_start p args
      new-variables =
          ap (between r.end (r.end + p.cells)) enters.0
          ∙ ap (λ (n : ℕ). between r.end (r.end + n) (with_cells r.end (cells_at_start p args) C)) (sym variables-long)
          ∙ between-put C (cells_at_start p args) r.end ready.lies.end r.end (omega arith)
          ∙ ap (λ (xs : List ℤ). xs ++ cells_at_start p args) (top-none C r.end ready.lies.end)

      new-frame : get_or F' r.calls no_frame ≡ frame_of r
      new-frame = ap (λ (fs : List Frame). get_or fs r.calls no_frame) enters.1 ∙ get_or-set_same F r.calls (frame_of r) no_frame has.frames

      new-callers : callers F' (suc r.calls) (take from S) (take r.end C')
          ≡ record { back = r.at + 1; stack = between r.bottom from S; cells = between r.first r.end C } ∷ callers F r.calls (take r.bottom S) (take r.first C)
      new-callers =
          ap (λ (g : Frame). record { back = g.back; stack = drop g.bottom (take from S); cells = drop g.first (take r.end C') } ∷ callers F' r.calls (take g.bottom (take from S)) (take g.first (take r.end C'))) new-frame
          ∙ ap (λ (X : List ℤ). record { back = r.at + 1; stack = between r.bottom from S; cells = drop r.first X } ∷ callers F' r.calls (take r.bottom (take from S)) (take r.first X)) (below-kept r.end (omega arith))
          ∙ ap (λ (X : List ℤ). record { back = r.at + 1; stack = between r.bottom from S; cells = between r.first r.end C } ∷ callers F' r.calls X (take r.first (take r.end C))) (take-take r.bottom from S (omega (arith, argument-cells, ready.lies.bottom)))
          ∙ ap (λ (X : List ℤ). record { back = r.at + 1; stack = between r.bottom from S; cells = between r.first r.end C } ∷ callers F' r.calls (take r.bottom S) X) (take-take r.first r.end C ready.lies.first)
          ∙ ap (λ (G : List Frame). record { back = r.at + 1; stack = between r.bottom from S; cells = between r.first r.end C } ∷ callers G r.calls (take r.bottom S) (take r.first C)) enters.1
          ∙ ap (λ (fs : List steps.Frame). record { back = r.at + 1; stack = between r.bottom from S; cells = between r.first r.end C } ∷ fs) (callers-set F r.calls (frame_of r) r.calls (take r.bottom S) (take r.first C) (omega arith))

      entered : (offers : List (ℕ × Alt)) (rest : List Grant) → begun offers rest ≡ Goes (with_grants (state_of r' S C' F' offers) rest)
      unfolding begun
      entered offers rest =
          ap (λ (fs : List steps.Frame). Goes (record { address = p.entry; stack = []; store = record { cells = cells_at_start p args; offers = offers }; left = record { grants = rest; ticks = r.ticks }; count = suc r.count; frames = fs })) (sym new-callers)
          ∙ ap (λ (xs : List ℤ). Goes (record { address = p.entry; stack = xs; store = record { cells = cells_at_start p args; offers = offers }; left = record { grants = rest; ticks = r.ticks }; count = suc r.count; frames = callers F' (suc r.calls) (take from S) (take r.end C') })) (sym (top-none S from (omega (arith, ready.lies.top))))
          ∙ ap (λ (xs : List ℤ). Goes (record { address = p.entry; stack = between from from S; store = record { cells = xs; offers = offers }; left = record { grants = rest; ticks = r.ticks }; count = suc r.count; frames = callers F' (suc r.calls) (take from S) (take r.end C') })) (sym new-variables)
          ∙ ap (λ (n : ℕ). Goes (record { address = p.entry; stack = between from from S; store = record { cells = between r.end (r.end + p.cells) C'; offers = offers }; left = record { grants = rest; ticks = r.ticks }; count = n; frames = callers F' (suc r.calls) (take from S) (take r.end C') })) (sym (add-one r.count))
          ∙ ap (λ (n : ℕ). Goes (record { address = p.entry; stack = between from from S; store = record { cells = between r.end (r.end + p.cells) C'; offers = offers }; left = record { grants = rest; ticks = r.ticks }; count = r.count + 1; frames = callers F' n (take from S) (take r.end C') })) (sym (add-one r.calls))
          ∙ ap (λ (q : Registers). Goes (with_grants (state_of q S C' F' offers) rest)) (sym enters.2)

      lies-below : Lies room S C' F' (record r { at = p.entry; bottom = from; top = from; first = r.end; end = r.end + p.cells; calls = r.calls + 1; count = r.count + 1 })
      lies-below =
          let f : length F' ≡ length F = ap length enters.1 ∙ length-set F r.calls (frame_of r) in
          let c : length C' ≡ length C = ap length enters.0 ∙ length-with r.end (cells_at_start p args) C (omega (arith, variables-long, has.cells)) in
          let s : length (take from S) ≡ from = taken from S (omega (arith, ready.lies.top)) in
          let e : length (take r.end C') ≡ r.end = taken r.end C' (omega (arith, c, ready.lies.end)) in
          let kept : AreCallers F' r.calls (take r.bottom (take from S)) (take r.first (take r.end C')) =
          subst (λ (X : List ℤ). AreCallers F' r.calls X (take r.first (take r.end C'))) (sym (take-take r.bottom from S (omega (arith, argument-cells, ready.lies.bottom))))
          (subst (λ (X : List ℤ). AreCallers F' r.calls (take r.bottom S) X) (sym (take-take r.first r.end C' ready.lies.first ∙ below-kept r.first ready.lies.first))
          (subst (λ (G : List Frame). AreCallers G r.calls (take r.bottom S) (take r.first C)) (sym enters.1) (callers-kept F r.calls (frame_of r) r.calls (take r.bottom S) (take r.first C) (omega arith) ready.lies.callers))) in
          record {
            callers = subst (λ (n : ℕ). AreCallers F' n (take from S) (take r.end C')) (sym (add-one r.calls))
                (subst (λ (g : Frame). (g.bottom ≤ length (take from S)) × (g.first ≤ length (take r.end C')) × AreCallers F' r.calls (take g.bottom (take from S)) (take g.first (take r.end C'))) (sym new-frame)
                (omega (arith, s, argument-cells, ready.lies.bottom), omega (arith, e, ready.lies.first), kept));
            operands = has.stack;
            bottom = omega arith;
            top = omega (arith, ready.lies.top);
            first = omega arith;
            end = omega (arith, c, has.cells);
            most = most;
            calls = omega (arith, f, has.frames);
          }

    pub call-move : (C' : List ℤ) (F' : List Frame) (r' : Registers) (o : Option Stop) → Calls p room S C F r C' F' r' o → Moves k room S C F r S C' F' r' o
    unfolding begun
    call-move C' F' r' o h = by (nat_le most_calls r.calls) (nat_lt most_cells (r.end + p.cells)) (nat_lt p.cells p.args) refl refl refl h
      where
        tested : (a b c : Bool) → nat_le most_calls r.calls ≡ a → nat_lt most_cells (r.end + p.cells) ≡ b → nat_lt p.cells p.args ≡ c → (offers : List (ℕ × Alt)) (rest : List Grant)
            → called_if (nat_le most_calls r.calls) (nat_lt most_cells (r.end + p.cells)) (nat_lt p.cells p.args) p (with_grants (state_of r S C F offers) rest) ≡ called_if a b c p (with_grants (state_of r S C F offers) rest)
        tested a b c x y z offers rest =
            ap (λ (t : Bool). called_if t (nat_lt most_cells (r.end + p.cells)) (nat_lt p.cells p.args) p (with_grants (state_of r S C F offers) rest)) x
            ∙ ap (λ (t : Bool). called_if a t (nat_lt p.cells p.args) p (with_grants (state_of r S C F offers) rest)) y
            ∙ ap (λ (t : Bool). called_if a b t p (with_grants (state_of r S C F offers) rest)) z

        fault : (kind : FaultKind) → o ≡ Some (Fault kind)
            → ((offers : List (ℕ × Alt)) (rest : List Grant) → called_if (nat_le most_calls r.calls) (nat_lt most_cells (r.end + p.cells)) (nat_lt p.cells p.args) p (with_grants (state_of r S C F offers) rest) ≡ Stops (Asks (request.Fault kind)))
            → Moves k room S C F r S C' F' r' o
        fault kind e g = subst (Moves k room S C F r S C' F' r') (sym e) (λ offers rest. call-step (Stops (Asks (request.Fault kind))) offers rest (g offers rest))

        popped-args : (offers : List (ℕ × Alt)) (rest : List Grant) → popped p.args (between r.bottom r.top S) (called_with p (with_grants (state_of r S C F offers) rest)) ≡ begun offers rest
        popped-args offers rest =
            ap (λ (xs : List ℤ). popped p.args xs (called_with p (with_grants (state_of r S C F offers) rest))) call-stack
            ∙ popped-is (between r.bottom from S) args p.args (called_with p (with_grants (state_of r S C F offers) rest)) args-long

        goes : nat_le most_calls r.calls ≡ false → nat_lt most_cells (r.end + p.cells) ≡ false → nat_lt p.cells p.args ≡ false → o ≡ None → HasRoomFor p room S C F r → Enters p S C F r C' F' r' → Moves k room S C F r S C' F' r' o
        goes x y z e has enters =
            let among : p.args ≤ p.cells = not-less p.cells p.args z in
            let most : r.end + p.cells ≤ most_cells = not-less most_cells (r.end + p.cells) y in
            subst (Moves k room S C F r S C' F' r') (sym e) (
              λ offers rest. call-step (Goes (with_grants (state_of r' S C' F' offers) rest)) offers rest (tested false false false x y z offers rest ∙ popped-args offers rest ∙ entered C' F' r' among most has enters offers rest),
              subst (Lies room S C' F') (sym enters.2) (lies-below C' F' r' among most has enters),
            )

        by : (a b c : Bool) → nat_le most_calls r.calls ≡ a → nat_lt most_cells (r.end + p.cells) ≡ b → nat_lt p.cells p.args ≡ c → CallsIf a b c p room S C F r C' F' r' o → Moves k room S C F r S C' F' r' o
        by true b c x y z h = fault Depth h (λ offers rest. tested true b c x y z offers rest)
        by false true c x y z h = fault Cells h (λ offers rest. tested false true c x y z offers rest)
        by false false true x y z h = fault Index h (λ offers rest. tested false false true x y z offers rest)
        by false false false x y z h = elim h [
          | inl g ↦ goes x y z g.0 g.1 g.2
          | inr g ↦ subst (Moves k room S C F r S C' F' r') (sym g.0) (refl, g.1, g.2, g.3)
        ]

  -- a return
  module _ (n : ℕ) (here : slice_get k.instrs r.at ≡ Some (instr.Ret n)) (c : ℕ) (calls : r.calls ≡ suc c) where
    abbrev caller : Frame
    caller = get_or F c no_frame

    callers-lie : AreCallers F (suc c) (take r.bottom S) (take r.first C)
    callers-lie = subst (λ (m : ℕ). AreCallers F m (take r.bottom S) (take r.first C)) calls ready.lies.callers

    caller-bottom : caller.bottom ≤ r.bottom
    caller-bottom = (let e : length (take r.bottom S) ≡ r.bottom = taken r.bottom S (omega (arith, ready.lies.bottom, ready.lies.top)) in omega (arith, e, callers-lie.0))

    caller-first : caller.first ≤ r.first
    caller-first = (let e : length (take r.first C) ≡ r.first = taken r.first C (omega (arith, ready.lies.first, ready.lies.end)) in omega (arith, e, callers-lie.1))

    ret-long : length (between r.bottom r.top S) ≡ n
    ret-long = ready.stands.height ∙ (heights (instr.Ret n) here).own.0

    returned-is : (offers : List (ℕ × Alt)) (rest : List Grant) → performed k (instr.Ret n) (with_grants (state_of r S C F offers) rest) ≡ Goes (with_grants (state_of (back_to caller r) S C F offers) rest)
    returned-is offers rest =
        popped-is [] (between r.bottom r.top S) n (λ vs below. returned_to (callers F r.calls (take r.bottom S) (take r.first C)) (with_grants (state_of r S C F offers) rest) vs) ret-long
        ∙ ap (λ (m : ℕ). returned_to (callers F m (take r.bottom S) (take r.first C)) (with_grants (state_of r S C F offers) rest) (between r.bottom r.top S)) calls
        ∙ ap (λ (xs : List ℤ). Goes (record { address = caller.back; stack = xs; store = record { cells = between caller.first r.first C; offers = offers }; left = record { grants = rest; ticks = r.ticks }; count = suc r.count; frames = callers F c (take caller.bottom (take r.bottom S)) (take caller.first (take r.first C)) }))
        (sym (between-split caller.bottom r.bottom r.top S caller-bottom ready.lies.bottom ready.lies.top))
        ∙ ap (λ (xs : List ℤ). Goes (record { address = caller.back; stack = between caller.bottom r.top S; store = record { cells = between caller.first r.first C; offers = offers }; left = record { grants = rest; ticks = r.ticks }; count = suc r.count; frames = callers F c xs (take caller.first (take r.first C)) }))
        (take-take caller.bottom r.bottom S caller-bottom)
        ∙ ap (λ (xs : List ℤ). Goes (record { address = caller.back; stack = between caller.bottom r.top S; store = record { cells = between caller.first r.first C; offers = offers }; left = record { grants = rest; ticks = r.ticks }; count = suc r.count; frames = callers F c (take caller.bottom S) xs }))
        (take-take caller.first r.first C caller-first)
        ∙ ap (λ (m : ℕ). Goes (record { address = caller.back; stack = between caller.bottom r.top S; store = record { cells = between caller.first r.first C; offers = offers }; left = record { grants = rest; ticks = r.ticks }; count = suc r.count; frames = callers F m (take caller.bottom S) (take caller.first C) }))
        (let e : c ≡ r.calls - 1 = omega (arith, calls) in e)
        ∙ ap (λ (m : ℕ). Goes (record { address = caller.back; stack = between caller.bottom r.top S; store = record { cells = between caller.first r.first C; offers = offers }; left = record { grants = rest; ticks = r.ticks }; count = m; frames = callers F (r.calls - 1) (take caller.bottom S) (take caller.first C) }))
        (sym (add-one r.count))

    lies-above : Lies room S C F (back_to caller r)
    lies-above =
        record {
          callers = subst (λ (m : ℕ). AreCallers F m (take caller.bottom S) (take caller.first C)) (let e : c ≡ r.calls - 1 = omega (arith, calls) in e)
              (subst (λ (X : List ℤ). AreCallers F c X (take caller.first C)) (take-take caller.bottom r.bottom S caller-bottom)
              (subst (λ (X : List ℤ). AreCallers F c (take caller.bottom (take r.bottom S)) X) (take-take caller.first r.first C caller-first) callers-lie.2));
          operands = omega (arith, caller-bottom, ready.lies.operands);
          bottom = omega (arith, caller-bottom, ready.lies.bottom);
          top = ready.lies.top;
          first = caller-first;
          end = omega (arith, ready.lies.first, ready.lies.end);
          most = omega (arith, ready.lies.first, ready.lies.most);
          calls = omega (arith, ready.lies.calls);
        }

    ret-at : Moves k room S C F r S C F (back_to caller r) None
    ret-at = (λ offers rest. step-is (instr.Ret n) here offers rest ∙ ap within_bound (returned-is offers rest), lies-above)

  pub ret-move : (n : ℕ) → slice_get k.instrs r.at ≡ Some (instr.Ret n) → 0 < r.calls → (r' : Registers) → r' ≡ back_to (get_or F (r.calls - 1) no_frame) r → Moves k room S C F r S C F r' None
  ret-move n here some r' e = by (r.calls - 1) (let c : r.calls ≡ suc (r.calls - 1) = omega (arith, some) in c)
    where
      by : (c : ℕ) → r.calls ≡ suc c → Moves k room S C F r S C F r' None
      by c calls = subst (λ (q : Registers). Moves k room S C F r S C F q None) (sym (e ∙ ap (λ (m : ℕ). back_to (get_or F m no_frame) r) (let d : r.calls - 1 ≡ c = omega (arith, calls) in d))) (ret-at n here c calls)

  none-answered : NextIsAnsweredInFull k (state_of r S C F [])
  none-answered i here asks vs rest f = absurd cc

  pub below-bound : (s : State) → s.count ≤ most_steps → within_bound (Goes s) ≡ Goes s
  below-bound s b = ap (λ (t : Bool). if t then Goes s else Stops (Asks (request.Fault Depth))) (at-most-true s.count most_steps b)

  pub bound-stops : (s : State) → most_steps < s.count → within_bound (Goes s) ≡ Stops (Asks (request.Fault Depth))
  bound-stops s b = ap (λ (t : Bool). if t then Goes s else Stops (Asks (request.Fault Depth))) (at-most-false s.count most_steps b)

  module _ (S' C' : List ℤ) (F' : List Frame) (r' : Registers) (moves : Moves k room S C F r S' C' F' r' None) where
    pub ready-next : r'.count ≤ most_steps → Ready k room S' C' F' r'
    ready-next b =
        record {
          stands = subst (StandsAfter k Kind) (moves.0 [] [] ∙ below-bound (state_of r' S' C' F' []) b) (step-stands k verified Kind (state_of r S C F []) ready.stands none-answered);
          lies = moves.1;
          few = b;
        }

    pub goes-next : r'.count ≤ most_steps → GoesOn k S C F r S' C' F' r'
    goes-next b process fed offers follows = follows-on k process fed (state_of r S C F offers) follows (state_of r' S' C' F' offers)
        (λ rest. moves.0 offers rest ∙ below-bound (with_grants (state_of r' S' C' F' offers) rest) b)

    pub bound-ends : most_steps < r'.count → (process : List Grant → Ran) (fed : List Grant) (offers : List (ℕ × Alt)) → Follows k process fed (state_of r S C F offers) → process fed ≡ Asks (request.Fault Depth)
    bound-ends b process fed offers follows = follows-stop k process fed (state_of r S C F offers) follows (Asks (request.Fault Depth))
        (moves.0 offers [] ∙ ap (λ (t : Bool). if t then Goes (with_grants (state_of r' S' C' F' offers) []) else Stops (Asks (request.Fault Depth))) (at-most-false r'.count most_steps b))

  pub fault-ends : (S' C' : List ℤ) (F' : List Frame) (r' : Registers) (kind : FaultKind) → Moves k room S C F r S' C' F' r' (Some (Fault kind))
      → (process : List Grant → Ran) (fed : List Grant) (offers : List (ℕ × Alt)) → Follows k process fed (state_of r S C F offers) → process fed ≡ Asks (request.Fault kind)
  fault-ends S' C' F' r' kind moves process fed offers follows = follows-stop k process fed (state_of r S C F offers) follows (Asks (request.Fault kind)) (moves offers [])

  there : (i : Instr) × (slice_get k.instrs r.at ≡ Some i)
  there = elim ((slice_get_cases k.instrs r.at).1) [ inl h ↦ (h.0, h.2) | inr h ↦ absurd (let b : r.at < length k.instrs = ready.stands.address in omega (arith, b, h.0)) ]

  pub work-falls : (S' C' : List ℤ) (F' : List Frame) (r' : Registers) → Moves k room S C F r S' C' F' r' None → r'.count ≤ most_steps → work r' < work r
  work-falls S' C' F' r' moves b =
      let goes : step k (state_of r S C F []) ≡ Goes (state_of r' S' C' F' []) = moves.0 [] [] ∙ below-bound (state_of r' S' C' F' []) b in
      elim (spends-lighter there.0 (state_of r S C F []) (state_of r' S' C' F' []) (subst (Spends there.0 (state_of r S C F [])) goes (step-spends k (state_of r S C F []) there.0 there.1))) [
        | inl h ↦ (let t : r'.ticks ≡ r.ticks = ap (λ (l : Left). l.ticks) h.1 in omega (arith, t, h.0, b))
        | inr h ↦ omega (arith, h.0, h.1)
      ]

  pub stops-falls : (r0 : Registers) → work r ≤ work r0 → (S' C' : List ℤ) (F' : List Frame) (r' : Registers) (stop : Stop) → Moves k room S C F r S' C' F' r' (Some stop)
      → StopsLeft k r (Some stop) → FallsTo k r0 r' stop
  stops-falls r0 h S' C' F' r' (Fault kind) m l = tt
  stops-falls r0 h S' C' F' r' Other m l = subst (λ (q : Registers). (work q ≤ work r0) × IsLeftAt k q) (sym m.3) (h, l)
  stops-falls r0 h S' C' F' r' Room m l = subst (λ (q : Registers). work q ≤ work r0) (sym m.3) h

  -- what comes of a stop, where the process came here from another state
  module _ (S0 C0 : List ℤ) (F0 : List Frame) (r0 : Registers) (came : GoesOn k S0 C0 F0 r0 S C F r) (S' C' : List ℤ) (F' : List Frame) (r' : Registers) where
    still : (S' ≡ S) × (C' ≡ C) × (F' ≡ F) × (r' ≡ r) → Ready k room S' C' F' r' × GoesOn k S0 C0 F0 r0 S' C' F' r'
    still h =
        subst (λ (X : List ℤ). Ready k room X C' F' r' × GoesOn k S0 C0 F0 r0 X C' F' r') (sym h.0)
        (subst (λ (X : List ℤ). Ready k room S X F' r' × GoesOn k S0 C0 F0 r0 S X F' r') (sym h.1)
        (subst (λ (X : List Frame). Ready k room S C X r' × GoesOn k S0 C0 F0 r0 S C X r') (sym h.2)
        (subst (λ (X : Registers). Ready k room S C F X × GoesOn k S0 C0 F0 r0 S C F X) (sym h.3) (ready, came))))

    pub stops-so : (stop : Stop) → Moves k room S C F r S' C' F' r' (Some stop) → RunsTo k room S0 C0 F0 r0 S' C' F' r' stop
    stops-so (Fault kind) h = λ process fed offers follows. fault-ends S' C' F' r' kind h process fed offers (came process fed offers follows)
    stops-so Other h = still h
    stops-so Room h = still h

    pub bound-so : Moves k room S C F r S' C' F' r' None → most_steps < r'.count → RunsTo k room S0 C0 F0 r0 S' C' F' r' (Fault Depth)
    bound-so h b = λ process fed offers follows. bound-ends S' C' F' r' h b process fed offers (came process fed offers follows)

    pub came-on : Moves k room S C F r S' C' F' r' None → r'.count ≤ most_steps → GoesOn k S0 C0 F0 r0 S' C' F' r'
    came-on h b = λ process fed offers follows. goes-next S' C' F' r' h b process fed offers (came process fed offers follows)
