-- Lists that grow at their ends keep the state.
use Rattle.std.proofs.Common.{◌≡◌, ℕ, ℤ, suc, zero, ◌+◌, ◌≤◌, List, [], ◌∷◌, ◌++◌, length, length-append, drop, take, get_or, refl, sym, ◌∙◌, ap, subst, arith}
use Rattle.std.proofs.lemmas.List.{get_or_append_left, take-append-le}
use Rattle.cc_base.specs.declared.alternatives.Alt.{Alt}
use Rattle.cc_code.specs.Standing.{Kind, Stands}
use Rattle.cc_code.specs.Steps as steps
use Rattle.cc_code.specs.Steps.{Ran, State}
use Rattle.cc_code.specs.declared.code.RawCode.{RawCode}
use Rattle.cc_vm.specs.Lists.{GoOn, Grows, IsReady, RunsOn}
use Rattle.cc_vm.specs.Machine.{AreCallers, between, callers, no_frame, state_of}
use Rattle.cc_vm.specs.Running.{Follows, Ready}
use Rattle.cc_vm.specs.declared.lists.Lists.{Lists}
use Rattle.cc_vm.specs.declared.registers.Frame.{Frame}
use Rattle.cc_vm.specs.declared.registers.Registers.{Registers}
use Rattle.cc_vm.specs.declared.registers.Stop.{Stop}
use Rattle.cc_vm.specs.declared.registers.Stop.TheVariants.{Fault, Other, Room}

callers-grown : (F Z : List Frame) (n : ℕ) (S C : List ℤ) → n ≤ length F → callers (F ++ Z) n S C ≡ callers F n S C
callers-grown F Z zero S C h = refl
callers-grown F Z (suc n) S C h =
    let e : get_or (F ++ Z) n no_frame ≡ get_or F n no_frame = get_or_append_left F Z no_frame n (omega (arith, h)) in
    ap (λ (f : Frame). record { back = f.back; stack = drop f.bottom S; cells = drop f.first C } ∷ callers (F ++ Z) n (take f.bottom S) (take f.first C)) e
    ∙ ap (λ (fs : List steps.Frame). record { back = (get_or F n no_frame).back; stack = drop (get_or F n no_frame).bottom S; cells = drop (get_or F n no_frame).first C } ∷ fs) (callers-grown F Z n (take (get_or F n no_frame).bottom S) (take (get_or F n no_frame).first C) (omega (arith, h)))

lie-grown : (F Z : List Frame) (n : ℕ) (S C : List ℤ) → n ≤ length F → AreCallers F n S C → AreCallers (F ++ Z) n S C
lie-grown F Z zero S C h a = a
lie-grown F Z (suc n) S C h a =
    let e : get_or (F ++ Z) n no_frame ≡ get_or F n no_frame = get_or_append_left F Z no_frame n (omega (arith, h)) in
    subst (λ (f : Frame). (f.bottom ≤ length S) × (f.first ≤ length C) × AreCallers (F ++ Z) n (take f.bottom S) (take f.first C)) (sym e)
    (a.0, a.1, lie-grown F Z n (take (get_or F n no_frame).bottom S) (take (get_or F n no_frame).first C) (omega (arith, h)) a.2)

module _ (k : RawCode) (room : ℕ) (S C : List ℤ) (F : List Frame) (r : Registers) (ready : Ready k room S C F r) where
  module _ (X : List ℤ) where
    stack-same : (offers : List (ℕ × Alt)) → state_of r (S ++ X) C F offers ≡ state_of r S C F offers
    stack-same offers =
        ap (λ (xs : List ℤ). record { address = r.at; stack = drop r.bottom xs; store = record { cells = between r.first r.end C; offers = offers }; left = record { grants = []; ticks = r.ticks }; count = r.count; frames = callers F r.calls (take r.bottom (S ++ X)) (take r.first C) }) (take-append-le r.top S X ready.lies.top)
        ∙ ap (λ (xs : List ℤ). record { address = r.at; stack = between r.bottom r.top S; store = record { cells = between r.first r.end C; offers = offers }; left = record { grants = []; ticks = r.ticks }; count = r.count; frames = callers F r.calls xs (take r.first C) }) (take-append-le r.bottom S X (omega (arith, ready.lies.bottom, ready.lies.top)))

    stack-grown : Ready k room (S ++ X) C F r
    stack-grown =
        let l : length (S ++ X) ≡ length S + length X = length-append S X in
        record {
          stands = subst (Stands k Kind) (sym (stack-same [])) ready.stands;
          lies = record {
            callers = subst (λ (xs : List ℤ). AreCallers F r.calls xs (take r.first C)) (sym (take-append-le r.bottom S X (omega (arith, ready.lies.bottom, ready.lies.top)))) ready.lies.callers;
            operands = omega (arith, l, ready.lies.operands);
            bottom = ready.lies.bottom;
            top = omega (arith, l, ready.lies.top);
            first = ready.lies.first;
            end = ready.lies.end;
            most = ready.lies.most;
            calls = ready.lies.calls;
          };
          few = ready.few;
        }

    cells-same : (offers : List (ℕ × Alt)) → state_of r S (C ++ X) F offers ≡ state_of r S C F offers
    cells-same offers =
        ap (λ (xs : List ℤ). record { address = r.at; stack = between r.bottom r.top S; store = record { cells = drop r.first xs; offers = offers }; left = record { grants = []; ticks = r.ticks }; count = r.count; frames = callers F r.calls (take r.bottom S) (take r.first (C ++ X)) }) (take-append-le r.end C X ready.lies.end)
        ∙ ap (λ (xs : List ℤ). record { address = r.at; stack = between r.bottom r.top S; store = record { cells = between r.first r.end C; offers = offers }; left = record { grants = []; ticks = r.ticks }; count = r.count; frames = callers F r.calls (take r.bottom S) xs }) (take-append-le r.first C X (omega (arith, ready.lies.first, ready.lies.end)))

    cells-grown : Ready k room S (C ++ X) F r
    cells-grown =
        let l : length (C ++ X) ≡ length C + length X = length-append C X in
        record {
          stands = subst (Stands k Kind) (sym (cells-same [])) ready.stands;
          lies = record {
            callers = subst (λ (xs : List ℤ). AreCallers F r.calls (take r.bottom S) xs) (sym (take-append-le r.first C X (omega (arith, ready.lies.first, ready.lies.end)))) ready.lies.callers;
            operands = ready.lies.operands;
            bottom = ready.lies.bottom;
            top = ready.lies.top;
            first = ready.lies.first;
            end = omega (arith, l, ready.lies.end);
            most = ready.lies.most;
            calls = ready.lies.calls;
          };
          few = ready.few;
        }

  module _ (Z : List Frame) where
    frames-same : (offers : List (ℕ × Alt)) → state_of r S C (F ++ Z) offers ≡ state_of r S C F offers
    frames-same offers = ap (λ (fs : List steps.Frame). record { address = r.at; stack = between r.bottom r.top S; store = record { cells = between r.first r.end C; offers = offers }; left = record { grants = []; ticks = r.ticks }; count = r.count; frames = fs }) (callers-grown F Z r.calls (take r.bottom S) (take r.first C) ready.lies.calls)

    frames-grown : Ready k room S C (F ++ Z) r
    frames-grown =
        let l : length (F ++ Z) ≡ length F + length Z = length-append F Z in
        record {
          stands = subst (Stands k Kind) (sym (frames-same [])) ready.stands;
          lies = record {
            callers = lie-grown F Z r.calls (take r.bottom S) (take r.first C) ready.lies.calls ready.lies.callers;
            operands = ready.lies.operands;
            bottom = ready.lies.bottom;
            top = ready.lies.top;
            first = ready.lies.first;
            end = ready.lies.end;
            most = ready.lies.most;
            calls = omega (arith, l, ready.lies.calls);
          };
          few = ready.few;
        }

-- the state is the same, and so is whether it is ready
Same : RawCode → ℕ → List ℤ → List ℤ → List Frame → Registers → List ℤ → List ℤ → List Frame → Registers → Type 0
Same k room S C F r S' C' F' r' = Ready k room S' C' F' r' × ((offers : List (ℕ × Alt)) → state_of r' S' C' F' offers ≡ state_of r S C F offers)

all-same : (k : RawCode) (room : ℕ) (S C : List ℤ) (F : List Frame) (r : Registers) (X Y : List ℤ) (Z : List Frame) → Ready k room S C F r → Same k room S C F r (S ++ X) (C ++ Y) (F ++ Z) r
unfolding Same
all-same k room S C F r X Y Z ready =
    let one : Ready k room (S ++ X) C F r = stack-grown k room S C F r ready X in
    let two : Ready k room (S ++ X) (C ++ Y) F r = cells-grown k room (S ++ X) C F r one Y in (
      frames-grown k room (S ++ X) (C ++ Y) F r two Z,
      λ offers. frames-same k room (S ++ X) (C ++ Y) F r two Z offers ∙ cells-same k room (S ++ X) C F r one Y offers ∙ stack-same k room S C F r ready X offers,
    )

module _ (k : RawCode) (room : ℕ) (a b : Lists) (ready : IsReady k room a) (grows : Grows a b) where
  grown : Same k room a.stack.items a.cells.items a.frames.items a.registers b.stack.items b.cells.items b.frames.items b.registers
  grown =
      subst (λ (S : List ℤ). Same k room a.stack.items a.cells.items a.frames.items a.registers S b.cells.items b.frames.items b.registers) (sym grows.stack.1)
      (subst (λ (C : List ℤ). Same k room a.stack.items a.cells.items a.frames.items a.registers (a.stack.items ++ grows.stack.0) C b.frames.items b.registers) (sym grows.cells.1)
      (subst (λ (F : List Frame). Same k room a.stack.items a.cells.items a.frames.items a.registers (a.stack.items ++ grows.stack.0) (a.cells.items ++ grows.cells.0) F b.registers) (sym grows.frames.1)
      (subst (λ (r : Registers). Same k room a.stack.items a.cells.items a.frames.items a.registers (a.stack.items ++ grows.stack.0) (a.cells.items ++ grows.cells.0) (a.frames.items ++ grows.frames.0) r) (sym grows.registers)
      (all-same k room a.stack.items a.cells.items a.frames.items a.registers grows.stack.0 grows.cells.0 grows.frames.0 ready))))

  pub grown-ready : IsReady k room b
  unfolding Same
  grown-ready = grown.0

  pub grown-on : GoOn k a b
  unfolding Same
  grown-on process fed offers follows = subst (Follows k process fed) (sym (grown.1 offers)) follows

module _ (k : RawCode) (room : ℕ) where
  pub on-after : (a b c : Lists) → GoOn k a b → GoOn k b c → GoOn k a c
  on-after a b c f g process fed offers follows = g process fed offers (f process fed offers follows)

  pub nothing-done : (a : Lists) → GoOn k a a
  nothing-done a process fed offers follows = follows

  -- what comes of a stop, where the process came here from another state
  pub runs-after : (a b c : Lists) (stop : Stop) → GoOn k a b → RunsOn k room b c stop → RunsOn k room a c stop
  runs-after a b c (Fault kind) came h = λ process fed offers follows. h process fed offers (came process fed offers follows)
  runs-after a b c Other came h = (h.0, on-after a b c came h.1)
  runs-after a b c Room came h = (h.0, on-after a b c came h.1)
