-- How a process begins, and how it goes on after a pause.
use Rattle.std.proofs.Common.{◌≡◌, ℕ, ℤ, pos, zero, suc, ◌+◌, ◌-◌, ◌<◌, ◌≤◌, Bool, true, false, List, [], ◌∷◌, ◌++◌, append-nil, append_assoc, length, length-append, take, replicate, slice_get, Option, Some, None, Result, Ok, Err, IfOk, refl, sym, ◌∙◌, ap, subst, arith}
use Rattle.std.specs.Prelude.{nat_lt, if◌then◌else◌}
use Rattle.std.proofs.lemmas.Bool.Decides.{nat_tests}
use Rattle.std.proofs.lemmas.List.{length-replicate, replicate-append-replicate, take_all}
use Rattle.cc_base.specs.Limits.{most_cells, most_instructions, ticks_granted}
use Rattle.cc_base.specs.Outcome.{and_then, spent}
use Rattle.cc_base.specs.declared.alternatives.Alt.{Alt}
use Rattle.cc_base.specs.declared.names.FaultKind.TheVariants.{Cells, Index}
use Rattle.cc_base.specs.declared.request.Grant.{Grant}
use Rattle.cc_base.specs.declared.request.Grant.TheVariants.{Go}
use Rattle.cc_base.specs.declared.request.Request.{Request}
use Rattle.cc_base.specs.declared.request.Request.TheVariants as request
use Rattle.cc_code.proofs.Proper.{follows-grant, follows-stop}
use Rattle.cc_code.proofs.Standing.{kind-stands, step-stands}
use Rattle.cc_code.specs.Meaning.{begins, left_at_start, process}
use Rattle.cc_code.specs.Rules.{HasMain, IsVerified}
use Rattle.cc_code.specs.Standing.{AsksValue, Kind, NextIsAnsweredInFull, Stands, StandsAfter}
use Rattle.cc_code.specs.Steps.{Asks, Goes, Ran, State, Stops, after, cells_at_start, goes_on, popped, step, stepped, with_grants, within_bound, worked_on}
use Rattle.cc_code.specs.Works.{go_to}
use Rattle.cc_code.specs.declared.code.Part.{Part}
use Rattle.cc_code.specs.declared.code.RawCode.{RawCode}
use Rattle.cc_code.specs.declared.instr.Instr.{Instr}
use Rattle.cc_code.specs.declared.instr.Instr.TheVariants as instr
use Rattle.cc_code.specs.declared.rule.Rule.TheVariants as rule
use Rattle.cc_vm.proofs.Fragments.{popped-is}
use Rattle.cc_vm.specs.Lists.{GoOn, IsReady, StartsWith, first_registers, kept_state, ticked_again}
use Rattle.cc_vm.specs.Machine.{between, callers, state_of}
use Rattle.cc_vm.specs.Running.{Follows, Ready}
use Rattle.cc_vm.specs.declared.lists.Lists.{Lists}
use Rattle.cc_vm.specs.declared.registers.Frame.{Frame}
use Rattle.cc_vm.specs.declared.registers.Registers.{Registers}

less-false : (a b : ℕ) → b ≤ a → nat_lt a b ≡ false
less-false a b h = grind (arith, nat_tests)

some-same : (i j : Instr) → Some i ≡ Some j → i ≡ j
some-same i j e = cc

less-true : (a b : ℕ) → a < b → nat_lt a b ≡ true
less-true a b h = grind (arith, nat_tests)

-- a kind that is at fault at once, and one that begins
module _ (k : RawCode) (p : Part) (args : List ℤ) where
  at-start : List Grant → Ran
  at-start grants = goes_on k (begins p.entry (cells_at_start p args) (left_at_start grants))

  pub too-many : most_cells < p.cells → (grants : List Grant) → process k (Some p) args grants ≡ Asks (request.Fault Cells)
  too-many h grants = ap (λ (b : Bool). if b then Asks (request.Fault Cells) else (if nat_lt p.cells p.args then Asks (request.Fault Index) else goes_on k (begins p.entry (cells_at_start p args) (left_at_start grants)))) (less-true most_cells p.cells h)

  pub lacks-cells : p.cells ≤ most_cells → p.cells < p.args → (grants : List Grant) → process k (Some p) args grants ≡ Asks (request.Fault Index)
  lacks-cells m h grants =
      ap (λ (b : Bool). if b then Asks (request.Fault Cells) else (if nat_lt p.cells p.args then Asks (request.Fault Index) else goes_on k (begins p.entry (cells_at_start p args) (left_at_start grants)))) (less-false most_cells p.cells m)
      ∙ ap (λ (b : Bool). if b then Asks (request.Fault Index) else goes_on k (begins p.entry (cells_at_start p args) (left_at_start grants))) (less-true p.cells p.args h)

  begun : p.cells ≤ most_cells → p.args ≤ p.cells → (grants : List Grant) → process k (Some p) args grants ≡ at-start grants
  unfolding at-start
  begun m h grants =
      ap (λ (b : Bool). if b then Asks (request.Fault Cells) else (if nat_lt p.cells p.args then Asks (request.Fault Index) else goes_on k (begins p.entry (cells_at_start p args) (left_at_start grants)))) (less-false most_cells p.cells m)
      ∙ ap (λ (b : Bool). if b then Asks (request.Fault Index) else goes_on k (begins p.entry (cells_at_start p args) (left_at_start grants))) (less-false p.cells p.args h)

  module _ (most : p.cells ≤ most_cells) (among : p.args ≤ p.cells) (long : length args ≡ p.args) (S C : List ℤ) (cells : C ≡ cells_at_start p args) where
    cells-long : length C ≡ p.cells
    cells-long =
        let z : length (replicate (p.cells - p.args) (pos 0)) ≡ p.cells - p.args = length-replicate (p.cells - p.args) (pos 0) in
        let l : length (cells_at_start p args) ≡ length args + length (replicate (p.cells - p.args) (pos 0)) = length-append args (replicate (p.cells - p.args) (pos 0)) in
        let e : length C ≡ length (cells_at_start p args) = ap length cells in
        omega (arith, z, l, e, long, among)

    first-state : state_of (first_registers p) S C [] [] ≡ begins p.entry (cells_at_start p args) (record { grants = []; ticks = ticks_granted })
    first-state = ap (λ (xs : List ℤ). begins p.entry xs (record { grants = []; ticks = ticks_granted })) (take_all p.cells C (omega (arith, cells-long)) ∙ cells)

    first-follows : Follows k (process k (Some p) args) (Go ∷ []) (state_of (first_registers p) S C [] [])
    unfolding at-start
    first-follows rest = begun most among (Go ∷ rest) ∙ ap (λ (s : State). goes_on k (with_grants s rest)) (sym first-state)

    first-ready : IsVerified k → (kind : ℕ) → slice_get k.kinds kind ≡ Some p → (room : ℕ) → room ≤ length S → Ready k room S C [] (first_registers p)
    first-ready verified kind here room r =
        record {
          stands = subst (Stands k Kind) (sym first-state) (kind-stands k verified kind p (cells_at_start p args) (record { grants = []; ticks = ticks_granted }) here);
          lies = record {
            callers = (refl, refl);
            operands = omega (arith, r);
            bottom = omega arith;
            top = omega arith;
            first = omega arith;
            end = omega (arith, cells-long);
            most = most;
            calls = omega arith;
          };
          few = omega arith;
        }

-- a process of a kind, as the machine runs it
module _ (k : RawCode) (verified : IsVerified k) (kind : ℕ) (p : Part) (there : slice_get k.kinds kind ≡ Some p) (args : List ℤ) (long : length args ≡ p.args) where
  module _ (most : p.cells ≤ most_cells) (among : p.args ≤ p.cells) (room : ℕ) (l : Lists) (starts : StartsWith p args room l) where
    pub started-ready : IsReady k room l
    started-ready =
        subst (λ (F : List Frame). Ready k room l.stack.items l.cells.items F l.registers) (sym starts.frames)
        (subst (λ (r : Registers). Ready k room l.stack.items l.cells.items [] r) (sym starts.registers)
        (first-ready k p args most among long l.stack.items l.cells.items starts.cells verified kind there room (let e : length l.stack.items ≡ room = starts.stack in omega (arith, e))))

    pub started-follows : Follows k (process k (slice_get k.kinds kind) args) (Go ∷ []) (kept_state l [])
    started-follows =
        subst (λ (o : Option Part). Follows k (process k o args) (Go ∷ []) (kept_state l [])) (sym there)
        (subst (λ (F : List Frame). Follows k (process k (Some p) args) (Go ∷ []) (state_of l.registers l.stack.items l.cells.items F [])) (sym starts.frames)
        (subst (λ (r : Registers). Follows k (process k (Some p) args) (Go ∷ []) (state_of r l.stack.items l.cells.items [] [])) (sym starts.registers)
        (first-follows k p args most among long l.stack.items l.cells.items starts.cells)))

-- what a process asks that stands before a `Tick` without a tick
module _ (k : RawCode) (l : Lists) (offers : List (ℕ × Alt)) where
  abbrev kept : State
  kept = kept_state l offers

  pub tick-stops : slice_get k.instrs l.registers.at ≡ Some instr.Tick → l.registers.ticks ≡ 0 → step k (with_grants kept []) ≡ Stops (Asks request.Pause)
  tick-stops here none =
      ap (λ (o : Option Instr). stepped k o (with_grants kept [])) here
      ∙ ap within_bound (
      ap (λ (xs : List ℤ). popped 0 xs (worked_on k instr.Tick (with_grants kept []))) (sym (append-nil kept.stack))
      ∙ popped-is kept.stack [] 0 (worked_on k instr.Tick (with_grants kept [])) refl
      ∙ ap (λ (t : ℕ). after true (with_grants kept []) kept.stack (and_then (spent t kept.store (record { grants = []; ticks = l.registers.ticks })) (λ _. go_to (l.registers.at + 1) []))) none)

-- after the grant that ends a pause
module _ (k : RawCode) (verified : IsVerified k) (room : ℕ) (S C : List ℤ) (F : List Frame) (r : Registers) (ready : Ready k room S C F r) (here : slice_get k.instrs r.at ≡ Some instr.Tick) (none : r.ticks ≡ 0) where
  abbrev stack : List ℤ
  stack = between r.bottom r.top S

  ticked : (offers : List (ℕ × Alt)) (g : Grant) (rest : List Grant) → step k (with_grants (state_of r S C F offers) (g ∷ rest)) ≡ Goes (with_grants (state_of (ticked_again r) S C F offers) rest)
  ticked offers g rest =
      ap (λ (o : Option Instr). stepped k o (with_grants (state_of r S C F offers) (g ∷ rest))) here
      ∙ ap within_bound (
      ap (λ (xs : List ℤ). popped 0 xs (worked_on k instr.Tick (with_grants (state_of r S C F offers) (g ∷ rest)))) (sym (append-nil stack))
      ∙ popped-is stack [] 0 (worked_on k instr.Tick (with_grants (state_of r S C F offers) (g ∷ rest))) refl
      ∙ ap (λ (t : ℕ). after true (with_grants (state_of r S C F offers) (g ∷ rest)) stack (and_then (spent t (record { cells = between r.first r.end C; offers = offers }) (record { grants = g ∷ rest; ticks = r.ticks })) (λ _. go_to (r.at + 1) []))) none
      ∙ ap (λ (xs : List ℤ). Goes (record { address = r.at + 1; stack = xs; store = record { cells = between r.first r.end C; offers = offers }; left = record { grants = rest; ticks = ticks_granted - 1 }; count = 0; frames = callers F r.calls (take r.bottom S) (take r.first C) })) (append-nil stack))

  recount : Stands k Kind (with_grants (state_of r S C F []) (Go ∷ []))
  recount = record { address = ready.stands.address; height = ready.stands.height; part = ready.stands.part }

  -- a tick asks for no value
  tick-answered : NextIsAnsweredInFull k (with_grants (state_of r S C F []) (Go ∷ []))
  tick-answered i there asks = absurd (subst AsksValue (some-same i instr.Tick (sym there ∙ here)) asks)

  pub ticked-ready : Ready k room S C F (ticked_again r)
  ticked-ready =
      record {
        stands = subst (StandsAfter k Kind) (ticked [] Go []) (step-stands k verified Kind (with_grants (state_of r S C F []) (Go ∷ [])) recount tick-answered);
        lies = record {
          callers = ready.lies.callers;
          operands = ready.lies.operands;
          bottom = ready.lies.bottom;
          top = ready.lies.top;
          first = ready.lies.first;
          end = ready.lies.end;
          most = ready.lies.most;
          calls = ready.lies.calls;
        };
        few = omega arith;
      }

  pub ticked-follows : (process : List Grant → Ran) (fed : List Grant) (offers : List (ℕ × Alt)) (g : Grant) → Follows k process fed (state_of r S C F offers) → Follows k process (fed ++ g ∷ []) (state_of (ticked_again r) S C F offers)
  ticked-follows process fed offers g follows = follows-grant k process fed (state_of r S C F offers) follows g (state_of (ticked_again r) S C F offers) (λ rest. ticked offers g rest)
