-- Where the loop stops before an instruction, it is one that the loop does not perform.
use Rattle.std.proofs.Common.{◌≡◌, ℕ, ℤ, pos, zero, suc, ◌+◌, ◌-◌, ◌*◌, Bool, true, false, inl, inr, List, drop, replicate, take, Option, Some, None, Result, Ok, Err, refl, sym, ap, subst, ◌∙◌, slice_get}
use Rattle.std.specs.Prelude.{nat_le, nat_lt}
use Rattle.cc_base.specs.Limits.{most_calls, most_cells}
use Rattle.cc_base.specs.Numbers.{compared, converted, indexed, logical_not, operated, opposite, truth, updated}
use Rattle.cc_base.specs.declared.names.FaultKind.{FaultKind}
use Rattle.cc_base.specs.declared.numbers.Comparison.TheVariants.{Less, AtMost, Greater, AtLeast, Equal, Different}
use Rattle.cc_base.specs.declared.numbers.NumberType.{NumberType}
use Rattle.cc_base.specs.declared.numbers.NumberType.TheVariants.{Int, Long}
use Rattle.cc_base.specs.declared.numbers.Operator.TheVariants.{Add, Subtract, Multiply, Divide, Remainder}
use Rattle.cc_code.specs.Works.{further}
use Rattle.cc_code.specs.declared.code.Part.{Part}
use Rattle.cc_code.specs.declared.code.RawCode.{RawCode}
use Rattle.cc_code.specs.declared.instr.Instr.{Instr}
use Rattle.cc_code.specs.declared.instr.Instr.TheVariants as instr
use Rattle.cc_vm.specs.Fragments.{element_at}
use Rattle.cc_vm.specs.Machine.{Acts, Bumps, Calls, CallsIf, Clears, Fetches, PicksAt, Puts, PutsIf, Replaces, Stores, Ticks, Updates, between, cell_of, located}
use Rattle.cc_vm.specs.Running.{IsLeft, StopsLeft}
use Rattle.cc_vm.specs.declared.registers.Frame.{Frame}
use Rattle.cc_vm.specs.declared.registers.Registers.{Registers}
use Rattle.cc_vm.specs.declared.registers.Stop.{Stop}
use Rattle.cc_vm.specs.declared.registers.Stop.TheVariants.{Fault, Other, Room}

none-on : Some Other ≡ None → ⊥
none-on e = cc

fault-on : (kind : FaultKind) → Some Other ≡ Some (Fault kind) → ⊥
fault-on kind e = cc

room-on : Some Other ≡ Some Room → ⊥
room-on e = cc

-- it calls or returns
abbrev pub IsCall : Instr → Type 0
IsCall (instr.Call f) = Unit {0}
IsCall (instr.Ret n) = Unit {0}
IsCall i = ⊥

pub not-call : (i : Instr) → ((f : ℕ) → i ≡ instr.Call f → ⊥) → ((n : ℕ) → i ≡ instr.Ret n → ⊥) → IsCall i → ⊥
not-call (instr.Call f) a b h = a f refl
not-call (instr.Ret n) a b h = b n refl
not-call i a b h = h

-- what goes on or is at fault does not stop before the instruction
module _ (S C S' C' : List ℤ) (r r' : Registers) where
  puts-on : (given : List ℤ) (place : ℕ) → Puts given place S r S' r' (Some Other) → ⊥
  puts-on given place h = none-on h.0

  replaces-on : (u : Result ℤ FaultKind) (place : ℕ) → Replaces u place S r S' r' (Some Other) → ⊥
  replaces-on (Ok z) place h = none-on h.0
  replaces-on (Err kind) place h = fault-on kind h

  fetches-on : (o : Option ℕ) (n : ℕ) (V : List ℤ) (place : ℕ) → Fetches o n V place S r S' r' (Some Other) → ⊥
  fetches-on (Some o) n V place h = none-on h.0
  fetches-on None n V place h = fault-on _ h

  stores-on : (o : Option ℕ) (new : List ℤ) (place : ℕ) → Stores o new place S C r S' C' r' (Some Other) → ⊥
  stores-on (Some o) new place h = none-on h.0.0
  stores-on None new place h = fault-on _ h

  updates-on : (u : Result ℤ FaultKind) (o place : ℕ) → Updates u o place S C r S' C' r' (Some Other) → ⊥
  updates-on (Ok new) o place h = none-on h.0.0
  updates-on (Err kind) o place h = fault-on kind h

  bumps-on : (t : NumberType) (d : ℤ) (o : Option ℕ) (place : ℕ) → Bumps t d o place S C r S' C' r' (Some Other) → ⊥
  bumps-on t d (Some o) place h = updates-on _ o place h
  bumps-on t d None place h = fault-on _ h

  clears-on : (o : Option ℕ) (n : ℕ) → Clears o n C r C' r' (Some Other) → ⊥
  clears-on (Some o) n h = none-on h.0
  clears-on None n h = fault-on _ h

  parts-on : (b : Bool) (given : List ℤ) (place : ℕ) → PutsIf b given place S r S' r' (Some Other) → ⊥
  parts-on true given place h = none-on h.0
  parts-on false given place h = fault-on _ h

  picks-on : (u : Result ℕ FaultKind) (s : ℕ) (array : List ℤ) (place : ℕ) → PicksAt u s array place S r S' r' (Some Other) → ⊥
  picks-on (Ok i) s array place h = none-on h.0
  picks-on (Err kind) s array place h = fault-on kind h

  ticks-left : (n : ℕ) → Ticks n r r' (Some Other) → n ≡ 0
  ticks-left zero h = refl
  ticks-left (suc n) h = absurd (none-on h.0)

  left-by : (i : Instr) → (IsCall i → ⊥) → Acts i S C r S' C' r' (Some Other) → IsLeft i r.ticks
  left-by (instr.Const v) q h = absurd (replaces-on (Ok v) r.top h.0)
  left-by (instr.Zeros n) q h = absurd (puts-on (replicate n (pos 0)) r.top h.0)
  left-by (instr.Drop n) q h = absurd (none-on h.0)
  left-by instr.Dup q h = absurd (replaces-on (Ok (cell_of S (r.top - 1))) r.top h.0)
  left-by (instr.Field n) q h = absurd (replaces-on (further (cell_of S (r.top - 1)) n) (r.top - 1) h.0)
  left-by (instr.Index l s) q h = absurd (replaces-on (element_at l s (cell_of S (r.top - 2)) (cell_of S (r.top - 1))) (r.top - 2) h.0)
  left-by (instr.Fetch n) q h = absurd (fetches-on (located (cell_of S (r.top - 1)) n (between r.first r.end C)) n (between r.first r.end C) (r.top - 1) h.0)
  left-by (instr.Put n) q h = absurd (stores-on (located (cell_of S (r.top - n - 1)) n (between r.first r.end C)) (between (r.top - n) r.top S) (r.top - n - 1) h)
  left-by (instr.Bump t d) q h = absurd (bumps-on t d (located (cell_of S (r.top - 1)) 1 (between r.first r.end C)) (r.top - 1) h)
  left-by (instr.Zero z n) q h = absurd (clears-on (located (pos z) n (between r.first r.end C)) n h.0)
  left-by (instr.Part p n m) q h = absurd (parts-on (nat_le (p + m) n) (take m (drop p (between (r.top - n) r.top S))) (r.top - n) h.0)
  left-by (instr.Pick l s) q h = absurd (picks-on (indexed l (cell_of S (r.top - 1))) s (between (r.top - (l * s + 1)) r.top S) (r.top - (l * s + 1)) h.0)
  left-by (instr.Add t) q h = absurd (replaces-on (operated Add t (cell_of S (r.top - 2)) (cell_of S (r.top - 1))) (r.top - 2) h.0)
  left-by (instr.Sub t) q h = absurd (replaces-on (operated Subtract t (cell_of S (r.top - 2)) (cell_of S (r.top - 1))) (r.top - 2) h.0)
  left-by (instr.Mul t) q h = absurd (replaces-on (operated Multiply t (cell_of S (r.top - 2)) (cell_of S (r.top - 1))) (r.top - 2) h.0)
  left-by (instr.Div t) q h = absurd (replaces-on (operated Divide t (cell_of S (r.top - 2)) (cell_of S (r.top - 1))) (r.top - 2) h.0)
  left-by (instr.Rem t) q h = absurd (replaces-on (operated Remainder t (cell_of S (r.top - 2)) (cell_of S (r.top - 1))) (r.top - 2) h.0)
  left-by (instr.Neg t) q h = absurd (replaces-on (opposite t (cell_of S (r.top - 1))) (r.top - 1) h.0)
  left-by instr.Lt q h = absurd (replaces-on (Ok (truth (compared Less (cell_of S (r.top - 2)) (cell_of S (r.top - 1))))) (r.top - 2) h.0)
  left-by instr.Le q h = absurd (replaces-on (Ok (truth (compared AtMost (cell_of S (r.top - 2)) (cell_of S (r.top - 1))))) (r.top - 2) h.0)
  left-by instr.Gt q h = absurd (replaces-on (Ok (truth (compared Greater (cell_of S (r.top - 2)) (cell_of S (r.top - 1))))) (r.top - 2) h.0)
  left-by instr.Ge q h = absurd (replaces-on (Ok (truth (compared AtLeast (cell_of S (r.top - 2)) (cell_of S (r.top - 1))))) (r.top - 2) h.0)
  left-by instr.Eq q h = absurd (replaces-on (Ok (truth (compared Equal (cell_of S (r.top - 2)) (cell_of S (r.top - 1))))) (r.top - 2) h.0)
  left-by instr.Ne q h = absurd (replaces-on (Ok (truth (compared Different (cell_of S (r.top - 2)) (cell_of S (r.top - 1))))) (r.top - 2) h.0)
  left-by instr.Not q h = absurd (replaces-on (Ok (logical_not (cell_of S (r.top - 1)))) (r.top - 1) h.0)
  left-by (instr.Narrow t) q h = absurd (replaces-on (converted Long t (cell_of S (r.top - 1))) (r.top - 1) h.0)
  left-by (instr.Jump a) q h = absurd (none-on h.0)
  left-by (instr.JumpZero a) q h = absurd (none-on h.0)
  left-by instr.Tick q h = ticks-left r.ticks h.0
  left-by (instr.Call f) q h = absurd (q tt)
  left-by (instr.Ret n) q h = absurd (q tt)
  left-by i q h = tt

some-same : (i j : Instr) → Some i ≡ Some j → i ≡ j
some-same i j e = cc

module _ (k : RawCode) (r : Registers) where
  pub acts-left : (S C : List ℤ) (i : Instr) → slice_get k.instrs r.at ≡ Some i → (IsCall i → ⊥) → (S' C' : List ℤ) (r' : Registers) (o : Option Stop) → Acts i S C r S' C' r' o → StopsLeft k r o
  acts-left S C i here q S' C' r' (Some Other) h = λ j there. subst (λ (x : Instr). IsLeft x r.ticks) (some-same i j (sym here ∙ there)) (left-by S C S' C' r r' i q h)
  acts-left S C i here q S' C' r' (Some Room) h = tt
  acts-left S C i here q S' C' r' (Some (Fault kind)) h = tt
  acts-left S C i here q S' C' r' None h = tt

  calls-on : (a b c : Bool) (p : Part) (room : ℕ) (S C : List ℤ) (F : List Frame) (C' : List ℤ) (F' : List Frame) (r' : Registers) → CallsIf a b c p room S C F r C' F' r' (Some Other) → ⊥
  calls-on true b c p room S C F C' F' r' h = fault-on _ h
  calls-on false true c p room S C F C' F' r' h = fault-on _ h
  calls-on false false true p room S C F C' F' r' h = fault-on _ h
  calls-on false false false p room S C F C' F' r' h = elim h [ inl g ↦ none-on g.0 | inr g ↦ room-on g.0 ]

  pub call-left : (p : Part) (room : ℕ) (S C : List ℤ) (F : List Frame) (C' : List ℤ) (F' : List Frame) (r' : Registers) (o : Option Stop) → Calls p room S C F r C' F' r' o → StopsLeft k r o
  call-left p room S C F C' F' r' (Some Other) h = absurd (calls-on (nat_le most_calls r.calls) (nat_lt most_cells (r.end + p.cells)) (nat_lt p.cells p.args) p room S C F C' F' r' h)
  call-left p room S C F C' F' r' (Some Room) h = tt
  call-left p room S C F C' F' r' (Some (Fault kind)) h = tt
  call-left p room S C F C' F' r' None h = tt
