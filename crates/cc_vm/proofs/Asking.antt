-- What an instruction asks is what its code asks.
use Rattle.std.proofs.Common.{◌≡◌, ℕ, ℤ, suc, ◌+◌, ◌-◌, ◌<◌, ◌≤◌, List, [], ◌∷◌, ◌++◌, length, Option, Some, None, Result, Ok, Err, refl, ◌∙◌, ap, subst, arith, slice_get}
use Rattle.cc_base.specs.Granted.{call_cells, or_fault, timed_cells}
use Rattle.cc_base.specs.Numbers.{byte_of, callee}
use Rattle.cc_base.specs.Outcome.{Asked, Left, ◌>>=◌, ◌>>◌, and_then, ask, pure}
use Rattle.cc_base.specs.declared.alternatives.Alt.{Alt}
use Rattle.cc_base.specs.declared.names.FaultKind.{FaultKind}
use Rattle.cc_base.specs.declared.names.Pid.{Pid}
use Rattle.cc_base.specs.declared.request.Request.{Request}
use Rattle.cc_base.specs.declared.request.Request.TheVariants as request
use Rattle.cc_code.proofs.Proper.{follows-stop}
use Rattle.cc_base.specs.Formats.{conversions, formatted}
use Rattle.cc_code.specs.Operands.{format_at, kind_at, shape_at, takes}
use Rattle.cc_code.specs.Rules.{IsVerified}
use Rattle.cc_code.specs.Steps.{Asks, State, Stops, after, performed, popped, renews, step, stepped, with_grants, within_bound, worked, worked_on}
use Rattle.cc_code.specs.Works.{Store, go_to, in_time, works}
use Rattle.cc_code.specs.declared.code.RawCode.{RawCode}
use Rattle.cc_code.specs.declared.instr.Instr.{Instr}
use Rattle.cc_code.specs.declared.instr.Instr.TheVariants as instr
use Rattle.cc_vm.proofs.Acts.{Fits}
use Rattle.cc_vm.proofs.Between.{between-one, between-split, between-two, length-between}
use Rattle.cc_vm.proofs.Fragments.{popped-is}
use Rattle.cc_vm.proofs.Running.{fits}
use Rattle.cc_vm.specs.Asking.{Requested, addressed}
use Rattle.cc_vm.specs.Lists.{IsReady, kept_state}
use Rattle.cc_vm.specs.Machine.{between, cell_of, state_of}
use Rattle.cc_vm.specs.Running.{IsRoom}
use Rattle.cc_vm.specs.declared.lists.Lists.{Lists}
use Rattle.cc_vm.specs.declared.registers.Frame.{Frame}
use Rattle.cc_vm.specs.declared.registers.Registers.{Registers}

-- an instruction that is worked, in a state to which no grant is left
module _ (k : RawCode) (i : Instr) (F : List Frame) (S C : List ℤ) (r : Registers) (at : slice_get k.instrs r.at ≡ Some i) (is-worked : (s : State) → performed k i s ≡ worked k i s) (offers : List (ℕ × Alt)) where
  abbrev alone : State
  alone = with_grants (state_of r S C F offers) []

  abbrev store : Store
  store = record { cells = between r.first r.end C; offers = offers }

  abbrev none : Left
  none = record { grants = []; ticks = r.ticks }

  -- where its operands are these, and it asks
  pub asked : (place : ℕ) (vs : List ℤ) (q : Request) → r.bottom ≤ place → place ≤ r.top → r.top ≤ length S → between place r.top S ≡ vs → length vs ≡ takes k i
      → works k (r.at + 1) i vs store none ≡ Asked q → step k alone ≡ Stops (Asks q)
  asked place vs q low high top these size w =
      ap (λ (o : Option Instr). stepped k o alone) at
      ∙ ap within_bound (
      is-worked alone
      ∙ ap (λ (xs : List ℤ). popped (takes k i) xs (worked_on k i alone)) (between-split r.bottom place r.top S low high top ∙ ap (λ (xs : List ℤ). between r.bottom place S ++ xs) these)
      ∙ popped-is (between r.bottom place S) vs (takes k i) (worked_on k i alone) size
      ∙ ap (after (renews i) alone (between r.bottom place S)) w)

module _ (next : ℕ) (store : Store) (none : Left) (no-grant : none.grants ≡ []) where
  called-by : (t n : ℕ) (args : List ℤ) (u : Result Pid FaultKind)
      → and_then (and_then (or_fault u store none) (λ target. ask (request.Call target t args) >>= call_cells n)) (λ ws. go_to next ws) ≡ Asked (addressed u (λ target. request.Call target t args))
  called-by t n args (Ok target) = rw no-grant refl
  called-by t n args (Err kind) = refl

  timed-by : (t n late : ℕ) (args : List ℤ) (wait : ℤ) (u : Result Pid FaultKind)
      → and_then (and_then (or_fault u store none) (λ target. ask (request.TimedCall target t args wait) >>= timed_cells n)) (in_time next late) ≡ Asked (addressed u (λ target. request.TimedCall target t args wait))
  timed-by t n late args wait (Ok target) = rw no-grant refl
  timed-by t n late args wait (Err kind) = refl

  sent-by : (t : ℕ) (args : List ℤ) (u : Result Pid FaultKind)
      → and_then (and_then (or_fault u store none) (λ target. ask (request.Send target t args) >> pure (tt {0}))) (λ _. go_to next []) ≡ Asked (addressed u (λ target. request.Send target t args))
  sent-by t args (Ok target) = rw no-grant refl
  sent-by t args (Err kind) = refl

module _ (k : RawCode) (verified : IsVerified k) (room : ℕ) (enough : IsRoom k room) (l : Lists) (ready : IsReady k room l) (i : Instr) (at : slice_get k.instrs l.registers.at ≡ Some i) where
  abbrev r : Registers
  r = l.registers

  abbrev S : List ℤ
  S = l.stack.items

  fit : Fits k i S l.cells.items r
  fit = fits k verified room enough S l.cells.items l.frames.items r ready i at

  pub has-operands : takes k i ≤ r.top
  has-operands = (let t : takes k i ≤ r.top - r.bottom = fit.operands in omega (arith, t))

  pub has-top : r.top ≤ length S
  has-top = fit.top

-- the operands of a call: the number of the process, and the arguments
pub call-operands : (S : List ℤ) (top n : ℕ) → n < top → top ≤ length S → between (top - (1 + n)) top S ≡ cell_of S (top - n - 1) ∷ between (top - n) top S
call-operands S top n h t =
    let p : ℕ = top - n - 1 in
    let e : top - (1 + n) ≡ p = omega (arith, h) in
    let f : p + 1 ≡ top - n = omega (arith, h) in
    ap (λ (m : ℕ). between m top S) e
    ∙ between-split p (p + 1) top S (omega arith) (omega (arith, h)) t
    ∙ ap (λ (xs : List ℤ). xs ++ between (p + 1) top S) (between-one S p (omega (arith, h, t)))
    ∙ ap (λ (m : ℕ). cell_of S p ∷ between m top S) f

pub timed-operands : (S : List ℤ) (top n : ℕ) → n + 1 < top → top ≤ length S → between (top - (2 + n)) top S ≡ cell_of S (top - n - 2) ∷ cell_of S (top - n - 1) ∷ between (top - n) top S
timed-operands S top n h t =
    let p : ℕ = top - n - 2 in
    let e : top - (2 + n) ≡ p = omega (arith, h) in
    let f : suc p ≡ top - n - 1 = omega (arith, h) in
    let g : p + 2 ≡ top - n = omega (arith, h) in
    ap (λ (m : ℕ). between m top S) e
    ∙ between-split p (p + 2) top S (omega arith) (omega (arith, h)) t
    ∙ ap (λ (xs : List ℤ). xs ++ between (p + 2) top S) (between-two S p (omega (arith, h, t)))
    ∙ ap (λ (m : ℕ). cell_of S p ∷ cell_of S m ∷ between (p + 2) top S) f
    ∙ ap (λ (m : ℕ). cell_of S p ∷ cell_of S (top - n - 1) ∷ between m top S) g

pub one-operand : (S : List ℤ) (top : ℕ) → 0 < top → top ≤ length S → between (top - 1) top S ≡ cell_of S (top - 1) ∷ []
one-operand S top h t =
    let e : top ≡ top - 1 + 1 = omega (arith, h) in
    ap (λ (m : ℕ). between (top - 1) m S) e ∙ between-one S (top - 1) (omega (arith, h, t))

module _ (k : RawCode) (F : List Frame) (S C : List ℤ) (r : Registers) (offers : List (ℕ × Alt)) where
  abbrev now : State
  now = with_grants (state_of r S C F offers) []

  abbrev Stopped : Request → Type 0
  Stopped q = step k now ≡ Stops (Asks q)

  some-is : (q p : Request) → Some q ≡ Some p → Stopped p → Stopped q
  some-is q p e h = subst Stopped (let f : p ≡ q = cc in f) h

  pub asks-by : (i : Instr) → slice_get k.instrs r.at ≡ Some i → Fits k i S C r → (q : Request) → Requested k i S r.top (Some q) → Stopped q
  asks-by (instr.Create kind) at fit q h =
      some-is q (request.Create kind (between (r.top - (kind_at k kind).args) r.top S)) h (
      asked k (instr.Create kind) F S C r at (λ s. refl) offers (r.top - (kind_at k kind).args) (between (r.top - (kind_at k kind).args) r.top S) (request.Create kind (between (r.top - (kind_at k kind).args) r.top S))
      (omega (arith, fit.operands, fit.low)) (omega arith) fit.top refl
      (let e : length (between (r.top - (kind_at k kind).args) r.top S) ≡ r.top - (r.top - (kind_at k kind).args) = length-between (r.top - (kind_at k kind).args) r.top S fit.top in omega (arith, e, fit.operands)) refl
      )
  asks-by (instr.Ask t) at fit q h =
      let n : ℕ = (shape_at k t).args in
      let x : ℤ = cell_of S (r.top - n - 1) in
      let args : List ℤ = between (r.top - n) r.top S in
      let less : n < r.top = omega (arith, fit.operands) in
      let e : length args ≡ r.top - (r.top - n) = length-between (r.top - n) r.top S fit.top in
      some-is q (addressed (callee x) (λ target. request.Call target t args)) h (
      asked k (instr.Ask t) F S C r at (λ s. refl) offers (r.top - (1 + n)) (x ∷ args) (addressed (callee x) (λ target. request.Call target t args))
      (omega (arith, fit.operands, fit.low)) (omega arith) fit.top (call-operands S r.top n less fit.top) (omega (arith, e, less))
      (called-by (r.at + 1) (store k (instr.Ask t) F S C r at (λ s. refl) offers) (none k (instr.Ask t) F S C r at (λ s. refl) offers) refl t (shape_at k t).value args (callee x))
      )
  asks-by (instr.AskWithin t late) at fit q h =
      let n : ℕ = (shape_at k t).args in
      let wait : ℤ = cell_of S (r.top - n - 2) in
      let x : ℤ = cell_of S (r.top - n - 1) in
      let args : List ℤ = between (r.top - n) r.top S in
      let less : n + 1 < r.top = omega (arith, fit.operands) in
      let e : length args ≡ r.top - (r.top - n) = length-between (r.top - n) r.top S fit.top in
      some-is q (addressed (callee x) (λ target. request.TimedCall target t args wait)) h (
      asked k (instr.AskWithin t late) F S C r at (λ s. refl) offers (r.top - (2 + n)) (wait ∷ x ∷ args) (addressed (callee x) (λ target. request.TimedCall target t args wait))
      (omega (arith, fit.operands, fit.low)) (omega arith) fit.top (timed-operands S r.top n less fit.top) (omega (arith, e, less))
      (timed-by (r.at + 1) (store k (instr.AskWithin t late) F S C r at (λ s. refl) offers) (none k (instr.AskWithin t late) F S C r at (λ s. refl) offers) refl t (shape_at k t).value late args wait (callee x))
      )
  asks-by (instr.Send t) at fit q h =
      let n : ℕ = (shape_at k t).args in
      let x : ℤ = cell_of S (r.top - n - 1) in
      let args : List ℤ = between (r.top - n) r.top S in
      let less : n < r.top = omega (arith, fit.operands) in
      let e : length args ≡ r.top - (r.top - n) = length-between (r.top - n) r.top S fit.top in
      some-is q (addressed (callee x) (λ target. request.Send target t args)) h (
      asked k (instr.Send t) F S C r at (λ s. refl) offers (r.top - (1 + n)) (x ∷ args) (addressed (callee x) (λ target. request.Send target t args))
      (omega (arith, fit.operands, fit.low)) (omega arith) fit.top (call-operands S r.top n less fit.top) (omega (arith, e, less))
      (sent-by (r.at + 1) (store k (instr.Send t) F S C r at (λ s. refl) offers) (none k (instr.Send t) F S C r at (λ s. refl) offers) refl t args (callee x))
      )
  asks-by instr.Wait at fit q h =
      let some : 0 < r.top = omega (arith, fit.operands) in
      some-is q (request.Delay (cell_of S (r.top - 1))) h (
      asked k instr.Wait F S C r at (λ s. refl) offers (r.top - 1) (cell_of S (r.top - 1) ∷ []) (request.Delay (cell_of S (r.top - 1)))
      (omega (arith, fit.operands, fit.low)) (omega arith) fit.top (one-operand S r.top some fit.top) refl refl
      )
  asks-by (instr.Reply n) at fit q h =
      some-is q (request.Reply (between (r.top - n) r.top S)) h (
      asked k (instr.Reply n) F S C r at (λ s. refl) offers (r.top - n) (between (r.top - n) r.top S) (request.Reply (between (r.top - n) r.top S))
      (omega (arith, fit.operands, fit.low)) (omega arith) fit.top refl
      (let e : length (between (r.top - n) r.top S) ≡ r.top - (r.top - n) = length-between (r.top - n) r.top S fit.top in omega (arith, e, fit.operands)) refl
      )
  asks-by instr.PutByte at fit q h =
      let some : 0 < r.top = omega (arith, fit.operands) in
      some-is q (request.Print (byte_of (cell_of S (r.top - 1)) ∷ [])) h (
      asked k instr.PutByte F S C r at (λ s. refl) offers (r.top - 1) (cell_of S (r.top - 1) ∷ []) (request.Print (byte_of (cell_of S (r.top - 1)) ∷ []))
      (omega (arith, fit.operands, fit.low)) (omega arith) fit.top (one-operand S r.top some fit.top) refl refl
      )
  asks-by instr.GetByte at fit q h =
      some-is q request.Get h (
      asked k instr.GetByte F S C r at (λ s. refl) offers r.top [] request.Get fit.low (omega arith) fit.top
      (let e : length (between r.top r.top S) ≡ r.top - r.top = length-between r.top r.top S fit.top in nil-from (between r.top r.top S) (omega (arith, e))) refl refl
      )
    where
      nil-from : (xs : List ℤ) → length xs ≡ 0 → xs ≡ []
      nil-from [] e = refl
      nil-from (x ∷ xs) e = absurd (omega (arith, e))
  asks-by (instr.Format f) at fit q h =
      let n : ℕ = conversions (format_at k f) in
      let numbers : List ℤ = between (r.top - n) r.top S in
      let e : length numbers ≡ r.top - (r.top - n) = length-between (r.top - n) r.top S fit.top in
      some-is q (request.Print (formatted (format_at k f) numbers)) h (
      asked k (instr.Format f) F S C r at (λ s. refl) offers (r.top - n) numbers (request.Print (formatted (format_at k f) numbers)) (omega (arith, fit.operands, fit.low)) (omega arith) fit.top refl
      (omega (arith, e, fit.operands)) refl
      )
  asks-by instr.End at fit q h = some-is q request.Done h (ap (λ (o : Option Instr). stepped k o now) at)
  asks-by i at fit q h = absurd (let e : Some q ≡ None = h in cc)
