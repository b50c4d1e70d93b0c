-- What an instruction of a fragment does with its operands is one step of the code.
use Rattle.std.proofs.Common.{◌≡◌, ℕ, ℤ, pos, negsuc, zero, suc, ◌+◌, ◌-◌, ◌*◌, ◌<◌, ◌≤◌, Bool, true, false, List, [], ◌∷◌, ◌++◌, append-nil, length, length-append, drop, take, slice_get, inl, inr, Option, Some, None, Result, Ok, Err, refl, sym, ◌∙◌, ap, subst, arith}
use Rattle.std.specs.Prelude.{nat_le, if◌then◌else◌}
use Rattle.std.proofs.Math.Seq.{drop-append_seam, take-append_seam}
use Rattle.std.proofs.lemmas.Bool.Decides.{nat_tests}
use Rattle.std.proofs.lemmas.Option.{slice_get_cases, slice_get_past}
use Rattle.cc_base.specs.Granted.{or_fault}
use Rattle.cc_base.specs.Limits.{most_instructions, most_steps}
use Rattle.cc_base.specs.Numbers.{and_with, at_zero, compared, converted, indexed, logical_not, operated, opposite, truth}
use Rattle.cc_base.specs.Outcome.{Left, Outcome, and_then}
use Rattle.cc_base.specs.declared.names.FaultKind.{FaultKind}
use Rattle.cc_base.specs.declared.names.FaultKind.TheVariants.{Depth}
use Rattle.cc_base.specs.declared.numbers.Comparison.TheVariants.{Less, AtMost, Greater, AtLeast, Equal, Different}
use Rattle.cc_base.specs.declared.numbers.NumberType.TheVariants.{Long}
use Rattle.cc_base.specs.declared.numbers.Operator.TheVariants.{Add, Subtract, Multiply, Divide, Remainder}
use Rattle.cc_base.specs.declared.request.Request.TheVariants.{Fault}
use Rattle.cc_code.proofs.Standing.{step-stands}
use Rattle.cc_code.proofs.Total.{goes-step}
use Rattle.cc_code.specs.Meaning.{begins, nothing_left, value_of}
use Rattle.cc_code.specs.Operands.{takes}
use Rattle.cc_code.specs.Rules.{IsVerified}
use Rattle.cc_code.specs.Standing.{Fragment, NextIsAnsweredInFull, Stands, StandsAfter}
use Rattle.cc_code.specs.Steps.{Ran, Asks, Yields, State, Stepped, Goes, Stops, after, and_on, goes_on, performed, popped, popped_if, renews, step, stepped, within_bound, worked, worked_on}
use Rattle.cc_code.specs.Works.{Next as Going, Store, at_offset, element_offset, fetched, fetched_in, first, further, go_to, index_fault, on_with, on_with_cells, works}
use Rattle.cc_code.specs.declared.code.RawCode.{RawCode}
use Rattle.cc_code.specs.declared.instr.Instr.{Instr}
use Rattle.cc_code.specs.declared.instr.Instr.TheVariants as instr
use Rattle.cc_vm.specs.Fragments.{Comes, Comes1, Comes2, Does, HasRoom, IsReady, StepsTo, Taken, cell_at, element_at, fragment_at, or_outside}
use Rattle.cc_vm.specs.declared.fragment.Next.{Next}
use Rattle.cc_vm.specs.declared.fragment.Next.TheVariants.{To, Ended}

at-most-true : (a b : ℕ) → a ≤ b → nat_le a b ≡ true
at-most-true a b h = grind (arith, nat_tests)

at-most-false : (a b : ℕ) → b < a → nat_le a b ≡ false
at-most-false a b h = grind (arith, nat_tests)

-- what was put on the operands last is popped
pub popped-is : (below vs : List ℤ) (n : ℕ) (go : List ℤ → List ℤ → Stepped) → length vs ≡ n → popped n (below ++ vs) go ≡ go vs below
unfolding popped
popped-is below vs n go l =
    let sum : length (below ++ vs) ≡ length below + length vs = length-append below vs in
    let rest : length (below ++ vs) - n ≡ length below = omega (arith, sum, l) in
    let test : nat_le n (length (below ++ vs)) ≡ true = at-most-true n (length (below ++ vs)) (omega (arith, sum, l)) in
    ap (λ (b : Bool). popped_if b n (below ++ vs) go) test
    ∙ ap (λ (m : ℕ). go (drop m (below ++ vs)) (take m (below ++ vs))) rest
    ∙ ap (λ (ws : List ℤ). go ws (take (length below) (below ++ vs))) (drop-append_seam below vs)
    ∙ ap (λ (ws : List ℤ). go vs ws) (take-append_seam below vs)

module _ (k : RawCode) (cells : List ℤ) (at : ℕ) (i : Instr) (here : slice_get k.instrs at ≡ Some i) (old : List ℤ) where
  step-is : (count : ℕ) → step k (fragment_at cells at old count) ≡ within_bound (performed k i (fragment_at cells at old count))
  step-is count = ap (λ (o : Option Instr). stepped k o (fragment_at cells at old count)) here

  below-bound : (s : State) → s.count ≤ most_steps → within_bound (Goes s) ≡ Goes s
  below-bound s b = ap (λ (t : Bool). if t then Goes s else Stops (Asks (Fault Depth))) (at-most-true s.count most_steps b)

  goes : (new : List ℤ) (a : ℕ) → at < a → ((count : ℕ) → performed k i (fragment_at cells at old count) ≡ Goes (fragment_at cells a new (suc count))) → StepsTo k cells at old new (To a)
  goes new a lt h = (lt, λ count b. step-is count ∙ ap within_bound (h count) ∙ below-bound (fragment_at cells a new (suc count)) (omega (arith, b)))

  ends : (new : List ℤ) (r : Ran) (v : Option ℤ) → value_of r ≡ v → ((count : ℕ) → performed k i (fragment_at cells at old count) ≡ Stops r) → StepsTo k cells at old new (Ended v)
  ends new r v e h = λ count. (r, step-is count ∙ ap within_bound (h count), e)

  module _ (is-worked : (s : State) → performed k i s ≡ worked k i s) (none : renews i ≡ false) where
    worked-is : (below vs : List ℤ) → old ≡ below ++ vs → length vs ≡ takes k i → (count : ℕ)
        → performed k i (fragment_at cells at old count) ≡ after false (fragment_at cells at old count) below (works k (at + 1) i vs (record { cells = cells; offers = [] }) nothing_left)
    worked-is below vs e l count =
        is-worked (fragment_at cells at old count)
        ∙ ap (λ (stack : List ℤ). popped (takes k i) stack (worked_on k i (fragment_at cells at old count))) e
        ∙ popped-is below vs (takes k i) (worked_on k i (fragment_at cells at old count)) l
        ∙ ap (λ (b : Bool). after b (fragment_at cells at old count) below (works k (at + 1) i vs (record { cells = cells; offers = [] }) nothing_left)) none

    -- an instruction whose outcome is a number or a fault
    outcome : (below vs new : List ℤ) (next : Next) (res : Result ℤ FaultKind) → old ≡ below ++ vs → length vs ≡ takes k i
        → works k (at + 1) i vs (record { cells = cells; offers = [] }) nothing_left ≡ on_with (at + 1) (or_fault res) (record { cells = cells; offers = [] }) nothing_left → Comes res at below new next → StepsTo k cells at old new next
    outcome below vs new next (Ok z) e l w h =
        subst (StepsTo k cells at old new) (sym h.1) (goes new (at + 1) (omega arith) (λ count.
        worked-is below vs e l count
        ∙ ap (after false (fragment_at cells at old count) below) w
        ∙ ap (λ (stack : List ℤ). Goes (fragment_at cells (at + 1) stack (suc count))) (sym h.0)))
    outcome below vs new next (Err kind) e l w h =
        subst (StepsTo k cells at old new) (sym h) (ends new (Asks (Fault kind)) None refl (λ count.
        worked-is below vs e l count
        ∙ ap (after false (fragment_at cells at old count) below) w))

    one : (new : List ℤ) (next : Next) (f : ℤ → Result ℤ FaultKind) → 1 ≡ takes k i
        → ((a : ℤ) → works k (at + 1) i (a ∷ []) (record { cells = cells; offers = [] }) nothing_left ≡ on_with (at + 1) (or_fault (f a)) (record { cells = cells; offers = [] }) nothing_left) → Comes1 f at old new next → StepsTo k cells at old new next
    one new next f n w h = outcome h.0 (h.1 ∷ []) new next (f h.1) h.2 n (w h.1) h.3

    two : (new : List ℤ) (next : Next) (f : ℤ → ℤ → Result ℤ FaultKind) → 2 ≡ takes k i
        → ((a b : ℤ) → works k (at + 1) i (a ∷ b ∷ []) (record { cells = cells; offers = [] }) nothing_left ≡ on_with (at + 1) (or_fault (f a b)) (record { cells = cells; offers = [] }) nothing_left) → Comes2 f at old new next → StepsTo k cells at old new next
    two new next f n w h = outcome h.0 (h.1 ∷ h.2 ∷ []) new next (f h.1 h.2) h.3 n (w h.1 h.2) h.4

    -- one that takes these cells and gives none
    goes-on : (below vs new : List ℤ) (a : ℕ) → old ≡ below ++ vs → length vs ≡ takes k i → at < a → new ≡ below
        → works k (at + 1) i vs (record { cells = cells; offers = [] }) nothing_left ≡ go_to a [] (record { cells = cells; offers = [] }) nothing_left → StepsTo k cells at old new (To a)
    goes-on below vs new a e l lt n w =
        goes new a lt (λ count.
        worked-is below vs e l count
        ∙ ap (after false (fragment_at cells at old count) below) w
        ∙ ap (λ (stack : List ℤ). Goes (fragment_at cells a stack (suc count))) (append-nil below ∙ sym n))

-- the offset of an element
pub element-is : (n : ℕ) (vs : List ℤ) (r : Result ℕ FaultKind) (s : Store) (l : Left) → and_then (or_fault r s l) (element_offset n vs) ≡ or_fault (and_with r (λ i. further (first vs) (i * n))) s l
element-is n vs (Ok i) s l = refl
element-is n vs (Err kind) s l = refl

cell-alone : (cells : List ℤ) (o : ℕ) (x : ℤ) → slice_get cells o ≡ Some x → take 1 (drop o cells) ≡ x ∷ []
cell-alone [] o x e = absurd (let f : None ≡ Some x = sym (slice_get_past [] o (omega arith)) ∙ e in cc)
cell-alone (y ∷ cells) zero x e = (let f : y ≡ x = cc in ap (λ (z : ℤ). z ∷ []) f)
cell-alone (y ∷ cells) (suc o) x e = cell-alone cells o x e

abbrev tested : List ℤ → ℕ → ℕ → Bool → Outcome Store Going
tested cells next o b = and_then ((if b then fetched_in 1 o cells else index_fault) (record { cells = cells; offers = [] }) nothing_left) (λ vs. go_to next vs)

-- one variable cell
fetch-is : (cells : List ℤ) (next : ℕ) (a : ℤ) → on_with_cells next (at_offset a (fetched 1)) (record { cells = cells; offers = [] }) nothing_left ≡ on_with next (or_fault (cell_at cells a)) (record { cells = cells; offers = [] }) nothing_left
fetch-is cells next (negsuc n) = refl
fetch-is cells next (pos o) = elim ((slice_get_cases cells o).1) [
  | inl h ↦ inside h.0 h.1 h.2
  | inr h ↦ outside h.0 h.1
]
  where
    inside : (x : ℤ) → o < length cells → slice_get cells o ≡ Some x → on_with_cells next (at_offset (pos o) (fetched 1)) (record { cells = cells; offers = [] }) nothing_left ≡ on_with next (or_fault (cell_at cells (pos o))) (record { cells = cells; offers = [] }) nothing_left
    inside x b e =
        ap (λ (t : Bool). tested cells next o t) (at-most-true (o + 1) (length cells) (omega (arith, b)))
        ∙ ap (λ (vs : List ℤ). go_to next vs (record { cells = cells; offers = [] }) nothing_left) (cell-alone cells o x e)
        ∙ ap (λ (c : Option ℤ). on_with next (or_fault (or_outside c)) (record { cells = cells; offers = [] }) nothing_left) (sym e)

    outside : length cells ≤ o → slice_get cells o ≡ None → on_with_cells next (at_offset (pos o) (fetched 1)) (record { cells = cells; offers = [] }) nothing_left ≡ on_with next (or_fault (cell_at cells (pos o))) (record { cells = cells; offers = [] }) nothing_left
    outside b e =
        ap (λ (t : Bool). tested cells next o t) (at-most-false (o + 1) (length cells) (omega (arith, b)))
        ∙ ap (λ (c : Option ℤ). on_with next (or_fault (or_outside c)) (record { cells = cells; offers = [] }) nothing_left) (sym e)

-- a jump at zero goes forwards, if its address is
forwards : (at to : ℕ) (z : ℤ) → at < to → at < at_zero z to (at + 1)
forwards at to (pos zero) h = h
forwards at to (pos (suc n)) h = omega arith
forwards at to (negsuc n) h = omega arith

module _ (k : RawCode) (cells : List ℤ) (at : ℕ) (old new : List ℤ) (next : Next) where
  const-steps : (v : ℤ) → slice_get k.instrs at ≡ Some (instr.Const v) → Comes (Ok v) at old new next → StepsTo k cells at old new next
  const-steps v here h = outcome k cells at (instr.Const v) here old (λ s. refl) refl old [] new next (Ok v) (sym (append-nil old)) refl refl h

  jump-steps : (to : ℕ) → slice_get k.instrs at ≡ Some (instr.Jump to) → at < to → (new ≡ old) × (next ≡ To to) → StepsTo k cells at old new next
  jump-steps to here lt h = subst (StepsTo k cells at old new) (sym h.1) (goes-on k cells at (instr.Jump to) here old (λ s. refl) refl old [] new to (sym (append-nil old)) refl lt h.0 refl)

  jump_zero-steps : (to : ℕ) → slice_get k.instrs at ≡ Some (instr.JumpZero to) → at < to → Taken (λ a. next ≡ To (at_zero a to (at + 1))) old new → StepsTo k cells at old new next
  jump_zero-steps to here lt h = subst (StepsTo k cells at old new) (sym h.2) (goes-on k cells at (instr.JumpZero to) here old (λ s. refl) refl new (h.0 ∷ []) new (at_zero h.0 to (at + 1)) h.1 refl (forwards at to h.0 lt) refl refl)

  yield-steps : slice_get k.instrs at ≡ Some instr.Yield → Taken (λ a. next ≡ Ended (Some a)) old new → StepsTo k cells at old new next
  yield-steps here h = subst (StepsTo k cells at old new) (sym h.2) (ends k cells at instr.Yield here old new (Yields h.0) (Some h.0) refl (λ count.
      ap (λ (stack : List ℤ). popped 1 stack (λ vs below. Stops (Yields (first vs)))) h.1 ∙ popped-is new (h.0 ∷ []) 1 (λ vs below. Stops (Yields (first vs))) refl))

  -- what an instruction of a fragment does is one step
  pub does-steps : (i : Instr) → slice_get k.instrs at ≡ Some i → HasRoom at (length old) i → Does cells at i old new next → StepsTo k cells at old new next
  does-steps (instr.Const v) here r h = const-steps v here h
  does-steps (instr.Field n) here r h = one k cells at (instr.Field n) here old (λ s. refl) refl new next (λ o. further o n) refl (λ a. refl) h
  does-steps (instr.Index d n) here r h = two k cells at (instr.Index d n) here old (λ s. refl) refl new next (element_at d n) refl (λ a b. ap (λ (o : Outcome Store ℤ). and_then o (λ v. go_to (at + 1) (v ∷ []))) (element-is n (a ∷ b ∷ []) (indexed d b) (record { cells = cells; offers = [] }) nothing_left)) h
  does-steps (instr.Fetch n) here r h = fetch-steps n r.0 here h
    where
      fetch-steps : (n : ℕ) → n ≡ 1 → slice_get k.instrs at ≡ Some (instr.Fetch n) → Comes1 (cell_at cells) at old new next → StepsTo k cells at old new next
      fetch-steps n e here h = one k cells at (instr.Fetch 1) (here ∙ ap (λ (m : ℕ). Some (instr.Fetch m)) e) old (λ s. refl) refl new next (cell_at cells) refl (λ a. fetch-is cells (at + 1) a) h
  does-steps (instr.Add t) here r h = two k cells at (instr.Add t) here old (λ s. refl) refl new next (operated Add t) refl (λ a b. refl) h
  does-steps (instr.Sub t) here r h = two k cells at (instr.Sub t) here old (λ s. refl) refl new next (operated Subtract t) refl (λ a b. refl) h
  does-steps (instr.Mul t) here r h = two k cells at (instr.Mul t) here old (λ s. refl) refl new next (operated Multiply t) refl (λ a b. refl) h
  does-steps (instr.Div t) here r h = two k cells at (instr.Div t) here old (λ s. refl) refl new next (operated Divide t) refl (λ a b. refl) h
  does-steps (instr.Rem t) here r h = two k cells at (instr.Rem t) here old (λ s. refl) refl new next (operated Remainder t) refl (λ a b. refl) h
  does-steps (instr.Neg t) here r h = one k cells at (instr.Neg t) here old (λ s. refl) refl new next (opposite t) refl (λ a. refl) h
  does-steps instr.Lt here r h = two k cells at instr.Lt here old (λ s. refl) refl new next (λ a b. Ok (truth (compared Less a b))) refl (λ a b. refl) h
  does-steps instr.Le here r h = two k cells at instr.Le here old (λ s. refl) refl new next (λ a b. Ok (truth (compared AtMost a b))) refl (λ a b. refl) h
  does-steps instr.Gt here r h = two k cells at instr.Gt here old (λ s. refl) refl new next (λ a b. Ok (truth (compared Greater a b))) refl (λ a b. refl) h
  does-steps instr.Ge here r h = two k cells at instr.Ge here old (λ s. refl) refl new next (λ a b. Ok (truth (compared AtLeast a b))) refl (λ a b. refl) h
  does-steps instr.Eq here r h = two k cells at instr.Eq here old (λ s. refl) refl new next (λ a b. Ok (truth (compared Equal a b))) refl (λ a b. refl) h
  does-steps instr.Ne here r h = two k cells at instr.Ne here old (λ s. refl) refl new next (λ a b. Ok (truth (compared Different a b))) refl (λ a b. refl) h
  does-steps instr.Not here r h = one k cells at instr.Not here old (λ s. refl) refl new next (λ a. Ok (logical_not a)) refl (λ a. refl) h
  does-steps (instr.Narrow t) here r h = one k cells at (instr.Narrow t) here old (λ s. refl) refl new next (converted Long t) refl (λ a. refl) h
  does-steps (instr.Jump to) here r h = jump-steps to here r h
  does-steps (instr.JumpZero to) here r h = jump_zero-steps to here r.0 h
  does-steps instr.Yield here r h = yield-steps here h
  does-steps i here r h = absurd r

-- a run of a fragment that has come to an address, with these operands
pub record Reached (k : RawCode) (cells : List ℤ) (entry at : ℕ) (stack : List ℤ) : Type 0 where
  pub ready : IsReady k cells at stack
  pub reached : (count : ℕ) × (count ≤ at) × (goes_on k (begins entry cells nothing_left) ≡ goes_on k (fragment_at cells at stack count))

module _ (k : RawCode) (verified : IsVerified k) (cells : List ℤ) (entry : ℕ) where
  none-answered : (at : ℕ) (stack : List ℤ) (count : ℕ) → NextIsAnsweredInFull k (fragment_at cells at stack count)
  none-answered at stack count i here asks vs rest f = absurd cc

  recount : (at : ℕ) (stack : List ℤ) (count : ℕ) → Stands k Fragment (fragment_at cells at stack count) → IsReady k cells at stack
  recount at stack count h = record { address = h.address; height = h.height; part = h.part }

  pub reached-next : (at a : ℕ) (old new : List ℤ) → Reached k cells entry at old → at < most_instructions → StepsTo k cells at old new (To a) → Reached k cells entry a new
  reached-next at a old new h low s =
      record {
        ready = recount a new 1 (subst (StandsAfter k Fragment) (s.1 0 (omega arith)) (step-stands k verified Fragment (fragment_at cells at old 0) h.ready (none-answered at old 0)));
        reached = (let c : ℕ = h.reached.0 in (
          suc c,
          omega (arith, h.reached.1, s.0),
          h.reached.2 ∙ goes-step k (fragment_at cells at old c) ∙ ap (and_on (goes_on k)) (s.1 c (omega (arith, h.reached.1, low))),
        ));
      }

  pub reached-end : (at : ℕ) (old new : List ℤ) (v : Option ℤ) → Reached k cells entry at old → StepsTo k cells at old new (Ended v) → v ≡ value_of (goes_on k (begins entry cells nothing_left))
  reached-end at old new v h s =
      let c : ℕ = h.reached.0 in
      sym (ap value_of (h.reached.2 ∙ goes-step k (fragment_at cells at old c) ∙ ap (and_on (goes_on k)) (s c).1) ∙ (s c).2)
