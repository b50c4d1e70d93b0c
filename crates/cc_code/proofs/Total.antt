-- What each instruction spends, and that what comes of code is what comes of its next step.
use Rattle.std.proofs.Common.{◌≡◌, ℕ, ℤ, zero, suc, ◌+◌, ◌-◌, ◌*◌, ◌<◌, ◌≤◌, ◌⊎◌, inl, inr, Bool, true, false, List, [], ◌∷◌, length, Option, Some, None, refl, sym, ap, subst, arith}
use Rattle.std.specs.Prelude.{slice_get, nat_le, nat_lt, if◌then◌else◌}
use Rattle.std.proofs.lemmas.Bool.Decides.{nat_tests}
use Rattle.cc_base.specs.Limits.{most_calls, most_cells, most_steps, ticks_granted}
use Rattle.cc_base.specs.Outcome.{Left, Outcome, Through, Asked}
use Rattle.cc_base.specs.declared.names.FaultKind.TheVariants.{Depth}
use Rattle.cc_base.specs.declared.request.Request.TheVariants.{Fault}
use Rattle.cc_code.proofs.Local.{Leaving, works-leave}
use Rattle.cc_code.specs.Operands.{takes}
use Rattle.cc_code.specs.Standing.{CountsIf, Leaves, LeavesIf, Spends, TakesGrant, TakesTick}
use Rattle.cc_code.specs.Steps.{Frame, State, Asks, Yields, Stepped, Goes, Stops, after, and_on, called, called_if, called_with, cells_below, counted, enough, goes_on, performed, popped, popped_if, renews, returned_to, run, step, stepped, weight, within_bound, worked, worked_on}
use Rattle.cc_code.specs.Works.{Store, Next, first, works}
use Rattle.cc_code.specs.declared.code.Part.{Part}
use Rattle.cc_code.specs.declared.code.RawCode.{RawCode}
use Rattle.cc_code.specs.declared.instr.Instr.{Instr}
use Rattle.cc_code.specs.declared.instr.Instr.TheVariants as instr

at-most : (a b : ℕ) → nat_le a b ≡ true → a ≤ b
at-most a b e = grind (arith, nat_tests)

-- what it leaves and counts, whatever the bound
abbrev Costs : Instr → State → Stepped → Type 0
Costs i s (Goes t) = Leaves i s.left t.left × (t.count ≡ counted (renews i) s.count)
Costs i s (Stops r) = Unit {0}

popped-costs : (i : Instr) (s : State) (n : ℕ) (stack : List ℤ) (go : List ℤ → List ℤ → Stepped) → ((vs below : List ℤ) → Costs i s (go vs below)) → Costs i s (popped n stack go)
unfolding popped
popped-costs i s n stack go h = by (nat_le n (length stack))
  where
    by : (b : Bool) → Costs i s (popped_if b n stack go)
    by true = h _ _
    by false = tt

module _ (k : RawCode) (s : State) where
  after-costs : (i : Instr) (below : List ℤ) (o : Outcome Store Next) → Leaving (Leaves i s.left) o → Costs i s (after (renews i) s below o)
  after-costs i below (Through next store left) h = (h, refl)
  after-costs i below (Asked q) h = tt

  worked-costs : (i : Instr) → Costs i s (worked k i s)
  worked-costs i = popped-costs i s (takes k i) s.stack (worked_on k i s) (λ vs below. after-costs i below (works k (s.address + 1) i vs s.store s.left) (works-leave k (s.address + 1) i vs s.store s.left))

  called-costs : (f : ℕ) (p : Option Part) → Costs (instr.Call f) s (called p s)
  called-costs f None = tt
  called-costs f (Some p) = go (nat_le most_calls (length s.frames)) (nat_lt most_cells (length s.store.cells + cells_below s.frames + p.cells)) (nat_lt p.cells p.args)
    where
      go : (a b c : Bool) → Costs (instr.Call f) s (called_if a b c p s)
      go true b c = tt
      go false true c = tt
      go false false true = tt
      go false false false = popped-costs (instr.Call f) s p.args s.stack (called_with p s) (λ vs below. (refl, refl))

  returned-costs : (n : ℕ) (frames : List Frame) (vs : List ℤ) → Costs (instr.Ret n) s (returned_to frames s vs)
  returned-costs n [] vs = tt
  returned-costs n (f ∷ frames) vs = (refl, refl)

  performed-costs : (i : Instr) → Costs i s (performed k i s)
  performed-costs (instr.Call f) = called-costs f (slice_get k.functions f)
  performed-costs (instr.Ret n) = popped-costs (instr.Ret n) s n s.stack (λ vs below. returned_to s.frames s vs) (λ vs below. returned-costs n s.frames vs)
  performed-costs instr.Yield = popped-costs instr.Yield s 1 s.stack (λ vs below. Stops (Yields (first vs))) (λ vs below. tt)
  performed-costs instr.End = tt
  performed-costs i = worked-costs i

counts : (b : Bool) (n m : ℕ) → m ≡ counted b n → CountsIf b n m
counts true n m e = e
counts false n m e = (let c : m ≡ suc n = e in omega (arith, c))

bound-spends : (i : Instr) (s : State) (t : Stepped) → Costs i s t → Spends i s (within_bound t)
bound-spends i s (Goes t) h = by (nat_le t.count most_steps) refl
  where
    by : (b : Bool) → nat_le t.count most_steps ≡ b → Spends i s (if b then Goes t else Stops (Asks (Fault Depth)))
    by true e = (h.0, counts (renews i) s.count t.count h.1, at-most t.count most_steps e)
    by false e = tt
bound-spends i s (Stops r) h = tt

pub step-spends : (k : RawCode) (s : State) (i : Instr) → slice_get k.instrs s.address ≡ Some i → Spends i s (step k s)
step-spends k s i e = subst (λ (o : Option Instr). Spends i s (stepped k o s)) (sym e) (bound-spends i s (performed k i s) (performed-costs k s i))

-- a grant counts for more than the ticks that it gives
grant-weighs : (t : ℕ) (l m : Left) → t ≤ ticks_granted → TakesGrant t l m → weight m < weight l
grant-weighs t l m b h = (let e : length l.grants ≡ suc (length m.grants) = ap length h.1 in omega (arith, e, h.2, b))

tick-weighs : (l m : Left) → TakesTick l m → weight m < weight l
tick-weighs l m h = elim h [
  | inl e ↦ (let d : length m.grants ≡ length l.grants = ap length e.0 in omega (arith, d, e.1))
  | inr e ↦ grant-weighs (ticks_granted - 1) l m (omega arith) e.1
]

-- one more instruction with all as it was, or less is left
abbrev pub Lighter : State → State → Type 0
Lighter s t = ((t.count ≡ s.count + 1) × (t.left ≡ s.left)) ⊎ ((t.count ≡ 0) × (weight t.left < weight s.left))

lighter-if : (b : Bool) (s t : State) → LeavesIf b s.left t.left → CountsIf b s.count t.count → Lighter s t
lighter-if true s t h c = inr (c, grant-weighs ticks_granted s.left t.left (omega arith) h)
lighter-if false s t h c = inl (c, h)

pub spends-lighter : (i : Instr) (s t : State) → Spends i s (Goes t) → Lighter s t
spends-lighter instr.Tick s t h = inr (h.1, tick-weighs s.left t.left h.0)
spends-lighter i s t h = lighter-if (renews i) s t h.0 h.1

-- fewer instructions can follow
abbrev pub Down : State → Stepped → Type 0
Down s (Goes s') = enough s' < enough s
Down s (Stops r) = Unit {0}

lighter-down : (s t : State) → t.count ≤ most_steps → Lighter s t → enough t < enough s
lighter-down s t b h = elim h [
  | inl e ↦ (let w : weight t.left ≡ weight s.left = ap weight e.1 in omega (arith, b, w, e.0))
  | inr e ↦ omega (arith, b, e.0, e.1)
]

spends-down : (i : Instr) (s : State) (t : Stepped) → Spends i s t → Down s t
spends-down i s (Goes t) h = lighter-down s t h.2 (spends-lighter i s t h)
spends-down i s (Stops r) h = tt

pub step-down : (k : RawCode) (s : State) → Down s (step k s)
step-down k s = go (slice_get k.instrs s.address) refl
  where
    go : (q : Option Instr) → slice_get k.instrs s.address ≡ q → Down s (stepped k q s)
    go None e = tt
    go (Some i) e = subst (λ (o : Option Instr). Down s (stepped k o s)) e (spends-down i s (step k s) (step-spends k s i e))

run-enough : (k : RawCode) (m n : ℕ) (s : State) → enough s ≤ m → enough s ≤ n → run k m s ≡ run k n s
unfolding run
run-enough k zero n s le lf = absurd (omega (arith, le))
run-enough k (suc m) zero s le lf = absurd (omega (arith, lf))
run-enough k (suc m) (suc n) s le lf = same (step k s) (step-down k s) (λ s' d. run-enough k m n s' (omega (arith, d, le)) (omega (arith, d, lf)))
  where
    same : (st : Stepped) → Down s st → ((s' : State) → enough s' < enough s → run k m s' ≡ run k n s') → and_on (run k m) st ≡ and_on (run k n) st
    same (Goes s') d go = go s' d
    same (Stops r) d go = refl

-- one step, and then the rest
pub goes-step : (k : RawCode) (s : State) → goes_on k s ≡ and_on (goes_on k) (step k s)
unfolding goes_on run
goes-step k s = same (step k s) (step-down k s)
  where
    w : ℕ
    w = (most_steps - s.count) + (most_steps + 1) * weight s.left

    same : (st : Stepped) → Down s st → and_on (run k w) st ≡ and_on (goes_on k) st
    same (Goes s') d = run-enough k w (enough s') s' (omega (arith, d)) (omega arith)
    same (Stops r) d = refl
