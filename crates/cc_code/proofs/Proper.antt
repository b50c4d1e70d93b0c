-- What a process does follows its grants one by one, and a process of a kind of verified code asks after proper grants.
use Rattle.std.proofs.Common.{◌≡◌, ◌≢◌, ℕ, ℤ, zero, suc, ◌+◌, ◌-◌, Bool, true, false, List, [], ◌∷◌, ◌++◌, drop, append_assoc, append-nil, length, Option, Some, None, Result, Ok, Err, refl, sym, ◌∙◌, ap, subst}
use Rattle.std.specs.Option.{option_map_or}
use Rattle.std.specs.Prelude.{slice_get, unwrap_or, nat_le, nat_lt, if◌then◌else◌}
use Rattle.std.proofs.lemmas.Option.{unwrap_or-slice_get}
use Rattle.cc_base.specs.Grants.{Answers, IsNext, IsProper, IsProperAfter, value_cells}
use Rattle.cc_base.specs.Granted.{or_fault, call_cells, timed_cells}
use Rattle.cc_base.specs.Limits.{most_calls, most_cells, most_steps, ticks_granted}
use Rattle.cc_base.specs.Numbers.{callee}
use Rattle.cc_base.specs.Outcome.{Eval, ◌>>=◌, and_then, ask}
use Rattle.cc_base.specs.declared.names.FaultKind.{FaultKind}
use Rattle.cc_base.specs.declared.names.FaultKind.TheVariants.{Cells, Depth, Index}
use Rattle.cc_base.specs.declared.names.Pid.{Pid}
use Rattle.cc_base.specs.declared.names.Shape.{Shape}
use Rattle.cc_base.specs.declared.request.Grant.{Grant}
use Rattle.cc_base.specs.declared.request.Grant.TheVariants as grant
use Rattle.cc_base.specs.declared.request.Request.{Request}
use Rattle.cc_base.specs.declared.request.Request.TheVariants as request
use Rattle.cc_code.proofs.Local.{Answered, Asking, LocalIf, Quiet, Ticking, asks, breaks, fails, left_of, passes, refuses, takes-one, works-local}
use Rattle.cc_code.proofs.Standing.{kind-stands, step-stands}
use Rattle.cc_code.proofs.Total.{goes-step}
use Rattle.cc_code.specs.Meaning.{act, begins, left_at_start, meaning, process, request_of}
use Rattle.cc_code.specs.Operands.{gives, no_shape, shape_at, takes}
use Rattle.cc_code.specs.Rules.{IsVerified}
use Rattle.cc_code.specs.Standing.{AsksValue, Ends, Kind, NextIsAnsweredInFull, Stands, StandsAfter}
use Rattle.cc_code.specs.Steps.{Frame, State, Ran, Stepped, Goes, Stops, Asks, Yields, Strays, after, and_on, called, called_if, called_with, cells_at_start, cells_below, counted, enough, goes_on, performed, popped, popped_if, renews, returned_to, run, step, stepped, with_grants, within_bound, worked, worked_on}
use Rattle.cc_code.specs.Works.{Next, Store, first, go_to, in_time, second, works}
use Rattle.cc_code.specs.declared.code.Part.{Part}
use Rattle.cc_code.specs.declared.code.RawCode.{RawCode}
use Rattle.cc_code.specs.declared.instr.Instr.{Instr}
use Rattle.cc_code.specs.declared.instr.Instr.TheVariants as instr

-- whatever grants are left, none is taken, and they change nothing
pub data Same (F : List Grant → Stepped) : Type 0 where
  stops : (r : Ran) → ((gs : List Grant) → F gs ≡ Stops r) → Same F
  goes : (t : State) → ((gs : List Grant) → F gs ≡ Goes (with_grants t gs)) → Same F

-- the same, or a request is asked, and at most its grant is looked at
pub data Looks (F : List Grant → Stepped) : Type 0 where
  same : Same F → Looks F
  looks : (q : Request) → F [] ≡ Stops (Asks q) → ((g : Grant) → Same (λ gs. F (g ∷ gs))) → Looks F

bounded-same : (F : List Grant → Stepped) → Same F → Same (λ gs. within_bound (F gs))
bounded-same F (stops r e) = stops r (λ gs. ap within_bound (e gs))
bounded-same F (goes t e) = by (nat_le t.count most_steps) refl
  where
    by : (b : Bool) → nat_le t.count most_steps ≡ b → Same (λ gs. within_bound (F gs))
    by true d = goes t (λ gs. ap within_bound (e gs) ∙ ap (λ (b : Bool). if b then Goes (with_grants t gs) else Stops (Asks (request.Fault Depth))) d)
    by false d = stops (Asks (request.Fault Depth)) (λ gs. ap within_bound (e gs) ∙ ap (λ (b : Bool). if b then Goes (with_grants t gs) else Stops (Asks (request.Fault Depth))) d)

bounded-looks : (F : List Grant → Stepped) → Looks F → Looks (λ gs. within_bound (F gs))
bounded-looks F (same h) = same (bounded-same F h)
bounded-looks F (looks q e h) = looks q (ap within_bound e) (λ g. bounded-same (λ gs. F (g ∷ gs)) (h g))

popped-looks : (n : ℕ) (stack : List ℤ) (go : List Grant → List ℤ → List ℤ → Stepped) → ((vs below : List ℤ) → Looks (λ gs. go gs vs below)) → Looks (λ gs. popped n stack (go gs))
unfolding popped
popped-looks n stack go h = by (nat_le n (length stack))
  where
    by : (b : Bool) → Looks (λ gs. popped_if b n stack (go gs))
    by true = h _ _
    by false = same (stops Strays (λ gs. refl))

module _ (k : RawCode) (s : State) where
  module _ (b : Bool) (below : List ℤ) (p : Eval Store Next) where
    abbrev next-state : ℕ → Next → Store → State
    next-state a v u = record { address = v.address; stack = below ++ v.given; store = u; left = left_of [] a; count = counted b s.count; frames = s.frames }

    quiet-same : (a : ℕ) → Quiet s.left.ticks a p s.store → Same (λ gs. after b (with_grants s gs) below (p s.store (left_of gs s.left.ticks)))
    quiet-same a (fails kind e) = stops (Asks (request.Fault kind)) (λ gs. ap (after b (with_grants s gs) below) (e gs))
    quiet-same a (passes v u e) = goes (next-state a v u) (λ gs. ap (after b (with_grants s gs) below) (e gs))

    asking-looks : (a : ℕ) → Asking s.left.ticks a p s.store → Looks (λ gs. after b (with_grants s gs) below (p s.store (left_of gs s.left.ticks)))
    asking-looks a (refuses kind e) = same (stops (Asks (request.Fault kind)) (λ gs. ap (after b (with_grants s gs) below) (e gs)))
    asking-looks a (asks q e r) = looks q (ap (after b (with_grants s []) below) e) (λ g. by g (r g))
      where
        by : (g : Grant) → Answered s.left.ticks a g p s.store → Same (λ gs. after b (with_grants s (g ∷ gs)) below (p s.store (left_of (g ∷ gs) s.left.ticks)))
        by g (breaks kind d) = stops (Asks (request.Fault kind)) (λ gs. ap (after b (with_grants s (g ∷ gs)) below) (d gs))
        by g (takes-one v u d) = goes (next-state a v u) (λ gs. ap (after b (with_grants s (g ∷ gs)) below) (d gs))

    local-looks : (c : Bool) → LocalIf c s.left.ticks p s.store → Looks (λ gs. after b (with_grants s gs) below (p s.store (left_of gs s.left.ticks)))
    local-looks true h = asking-looks ticks_granted h
    local-looks false h = same (quiet-same s.left.ticks h)

  ticking-looks : (below : List ℤ) (p : Eval Store Next) (t : ℕ) → s.left.ticks ≡ t → Ticking t p s.store → Looks (λ gs. after true (with_grants s gs) below (p s.store (left_of gs s.left.ticks)))
  ticking-looks below p zero e h = asking-looks true below p (ticks_granted - 1) (subst (λ (t : ℕ). Asking t (ticks_granted - 1) p s.store) (sym e) h)
  ticking-looks below p (suc n) e h = same (quiet-same true below p n (subst (λ (t : ℕ). Quiet t n p s.store) (sym e) h))

  worked-looks : (i : Instr) → ((vs below : List ℤ) → Looks (λ gs. worked_on k i (with_grants s gs) vs below)) → Looks (λ gs. worked k i (with_grants s gs))
  worked-looks i h = popped-looks (takes k i) s.stack (λ gs. worked_on k i (with_grants s gs)) h

  called-looks : (p : Option Part) → Looks (λ gs. called p (with_grants s gs))
  called-looks None = same (stops Strays (λ gs. refl))
  called-looks (Some p) = go (nat_le most_calls (length s.frames)) (nat_lt most_cells (length s.store.cells + cells_below s.frames + p.cells)) (nat_lt p.cells p.args)
    where
      go : (a b c : Bool) → Looks (λ gs. called_if a b c p (with_grants s gs))
      go true b c = same (stops (Asks (request.Fault Depth)) (λ gs. refl))
      go false true c = same (stops (Asks (request.Fault Cells)) (λ gs. refl))
      go false false true = same (stops (Asks (request.Fault Index)) (λ gs. refl))
      go false false false = popped-looks p.args s.stack (λ gs. called_with p (with_grants s gs))
          (λ vs below. same (goes (record { address = p.entry; stack = []; store = record { cells = cells_at_start p vs; offers = s.store.offers }; left = s.left; count = suc s.count; frames = record { back = s.address + 1; stack = below; cells = s.store.cells } ∷ s.frames }) (λ gs. refl)))

  returned-looks : (frames : List Frame) (vs : List ℤ) → Looks (λ gs. returned_to frames (with_grants s gs) vs)
  returned-looks [] vs = same (stops Strays (λ gs. refl))
  returned-looks (f ∷ frames) vs = same (goes (record { address = f.back; stack = f.stack ++ vs; store = record { cells = f.cells; offers = s.store.offers }; left = s.left; count = suc s.count; frames = frames }) (λ gs. refl))

  performed-looks : (i : Instr) → Looks (λ gs. performed k i (with_grants s gs))
  performed-looks (instr.Call f) = called-looks (slice_get k.functions f)
  performed-looks (instr.Ret n) = popped-looks n s.stack (λ gs vs below. returned_to s.frames (with_grants s gs) vs) (λ vs below. returned-looks s.frames vs)
  performed-looks instr.Yield = popped-looks 1 s.stack (λ gs vs below. Stops (Yields (first vs))) (λ vs below. same (stops (Yields (first vs)) (λ gs. refl)))
  performed-looks instr.End = same (stops (Asks request.Done) (λ gs. refl))
  performed-looks instr.Tick = worked-looks instr.Tick (λ vs below. ticking-looks below (works k (s.address + 1) instr.Tick vs) s.left.ticks refl (works-local k (s.address + 1) instr.Tick vs s.left.ticks s.store))
  performed-looks i = worked-looks i (λ vs below. local-looks (renews i) below (works k (s.address + 1) i vs) (renews i) (works-local k (s.address + 1) i vs s.left.ticks s.store))

pub step-looks : (k : RawCode) (s : State) → Looks (λ gs. step k (with_grants s gs))
step-looks k s = by (slice_get k.instrs s.address)
  where
    by : (o : Option Instr) → Looks (λ gs. stepped k o (with_grants s gs))
    by None = same (stops Strays (λ gs. refl))
    by (Some i) = bounded-looks (λ gs. performed k i (with_grants s gs)) (performed-looks k s i)

-- without a grant it stops, and a value that answers what it asks has so many cells
abbrev IsFullAnswer : RawCode → ℕ → Stepped → Type 0
IsFullAnswer k n (Goes t) = ⊥
IsFullAnswer k n (Stops (Asks q)) = (cells : List ℤ) → Answers (meaning k) q (grant.Value cells) → length cells ≡ n
IsFullAnswer k n (Stops r) = Unit {0}

shape-value : (k : RawCode) (t : ℕ) → value_cells (meaning k) t ≡ (shape_at k t).value
shape-value k t = by (slice_get k.transactions t) ∙ ap (λ (x : Shape). x.value) (unwrap_or-slice_get k.transactions t no_shape)
  where
    by : (o : Option Shape) → option_map_or (λ (x : Shape). x.value) o 0 ≡ (unwrap_or o no_shape).value
    by None = refl
    by (Some x) = refl

module _ (k : RawCode) (s : State) where
  bounded-full : (n : ℕ) (t : Stepped) → IsFullAnswer k n t → IsFullAnswer k n (within_bound t)
  bounded-full n (Goes t) h = absurd h
  bounded-full n (Stops r) h = h

  popped-full : (n m : ℕ) (stack : List ℤ) (go : List ℤ → List ℤ → Stepped) → ((vs below : List ℤ) → IsFullAnswer k n (go vs below)) → IsFullAnswer k n (popped m stack go)
  unfolding popped
  popped-full n m stack go h = by (nat_le m (length stack))
    where
      by : (b : Bool) → IsFullAnswer k n (popped_if b m stack go)
      by true = h _ _
      by false = tt

  module _ (n t : ℕ) (args below : List ℤ) (next : ℕ) (fits : value_cells (meaning k) t ≡ n) where
    call-full : (r : Result Pid FaultKind)
        → IsFullAnswer k n (after true (with_grants s []) below (and_then (and_then (or_fault r s.store (left_of [] s.left.ticks)) (λ target. ask (request.Call target t args) >>= call_cells n)) (λ ws. go_to next ws)))
    call-full (Ok target) = λ cells a. a ∙ fits
    call-full (Err kind) = λ cells a. absurd a

    timed-full : (w : ℤ) (late : ℕ) (r : Result Pid FaultKind)
        → IsFullAnswer k n (after true (with_grants s []) below (and_then (and_then (or_fault r s.store (left_of [] s.left.ticks)) (λ target. ask (request.TimedCall target t args w) >>= timed_cells n)) (in_time next late)))
    timed-full w late (Ok target) = λ cells a. a ∙ fits
    timed-full w late (Err kind) = λ cells a. absurd a

  asks-full : (i : Instr) → AsksValue i → IsFullAnswer k (gives k i) (performed k i (with_grants s []))
  asks-full (instr.Ask t) h = popped-full (shape_at k t).value (takes k (instr.Ask t)) s.stack (worked_on k (instr.Ask t) (with_grants s []))
      (λ vs below. call-full (shape_at k t).value t (drop 1 vs) below (s.address + 1) (shape-value k t) (callee (first vs)))
  asks-full (instr.AskWithin t a) h = popped-full (shape_at k t).value (takes k (instr.AskWithin t a)) s.stack (worked_on k (instr.AskWithin t a) (with_grants s []))
      (λ vs below. timed-full (shape_at k t).value t (drop 2 vs) below (s.address + 1) (shape-value k t) (first vs) a (callee (second vs)))
  asks-full i h = absurd h

  step-full : (i : Instr) → slice_get k.instrs s.address ≡ Some i → AsksValue i → IsFullAnswer k (gives k i) (step k (with_grants s []))
  step-full i e h = subst (λ (o : Option Instr). IsFullAnswer k (gives k i) (stepped k o (with_grants s []))) (sym e) (bounded-full (gives k i) (performed k i (with_grants s [])) (asks-full i h))

-- what an act is after these grants: whatever grants come then, what the state comes to with them
abbrev pub Follows : RawCode → (List Grant → Ran) → List Grant → State → Type 0
Follows k process fed s = (rest : List Grant) → process (fed ++ rest) ≡ goes_on k (with_grants s rest)

module _ (k : RawCode) (process : List Grant → Ran) (fed : List Grant) (s : State) (follows : Follows k process fed s) where
  -- an instruction that takes no grant
  pub follows-on : (t : State) → ((rest : List Grant) → step k (with_grants s rest) ≡ Goes (with_grants t rest)) → Follows k process fed t
  follows-on t h rest = follows rest ∙ goes-step k (with_grants s rest) ∙ ap (and_on (goes_on k)) (h rest)

  -- one that takes the next grant
  pub follows-grant : (g : Grant) (t : State) → ((rest : List Grant) → step k (with_grants s (g ∷ rest)) ≡ Goes (with_grants t rest)) → Follows k process (fed ++ g ∷ []) t
  follows-grant g t h rest = ap process (append_assoc fed (g ∷ []) rest) ∙ follows (g ∷ rest) ∙ goes-step k (with_grants s (g ∷ rest)) ∙ ap (and_on (goes_on k)) (h rest)

  -- one that stops for want of a grant
  pub follows-stop : (r : Ran) → step k (with_grants s []) ≡ Stops r → process fed ≡ r
  follows-stop r h = ap process (sym (append-nil fed)) ∙ follows [] ∙ goes-step k (with_grants s []) ∙ ap (and_on (goes_on k)) h

next-answers : (k : RawCode) (kind : ℕ) (args : List ℤ) (fed : List Grant) (g : Grant) → fed ≢ [] → IsNext (meaning k) kind args fed g → Answers (meaning k) (act k kind args fed) g
next-answers k kind args [] g ne h = absurd (ne refl)
next-answers k kind args (x ∷ fed) g ne h = h

push-not-nil : (fed : List Grant) (g : Grant) → fed ++ g ∷ [] ≢ []
push-not-nil [] g e = cc
push-not-nil (x ∷ fed) g e = cc

module _ (k : RawCode) (verified : IsVerified k) (kind : ℕ) (p : Part) (args : List ℤ) (there : slice_get k.kinds kind ≡ Some p) where
  act-is : (fed : List Grant) (r : Ran) → process k (Some p) args fed ≡ r → act k kind args fed ≡ request_of r
  unfolding act
  act-is fed r e = ap (λ (o : Option Part). request_of (process k o args fed)) there ∙ ap request_of e

  module _ (s : State) (fed : List Grant) (ne : fed ≢ []) (follows : Follows k (process k (Some p) args) fed s) where
    -- where the next instruction asks for a value, this is one
    full : (i : Instr) → slice_get k.instrs s.address ≡ Some i → AsksValue i → (cells : List ℤ) (rest : List Grant) → IsProperAfter (meaning k) kind args fed (grant.Value cells ∷ rest) → length cells ≡ gives k i
    full i e h cells rest proper = by (step-looks k s)
      where
        at-stop : (r : Ran) → step k (with_grants s []) ≡ Stops r → IsFullAnswer k (gives k i) (Stops r) → length cells ≡ gives k i
        at-stop r x f = asked r f (subst (λ (q : Request). Answers (meaning k) q (grant.Value cells)) (act-is fed r (follows-stop k (process k (Some p) args) fed s follows r x)) (next-answers k kind args fed (grant.Value cells) ne proper.0))
          where
            asked : (r : Ran) → IsFullAnswer k (gives k i) (Stops r) → Answers (meaning k) (request_of r) (grant.Value cells) → length cells ≡ gives k i
            asked (Asks q) f a = f cells a
            asked (Yields v) f a = absurd a
            asked Strays f a = absurd a

        by : Looks (λ gs. step k (with_grants s gs)) → length cells ≡ gives k i
        by (same (stops r x)) = at-stop r (x []) (subst (IsFullAnswer k (gives k i)) (x []) (step-full k s i e h))
        by (same (goes t x)) = absurd (subst (IsFullAnswer k (gives k i)) (x []) (step-full k s i e h))
        by (looks q x r) = at-stop (Asks q) x (subst (IsFullAnswer k (gives k i)) x (step-full k s i e h))

    next-full : IsProperAfter (meaning k) kind args fed s.left.grants → NextIsAnsweredInFull k s
    next-full proper i e h cells rest d = full i e h cells rest (subst (IsProperAfter (meaning k) kind args fed) d proper)

  -- one instruction of a process whose grants are proper, and at most n more
  ends-on : (n : ℕ) (s : State) (fed : List Grant) → Stands k Kind s → fed ≢ [] → Follows k (process k (Some p) args) fed s → IsProperAfter (meaning k) kind args fed s.left.grants
      → ((u : State) (more : List Grant) → Stands k Kind u → more ≢ [] → Follows k (process k (Some p) args) more u → IsProperAfter (meaning k) kind args more u.left.grants → Ends Kind (run k n u))
      → Ends Kind (and_on (run k n) (step k s))
  ends-on n s fed stands ne follows proper go = by (step-looks k s)
    where
      after-stands : StandsAfter k Kind (step k s)
      after-stands = step-stands k verified Kind s stands (next-full s fed ne follows proper)

      stopped : (r : Ran) → step k s ≡ Stops r → Ends Kind (and_on (run k n) (step k s))
      stopped r e = subst (λ (t : Stepped). Ends Kind (and_on (run k n) t)) (sym e) (subst (StandsAfter k Kind) e after-stands)

      went : (u : State) (more : List Grant) → step k s ≡ Goes u → more ≢ [] → Follows k (process k (Some p) args) more u → IsProperAfter (meaning k) kind args more u.left.grants → Ends Kind (and_on (run k n) (step k s))
      went u more e nm f d = subst (λ (t : Stepped). Ends Kind (and_on (run k n) t)) (sym e) (go u more (subst (StandsAfter k Kind) e after-stands) nm f d)

      granted : (gs : List Grant) → s.left.grants ≡ gs → (q : Request) → step k (with_grants s []) ≡ Stops (Asks q) → ((g : Grant) → Same (λ gs. step k (with_grants s (g ∷ gs)))) → Ends Kind (and_on (run k n) (step k s))
      granted [] d q e r = stopped (Asks q) (ap (λ (gs : List Grant). step k (with_grants s gs)) d ∙ e)
      granted (g ∷ gs) d q e r = taken (r g)
        where
          taken : Same (λ gs. step k (with_grants s (g ∷ gs))) → Ends Kind (and_on (run k n) (step k s))
          taken (stops x y) = stopped x (ap (λ (gs : List Grant). step k (with_grants s gs)) d ∙ y gs)
          taken (goes t y) = went (with_grants t gs) (fed ++ g ∷ []) (ap (λ (gs : List Grant). step k (with_grants s gs)) d ∙ y gs) (push-not-nil fed g) (follows-grant k (process k (Some p) args) fed s follows g t y) (subst (IsProperAfter (meaning k) kind args fed) d proper).1

      by : Looks (λ gs. step k (with_grants s gs)) → Ends Kind (and_on (run k n) (step k s))
      by (same (stops r e)) = stopped r (e s.left.grants)
      by (same (goes t e)) = went (with_grants t s.left.grants) fed (e s.left.grants) ne (follows-on k (process k (Some p) args) fed s follows t e) proper
      by (looks q e r) = granted s.left.grants refl q e r

  ends-so : (n : ℕ) (s : State) (fed : List Grant) → Stands k Kind s → fed ≢ [] → Follows k (process k (Some p) args) fed s → IsProperAfter (meaning k) kind args fed s.left.grants → Ends Kind (run k n s)
  unfolding run
  ends-so zero s fed stands ne follows proper = tt
  ends-so (suc n) s fed stands ne follows proper = ends-on n s fed stands ne follows proper (λ u more h m f d. ends-so n u more h m f d)

  -- as it begins, where it has room
  begun-follows : (g : Grant) (rest : List Grant) → nat_lt most_cells p.cells ≡ false → nat_lt p.cells p.args ≡ false
      → process k (Some p) args (g ∷ rest) ≡ goes_on k (begins p.entry (cells_at_start p args) (left_at_start (g ∷ rest)))
  begun-follows g rest e d =
      ap (λ (b : Bool). if b then Asks (request.Fault Cells) else (if nat_lt p.cells p.args then Asks (request.Fault Index) else goes_on k (begins p.entry (cells_at_start p args) (left_at_start (g ∷ rest))))) e
      ∙ ap (λ (b : Bool). if b then Asks (request.Fault Index) else goes_on k (begins p.entry (cells_at_start p args) (left_at_start (g ∷ rest)))) d

  -- a process of a kind of verified code
  pub process-ends : (grants : List Grant) → IsProper (meaning k) kind args grants → Ends Kind (process k (Some p) args grants)
  unfolding goes_on
  process-ends [] proper = absurd (proper.0 refl)
  process-ends (g ∷ gs) proper = sized (nat_lt most_cells p.cells) refl
    where
      begun : State
      begun = begins p.entry (cells_at_start p args) (left_at_start (g ∷ gs))

      held : (c : Bool) → nat_lt p.cells p.args ≡ c → nat_lt most_cells p.cells ≡ false → Ends Kind (if c then Asks (request.Fault Index) else goes_on k begun)
      held true d e = tt
      held false d e = ends-so (enough begun) begun (g ∷ []) (kind-stands k verified kind p (cells_at_start p args) (left_at_start (g ∷ gs)) there) (λ e. cc) (λ rest. begun-follows g rest e d) proper.1.1

      sized : (b : Bool) → nat_lt most_cells p.cells ≡ b → Ends Kind (if b then Asks (request.Fault Cells) else (if nat_lt p.cells p.args then Asks (request.Fault Index) else goes_on k begun))
      sized true e = tt
      sized false e = held (nat_lt p.cells p.args) refl e
