-- How a process goes on after a grant, up to what it asks next.
use Rattle.std.proofs.Common.{◌≡◌, ℕ, ℤ, pos, zero, suc, ◌+◌, ◌-◌, ◌<◌, ◌≤◌, inl, inr, Bool, true, false, List, [], ◌∷◌, ◌++◌, append-nil, drop, length, take, Option, Some, None, Result, Ok, Err, refl, sym, ◌∙◌, ap, subst, arith, slice_get}
use Rattle.std.specs.Prelude.{nat_le, if◌then◌else◌}
use Rattle.std.specs.Option.{option_map_or}
use Rattle.std.specs.Prelude.{unwrap_or}
use Rattle.std.proofs.lemmas.Option.{unwrap_or-slice_get}
use Rattle.cc_base.specs.Granted.{alternative_taken, args_taken, select}
use Rattle.cc_base.specs.Grants.{Answers, value_cells}
use Rattle.cc_base.specs.Limits.{most_instructions, ticks_granted}
use Rattle.cc_base.specs.Numbers.{callee}
use Rattle.cc_base.specs.Outcome.{Asked, Left, Outcome, Through, and_then}
use Rattle.cc_base.specs.declared.alternatives.Alt.{Alt}
use Rattle.cc_base.specs.declared.names.FaultKind.{FaultKind}
use Rattle.cc_base.specs.declared.names.FaultKind.TheVariants.{Index}
use Rattle.cc_base.specs.declared.names.Pid.{Pid}
use Rattle.cc_base.specs.declared.request.Grant.{Grant}
use Rattle.cc_base.specs.declared.request.Grant.TheVariants as grant
use Rattle.cc_base.specs.declared.request.Request.{Request}
use Rattle.cc_base.specs.declared.request.Request.TheVariants as request
use Rattle.cc_code.proofs.Proper.{follows-grant, follows-stop}
use Rattle.cc_code.proofs.Standing.{step-stands}
use Rattle.cc_code.proofs.Total.{goes-step}
use Rattle.cc_code.specs.Meaning.{meaning}
use Rattle.cc_base.specs.declared.names.Shape.{Shape}
use Rattle.cc_code.specs.Operands.{gives, kind_at, no_shape, shape_at, takes}
use Rattle.cc_code.specs.Rules.{IsVerified}
use Rattle.cc_code.specs.Standing.{AsksValue, IsFault, Kind, NextIsAnsweredInFull, Stands, StandsAfter}
use Rattle.cc_code.specs.Steps.{Asks, Goes, Ran, State, Stepped, Stops, Strays, Yields, after, and_on, goes_on, popped, popped_if, step, stepped, with_grants, within_bound}
use Rattle.cc_code.specs.Works.{Next, Store, entry_of, first, go_to, index_fault, is_within, set_cells, stored_at, table_at, taken_at, taken_by, taken_in, with_cells, works}
use Rattle.cc_code.specs.declared.code.RawCode.{RawCode}
use Rattle.cc_code.specs.declared.code.Site.{Site}
use Rattle.cc_code.specs.declared.code.TableEntry.{TableEntry}
use Rattle.cc_code.specs.declared.instr.Instr.{Instr}
use Rattle.cc_code.specs.declared.instr.Instr.TheVariants as instr
use Rattle.cc_vm.proofs.Acts.{Fits, Keeps, top-none}
use Rattle.cc_vm.proofs.Asking.{asked, asks-by}
use Rattle.cc_vm.proofs.Between.{below-put, length-between, length-with, variables-put}
use Rattle.cc_vm.proofs.Copies.{located-within}
use Rattle.cc_vm.proofs.Granting.{worked-with}
use Rattle.cc_vm.proofs.Pausing.{tick-stops, ticked-follows, ticked-ready}
use Rattle.cc_vm.proofs.Resuming.{resumes}
use Rattle.cc_vm.proofs.Running.{fits, found-within, lies-still}
use Rattle.cc_vm.specs.Asking.{Requested, addressed}
use Rattle.cc_vm.specs.Going.{Advances, Answered, Awaits, Comes, GoesOn, IsAfter, IsAsking, Pends, Resumed, TicksAgain, selecting}
use Rattle.cc_vm.specs.Granting.{Granted, IsFull, MayAnswer, Resumes, granted}
use Rattle.cc_vm.specs.Lists.{IsReady, kept_state, ticked_again}
use Rattle.cc_vm.specs.Machine.{between, callers, cell_of, located, located_if, state_of}
use Rattle.cc_vm.specs.Offering.{AllAsk, AllFollow, IsOffer}
use Rattle.cc_vm.specs.Running.{Follows, IsLeft, IsRoom, Ready, work}
use Rattle.cc_vm.specs.Selecting.{Selected, StoresArgs, StoresAt, StoresInto, Turns, TurnsBy}
use Rattle.cc_vm.specs.declared.lists.Lists.{Lists}
use Rattle.cc_vm.specs.declared.registers.Frame.{Frame}
use Rattle.cc_vm.specs.declared.registers.Registers.{Registers}

-- it pauses or selects
abbrev pub IsHeld : Instr → Type 0
IsHeld instr.Tick = Unit {0}
IsHeld (instr.SelWait j) = Unit {0}
IsHeld i = ⊥

pub some-of : (i j : Instr) → Some i ≡ Some j → i ≡ j
some-of i j e = cc

-- where an instruction stands that the loop leaves
module _ (k : RawCode) (verified : IsVerified k) (room : ℕ) (l : Lists) (ready : IsReady k room l) where
  abbrev s : State
  s = kept_state l []

  none-answered : NextIsAnsweredInFull k s
  none-answered i there asks vs rest f = absurd (let e : [] ≡ _ ∷ rest = f in cc)

  no-yield : slice_get k.instrs l.registers.at ≡ Some instr.Yield → ⊥
  unfolding popped
  no-yield here = by (nat_le 1 (length s.stack)) (subst (λ (o : Option Instr). StandsAfter k Kind (stepped k o s)) here (step-stands k verified Kind s ready.stands none-answered))
    where
      by : (b : Bool) → StandsAfter k Kind (within_bound (popped_if b 1 s.stack (λ vs below. Stops (Yields (first vs))))) → ⊥
      by true h = h
      by false h = h

  pub asking-left : (i : Instr) → slice_get k.instrs l.registers.at ≡ Some i → (t : ℕ) → IsLeft i t → (IsOffer i → ⊥) → (IsHeld i → ⊥) → IsAsking i
  asking-left (instr.Create kind) here t left stays goes = tt
  asking-left (instr.Ask c) here t left stays goes = tt
  asking-left (instr.AskWithin c a) here t left stays goes = tt
  asking-left (instr.Send c) here t left stays goes = tt
  asking-left instr.Wait here t left stays goes = tt
  asking-left (instr.Reply n) here t left stays goes = tt
  asking-left instr.PutByte here t left stays goes = tt
  asking-left instr.GetByte here t left stays goes = tt
  asking-left (instr.Format f) here t left stays goes = tt
  asking-left instr.End here t left stays goes = tt
  asking-left instr.Tick here t left stays goes = absurd (goes tt)
  asking-left (instr.SelWait j) here t left stays goes = absurd (goes tt)
  asking-left instr.SelBegin here t left stays goes = absurd (stays tt)
  asking-left (instr.OfferAccept i n) here t left stays goes = absurd (stays tt)
  asking-left (instr.OfferAfter i) here t left stays goes = absurd (stays tt)
  asking-left (instr.OfferNow i) here t left stays goes = absurd (stays tt)
  asking-left (instr.OfferEnd i) here t left stays goes = absurd (stays tt)
  asking-left instr.Yield here t left stays goes = absurd (no-yield here)
  asking-left i here t left stays goes = absurd left

pub asking-awaits : (k : RawCode) (l : Lists) (alts : List (ℕ × Alt)) (i : Instr) (q : Request) → IsAsking i → Requested k i l.stack.items l.registers.top (Some q) → Awaits k l alts alts i q
asking-awaits k l alts instr.Tick q h r = absurd h
asking-awaits k l alts (instr.SelWait j) q h r = absurd h
asking-awaits k l alts i q h r = (r, refl)

pub none-asked : (k : RawCode) (i : Instr) (S : List ℤ) (top : ℕ) → IsAsking i → Requested k i S top None → ⊥
none-asked k (instr.Create kind) S top h r = none-some r
  where
    none-some : {q : Request} → None ≡ Some q → ⊥
    none-some e = cc
none-asked k (instr.Ask c) S top h r = (let e : None ≡ Some _ = r in cc)
none-asked k (instr.AskWithin c a) S top h r = (let e : None ≡ Some _ = r in cc)
none-asked k (instr.Send c) S top h r = (let e : None ≡ Some _ = r in cc)
none-asked k instr.Wait S top h r = (let e : None ≡ Some _ = r in cc)
none-asked k (instr.Reply n) S top h r = (let e : None ≡ Some _ = r in cc)
none-asked k instr.PutByte S top h r = (let e : None ≡ Some _ = r in cc)
none-asked k instr.GetByte S top h r = (let e : None ≡ Some _ = r in cc)
none-asked k (instr.Format f) S top h r = (let e : None ≡ Some _ = r in cc)
none-asked k instr.End S top h r = (let e : None ≡ Some _ = r in cc)
none-asked k i S top h r = h

-- what is asked by a process that stands before an instruction
module _ (k : RawCode) (verified : IsVerified k) (room : ℕ) (enough : IsRoom k room) (l : Lists) (alts offers : List (ℕ × Alt)) where
  select-stops : (j : ℕ) → IsReady k room l → slice_get k.instrs l.registers.at ≡ Some (instr.SelWait j) → step k (with_grants (kept_state l offers) []) ≡ Stops (Asks (selecting offers))
  select-stops j ready here =
      let f : Fits k (instr.SelWait j) l.stack.items l.cells.items l.registers = fits k verified room enough l.stack.items l.cells.items l.frames.items l.registers ready (instr.SelWait j) here in
      asked k (instr.SelWait j) l.frames.items l.stack.items l.cells.items l.registers here (λ t. refl) offers l.registers.top [] (selecting offers) f.low (omega arith) f.top (top-none l.stack.items l.registers.top f.top) refl
      (by offers)
    where
      by : (xs : List (ℕ × Alt))
          → works k (l.registers.at + 1) (instr.SelWait j) [] (record { cells = between l.registers.first l.registers.end l.cells.items; offers = xs }) (record { grants = []; ticks = l.registers.ticks }) ≡ Asked (selecting xs)
      by [] = refl
      by (x ∷ xs) = refl

  asks-so : (i : Instr) → IsReady k room l → slice_get k.instrs l.registers.at ≡ Some i → (q : Request) → Awaits k l alts offers i q → step k (with_grants (kept_state l offers) []) ≡ Stops (Asks q)
  asks-so instr.Tick ready here q h = tick-stops k l offers here h.0 ∙ ap (λ (x : Request). Stops (Asks x)) (sym h.1)
  asks-so (instr.SelWait j) ready here q h = select-stops j ready here ∙ ap (λ (x : Request). Stops (Asks x)) (sym h.0)
  asks-so i ready here q h =
      (asks-by k l.frames.items l.stack.items l.cells.items l.registers offers i here (fits k verified room enough l.stack.items l.cells.items l.frames.items l.registers ready i here) q h.0)

  pub pends-asks : (i : Instr) (q : Request) → Pends k room l alts offers i q → AllAsk k l offers (Asks q)
  pends-asks i q pends process fed follows = follows-stop k process fed (kept_state l offers) follows (Asks q) (asks-so i pends.ready pends.here q pends.awaits)

  -- all that stand there ask so
  pub pends-comes : (i : Instr) (q : Request) → Pends k room l alts offers i q → (So : (List Grant → Ran) → List Grant → Type 0)
      → ((process : List Grant → Ran) (fed : List Grant) → So process fed → Follows k process fed (kept_state l offers)) → Comes k room So l alts q
  pends-comes i q pends So h = (λ process fed so. pends-asks i q pends process fed (h process fed so), inr (offers, i, pends, h))

-- a fault, of whatever is so
pub fault-comes : (k : RawCode) (room : ℕ) (So : (List Grant → Ran) → List Grant → Type 0) (l : Lists) (alts : List (ℕ × Alt)) (kind : FaultKind)
    → ((process : List Grant → Ran) (fed : List Grant) → So process fed → process fed ≡ Asks (request.Fault kind)) → Comes k room So l alts (request.Fault kind)
fault-comes k room So l alts kind h = (h, inl tt)

pub comes-from : (k : RawCode) (room : ℕ) (So To : (List Grant → Ran) → List Grant → Type 0) (l : Lists) (alts : List (ℕ × Alt)) (q : Request)
    → ((process : List Grant → Ran) (fed : List Grant) → So process fed → To process fed) → Comes k room To l alts q → Comes k room So l alts q
comes-from k room So To l alts q f h = (
  λ process fed so. h.0 process fed (f process fed so),
  elim h.1 [
    | inl e ↦ inl e
    | inr e ↦ inr (e.0, e.1, e.2, λ process fed so. e.3 process fed (f process fed so))
  ],
)

-- what may answer an instruction that asks by its operands
shape-value : (k : RawCode) (t : ℕ) → value_cells (meaning k) t ≡ (shape_at k t).value
shape-value k t = by (slice_get k.transactions t) ∙ ap (λ (x : Shape). x.value) (unwrap_or-slice_get k.transactions t no_shape)
  where
    by : (o : Option Shape) → option_map_or (λ (x : Shape). x.value) o 0 ≡ (unwrap_or o no_shape).value
    by None = refl
    by (Some x) = refl

module _ (k : RawCode) (a : Lists) where
  abbrev S : List ℤ
  S = a.stack.items

  abbrev top : ℕ
  top = a.registers.top

  abbrev number-of : ℕ → ℤ
  number-of t = cell_of S (top - (shape_at k t).args - 1)

  abbrev args-of : ℕ → List ℤ
  args-of t = between (top - (shape_at k t).args) top S

  abbrev wait-of : ℕ → ℤ
  wait-of t = cell_of S (top - (shape_at k t).args - 2)

  abbrev May : Instr → Grant → Type 0
  May i g = MayAnswer k a i g × IsFull k i g

  ask-may : (t : ℕ) (u : Result Pid FaultKind) → callee (number-of t) ≡ u → (g : Grant) → Answers (meaning k) (addressed u (λ target. request.Call target t (args-of t))) g → May (instr.Ask t) g
  ask-may t (Ok target) e (grant.Value cells) h = ((target, e), h ∙ shape-value k t)
  ask-may t (Ok target) e grant.Gone h = ((target, e), tt)
  ask-may t (Ok target) e g h = absurd h
  ask-may t (Err kind) e g h = absurd h

  timed-may : (t late : ℕ) (u : Result Pid FaultKind) → callee (number-of t) ≡ u → (g : Grant) → Answers (meaning k) (addressed u (λ target. request.TimedCall target t (args-of t) (wait-of t))) g → May (instr.AskWithin t late) g
  timed-may t late (Ok target) e (grant.Value cells) h = ((target, e), h ∙ shape-value k t)
  timed-may t late (Ok target) e grant.Gone h = ((target, e), tt)
  timed-may t late (Ok target) e grant.Late h = ((target, e), tt)
  timed-may t late (Ok target) e g h = absurd h
  timed-may t late (Err kind) e g h = absurd h

  send-may : (t : ℕ) (u : Result Pid FaultKind) → callee (number-of t) ≡ u → (g : Grant) → Answers (meaning k) (addressed u (λ target. request.Send target t (args-of t))) g → May (instr.Send t) g
  send-may t (Ok target) e g h = ((target, e), tt)
  send-may t (Err kind) e g h = absurd h

  same-answer : (q p : Request) (g : Grant) → Some q ≡ Some p → Answers (meaning k) q g → Answers (meaning k) p g
  same-answer q p g e h = subst (λ (x : Request). Answers (meaning k) x g) (let f : q ≡ p = cc in f) h

  pub may-answer : (i : Instr) (q : Request) (g : Grant) → Requested k i S top (Some q) → Answers (meaning k) q g → May i g
  may-answer (instr.Create kind) q g h w = (tt, tt)
  may-answer (instr.Ask t) q g h w = ask-may t (callee (number-of t)) refl g (same-answer q (addressed (callee (number-of t)) (λ target. request.Call target t (args-of t))) g h w)
  may-answer (instr.AskWithin t late) q g h w =
      timed-may t late (callee (number-of t)) refl g (same-answer q (addressed (callee (number-of t)) (λ target. request.TimedCall target t (args-of t) (wait-of t))) g h w)
  may-answer (instr.Send t) q g h w = send-may t (callee (number-of t)) refl g (same-answer q (addressed (callee (number-of t)) (λ target. request.Send target t (args-of t))) g h w)
  may-answer instr.Wait q g h w = (tt, tt)
  may-answer (instr.Reply n) q g h w = (tt, tt)
  may-answer instr.PutByte q g h w = (tt, tt)
  may-answer instr.GetByte q g h w = (tt, tt)
  may-answer (instr.Format f) q g h w = (tt, tt)
  may-answer instr.End q g h w = absurd (same-answer q request.Done g h w)
  may-answer i q g h w = absurd (let e : Some q ≡ None = h in cc)

  -- the value that answers a call has its cells
  pub full-answer : (alts offers : List (ℕ × Alt)) (i : Instr) (q : Request) (g : Grant) → Awaits k a alts offers i q → Answers (meaning k) q g → IsFull k i g
  full-answer alts offers instr.Tick q g h w = tt
  full-answer alts offers (instr.SelWait j) q g h w = tt
  full-answer alts offers i q g h w = (may-answer i q g h.0 w).1

module _ (k : RawCode) (verified : IsVerified k) (room : ℕ) (enough : IsRoom k room) (a : Lists) (ready : IsReady k room a) (b : Lists) (alts offers : List (ℕ × Alt)) (g : Grant) where
  abbrev r : Registers
  r = a.registers

  -- a process after the grant
  after-so : ((process : List Grant → Ran) (before : List Grant) → Follows k process before (kept_state a offers) → Follows k process (before ++ g ∷ []) (kept_state b alts))
      → (process : List Grant → Ran) (fed : List Grant) → IsAfter k a offers g process fed → Follows k process fed (kept_state b alts)
  after-so h process fed so = subst (λ (gs : List Grant). Follows k process gs (kept_state b alts)) (sym so.1) (h process so.0 so.2)

  same-offers : alts ≡ offers → Resumed k room a offers g b offers None → Resumed k room a offers g b alts None
  same-offers e h = subst (λ (xs : List (ℕ × Alt)). Resumed k room a offers g b xs None) (sym e) h

  -- an instruction that asks by its operands
  asking-resumed : (o : Option FaultKind) → Resumes k room g a b o → alts ≡ offers → Resumed k room a offers g b alts o
  asking-resumed None h e = (
    h.0,
    after-so (λ process before follows. subst (λ (xs : List (ℕ × Alt)). Follows k process (before ++ g ∷ []) (kept_state b xs)) (sym e) (h.1 process before offers follows)),
  )
  asking-resumed (Some kind) h e = λ process fed so. ap process so.1 ∙ h process so.0 offers so.2

  -- a pause
  tick-resumed : slice_get k.instrs r.at ≡ Some instr.Tick → r.ticks ≡ 0 → TicksAgain a b → alts ≡ offers → Resumed k room a offers g b alts None
  tick-resumed here none to e = (
    same (λ X Y Z q. Ready k room X Y Z q) (ticked-ready k verified room a.stack.items a.cells.items a.frames.items r ready here none),
    after-so (λ process before follows.
        subst (λ (xs : List (ℕ × Alt)). Follows k process (before ++ g ∷ []) (kept_state b xs)) (sym e)
        (same (λ X Y Z q. Follows k process (before ++ g ∷ []) (state_of q X Y Z offers)) (ticked-follows k verified room a.stack.items a.cells.items a.frames.items r ready here none process before offers g follows))),
  )
    where
      same : (P : List ℤ → List ℤ → List Frame → Registers → Type 0) → P a.stack.items a.cells.items a.frames.items (ticked_again r) → P b.stack.items b.cells.items b.frames.items b.registers
      same P h =
          subst (λ (X : List ℤ). P X b.cells.items b.frames.items b.registers) (sym to.stack)
          (subst (λ (X : List ℤ). P a.stack.items X b.frames.items b.registers) (sym to.cells)
          (subst (λ (X : List Frame). P a.stack.items a.cells.items X b.registers) (sym to.frames)
          (subst (λ (X : Registers). P a.stack.items a.cells.items a.frames.items X) (sym to.registers) h)))

  -- a select
  module _ (j : ℕ) (here : slice_get k.instrs r.at ≡ Some (instr.SelWait j)) (none : alts ≡ []) (x : ℕ × Alt) (xs : List (ℕ × Alt)) (some : offers ≡ x ∷ xs) where
    abbrev V : List ℤ
    V = between r.first r.end a.cells.items

    abbrev offered-store : Store
    offered-store = record { cells = V; offers = x ∷ xs }

    abbrev closed : List ℤ → Store
    closed cells = record { cells = cells; offers = [] }

    abbrev before : List Grant → Left
    before rest = record { grants = g ∷ rest; ticks = r.ticks }

    abbrev afterwards : List Grant → Left
    afterwards rest = record { grants = rest; ticks = ticks_granted }

    abbrev waiting : List Grant → State
    waiting rest = with_grants (kept_state a (x ∷ xs)) (g ∷ rest)

    fit : Fits k (instr.SelWait j) a.stack.items a.cells.items r
    fit = fits k verified room enough a.stack.items a.cells.items a.frames.items r ready (instr.SelWait j) here

    select-works : (rest : List Grant) → step k (waiting rest) ≡ within_bound (after true (waiting rest) (between r.bottom r.top a.stack.items) (taken_in k (table_at k j) g (closed V) (afterwards rest)))
    select-works rest =
        worked-with k (instr.SelWait j) a.frames.items a.stack.items a.cells.items r here (λ t. refl) refl (x ∷ xs) g rest r.top [] fit.low (omega arith) fit.top (top-none a.stack.items r.top fit.top) refl

    answered-none : NextIsAnsweredInFull k (waiting [])
    answered-none i there asks cells rest e = absurd (subst AsksValue (some-of i (instr.SelWait j) (sym there ∙ here)) asks)

    recount : Stands k Kind (waiting [])
    recount = record { address = ready.stands.address; height = ready.stands.height; part = ready.stands.part }

    -- it goes on at an address with these cells in all
    module _ (C : List ℤ) (at : ℕ) (turns : Turns C at a b) (long : length C ≡ length a.cells.items) (outside : take r.first C ≡ take r.first a.cells.items)
        (w : (rest : List Grant) → taken_in k (table_at k j) g (closed V) (afterwards rest) ≡ Through (record { address = at; given = [] }) (closed (between r.first r.end C)) (afterwards rest)) where
      abbrev next : Registers
      next = granted r at r.top

      turned-to : (rest : List Grant) → step k (waiting rest) ≡ Goes (with_grants (state_of next a.stack.items C a.frames.items []) rest)
      turned-to rest =
          select-works rest
          ∙ ap (λ (o : Outcome Store Next). within_bound (after true (waiting rest) (between r.bottom r.top a.stack.items) o)) (w rest)
          ∙ ap (λ (ys : List ℤ). Goes (record { address = at; stack = ys; store = closed (between r.first r.end C); left = afterwards rest; count = 0; frames = callers a.frames.items r.calls (take r.bottom a.stack.items) (take r.first a.cells.items) })) (append-nil (between r.bottom r.top a.stack.items))
          ∙ ap (λ (ys : List ℤ). Goes (record { address = at; stack = between r.bottom r.top a.stack.items; store = closed (between r.first r.end C); left = afterwards rest; count = 0; frames = callers a.frames.items r.calls (take r.bottom a.stack.items) ys })) (sym outside)

      keeps : Keeps a.stack.items a.cells.items r a.stack.items C next
      keeps =
          record {
            stack = refl;
            cells = long;
            below = refl;
            outside = outside;
            bottom = refl;
            first = refl;
            end = refl;
            calls = refl;
            top = ready.lies.bottom;
            under = ready.lies.top;
          }

      next-ready : Ready k room a.stack.items C a.frames.items next
      next-ready =
          record {
            stands = subst (StandsAfter k Kind) (turned-to []) (step-stands k verified Kind (waiting []) recount answered-none);
            lies = lies-still k verified room enough a.stack.items a.cells.items a.frames.items r ready a.stack.items C next keeps;
            few = omega arith;
          }

      same : (P : List ℤ → List ℤ → List Frame → Registers → Type 0) → P a.stack.items C a.frames.items next → P b.stack.items b.cells.items b.frames.items b.registers
      same P h =
          subst (λ (X : List ℤ). P X b.cells.items b.frames.items b.registers) (sym turns.stack)
          (subst (λ (X : List ℤ). P a.stack.items X b.frames.items b.registers) (sym turns.cells)
          (subst (λ (X : List Frame). P a.stack.items C X b.registers) (sym turns.frames)
          (subst (λ (X : Registers). P a.stack.items C a.frames.items X) (sym turns.registers) h)))

      select-on : Resumed k room a offers g b alts None
      select-on = (
        same (λ X Y Z q. Ready k room X Y Z q) next-ready,
        after-so (λ process fed follows.
            subst (λ (ys : List (ℕ × Alt)). Follows k process (fed ++ g ∷ []) (kept_state b ys)) (sym none)
            (same (λ X Y Z q. Follows k process (fed ++ g ∷ []) (state_of q X Y Z []))
            (follows-grant k process fed (kept_state a (x ∷ xs)) (subst (λ (ys : List (ℕ × Alt)). Follows k process fed (kept_state a ys)) some follows) g (state_of next a.stack.items C a.frames.items []) turned-to))),
      )

    select-fault : (o : Option FaultKind) → o ≡ Some Index → ((rest : List Grant) → taken_in k (table_at k j) g (closed V) (afterwards rest) ≡ Asked (request.Fault Index)) → Resumed k room a offers g b alts o
    select-fault o e w =
        subst (Resumed k room a offers g b alts) (sym e)
        (λ process fed so.
        ap process so.1
        ∙ subst (λ (ys : List (ℕ × Alt)). Follows k process so.0 (kept_state a ys)) some so.2 (g ∷ [])
        ∙ goes-step k (waiting [])
        ∙ ap (and_on (goes_on k)) (select-works [] ∙ ap (λ (o : Outcome Store Next). within_bound (after true (waiting []) (between r.bottom r.top a.stack.items) o)) (w [])))

    select-goes : (o : Option FaultKind) → o ≡ None → Resumed k room a offers g b alts None → Resumed k room a offers g b alts o
    select-goes o e h = subst (Resumed k room a offers g b alts) (sym e) h

    module _ (args : List ℤ) (at : ℕ) where
      abbrev Then : (List Grant → Outcome Store (Unit {0})) → Type 0
      Then p = (rest : List Grant) → taken_in k (table_at k j) g (closed V) (afterwards rest) ≡ and_then (p rest) (λ _. go_to at [])

      abbrev tested : ℕ → Bool → List Grant → Outcome Store Next
      tested into t rest = and_then ((if t then set_cells (with_cells into args V) else index_fault) (closed V) (afterwards rest)) (λ _. go_to at [])

      stored-args : (into : ℕ) (o : Option FaultKind) → StoresArgs (located (pos into) (length args) V) args at a b o
          → Then (λ rest. (if is_within into (length args) V then set_cells (with_cells into args V) else index_fault) (closed V) (afterwards rest)) → Resumed k room a offers g b alts o
      stored-args into o h w = by (is_within into (length args) V) refl h
        where
          by : (t : Bool) → is_within into (length args) V ≡ t → StoresArgs (located_if t into) args at a b o → Resumed k room a offers g b alts o
          by true e d =
              let l : into + length args ≤ length V = located-within (pos into) (length args) V into (ap (λ (t : Bool). located_if t into) e) in
              let v : length V ≡ r.end - r.first = length-between r.first r.end a.cells.items fit.end in
              let inside : r.first + into + length args ≤ r.end = omega (arith, l, v, fit.first) in
              let c : length (with_cells (r.first + into) args a.cells.items) ≡ length a.cells.items = length-with (r.first + into) args a.cells.items (omega (arith, inside, fit.end)) in
              select-goes o d.0
              (select-on (with_cells (r.first + into) args a.cells.items) at d.1 c (below-put a.cells.items args (r.first + into) (omega (arith, inside, fit.end)) r.first (omega arith))
              (λ rest.
              w rest ∙ ap (λ (t : Bool). tested into t rest) e
              ∙ ap (λ (ys : List ℤ). Through (record { address = at; given = [] }) (closed ys) (afterwards rest)) (sym (variables-put r.first into r.end args a.cells.items inside fit.end))))
          by false e d = select-fault o d (λ rest. w rest ∙ ap (λ (t : Bool). tested into t rest) e)

      stored-into : (s : Option Site) (o : Option FaultKind) → StoresInto s args at a b o → Then (λ rest. stored_at s args (closed V) (afterwards rest)) → Resumed k room a offers g b alts o
      stored-into None o h w = select-fault o h w
      stored-into (Some s) o h w = stored-args s.into o h w

      stored-at : (site : Option ℕ) (o : Option FaultKind) → StoresAt k site args at a b o → Then (λ rest. taken_at k site args (closed V) (afterwards rest)) → Resumed k room a offers g b alts o
      stored-at None o h w = select-goes o h.0 (select-on a.cells.items at h.1 refl refl w)
      stored-at (Some n) o h w = stored-into (slice_get k.sites n) o h w

    turned-by : (e : Option TableEntry) (o : Option FaultKind) → TurnsBy k e (args_taken g) a b o
        → ((rest : List Grant) → taken_in k (table_at k j) g (closed V) (afterwards rest) ≡ taken_by k e g (closed V) (afterwards rest)) → Resumed k room a offers g b alts o
    turned-by None o h w = select-fault o h w
    turned-by (Some e) o h w = stored-at (args_taken g) e.address e.site o h w

    select-resumed : (o : Option FaultKind) → Selected k j g a b o → Resumed k room a offers g b alts o
    select-resumed o h = turned-by (entry_of (alternative_taken g) (table_at k j)) o h (λ rest. refl)

  -- whatever asked, and whatever answers
  pub resumed : (i : Instr) (q : Request) → slice_get k.instrs r.at ≡ Some i → Awaits k a alts offers i q → Answers (meaning k) q g → (o : Option FaultKind) → Answered k i g a b o → Resumed k room a offers g b alts o
  resumed instr.Tick q here h w o d = subst (Resumed k room a offers g b alts) (sym d.0) (tick-resumed here h.0 d.1 h.2)
  resumed (instr.SelWait j) q here h w o d = by offers refl
    where
      by : (ys : List (ℕ × Alt)) → offers ≡ ys → Resumed k room a offers g b alts o
      by [] e = absurd (subst (λ (x : Request). Answers (meaning k) x g) (h.0 ∙ ap selecting e) w)
      by (x ∷ xs) e = select-resumed j here h.1 x xs e o d
  resumed i q here h w o d =
      let may = may-answer k a i q g h.0 w in
      asking-resumed o (resumes k verified room enough a ready b g i here may.1 may.0 o d) h.1

pub not-held : (i : Instr) → (i ≡ instr.Tick → ⊥) → ((j : ℕ) → i ≡ instr.SelWait j → ⊥) → IsHeld i → ⊥
not-held instr.Tick a b h = a refl
not-held (instr.SelWait j) a b h = b j refl
not-held i a b h = h

-- what stands at the address is the instruction that asked
module _ (k : RawCode) (verified : IsVerified k) (room : ℕ) (enough : IsRoom k room) (a : Lists) (alts offers : List (ℕ × Alt)) (g : Grant) (i : Instr) (q : Request) (pends : Pends k room a alts offers i q)
    (answers : Answers (meaning k) q g) (j : Instr) (here : slice_get k.instrs a.registers.at ≡ Some j) where
  same-instr : i ≡ j
  same-instr = some-of i j (sym pends.here ∙ here)

  pub pends-full : IsFull k j g
  pends-full = subst (λ (x : Instr). IsFull k x g) same-instr (full-answer k a alts offers i q g pends.awaits answers)

  pub pends-fits : Fits k j a.stack.items a.cells.items a.registers
  pends-fits = fits k verified room enough a.stack.items a.cells.items a.frames.items a.registers pends.ready j here

  pub pends-low : a.registers.at < most_instructions
  pends-low = (found-within k verified room enough a.stack.items a.cells.items a.frames.items a.registers pends.ready j here).low

  pub pends-operands : takes k j ≤ a.registers.top
  pends-operands = (let t : takes k j ≤ a.registers.top - a.registers.bottom = pends-fits.operands in omega (arith, t))

  pub pends-resumed : (b : Lists) (o : Option FaultKind) → Answered k j g a b o → Resumed k room a offers g b alts o
  pends-resumed b o h =
      resumed k verified room enough a pends.ready b alts offers g j q here (subst (λ (x : Instr). Awaits k a alts offers x q) same-instr pends.awaits) answers o h

  pub goes-fault : (b : Lists) (kind : FaultKind) (o : Option FaultKind) → o ≡ Some kind → Answered k j g a b o → GoesOn k room a offers g b alts (request.Fault kind)
  goes-fault b kind o e h = fault-comes k room (IsAfter k a offers g) b alts kind (pends-resumed b (Some kind) (subst (Answered k j g a b) e h))

  pub goes-ready : (b : Lists) (o : Option FaultKind) → o ≡ None → Answered k j g a b o → IsReady k room b
  goes-ready b o e h = (pends-resumed b None (subst (Answered k j g a b) e h)).0

  pub goes-comes : (b : Lists) (o : Option FaultKind) → o ≡ None → Answered k j g a b o → (c : Lists) (ys : List (ℕ × Alt)) (r : Request)
      → Comes k room (λ process fed. Follows k process fed (kept_state b alts)) c ys r → GoesOn k room a offers g c ys r
  goes-comes b o e h c ys r comes =
      comes-from k room (IsAfter k a offers g) (λ process fed. Follows k process fed (kept_state b alts)) c ys r ((pends-resumed b None (subst (Answered k j g a b) e h)).1) comes
