-- Verified code never lacks an instruction or an operand.
use Rattle.std.proofs.Common.{◌≡◌, ℕ, ℤ, zero, suc, ◌+◌, ◌-◌, ◌<◌, ◌≤◌, inl, inr, Bool, true, false, List, [], ◌∷◌, ◌++◌, length, drop, take, get_or, slice_get, Option, Some, None, Contains, refl, sym, ◌∙◌, ap, subst, arith}
use Rattle.std.specs.Prelude.{nat_le, nat_lt, if◌then◌else◌}
use Rattle.std.proofs.lemmas.Bool.{cases_lt}
use Rattle.std.proofs.lemmas.Bool.Decides.{nat_tests}
use Rattle.std.proofs.lemmas.Grind.{common_steps}
use Rattle.std.proofs.lemmas.List.Elements.{Contains-append_left, Contains-append_right, Contains-append_cases}
use Rattle.std.proofs.lemmas.Option.{get_or_from_slice_get, slice_get-get_or, slice_get_cases}
use Rattle.cc_base.specs.Limits.{most_calls, most_cells, most_steps}
use Rattle.cc_base.specs.Outcome.{Left, Outcome, Through, Asked, Eval}
use Rattle.cc_base.specs.declared.names.FaultKind.TheVariants.{Depth}
use Rattle.cc_base.specs.declared.request.Grant.{Grant}
use Rattle.cc_base.specs.declared.request.Grant.TheVariants.{Value}
use Rattle.cc_base.specs.declared.request.Request.{Request}
use Rattle.cc_base.specs.declared.request.Request.TheVariants.{Fault}
use Rattle.cc_code.specs.Meaning.{begins, nothing_left}
use Rattle.cc_code.proofs.Leading.{IsWorked, Lands, Led, works-led}
use Rattle.cc_code.proofs.Lists.{in-map, member}
use Rattle.cc_code.proofs.Marked.{itself, nothing, only}
use Rattle.cc_code.proofs.Local.{Quiet, fails, passes, left_of, works-local}
use Rattle.cc_code.proofs.Total.{Down, spends-lighter, step-down, step-spends}
use Rattle.cc_code.proofs.Waiting.{member-holds}
use Rattle.cc_code.specs.Control.{start, onward, GoesTo, InFunction, InPart, addresses, entries, fragments, fragments_of, successors, successors_if}
use Rattle.cc_code.specs.Operands.{function_at, gives, no_part, takes}
use Rattle.cc_code.specs.Rules.{GivesHeights, HasEntries, HasHeight, HasTargets, IfThere, IsAddress, IsFinal, IsPure, IsVerified, KeepsAt, KeepsHeights, NamesKind, NamesSite, all_entries, height_at, rest_at}
use Rattle.cc_code.specs.Standing.{AreAnsweredInFull, Afterwards, Ends, GoBack, IsAnsweredInFull, IsFault, IsWithin, NeverStrays, NextIsAnsweredInFull, Runs, Kind, Fragment, Spends, Stands, StandsAfter}
use Rattle.cc_code.specs.Steps.{Frame, State, Ran, Stepped, Goes, Stops, Asks, Yields, Strays, after, and_on, called, called_if, called_with, cells_below, enough, goes_on, performed, popped, popped_if, renews, returned_to, run, step, stepped, weight, within_bound, worked, worked_on}
use Rattle.cc_code.specs.Works.{Next, Store, first, table_at, works}
use Rattle.cc_code.specs.declared.code.Part.{Part}
use Rattle.cc_code.specs.declared.code.RawCode.{RawCode}
use Rattle.cc_code.specs.declared.code.Site.{Site}
use Rattle.cc_code.specs.declared.instr.Instr.{Instr}
use Rattle.cc_code.specs.declared.instr.Instr.TheVariants as instr
use Rattle.cc_code.specs.declared.rule.Rule.{Rule}
use Rattle.cc_code.specs.declared.rule.Rule.TheVariants as rule

enough-there : (a b : ℕ) → a ≤ b → nat_le a b ≡ true
enough-there a b h = grind (arith, nat_tests)

-- where the operands are there, what was taken has their number, and the rest is below
popped-there : (k : RawCode) (r : Runs) (n : ℕ) (stack : List ℤ) (go : List ℤ → List ℤ → Stepped) → n ≤ length stack
    → ((vs below : List ℤ) → length vs ≡ n → length below ≡ length stack - n → StandsAfter k r (go vs below)) → StandsAfter k r (popped n stack go)
unfolding popped
popped-there k r n stack go b h = subst (λ (t : Bool). StandsAfter k r (popped_if t n stack go)) (sym (enough-there n (length stack) b))
    (h (drop (length stack - n) stack) (take (length stack - n) stack) (grind (arith, common_steps)) (grind (arith, common_steps)))

-- where it is no value, it is a fault, if a fragment runs
abbrev pub Faults : {A : Type 0} → Runs → Outcome Store A → Type 0
Faults Kind o = Unit {0}
Faults Fragment (Through v s l) = Unit {0}
Faults Fragment (Asked q) = IsFault q

abbrev asked : Request → Outcome Store Next
asked q = Asked q

quiet-faults : {A : Type 0} (t a : ℕ) (p : Eval Store A) (s : Store) (gs : List Grant) → Quiet t a p s → Faults Fragment (p s (left_of gs t))
quiet-faults t a p s gs (fails kind e) = subst (Faults Fragment) (sym (e gs)) tt
quiet-faults t a p s gs (passes v u e) = subst (Faults Fragment) (sym (e gs)) tt

pure-faults : (k : RawCode) (n at : ℕ) (i : Instr) (vs : List ℤ) (s : Store) (l : Left) → IsPure at i → Faults Fragment (works k n i vs s l)
pure-faults k n at instr.Tick vs s l h = absurd h
pure-faults k n at (instr.Create kind) vs s l h = absurd h
pure-faults k n at (instr.Ask t) vs s l h = absurd h
pure-faults k n at (instr.AskWithin t a) vs s l h = absurd h
pure-faults k n at (instr.Send t) vs s l h = absurd h
pure-faults k n at (instr.SelWait j) vs s l h = absurd h
pure-faults k n at instr.Wait vs s l h = absurd h
pure-faults k n at (instr.Reply m) vs s l h = absurd h
pure-faults k n at instr.PutByte vs s l h = absurd h
pure-faults k n at instr.GetByte vs s l h = absurd h
pure-faults k n at (instr.Format f) vs s l h = absurd h
pure-faults k n at i vs s l h = quiet-faults l.ticks l.ticks (works k n i vs) s l.grants (works-local k n i vs l.ticks s)

module _ (k : RawCode) (verified : IsVerified k) where
  kept : (at : ℕ) (i : Instr) (r : Rule) → slice_get k.instrs at ≡ Some i → KeepsAt k at i r
  kept at i r e = (verified at r).each i e

  heights-kept : (at : ℕ) (i : Instr) → slice_get k.instrs at ≡ Some i → KeepsHeights k at i
  heights-kept at i e = kept at i rule.Height e

  -- where it is not the last, another comes after it
  next-there : (at : ℕ) → at < length k.instrs → (at + 1 ≡ length k.instrs → ⊥) → IsAddress k (at + 1)
  next-there at b g = elim (cases_lt (at + 1) (length k.instrs)) [ inl h ↦ h | inr h ↦ absurd (g (omega arith)) ]

  -- a successor is an address
  successor : (at : ℕ) (i : Instr) (y : ℕ) → HasTargets k i → (at + 1 ≡ length k.instrs → IsFinal i) → at < length k.instrs → Contains (successors k at i) y → IsAddress k y
  successor at (instr.Jump a) y t f b c = subst (λ (n : ℕ). IsAddress k n) (only a y c) t
  successor at (instr.JumpZero a) y t f b c = elim (Contains-append_cases (a ∷ []) ((at + 1) ∷ []) y c) [
    | inl h ↦ subst (λ (n : ℕ). IsAddress k n) (only a y h) t
    | inr h ↦ subst (λ (n : ℕ). IsAddress k n) (only (at + 1) y h) (next-there at b f)
  ]
  successor at (instr.Ret n) y t f b c = absurd (nothing y c)
  successor at (instr.AskWithin q a) y t f b c = elim (Contains-append_cases (a ∷ []) ((at + 1) ∷ []) y c) [
    | inl h ↦ subst (λ (n : ℕ). IsAddress k n) (only a y h) t
    | inr h ↦ subst (λ (n : ℕ). IsAddress k n) (only (at + 1) y h) (next-there at b f)
  ]
  successor at (instr.SelWait j) y t f b c = member-holds (IsAddress k) (addresses (table_at k j)) y t c
  successor at instr.Yield y t f b c = absurd (nothing y c)
  successor at instr.End y t f b c = absurd (nothing y c)
  successor at i y t f b c = subst (λ (n : ℕ). IsAddress k n) (only (at + 1) y c) (next-there at b f)

  -- where an instruction goes on is one of its successors
  landed-in : (at : ℕ) (i : Instr) (n : Next) → Lands k at i n → Contains (successors k at i) n.address
  landed-in at (instr.AskWithin t a) n h = elim h [
    | inl f ↦ subst (λ (y : ℕ). Contains (a ∷ (at + 1) ∷ []) y) (sym f.0) (Contains-append_left (a ∷ []) ((at + 1) ∷ []) a (itself a))
    | inr f ↦ subst (λ (y : ℕ). Contains (a ∷ (at + 1) ∷ []) y) (sym f.0) (Contains-append_right (a ∷ []) ((at + 1) ∷ []) (at + 1) (itself (at + 1)))
  ]
  landed-in at i n h = h.0

  -- the height there is what is left with what is given
  landed-height : (at : ℕ) (i : Instr) (n : Next) → GivesHeights k at i → Lands k at i n → IsAddress k n.address → height_at k n.address ≡ rest_at k at i + length n.given
  landed-height at (instr.AskWithin t a) n g h b = elim h [
    | inl f ↦ (let e : height_at k a ≡ rest_at k at (instr.AskWithin t a) = g.0 (subst (λ (y : ℕ). IsAddress k y) f.0 b) in
        let d : height_at k n.address ≡ height_at k a = ap (height_at k) f.0 in omega (arith, f.1))
    | inr f ↦ (let e : height_at k (at + 1) ≡ rest_at k at (instr.AskWithin t a) + gives k (instr.AskWithin t a) = g.1 (subst (λ (y : ℕ). IsAddress k y) f.0 b) in
        let d : height_at k n.address ≡ height_at k (at + 1) = ap (height_at k) f.0 in omega (arith, f.1))
  ]
  landed-height at i n g h b = member-holds (HasHeight k (rest_at k at i + gives k i)) (successors k at i) n.address g h.0 b ∙ ap (λ (m : ℕ). rest_at k at i + m) (sym h.1)

  goes-to : (at y : ℕ) (i : Instr) → slice_get k.instrs at ≡ Some i → Contains (successors k at i) y → GoesTo k at y
  goes-to at y i e c = subst (λ (o : Option Instr). Contains (successors_if k at o) y) (sym e) c

  -- within the part that runs
  go-on : (at y : ℕ) (frames : List Frame) → GoesTo k at y → GoBack k at frames → GoBack k y frames
  go-on at y [] g h = onward h g
  go-on at y (f ∷ frames) g h = (h.0, h.1, h.2, onward h.3 g, h.4, h.5, h.6)

  within-on : (r : Runs) (at y : ℕ) (frames : List Frame) → GoesTo k at y → IsWithin k r at frames → IsWithin k r y frames
  within-on Kind at y frames g h = go-on at y frames g h
  within-on Fragment at y frames g h = (onward h.0 g, h.1)

  -- what a function reaches is in a function
  in-function : (n : ℕ) (p : Part) → slice_get k.functions n ≡ Some p → (at : ℕ) → InPart k p.entry at → InFunction k at
  in-function n p e at (start c) = start (subst (λ (x : ℕ). Contains (entries k.functions) x) (only p.entry at c) (in-map (λ (q : Part). q.entry) k.functions p (member k.functions n p e)))
  in-function n p e at (onward r g) = onward (in-function n p e _ r) g

  there : (at : ℕ) → IsAddress k at → (i : Instr) × (slice_get k.instrs at ≡ Some i)
  there at b = elim ((slice_get_cases k.instrs at).1) [ inl h ↦ (h.0, h.2) | inr h ↦ absurd (omega (arith, h.0)) ]

  entry-low : (at : ℕ) → IsAddress k at → Contains (all_entries k) at → height_at k at ≡ 0
  entry-low at b c = let i : (i : Instr) × (slice_get k.instrs at ≡ Some i) = there at b in (heights-kept at i.0 i.1).entry c

  module _ (r : Runs) (s : State) (stands : Stands k r s) (i : Instr) (here : slice_get k.instrs s.address ≡ Some i) where
    below-length : (n : ℕ) (below : List ℤ) → length below ≡ length s.stack - n → length below ≡ height_at k s.address - n
    below-length n below e = e ∙ ap (λ (m : ℕ). m - n) stands.height

    enough-on : takes k i ≤ length s.stack
    enough-on = (let h : takes k i ≤ height_at k s.address = (heights-kept s.address i here).takes in omega (arith, stands.height))

    after-stands : (b : Bool) (below : List ℤ) (o : Outcome Store Next) → length below ≡ rest_at k s.address i → Led k s.address i o → Faults r o → StandsAfter k r (after b s below o)
    after-stands b below (Asked q) e h f = ended r f
      where
        ended : (r : Runs) → Faults r (asked q) → Ends r (Asks q)
        ended Kind f = tt
        ended Fragment f = f
    after-stands b below (Through n store left) e h f =
        let c : Contains (successors k s.address i) n.address = landed-in s.address i n h in
        let a : IsAddress k n.address = successor s.address i n.address (kept s.address i rule.Target here) (kept s.address i rule.Fall here) stands.address c in
        let t : height_at k n.address ≡ rest_at k s.address i + length n.given = landed-height s.address i n (heights-kept s.address i here).gives h a in
        record {
          address = a;
          height = (let j : length (below ++ n.given) ≡ length below + length n.given = grind (arith, common_steps) in omega (arith, e, t, j));
          part = within-on r s.address n.address s.frames (goes-to s.address n.address i here c) stands.part;
        }

    worked-stands : IsWorked i → IsAnsweredInFull k i s.left.grants → ((vs : List ℤ) → Faults r (works k (s.address + 1) i vs s.store s.left)) → StandsAfter k r (worked k i s)
    worked-stands w fit f = popped-there k r (takes k i) s.stack (worked_on k i s) enough-on (λ vs below e d.
        after-stands (renews i) below (works k (s.address + 1) i vs s.store s.left) (below-length (takes k i) below d) (works-led k s.address s.store s.left i vs e fit w) (f vs))

  module _ (s : State) (stands : Stands k Kind s) where
    -- a function begins
    begun-stands : (f : ℕ) (p : Part) (args below : List ℤ) → slice_get k.instrs s.address ≡ Some (instr.Call f) → slice_get k.functions f ≡ Some p → length below ≡ length s.stack - p.args → StandsAfter k Kind (called_with p s args below)
    begun-stands f p args below here e l =
        let i : Instr = instr.Call f in
        let is : function_at k f ≡ p = get_or_from_slice_get k.functions f p no_part e in
        let back : Contains (successors k s.address i) (s.address + 1) = itself (s.address + 1) in
        let next : IsAddress k (s.address + 1) = successor s.address i (s.address + 1) (kept s.address i rule.Target here) (kept s.address i rule.Fall here) stands.address back in
        let entry : IsAddress k p.entry = subst (λ (o : Option Part). IfThere o (λ (q : Part). IsAddress k q.entry)) e (kept s.address i rule.Target here) in
        let listed : Contains (all_entries k) p.entry = Contains-append_left (entries k.functions ++ entries k.kinds) (fragments k.sites) p.entry (Contains-append_left (entries k.functions) (entries k.kinds) p.entry (in-map (λ (q : Part). q.entry) k.functions p (member k.functions f p e))) in
        let given : height_at k (s.address + 1) ≡ rest_at k s.address i + gives k i = member-holds (HasHeight k (rest_at k s.address i + gives k i)) (successors k s.address i) (s.address + 1) (heights-kept s.address i here).gives back next in
        let args-of : (function_at k f).args ≡ p.args = ap (λ (q : Part). q.args) is in
        let value-of : (function_at k f).value ≡ p.value = ap (λ (q : Part). q.value) is in
        record {
          address = entry;
          height = sym (entry-low p.entry entry listed);
          part = (f, p, e, start (itself p.entry), next, omega (arith, given, l, stands.height, args-of, value-of), go-on s.address (s.address + 1) s.frames (goes-to s.address (s.address + 1) i here back) stands.part);
        }

    called-stands : (f : ℕ) → slice_get k.instrs s.address ≡ Some (instr.Call f) → StandsAfter k Kind (called (slice_get k.functions f) s)
    called-stands f here = by (slice_get k.functions f) refl
      where
        known : f < length k.functions
        known = (kept s.address (instr.Call f) rule.Table here).0

        enough : (p : Part) → slice_get k.functions f ≡ Some p → p.args ≤ length s.stack
        enough p e =
            let is : function_at k f ≡ p = get_or_from_slice_get k.functions f p no_part e in
            let args-of : (function_at k f).args ≡ p.args = ap (λ (q : Part). q.args) is in
            let h : (function_at k f).args ≤ height_at k s.address = (heights-kept s.address (instr.Call f) here).takes in
            omega (arith, h, args-of, stands.height)

        tested : (p : Part) → slice_get k.functions f ≡ Some p → (a b c : Bool) → StandsAfter k Kind (called_if a b c p s)
        tested p e true b c = tt
        tested p e false true c = tt
        tested p e false false true = tt
        tested p e false false false = popped-there k Kind p.args s.stack (called_with p s) (enough p e) (λ vs below m l. begun-stands f p vs below here e l)

        by : (o : Option Part) → slice_get k.functions f ≡ o → StandsAfter k Kind (called o s)
        by None e = absurd (let h : slice_get k.functions f ≡ Some (get_or k.functions f no_part) = slice_get-get_or k.functions f no_part known in
            let g : None ≡ Some (get_or k.functions f no_part) = sym e ∙ h in cc)
        by (Some p) e = tested p e (nat_le most_calls (length s.frames)) (nat_lt most_cells (length s.store.cells + cells_below s.frames + p.cells)) (nat_lt p.cells p.args)

    -- a function ends
    returned-stands : (n : ℕ) (vs : List ℤ) (frames : List Frame) → slice_get k.instrs s.address ≡ Some (instr.Ret n) → length vs ≡ n → GoBack k s.address frames → StandsAfter k Kind (returned_to frames s vs)
    returned-stands n vs [] here l g = absurd ((kept s.address (instr.Ret n) rule.Reach here).ret tt g)
    returned-stands n vs (f ∷ frames) here l g =
        let own : (height_at k s.address ≡ n) × ((m : ℕ) (p : Part) → slice_get k.functions m ≡ Some p → InPart k p.entry s.address → p.value ≡ n) = (heights-kept s.address (instr.Ret n) here).own in
        let value : g.1.value ≡ n = own.1 g.0 g.1 g.2 g.3 in
        record {
          address = g.4;
          height = (let j : length (f.stack ++ vs) ≡ length f.stack + length vs = grind (arith, common_steps) in omega (arith, g.5, value, l, j));
          part = g.6;
        }

    ret-stands : (n : ℕ) → slice_get k.instrs s.address ≡ Some (instr.Ret n) → StandsAfter k Kind (popped n s.stack (λ vs below. returned_to s.frames s vs))
    ret-stands n here =
        let h : n ≤ height_at k s.address = (heights-kept s.address (instr.Ret n) here).takes in
        popped-there k Kind n s.stack (λ vs below. returned_to s.frames s vs) (omega (arith, h, stands.height)) (λ vs below m l. returned-stands n vs s.frames here m stands.part)

    -- no fragment ends there
    no-yield : (frames : List Frame) → slice_get k.instrs s.address ≡ Some instr.Yield → GoBack k s.address frames → ⊥
    no-yield [] here g = (kept s.address instr.Yield rule.Reach here).yield_in_kind tt g
    no-yield (f ∷ frames) here g = (kept s.address instr.Yield rule.Reach here).yield_in_function tt (in-function g.0 g.1 g.2 s.address g.3)

    performed-in-kind : (i : Instr) → slice_get k.instrs s.address ≡ Some i → IsAnsweredInFull k i s.left.grants → StandsAfter k Kind (performed k i s)
    performed-in-kind (instr.Call f) here fit = called-stands f here
    performed-in-kind (instr.Ret n) here fit = ret-stands n here
    performed-in-kind instr.Yield here fit = absurd (no-yield s.frames here stands.part)
    performed-in-kind instr.End here fit = tt
    performed-in-kind i here fit = worked-stands Kind s stands i here tt fit (λ vs. tt)

  module _ (s : State) (stands : Stands k Fragment s) where
    pure-here : (i : Instr) → slice_get k.instrs s.address ≡ Some i → IsPure s.address i
    pure-here i here = (kept s.address i rule.Pure here stands.part.0).0

    yield-stands : slice_get k.instrs s.address ≡ Some instr.Yield → StandsAfter k Fragment (popped 1 s.stack (λ vs below. Stops (Yields (first vs))))
    yield-stands here =
        let h : 1 ≤ height_at k s.address = (heights-kept s.address instr.Yield here).takes in
        popped-there k Fragment 1 s.stack (λ vs below. Stops (Yields (first vs))) (omega (arith, h, stands.height)) (λ vs below m l. tt)

    performed-in-fragment : (i : Instr) → slice_get k.instrs s.address ≡ Some i → IsAnsweredInFull k i s.left.grants → StandsAfter k Fragment (performed k i s)
    performed-in-fragment (instr.Call f) here fit = absurd (pure-here (instr.Call f) here)
    performed-in-fragment (instr.Ret n) here fit = absurd (pure-here (instr.Ret n) here)
    performed-in-fragment instr.Yield here fit = yield-stands here
    performed-in-fragment instr.End here fit = absurd (pure-here instr.End here)
    performed-in-fragment i here fit = worked-stands Fragment s stands i here tt fit (λ vs. pure-faults k (s.address + 1) s.address i vs s.store s.left (pure-here i here))

  performed-stands : (r : Runs) (s : State) → Stands k r s → (i : Instr) → slice_get k.instrs s.address ≡ Some i → IsAnsweredInFull k i s.left.grants → StandsAfter k r (performed k i s)
  performed-stands Kind s stands i here fit = performed-in-kind s stands i here fit
  performed-stands Fragment s stands i here fit = performed-in-fragment s stands i here fit

  -- the bound is a fault, whatever runs
  bounded-stands : (r : Runs) (t : Stepped) → StandsAfter k r t → StandsAfter k r (within_bound t)
  bounded-stands r (Goes t) h = by r (nat_le t.count most_steps) h
    where
      by : (r : Runs) (b : Bool) → Stands k r t → StandsAfter k r (if b then Goes t else Stops (Asks (Fault Depth)))
      by r true h = h
      by Kind false h = tt
      by Fragment false h = tt
  bounded-stands r (Stops x) h = h

  -- one instruction
  pub step-stands : (r : Runs) (s : State) → Stands k r s → NextIsAnsweredInFull k s → StandsAfter k r (step k s)
  step-stands r s stands fit =
      let i : (i : Instr) × (slice_get k.instrs s.address ≡ Some i) = there s.address stands.address in
      subst (λ (o : Option Instr). StandsAfter k r (stepped k o s)) (sym i.1) (bounded-stands r (performed k i.0 s) (performed-stands r s stands i.0 i.1 (fit i.0 i.1)))

  -- the entries of kinds and fragments are addresses: where an instruction names them, and where none does
  pub kind-entry : (n : ℕ) (p : Part) → slice_get k.kinds n ≡ Some p → IsAddress k p.entry
  kind-entry n p e = elim (cases_lt p.entry (length k.instrs)) [
    | inl h ↦ h
    | inr h ↦ ((verified 0 rule.Target).whole refl).kinds n p e (λ named. no-address h (by-name named.0 named.1 named.2 named.3))
  ]
    where
      no-address : length k.instrs ≤ p.entry → IsAddress k p.entry → ⊥
      no-address h b = omega arith

      by-name : (at : ℕ) (i : Instr) → slice_get k.instrs at ≡ Some i → NamesKind n i → IsAddress k p.entry
      by-name at (instr.Create m) here names = subst (λ (o : Option Part). IfThere o (λ (q : Part). IsAddress k q.entry)) e (subst (λ (v : ℕ). HasTargets k (instr.Create v)) (sym names) (kept at (instr.Create m) rule.Target here))
      by-name at i here names = absurd names

  pub kind-stands : (n : ℕ) (p : Part) (cells : List ℤ) (left : Left) → slice_get k.kinds n ≡ Some p → Stands k Kind (begins p.entry cells left)
  kind-stands n p cells left e =
      let entry : IsAddress k p.entry = kind-entry n p e in
      let among : Contains (entries k.kinds) p.entry = in-map (λ (q : Part). q.entry) k.kinds p (member k.kinds n p e) in
      record {
        address = entry;
        height = sym (entry-low p.entry entry (Contains-append_left (entries k.functions ++ entries k.kinds) (fragments k.sites) p.entry (Contains-append_right (entries k.functions) (entries k.kinds) p.entry among)));
        part = start among;
      }

  fragment-site : (sites : List Site) (a : ℕ) → Contains (fragments sites) a → (n : ℕ) × (t : Site) × (slice_get sites n ≡ Some t) × Contains (fragments_of t) a
  fragment-site [] a c = absurd (nothing a c)
  fragment-site (t ∷ sites) a c = elim (Contains-append_cases (fragments_of t) (fragments sites) a c) [
    | inl h ↦ (0, t, refl, h)
    | inr h ↦ (let g : (n : ℕ) × (u : Site) × (slice_get sites n ≡ Some u) × Contains (fragments_of u) a = fragment-site sites a h in (suc g.0, g.1, g.2, g.3))
  ]

  fragment-entry : (n : ℕ) (t : Site) (a : ℕ) → slice_get k.sites n ≡ Some t → Contains (fragments_of t) a → IsAddress k a
  fragment-entry n t a e c = elim (cases_lt a (length k.instrs)) [
    | inl h ↦ h
    | inr h ↦ member-holds (IsAddress k) (fragments_of t) a (((verified 0 rule.Target).whole refl).sites n t e (λ named. no-address h (by-name named.0 named.1 named.2 named.3))) c
  ]
    where
      no-address : length k.instrs ≤ a → IsAddress k a → ⊥
      no-address h b = omega arith

      by-name : (at : ℕ) (i : Instr) → slice_get k.instrs at ≡ Some i → NamesSite n i → IsAddress k a
      by-name at (instr.OfferAccept m v) here names =
          member-holds (IsAddress k) (fragments_of t) a (subst (λ (o : Option Site). IfThere o (HasEntries k)) e (subst (λ (z : ℕ). HasTargets k (instr.OfferAccept m z)) (sym names) (kept at (instr.OfferAccept m v) rule.Target here))) c
      by-name at i here names = absurd names

  pub fragment-stands : (a : ℕ) (cells : List ℤ) (left : Left) → Contains (fragments k.sites) a → Stands k Fragment (begins a cells left)
  fragment-stands a cells left c =
      let t : (n : ℕ) × (t : Site) × (slice_get k.sites n ≡ Some t) × Contains (fragments_of t) a = fragment-site k.sites a c in
      let entry : IsAddress k a = fragment-entry t.0 t.1 a t.2 t.3 in
      record {
        address = entry;
        height = sym (entry-low a entry (Contains-append_right (entries k.functions ++ entries k.kinds) (fragments k.sites) a c));
        part = (start c, refl);
      }

module _ (k : RawCode) (verified : IsVerified k) where
  ended : (r : Runs) (x : Ran) → Ends r x → NeverStrays x
  ended r Strays h = h
  ended r (Asks q) h = tt
  ended r (Yields v) h = tt

  runs-on : (r : Runs) (n : ℕ) (t : Stepped) → StandsAfter k r t → Afterwards (AreAnsweredInFull k n) t → ((s : State) → Stands k r s → AreAnsweredInFull k n s → NeverStrays (run k n s)) → NeverStrays (and_on (run k n) t)
  runs-on r n (Goes s) stands fit go = go s stands fit
  runs-on r n (Stops x) stands fit go = ended r x stands

  pub runs-stand : (r : Runs) (n : ℕ) (s : State) → Stands k r s → AreAnsweredInFull k n s → NeverStrays (run k n s)
  unfolding run AreAnsweredInFull
  runs-stand r zero s stands fit = tt
  runs-stand r (suc n) s stands fit = runs-on r n (step k s) (step-stands k verified r s stands fit.0) fit.1 (λ t h f. runs-stand r n t h f)

  none-fit : (s : State) → s.left ≡ nothing_left → NextIsAnsweredInFull k s
  none-fit s e i here asks cells rest f = absurd (let g : [] ≡ Value cells ∷ rest = sym (ap (λ (l : Left). l.grants) e) ∙ f in cc)

  -- with nothing left nothing is left afterwards
  still-nothing : (s t : State) (i : Instr) → s.left ≡ nothing_left → Spends i s (Goes t) → t.left ≡ nothing_left
  still-nothing s t i e h = elim (spends-lighter i s t h) [
    | inl d ↦ d.1 ∙ e
    | inr d ↦ absurd (let w : weight s.left ≡ 0 = ap weight e in omega (arith, d.1))
  ]

  ends-on : (n : ℕ) (s : State) → Stands k Fragment s → s.left ≡ nothing_left → enough s ≤ suc n → (t : Stepped) → step k s ≡ t → StandsAfter k Fragment t → ((u : State) → Stands k Fragment u → u.left ≡ nothing_left → enough u ≤ n → Ends Fragment (run k n u)) → Ends Fragment (and_on (run k n) t)
  ends-on n s stands e b (Goes u) x after go =
      let i : (i : Instr) × (slice_get k.instrs s.address ≡ Some i) = there k verified s.address stands.address in
      go u after (still-nothing s u i.0 e (subst (Spends i.0 s) x (step-spends k s i.0 i.1))) (let d : enough u < enough s = subst (Down s) x (step-down k s) in omega (arith, d, b))
  ends-on n s stands e b (Stops r) x after go = after

  without-grants : (n : ℕ) (s : State) → Stands k Fragment s → s.left ≡ nothing_left → enough s ≤ n → Ends Fragment (run k n s)
  unfolding run
  without-grants zero s stands e b = absurd (omega (arith, b))
  without-grants (suc n) s stands e b = ends-on n s stands e b (step k s) refl (step-stands k verified Fragment s stands (none-fit s e)) (λ u h f c. without-grants n u h f c)

  -- a fragment, which has no grant
  pub fragment-runs : (a : ℕ) (cells : List ℤ) → Contains (fragments k.sites) a → Ends Fragment (goes_on k (begins a cells nothing_left))
  unfolding goes_on
  fragment-runs a cells c = without-grants (enough (begins a cells nothing_left)) (begins a cells nothing_left) (fragment-stands k verified a cells nothing_left c) refl (omega arith)
