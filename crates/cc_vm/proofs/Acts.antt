-- What an instruction of the loop does with the lists is what it does in code.
use Rattle.std.proofs.Common.{◌≡◌, ℕ, ℤ, pos, negsuc, zero, suc, ◌+◌, ◌-◌, ◌*◌, ◌<◌, ◌≤◌, Bool, true, false, List, [], ◌∷◌, ◌++◌, append-nil, append_assoc, add-zero, length, drop, take, replicate, get_or, Option, Some, None, Result, Ok, Err, refl, sym, ◌∙◌, ap, subst, arith, add-one}
use Rattle.std.specs.Prelude.{nat_le, slice_set, if◌then◌else◌}
use Rattle.std.proofs.lemmas.Bool.Decides.{nat_tests}
use Rattle.std.proofs.lemmas.Grind.{common_steps}
use Rattle.std.proofs.Math.Seq.{take-add}
use Rattle.std.proofs.lemmas.List.{length-replicate, set_split, take-append-drop}
use Rattle.cc_base.specs.Granted.{or_fault}
use Rattle.cc_base.specs.Numbers.{at_zero, compared, converted, indexed, logical_not, operated, opposite, truth, updated}
use Rattle.cc_base.specs.Outcome.{Left, Outcome, Through, Asked, and_then, spent}
use Rattle.cc_base.specs.declared.alternatives.Alt.{Alt}
use Rattle.cc_base.specs.declared.names.FaultKind.{FaultKind}
use Rattle.cc_base.specs.declared.names.FaultKind.TheVariants.{Index}
use Rattle.cc_base.specs.declared.numbers.Comparison.TheVariants.{Less, AtMost, Greater, AtLeast, Equal, Different}
use Rattle.cc_base.specs.declared.numbers.NumberType.{NumberType}
use Rattle.cc_base.specs.declared.numbers.NumberType.TheVariants.{Int, Long}
use Rattle.cc_base.specs.declared.numbers.Operator.TheVariants.{Add, Subtract, Multiply, Divide, Remainder}
use Rattle.cc_base.specs.declared.request.Grant.{Grant}
use Rattle.cc_base.specs.declared.request.Request.TheVariants as request
use Rattle.cc_code.specs.Operands.{gives, takes}
use Rattle.cc_code.specs.Steps.{Asks, State, Goes, Stops, after, performed, popped, renews, with_grants, worked, worked_on}
use Rattle.cc_code.specs.Works.{Next, Store, bumped_in, bumped_to, element_cells, fetched_in, further, go_to, index_fault, is_within, on_with, stored_in, with_cells, works}
use Rattle.cc_code.specs.declared.code.RawCode.{RawCode}
use Rattle.cc_code.specs.declared.instr.Instr.{Instr}
use Rattle.cc_code.specs.declared.instr.Instr.TheVariants as instr
use Rattle.cc_vm.proofs.Between.{below-put, between-one, between-put, between-split, between-two, drop-cell, length-between, length-with, set-with, variable-at, variables-put}
use Rattle.cc_vm.proofs.Fragments.{element-is, popped-is}
use Rattle.cc_vm.specs.Fragments.{element_at}
use Rattle.cc_vm.specs.Machine.{Acts, Bumps, Clears, Fetches, PicksAt, Puts, PutsIf, Replaces, Stores, Ticks, Updates, between, callers, cell_of, located, located_if, moved, state_of}
use Rattle.cc_vm.specs.declared.registers.Frame.{Frame}
use Rattle.cc_vm.specs.declared.registers.Registers.{Registers}
use Rattle.cc_vm.specs.declared.registers.Stop.{Stop}
use Rattle.cc_vm.specs.declared.registers.Stop.TheVariants.{Fault}

-- what stays of the lists and the registers
pub record Keeps (S C : List ℤ) (r : Registers) (S' C' : List ℤ) (r' : Registers) : Type 0 where
  pub stack : length S' ≡ length S
  pub cells : length C' ≡ length C
  pub below : take r.bottom S' ≡ take r.bottom S
  pub outside : take r.first C' ≡ take r.first C
  pub bottom : r'.bottom ≡ r.bottom
  pub first : r'.first ≡ r.first
  pub end : r'.end ≡ r.end
  pub calls : r'.calls ≡ r.calls
  pub top : r.bottom ≤ r'.top
  pub under : r'.top ≤ length S

-- it goes on as the code does, stops with the code's fault, or has changed nothing
abbrev pub Did : RawCode → Instr → List Frame → List ℤ → List ℤ → Registers → List ℤ → List ℤ → Registers → Option Stop → Type 0
Did k i F S C r S' C' r' None =
    ((offers : List (ℕ × Alt)) (rest : List Grant) → performed k i (with_grants (state_of r S C F offers) rest) ≡ Goes (with_grants (state_of r' S' C' F offers) rest))
    × Keeps S C r S' C' r'
Did k i F S C r S' C' r' (Some (Fault kind)) =
    (offers : List (ℕ × Alt)) (rest : List Grant) → performed k i (with_grants (state_of r S C F offers) rest) ≡ Stops (Asks (request.Fault kind))
Did k i F S C r S' C' r' (Some stop) = (S' ≡ S) × (C' ≡ C) × (r' ≡ r)

-- an instruction that is worked and counts, in any state
module _ (k : RawCode) (i : Instr) (s : State) (is-worked : (s : State) → performed k i s ≡ worked k i s) (none : renews i ≡ false) where
  worked-at : (below vs : List ℤ) → s.stack ≡ below ++ vs → length vs ≡ takes k i → performed k i s ≡ after false s below (works k (s.address + 1) i vs s.store s.left)
  worked-at below vs e l =
      is-worked s
      ∙ ap (λ (stack : List ℤ). popped (takes k i) stack (worked_on k i s)) e
      ∙ popped-is below vs (takes k i) (worked_on k i s) l
      ∙ ap (λ (b : Bool). after b s below (works k (s.address + 1) i vs s.store s.left)) none

module _ (k : RawCode) (i : Instr) (F : List Frame) (S C : List ℤ) (r : Registers) where
  abbrev here : List (ℕ × Alt) → List Grant → State
  here offers rest = with_grants (state_of r S C F offers) rest

  abbrev store : List (ℕ × Alt) → Store
  store offers = record { cells = between r.first r.end C; offers = offers }

  abbrev left : List Grant → Left
  left rest = record { grants = rest; ticks = r.ticks }

  -- the state that the registers and lists keep afterwards
  pub same-state : (address top : ℕ) (S' C' stack cells : List ℤ) (offers : List (ℕ × Alt)) (rest : List Grant)
      → stack ≡ between r.bottom top S' → cells ≡ between r.first r.end C' → take r.bottom S' ≡ take r.bottom S → take r.first C' ≡ take r.first C
      → Goes (record { address = address; stack = stack; store = record { cells = cells; offers = offers }; left = left rest; count = suc r.count; frames = callers F r.calls (take r.bottom S) (take r.first C) })
      ≡ Goes (with_grants (state_of (moved r address top) S' C' F offers) rest)
  same-state address top S' C' stack cells offers rest e f g h =
      ap (λ (xs : List ℤ). Goes (record { address = address; stack = xs; store = record { cells = cells; offers = offers }; left = left rest; count = suc r.count; frames = callers F r.calls (take r.bottom S) (take r.first C) })) e
      ∙ ap (λ (xs : List ℤ). Goes (record { address = address; stack = between r.bottom top S'; store = record { cells = xs; offers = offers }; left = left rest; count = suc r.count; frames = callers F r.calls (take r.bottom S) (take r.first C) })) f
      ∙ ap (λ (xs : List ℤ). Goes (record { address = address; stack = between r.bottom top S'; store = record { cells = between r.first r.end C'; offers = offers }; left = left rest; count = suc r.count; frames = callers F r.calls xs (take r.first C) })) (sym g)
      ∙ ap (λ (xs : List ℤ). Goes (record { address = address; stack = between r.bottom top S'; store = record { cells = between r.first r.end C'; offers = offers }; left = left rest; count = suc r.count; frames = callers F r.calls (take r.bottom S') xs })) (sym h)
      ∙ ap (λ (n : ℕ). Goes (record { address = address; stack = between r.bottom top S'; store = record { cells = between r.first r.end C'; offers = offers }; left = left rest; count = n; frames = callers F r.calls (take r.bottom S') (take r.first C') })) (sym (add-one r.count))

  module _ (is-worked : (s : State) → performed k i s ≡ worked k i s) (none : renews i ≡ false)
      (place : ℕ) (vs : List ℤ) (low : r.bottom ≤ place) (taken : place + length vs ≡ r.top) (size : length vs ≡ takes k i) (top : r.top ≤ length S) (these : between place r.top S ≡ vs)
      (first : r.first ≤ r.end) (end : r.end ≤ length C) where
    operands : between r.bottom r.top S ≡ between r.bottom place S ++ vs
    operands = between-split r.bottom place r.top S low (omega (arith, taken)) top ∙ ap (λ (xs : List ℤ). between r.bottom place S ++ xs) these

    pub works-here : (offers : List (ℕ × Alt)) (rest : List Grant) → performed k i (here offers rest) ≡ after false (here offers rest) (between r.bottom place S) (works k (r.at + 1) i vs (store offers) (left rest))
    works-here offers rest = worked-at k i (here offers rest) is-worked none (between r.bottom place S) vs operands size

    -- it faults
    faults : (kind : FaultKind) (S' C' : List ℤ) (r' : Registers) (o : Option Stop) → o ≡ Some (Fault kind)
        → ((offers : List (ℕ × Alt)) (rest : List Grant) → works k (r.at + 1) i vs (store offers) (left rest) ≡ Asked (request.Fault kind)) → Did k i F S C r S' C' r' o
    faults kind S' C' r' o e w =
        subst (Did k i F S C r S' C' r') (sym e) (λ offers rest. works-here offers rest ∙ ap (after false (here offers rest) (between r.bottom place S)) (w offers rest))

    -- it gives cells, and leaves these variables
    gives-cells : (address : ℕ) (given S' C' : List ℤ) (r' : Registers) (o : Option Stop) → o ≡ None → S' ≡ with_cells place given S → r' ≡ moved r address (place + length given)
        → place + length given ≤ length S → length C' ≡ length C → take r.first C' ≡ take r.first C
        → ((offers : List (ℕ × Alt)) (rest : List Grant) → works k (r.at + 1) i vs (store offers) (left rest) ≡ Through (record { address = address; given = given }) (record { cells = between r.first r.end C'; offers = offers }) (left rest))
        → Did k i F S C r S' C' r' o
    gives-cells address given S' C' r' o e f g room long outside w =
        let fit : place ≤ length S = omega (arith, taken, top) in
        let below : take r.bottom S' ≡ take r.bottom S = ap (take r.bottom) f ∙ below-put S given place fit r.bottom low in
        let stack : between r.bottom place S ++ given ≡ between r.bottom (place + length given) S' = sym (ap (between r.bottom (place + length given)) f ∙ between-put S given place fit r.bottom low) in
        subst (Did k i F S C r S' C' r') (sym e) (subst (λ (q : Registers). Did k i F S C r S' C' q None) (sym g) (
          λ offers rest.
              works-here offers rest
              ∙ ap (after false (here offers rest) (between r.bottom place S)) (w offers rest)
              ∙ same-state address (place + length given) S' C' (between r.bottom place S ++ given) (between r.first r.end C') offers rest stack refl below outside,
          record {
            stack = ap length f ∙ length-with place given S room;
            cells = long;
            below = below;
            outside = outside;
            bottom = refl;
            first = refl;
            end = refl;
            calls = refl;
            top = omega (arith, low);
            under = room;
          },
        ))

    -- an outcome of one number
    replaces : (res : Result ℤ FaultKind) (S' C' : List ℤ) (r' : Registers) (o : Option Stop) → place < length S
        → ((offers : List (ℕ × Alt)) (rest : List Grant) → works k (r.at + 1) i vs (store offers) (left rest) ≡ on_with (r.at + 1) (or_fault res) (store offers) (left rest))
        → Replaces res place S r S' r' o × (C' ≡ C) → Did k i F S C r S' C' r' o
    replaces (Ok z) S' C' r' o b w h =
        gives-cells (r.at + 1) (z ∷ []) S' C' r' o h.0.0 (h.0.1 ∙ set-with S place z b) h.0.2 (omega (arith, b)) (ap length h.1) (ap (take r.first) h.1)
        (λ offers rest. w offers rest ∙ ap (λ (D : List ℤ). Through (record { address = r.at + 1; given = z ∷ [] }) (record { cells = between r.first r.end D; offers = offers }) (left rest)) (sym h.1))
    replaces (Err kind) S' C' r' o b w h = faults kind S' C' r' o h.0 (λ offers rest. w offers rest)

    -- cells, with the variables as they were
    puts : (given S' C' : List ℤ) (r' : Registers) (o : Option Stop) → place + length given ≤ length S
        → ((offers : List (ℕ × Alt)) (rest : List Grant) → works k (r.at + 1) i vs (store offers) (left rest) ≡ go_to (r.at + 1) given (store offers) (left rest))
        → Puts given place S r S' r' o → C' ≡ C → Did k i F S C r S' C' r' o
    puts given S' C' r' o b w h c =
        gives-cells (r.at + 1) given S' C' r' o h.0 h.1 h.2 b (ap length c) (ap (take r.first) c)
        (λ offers rest. w offers rest ∙ ap (λ (D : List ℤ). Through (record { address = r.at + 1; given = given }) (record { cells = between r.first r.end D; offers = offers }) (left rest)) (sym c))

-- the operands of an instruction are there, and room for what it gives; the numbers are those of the lists
pub record Fits (k : RawCode) (i : Instr) (S C : List ℤ) (r : Registers) : Type 0 where
  pub low : r.bottom ≤ r.top
  pub operands : takes k i ≤ r.top - r.bottom
  pub top : r.top ≤ length S
  pub room : r.top - takes k i + gives k i ≤ length S
  pub first : r.first ≤ r.end
  pub end : r.end ≤ length C

pub at-most : (a b : ℕ) → nat_le a b ≡ true → a ≤ b
at-most a b e = grind (arith, nat_tests)

taken-at-most : (n : ℕ) (xs : List ℤ) → length (take n xs) ≤ n
taken-at-most n xs = grind (arith, common_steps)

-- a cell between two places
between-cell : (b t i : ℕ) (S : List ℤ) (j : ℕ) → b + i ≡ j → j < t → t ≤ length S → get_or (between b t S) i (pos 0) ≡ cell_of S j
between-cell b t i S j e l h = grind (arith, common_steps)

top-one : (S : List ℤ) (t : ℕ) → 0 < t → t ≤ length S → between (t - 1) t S ≡ cell_of S (t - 1) ∷ []
top-one S t h b = (let e : t ≡ t - 1 + 1 = omega (arith, h) in ap (λ (n : ℕ). between (t - 1) n S) e ∙ between-one S (t - 1) (omega (arith, h, b)))

top-two : (S : List ℤ) (t : ℕ) → 1 < t → t ≤ length S → between (t - 2) t S ≡ cell_of S (t - 2) ∷ cell_of S (t - 1) ∷ []
top-two S t h b =
    let e : t ≡ t - 2 + 2 = omega (arith, h) in
    let f : suc (t - 2) ≡ t - 1 = omega (arith, h) in
    ap (λ (n : ℕ). between (t - 2) n S) e ∙ between-two S (t - 2) (omega (arith, h, b)) ∙ ap (λ (n : ℕ). cell_of S (t - 2) ∷ cell_of S n ∷ []) f

no-cells : (xs : List ℤ) → length xs ≡ 0 → xs ≡ []
no-cells [] e = refl
no-cells (x ∷ xs) e = absurd (omega (arith, e))

pub top-none : (S : List ℤ) (t : ℕ) → t ≤ length S → between t t S ≡ []
top-none S t b = no-cells (between t t S) (let e : length (between t t S) ≡ t - t = length-between t t S b in omega (arith, e))

with-none : (S : List ℤ) (p : ℕ) → S ≡ with_cells p [] S
with-none S p = sym (take-append-drop p S) ∙ ap (λ (xs : List ℤ). xs ++ drop p S) (sym (append-nil (take p S))) ∙ ap (λ (n : ℕ). take p S ++ [] ++ drop n S) (sym (add-zero p))

dup-with : (S : List ℤ) (p : ℕ) → suc p < length S → slice_set S (suc p) (cell_of S p) ≡ with_cells p (cell_of S p ∷ cell_of S p ∷ []) S
dup-with S p h =
    let x : ℤ = cell_of S p in
    let e : take (suc p) S ≡ take p S ++ x ∷ [] = ap (λ (n : ℕ). take n S) (sym (add-one p)) ∙ take-add p 1 S ∙ ap (λ (xs : List ℤ). take p S ++ take 1 xs) (drop-cell S p (omega (arith, h))) in
    set_split S (suc p) x h
    ∙ ap (λ (xs : List ℤ). xs ++ x ∷ drop (suc (suc p)) S) e
    ∙ append_assoc (take p S) (x ∷ []) (x ∷ drop (suc (suc p)) S)
    ∙ sym (append_assoc (take p S) (x ∷ x ∷ []) (drop (suc (suc p)) S))
    ∙ ap (λ (n : ℕ). take p S ++ x ∷ x ∷ [] ++ drop n S) (let f : suc (suc p) ≡ p + 2 = omega arith in f)

module _ (k : RawCode) (F : List Frame) (S C : List ℤ) (r : Registers) (S' C' : List ℤ) (r' : Registers) (o : Option Stop) where
  -- one operand gives way to an outcome
  one : (i : Instr) → Fits k i S C r → ((s : State) → performed k i s ≡ worked k i s) → renews i ≡ false → 1 ≡ takes k i → 1 ≡ gives k i → (res : Result ℤ FaultKind)
      → ((st : Store) (l : Left) → works k (r.at + 1) i (cell_of S (r.top - 1) ∷ []) st l ≡ on_with (r.at + 1) (or_fault res) st l)
      → Replaces res (r.top - 1) S r S' r' o × (C' ≡ C) → Did k i F S C r S' C' r' o
  one i fits worked quiet t g res w h =
      let some : 0 < r.top = omega (arith, fits.operands, t) in
      replaces k i F S C r worked quiet (r.top - 1) (cell_of S (r.top - 1) ∷ []) (omega (arith, fits.operands, t)) (omega (arith, some)) t fits.top (top-one S r.top some fits.top) fits.first fits.end
      res S' C' r' o (omega (arith, some, fits.top)) (λ offers rest. w (store k i F S C r offers) (left k i F S C r rest)) h

  two : (i : Instr) → Fits k i S C r → ((s : State) → performed k i s ≡ worked k i s) → renews i ≡ false → 2 ≡ takes k i → 1 ≡ gives k i → (res : Result ℤ FaultKind)
      → ((st : Store) (l : Left) → works k (r.at + 1) i (cell_of S (r.top - 2) ∷ cell_of S (r.top - 1) ∷ []) st l ≡ on_with (r.at + 1) (or_fault res) st l)
      → Replaces res (r.top - 2) S r S' r' o × (C' ≡ C) → Did k i F S C r S' C' r' o
  two i fits worked quiet t g res w h =
      let some : 1 < r.top = omega (arith, fits.operands, t) in
      replaces k i F S C r worked quiet (r.top - 2) (cell_of S (r.top - 2) ∷ cell_of S (r.top - 1) ∷ []) (omega (arith, fits.operands, t)) (omega (arith, some)) t fits.top (top-two S r.top some fits.top) fits.first fits.end
      res S' C' r' o (omega (arith, some, fits.top)) (λ offers rest. w (store k i F S C r offers) (left k i F S C r rest)) h

  const-did : (v : ℤ) → Fits k (instr.Const v) S C r → Acts (instr.Const v) S C r S' C' r' o → Did k (instr.Const v) F S C r S' C' r' o
  const-did v fits h =
      replaces k (instr.Const v) F S C r (λ s. refl) refl r.top [] fits.low (add-zero r.top) refl fits.top (top-none S r.top fits.top) fits.first fits.end
      (Ok v) S' C' r' o (omega (arith, fits.room)) (λ offers rest. refl) h

  zeros-did : (n : ℕ) → Fits k (instr.Zeros n) S C r → Acts (instr.Zeros n) S C r S' C' r' o → Did k (instr.Zeros n) F S C r S' C' r' o
  zeros-did n fits h =
      puts k (instr.Zeros n) F S C r (λ s. refl) refl r.top [] fits.low (add-zero r.top) refl fits.top (top-none S r.top fits.top) fits.first fits.end
      (replicate n (pos 0)) S' C' r' o (let e : length (replicate n (pos 0)) ≡ n = length-replicate n (pos 0) in omega (arith, e, fits.room)) (λ offers rest. refl) h.0 h.1

  drop-did : (n : ℕ) → Fits k (instr.Drop n) S C r → Acts (instr.Drop n) S C r S' C' r' o → Did k (instr.Drop n) F S C r S' C' r' o
  drop-did n fits h =
      let place : ℕ = r.top - n in
      let long : length (between place r.top S) ≡ r.top - place = length-between place r.top S fits.top in
      gives-cells k (instr.Drop n) F S C r (λ s. refl) refl place (between place r.top S) (omega (arith, fits.operands)) (omega (arith, long, fits.operands)) (omega (arith, long, fits.operands)) fits.top refl fits.first fits.end
      (r.at + 1) [] S' C' r' o h.0 (h.1 ∙ with-none S place) (h.3 ∙ ap (λ (n : ℕ). moved r (r.at + 1) n) (sym (add-zero place))) (omega (arith, fits.top, fits.operands)) (ap length h.2) (ap (take r.first) h.2)
      (λ offers rest. ap (λ (D : List ℤ). Through (record { address = r.at + 1; given = [] }) (record { cells = between r.first r.end D; offers = offers }) (left k (instr.Drop n) F S C r rest)) (sym h.2))

  dup-did : Fits k instr.Dup S C r → Acts instr.Dup S C r S' C' r' o → Did k instr.Dup F S C r S' C' r' o
  dup-did fits h =
      let some : 0 < r.top = omega (arith, fits.operands) in
      let x : ℤ = cell_of S (r.top - 1) in
      let f : suc (r.top - 1) ≡ r.top = omega (arith, some) in
      let g : r.top - 1 + 2 ≡ r.top + 1 = omega (arith, some) in
      puts k instr.Dup F S C r (λ s. refl) refl (r.top - 1) (x ∷ []) (omega (arith, fits.operands)) (omega (arith, some)) refl fits.top (top-one S r.top some fits.top) fits.first fits.end
      (x ∷ x ∷ []) S' C' r' o (omega (arith, fits.room, some)) (λ offers rest. refl)
      (h.0.0, h.0.1 ∙ ap (λ (n : ℕ). slice_set S n x) (sym f) ∙ dup-with S (r.top - 1) (omega (arith, fits.room, some)), h.0.2 ∙ ap (λ (n : ℕ). moved r (r.at + 1) n) (sym g)) h.1

  abbrev variables : List ℤ
  variables = between r.first r.end C

  long-variables : (i : Instr) → Fits k i S C r → length variables ≡ r.end - r.first
  long-variables i fits = length-between r.first r.end C fits.end

  -- an offset that is below 0, or past the variables
  outside-did : (i : Instr) (fits : Fits k i S C r) (worked : (s : State) → performed k i s ≡ worked k i s) (quiet : renews i ≡ false)
      (place : ℕ) (vs : List ℤ) → r.bottom ≤ place → place + length vs ≡ r.top → length vs ≡ takes k i → between place r.top S ≡ vs
      → o ≡ Some (Fault Index) → ((st : Store) (l : Left) → st.cells ≡ variables → works k (r.at + 1) i vs st l ≡ Asked (request.Fault Index)) → Did k i F S C r S' C' r' o
  outside-did i fits worked quiet place vs low taken size these e w =
      faults k i F S C r worked quiet place vs low taken size fits.top these fits.first fits.end Index S' C' r' o e (λ offers rest. w (store k i F S C r offers) (left k i F S C r rest) refl)

  fetch-did : (n : ℕ) → Fits k (instr.Fetch n) S C r → Acts (instr.Fetch n) S C r S' C' r' o → Did k (instr.Fetch n) F S C r S' C' r' o
  fetch-did n fits h = go (cell_of S (r.top - 1)) refl h
    where
      some : 0 < r.top
      some = omega (arith, fits.operands)

      abbreviated : (x : ℤ) → cell_of S (r.top - 1) ≡ x → between (r.top - 1) r.top S ≡ x ∷ []
      abbreviated x e = top-one S r.top some fits.top ∙ ap (λ (z : ℤ). z ∷ []) e

      inside : (q : ℕ) → cell_of S (r.top - 1) ≡ pos q → is_within q n variables ≡ true → Puts (take n (drop q variables)) (r.top - 1) S r S' r' o → C' ≡ C → Did k (instr.Fetch n) F S C r S' C' r' o
      inside q e b p c =
          puts k (instr.Fetch n) F S C r (λ s. refl) refl (r.top - 1) (pos q ∷ []) (omega (arith, fits.operands)) (omega (arith, some)) refl fits.top (abbreviated (pos q) e) fits.first fits.end
          (take n (drop q variables)) S' C' r' o (let m : length (take n (drop q variables)) ≤ n = grind (arith, common_steps) in omega (arith, m, fits.room))
          (λ offers rest. ap (λ (t : Bool). and_then ((if t then fetched_in n q variables else index_fault) (store k (instr.Fetch n) F S C r offers) (left k (instr.Fetch n) F S C r rest)) (λ ws. go_to (r.at + 1) ws)) b) p c

      outside : (q : ℕ) → cell_of S (r.top - 1) ≡ pos q → is_within q n variables ≡ false → o ≡ Some (Fault Index) → Did k (instr.Fetch n) F S C r S' C' r' o
      outside q e b p =
          faults k (instr.Fetch n) F S C r (λ s. refl) refl (r.top - 1) (pos q ∷ []) (omega (arith, fits.operands)) (omega (arith, some)) refl fits.top (abbreviated (pos q) e) fits.first fits.end Index S' C' r' o p
          (λ offers rest. ap (λ (t : Bool). and_then ((if t then fetched_in n q variables else index_fault) (store k (instr.Fetch n) F S C r offers) (left k (instr.Fetch n) F S C r rest)) (λ ws. go_to (r.at + 1) ws)) b)

      by : (q : ℕ) → cell_of S (r.top - 1) ≡ pos q → (b : Bool) → is_within q n variables ≡ b → Fetches (located_if b q) n variables (r.top - 1) S r S' r' o × (C' ≡ C) → Did k (instr.Fetch n) F S C r S' C' r' o
      by q e true b h = inside q e b h.0 h.1
      by q e false b h = outside q e b h.0

      go : (x : ℤ) → cell_of S (r.top - 1) ≡ x → Fetches (located x n variables) n variables (r.top - 1) S r S' r' o × (C' ≡ C) → Did k (instr.Fetch n) F S C r S' C' r' o
      go (pos q) e h = by q e (is_within q n variables) refl h
      go (negsuc m) e h =
          faults k (instr.Fetch n) F S C r (λ s. refl) refl (r.top - 1) (negsuc m ∷ []) (omega (arith, fits.operands)) (omega (arith, some)) refl fits.top (abbreviated (negsuc m) e) fits.first fits.end Index S' C' r' o h.0 (λ offers rest. refl)

  -- the operands of a `Put`
  put-operands : (n : ℕ) → Fits k (instr.Put n) S C r → between (r.top - n - 1) r.top S ≡ cell_of S (r.top - n - 1) ∷ between (r.top - n) r.top S
  put-operands n fits =
      let place : ℕ = r.top - n - 1 in
      let e : place + 1 ≡ r.top - n = omega (arith, fits.operands) in
      between-split place (place + 1) r.top S (omega arith) (omega (arith, fits.operands)) fits.top
      ∙ ap (λ (xs : List ℤ). xs ++ between (place + 1) r.top S) (between-one S place (omega (arith, fits.operands, fits.top)))
      ∙ ap (λ (m : ℕ). cell_of S place ∷ between m r.top S) e

  put-long : (n : ℕ) → Fits k (instr.Put n) S C r → length (between (r.top - n) r.top S) ≡ n
  put-long n fits = (let e : length (between (r.top - n) r.top S) ≡ r.top - (r.top - n) = length-between (r.top - n) r.top S fits.top in omega (arith, e, fits.operands))

  module _ (n : ℕ) (fits : Fits k (instr.Put n) S C r) where
    abbrev new : List ℤ
    new = between (r.top - n) r.top S

    abbrev place : ℕ
    place = r.top - n - 1

    -- what it does, by whether the offset is within the variables
    abbrev put-if : ℕ → Bool → List (ℕ × Alt) → List Grant → Outcome Store Next
    put-if q b offers rest = and_then ((if b then stored_in new q variables else index_fault) (store k (instr.Put n) F S C r offers) (left k (instr.Put n) F S C r rest)) (λ _. go_to (r.at + 1) new)

    put-inside : (q : ℕ) → cell_of S place ≡ pos q → is_within q n variables ≡ true → Puts new place S r S' r' o → C' ≡ with_cells (r.first + q) new C → Did k (instr.Put n) F S C r S' C' r' o
    put-inside q e b p c =
        let long : length new ≡ n = put-long n fits in
        let v : length variables ≡ r.end - r.first = long-variables (instr.Put n) fits in
        let w : q + n ≤ length variables = at-most (q + n) (length variables) b in
        let within : r.first + q + length new ≤ r.end = omega (arith, long, v, w, fits.first) in
        let t : is_within q (length new) variables ≡ true = ap (λ (m : ℕ). is_within q m variables) long ∙ b in
        gives-cells k (instr.Put n) F S C r (λ s. refl) refl place (pos q ∷ new) (omega (arith, fits.operands)) (omega (arith, long, fits.operands)) (omega (arith, long)) fits.top (put-operands n fits ∙ ap (λ (z : ℤ). z ∷ new) e) fits.first fits.end
        (r.at + 1) new S' C' r' o p.0 p.1 p.2 (omega (arith, long, fits.operands, fits.top))
        (ap length c ∙ length-with (r.first + q) new C (omega (arith, within, fits.end)))
        (ap (take r.first) c ∙ below-put C new (r.first + q) (omega (arith, within, fits.end)) r.first (omega arith))
        (λ offers rest. ap (λ (b : Bool). put-if q b offers rest) t
        ∙ ap (λ (xs : List ℤ). Through (record { address = r.at + 1; given = new }) (record { cells = xs; offers = offers }) (left k (instr.Put n) F S C r rest)) (sym (ap (between r.first r.end) c ∙ variables-put r.first q r.end new C within fits.end)))

    put-outside : (q : ℕ) → cell_of S place ≡ pos q → is_within q n variables ≡ false → o ≡ Some (Fault Index) → Did k (instr.Put n) F S C r S' C' r' o
    put-outside q e b p =
        let long : length new ≡ n = put-long n fits in
        let t : is_within q (length new) variables ≡ false = ap (λ (m : ℕ). is_within q m variables) long ∙ b in
        faults k (instr.Put n) F S C r (λ s. refl) refl place (pos q ∷ new) (omega (arith, fits.operands)) (omega (arith, long, fits.operands)) (omega (arith, long)) fits.top (put-operands n fits ∙ ap (λ (z : ℤ). z ∷ new) e) fits.first fits.end
        Index S' C' r' o p (λ offers rest. ap (λ (b : Bool). put-if q b offers rest) t)

    put-at : (x : ℤ) → cell_of S place ≡ x → Stores (located x n variables) new place S C r S' C' r' o → Did k (instr.Put n) F S C r S' C' r' o
    put-at (pos q) e h = by (is_within q n variables) refl h
      where
        by : (b : Bool) → is_within q n variables ≡ b → Stores (located_if b q) new place S C r S' C' r' o → Did k (instr.Put n) F S C r S' C' r' o
        by true b h = put-inside q e b h.0 h.1
        by false b h = put-outside q e b h
    put-at (negsuc m) e h =
        let long : length new ≡ n = put-long n fits in
        faults k (instr.Put n) F S C r (λ s. refl) refl place (negsuc m ∷ new) (omega (arith, fits.operands)) (omega (arith, long, fits.operands)) (omega (arith, long)) fits.top (put-operands n fits ∙ ap (λ (z : ℤ). z ∷ new) e) fits.first fits.end
        Index S' C' r' o h (λ offers rest. refl)

    put-did : Acts (instr.Put n) S C r S' C' r' o → Did k (instr.Put n) F S C r S' C' r' o
    put-did h = put-at (cell_of S place) refl h

  module _ (t : NumberType) (d : ℤ) (fits : Fits k (instr.Bump t d) S C r) where
    bump-some : 0 < r.top
    bump-some = omega (arith, fits.operands)

    bump-operand : (x : ℤ) → cell_of S (r.top - 1) ≡ x → between (r.top - 1) r.top S ≡ x ∷ []
    bump-operand x e = top-one S r.top bump-some fits.top ∙ ap (λ (z : ℤ). z ∷ []) e

    abbrev bump-if : ℕ → Bool → List (ℕ × Alt) → List Grant → Outcome Store Next
    bump-if q b offers rest = and_then ((if b then bumped_in t d q variables else index_fault) (store k (instr.Bump t d) F S C r offers) (left k (instr.Bump t d) F S C r rest)) (λ ws. go_to (r.at + 1) ws)

    abbrev bump-to : ℕ → Result ℤ FaultKind → List (ℕ × Alt) → List Grant → Outcome Store Next
    bump-to q u offers rest = and_then (and_then (or_fault u (store k (instr.Bump t d) F S C r offers) (left k (instr.Bump t d) F S C r rest)) (bumped_to q variables)) (λ ws. go_to (r.at + 1) ws)

    bump-inside : (q : ℕ) → cell_of S (r.top - 1) ≡ pos q → is_within q 1 variables ≡ true → (u : Result ℤ FaultKind) → updated Add t Int (get_or C (r.first + q) (pos 0)) d ≡ u
        → Updates u q (r.top - 1) S C r S' C' r' o → Did k (instr.Bump t d) F S C r S' C' r' o
    bump-inside q e b u f h = by u f h
      where
        v : length variables ≡ r.end - r.first
        v = long-variables (instr.Bump t d) fits

        w : q + 1 ≤ length variables
        w = at-most (q + 1) (length variables) b

        within : r.first + q < r.end
        within = omega (arith, v, w, fits.first)

        old : get_or variables q (pos 0) ≡ get_or C (r.first + q) (pos 0)
        old = variable-at r.first r.end q C within fits.end

        works-to : (u : Result ℤ FaultKind) → updated Add t Int (get_or C (r.first + q) (pos 0)) d ≡ u → (offers : List (ℕ × Alt)) (rest : List Grant)
            → works k (r.at + 1) (instr.Bump t d) (pos q ∷ []) (store k (instr.Bump t d) F S C r offers) (left k (instr.Bump t d) F S C r rest) ≡ bump-to q u offers rest
        works-to u f offers rest =
            ap (λ (b : Bool). bump-if q b offers rest) b
            ∙ ap (λ (x : ℤ). bump-to q (updated Add t Int x d) offers rest) old
            ∙ ap (λ (u : Result ℤ FaultKind). bump-to q u offers rest) f

        by : (u : Result ℤ FaultKind) → updated Add t Int (get_or C (r.first + q) (pos 0)) d ≡ u → Updates u q (r.top - 1) S C r S' C' r' o → Did k (instr.Bump t d) F S C r S' C' r' o
        by (Ok z) f h =
            let c : C' ≡ with_cells (r.first + q) (z ∷ []) C = h.1 ∙ set-with C (r.first + q) z (omega (arith, within, fits.end)) in
            gives-cells k (instr.Bump t d) F S C r (λ s. refl) refl (r.top - 1) (pos q ∷ []) (omega (arith, fits.operands)) (omega (arith, bump-some)) refl fits.top (bump-operand (pos q) e) fits.first fits.end
            (r.at + 1) (get_or C (r.first + q) (pos 0) ∷ []) S' C' r' o h.0.0 (h.0.1 ∙ set-with S (r.top - 1) (get_or C (r.first + q) (pos 0)) (omega (arith, bump-some, fits.top))) h.0.2 (omega (arith, bump-some, fits.top))
            (ap length c ∙ length-with (r.first + q) (z ∷ []) C (omega (arith, within, fits.end)))
            (ap (take r.first) c ∙ below-put C (z ∷ []) (r.first + q) (omega (arith, within, fits.end)) r.first (omega arith))
            (λ offers rest. works-to (Ok z) f offers rest
            ∙ ap (λ (x : ℤ). Through (record { address = r.at + 1; given = x ∷ [] }) (record { cells = with_cells q (z ∷ []) variables; offers = offers }) (left k (instr.Bump t d) F S C r rest)) old
            ∙ ap (λ (xs : List ℤ). Through (record { address = r.at + 1; given = get_or C (r.first + q) (pos 0) ∷ [] }) (record { cells = xs; offers = offers }) (left k (instr.Bump t d) F S C r rest)) (sym (ap (between r.first r.end) c ∙ variables-put r.first q r.end (z ∷ []) C (omega (arith, within)) fits.end)))
        by (Err kind) f h =
            faults k (instr.Bump t d) F S C r (λ s. refl) refl (r.top - 1) (pos q ∷ []) (omega (arith, fits.operands)) (omega (arith, bump-some)) refl fits.top (bump-operand (pos q) e) fits.first fits.end kind S' C' r' o h (λ offers rest. works-to (Err kind) f offers rest)

    bump-at : (x : ℤ) → cell_of S (r.top - 1) ≡ x → Bumps t d (located x 1 variables) (r.top - 1) S C r S' C' r' o → Did k (instr.Bump t d) F S C r S' C' r' o
    bump-at (pos q) e h = by (is_within q 1 variables) refl h
      where
        by : (b : Bool) → is_within q 1 variables ≡ b → Bumps t d (located_if b q) (r.top - 1) S C r S' C' r' o → Did k (instr.Bump t d) F S C r S' C' r' o
        by true b h = bump-inside q e b (updated Add t Int (get_or C (r.first + q) (pos 0)) d) refl h
        by false b h =
            faults k (instr.Bump t d) F S C r (λ s. refl) refl (r.top - 1) (pos q ∷ []) (omega (arith, fits.operands)) (omega (arith, bump-some)) refl fits.top (bump-operand (pos q) e) fits.first fits.end Index S' C' r' o h (λ offers rest. ap (λ (b : Bool). bump-if q b offers rest) b)
    bump-at (negsuc m) e h =
        faults k (instr.Bump t d) F S C r (λ s. refl) refl (r.top - 1) (negsuc m ∷ []) (omega (arith, fits.operands)) (omega (arith, bump-some)) refl fits.top (bump-operand (negsuc m) e) fits.first fits.end Index S' C' r' o h (λ offers rest. refl)

    bump-did : Acts (instr.Bump t d) S C r S' C' r' o → Did k (instr.Bump t d) F S C r S' C' r' o
    bump-did h = bump-at (cell_of S (r.top - 1)) refl h

  module _ (z n : ℕ) (fits : Fits k (instr.Zero z n) S C r) where
    abbrev zero-if : Bool → List (ℕ × Alt) → List Grant → Outcome Store Next
    zero-if b offers rest = and_then ((if b then stored_in (replicate n (pos 0)) z variables else index_fault) (store k (instr.Zero z n) F S C r offers) (left k (instr.Zero z n) F S C r rest)) (λ _. go_to (r.at + 1) [])

    zero-long : length (replicate n (pos 0)) ≡ n
    zero-long = length-replicate n (pos 0)

    zero-by : (b : Bool) → is_within z n variables ≡ b → Clears (located_if b z) n C r C' r' o → S' ≡ S → Did k (instr.Zero z n) F S C r S' C' r' o
    zero-by true b h s =
        let v : length variables ≡ r.end - r.first = long-variables (instr.Zero z n) fits in
        let w : z + n ≤ length variables = at-most (z + n) (length variables) b in
        let within : r.first + z + length (replicate n (pos 0)) ≤ r.end = omega (arith, zero-long, v, w, fits.first) in
        let t : is_within z (length (replicate n (pos 0))) variables ≡ true = ap (λ (m : ℕ). is_within z m variables) zero-long ∙ b in
        gives-cells k (instr.Zero z n) F S C r (λ s. refl) refl r.top [] fits.low (add-zero r.top) refl fits.top (top-none S r.top fits.top) fits.first fits.end
        (r.at + 1) [] S' C' r' o h.0 (s ∙ with-none S r.top) (h.2 ∙ ap (λ (m : ℕ). moved r (r.at + 1) m) (sym (add-zero r.top))) (omega (arith, fits.top))
        (ap length h.1 ∙ length-with (r.first + z) (replicate n (pos 0)) C (omega (arith, within, fits.end)))
        (ap (take r.first) h.1 ∙ below-put C (replicate n (pos 0)) (r.first + z) (omega (arith, within, fits.end)) r.first (omega arith))
        (λ offers rest. ap (λ (b : Bool). zero-if b offers rest) t
        ∙ ap (λ (xs : List ℤ). Through (record { address = r.at + 1; given = [] }) (record { cells = xs; offers = offers }) (left k (instr.Zero z n) F S C r rest)) (sym (ap (between r.first r.end) h.1 ∙ variables-put r.first z r.end (replicate n (pos 0)) C within fits.end)))
    zero-by false b h s =
        let t : is_within z (length (replicate n (pos 0))) variables ≡ false = ap (λ (m : ℕ). is_within z m variables) zero-long ∙ b in
        faults k (instr.Zero z n) F S C r (λ s. refl) refl r.top [] fits.low (add-zero r.top) refl fits.top (top-none S r.top fits.top) fits.first fits.end
        Index S' C' r' o h (λ offers rest. ap (λ (b : Bool). zero-if b offers rest) t)

    zero-did : Acts (instr.Zero z n) S C r S' C' r' o → Did k (instr.Zero z n) F S C r S' C' r' o
    zero-did h = zero-by (is_within z n variables) refl h.0 h.1

  module _ (p n m : ℕ) (fits : Fits k (instr.Part p n m) S C r) where
    part-long : length (between (r.top - n) r.top S) ≡ n
    part-long = (let e : length (between (r.top - n) r.top S) ≡ r.top - (r.top - n) = length-between (r.top - n) r.top S fits.top in omega (arith, e, fits.operands))

    part-by : (b : Bool) → nat_le (p + m) n ≡ b → PutsIf b (take m (drop p (between (r.top - n) r.top S))) (r.top - n) S r S' r' o → C' ≡ C → Did k (instr.Part p n m) F S C r S' C' r' o
    part-by true b h c =
        puts k (instr.Part p n m) F S C r (λ s. refl) refl (r.top - n) (between (r.top - n) r.top S) (omega (arith, fits.operands)) (omega (arith, part-long, fits.operands)) part-long fits.top refl fits.first fits.end
        (take m (drop p (between (r.top - n) r.top S))) S' C' r' o
        (let w : p + m ≤ n = at-most (p + m) n b in let l : length (take m (drop p (between (r.top - n) r.top S))) ≤ m = grind (arith, common_steps) in omega (arith, w, l, fits.operands, fits.top))
        (λ offers rest. ap (λ (b : Bool). (if b then go_to (r.at + 1) (take m (drop p (between (r.top - n) r.top S))) else index_fault) (store k (instr.Part p n m) F S C r offers) (left k (instr.Part p n m) F S C r rest)) b) h c
    part-by false b h c =
        faults k (instr.Part p n m) F S C r (λ s. refl) refl (r.top - n) (between (r.top - n) r.top S) (omega (arith, fits.operands)) (omega (arith, part-long, fits.operands)) part-long fits.top refl fits.first fits.end
        Index S' C' r' o h
        (λ offers rest. ap (λ (b : Bool). (if b then go_to (r.at + 1) (take m (drop p (between (r.top - n) r.top S))) else index_fault) (store k (instr.Part p n m) F S C r offers) (left k (instr.Part p n m) F S C r rest)) b)

    part-did : Acts (instr.Part p n m) S C r S' C' r' o → Did k (instr.Part p n m) F S C r S' C' r' o
    part-did h = part-by (nat_le (p + m) n) refl h.0 h.1

  module _ (d n : ℕ) (fits : Fits k (instr.Pick d n) S C r) where
    abbrev array : List ℤ
    array = between (r.top - (d * n + 1)) r.top S

    array-long : length array ≡ d * n + 1
    array-long = (let e : length array ≡ r.top - (r.top - (d * n + 1)) = length-between (r.top - (d * n + 1)) r.top S fits.top in omega (arith, e, fits.operands))

    array-index : get_or array (d * n) (pos 0) ≡ cell_of S (r.top - 1)
    array-index = between-cell (r.top - (d * n + 1)) r.top (d * n) S (r.top - 1) (omega (arith, fits.operands)) (omega (arith, fits.operands)) fits.top

    abbrev pick-by : Result ℕ FaultKind → List (ℕ × Alt) → List Grant → Outcome Store Next
    pick-by u offers rest = and_then (and_then (or_fault u (store k (instr.Pick d n) F S C r offers) (left k (instr.Pick d n) F S C r rest)) (element_cells n array)) (λ ws. go_to (r.at + 1) ws)

    pick-at : (u : Result ℕ FaultKind) → indexed d (cell_of S (r.top - 1)) ≡ u → PicksAt u n array (r.top - (d * n + 1)) S r S' r' o → C' ≡ C → Did k (instr.Pick d n) F S C r S' C' r' o
    pick-at (Ok i) e h c =
        puts k (instr.Pick d n) F S C r (λ s. refl) refl (r.top - (d * n + 1)) array (omega (arith, fits.operands)) (omega (arith, array-long, fits.operands)) array-long fits.top refl fits.first fits.end
        (take n (drop (i * n) array)) S' C' r' o (let l : length (take n (drop (i * n) array)) ≤ n = taken-at-most n (drop (i * n) array) in omega (arith, l, fits.room))
        (λ offers rest. ap (λ (x : ℤ). pick-by (indexed d x) offers rest) array-index ∙ ap (λ (u : Result ℕ FaultKind). pick-by u offers rest) e) h c
    pick-at (Err kind) e h c =
        faults k (instr.Pick d n) F S C r (λ s. refl) refl (r.top - (d * n + 1)) array (omega (arith, fits.operands)) (omega (arith, array-long, fits.operands)) array-long fits.top refl fits.first fits.end kind S' C' r' o h
        (λ offers rest. ap (λ (x : ℤ). pick-by (indexed d x) offers rest) array-index ∙ ap (λ (u : Result ℕ FaultKind). pick-by u offers rest) e)

    pick-did : Acts (instr.Pick d n) S C r S' C' r' o → Did k (instr.Pick d n) F S C r S' C' r' o
    pick-did h = pick-at (indexed d (cell_of S (r.top - 1))) refl h.0 h.1

  jump-did : (a : ℕ) → Fits k (instr.Jump a) S C r → Acts (instr.Jump a) S C r S' C' r' o → Did k (instr.Jump a) F S C r S' C' r' o
  jump-did a fits h =
      gives-cells k (instr.Jump a) F S C r (λ s. refl) refl r.top [] fits.low (add-zero r.top) refl fits.top (top-none S r.top fits.top) fits.first fits.end
      a [] S' C' r' o h.0 (h.1 ∙ with-none S r.top) (h.3 ∙ ap (λ (m : ℕ). moved r a m) (sym (add-zero r.top))) (omega (arith, fits.top)) (ap length h.2) (ap (take r.first) h.2)
      (λ offers rest. ap (λ (D : List ℤ). Through (record { address = a; given = [] }) (record { cells = between r.first r.end D; offers = offers }) (left k (instr.Jump a) F S C r rest)) (sym h.2))

  jump_zero-did : (a : ℕ) → Fits k (instr.JumpZero a) S C r → Acts (instr.JumpZero a) S C r S' C' r' o → Did k (instr.JumpZero a) F S C r S' C' r' o
  jump_zero-did a fits h =
      let some : 0 < r.top = omega (arith, fits.operands) in
      let x : ℤ = cell_of S (r.top - 1) in
      gives-cells k (instr.JumpZero a) F S C r (λ s. refl) refl (r.top - 1) (x ∷ []) (omega (arith, fits.operands)) (omega (arith, some)) refl fits.top (top-one S r.top some fits.top) fits.first fits.end
      (at_zero x a (r.at + 1)) [] S' C' r' o h.0 (h.1 ∙ with-none S (r.top - 1)) (h.3 ∙ ap (λ (m : ℕ). moved r (at_zero x a (r.at + 1)) m) (sym (add-zero (r.top - 1)))) (omega (arith, fits.top)) (ap length h.2) (ap (take r.first) h.2)
      (λ offers rest. ap (λ (D : List ℤ). Through (record { address = at_zero x a (r.at + 1); given = [] }) (record { cells = between r.first r.end D; offers = offers }) (left k (instr.JumpZero a) F S C r rest)) (sym h.2))

  tick-by : (t : ℕ) → r.ticks ≡ t → Fits k instr.Tick S C r → Ticks t r r' o → S' ≡ S → C' ≡ C → Did k instr.Tick F S C r S' C' r' o
  tick-by zero e fits h s c = subst (Did k instr.Tick F S C r S' C' r') (sym h.0) (s, c, h.1)
  tick-by (suc n) e fits h s c =
      subst (λ (X : List ℤ). Did k instr.Tick F S C r X C' r' o) (sym s) (subst (λ (Y : List ℤ). Did k instr.Tick F S C r S Y r' o) (sym c) (subst (λ (q : Registers). Did k instr.Tick F S C r S C q o) (sym h.1) (subst (Did k instr.Tick F S C r S C (record r { at = r.at + 1; ticks = n; count = 0 })) (sym h.0) ((
        λ offers rest. ticked offers rest,
        record { stack = refl; cells = refl; below = refl; outside = refl; bottom = refl; first = refl; end = refl; calls = refl; top = fits.low; under = fits.top },
      )))))
    where
      ticked : (offers : List (ℕ × Alt)) (rest : List Grant) → performed k instr.Tick (with_grants (state_of r S C F offers) rest) ≡ Goes (with_grants (state_of (record r { at = r.at + 1; ticks = n; count = 0 }) S C F offers) rest)
      ticked offers rest =
          ap (λ (xs : List ℤ). popped 0 xs (worked_on k instr.Tick (with_grants (state_of r S C F offers) rest))) (sym (append-nil (between r.bottom r.top S)))
          ∙ popped-is (between r.bottom r.top S) [] 0 (worked_on k instr.Tick (with_grants (state_of r S C F offers) rest)) refl
          ∙ ap (λ (t : ℕ). after true (with_grants (state_of r S C F offers) rest) (between r.bottom r.top S) (and_then (spent t (store k instr.Tick F S C r offers) (left k instr.Tick F S C r rest)) (λ _. go_to (r.at + 1) []))) e
          ∙ ap (λ (xs : List ℤ). Goes (record { address = r.at + 1; stack = xs; store = store k instr.Tick F S C r offers; left = record { grants = rest; ticks = n }; count = 0; frames = callers F r.calls (take r.bottom S) (take r.first C) })) (append-nil (between r.bottom r.top S))

  -- what each instruction of the loop does
  pub acts-did : (i : Instr) → Fits k i S C r → Acts i S C r S' C' r' o → Did k i F S C r S' C' r' o
  acts-did (instr.Const v) fits h = const-did v fits h
  acts-did (instr.Zeros n) fits h = zeros-did n fits h
  acts-did (instr.Drop n) fits h = drop-did n fits h
  acts-did instr.Dup fits h = dup-did fits h
  acts-did (instr.Field n) fits h = one (instr.Field n) fits (λ s. refl) refl refl refl (further (cell_of S (r.top - 1)) n) (λ st l. refl) h
  acts-did (instr.Index d n) fits h =
      two (instr.Index d n) fits (λ s. refl) refl refl refl (element_at d n (cell_of S (r.top - 2)) (cell_of S (r.top - 1)))
      (λ st l. ap (λ (x : Outcome Store ℤ). and_then x (λ v. go_to (r.at + 1) (v ∷ []))) (element-is n (cell_of S (r.top - 2) ∷ cell_of S (r.top - 1) ∷ []) (indexed d (cell_of S (r.top - 1))) st l)) h
  acts-did (instr.Fetch n) fits h = fetch-did n fits h
  acts-did (instr.Put n) fits h = put-did n fits h
  acts-did (instr.Bump t d) fits h = bump-did t d fits h
  acts-did (instr.Zero z n) fits h = zero-did z n fits h
  acts-did (instr.Part p n m) fits h = part-did p n m fits h
  acts-did (instr.Pick d n) fits h = pick-did d n fits h
  acts-did (instr.Add t) fits h = two (instr.Add t) fits (λ s. refl) refl refl refl (operated Add t (cell_of S (r.top - 2)) (cell_of S (r.top - 1))) (λ st l. refl) h
  acts-did (instr.Sub t) fits h = two (instr.Sub t) fits (λ s. refl) refl refl refl (operated Subtract t (cell_of S (r.top - 2)) (cell_of S (r.top - 1))) (λ st l. refl) h
  acts-did (instr.Mul t) fits h = two (instr.Mul t) fits (λ s. refl) refl refl refl (operated Multiply t (cell_of S (r.top - 2)) (cell_of S (r.top - 1))) (λ st l. refl) h
  acts-did (instr.Div t) fits h = two (instr.Div t) fits (λ s. refl) refl refl refl (operated Divide t (cell_of S (r.top - 2)) (cell_of S (r.top - 1))) (λ st l. refl) h
  acts-did (instr.Rem t) fits h = two (instr.Rem t) fits (λ s. refl) refl refl refl (operated Remainder t (cell_of S (r.top - 2)) (cell_of S (r.top - 1))) (λ st l. refl) h
  acts-did (instr.Neg t) fits h = one (instr.Neg t) fits (λ s. refl) refl refl refl (opposite t (cell_of S (r.top - 1))) (λ st l. refl) h
  acts-did instr.Lt fits h = two instr.Lt fits (λ s. refl) refl refl refl (Ok (truth (compared Less (cell_of S (r.top - 2)) (cell_of S (r.top - 1))))) (λ st l. refl) h
  acts-did instr.Le fits h = two instr.Le fits (λ s. refl) refl refl refl (Ok (truth (compared AtMost (cell_of S (r.top - 2)) (cell_of S (r.top - 1))))) (λ st l. refl) h
  acts-did instr.Gt fits h = two instr.Gt fits (λ s. refl) refl refl refl (Ok (truth (compared Greater (cell_of S (r.top - 2)) (cell_of S (r.top - 1))))) (λ st l. refl) h
  acts-did instr.Ge fits h = two instr.Ge fits (λ s. refl) refl refl refl (Ok (truth (compared AtLeast (cell_of S (r.top - 2)) (cell_of S (r.top - 1))))) (λ st l. refl) h
  acts-did instr.Eq fits h = two instr.Eq fits (λ s. refl) refl refl refl (Ok (truth (compared Equal (cell_of S (r.top - 2)) (cell_of S (r.top - 1))))) (λ st l. refl) h
  acts-did instr.Ne fits h = two instr.Ne fits (λ s. refl) refl refl refl (Ok (truth (compared Different (cell_of S (r.top - 2)) (cell_of S (r.top - 1))))) (λ st l. refl) h
  acts-did instr.Not fits h = one instr.Not fits (λ s. refl) refl refl refl (Ok (logical_not (cell_of S (r.top - 1)))) (λ st l. refl) h
  acts-did (instr.Narrow t) fits h = one (instr.Narrow t) fits (λ s. refl) refl refl refl (converted Long t (cell_of S (r.top - 1))) (λ st l. refl) h
  acts-did (instr.Jump a) fits h = jump-did a fits h
  acts-did (instr.JumpZero a) fits h = jump_zero-did a fits h
  acts-did instr.Tick fits h = tick-by r.ticks refl fits h.0 h.1 h.2
  acts-did i fits h = subst (Did k i F S C r S' C' r') (sym h.0) (h.1, h.2, h.3)
