-- What a grant makes of the lists is what it makes of the code's state.
use Rattle.std.proofs.Common.{◌≡◌, ℕ, ℤ, Bool, true, zero, suc, ◌+◌, ◌-◌, ◌<◌, ◌≤◌, List, [], ◌∷◌, ◌++◌, append_assoc, add_assoc, drop, length, length-append, take, Option, Some, None, refl, sym, ◌∙◌, ap, subst, arith, slice_get}
use Rattle.std.specs.Prelude.{slice_set}
use Rattle.std.proofs.Math.Seq.{drop-append-add}
use Rattle.std.proofs.lemmas.List.{drop-drop, take_at}
use Rattle.cc_base.specs.Limits.{ticks_granted}
use Rattle.cc_base.specs.Outcome.{Asked, Left, Outcome, Through}
use Rattle.cc_base.specs.declared.alternatives.Alt.{Alt}
use Rattle.cc_base.specs.declared.names.FaultKind.{FaultKind}
use Rattle.cc_base.specs.declared.request.Grant.{Grant}
use Rattle.cc_base.specs.declared.request.Request.TheVariants as request
use Rattle.cc_code.proofs.Lists.{take_next}
use Rattle.cc_code.specs.Operands.{takes}
use Rattle.cc_code.specs.Steps.{Asks, Goes, State, Stops, after, performed, popped, renews, step, stepped, with_grants, within_bound, worked, worked_on}
use Rattle.cc_code.specs.Works.{Next, Store, with_cells, works}
use Rattle.cc_code.specs.declared.code.RawCode.{RawCode}
use Rattle.cc_code.specs.declared.instr.Instr.{Instr}
use Rattle.cc_code.specs.declared.instr.Instr.TheVariants as instr
use Rattle.cc_vm.proofs.Between.{below-put, between-put, between-split, length-with, set-with, taken}
use Rattle.cc_vm.proofs.Fragments.{popped-is}
use Rattle.cc_vm.specs.Granting.{granted}
use Rattle.cc_vm.specs.Machine.{between, callers, state_of}
use Rattle.cc_vm.specs.declared.registers.Frame.{Frame}
use Rattle.cc_vm.specs.declared.registers.Registers.{Registers}

-- cells that are written one after the other
behind : (A D : List ℤ) (n m : ℕ) → length A ≡ n → drop (n + m) (A ++ D) ≡ drop m D
behind A D n m e = ap (λ (i : ℕ). drop (i + m) (A ++ D)) (sym e) ∙ drop-append-add A D m

pub one-more-cell : (S cells : List ℤ) (p n : ℕ) (z : ℤ) → p + length cells ≤ length S → slice_get cells n ≡ Some z
    → slice_set (with_cells p (take n cells) S) (p + n) z ≡ with_cells p (take (n + 1) cells) S
one-more-cell S cells p n z h e =
    let b : n < length cells = below cells n z e in
    let xs : List ℤ = take n cells in
    let l : length xs ≡ n = taken n cells (omega (arith, b)) in
    let A : List ℤ = take p S ++ xs in
    let tp : length (take p S) ≡ p = taken p S (omega (arith, h)) in
    let s : length A ≡ length (take p S) + length xs = length-append (take p S) xs in
    let a : length A ≡ p + n = omega (arith, s, tp, l) in
    let T : List ℤ = with_cells p xs S in
    let long : length T ≡ length S = length-with p xs S (omega (arith, l, h, b)) in
    let m : p + length xs ≡ p + n = omega (arith, l) in
    let next : take (n + 1) cells ≡ xs ++ z ∷ [] = take_next cells n z e in
    let k : length (xs ++ z ∷ []) ≡ n + 1 = (let q : length (xs ++ z ∷ []) ≡ length xs + 1 = length-append xs (z ∷ []) in omega (arith, q, l)) in
    let r : p + n + 1 ≡ p + length (xs ++ z ∷ []) = omega (arith, k) in
    set-with T (p + n) z (omega (arith, long, h, b))
    ∙ ap (λ (ys : List ℤ). (ys ++ z ∷ []) ++ drop (p + n + 1) T) (take_at A (drop (p + length xs) S) (p + n) a)
    ∙ ap (λ (ys : List ℤ). (A ++ z ∷ []) ++ ys)
    (behind A (drop (p + length xs) S) (p + n) 1 a ∙ ap (λ (i : ℕ). drop 1 (drop i S)) m ∙ drop-drop 1 (p + n) S ∙ ap (λ (i : ℕ). drop i S) r)
    ∙ ap (λ (ys : List ℤ). ys ++ drop (p + length (xs ++ z ∷ [])) S) (append_assoc (take p S) xs (z ∷ []))
    ∙ ap (λ (ys : List ℤ). with_cells p ys S) (sym next)
  where
    below : (ys : List ℤ) (i : ℕ) (x : ℤ) → slice_get ys i ≡ Some x → i < length ys
    below [] i x q = cc
    below (y ∷ ys) zero x q = omega arith
    below (y ∷ ys) (suc i) x q = (let w : i < length ys = below ys i x q in omega (arith, w))

-- an instruction that is worked, with the grant that it takes
module _ (k : RawCode) (i : Instr) (F : List Frame) (S C : List ℤ) (r : Registers) (at : slice_get k.instrs r.at ≡ Some i) (is-worked : (s : State) → performed k i s ≡ worked k i s) (renewed : renews i ≡ true) (offers : List (ℕ × Alt)) (g : Grant) (rest : List Grant) where
  abbrev asking : State
  asking = with_grants (state_of r S C F offers) (g ∷ rest)

  abbrev store : Store
  store = record { cells = between r.first r.end C; offers = offers }

  abbrev left : Left
  left = record { grants = g ∷ rest; ticks = r.ticks }

  pub worked-with : (place : ℕ) (vs : List ℤ) → r.bottom ≤ place → place ≤ r.top → r.top ≤ length S → between place r.top S ≡ vs → length vs ≡ takes k i
      → step k asking ≡ within_bound (after true asking (between r.bottom place S) (works k (r.at + 1) i vs store left))
  worked-with place vs low high top these size =
      ap (λ (o : Option Instr). stepped k o asking) at
      ∙ ap within_bound (
      is-worked asking
      ∙ ap (λ (xs : List ℤ). popped (takes k i) xs (worked_on k i asking)) (between-split r.bottom place r.top S low high top ∙ ap (λ (xs : List ℤ). between r.bottom place S ++ xs) these)
      ∙ popped-is (between r.bottom place S) vs (takes k i) (worked_on k i asking) size
      ∙ ap (λ (b : Bool). after b asking (between r.bottom place S) (works k (r.at + 1) i vs store left)) renewed)

  -- it goes on with these cells in the place of its operands
  pub goes-with : (place : ℕ) (vs given : List ℤ) (address : ℕ) → r.bottom ≤ place → place ≤ r.top → r.top ≤ length S → between place r.top S ≡ vs → length vs ≡ takes k i → place + length given ≤ length S
      → works k (r.at + 1) i vs store left ≡ Through (record { address = address; given = given }) store (record { grants = rest; ticks = ticks_granted })
      → step k asking ≡ Goes (with_grants (state_of (granted r address (place + length given)) (with_cells place given S) C F offers) rest)
  goes-with place vs given address low high top these size room w =
      let fit : place ≤ length S = omega (arith, high, top) in
      worked-with place vs low high top these size
      ∙ ap (λ (o : Outcome Store Next). within_bound (after true asking (between r.bottom place S) o)) w
      ∙ ap (λ (xs : List ℤ). Goes (record { address = address; stack = xs; store = store; left = record { grants = rest; ticks = ticks_granted }; count = 0; frames = callers F r.calls (take r.bottom S) (take r.first C) })) (sym (between-put S given place fit r.bottom low))
      ∙ ap (λ (xs : List ℤ). Goes (record { address = address; stack = between r.bottom (place + length given) (with_cells place given S); store = store; left = record { grants = rest; ticks = ticks_granted }; count = 0; frames = callers F r.calls xs (take r.first C) })) (sym (below-put S given place fit r.bottom low))

  -- or it is at fault
  pub faults-with : (place : ℕ) (vs : List ℤ) (kind : FaultKind) → r.bottom ≤ place → place ≤ r.top → r.top ≤ length S → between place r.top S ≡ vs → length vs ≡ takes k i
      → works k (r.at + 1) i vs store left ≡ Asked (request.Fault kind) → step k asking ≡ Stops (Asks (request.Fault kind))
  faults-with place vs kind low high top these size w =
      worked-with place vs low high top these size ∙ ap (λ (o : Outcome Store Next). within_bound (after true asking (between r.bottom place S) o)) w
