-- Cells between places of a list, and what writing cells into the list makes of them.
use Rattle.std.proofs.Common.{◌≡◌, ℕ, ℤ, pos, suc, ◌+◌, ◌-◌, ◌<◌, ◌≤◌, List, [], ◌∷◌, ◌++◌, append_assoc, add_assoc, length, length-append, drop, take, drop-cons, sym, ◌∙◌, ap, arith, add-one}
use Rattle.std.specs.Prelude.{slice_set}
use Rattle.std.proofs.Math.Seq.{take-append-add}
use Rattle.std.proofs.lemmas.List.{drop-append-le, drop-drop, drop-take, set_split, take-append-drop, take-append-le, take-take, take_at}
use Rattle.std.proofs.lemmas.Grind.{common_steps}
use Rattle.cc_code.specs.Works.{with_cells}
use Rattle.cc_vm.specs.Machine.{between, cell_of}

pub taken : (p : ℕ) (S : List ℤ) → p ≤ length S → length (take p S) ≡ p
taken p S h = grind (arith, common_steps)

pub length-between : (b t : ℕ) (S : List ℤ) → t ≤ length S → length (between b t S) ≡ t - b
length-between b t S h = grind (arith, common_steps)

pub length-with : (p : ℕ) (g S : List ℤ) → p + length g ≤ length S → length (with_cells p g S) ≡ length S
length-with p g S h = grind (arith, common_steps)

module _ (S g : List ℤ) (p : ℕ) (here : p ≤ length S) where
  front : length (take p S ++ g) ≡ p + length g
  front = length-append (take p S) g ∙ ap (λ (n : ℕ). n + length g) (taken p S here)

  -- cells that were written end the operands
  pub between-put : (b : ℕ) → b ≤ p → between b (p + length g) (with_cells p g S) ≡ between b p S ++ g
  between-put b h =
      ap (drop b) (take_at (take p S ++ g) (drop (p + length g) S) (p + length g) front)
      ∙ drop-append-le b (take p S) g (let e : length (take p S) ≡ p = taken p S here in omega (arith, e, h))

  -- those below stay
  pub below-put : (b : ℕ) → b ≤ p → take b (with_cells p g S) ≡ take b S
  below-put b h =
      let e : length (take p S) ≡ p = taken p S here in
      take-append-le b (take p S ++ g) (drop (p + length g) S) (omega (arith, front, h))
      ∙ take-append-le b (take p S) g (omega (arith, e, h))
      ∙ take-take b p S h

-- cells up to a place, and from there on
pub between-split : (b p t : ℕ) (S : List ℤ) → b ≤ p → p ≤ t → t ≤ length S → between b t S ≡ between b p S ++ between p t S
between-split b p t S bp pt ts =
    let cut : take p (take t S) ≡ take p S = take-take p t S pt in
    let e : length (take p S) ≡ p = taken p S (omega (arith, pt, ts)) in
    ap (drop b) (sym (take-append-drop p (take t S)) ∙ ap (λ (xs : List ℤ). xs ++ drop p (take t S)) cut)
    ∙ drop-append-le b (take p S) (drop p (take t S)) (omega (arith, e, bp))

pub drop-cell : (S : List ℤ) (p : ℕ) → p < length S → drop p S ≡ cell_of S p ∷ drop (suc p) S
drop-cell S p h = drop-cons S p (pos 0) h

pub between-one : (S : List ℤ) (p : ℕ) → p < length S → between p (p + 1) S ≡ cell_of S p ∷ []
between-one S p h = drop-take p 1 S ∙ ap (take 1) (drop-cell S p h)

pub between-two : (S : List ℤ) (p : ℕ) → suc p < length S → between p (p + 2) S ≡ cell_of S p ∷ cell_of S (suc p) ∷ []
between-two S p h =
    drop-take p 2 S ∙ ap (take 2) (drop-cell S p (omega (arith, h)) ∙ ap (λ (xs : List ℤ). cell_of S p ∷ xs) (drop-cell S (suc p) h))

-- one cell that was written
pub set-with : (S : List ℤ) (p : ℕ) (z : ℤ) → p < length S → slice_set S p z ≡ with_cells p (z ∷ []) S
set-with S p z h = set_split S p z h ∙ sym (append_assoc (take p S) (z ∷ []) (drop (suc p) S)) ∙ ap (λ (n : ℕ). take p S ++ z ∷ [] ++ drop n S) (sym (add-one p))

-- the cells up to an end, of which some before it were written
taken-put : (q end : ℕ) (new C : List ℤ) → q + length new ≤ end → end ≤ length C → take end (with_cells q new C) ≡ with_cells q new (take end C)
taken-put q end new C within inside =
    let n : ℕ = q + length new in
    let m : ℕ = end - n in
    let sum : n + m ≡ end = omega (arith, within) in
    let long : length (take q C ++ new) ≡ n = front C new q (omega (arith, within, inside)) in
    ap (λ (e : ℕ). take e (with_cells q new C)) (sym sum ∙ ap (λ (l : ℕ). l + m) (sym long))
    ∙ take-append-add (take q C ++ new) (drop n C) m
    ∙ ap (λ (xs : List ℤ). take q C ++ new ++ xs) (sym (drop-take n m C) ∙ ap (λ (e : ℕ). drop n (take e C)) sum)
    ∙ ap (λ (xs : List ℤ). xs ++ new ++ drop n (take end C)) (sym (take-take q end C (omega (arith, within))))

-- the cells from a first place on, of which some behind it were written
dropped-put : (first o : ℕ) (new C : List ℤ) → first + o ≤ length C → drop first (with_cells (first + o) new C) ≡ with_cells o new (drop first C)
dropped-put first o new C h =
    let e : length (take (first + o) C) ≡ first + o = taken (first + o) C h in
    let f : length (take (first + o) C ++ new) ≡ first + o + length new = front C new (first + o) h in
    drop-append-le first (take (first + o) C ++ new) (drop (first + o + length new) C) (omega (arith, f))
    ∙ ap (λ (xs : List ℤ). xs ++ drop (first + o + length new) C) (drop-append-le first (take (first + o) C) new (omega (arith, e)))
    ∙ ap (λ (xs : List ℤ). xs ++ new ++ drop (first + o + length new) C) (drop-take first o C)
    ∙ ap (λ (xs : List ℤ). take o (drop first C) ++ new ++ xs) (ap (λ (n : ℕ). drop n C) (add_assoc first o (length new)) ∙ sym (drop-drop (o + length new) first C))

-- variables of which some were written
pub variables-put : (first o end : ℕ) (new C : List ℤ) → first + o + length new ≤ end → end ≤ length C
    → between first end (with_cells (first + o) new C) ≡ with_cells o new (between first end C)
variables-put first o end new C within inside =
    let e : length (take end C) ≡ end = taken end C inside in
    ap (drop first) (taken-put (first + o) end new C within inside) ∙ dropped-put first o new (take end C) (omega (arith, within, e))

-- so many of the variables are cells of the whole list
pub variables-at : (first end o n : ℕ) (C : List ℤ) → first + o + n ≤ end → end ≤ length C → take n (drop o (between first end C)) ≡ take n (drop (first + o) C)
variables-at first end o n C within inside =
    let m : ℕ = end - (first + o) in
    let sum : first + o + m ≡ end = omega (arith, within) in
    ap (take n) (drop-drop o first (take end C) ∙ ap (λ (e : ℕ). drop (first + o) (take e C)) (sym sum) ∙ drop-take (first + o) m C)
    ∙ take-take n m (drop (first + o) C) (omega (arith, within, sum))

pub variable-at : (first end o : ℕ) (C : List ℤ) → first + o < end → end ≤ length C → cell_of (between first end C) o ≡ cell_of C (first + o)
variable-at first end o C within inside = grind (arith, common_steps)

-- a single cell that was copied
pub set-copied : (S T : List ℤ) (to from : ℕ) → to < length T → from < length S → slice_set T to (cell_of S from) ≡ with_cells to (take 1 (drop from S)) T
set-copied S T to from h b = set-with T to (cell_of S from) h ∙ ap (λ (xs : List ℤ). with_cells to xs T) (sym (ap (take 1) (drop-cell S from b)))
