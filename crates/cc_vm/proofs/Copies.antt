-- Cells that are copied from place to place.
use Rattle.std.proofs.Common.{◌≡◌, ℕ, ℤ, pos, negsuc, suc, ◌+◌, ◌-◌, ◌*◌, ◌<◌, ◌≤◌, Bool, true, false, List, ◌++◌, append_assoc, length, length-append, drop, take, Option, Some, None, Result, Ok, Err, refl, sym, ◌∙◌, ap, subst, arith}
use Rattle.std.specs.Prelude.{nat_le, nat_lt, if◌then◌else◌}
use Rattle.std.proofs.lemmas.Bool.Decides.{nat_tests}
use Rattle.cc_base.specs.Numbers.{indexed}
use Rattle.cc_base.specs.declared.names.FaultKind.{FaultKind}
use Rattle.cc_base.specs.declared.names.FaultKind.TheVariants.{Index}
use Rattle.cc_vm.proofs.Acts.{at-most}
use Rattle.cc_vm.specs.declared.registers.Registers.{Registers}
use Rattle.std.proofs.Math.Nat.{mul-le-mul_right}
use Rattle.std.proofs.lemmas.Grind.{common_steps}
use Rattle.std.proofs.lemmas.List.{drop-drop, drop-take, drop_at, take_at}
use Rattle.cc_code.specs.Works.{is_within, with_cells}
use Rattle.cc_vm.proofs.Between.{length-between, taken, variables-at}
use Rattle.cc_vm.specs.Machine.{AreWithin, Fetches, PicksAt, Puts, PutsIf, Stores, between, located, located_if, moved}

-- so many cells up to a place
pub cells-up-to : (from n top : ℕ) (S : List ℤ) → from + n ≡ top → take n (drop from S) ≡ between from top S
cells-up-to from n top S e = sym (drop-take from n S) ∙ ap (λ (t : ℕ). drop from (take t S)) e

pub taken-from : (from n : ℕ) (S : List ℤ) → from + n ≤ length S → length (take n (drop from S)) ≡ n
taken-from from n S h = grind (arith, common_steps)

-- cells that are written behind others that were
pub with-twice : (p : ℕ) (g h S : List ℤ) → p + length g + length h ≤ length S → with_cells (p + length g) h (with_cells p g S) ≡ with_cells p (g ++ h) S
with-twice p g h S room =
    let long : length (take p S ++ g) ≡ p + length g = length-append (take p S) g ∙ ap (λ (n : ℕ). n + length g) (taken p S (omega (arith, room))) in
    let n : ℕ = p + length g in
    let both : length (g ++ h) ≡ length g + length h = length-append g h in
    let rest : drop (n + length h) (with_cells p g S) ≡ drop (p + length (g ++ h)) S =
    sym (drop-drop (length h) n (with_cells p g S))
    ∙ ap (drop (length h)) (drop_at (take p S ++ g) (drop n S) n long)
    ∙ drop-drop (length h) n S
    ∙ ap (λ (m : ℕ). drop m S) (let e : n + length h ≡ p + length (g ++ h) = omega (arith, both) in e) in
    ap (λ (xs : List ℤ). xs ++ h ++ drop (n + length h) (with_cells p g S)) (take_at (take p S ++ g) (drop n S) n long)
    ∙ ap (λ (xs : List ℤ). take p S ++ g ++ h ++ xs) rest
    ∙ ap (λ (xs : List ℤ). xs ++ drop (p + length (g ++ h)) S) (append_assoc (take p S) g h)

at-most-true : (a b : ℕ) → a ≤ b → nat_le a b ≡ true
at-most-true a b h = grind (arith, nat_tests)

-- an index that is one
pub index-below : (d : ℕ) (x : ℤ) (i : ℕ) → indexed d x ≡ Ok i → i < d
unfolding indexed
index-below d (pos n) i e = by (nat_lt n d) refl e
  where
    by : (b : Bool) → nat_lt n d ≡ b → (if b then Ok n else Err Index) ≡ Ok i → i < d
    by true b e = (let f : n ≡ i = cc in let g : n < d = grind (arith, nat_tests) in omega (arith, f, g))
    by false b e = absurd (let f : Err Index ≡ Ok i = e in cc)
index-below d (negsuc n) i e = absurd (let f : Err Index ≡ Ok i = e in cc)

-- an element within an array
pub element-within : (i d n : ℕ) → i < d → i * n + n ≤ d * n
element-within i d n b = (let h : suc i * n ≤ d * n = mul-le-mul_right n b in omega arith)

-- what is located is within the variables
pub located-within : (x : ℤ) (n : ℕ) (V : List ℤ) (o : ℕ) → located x n V ≡ Some o → o + n ≤ length V
located-within (pos q) n V o e = by (is_within q n V) refl e
  where
    by : (b : Bool) → is_within q n V ≡ b → located_if b q ≡ Some o → o + n ≤ length V
    by true b e = (let f : q ≡ o = cc in let g : q + n ≤ length V = at-most (q + n) (length V) b in omega (arith, f, g))
    by false b e = absurd (let f : None ≡ Some o = e in cc)
located-within (negsuc m) n V o e = absurd (let f : None ≡ Some o = e in cc)

module _ (S C : List ℤ) (r : Registers) (within : AreWithin r (length S) (length C)) (n offset : ℕ) (x : ℤ) (is : Some offset ≡ located x n (between r.first r.end C)) where
  located-end : r.first + offset + n ≤ r.end
  located-end =
      let v : length (between r.first r.end C) ≡ r.end - r.first = length-between r.first r.end C within.end in
      let l : offset + n ≤ length (between r.first r.end C) = located-within x n (between r.first r.end C) offset (sym is) in
      omega (arith, v, l, within.first)

  pub located-here : r.first + offset + n ≤ length C
  located-here = omega (arith, located-end, within.end)

  pub fetched-so : (place : ℕ) (S' : List ℤ) (r' : Registers) → S' ≡ with_cells place (take n (drop (r.first + offset) C)) S → r' ≡ moved r (r.at + 1) (place + n)
      → Fetches (located x n (between r.first r.end C)) n (between r.first r.end C) place S r S' r' None
  fetched-so place S' r' e f =
      let same : take n (drop offset (between r.first r.end C)) ≡ take n (drop (r.first + offset) C) = variables-at r.first r.end offset n C located-end within.end in
      let long : length (take n (drop offset (between r.first r.end C))) ≡ n = ap length same ∙ taken-from (r.first + offset) n C located-here in
      subst (λ (o : Option ℕ). Fetches o n (between r.first r.end C) place S r S' r' None) is
      (refl, e ∙ ap (λ (xs : List ℤ). with_cells place xs S) (sym same), f ∙ ap (λ (m : ℕ). moved r (r.at + 1) (place + m)) (sym long))

  pub stored-so : (from place : ℕ) (S' C' : List ℤ) (r' : Registers) → from + n ≡ r.top → C' ≡ with_cells (r.first + offset) (take n (drop from S)) C → S' ≡ with_cells place (take n (drop from S)) S
      → r' ≡ moved r (r.at + 1) (place + n) → Stores (located x n (between r.first r.end C)) (between from r.top S) place S C r S' C' r' None
  stored-so from place S' C' r' t c e f =
      let same : take n (drop from S) ≡ between from r.top S = cells-up-to from n r.top S t in
      let long : length (between from r.top S) ≡ n = sym (ap length same) ∙ taken-from from n S (omega (arith, t, within.top)) in
      subst (λ (o : Option ℕ). Stores o (between from r.top S) place S C r S' C' r' None) is (
        (refl, e ∙ ap (λ (xs : List ℤ). with_cells place xs S) same, f ∙ ap (λ (m : ℕ). moved r (r.at + 1) (place + m)) (sym long)),
        c ∙ ap (λ (xs : List ℤ). with_cells (r.first + offset) xs C) same,
      )

-- cells of those between two places
pub part-of : (place top from n : ℕ) (S : List ℤ) → place + from + n ≤ top → top ≤ length S → take n (drop from (between place top S)) ≡ take n (drop (place + from) S)
part-of place top from n S h b = variables-at place top from n S h b

module _ (S : List ℤ) (r : Registers) (S' : List ℤ) (r' : Registers) where
  -- cells of the operands, moved down to the place where these begin
  pub moved-down : (place from n : ℕ) → place + from + n ≤ r.top → r.top ≤ length S → S' ≡ with_cells place (take n (drop (place + from) S)) S → r' ≡ moved r (r.at + 1) (place + n)
      → Puts (take n (drop from (between place r.top S))) place S r S' r' None
  moved-down place from n h b e f =
      let same : take n (drop from (between place r.top S)) ≡ take n (drop (place + from) S) = part-of place r.top from n S h b in
      let long : length (take n (drop from (between place r.top S))) ≡ n = ap length same ∙ taken-from (place + from) n S (omega (arith, h, b)) in
      (refl, e ∙ ap (λ (xs : List ℤ). with_cells place xs S) (sym same), f ∙ ap (λ (m : ℕ). moved r (r.at + 1) (place + m)) (sym long))

  pub parted : (from count kept : ℕ) → from + kept ≤ count → count ≤ r.top → r.top ≤ length S
      → S' ≡ with_cells (r.top - count) (take kept (drop (r.top - count + from) S)) S → r' ≡ moved r (r.at + 1) (r.top - count + kept)
      → PutsIf (nat_le (from + kept) count) (take kept (drop from (between (r.top - count) r.top S))) (r.top - count) S r S' r' None
  parted from count kept h t b e f =
      subst (λ (x : Bool). PutsIf x (take kept (drop from (between (r.top - count) r.top S))) (r.top - count) S r S' r' None) (sym (at-most-true (from + kept) count h))
      (moved-down (r.top - count) from kept (omega (arith, h, t)) b e f)

  pub picked-so : (d n i : ℕ) (x : ℤ) → Ok i ≡ indexed d x → d * n < r.top → r.top ≤ length S → (array : ℕ) → array ≡ r.top - (d * n + 1)
      → S' ≡ with_cells array (take n (drop (array + i * n) S)) S → r' ≡ moved r (r.at + 1) (array + n)
      → PicksAt (indexed d x) n (between (r.top - (d * n + 1)) r.top S) (r.top - (d * n + 1)) S r S' r' None
  picked-so d n i x is t b array a e f =
      let w : i * n + n ≤ d * n = element-within i d n (index-below d x i (sym is)) in
      subst (λ (u : Result ℕ FaultKind). PicksAt u n (between (r.top - (d * n + 1)) r.top S) (r.top - (d * n + 1)) S r S' r' None) is
      (subst (λ (p : ℕ). Puts (take n (drop (i * n) (between p r.top S))) p S r S' r' None) a (moved-down array (i * n) n (omega (arith, a, w, t)) b e f))
