-- What is reached by places is what is reached in the code.
use Rattle.std.proofs.Common.{◌≡◌, ℕ, ◌+◌, ◌-◌, ◌<◌, ◌≤◌, ◌⊎◌, inl, inr, List, [], ◌∷◌, length, get_or, slice_get, Option, Some, None, Bool, true, false, refl, sym, ◌∙◌, ap, subst, arith, Contains}
use Rattle.std.specs.Prelude.{cond, nat_lt}
use Rattle.std.proofs.lemmas.Bool.Decides.{nat_tests}
use Rattle.std.proofs.lemmas.List.{get_or_past}
use Rattle.std.proofs.lemmas.Option.{slice_get_cases, slice_get_past, slice_get_within, slice_get-get_or}
use Rattle.cc_code.proofs.Lists.{from-map, in-map}
use Rattle.cc_code.proofs.Marked.{itself, nothing, only}
use Rattle.cc_code.specs.Control.{Reaches, start, onward, GoesTo, GoesWithin, addresses, successors, successors_if, successors_within}
use Rattle.cc_code.specs.Reach.{From, Leads, instr_ways, place_of, places_of, table_place, table_ways, ways, ways_after, ways_from}
use Rattle.cc_code.specs.Works.{table_at}
use Rattle.cc_code.specs.declared.code.RawCode.{RawCode}
use Rattle.cc_code.specs.declared.code.TableEntry.{TableEntry}
use Rattle.cc_code.specs.declared.instr.Instr.{Instr}
use Rattle.cc_code.specs.declared.instr.Instr.TheVariants as instr
use Rattle.cc_code.specs.declared.reach.Extent.{Extent}
use Rattle.cc_code.specs.declared.reach.Extent.TheVariants.{All, Select}

-- an instruction waits in a select, or its ways are its successors
ways-cases : (k : RawCode) (at : ℕ) (i : Instr) → ((j : ℕ) × (i ≡ instr.SelWait j)) ⊎ (instr_ways k All at i ≡ places_of k (successors k at i))
ways-cases k at (instr.SelWait j) = inl (j, refl)
ways-cases k at i = inr refl

module _ (k : RawCode) where
  -- a table's place is reached from an instruction that waits for it
  abbrev pub Waits : ℕ → ℕ → Type 0
  Waits a j = (w : ℕ) × Reaches (GoesTo k) (a ∷ []) w × (slice_get k.instrs w ≡ Some (instr.SelWait j))

  abbrev pub Reached : ℕ → ℕ → Type 0
  Reached a y = ((x : ℕ) → y ≡ place_of k x → Reaches (GoesTo k) (a ∷ []) x) × (y < length k.tables → Waits a y)

  same_place : (x y : ℕ) → place_of k x ≡ place_of k y → x ≡ y
  same_place x y e = omega arith

  no_table : (x y : ℕ) → y ≡ place_of k x → y < length k.tables → ⊥
  no_table x y e b = omega arith

  -- control goes on to an address whose place is among the ways
  goes : (at x : ℕ) (i : Instr) → slice_get k.instrs at ≡ Some i → Contains (successors k at i) x → GoesTo k at x
  goes at x i e c = subst (λ (o : Option Instr). Contains (successors_if k at o) x) (sym e) c

  by-successors : (a at y : ℕ) (i : Instr) → slice_get k.instrs at ≡ Some i → Reaches (GoesTo k) (a ∷ []) at → Contains (places_of k (successors k at i)) y → Reached a y
  by-successors a at y i e r c =
      let h : (x : ℕ) × Contains (successors k at i) x × (y ≡ place_of k x) = from-map (place_of k) (successors k at i) y c in (
        λ x f. let s : h.0 ≡ x = same_place h.0 x (sym h.2 ∙ f) in subst (λ (z : ℕ). Reaches (GoesTo k) (a ∷ []) z) s (onward r (goes at h.0 i e h.1)),
        λ b. absurd (no_table h.0 y h.2 b),
      )

  by-wait : (a at y j : ℕ) → slice_get k.instrs at ≡ Some (instr.SelWait j) → Reaches (GoesTo k) (a ∷ []) at → Contains (table_place k j) y → Reached a y
  by-wait a at y j e r c = go (nat_lt j (length k.tables)) refl c
    where
      go : (b : Bool) → nat_lt j (length k.tables) ≡ b → Contains (cond b (j ∷ []) []) y → Reached a y
      go true t d =
          let f : j ≡ y = only j y d in
          let within : j < length k.tables = grind (arith, nat_tests) in (
            λ x g. absurd (no_table x y g (subst (λ (z : ℕ). z < length k.tables) f within)),
            λ b. (at, r, subst (λ (z : ℕ). slice_get k.instrs at ≡ Some (instr.SelWait z)) f e),
          )
      go false t d = absurd (nothing y d)

  by-instr : (a at y : ℕ) (i : Instr) → slice_get k.instrs at ≡ Some i → Reaches (GoesTo k) (a ∷ []) at → Contains (instr_ways k All at i) y → Reached a y
  by-instr a at y i e r c = elim (ways-cases k at i) [
    | inl w ↦ by-wait a at y w.0 (subst (λ (o : Instr). slice_get k.instrs at ≡ Some o) w.1 e) r (subst (λ (o : Instr). Contains (instr_ways k All at o) y) w.1 c)
    | inr s ↦ by-successors a at y i e r (subst (λ (l : List ℕ). Contains l y) s c)
  ]

  table_of : (j : ℕ) (t : List TableEntry) → slice_get k.tables j ≡ Some t → table_at k j ≡ t
  table_of j t e =
      let b : j < length k.tables = slice_get_within k.tables j t e in
      let f : slice_get k.tables j ≡ Some (get_or k.tables j []) = slice_get-get_or k.tables j [] b in
      (let g : Some t ≡ Some (table_at k j) = sym e ∙ f in cc)

  by-table : (a z y : ℕ) (t : List TableEntry) → slice_get k.tables z ≡ Some t → Waits a z → Contains (table_ways k t) y → Reached a y
  by-table a z y t e w c =
      let h : (x : ℕ) × Contains (addresses t) x × (y ≡ place_of k x) = from-map (place_of k) (addresses t) y c in
      let there : Contains (addresses (table_at k z)) h.0 = subst (λ (l : List TableEntry). Contains (addresses l) h.0) (sym (table_of z t e)) h.1 in (
        λ x f. let s : h.0 ≡ x = same_place h.0 x (sym h.2 ∙ f) in subst (λ (v : ℕ). Reaches (GoesTo k) (a ∷ []) v) s (onward w.1 (goes w.0 h.0 (instr.SelWait z) w.2 there)),
        λ b. absurd (no_table h.0 y h.2 b),
      )

  reached-step : (a z y : ℕ) → Reached a z → Contains (ways k All z) y → Reached a y
  unfolding ways
  reached-step a z y r c = elim ((slice_get_cases k.tables z).1) [
    | inl h ↦ by-table a z y h.0 h.2 (r.1 h.1) (subst (λ (o : Option (List TableEntry)). Contains (ways_from k All z o) y) h.2 c)
    | inr h ↦ (let d : Contains (ways_after k All (z - length k.tables) (slice_get k.instrs (z - length k.tables))) y = subst (λ (o : Option (List TableEntry)). Contains (ways_from k All z o) y) h.1 c in
        let place : z ≡ place_of k (z - length k.tables) = omega (arith, h.0) in
        elim ((slice_get_cases k.instrs (z - length k.tables)).1) [
          | inl i ↦ by-instr a (z - length k.tables) y i.0 i.2 (r.0 (z - length k.tables) place) (subst (λ (o : Option Instr). Contains (ways_after k All (z - length k.tables) o) y) i.2 d)
          | inr i ↦ absurd (nothing y (subst (λ (o : Option Instr). Contains (ways_after k All (z - length k.tables) o) y) i.1 d))
        ])
  ]

  reached : (a y : ℕ) → From (ways k All) (place_of k a) y → Reached a y
  reached a y (Reaches.start c) =
      let e : place_of k a ≡ y = only (place_of k a) y c in (
        λ x f. let s : a ≡ x = same_place a x (e ∙ f) in subst (λ (z : ℕ). Reaches (GoesTo k) (a ∷ []) z) s (start (itself a)),
        λ b. absurd (no_table a y (sym e) b),
      )
  reached a y (Reaches.onward {x} r d) = reached-step a x y (reached a x r) d

  -- what places reach, the code does
  pub places-code : (a x : ℕ) → From (ways k All) (place_of k a) (place_of k x) → Reaches (GoesTo k) (a ∷ []) x
  places-code a x r = (reached a (place_of k x) r).0 x refl

  ways-at : (extent : Extent) (at : ℕ) → ways k extent (place_of k at) ≡ ways_after k extent at (slice_get k.instrs at)
  unfolding ways
  ways-at extent at =
      let none : slice_get k.tables (place_of k at) ≡ None = slice_get_past k.tables (place_of k at) (omega arith) in
      let less : place_of k at - length k.tables ≡ at = omega arith in
      ap (λ (o : Option (List TableEntry)). ways_from k extent (place_of k at) o) none ∙ ap (λ (n : ℕ). ways_after k extent n (slice_get k.instrs n)) less

  ways-table : (j : ℕ) (t : List TableEntry) → slice_get k.tables j ≡ Some t → ways k All j ≡ table_ways k t
  unfolding ways
  ways-table j t e = ap (λ (o : Option (List TableEntry)). ways_from k All j o) e

  onward-wait : (a z x j : ℕ) → slice_get k.instrs z ≡ Some (instr.SelWait j) → From (ways k All) (place_of k a) (place_of k z) → Contains (addresses (table_at k j)) x → From (ways k All) (place_of k a) (place_of k x)
  onward-wait a z x j e r c = elim ((slice_get_cases k.tables j).1) [
    | inl h ↦ (let t : List TableEntry = h.0 in
        let here : Contains (table_place k j) j = (let b : nat_lt j (length k.tables) ≡ true = grind (arith, nat_tests, h.1) in subst (λ (v : Bool). Contains (cond v (j ∷ []) []) j) (sym b) (itself j)) in
        let to-table : Contains (ways k All (place_of k z)) j = subst (λ (l : List ℕ). Contains l j) (sym (ways-at All z ∙ ap (λ (o : Option Instr). ways_after k All z o) e)) here in
        let from-table : Contains (ways k All j) (place_of k x) = subst (λ (l : List ℕ). Contains l (place_of k x)) (sym (ways-table j t h.2)) (in-map (place_of k) (addresses t) x (subst (λ (l : List TableEntry). Contains (addresses l) x) (table_of j t h.2) c)) in
        onward (onward r to-table) from-table)
    | inr h ↦ absurd (nothing x (subst (λ (l : List TableEntry). Contains (addresses l) x) (no_entries j h.0) c))
  ]
    where
      no_entries : (j : ℕ) → length k.tables ≤ j → table_at k j ≡ []
      no_entries j b = get_or_past k.tables j [] b

  onward-code : (a z x : ℕ) (o : Option Instr) → slice_get k.instrs z ≡ o → From (ways k All) (place_of k a) (place_of k z) → Contains (successors_if k z o) x → From (ways k All) (place_of k a) (place_of k x)
  onward-code a z x None e r c = absurd (nothing x c)
  onward-code a z x (Some i) e r c = elim (ways-cases k z i) [
    | inl w ↦ onward-wait a z x w.0 (subst (λ (o : Instr). slice_get k.instrs z ≡ Some o) w.1 e) r (subst (λ (o : Instr). Contains (successors k z o) x) w.1 c)
    | inr s ↦ onward r (subst (λ (l : List ℕ). Contains l (place_of k x)) (sym (ways-at All z ∙ ap (λ (o : Option Instr). ways_after k All z o) e ∙ s)) (in-map (place_of k) (successors k z i) x c))
  ]

  -- what the code reaches, places do
  pub code-places : (a x : ℕ) → Reaches (GoesTo k) (a ∷ []) x → From (ways k All) (place_of k a) (place_of k x)
  code-places a x (Reaches.start c) = subst (λ (z : ℕ). From (ways k All) (place_of k a) (place_of k z)) (only a x c) (start (itself (place_of k a)))
  code-places a y (Reaches.onward {x} r d) = onward-code a x y (slice_get k.instrs x) refl (code-places a x r) d

  -- a place leads to places of the code alone, and from them
  pub within : (extent : Extent) (x y : ℕ) → Leads (ways k extent) x y → x < length k.tables + length k.instrs
  unfolding ways
  within extent x y d = elim ((slice_get_cases k.tables x).1) [
    | inl h ↦ omega (arith, h.1)
    | inr h ↦ (let e : Contains (ways_after k extent (x - length k.tables) (slice_get k.instrs (x - length k.tables))) y = subst (λ (o : Option (List TableEntry)). Contains (ways_from k extent x o) y) h.1 d in
        elim ((slice_get_cases k.instrs (x - length k.tables)).1) [
          | inl i ↦ omega (arith, h.0, i.1)
          | inr i ↦ absurd (nothing y (subst (λ (o : Option Instr). Contains (ways_after k extent (x - length k.tables) o) y) i.1 e))
        ])
  ]

  select-ways : (at : ℕ) (o : Option Instr) → ways_after k Select at o ≡ places_of k (successors_within k at o)
  select-ways at None = refl
  select-ways at (Some (instr.SelWait j)) = refl
  select-ways at (Some instr.SelBegin) = refl
  select-ways at (Some i) = refl

  ways-within : (at : ℕ) → ways k Select (place_of k at) ≡ places_of k (successors_within k at (slice_get k.instrs at))
  ways-within at = ways-at Select at ∙ select-ways at (slice_get k.instrs at)

  within-step : (a z y x : ℕ) → z ≡ place_of k x → Reaches (GoesWithin k) (a ∷ []) x → Contains (ways k Select z) y → (v : ℕ) × (y ≡ place_of k v) × Reaches (GoesWithin k) (a ∷ []) v
  within-step a z y x e r d =
      let c : Contains (places_of k (successors_within k x (slice_get k.instrs x))) y = subst (λ (l : List ℕ). Contains l y) (ways-within x) (subst (λ (n : ℕ). Contains (ways k Select n) y) e d) in
      let h : (v : ℕ) × Contains (successors_within k x (slice_get k.instrs x)) v × (y ≡ place_of k v) = from-map (place_of k) (successors_within k x (slice_get k.instrs x)) y c in
      (h.0, h.2, onward r h.1)

  within-reached : (a y : ℕ) → From (ways k Select) (place_of k a) y → (v : ℕ) × (y ≡ place_of k v) × Reaches (GoesWithin k) (a ∷ []) v
  within-reached a y (Reaches.start c) = (a, sym (only (place_of k a) y c), start (itself a))
  within-reached a y (Reaches.onward {x = z} r d) =
      let h : (v : ℕ) × (z ≡ place_of k v) × Reaches (GoesWithin k) (a ∷ []) v = within-reached a z r in
      within-step a z y h.0 h.1 h.2 d

  -- the same within one select
  pub places-within : (a x : ℕ) → From (ways k Select) (place_of k a) (place_of k x) → Reaches (GoesWithin k) (a ∷ []) x
  places-within a x r =
      let h : (v : ℕ) × (place_of k x ≡ place_of k v) × Reaches (GoesWithin k) (a ∷ []) v = within-reached a (place_of k x) r in
      subst (λ (v : ℕ). Reaches (GoesWithin k) (a ∷ []) v) (sym (same_place x h.0 h.1)) h.2

  pub within-places : (a x : ℕ) → Reaches (GoesWithin k) (a ∷ []) x → From (ways k Select) (place_of k a) (place_of k x)
  within-places a x (Reaches.start c) = subst (λ (z : ℕ). From (ways k Select) (place_of k a) (place_of k z)) (only a x c) (start (itself (place_of k a)))
  within-places a y (Reaches.onward {x = z} r d) = onward (within-places a z r) (subst (λ (l : List ℕ). Contains l (place_of k y)) (sym (ways-within z)) (in-map (place_of k) (successors_within k z (slice_get k.instrs z)) y d))
