-- A value and its cells: each gives the other.
use Rattle.std.proofs.Common.{◌≡◌, ◌⊎◌, ℕ, ℤ, zero, suc, pos, ◌+◌, ◌-◌, ◌<◌, ◌≤◌, List, [], ◌∷◌, ◌++◌, length, get_or, take, drop, replicate, refl, sym, ap, ◌∙◌, subst, arith, append_assoc, length-append, length-drop, append-nil, take_all}
use Rattle.std.proofs.lemmas.List.{take_at, drop_at, drop-drop, length-take-le, take-append-drop, replicate-append-replicate, length-replicate, drop_all}
use Rattle.cc_typed.specs.Layout.{Layout, One, Several, Layouts, no_layouts, and_layout, cells, cells_all, cells_before, cells_each, count, layout_at, layouts_in, part_layout, offset, Leads}
use Rattle.cc_typed.specs.Values.{Value, Number, Many, Values, no_values, and_value, AreOf, flat, flat_all, flats, unflat, unflat_all, unflats, zero_of, zeros_of, HasLayout, HaveLayouts, value_among, set_among, values_in, part, read, store, fetch, put}
use Rattle.cc_typed.proofs.Ranges.{length-fetch, length-put, fetch-within, fetch-put, get_or-put-other, put-put, take-put, drop-put}

mutual
  unfolding flat cells HasLayout

  pub length-flat : (l : Layout) (v : Value) → HasLayout l v → length (flat v) ≡ cells l
  length-flat One (Number n) h = refl
  length-flat One (Many vs) h = absurd h
  length-flat (Several ls) (Number n) h = absurd h
  length-flat (Several ls) (Many vs) h = length-flat_all ls vs h

  pub length-flat_all : (ls : Layouts) (vs : Values) → HaveLayouts ls vs → length (flat_all vs) ≡ cells_all ls
  length-flat_all no_layouts no_values h = refl
  length-flat_all no_layouts (and_value v vs) h = absurd h
  length-flat_all (and_layout l ls) no_values h = absurd h
  length-flat_all (and_layout l ls) (and_value v vs) h = omega (arith, length-append (flat v) (flat_all vs), length-flat l v h.0, length-flat_all ls vs h.1)

single : (cs : List ℤ) → length cs ≡ 1 → get_or cs 0 (pos 0) ∷ [] ≡ cs
single [] e = absurd (omega (arith, e))
single (c ∷ []) e = refl
single (c ∷ (d ∷ cs)) e = absurd (omega (arith, e))

none : (cs : List ℤ) → length cs ≡ 0 → [] ≡ cs
none [] e = refl
none (c ∷ cs) e = absurd (omega (arith, e))

-- cells of the right number are those of their value
mutual
  unfolding flat cells unflat

  pub flat-unflat : (l : Layout) (cs : List ℤ) → length cs ≡ cells l → flat (unflat l cs) ≡ cs
  flat-unflat One cs e = single cs e
  flat-unflat (Several ls) cs e = flat-unflat_all ls cs e

  pub flat-unflat_all : (ls : Layouts) (cs : List ℤ) → length cs ≡ cells_all ls → flat_all (unflat_all ls cs) ≡ cs
  flat-unflat_all no_layouts cs e = none cs e
  flat-unflat_all (and_layout l ls) cs e =
      ap (λ xs. xs ++ flat_all (unflat_all ls (drop (cells l) cs))) (flat-unflat l (take (cells l) cs) (length-take-le (cells l) cs (omega (arith, e))))
      ∙ ap (λ xs. take (cells l) cs ++ xs) (flat-unflat_all ls (drop (cells l) cs) (omega (arith, e, length-drop (cells l) cs)))
      ∙ take-append-drop (cells l) cs

-- a value is that of its cells
mutual
  unfolding flat cells unflat HasLayout

  pub unflat-flat : (l : Layout) (v : Value) → HasLayout l v → unflat l (flat v) ≡ v
  unflat-flat One (Number n) h = refl
  unflat-flat One (Many vs) h = absurd h
  unflat-flat (Several ls) (Number n) h = absurd h
  unflat-flat (Several ls) (Many vs) h = ap Many (unflat-flat_all ls vs h)

  pub unflat-flat_all : (ls : Layouts) (vs : Values) → HaveLayouts ls vs → unflat_all ls (flat_all vs) ≡ vs
  unflat-flat_all no_layouts no_values h = refl
  unflat-flat_all no_layouts (and_value v vs) h = absurd h
  unflat-flat_all (and_layout l ls) no_values h = absurd h
  unflat-flat_all (and_layout l ls) (and_value v vs) h =
      let n = length-flat l v h.0 in
      ap (λ xs. and_value (unflat l xs) (unflat_all ls (drop (cells l) (flat v ++ flat_all vs)))) (take_at (flat v) (flat_all vs) (cells l) n)
      ∙ ap (λ w. and_value w (unflat_all ls (drop (cells l) (flat v ++ flat_all vs)))) (unflat-flat l v h.0)
      ∙ ap (λ xs. and_value v (unflat_all ls xs)) (drop_at (flat v) (flat_all vs) (cells l) n)
      ∙ ap (and_value v) (unflat-flat_all ls vs h.1)

mutual
  unfolding unflat HasLayout

  pub unflat-has : (l : Layout) (cs : List ℤ) → HasLayout l (unflat l cs)
  unflat-has One cs = tt
  unflat-has (Several ls) cs = unflat-have ls cs

  pub unflat-have : (ls : Layouts) (cs : List ℤ) → HaveLayouts ls (unflat_all ls cs)
  unflat-have no_layouts cs = tt
  unflat-have (and_layout l ls) cs = (unflat-has l (take (cells l) cs), unflat-have ls (drop (cells l) cs))

-- the same of values in order
pub length-flats : (ls : List Layout) (vs : List Value) → AreOf ls vs → length (flats vs) ≡ cells_each ls
length-flats [] [] h = refl
length-flats [] (v ∷ vs) h = absurd h
length-flats (l ∷ ls) [] h = absurd h
length-flats (l ∷ ls) (v ∷ vs) h = omega (arith, length-append (flat v) (flats vs), length-flat l v h.0, length-flats ls vs h.1)

pub flats-unflats : (ls : List Layout) (cs : List ℤ) → length cs ≡ cells_each ls → flats (unflats ls cs) ≡ cs
flats-unflats [] cs e = none cs e
flats-unflats (l ∷ ls) cs e =
    ap (λ xs. xs ++ flats (unflats ls (drop (cells l) cs))) (flat-unflat l (take (cells l) cs) (length-take-le (cells l) cs (omega (arith, e))))
    ∙ ap (λ xs. take (cells l) cs ++ xs) (flats-unflats ls (drop (cells l) cs) (omega (arith, e, length-drop (cells l) cs)))
    ∙ take-append-drop (cells l) cs

pub unflats-flats : (ls : List Layout) (vs : List Value) → AreOf ls vs → unflats ls (flats vs) ≡ vs
unflats-flats [] [] h = refl
unflats-flats [] (v ∷ vs) h = absurd h
unflats-flats (l ∷ ls) [] h = absurd h
unflats-flats (l ∷ ls) (v ∷ vs) h =
    let n = length-flat l v h.0 in
    ap (λ xs. unflat l xs ∷ unflats ls (drop (cells l) (flat v ++ flats vs))) (take_at (flat v) (flats vs) (cells l) n)
    ∙ ap (λ w. w ∷ unflats ls (drop (cells l) (flat v ++ flats vs))) (unflat-flat l v h.0)
    ∙ ap (λ xs. v ∷ unflats ls xs) (drop_at (flat v) (flats vs) (cells l) n)
    ∙ ap (λ ws. v ∷ ws) (unflats-flats ls vs h.1)

pub unflats-are : (ls : List Layout) (cs : List ℤ) → AreOf ls (unflats ls cs)
unflats-are [] cs = tt
unflats-are (l ∷ ls) cs = (unflat-has l (take (cells l) cs), unflats-are ls (drop (cells l) cs))

take-replicate : (n m : ℕ) → take n (replicate (n + m) (pos 0)) ≡ replicate n (pos 0)
take-replicate n m = ap (take n) (sym (replicate-append-replicate n m (pos 0))) ∙ take_at (replicate n (pos 0)) (replicate m (pos 0)) n (length-replicate n (pos 0))

drop-replicate : (n m : ℕ) → drop n (replicate (n + m) (pos 0)) ≡ replicate m (pos 0)
drop-replicate n m = ap (drop n) (sym (replicate-append-replicate n m (pos 0))) ∙ drop_at (replicate n (pos 0)) (replicate m (pos 0)) n (length-replicate n (pos 0))

mutual
  unfolding unflat zero_of cells

  pub zero-unflat : (l : Layout) → unflat l (replicate (cells l) (pos 0)) ≡ zero_of l
  zero-unflat One = refl
  zero-unflat (Several ls) = ap Many (zeros-unflat ls)

  pub zeros-unflat : (ls : Layouts) → unflat_all ls (replicate (cells_all ls) (pos 0)) ≡ zeros_of ls
  zeros-unflat no_layouts = refl
  zeros-unflat (and_layout l ls) =
      ap (λ xs. and_value (unflat l xs) (unflat_all ls (drop (cells l) (replicate (cells l + cells_all ls) (pos 0))))) (take-replicate (cells l) (cells_all ls))
      ∙ ap (λ xs. and_value (unflat l (replicate (cells l) (pos 0))) (unflat_all ls xs)) (drop-replicate (cells l) (cells_all ls))
      ∙ ap (λ v. and_value v (unflat_all ls (replicate (cells_all ls) (pos 0)))) (zero-unflat l)
      ∙ ap (and_value (zero_of l)) (zeros-unflat ls)

-- a part lies within the cells
pub room : (ls : Layouts) (k : ℕ) → k < count ls → cells_before ls k + cells (layout_at ls k) ≤ cells_all ls
unfolding cells cells_before
room no_layouts k lt = absurd (omega arith)
room (and_layout l ls) zero lt = omega arith
room (and_layout l ls) (suc k) lt = omega (arith, room ls k (omega arith))

pub inside : (path : List ℕ) (l m : Layout) → Leads l path m → offset l path + cells m ≤ cells l
unfolding cells
inside [] l m e = omega (arith, ap cells e)
inside (k ∷ path) One m e = absurd (omega (arith, e.0))
inside (k ∷ path) (Several ls) m e = omega (arith, room ls k e.0, inside path (layout_at ls k) m e.1)

pub part-unflat : (ls : Layouts) (cs : List ℤ) (k : ℕ) → k < count ls → value_among (unflat_all ls cs) k ≡ unflat (layout_at ls k) (fetch (cells (layout_at ls k)) (cells_before ls k) cs)
unfolding unflat cells_before
part-unflat no_layouts cs k lt = absurd (omega arith)
part-unflat (and_layout l ls) cs zero lt = refl
part-unflat (and_layout l ls) cs (suc k) lt =
    part-unflat ls (drop (cells l) cs) k (omega arith)
    ∙ ap (λ xs. unflat (layout_at ls k) (take (cells (layout_at ls k)) xs)) (drop-drop (cells_before ls k) (cells l) cs)

-- what a path leads to is the value of a range of the cells
pub read-unflat : (path : List ℕ) (l m : Layout) (cs : List ℤ) → Leads l path m → length cs ≡ cells l → read path (unflat l cs) ≡ unflat m (fetch (cells m) (offset l path) cs)
unfolding unflat cells
read-unflat [] l m cs e n = ap (λ k. unflat k cs) e ∙ ap (unflat m) (sym (take_all (cells m) cs (omega (arith, n, ap cells e))))
read-unflat (k ∷ path) One m cs e n = absurd (omega (arith, e.0))
read-unflat (k ∷ path) (Several ls) m cs e n =
    let part = layout_at ls k in
    let before = cells_before ls k in
    ap (read path) (part-unflat ls cs k e.0)
    ∙ read-unflat path part m (fetch (cells part) before cs) e.1 (length-fetch (cells part) before cs (omega (arith, n, room ls k e.0)))
    ∙ ap (unflat m) (sym (fetch-within (cells m) (offset part path) (cells part) before cs (inside path part m e.1)))

put-front : (ws cs : List ℤ) → put 0 ws cs ≡ ws ++ drop (length ws) cs
put-front ws cs = let e : 0 + length ws ≡ length ws = omega arith in ap (λ k. ws ++ drop k cs) e

set-unflat : (ls : Layouts) (cs xs : List ℤ) (k : ℕ) → k < count ls → length cs ≡ cells_all ls → length xs ≡ cells (layout_at ls k)
    → set_among (unflat_all ls cs) k (unflat (layout_at ls k) xs) ≡ unflat_all ls (put (cells_before ls k) xs cs)
unfolding unflat cells_before cells
set-unflat no_layouts cs xs k lt n m = absurd (omega arith)
set-unflat (and_layout l ls) cs xs zero lt n m =
    ap (λ ys. and_value (unflat l ys) (unflat_all ls (drop (cells l) cs))) (sym (take_at xs (drop (length xs) cs) (cells l) m))
    ∙ ap (λ ys. and_value (unflat l (take (cells l) (xs ++ drop (length xs) cs))) (unflat_all ls ys)) (ap (λ k. drop k cs) (sym m) ∙ sym (drop_at xs (drop (length xs) cs) (cells l) m))
    ∙ ap (λ ys. and_value (unflat l (take (cells l) ys)) (unflat_all ls (drop (cells l) ys))) (sym (put-front xs cs))
set-unflat (and_layout l ls) cs xs (suc k) lt n m =
    let r = room ls k (omega arith) in
    ap (and_value (unflat l (take (cells l) cs))) (set-unflat ls (drop (cells l) cs) xs k (omega arith) (omega (arith, n, length-drop (cells l) cs)) m)
    ∙ ap (λ ys. and_value (unflat l ys) (unflat_all ls (put (cells_before ls k) xs (drop (cells l) cs)))) (sym (take-put (cells l) (cells_before ls k) xs cs (omega (arith, n, r))))
    ∙ ap (λ ys. and_value (unflat l (take (cells l) (put (cells l + cells_before ls k) xs cs))) (unflat_all ls ys)) (sym (drop-put (cells l) (cells_before ls k) xs cs (omega (arith, n, r))))

-- the value with another where a path leads is that of the cells with others there
pub store-unflat : (path : List ℕ) (l m : Layout) (cs ws : List ℤ) → Leads l path m → length cs ≡ cells l → length ws ≡ cells m
    → store path (unflat m ws) (unflat l cs) ≡ unflat l (put (offset l path) ws cs)
unfolding unflat cells
store-unflat [] l m cs ws e n w =
    ap (λ k. unflat k ws) (sym e) ∙ ap (unflat l) (sym (append-nil ws) ∙ ap (λ xs. ws ++ xs) (sym (drop_all (length ws) cs (omega (arith, n, w, ap cells e)))) ∙ sym (put-front ws cs))
store-unflat (k ∷ path) One m cs ws e n w = absurd (omega (arith, e.0))
store-unflat (k ∷ path) (Several ls) m cs ws e n w =
    let part = layout_at ls k in
    let before = cells_before ls k in
    let r = room ls k e.0 in
    let i = inside path part m e.1 in
    let f = length-fetch (cells part) before cs (omega (arith, n, r)) in
    ap (λ v. Many (set_among (unflat_all ls cs) k (store path (unflat m ws) v))) (part-unflat ls cs k e.0)
    ∙ ap (λ v. Many (set_among (unflat_all ls cs) k v)) (store-unflat path part m (fetch (cells part) before cs) ws e.1 f w)
    ∙ ap Many (set-unflat ls cs (put (offset part path) ws (fetch (cells part) before cs)) k e.0 n (length-put (offset part path) ws (fetch (cells part) before cs) (omega (arith, f, w, i)) ∙ f))
    ∙ ap (λ xs. Many (unflat_all ls xs)) (put-put before (offset part path) ws cs (cells part) (omega (arith, w, i)) (omega (arith, n, r)))

-- the same of values

pub flat-read : (path : List ℕ) (l m : Layout) (v : Value) → HasLayout l v → Leads l path m → flat (read path v) ≡ fetch (cells m) (offset l path) (flat v)
flat-read path l m v h e =
    let n = length-flat l v h in
    ap (λ w. flat (read path w)) (sym (unflat-flat l v h)) ∙ ap flat (read-unflat path l m (flat v) e n)
    ∙ flat-unflat m (fetch (cells m) (offset l path) (flat v)) (length-fetch (cells m) (offset l path) (flat v) (omega (arith, n, inside path l m e)))

pub read-has : (path : List ℕ) (l m : Layout) (v : Value) → HasLayout l v → Leads l path m → HasLayout m (read path v)
read-has path l m v h e =
    subst (HasLayout m) (sym (read-unflat path l m (flat v) e (length-flat l v h)) ∙ ap (read path) (unflat-flat l v h)) (unflat-has m (fetch (cells m) (offset l path) (flat v)))

stored-unflat : (path : List ℕ) (l m : Layout) (new v : Value) → HasLayout l v → HasLayout m new → Leads l path m → store path new v ≡ unflat l (put (offset l path) (flat new) (flat v))
stored-unflat path l m new v h g e =
    ap (λ w. store path w v) (sym (unflat-flat m new g)) ∙ ap (store path (unflat m (flat new))) (sym (unflat-flat l v h))
    ∙ store-unflat path l m (flat v) (flat new) e (length-flat l v h) (length-flat m new g)

pub flat-store : (path : List ℕ) (l m : Layout) (new v : Value) → HasLayout l v → HasLayout m new → Leads l path m → flat (store path new v) ≡ put (offset l path) (flat new) (flat v)
flat-store path l m new v h g e =
    let n = length-flat l v h in
    ap flat (stored-unflat path l m new v h g e)
    ∙ flat-unflat l (put (offset l path) (flat new) (flat v)) (length-put (offset l path) (flat new) (flat v) (omega (arith, n, length-flat m new g, inside path l m e)) ∙ n)

pub store-has : (path : List ℕ) (l m : Layout) (new v : Value) → HasLayout l v → HasLayout m new → Leads l path m → HasLayout l (store path new v)
store-has path l m new v h g e = subst (HasLayout l) (sym (stored-unflat path l m new v h g e)) (unflat-has l (put (offset l path) (flat new) (flat v)))

-- what is read after a store
pub read-store : (path : List ℕ) (l m : Layout) (new v : Value) → HasLayout l v → HasLayout m new → Leads l path m → read path (store path new v) ≡ new
read-store path l m new v h g e =
    let n = length-flat l v h in
    let w = length-flat m new g in
    let i = inside path l m e in
    let same : cells m ≡ length (flat new) = sym w in
    ap (read path) (stored-unflat path l m new v h g e)
    ∙ read-unflat path l m (put (offset l path) (flat new) (flat v)) e (length-put (offset l path) (flat new) (flat v) (omega (arith, n, w, i)) ∙ n)
    ∙ ap (unflat m) (ap (λ k. fetch k (offset l path) (put (offset l path) (flat new) (flat v))) same ∙ fetch-put (offset l path) (flat new) (flat v) (omega (arith, n, w, i)))
    ∙ unflat-flat m new g

-- the other cells stay
pub store-others : (path : List ℕ) (l m : Layout) (new v : Value) (i : ℕ) → HasLayout l v → HasLayout m new → Leads l path m
    → (i < offset l path) ⊎ (offset l path + cells m ≤ i) → get_or (flat (store path new v)) i (pos 0) ≡ get_or (flat v) i (pos 0)
store-others path l m new v i h g e out =
    let n = length-flat l v h in
    let w = length-flat m new g in
    ap (λ cs. get_or cs i (pos 0)) (flat-store path l m new v h g e)
    ∙ get_or-put-other (offset l path) i (flat new) (flat v) (pos 0) (subst (λ k. (i < offset l path) ⊎ (offset l path + k ≤ i)) (sym w) out) (omega (arith, n, w, inside path l m e))
