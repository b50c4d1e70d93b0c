-- Lists of cells that are cut or filled, and the values that they give.
use Rattle.std.proofs.Common.{◌≡◌, ℕ, ℤ, pos, zero, suc, ◌+◌, ◌-◌, ◌<◌, ◌≤◌, true, min, List, [], ◌∷◌, ◌++◌, length, take, drop, get_or, replicate, Some, None, refl, sym, ap, ◌∙◌, subst, arith, append_assoc, append-nil}
use Rattle.std.specs.Prelude.{slice_get}
use Rattle.std.proofs.lemmas.List.{drop_all, length-replicate, take-append-drop}
use Rattle.std.proofs.lemmas.Option.{unwrap_or-slice_get}
use Rattle.cc_source.specs.Gives.{Stand, blanks, fitted, fitted_each, seen}
use Rattle.cc_source.specs.Meaning.{zero_in}
use Rattle.cc_source.specs.Programs.{zero_all}
use Rattle.cc_typed.proofs.Flat.{zero-unflat}
use Rattle.cc_typed.proofs.Tables.{type-cells}
use Rattle.cc_typed.specs.Layout.{Layout, One, Several, Layouts, no_layouts, and_layout, cells, cells_all}
use Rattle.cc_typed.specs.Parts.{Parts}
use Rattle.cc_typed.specs.Sequences.{drop-at}
use Rattle.cc_typed.specs.Table.{cells_in, is_table, layout_of, layouts_of}
use Rattle.cc_typed.specs.Values.{Many, and_value, unflat, unflat_all, unflats}
use Rattle.cc_typed.specs.declared.types.DataType.{DataType}
use Rattle.cc_typed.specs.declared.types.Structure.{Structure}

pub get-some : (cs : List ℤ) (k : ℕ) (c d : ℤ) → slice_get cs k ≡ Some c → get_or cs k d ≡ c
get-some [] zero c d e = cc
get-some [] (suc k) c d e = cc
get-some (x ∷ cs) zero c d e = cc
get-some (x ∷ cs) (suc k) c d e = get-some cs k c d e

pub get-none : (cs : List ℤ) (k : ℕ) (d : ℤ) → slice_get cs k ≡ None → get_or cs k d ≡ d
get-none [] zero d e = refl
get-none [] (suc k) d e = refl
get-none (x ∷ cs) zero d e = cc
get-none (x ∷ cs) (suc k) d e = get-none cs k d e

pub one-more-zero : (n : ℕ) → replicate n (pos 0) ++ pos 0 ∷ [] ≡ replicate (n + 1) (pos 0)
one-more-zero zero = refl
one-more-zero (suc n) =
    let e : suc (n + 1) ≡ suc n + 1 = omega arith in
    ap (λ cs. pos 0 ∷ cs) (one-more-zero n) ∙ ap (λ m. replicate m (pos 0)) e

fitted-suc : (m k : ℕ) (cs : List ℤ) → fitted (suc m) (drop k cs) ≡ get_or cs k (pos 0) ∷ fitted m (drop (suc k) cs)
unfolding fitted
fitted-suc m zero [] = refl
fitted-suc m (suc k) [] = refl
fitted-suc m zero (c ∷ cs) = refl
fitted-suc m (suc k) (c ∷ cs) = fitted-suc m k cs

-- one cell more
pub fitted-step : (n k : ℕ) (cs : List ℤ) → k < n → fitted (n - k) (drop k cs) ≡ get_or cs k (pos 0) ∷ fitted (n - (k + 1)) (drop (k + 1) cs)
fitted-step n k cs lt =
    let e : n - k ≡ suc (n - (k + 1)) = omega arith in
    let f : suc k ≡ k + 1 = omega arith in
    ap (λ m. fitted m (drop k cs)) e ∙ fitted-suc (n - (k + 1)) k cs ∙ ap (λ j. get_or cs k (pos 0) ∷ fitted (n - (k + 1)) (drop j cs)) f

pub fitted-end : (n k : ℕ) (cs : List ℤ) → n ≤ k → fitted (n - k) cs ≡ []
unfolding fitted
fitted-end n k cs le = let e : n - k ≡ 0 = omega arith in ap (λ m. fitted m cs) e

pub length-fitted : (n : ℕ) (cs : List ℤ) → length (fitted n cs) ≡ n
unfolding fitted
length-fitted zero cs = refl
length-fitted (suc n) [] = ap suc (length-fitted n [])
length-fitted (suc n) (c ∷ cs) = ap suc (length-fitted n cs)

pub drop-least : (cs : List ℤ) (n : ℕ) → drop (min n (length cs)) cs ≡ drop n cs
drop-least cs n = go (min n (length cs)) n cs refl
  where
    go : (m n : ℕ) (cs : List ℤ) → m ≡ min n (length cs) → drop m cs ≡ drop n cs
    go zero zero [] e = refl
    go zero (suc n) [] e = refl
    go (suc m) zero [] e = refl
    go (suc m) (suc n) [] e = refl
    go zero zero (c ∷ cs) e = refl
    go zero (suc n) (c ∷ cs) e = absurd (omega arith)
    go (suc m) zero (c ∷ cs) e = absurd (omega arith)
    go (suc m) (suc n) (c ∷ cs) e = go m n cs (omega arith)

pub cells-step : (cs : List ℤ) (k : ℕ) → k < length cs → drop k cs ≡ get_or cs k (pos 0) ∷ drop (k + 1) cs
cells-step cs k lt = drop-at cs k (pos 0) lt

pub ruleset cells_of_lists =
    (cells-step, get-some, get-none, one-more-zero, fitted-step, fitted-end, length-fitted, drop-least, unwrap_or-slice_get, append_assoc, append-nil)

drop-zero : (cs : List ℤ) → drop 0 cs ≡ cs
drop-zero [] = refl
drop-zero (c ∷ cs) = refl

drop-nothing : (k : ℕ) (cs : List ℤ) → cs ≡ [] → drop k cs ≡ []
drop-nothing zero [] e = refl
drop-nothing (suc k) [] e = refl
drop-nothing k (c ∷ cs) e = cc

take-fitted : (a n : ℕ) (cs : List ℤ) → a ≤ n → take a (fitted n cs) ≡ fitted a cs
unfolding fitted
take-fitted zero zero cs le = refl
take-fitted zero (suc n) [] le = refl
take-fitted zero (suc n) (c ∷ cs) le = refl
take-fitted (suc a) zero cs le = absurd (omega arith)
take-fitted (suc a) (suc n) [] le = ap (λ xs. pos 0 ∷ xs) (take-fitted a n [] (omega arith))
take-fitted (suc a) (suc n) (c ∷ cs) le = ap (λ xs. c ∷ xs) (take-fitted a n cs (omega arith))

drop-fitted : (a b n : ℕ) (cs : List ℤ) → n ≡ a + b → drop a (fitted n cs) ≡ fitted b (drop a cs)
unfolding fitted
drop-fitted zero b n cs e =
    let same : n ≡ b = omega arith in
    drop-zero (fitted n cs) ∙ ap (λ m. fitted m cs) same ∙ ap (fitted b) (sym (drop-zero cs))
drop-fitted (suc a) b zero cs e = absurd (omega arith)
drop-fitted (suc a) b (suc n) [] e = drop-fitted a b n [] (omega arith) ∙ ap (fitted b) (drop-nothing a [] refl ∙ sym (drop-nothing (suc a) [] refl))
drop-fitted (suc a) b (suc n) (c ∷ cs) e = drop-fitted a b n cs (omega arith)

fitted-take : (n : ℕ) (cs : List ℤ) → fitted n (take n cs) ≡ fitted n cs
unfolding fitted
fitted-take zero cs = refl
fitted-take (suc n) [] = refl
fitted-take (suc n) (c ∷ cs) = ap (λ xs. c ∷ xs) (fitted-take n cs)

-- a value has the same cells where those are cut to its layout or filled with 0
mutual
  unfolding unflat cells fitted

  pub unflat-fitted : (l : Layout) (cs : List ℤ) → unflat l (fitted (cells l) cs) ≡ unflat l cs
  unflat-fitted One [] = refl
  unflat-fitted One (c ∷ cs) = refl
  unflat-fitted (Several ls) cs = ap Many (unflat_all-fitted ls cs)

  unflat_all-fitted : (ls : Layouts) (cs : List ℤ) → unflat_all ls (fitted (cells_all ls) cs) ≡ unflat_all ls cs
  unflat_all-fitted no_layouts cs = refl
  unflat_all-fitted (and_layout l ls) cs =
      let a = cells l in
      let b = cells_all ls in
      let within : a ≤ a + b = omega arith in
      let first : unflat l (take a (fitted (a + b) cs)) ≡ unflat l (take a cs) =
      ap (unflat l) (take-fitted a (a + b) cs within ∙ sym (fitted-take a cs)) ∙ unflat-fitted l (take a cs) in
      let rest : unflat_all ls (drop a (fitted (a + b) cs)) ≡ unflat_all ls (drop a cs) =
      ap (unflat_all ls) (drop-fitted a b (a + b) cs refl) ∙ unflat_all-fitted ls (drop a cs) in
      ap (λ v. and_value v (unflat_all ls (drop a (fitted (a + b) cs)))) first ∙ ap (and_value (unflat l (take a cs))) rest

pub fitted-taken : (l : Layout) (cs : List ℤ) → unflat l (fitted (cells l) cs) ≡ unflat l (take (cells l) cs)
fitted-taken l cs = ap (unflat l) (sym (fitted-take (cells l) cs)) ∙ unflat-fitted l (take (cells l) cs)

module _ (structures : List Structure) where
  pub seen-fitted : (ts : List DataType) (cs : List ℤ)
      → seen structures ts (fitted_each (layouts_of structures ts) cs) ≡ unflats (layouts_of structures ts) cs
  unfolding fitted_each
  seen-fitted [] cs = refl
  seen-fitted (t ∷ ts) cs =
      let l = layout_of structures t in
      ap (λ v. v ∷ seen structures ts (fitted_each (layouts_of structures ts) (drop (cells l) cs))) (fitted-taken l cs)
      ∙ ap (λ vs. unflat l (take (cells l) cs) ∷ vs) (seen-fitted ts (drop (cells l) cs))

  pub stand-fitted : (ts : List DataType) (cs : List ℤ) → Stand structures ts (fitted_each (layouts_of structures ts) cs)
  unfolding fitted_each
  stand-fitted [] cs = tt
  stand-fitted (t ∷ ts) cs = (length-fitted (cells (layout_of structures t)) cs, stand-fitted ts (drop (cells (layout_of structures t)) cs))

  pub stand-blanks : (ts : List DataType) → Stand structures ts (blanks (layouts_of structures ts))
  unfolding blanks
  stand-blanks [] = tt
  stand-blanks (t ∷ ts) = (length-replicate (cells (layout_of structures t)) (pos 0), stand-blanks ts)

  pub seen-append : (ts us : List DataType) (all more : List (List ℤ)) → Stand structures ts all
      → seen structures (ts ++ us) (all ++ more) ≡ seen structures ts all ++ seen structures us more
  seen-append [] us [] more s = refl
  seen-append [] us (cs ∷ all) more s = absurd s
  seen-append (t ∷ ts) us [] more s = absurd s
  seen-append (t ∷ ts) us (cs ∷ all) more s = ap (λ vs. unflat (layout_of structures t) cs ∷ vs) (seen-append ts us all more s.1)

  pub stand-append : (ts us : List DataType) (all more : List (List ℤ)) → Stand structures ts all → Stand structures us more
      → Stand structures (ts ++ us) (all ++ more)
  stand-append [] us [] more s r = r
  stand-append [] us (cs ∷ all) more s r = absurd s
  stand-append (t ∷ ts) us [] more s r = absurd s
  stand-append (t ∷ ts) us (cs ∷ all) more s r = (s.0, stand-append ts us all more s.1 r)

pub seen-blanks : (p : Parts) (ts : List DataType) → seen p.structures ts (blanks (layouts_of p.structures ts)) ≡ zero_all p ts
unfolding blanks
seen-blanks p [] = refl
seen-blanks p (t ∷ ts) =
    ap (λ v. v ∷ seen p.structures ts (blanks (layouts_of p.structures ts))) (zero-unflat (layout_of p.structures t))
    ∙ ap (λ vs. zero_in p t ∷ vs) (seen-blanks p ts)

-- the variables at the start: arguments, and then zeros
pub seen-start : (p : Parts) (ts : List DataType) (k : ℕ) (cs : List ℤ)
    → seen p.structures ts (fitted_each (layouts_of p.structures (take k ts)) cs ++ blanks (layouts_of p.structures (drop k ts))) ≡ unflats (layouts_of p.structures (take k ts)) cs ++ zero_all p (drop k ts)
seen-start p ts k cs =
    let args = fitted_each (layouts_of p.structures (take k ts)) cs in
    let zeros = blanks (layouts_of p.structures (drop k ts)) in
    ap (λ us. seen p.structures us (args ++ zeros)) (sym (take-append-drop k ts))
    ∙ seen-append p.structures (take k ts) (drop k ts) args zeros (stand-fitted p.structures (take k ts) cs)
    ∙ ap (λ vs. vs ++ seen p.structures (drop k ts) zeros) (seen-fitted p.structures (take k ts) cs)
    ∙ ap (λ vs. unflats (layouts_of p.structures (take k ts)) cs ++ vs) (seen-blanks p (drop k ts))

pub stand-start : (structures : List Structure) (ts : List DataType) (k : ℕ) (cs : List ℤ)
    → Stand structures ts (fitted_each (layouts_of structures (take k ts)) cs ++ blanks (layouts_of structures (drop k ts)))
stand-start structures ts k cs =
    let args = fitted_each (layouts_of structures (take k ts)) cs in
    let zeros = blanks (layouts_of structures (drop k ts)) in
    subst (λ us. Stand structures us (args ++ zeros)) (take-append-drop k ts)
    (stand-append structures (take k ts) (drop k ts) args zeros (stand-fitted structures (take k ts) cs) (stand-blanks structures (drop k ts)))

pub each-step : (structures : List Structure) (ts : List DataType) (k : ℕ) (d : DataType) (cs : List ℤ) → k < length ts
    → fitted_each (layouts_of structures (drop k ts)) cs ≡ fitted (cells (layout_of structures (get_or ts k d))) cs ∷ fitted_each (layouts_of structures (drop (k + 1) ts)) (drop (cells (layout_of structures (get_or ts k d))) cs)
unfolding fitted_each
each-step structures ts k d cs lt = ap (λ us. fitted_each (layouts_of structures us) cs) (drop-at ts k d lt)

pub blanks-step : (structures : List Structure) (ts : List DataType) (k : ℕ) (d : DataType) → k < length ts
    → blanks (layouts_of structures (drop k ts)) ≡ replicate (cells (layout_of structures (get_or ts k d))) (pos 0) ∷ blanks (layouts_of structures (drop (k + 1) ts))
unfolding blanks
blanks-step structures ts k d lt = ap (λ us. blanks (layouts_of structures us)) (drop-at ts k d lt)

pub each-end : (structures : List Structure) (ts : List DataType) (k : ℕ) (cs : List ℤ) → k ≡ length ts
    → fitted_each (layouts_of structures (drop k ts)) cs ≡ []
unfolding fitted_each
each-end structures ts k cs e = ap (λ us. fitted_each (layouts_of structures us) cs) (drop_all k ts (omega arith))

pub blanks-end : (structures : List Structure) (ts : List DataType) (k : ℕ) → k ≡ length ts → blanks (layouts_of structures (drop k ts)) ≡ []
unfolding blanks
blanks-end structures ts k e = ap (λ us. blanks (layouts_of structures us)) (drop_all k ts (omega arith))

-- a variable more
pub each-more : (structures : List Structure) (ts : List DataType) (k : ℕ) (d : DataType) (cs ds : List ℤ) (all : List (List ℤ)) (n : ℕ) → k < length ts
    → is_table structures ≡ true → n ≡ cells_in structures (get_or ts k d) → ds ≡ fitted n cs
    → (all ++ ds ∷ []) ++ fitted_each (layouts_of structures (drop (k + 1) ts)) (drop n cs) ≡ all ++ fitted_each (layouts_of structures (drop k ts)) cs
each-more structures ts k d cs ds all n lt table e f =
    let t = get_or ts k d in
    let same : n ≡ cells (layout_of structures t) = e ∙ sym (type-cells structures t table) in
    let rest = λ (m : ℕ). fitted_each (layouts_of structures (drop (k + 1) ts)) (drop m cs) in
    append_assoc all (ds ∷ []) (rest n)
    ∙ ap (λ xs. all ++ xs ∷ rest n) f
    ∙ ap (λ m. all ++ fitted m cs ∷ rest m) same
    ∙ ap (λ xs. all ++ xs) (sym (each-step structures ts k d cs lt))

pub blanks-more : (structures : List Structure) (ts : List DataType) (k : ℕ) (d : DataType) (ds : List ℤ) (all : List (List ℤ)) (n : ℕ) → k < length ts
    → is_table structures ≡ true → n ≡ cells_in structures (get_or ts k d) → ds ≡ replicate n (pos 0)
    → (all ++ ds ∷ []) ++ blanks (layouts_of structures (drop (k + 1) ts)) ≡ all ++ blanks (layouts_of structures (drop k ts))
blanks-more structures ts k d ds all n lt table e f =
    let t = get_or ts k d in
    let same : n ≡ cells (layout_of structures t) = e ∙ sym (type-cells structures t table) in
    let rest = blanks (layouts_of structures (drop (k + 1) ts)) in
    append_assoc all (ds ∷ []) rest
    ∙ ap (λ xs. all ++ xs ∷ rest) f
    ∙ ap (λ m. all ++ replicate m (pos 0) ∷ rest) same
    ∙ ap (λ xs. all ++ xs) (sym (blanks-step structures ts k d lt))

pub ruleset starts = (each-more, blanks-more, each-step, blanks-step, each-end, blanks-end, seen-start, stand-start, append_assoc, append-nil)
