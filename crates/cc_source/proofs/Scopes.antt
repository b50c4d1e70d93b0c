-- Variables whose cells are kept, as their values.
use Rattle.std.proofs.Common.{◌≡◌, ℕ, ℤ, pos, zero, suc, ◌+◌, ◌<◌, ◌≤◌, true, ◌&&◌, List, [], ◌∷◌, ◌++◌, length, map, take, drop, get_or, set, Option, Some, None, refl, sym, ap, ◌∙◌, arith, append_assoc, append-nil}
use Rattle.std.specs.Prelude.{nat_le, slice_get}
use Rattle.std.proofs.lemmas.Bool.{eqb-true}
use Rattle.std.proofs.lemmas.List.{drop_all}
use Rattle.cc_source.proofs.Cuts.{fitted-taken}
use Rattle.cc_source.specs.Gives.{Stand, body_variables, fitted, seen}
use Rattle.cc_source.specs.Known.{and-left, and-right}
use Rattle.cc_source.specs.Meaning.{Scope, set_from, transaction_of, value_at}
use Rattle.cc_source.specs.Projections.{passes-get}
use Rattle.cc_typed.proofs.Flat.{flat-unflat}
use Rattle.cc_typed.proofs.Partings.{same-type, type-same}
use Rattle.cc_typed.proofs.Tables.{type-cells}
use Rattle.cc_typed.specs.KnownTypes.{is_process_type}
use Rattle.cc_typed.specs.Layout.{cells}
use Rattle.cc_typed.specs.Missing.{first_at, parameters_at, transaction_at, variables_of}
use Rattle.cc_typed.specs.Parting.{is_of_type}
use Rattle.cc_typed.specs.Parts.{Parts}
use Rattle.cc_typed.specs.Sequences.{drop-at}
use Rattle.cc_typed.specs.Table.{layout_of, layouts_of}
use Rattle.cc_typed.specs.Typed.{Surroundings, has_parameter_variables, have_types_from, is_accepted, is_kind, is_of_kind, is_typed_but_for_sites, is_typed_program, is_typed_site}
use Rattle.cc_typed.specs.Types.{is_same, is_same_all}
use Rattle.cc_typed.specs.Values.{Value, flat, flats, unflat, unflats}
use Rattle.cc_typed.specs.declared.tree.Site.{Site}
use Rattle.cc_typed.specs.declared.types.DataType.{DataType}
use Rattle.cc_typed.specs.declared.types.Structure.{Structure}

module _ (structures : List Structure) where
  -- a variable's cells give its value, and have the size of its type
  variable-seen : (ts : List DataType) (all : List (List ℤ)) (x : ℕ) (t : DataType) (cs : List ℤ) → Stand structures ts all
      → is_of_type (slice_get ts x) t ≡ true → slice_get all x ≡ Some cs
      → (unflat (layout_of structures t) cs ≡ value_at (seen structures ts all) x) × (length cs ≡ cells (layout_of structures t))
  variable-seen [] all x t cs s b e = cc
  variable-seen (u ∷ ts) [] x t cs s b e = cc
  variable-seen (u ∷ ts) (ds ∷ all) zero t cs s b e =
      let same : u ≡ t = same-type u t b in
      let this : ds ≡ cs = cc in
      (sym (ap (λ y. unflat (layout_of structures y) ds) same ∙ ap (unflat (layout_of structures t)) this), ap length (sym this) ∙ s.0 ∙ ap (λ y. cells (layout_of structures y)) same)
  variable-seen (u ∷ ts) (ds ∷ all) (suc x) t cs s b e = variable-seen ts all x t cs s.1 b e

  pub variable-value : (ts : List DataType) (all : List (List ℤ)) (x : ℕ) (t : DataType) (cs : List ℤ) → Stand structures ts all
      → is_of_type (slice_get ts x) t ≡ true → slice_get all x ≡ Some cs → unflat (layout_of structures t) cs ≡ value_at (seen structures ts all) x
  variable-value ts all x t cs s b e = (variable-seen ts all x t cs s b e).0

  pub variable-size : (ts : List DataType) (all : List (List ℤ)) (x : ℕ) (t : DataType) (cs : List ℤ) → Stand structures ts all
      → is_of_type (slice_get ts x) t ≡ true → slice_get all x ≡ Some cs → length cs ≡ cells (layout_of structures t)
  variable-size ts all x t cs s b e = (variable-seen ts all x t cs s b e).1

  pub variable-there : (ts : List DataType) (all : List (List ℤ)) (x : ℕ) (t : DataType) → Stand structures ts all → is_of_type (slice_get ts x) t ≡ true
      → slice_get all x ≡ None → ⊥
  variable-there [] all x t s b e = cc
  variable-there (u ∷ ts) [] x t s b e = s
  variable-there (u ∷ ts) (ds ∷ all) zero t s b e = cc
  variable-there (u ∷ ts) (ds ∷ all) (suc x) t s b e = variable-there ts all x t s.1 b e

  -- a variable of a type is there, so none past the end is set
  pub set-beyond : (ts : List DataType) (all : List (List ℤ)) (x : ℕ) (t : DataType) (v : Value) → is_of_type (slice_get ts x) t ≡ true
      → Stand structures ts all → length all ≤ x → seen structures ts all ≡ set (seen structures ts all) x v
  set-beyond [] all x t v b s le = cc
  set-beyond (u ∷ ts) [] x t v b s le = absurd s
  set-beyond (u ∷ ts) (ds ∷ all) zero t v b s le = absurd (omega arith)
  set-beyond (u ∷ ts) (ds ∷ all) (suc x) t v b s le = ap (λ vs. unflat (layout_of structures u) ds ∷ vs) (set-beyond ts all x t v b s.1 (omega arith))

  set-seen : (ts : List DataType) (all : List (List ℤ)) (x : ℕ) (t : DataType) (cs : List ℤ) → is_of_type (slice_get ts x) t ≡ true
      → Stand structures ts all → length cs ≡ cells (layout_of structures t)
      → (seen structures ts (set all x cs) ≡ set (seen structures ts all) x (unflat (layout_of structures t) cs)) × Stand structures ts (set all x cs)
  set-seen [] all x t cs b s n = cc
  set-seen (u ∷ ts) [] x t cs b s n = absurd s
  set-seen (u ∷ ts) (ds ∷ all) zero t cs b s n =
      let same : u ≡ t = same-type u t b in
      (ap (λ y. unflat (layout_of structures y) cs ∷ seen structures ts all) same, (n ∙ ap (λ y. cells (layout_of structures y)) (sym same), s.1))
  set-seen (u ∷ ts) (ds ∷ all) (suc x) t cs b s n =
      let rest = set-seen ts all x t cs b s.1 n in
      (ap (λ vs. unflat (layout_of structures u) ds ∷ vs) rest.0, (s.0, rest.1))

  pub set-scope : (ts : List DataType) (all : List (List ℤ)) (x : ℕ) (t : DataType) (cs : List ℤ) → is_of_type (slice_get ts x) t ≡ true
      → Stand structures ts all → length cs ≡ cells (layout_of structures t)
      → seen structures ts (set all x cs) ≡ set (seen structures ts all) x (unflat (layout_of structures t) cs)
  set-scope ts all x t cs b s n = (set-seen ts all x t cs b s n).0

  pub set-stands : (ts : List DataType) (all : List (List ℤ)) (x : ℕ) (t : DataType) (cs : List ℤ) → is_of_type (slice_get ts x) t ≡ true
      → Stand structures ts all → length cs ≡ cells (layout_of structures t)
      → Stand structures ts (set all x cs)
  set-stands ts all x t cs b s n = (set-seen ts all x t cs b s n).1

  -- a variable that is not there counts as 0
  pub variable-flat : (ts : List DataType) (all : List (List ℤ)) (x : ℕ) (cs : List ℤ) → Stand structures ts all → slice_get all x ≡ Some cs
      → flat (value_at (seen structures ts all) x) ≡ cs
  variable-flat [] [] zero cs s e = cc
  variable-flat [] [] (suc x) cs s e = cc
  variable-flat [] (ds ∷ all) x cs s e = absurd s
  variable-flat (u ∷ ts) [] x cs s e = absurd s
  variable-flat (u ∷ ts) (ds ∷ all) zero cs s e = let this : ds ≡ cs = cc in flat-unflat (layout_of structures u) ds s.0 ∙ this
  variable-flat (u ∷ ts) (ds ∷ all) (suc x) cs s e = variable-flat ts all x cs s.1 e

  pub missing-flat : (ts : List DataType) (all : List (List ℤ)) (x : ℕ) → Stand structures ts all → slice_get all x ≡ None
      → flat (value_at (seen structures ts all) x) ≡ pos 0 ∷ []
  unfolding flat
  missing-flat [] [] zero s e = refl
  missing-flat [] [] (suc x) s e = refl
  missing-flat [] (ds ∷ all) x s e = absurd s
  missing-flat (u ∷ ts) [] x s e = absurd s
  missing-flat (u ∷ ts) (ds ∷ all) zero s e = cc
  missing-flat (u ∷ ts) (ds ∷ all) (suc x) s e = missing-flat ts all x s.1 e

  -- the parameters of an accept are set one after the other, each to the cells that are cut for it
  pub taken-step : (ts : List DataType) (k : ℕ) (d : DataType) (cs : List ℤ) (x : ℕ) (sc : Scope) → k < length ts
      → set_from x (unflats (layouts_of structures (drop k ts)) cs) sc
      ≡ set_from (x + 1) (unflats (layouts_of structures (drop (k + 1) ts)) (drop (cells (layout_of structures (get_or ts k d))) cs))
      (set sc x (unflat (layout_of structures (get_or ts k d)) (fitted (cells (layout_of structures (get_or ts k d))) cs)))
  taken-step ts k d cs x sc lt =
      let t = get_or ts k d in
      let l = layout_of structures t in
      let rest = unflats (layouts_of structures (drop (k + 1) ts)) (drop (cells l) cs) in
      let e : suc x ≡ x + 1 = omega arith in
      ap (λ us. set_from x (unflats (layouts_of structures us) cs) sc) (drop-at ts k d lt)
      ∙ ap (λ v. set_from (suc x) rest (set sc x v)) (sym (fitted-taken l cs))
      ∙ ap (λ y. set_from y rest (set sc x (unflat l (fitted (cells l) cs)))) e

  pub taken-end : (ts : List DataType) (k : ℕ) (cs : List ℤ) (x : ℕ) (sc : Scope) → k ≡ length ts
      → set_from x (unflats (layouts_of structures (drop k ts)) cs) sc ≡ sc
  taken-end ts k cs x sc e = ap (λ us. set_from x (unflats (layouts_of structures us) cs) sc) (drop_all k ts (omega (arith, e)))

  -- the cells of variables, one after the other
  pub environment-step : (sc : Scope) (xs : List ℕ) (k d : ℕ) → k < length xs
      → flats (map (value_at sc) (drop k xs)) ≡ flat (value_at sc (get_or xs k d)) ++ flats (map (value_at sc) (drop (k + 1) xs))
  environment-step sc xs k d lt = ap (λ ys. flats (map (value_at sc) ys)) (drop-at xs k d lt)

  pub environment-end : (sc : Scope) (xs : List ℕ) (k : ℕ) → k ≡ length xs → flats (map (value_at sc) (drop k xs)) ≡ []
  environment-end sc xs k e = ap (λ ys. flats (map (value_at sc) ys)) (drop_all k xs (omega (arith, e)))

none-at : (k : ℕ) (vs : List DataType) → vs ≡ [] → slice_get vs k ≡ None
none-at zero [] e = refl
none-at (suc k) [] e = refl
none-at k (v ∷ vs) e = cc

get-dropped : (vs : List DataType) (n i : ℕ) → slice_get (drop n vs) i ≡ slice_get vs (n + i)
get-dropped [] zero i = let e : i ≡ 0 + i = omega arith in ap (slice_get []) e
get-dropped [] (suc n) i = none-at i [] refl ∙ sym (none-at (suc n + i) [] refl)
get-dropped (v ∷ vs) zero i = let e : i ≡ 0 + i = omega arith in ap (slice_get (v ∷ vs)) e
get-dropped (v ∷ vs) (suc n) i = let e : suc (n + i) ≡ suc n + i = omega arith in get-dropped vs n i ∙ ap (slice_get (v ∷ vs)) e

type-first : (types vs : List DataType) (i : ℕ) (d : DataType) → is_same_all types (take (length types) vs) ≡ true → i < length types
    → is_of_type (slice_get vs i) (get_or types i d) ≡ true
type-first [] vs i d h lt = absurd (omega arith)
type-first (t ∷ ts) [] i d h lt = cc
type-first (t ∷ ts) (v ∷ vs) zero d h lt = let e : t ≡ v = same-type t v (and-left _ _ h) in ap (λ x. is_same v x) e ∙ type-same v
type-first (t ∷ ts) (v ∷ vs) (suc i) d h lt = type-first ts vs i d (and-right (is_same t v) _ h) (omega arith)

-- the variables for the parameters of an accept have their types
pub parameter-type : (types vs : List DataType) (first i : ℕ) (d : DataType) → have_types_from types vs first ≡ true → i < length types
    → is_of_type (slice_get vs (first + i)) (get_or types i d) ≡ true
parameter-type types vs first i d h lt =
    ap (λ o. is_of_type o (get_or types i d)) (sym (get-dropped vs first i))
    ∙ type-first types (drop first vs) i d (and-right (nat_le first (length vs)) _ h) lt

kind-is : (o : Option ℕ) (k : ℕ) → is_kind o k ≡ true → o ≡ Some k
kind-is None k e = cc
kind-is (Some j) k e = ap Some (eqb-true j k e)

-- so has the site of each accept in a body
pub accept-types : (p : Parts) (s : Surroundings) (site : ℕ) → is_typed_program p ≡ true → s.parts ≡ p → body_variables p s.kind ≡ s.variables
    → is_accepted s (slice_get p.sites site) ≡ true
    → have_types_from (parameters_at (transaction_of p site)) s.variables (first_at (slice_get p.sites site)) ≡ true
accept-types p s site typed at body accepted = go (slice_get p.sites site) refl accepted
  where
    go : (o : Option Site) → slice_get p.sites site ≡ o → is_accepted s o ≡ true
        → have_types_from (parameters_at (slice_get p.transactions (transaction_at o))) s.variables (first_at o) ≡ true
    go None e h = cc
    go (Some found) e h =
        let sites = and-right (is_typed_but_for_sites p) _ (and-left _ _ typed) in
        let fine : is_typed_site p found ≡ true = passes-get (is_typed_site p) p.sites site found sites e in
        let variables : has_parameter_variables p found ≡ true =
        and-right (is_process_type p found.kind && is_of_kind (slice_get p.transactions found.transaction) found.kind) _ (and-left _ _ (and-left _ _ (and-left _ _ fine))) in
        let kind : s.kind ≡ Some found.kind = kind-is s.kind found.kind (and-left _ _ h) in
        let same : variables_of (slice_get p.kinds found.kind) ≡ s.variables = ap (body_variables p) (sym kind) ∙ body in
        ap (λ vs. have_types_from (parameters_at (slice_get p.transactions found.transaction)) vs found.first) (sym same) ∙ variables

pub ruleset scopes = (set-beyond, variable-value, variable-size, variable-there, set-scope, set-stands)

pub ruleset accepts =
    (type-cells, variable-flat, missing-flat, taken-step, taken-end, environment-step, environment-end, parameter-type, accept-types, append_assoc, append-nil)
