-- What a straight typed program asks names what is there, and its phrases give values of their types.
use Rattle.std.proofs.Common.{◌≡◌, ℕ, ◌<◌, ℤ, pos, zero, suc, Bool, true, false, ◌&&◌, List, [], ◌∷◌, ◌++◌, length, map, take, drop, get_or, set, Some, refl, ap, sym, subst, arith}
use Rattle.std.specs.List.{list_all}
use Rattle.std.specs.Prelude.{Err, Ok, Result, replicate, slice_get}
use Rattle.std.specs.Option.{option_map}
use Rattle.cc_base.specs.Granted.{call_cells, or_fault}
use Rattle.cc_base.specs.Outcome.{Left, Outcome, Through, Asked, Eval, and_then, ask}
use Rattle.cc_base.specs.Requests.{IsRequestOf, NamesSites}
use Rattle.cc_base.specs.Supported.{IsSupported}
use Rattle.cc_base.specs.declared.names.FaultKind.{FaultKind}
use Rattle.cc_base.specs.declared.names.Shape.{Shape}
use Rattle.cc_base.specs.declared.numbers.NumberType.TheVariants as numeric
use Rattle.cc_base.specs.declared.request.Grant.{Grant}
use Rattle.cc_base.specs.declared.request.Grant.TheVariants as grant
use Rattle.cc_base.specs.declared.request.Request.{Request}
use Rattle.cc_source.specs.Meaning.{Scope, set_from}
use Rattle.cc_source.specs.Programs.{cells_all, meaning, parameter_cells, shape_of, zero_all}
use Rattle.cc_source.specs.Straight.{is_straight_type}
use Rattle.cc_typed.proofs.Flat.{unflat-has, zero-unflat}
use Rattle.cc_typed.specs.Layout.{Layout, One, cells}
use Rattle.cc_typed.specs.Missing.{parameters_at}
use Rattle.cc_typed.specs.Parts.{Parts}
use Rattle.cc_typed.specs.Table.{element_within, layout_of, layouts_of}
use Rattle.cc_typed.specs.Typed.{is_called, kind_parameters}
use Rattle.cc_typed.specs.Types.{of_number, of_process}
use Rattle.cc_typed.specs.Values.{HasLayout, Value, Number, nought, unflat, unflats, zero_of}
use Rattle.cc_typed.specs.declared.tree.Kind.{Kind}
use Rattle.cc_typed.specs.declared.tree.Transaction.{Transaction}
use Rattle.cc_typed.specs.declared.types.DataType.{DataType}
use Rattle.cc_typed.specs.declared.types.DataType.TheVariants.{Void, Single, Array}
use Rattle.cc_typed.specs.declared.types.ElementType.TheVariants as item
use Rattle.cc_typed.specs.declared.types.Structure.{Structure}

pub and-left : (a b : Bool) → (a && b) ≡ true → a ≡ true
and-left true b e = refl
and-left false b e = cc

pub and-right : (a b : Bool) → (a && b) ≡ true → b ≡ true
and-right true b e = e
and-right false b e = cc

-- a value of a type
abbrev pub IsOf : Parts → DataType → Value → Type 0
IsOf p t v = HasLayout (layout_of p.structures t) v

-- a value of one cell
abbrev pub IsOne : Value → Type 0
IsOne v = HasLayout One v

-- values of one cell each
abbrev pub Ones : List Value → Type 0
Ones [] = Unit {0}
Ones (v ∷ vs) = IsOne v × Ones vs

pub one-Number : (n : ℤ) → IsOne (Number n)
unfolding HasLayout
one-Number n = tt

pub one-at : (vs : List Value) (x : ℕ) → Ones vs → IsOne (get_or vs x nought)
unfolding HasLayout
one-at [] x s = tt
one-at (v ∷ vs) zero s = s.0
one-at (v ∷ vs) (suc x) s = one-at vs x s.1

pub ones-set : (vs : List Value) (x : ℕ) (w : Value) → Ones vs → IsOne w → Ones (set vs x w)
ones-set [] zero w s e = tt
ones-set [] (suc x) w s e = tt
ones-set (v ∷ vs) zero w s e = (e, s.1)
ones-set (v ∷ vs) (suc x) w s e = (s.0, ones-set vs x w s.1 e)

pub ones-append : (vs ws : List Value) → Ones vs → Ones ws → Ones (vs ++ ws)
ones-append [] ws s r = r
ones-append (v ∷ vs) ws s r = (s.0, ones-append vs ws s.1 r)

pub ones-set_from : (x : ℕ) (ws vs : List Value) → Ones ws → Ones vs → Ones (set_from x ws vs)
ones-set_from x [] vs s r = r
ones-set_from x (w ∷ ws) vs s r = ones-set_from (suc x) ws (set vs x w) s.1 (ones-set vs x w r s.0)

module _ (structures : List Structure) where
  -- `int` and process types have one cell
  pub straight-one : (t : DataType) → is_straight_type t ≡ true → layout_of structures t ≡ One
  unfolding is_straight_type element_within
  straight-one Void e = cc
  straight-one (Array f n) e = cc
  straight-one (Single (item.Number numeric.Char)) e = cc
  straight-one (Single (item.Number numeric.Int)) e = refl
  straight-one (Single (item.Number numeric.Long)) e = cc
  straight-one (Single (item.Process k)) e = refl
  straight-one (Single (item.Struct n)) e = cc

  pub int-one : layout_of structures (of_number numeric.Int) ≡ One
  unfolding element_within
  int-one = refl

  pub process-one : (k : ℕ) → layout_of structures (of_process k) ≡ One
  unfolding element_within
  process-one k = refl

  pub unflats-ones : (us : List DataType) (cs : List ℤ) → list_all is_straight_type us ≡ true → Ones (unflats (layouts_of structures us) cs)
  unflats-ones [] cs h = tt
  unflats-ones (t ∷ us) cs h =
      let l = layout_of structures t in
      let here : HasLayout l (unflat l (take (cells l) cs)) = unflat-has l (take (cells l) cs) in (
        subst (λ m. HasLayout m (unflat l (take (cells l) cs))) (straight-one t (and-left _ _ h)) here,
        unflats-ones us (drop (cells l) cs) (and-right (is_straight_type t) _ h),
      )

pub zero-has : (l : Layout) → HasLayout l (zero_of l)
zero-has l = subst (HasLayout l) (zero-unflat l) (unflat-has l (replicate (cells l) (pos 0)))

pub zeros-ones : (p : Parts) (us : List DataType) → list_all is_straight_type us ≡ true → Ones (zero_all p us)
zeros-ones p [] h = tt
zeros-ones p (t ∷ us) h =
    let l = layout_of p.structures t in (
      subst (λ m. HasLayout m (zero_of l)) (straight-one p.structures t (and-left _ _ h)) (zero-has l),
      zeros-ones p us (and-right (is_straight_type t) _ h),
    )

pub kind-cells : (p : Parts) (kinds : List Kind) (k n : ℕ) → k < length kinds → n ≡ cells_all p (kind_parameters (slice_get kinds k))
    → slice_get (map (parameter_cells p) kinds) k ≡ Some n
kind-cells p [] k n lt e = absurd (omega arith)
kind-cells p (x ∷ xs) zero n lt e = ap Some (sym e)
kind-cells p (x ∷ xs) (suc k) n lt e = kind-cells p xs k n (omega arith) e

pub takes-cells : (p : Parts) (ts : List Transaction) (k n : ℕ) (a b : DataType) → is_called (slice_get ts k) a b ≡ true
    → n ≡ cells_all p (parameters_at (slice_get ts k)) → option_map (λ (shape : Shape). shape.args) (slice_get (map (shape_of p) ts) k) ≡ Some n
takes-cells p [] zero n a b h e = cc
takes-cells p [] (suc k) n a b h e = cc
takes-cells p (t ∷ ts) zero n a b h e = ap Some (sym e)
takes-cells p (t ∷ ts) (suc k) n a b h e = takes-cells p ts k n a b h e

module _ (p : Parts) where
  -- the machine can perform the request, each accept site that it names exists, and it is among those that are supported so far
  abbrev pub IsPerformable : Request → Type 0
  IsPerformable q = IsRequestOf (meaning p) q × NamesSites (length p.sites) q × IsSupported q

  -- an evaluation keeps variables of one cell each and gives what is good, or asks what can be performed
  abbrev pub Safe : {A : Type 0} → (A → Type 0) → Outcome Scope A → Type 0
  Safe good (Through v scope left) = Ones scope × good v
  Safe good (Asked q) = IsPerformable q

  pub safe : {A B : Type 0} (first : A → Type 0) (good : B → Type 0) (o : Outcome Scope A) (f : A → Eval Scope B) → Safe first o
      → ((v : A) (sc : Scope) (l : Left) → Ones sc → first v → Safe good (f v sc l)) → Safe good (and_then o f)
  safe first good (Through v sc l) f s g = g v sc l s.0 s.1
  safe first good (Asked q) f s g = s

  pub ask-safe : (q : Request) (sc : Scope) (l : Left) → Ones sc → IsPerformable q → Safe (λ g. Unit {0}) (ask q sc l)
  ask-safe q sc l s known = go l.grants
    where
      go : (gs : List Grant) → Safe (λ g. Unit {0}) (ask q sc (record { grants = gs; ticks = l.ticks }))
      go [] = known
      go (g ∷ gs) = (s, tt)

  -- arithmetic gives a number or its fault
  pub fault-safe : {A : Type 0} (r : Result A FaultKind) (sc : Scope) (l : Left) → Ones sc → Safe (λ a. Unit {0}) (or_fault r sc l)
  fault-safe (Ok a) sc l s = (s, tt)
  fault-safe (Err kind) sc l s = (tt, tt, tt)

  pub cells-safe : (n : ℕ) (g : Grant) (sc : Scope) (l : Left) → Ones sc → Safe (λ cs. Unit {0}) (call_cells n g sc l)
  cells-safe n grant.Go sc l s = (s, tt)
  cells-safe n (grant.Made q) sc l s = (s, tt)
  cells-safe n (grant.Value cs) sc l s = (s, tt)
  cells-safe n grant.Late sc l s = (s, tt)
  cells-safe n grant.Gone sc l s = (tt, tt, tt)
  cells-safe n (grant.Took a cs) sc l s = (s, tt)
  cells-safe n (grant.Chose a) sc l s = (s, tt)
  cells-safe n (grant.Byte b) sc l s = (s, tt)

pub ruleset known = (one-at, ask-safe)
