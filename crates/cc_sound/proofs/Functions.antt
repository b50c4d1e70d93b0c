-- Functions and process types have the heads that are known of the whole text.
use Rattle.std.proofs.Common.{◌≡◌, ℕ, zero, suc, Bool, true, false, List, [], ◌∷◌, ◌++◌, length, take, Option, Some, Result, Ok, refl, ap, sym, subst, ◌∙◌}
use Rattle.std.specs.Prelude.{if◌then◌else◌, nat_eq, slice_get}
use Rattle.cc_typed.proofs.Partings.{type-same}
use Rattle.cc_typed.specs.Parts.{Parts}
use Rattle.cc_typed.specs.Typed.{function_parameters, is_function}
use Rattle.cc_typed.specs.Types.{is_same}
use Rattle.cc_typed.specs.declared.tree.Function.{Function}
use Rattle.cc_typed.specs.declared.tree.Kind.{Kind}
use Rattle.cc_typed.specs.declared.types.DataType.{DataType}
use Rattle.cc_faults.specs.Declarations.{after_item, function_heads, parameters, signature, types_of}
use Rattle.cc_faults.specs.Judged.{Judged, Good, each, outcome}
use Rattle.cc_faults.specs.Programs.{FunctionParts, Passed, Piece, OneFunction, OneKind, and_item, functions_among, in_function, names_in, no_variables, role_of, scope_after}
use Rattle.cc_faults.specs.Rows.{few_cells, value_type}
use Rattle.cc_faults.specs.Scopes.{Scope, Text, outermost}
use Rattle.cc_faults.specs.declared.fault.FaultAt.{FaultAt}
use Rattle.cc_faults.specs.declared.fault.TypeKind.TheVariants as kind
use Rattle.cc_faults.specs.declared.plain.Identifier.{Identifier}
use Rattle.cc_faults.specs.declared.plain.Item.{Item}
use Rattle.cc_faults.specs.declared.plain.Item.TheVariants as item
use Rattle.cc_faults.specs.declared.plain.Parameter.{Parameter}
use Rattle.cc_faults.specs.declared.plain.Statement.{Statement}
use Rattle.cc_faults.specs.declared.plain.TypeName.{TypeName}
use Rattle.cc_faults.specs.declared.scope.Signature.{Signature}
use Rattle.cc_sound.proofs.Goods.{AreEach, each-length, good-checked, good-each, good-outcome, good-unless}
use Rattle.cc_sound.proofs.Items.{ArePieces, FunctionFound, function_variables}
use Rattle.cc_sound.proofs.Levels.{Level, level-after}
use Rattle.cc_sound.proofs.Moves.{functions-behind}
use Rattle.cc_sound.proofs.Parameters.{here-start, names-fresh, parameters-add, signature-made}
use Rattle.cc_sound.proofs.Passing.{in-passes}
use Rattle.cc_sound.specs.Fits.{IsFront}

pub good-equal : {A : Type 0} {j : Judged A} {v w : A} → j ≡ Good v → j ≡ Good w → v ≡ w
good-equal e f = cc

pub ok-equal : {A : Type 0} {r : Result A FaultAt} {v w : A} → r ≡ Ok v → r ≡ Ok w → v ≡ w
ok-equal e f = cc

pub some-equal : {A : Type 0} {o : Option A} {v w : A} → o ≡ Some v → o ≡ Some w → v ≡ w
some-equal e f = cc

pub take-none : {A : Type 0} (xs : List A) → take 0 xs ≡ []
take-none [] = refl
take-none (x ∷ xs) = refl

take-length : {A : Type 0} (xs rest : List A) → take (length xs) (xs ++ rest) ≡ xs
take-length [] rest = take-none rest
take-length (x ∷ xs) rest = ap (λ l. x ∷ l) (take-length xs rest)

pub take-front : {A : Type 0} (n : ℕ) (xs ys : List A) → n ≡ length xs → IsFront xs ys → take n ys ≡ xs
take-front n xs ys e front = ap (λ m. take m ys) e ∙ ap (take (length xs)) front.1 ∙ take-length xs front.0

-- ---- heads of functions

types-length : (ps : List Parameter) → length (types_of ps) ≡ length ps
types-length [] = refl
types-length (q ∷ ps) = ap suc (types-length ps)

pub parameters-each : (s : Scope) (x : Identifier) (ts : List TypeName) (us : List DataType) → parameters s x ts ≡ Good us → AreEach (λ n u. value_type s n ≡ Good u) ts us
parameters-each s x ts us e =
    let c = good-checked (each (value_type s) ts) (few_cells s.structures x) us e in
    subst (AreEach (λ n u. value_type s n ≡ Good u) ts) (good-unless _ x.place kind.ManyCells c.0 us c.2).1 (good-each (value_type s) ts c.0 c.1)

module _ (t : Text) (p : Parts) where
  -- the variables of a function begin with its parameters
  pub function-front : (b : Passed) (result : TypeName) (x : Identifier) (ps : List Parameter) (block : List Statement) (v : FunctionParts) → Level t p b.scope → FunctionFound t b result x ps block v
      → ((in_function b.scope ps).variables ≡ v.0.1.0.parameters) × (length ps ≡ length v.0.1.0.parameters) × IsFront v.0.1.0.parameters (function_variables t b result x ps block).variables
  function-front b result x ps block v level found =
      let made = signature-made b.scope x result ps v.0.1.0 found.signed in
      let types = parameters-each b.scope x (types_of ps) v.0.1.0.parameters made.1 in
      let variables = parameters-add b.scope (no_variables b.scope) [] ps v.0.1.0.parameters types (names-fresh (names_in ps) v.0.1.1.1 found.once) (here-start t p b.scope level) in (
        variables,
        sym (types-length ps) ∙ each-length (λ n u. value_type b.scope n ≡ Good u) (types_of ps) v.0.1.0.parameters types,
        subst (λ l. IsFront l (function_variables t b result x ps block).variables) variables (in-passes t (outermost (role_of b.scope result x ps)) (in_function b.scope ps) block).grows.variables,
      )

  abbrev pub IsHeadOf : Result Signature FaultAt → Function → Type 0
  IsHeadOf r f =
      (g : Signature) → r ≡ Ok g → (take f.parameters f.variables ≡ g.parameters) × (f.result ≡ g.result)

  abbrev pub function_of : Passed → TypeName → Identifier → List Parameter → List Statement → FunctionParts → Function
  function_of b result x ps block v =
      record { parameters = length ps; variables = (function_variables t b result x ps block).variables; result = v.0.1.0.result; body = v.1 }

  function-head : (b : Passed) (result : TypeName) (x : Identifier) (ps : List Parameter) (block : List Statement) (v : FunctionParts) → Level t p b.scope → FunctionFound t b result x ps block v → IsHeadOf (outcome (signature b.scope x result ps)) (function_of b result x ps block v)
  function-head b result x ps block v level found g e =
      let same = good-equal found.signed (good-outcome (signature b.scope x result ps) g e) in
      let front = function-front b result x ps block v level found in
      (take-front (length ps) v.0.1.0.parameters (function_variables t b result x ps block).variables front.1 front.2 ∙ ap (λ (h : Signature). h.parameters) same, ap (λ (h : Signature). h.result) same)

  one-head : (is_main : Bool) (r : Result Signature FaultAt) (c : Kind) (f : Function) (hs : List (Result Signature FaultAt)) (ys : List Piece) → IsHeadOf r f → AreEach IsHeadOf hs (functions_among ys)
      → AreEach IsHeadOf ((if is_main then [] else r ∷ []) ++ hs) (functions_among ((if is_main then OneKind 0 c else OneFunction f) ∷ ys))
  one-head true r c f hs ys h i = i
  one-head false r c f hs ys h i = (h, i)

  behind : (all : List Item) (b : Passed) (i : Item) (rest : List Item) (ys : List Piece) → AreEach IsHeadOf (function_heads (scope_after t b.scope i) rest) (functions_among ys) → AreEach IsHeadOf (function_heads (after_item b.scope i) rest) (functions_among ys)
  behind all b i rest ys h =
      subst (λ l. AreEach IsHeadOf l (functions_among ys)) (functions-behind t b.scope i rest) h

  -- the functions have the heads of the text in their order
  pub heads-found : (all : List Item) (b : Passed) (items : List Item) (ys : List Piece) → Level t p b.scope → ArePieces t all b items ys → AreEach IsHeadOf (function_heads b.scope items) (functions_among ys)
  heads-found all b [] [] level h = tt
  heads-found all b [] (y ∷ ys) level h = absurd h
  heads-found all b (i ∷ rest) [] level h = absurd h
  heads-found all b (item.Structure x fields ∷ rest) (y ∷ ys) level h =
      subst (λ z. AreEach IsHeadOf (function_heads (after_item b.scope (item.Structure x fields)) rest) (functions_among (z ∷ ys))) (sym h.0)
      (heads-found all (and_item t b (item.Structure x fields)) rest ys (level-after t p b.scope (item.Structure x fields) level) h.1)
  heads-found all b (item.Enumeration x cs ∷ rest) (y ∷ ys) level h =
      subst (λ z. AreEach IsHeadOf (function_heads (after_item b.scope (item.Enumeration x cs)) rest) (functions_among (z ∷ ys))) (sym h.0)
      (heads-found all (and_item t b (item.Enumeration x cs)) rest ys (level-after t p b.scope (item.Enumeration x cs) level) h.1)
  heads-found all b (item.Specification x ts ds ∷ rest) (y ∷ ys) level h =
      subst (λ z. AreEach IsHeadOf (function_heads b.scope rest) (functions_among (z ∷ ys))) (sym h.0.1)
      (heads-found all (and_item t b (item.Specification x ts ds)) rest ys (level-after t p b.scope (item.Specification x ts ds) level) h.1)
  heads-found all b (item.Body x xs block ∷ rest) (y ∷ ys) level h =
      subst (λ z. AreEach IsHeadOf (function_heads b.scope rest) (functions_among (z ∷ ys))) (sym h.0.1)
      (behind all b (item.Body x xs block) rest ys (heads-found all (and_item t b (item.Body x xs block)) rest ys (level-after t p b.scope (item.Body x xs block) level) h.1))
  heads-found all b (item.Function result x ps block ∷ rest) (y ∷ ys) level h =
      subst (λ z. AreEach IsHeadOf (function_heads b.scope (item.Function result x ps block ∷ rest)) (functions_among (z ∷ ys))) (sym h.0.1)
      (one-head (nat_eq x.name 0) (outcome (signature b.scope x result ps)) _ (function_of b result x ps block h.0.0) (function_heads (after_item b.scope (item.Function result x ps block)) rest) ys
      (function-head b result x ps block h.0.0 level h.0.2)
      (heads-found all (and_item t b (item.Function result x ps block)) rest ys (level-after t p b.scope (item.Function result x ps block) level) h.1))

  pub head-at : (hs : List (Result Signature FaultAt)) (fs : List Function) → AreEach IsHeadOf hs fs → (f : ℕ) (g : Signature) → slice_get hs f ≡ Some (Ok g) → (function_parameters (slice_get fs f) ≡ g.parameters) × (is_function (slice_get fs f) g.result ≡ true)
  head-at [] [] h f g e = absurd (none-there f e)
    where
      none-there : (n : ℕ) {r : Result Signature FaultAt} → slice_get [] n ≡ Some r → ⊥
      none-there n i = cc
  head-at [] (u ∷ fs) h f g e = absurd h
  head-at (r ∷ hs) [] h f g e = absurd h
  head-at (r ∷ hs) (u ∷ fs) h zero g e =
      let i = h.0 g (some-there e) in (i.0, ap (λ w. is_same w g.result) i.1 ∙ type-same g.result)
    where
      some-there : {a c : Result Signature FaultAt} → Some a ≡ Some c → a ≡ c
      some-there i = cc
  head-at (r ∷ hs) (u ∷ fs) h (suc f) g e = head-at hs fs h.1 f g e
