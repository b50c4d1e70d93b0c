-- The phrases of a straight typed program give values of their types, and ask only what can be performed.
use Rattle.std.proofs.Common.{◌≡◌, ℕ, ℤ, true, false, ◌&&◌, not, List, [], ◌∷◌, length, Option, Some, refl, ap, sym, ◌∙◌, subst, arith, length-append, ◌<◌}
use Rattle.std.specs.Prelude.{slice_get, nat_lt}
use Rattle.std.proofs.lemmas.Bool.{ltb-true}
use Rattle.cc_base.specs.Granted.{create, or_fault, put_byte, transact}
use Rattle.cc_base.specs.Grants.{argument_cells}
use Rattle.cc_base.specs.Numbers.{byte_of, callee, converted, is_char, is_int, is_long}
use Rattle.cc_base.specs.Outcome.{Left, Through, and_then, ask, ◌>>=◌}
use Rattle.cc_base.specs.declared.numbers.NumberType.TheVariants as numeric
use Rattle.cc_base.specs.declared.request.Request.TheVariants as request
use Rattle.cc_source.specs.Known.{IsOf, IsOne, Ones, Safe, and-left, and-right, ask-safe, cells-safe, fault-safe, kind-cells, one-at, ones-set, safe, straight-one, takes-cells}
use Rattle.cc_source.specs.Meaning.{Caller, Scope, arguments, converted_value, eval, path_along, step_from, stored, transacted, value_along, value_of}
use Rattle.cc_source.specs.Programs.{cells_all, meaning}
use Rattle.cc_source.specs.Straight.{are_straight_row, are_straight_steps, is_straight, is_straight_place, is_straight_step, is_straight_type, is_straight_value}
use Rattle.cc_typed.proofs.Flat.{length-flat, unflat-has}
use Rattle.cc_typed.proofs.Partings.{same-type}
use Rattle.cc_typed.specs.KnownTypes.{is_process_type}
use Rattle.cc_typed.specs.Layout.{cells}
use Rattle.cc_typed.specs.Missing.{parameters_at}
use Rattle.cc_typed.specs.Parting.{is_of_type}
use Rattle.cc_typed.specs.Parts.{Parts}
use Rattle.cc_typed.specs.Phrases.{negate, not_of, plus, parenthesized, choose, put_char}
use Rattle.cc_typed.specs.Table.{element_within, layout_of}
use Rattle.cc_typed.specs.Typed.{Surroundings, are_typed_arguments, are_typed_parts, are_typed_steps, begins_with_part, is_called, is_place, is_typed, is_typed_step, kind_parameters}
use Rattle.cc_typed.specs.Types.{Int, is_assignable, is_same, of_number, of_process, type_after_step, type_of}
use Rattle.cc_typed.specs.Values.{HasLayout, Number, Value, flat, flats, number}
use Rattle.cc_typed.specs.declared.tree.ChainStep.{ChainStep, Part, Call', Send', Row_of-Argument, end_of-Argument, more_of-Argument}
use Rattle.cc_typed.specs.declared.tree.Expression.{Expression, Constant, GetChar, Read', Chain', ChangeBefore', ChangeAfter', Arithmetic', Compare', Both', Either', Assign', Update', CallFunction', CreateProcess', Within', PrintFormat', end_of-Expression, more_of-Expression, Row_of-PartStep, end_of-PartStep, more_of-PartStep, Row_of-ChainStep, end_of-ChainStep, more_of-ChainStep}
use Rattle.cc_typed.specs.declared.types.DataType.{DataType}
use Rattle.cc_typed.specs.declared.types.DataType.TheVariants.{Void, Single, Array}
use Rattle.cc_typed.specs.declared.types.ElementType.TheVariants as item

-- a straight expression has a straight type, or `void`
pub int-straight : (t : _) → is_int t ≡ true → is_straight_value (of_number t) ≡ true
unfolding is_int is_straight_value
int-straight numeric.Char e = cc
int-straight numeric.Int e = refl
int-straight numeric.Long e = cc

pub type-straight : (t : DataType) → is_straight_type t ≡ true → is_straight_value t ≡ true
unfolding is_straight_type is_straight_value
type-straight Void e = refl
type-straight (Array f n) e = cc
type-straight (Single (item.Number numeric.Char)) e = cc
type-straight (Single (item.Number numeric.Int)) e = refl
type-straight (Single (item.Number numeric.Long)) e = cc
type-straight (Single (item.Process k)) e = refl
type-straight (Single (item.Struct n)) e = cc

module _ (p : Parts) where
  number-of : (n : ℤ) → IsOf p Int (Number n)
  unfolding element_within HasLayout
  number-of n = tt

  process-of : (k : ℕ) (n : ℤ) → IsOf p (of_process k) (Number n)
  unfolding element_within HasLayout
  process-of k n = tt

  -- a value that is converted for an assignment is one of the type that it is assigned to
  pub converted-safe : (t u : DataType) (v : Value) (sc : Scope) (l : Left) → is_straight_value t ≡ true → is_straight_type u ≡ true
      → is_assignable t u ≡ true → Ones sc → IsOf p t v → Safe p (IsOf p u) (converted_value t u v sc l)
  unfolding is_straight_value is_straight_type converted is_char is_int is_long element_within HasLayout
  converted-safe (Single (item.Number numeric.Int)) (Single (item.Number numeric.Int)) v sc l st su h s fits = (s, tt)
  converted-safe (Single (item.Number numeric.Int)) (Single (item.Number numeric.Char)) v sc l st su h s fits = cc
  converted-safe (Single (item.Number numeric.Int)) (Single (item.Number numeric.Long)) v sc l st su h s fits = cc
  converted-safe (Single (item.Number numeric.Int)) (Single (item.Process j)) v sc l st su h s fits = cc
  converted-safe (Single (item.Number numeric.Int)) (Single (item.Struct n)) v sc l st su h s fits = cc
  converted-safe (Single (item.Number numeric.Int)) Void v sc l st su h s fits = cc
  converted-safe (Single (item.Number numeric.Int)) (Array f n) v sc l st su h s fits = cc
  converted-safe (Single (item.Process k)) (Single (item.Process j)) v sc l st su h s fits = (s, fits)
  converted-safe (Single (item.Process k)) (Single (item.Number n)) v sc l st su h s fits = cc
  converted-safe (Single (item.Process k)) (Single (item.Struct n)) v sc l st su h s fits = cc
  converted-safe (Single (item.Process k)) Void v sc l st su h s fits = cc
  converted-safe (Single (item.Process k)) (Array f n) v sc l st su h s fits = cc
  converted-safe Void (Single (item.Number n)) v sc l st su h s fits = cc
  converted-safe Void (Single (item.Process j)) v sc l st su h s fits = cc
  converted-safe Void (Single (item.Struct n)) v sc l st su h s fits = cc
  converted-safe Void Void v sc l st su h s fits = cc
  converted-safe Void (Array f n) v sc l st su h s fits = cc
  converted-safe (Single (item.Number numeric.Char)) u v sc l st su h s fits = cc
  converted-safe (Single (item.Number numeric.Long)) u v sc l st su h s fits = cc
  converted-safe (Single (item.Struct n)) u v sc l st su h s fits = cc
  converted-safe (Array f n) u v sc l st su h s fits = cc

  -- a conversion keeps the variables, whatever it gives
  pub converted-any : (t u : DataType) (v : Value) (sc : Scope) (l : Left) → Ones sc → Safe p (λ w. Unit {0}) (converted_value t u v sc l)
  converted-any (Single (item.Number n)) (Single (item.Number m)) v sc l s =
      safe p (λ a. Unit {0}) (λ w. Unit {0}) (or_fault (converted n m (number v)) sc l) _ (fault-safe p (converted n m (number v)) sc l s) (λ a sc1 l1 s1 _. (s1, tt))
  converted-any (Single (item.Number n)) (Single (item.Process j)) v sc l s = (s, tt)
  converted-any (Single (item.Number n)) (Single (item.Struct j)) v sc l s = (s, tt)
  converted-any (Single (item.Number n)) Void v sc l s = (s, tt)
  converted-any (Single (item.Number n)) (Array f m) v sc l s = (s, tt)
  converted-any (Single (item.Process k)) u v sc l s = (s, tt)
  converted-any (Single (item.Struct k)) u v sc l s = (s, tt)
  converted-any Void u v sc l s = (s, tt)
  converted-any (Array f n) u v sc l s = (s, tt)

module _ (p : Parts) (call : Caller) (ts : List DataType) (kind : Option ℕ) (result replies : Option DataType) where
  abbrev here : Surroundings
  here = record { parts = p; variables = ts; kind = kind; result = result; replies = replies; may_break = false; may_continue = false }

  transact-safe : (trans : ℕ) (t : DataType) (v : Value) (vs : List Value) (sc : Scope) (l : Left) → Ones sc
      → argument_cells (meaning p) trans ≡ Some (length (flats vs)) → Safe p (IsOf p t) (transacted p trans t v vs sc l)
  transact-safe trans t v vs sc l s takes =
      safe p (λ cs. Unit {0}) (IsOf p t) (transact trans (cells (layout_of p.structures t)) (number v) (flats vs) sc l) _
      (safe p (λ c. Unit {0}) (λ cs. Unit {0}) (or_fault (callee (number v)) sc l) _ (fault-safe p (callee (number v)) sc l s)
      (λ c sc1 l1 s1 _. safe p (λ g. Unit {0}) (λ cs. Unit {0}) (ask (request.Call c trans (flats vs)) sc1 l1) _ (ask-safe p (request.Call c trans (flats vs)) sc1 l1 s1 (takes, tt, tt))
      (λ g sc2 l2 s2 _. cells-safe p (cells (layout_of p.structures t)) g sc2 l2 s2)))
      (λ cs sc3 l3 s3 _. (s3, unflat-has (layout_of p.structures t) cs))

  number-any : (t : _) (n : ℤ) → IsOf p (of_number t) (Number n)
  unfolding element_within HasLayout
  number-any t n = tt

  place-straight : {n : _} (row : Row_of-PartStep n) (u : DataType) → is_straight_place row u ≡ true → is_straight_type u ≡ true
  unfolding is_straight_place
  place-straight end_of-PartStep u h = h
  place-straight (more_of-PartStep a rest) u h = cc

  -- a straight place is a variable as a whole
  path-none : {n : _} (t : DataType) (row : Row_of-PartStep n) (u : DataType) (sc : Scope) (l : Left) → is_straight_place row u ≡ true
      → path_along p call t [] row sc l ≡ Through [] sc l
  unfolding eval is_straight_place
  path-none t end_of-PartStep u sc l h = refl
  path-none t (more_of-PartStep a rest) u sc l h = cc

  expression-straight : (e : Expression) → is_straight e ≡ true → is_straight_value (type_of e) ≡ true
  unfolding is_straight type_of is_straight_place is_straight_value
  expression-straight (Constant n t) h = int-straight t h
  expression-straight GetChar h = refl
  expression-straight (Read' x t _ steps u) h = type-straight u (place-straight steps u h)
  expression-straight (Chain' _ (more_of-Expression e end_of-Expression) _ steps u) h = and-right (is_straight e && are_straight_steps steps) _ h
  expression-straight (negate e t) h = cc
  expression-straight (not_of e) h = refl
  expression-straight (plus e t) h = cc
  expression-straight (parenthesized e t) h = and-right (is_straight e) _ h
  expression-straight (ChangeBefore' x t _ steps u d) h = cc
  expression-straight (ChangeAfter' x t _ steps u d) h = cc
  expression-straight (Arithmetic' _ a _ rest t) h = cc
  expression-straight (Compare' _ a _ rest) h = refl
  expression-straight (Both' _ a _ rest) h = refl
  expression-straight (Either' _ a _ rest) h = refl
  expression-straight (choose c a b t) h = cc
  expression-straight (Assign' x t _ steps u _ (more_of-Expression e end_of-Expression)) h = type-straight u (place-straight steps u (and-left _ _ h))
  expression-straight (Update' x t _ steps u o _ e) h = cc
  expression-straight (CallFunction' f _ args t) h = cc
  expression-straight (CreateProcess' k _ args) h = refl
  expression-straight (Within' _ d _ e trans _ args _ o t) h = cc
  expression-straight (put_char e) h = refl
  expression-straight (PrintFormat' f _ args) h = refl

  abbrev pub TakesAll : List DataType → List Value → Type 0
  TakesAll us vs = length (flats vs) ≡ cells_all p us

  as-one : (u : DataType) (w : Value) → is_straight_type u ≡ true → IsOf p u w → IsOne w
  as-one u w h fits = subst (λ m. HasLayout m w) (straight-one p.structures u h) fits

  from-one : (u : DataType) (w : Value) → is_straight_type u ≡ true → IsOne w → IsOf p u w
  from-one u w h one = subst (λ m. HasLayout m w) (sym (straight-one p.structures u h)) one

  create-safe : (k : ℕ) (vs : List Value) (sc : Scope) (l : Left) → Ones sc → k < length p.kinds → TakesAll (kind_parameters (slice_get p.kinds k)) vs
      → Safe p (λ n. Unit {0}) (create k (flats vs) sc l)
  create-safe k vs sc l s there e =
      safe p (λ g. Unit {0}) (λ n. Unit {0}) (ask (request.Create k (flats vs)) sc l) _ (ask-safe p (request.Create k (flats vs)) sc l s (kind-cells p p.kinds k (length (flats vs)) there e, tt, tt))
      (λ g sc1 l1 s1 _. (s1, tt))

  byte-safe : (n : ℤ) (sc : Scope) (l : Left) → Ones sc → Safe p (λ b. Unit {0}) (put_byte n sc l)
  byte-safe n sc l s =
      safe p (λ g. Unit {0}) (λ b. Unit {0}) (ask (request.Print (byte_of n ∷ [])) sc l) _ (ask-safe p (request.Print (byte_of n ∷ [])) sc l s (tt, tt, tt)) (λ g sc1 l1 s1 _. (s1, tt))

  mutual
    unfolding eval is_straight is_straight_place is_typed type_of type_after_step

    pub eval-safe : (e : Expression) (sc : Scope) (l : Left) → is_straight e ≡ true → is_typed here e ≡ true → Ones sc
        → Safe p (IsOf p (type_of e)) (eval p call e sc l)
    eval-safe (Constant n t) sc l s h ones = (ones, number-any t n)
    eval-safe GetChar sc l s h ones = cc
    eval-safe (Read' x t _ steps u) sc l s h ones =
        subst (λ o. Safe p (IsOf p u) (and_then o (value_of x))) (sym (path-none t steps u sc l s)) (ones, from-one u _ (place-straight steps u s) (one-at sc x ones))
    eval-safe (Chain' _ (more_of-Expression e end_of-Expression) _ steps u) sc l s h ones =
        safe p (IsOf p (type_of e)) (IsOf p u) (eval p call e sc l) _
        (eval-safe e sc l (and-left _ _ (and-left _ _ s)) (and-right (not (is_place e && begins_with_part steps)) _ (and-left _ _ h)) ones)
        (λ v sc1 l1 s1 fits. steps-safe (type_of e) v steps u sc1 l1 (and-right (is_straight e) _ (and-left _ _ s)) (and-right (not (is_place e && begins_with_part steps) && is_typed here e) _ h) s1 fits)
    eval-safe (negate e t) sc l s h ones = cc
    eval-safe (not_of e) sc l s h ones = cc
    eval-safe (plus e t) sc l s h ones = cc
    eval-safe (parenthesized e t) sc l s h ones =
        let same : type_of e ≡ t = same-type (type_of e) t (and-right (is_typed here e) _ h) in
        subst (λ u. Safe p (IsOf p u) (eval p call e sc l)) same (eval-safe e sc l (and-left _ _ s) (and-left _ _ h) ones)
    eval-safe (ChangeBefore' x t _ steps u d) sc l s h ones = cc
    eval-safe (ChangeAfter' x t _ steps u d) sc l s h ones = cc
    eval-safe (Arithmetic' _ (more_of-Expression a end_of-Expression) _ rest t) sc l s h ones = cc
    eval-safe (Compare' _ (more_of-Expression a end_of-Expression) _ rest) sc l s h ones = cc
    eval-safe (Both' _ (more_of-Expression a end_of-Expression) _ rest) sc l s h ones = cc
    eval-safe (Either' _ (more_of-Expression a end_of-Expression) _ rest) sc l s h ones = cc
    eval-safe (choose c a b t) sc l s h ones = cc
    eval-safe (Assign' x t _ steps u _ (more_of-Expression e end_of-Expression)) sc l s h ones =
        let su = place-straight steps u (and-left _ _ s) in
        let se = and-right (is_straight_place steps u) _ s in
        let hp = is_of_type (slice_get ts x) t && are_typed_parts here t steps u in
        let he = and-right hp _ (and-left _ _ h) in
        let ha = and-right (hp && is_typed here e) _ h in
        subst (λ o. Safe p (IsOf p u) (and_then o (λ path. eval p call e >>= (λ v. converted_value (type_of e) u v >>= stored x path)))) (sym (path-none t steps u sc l (and-left _ _ s)))
        (safe p (IsOf p (type_of e)) (IsOf p u) (eval p call e sc l) _ (eval-safe e sc l se he ones)
        (λ v sc1 l1 s1 fits. safe p (IsOf p u) (IsOf p u) (converted_value (type_of e) u v sc1 l1) _ (converted-safe p (type_of e) u v sc1 l1 (expression-straight e se) su ha s1 fits)
        (λ w sc2 l2 s2 good. (ones-set sc2 x w s2 (as-one u w su good), good))))
    eval-safe (Update' x t _ steps u o _ (more_of-Expression e end_of-Expression)) sc l s h ones = cc
    eval-safe (CallFunction' f _ args t) sc l s h ones = cc
    eval-safe (CreateProcess' k _ args) sc l s h ones =
        let there = ltb-true k (length p.kinds) (and-right (nat_lt 0 k) _ (and-left _ _ h)) in
        safe p (TakesAll (kind_parameters (slice_get p.kinds k))) (IsOf p (of_process k)) _ _
        (args-safe args (kind_parameters (slice_get p.kinds k)) sc l s (and-right (is_process_type p k) _ h) ones)
        (λ vs sc1 l1 s1 e. safe p (λ n. Unit {0}) (IsOf p (of_process k)) (create k (flats vs) sc1 l1) _ (create-safe k vs sc1 l1 s1 there e) (λ n sc2 l2 s2 _. (s2, process-of p k n)))
    eval-safe (Within' _ (more_of-Expression d end_of-Expression) _ (more_of-Expression e end_of-Expression) trans _ args _ (more_of-Expression o end_of-Expression) t) sc l s h ones =
        cc
    eval-safe (put_char e) sc l s h ones =
        safe p (IsOf p (type_of e)) (IsOf p Int) (eval p call e sc l) _ (eval-safe e sc l s (and-left _ _ h) ones)
        (λ v sc1 l1 s1 _. safe p (λ b. Unit {0}) (IsOf p Int) (put_byte (number v) sc1 l1) _ (byte-safe (number v) sc1 l1 s1) (λ b sc2 l2 s2 _. (s2, number-of p b)))
    eval-safe (PrintFormat' f _ args) sc l s h ones = cc

    steps-safe : {n : _} (t : DataType) (v : Value) (row : Row_of-ChainStep n) (u : DataType) (sc : Scope) (l : Left) → are_straight_steps row ≡ true
        → are_typed_steps here t row u ≡ true → Ones sc → IsOf p t v → Safe p (IsOf p u) (value_along p call t v row sc l)
    steps-safe t v end_of-ChainStep u sc l s h ones fits = (ones, subst (λ w. IsOf p w v) (same-type t u h) fits)
    steps-safe t v (more_of-ChainStep c rest) u sc l s h ones fits =
        safe p (IsOf p (type_after_step c)) (IsOf p u) (step_from p call t v c sc l) _ (step-safe t v c sc l (and-left _ _ s) (and-left _ _ h) ones)
        (λ w sc1 l1 s1 good. steps-safe (type_after_step c) w rest u sc1 l1 (and-right (is_straight_step c) _ s) (and-right (is_typed_step here t c) _ h) s1 good)

    step-safe : (t : DataType) (v : Value) (c : ChainStep) (sc : Scope) (l : Left) → is_straight_step c ≡ true → is_typed_step here t c ≡ true → Ones sc
        → Safe p (IsOf p (type_after_step c)) (step_from p call t v c sc l)
    step-safe t v (Part a) sc l s h ones = cc
    step-safe t v (Send' trans _ args) sc l s h ones = cc
    step-safe t v (Call' trans _ args u) sc l s h ones =
        safe p (TakesAll (parameters_at (slice_get p.transactions trans))) (IsOf p u) (arguments p call args sc l) _
        (args-safe args (parameters_at (slice_get p.transactions trans)) sc l (and-left _ _ s) (and-right (is_called (slice_get p.transactions trans) t u) _ h) ones)
        (λ vs sc1 l1 s1 e. transact-safe trans u v vs sc1 l1 s1 (takes-cells p p.transactions trans (length (flats vs)) t u (and-left _ _ h) e))

    args-safe : {n : _} (row : Row_of-Argument n) (us : List DataType) (sc : Scope) (l : Left) → are_straight_row row ≡ true
        → are_typed_arguments here row us ≡ true → Ones sc → Safe p (TakesAll us) (arguments p call row sc l)
    args-safe end_of-Argument [] sc l s h ones = (ones, refl)
    args-safe end_of-Argument (u ∷ us) sc l s h ones = cc
    args-safe (more_of-Argument e t rest) [] sc l s h ones = cc
    args-safe (more_of-Argument e t rest) (u ∷ us) sc l s h ones =
        let sa = and-left _ _ s in
        let se = and-left _ _ sa in
        let st = and-right (is_straight e) _ sa in
        let ha = and-left _ _ h in
        let same : u ≡ t = same-type u t (and-right (is_typed here e && is_assignable (type_of e) t) _ ha) in
        let hx = and-right (is_typed here e) _ (and-left _ _ ha) in
        safe p (IsOf p (type_of e)) (TakesAll (u ∷ us)) (eval p call e sc l) _ (eval-safe e sc l se (and-left _ _ (and-left _ _ ha)) ones)
        (λ v sc1 l1 s1 fits. safe p (IsOf p t) (TakesAll (u ∷ us)) (converted_value (type_of e) t v sc1 l1) _ (converted-safe p (type_of e) t v sc1 l1 (expression-straight e se) st hx s1 fits)
        (λ w sc2 l2 s2 good. safe p (TakesAll us) (TakesAll (u ∷ us)) (arguments p call rest sc2 l2) _
        (args-safe rest us sc2 l2 (and-right (is_straight e && is_straight_type t) _ s) (and-right (is_typed here e && is_assignable (type_of e) t && is_same u t) _ h) s2)
        (λ vs sc3 l3 s3 all. (s3, taken w vs t u us same good all))))
      where
        taken : (w : Value) (vs : List Value) (t u : DataType) (us : List DataType) → u ≡ t → IsOf p t w → TakesAll us vs → TakesAll (u ∷ us) (w ∷ vs)
        taken w vs t u us same good all =
            let first : length (flat w) ≡ cells (layout_of p.structures u) =
            length-flat (layout_of p.structures t) w good ∙ ap (λ x. cells (layout_of p.structures x)) (sym same) in
            omega (arith, length-append (flat w) (flats vs), first, all)

pub ruleset safety = (eval-safe)
