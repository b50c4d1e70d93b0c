-- Numbers and processes as cells, and conversions of values whose cells are kept.
use Rattle.std.proofs.Common.{◌≡◌, ℕ, ℤ, pos, true, false, not, List, [], ◌∷◌, get_or, Option, Some, None, refl, sym, ap, ◌∙◌}
use Rattle.std.proofs.lemmas.Int.{to_z-of_z}
use Rattle.std.specs.Prelude.{Err, Ok, Result}
use Rattle.cc_base.specs.Granted.{or_fault}
use Rattle.cc_base.specs.Numbers.{converted}
use Rattle.cc_base.specs.Outcome.{Left, Through, Asked, and_then}
use Rattle.cc_base.specs.declared.names.FaultKind.{FaultKind}
use Rattle.cc_base.specs.declared.numbers.NumberType.{NumberType}
use Rattle.cc_base.specs.declared.request.Request.TheVariants as request
use Rattle.cc_source.specs.Known.{and-left, and-right}
use Rattle.cc_source.specs.Meaning.{Scope, converted_value}
use Rattle.cc_typed.proofs.Flat.{flat-unflat}
use Rattle.cc_typed.proofs.Partings.{same-type}
use Rattle.cc_typed.specs.Layout.{cells}
use Rattle.cc_typed.specs.Table.{element_within, layout_of}
use Rattle.cc_typed.specs.Typed.{is_called}
use Rattle.cc_typed.specs.Types.{Int, is_arithmetic, is_assignable, is_process_of, number_in, of_number, of_process}
use Rattle.cc_typed.specs.Values.{Number, number, unflat}
use Rattle.cc_typed.specs.declared.tree.Transaction.{Transaction}
use Rattle.cc_typed.specs.declared.types.DataType.{DataType}
use Rattle.cc_typed.specs.declared.types.DataType.TheVariants.{Void, Single, Array}
use Rattle.cc_typed.specs.declared.types.ElementType.TheVariants as item
use Rattle.cc_typed.specs.declared.types.Structure.{Structure}

module _ (structures : List Structure) where
  -- the value of one cell
  pub number-cell : (t : DataType) (n : NumberType) (k : ℤ) → t ≡ of_number n → unflat (layout_of structures t) (k ∷ []) ≡ Number k
  unfolding element_within unflat
  number-cell t n k e = ap (λ u. unflat (layout_of structures u) (k ∷ [])) e

  pub process-cell : (t : DataType) (kind : ℕ) (k : ℤ) → t ≡ of_process kind → unflat (layout_of structures t) (k ∷ []) ≡ Number k
  unfolding element_within unflat
  process-cell t kind k e = ap (λ u. unflat (layout_of structures u) (k ∷ [])) e

  pub number-size : (t : DataType) (n : NumberType) → t ≡ of_number n → cells (layout_of structures t) ≡ 1
  unfolding element_within cells
  number-size t n e = ap (λ u. cells (layout_of structures u)) e

  pub process-size : (t : DataType) (kind : ℕ) → t ≡ of_process kind → cells (layout_of structures t) ≡ 1
  unfolding element_within cells
  process-size t kind e = ap (λ u. cells (layout_of structures u)) e

  pub int-here : (k : ℤ) → unflat (layout_of structures Int) (k ∷ []) ≡ Number k
  unfolding element_within unflat
  int-here k = refl

  pub int-size-here : cells (layout_of structures Int) ≡ 1
  unfolding element_within cells
  int-size-here = refl

  pub process-here : (kind : ℕ) (k : ℤ) → unflat (layout_of structures (of_process kind)) (k ∷ []) ≡ Number k
  unfolding element_within unflat
  process-here kind k = refl

  pub process-size-here : (kind : ℕ) → cells (layout_of structures (of_process kind)) ≡ 1
  unfolding element_within cells
  process-size-here kind = refl

  -- the number of a value whose cells are kept
  pub number-cells : (t : DataType) (cs : List ℤ) → is_arithmetic t ≡ true → number (unflat (layout_of structures t) cs) ≡ get_or cs 0 (pos 0)
  unfolding element_within unflat
  number-cells Void cs b = cc
  number-cells (Array e n) cs b = cc
  number-cells (Single (item.Number n)) cs b = refl
  number-cells (Single (item.Process n)) cs b = cc
  number-cells (Single (item.Struct n)) cs b = cc

  process-cells : (t : DataType) (kind : ℕ) (cs : List ℤ) → is_process_of kind t ≡ true → number (unflat (layout_of structures t) cs) ≡ get_or cs 0 (pos 0)
  unfolding element_within unflat
  process-cells Void kind cs b = cc
  process-cells (Array e n) kind cs b = cc
  process-cells (Single (item.Number n)) kind cs b = cc
  process-cells (Single (item.Process n)) kind cs b = refl
  process-cells (Single (item.Struct n)) kind cs b = cc

  -- the process that is called
  pub called-cells : (o : Option Transaction) (t u : DataType) (cs : List ℤ) → is_called o t u ≡ true
      → number (unflat (layout_of structures t) cs) ≡ get_or cs 0 (pos 0)
  called-cells None t u cs b = cc
  called-cells (Some tr) t u cs b = process-cells t tr.kind cs (and-right (not tr.is_async) _ (and-left _ _ b))

  numbers-convert : (t u : DataType) (cs : List ℤ) (r : Result ℤ FaultKind) (sc : Scope) (l : Left) → is_arithmetic t ≡ true → is_assignable t u ≡ true
      → r ≡ converted (number_in t) (number_in u) (get_or cs 0 (pos 0))
      → converted_value t u (unflat (layout_of structures t) cs) sc l ≡ and_then (or_fault r sc l) (λ n sc1 l1. Through (Number n) sc1 l1)
  unfolding element_within unflat
  numbers-convert (Single (item.Number n)) (Single (item.Number m)) cs r sc l b a e =
      ap (λ q. and_then (or_fault q sc l) (λ k sc1 l1. Through (Number k) sc1 l1)) (sym e)
  numbers-convert (Single (item.Number n)) Void cs r sc l b a e = cc
  numbers-convert (Single (item.Number n)) (Array f m) cs r sc l b a e = cc
  numbers-convert (Single (item.Number n)) (Single (item.Process k)) cs r sc l b a e = cc
  numbers-convert (Single (item.Number n)) (Single (item.Struct k)) cs r sc l b a e = cc
  numbers-convert Void u cs r sc l b a e = cc
  numbers-convert (Array f m) u cs r sc l b a e = cc
  numbers-convert (Single (item.Process k)) u cs r sc l b a e = cc
  numbers-convert (Single (item.Struct k)) u cs r sc l b a e = cc

  assigned-number : (t u : DataType) → is_arithmetic t ≡ true → is_assignable t u ≡ true → is_arithmetic u ≡ true
  assigned-number (Single (item.Number n)) (Single (item.Number m)) b a = refl
  assigned-number (Single (item.Number n)) Void b a = cc
  assigned-number (Single (item.Number n)) (Array f m) b a = cc
  assigned-number (Single (item.Number n)) (Single (item.Process k)) b a = cc
  assigned-number (Single (item.Number n)) (Single (item.Struct k)) b a = cc
  assigned-number Void u b a = cc
  assigned-number (Array f m) u b a = cc
  assigned-number (Single (item.Process k)) u b a = cc
  assigned-number (Single (item.Struct k)) u b a = cc

  arithmetic-cell : (t : DataType) (k : ℤ) → is_arithmetic t ≡ true → unflat (layout_of structures t) (k ∷ []) ≡ Number k
  unfolding element_within unflat
  arithmetic-cell Void k b = cc
  arithmetic-cell (Array e n) k b = cc
  arithmetic-cell (Single (item.Number n)) k b = refl
  arithmetic-cell (Single (item.Process n)) k b = cc
  arithmetic-cell (Single (item.Struct n)) k b = cc

  arithmetic-size : (t : DataType) → is_arithmetic t ≡ true → cells (layout_of structures t) ≡ 1
  unfolding element_within cells
  arithmetic-size Void b = cc
  arithmetic-size (Array e n) b = cc
  arithmetic-size (Single (item.Number n)) b = refl
  arithmetic-size (Single (item.Process n)) b = cc
  arithmetic-size (Single (item.Struct n)) b = cc

  -- a number that is converted, as a cell
  pub convert-ok : (t u : DataType) (cs : List ℤ) (n : ℤ) (sc : Scope) (l : Left) → is_arithmetic t ≡ true → is_assignable t u ≡ true
      → Ok n ≡ converted (number_in t) (number_in u) (get_or cs 0 (pos 0))
      → converted_value t u (unflat (layout_of structures t) cs) sc l ≡ Through (unflat (layout_of structures u) (n ∷ [])) sc l
  convert-ok t u cs n sc l b a e = numbers-convert t u cs (Ok n) sc l b a e ∙ ap (λ v. Through v sc l) (sym (arithmetic-cell u n (assigned-number t u b a)))

  pub convert-err : (t u : DataType) (cs : List ℤ) (kind : FaultKind) (sc : Scope) (l : Left) → is_arithmetic t ≡ true → is_assignable t u ≡ true
      → Err kind ≡ converted (number_in t) (number_in u) (get_or cs 0 (pos 0))
      → converted_value t u (unflat (layout_of structures t) cs) sc l ≡ Asked (request.Fault kind)
  convert-err t u cs kind sc l b a e = numbers-convert t u cs (Err kind) sc l b a e

  pub convert-size : (t u : DataType) → is_arithmetic t ≡ true → is_assignable t u ≡ true → cells (layout_of structures u) ≡ 1
  convert-size t u b a = arithmetic-size u (assigned-number t u b a)

  -- any other value stays
  same-kept : (t u : DataType) → is_arithmetic t ≡ false → is_assignable t u ≡ true → t ≡ u
  same-kept (Single (item.Number n)) u b a = cc
  same-kept Void Void b a = refl
  same-kept Void (Array f m) b a = cc
  same-kept Void (Single (item.Number n)) b a = cc
  same-kept Void (Single (item.Process k)) b a = cc
  same-kept Void (Single (item.Struct k)) b a = cc
  same-kept (Array f m) Void b a = cc
  same-kept (Array f m) (Array g n) b a = cc
  same-kept (Array f m) (Single (item.Number n)) b a = cc
  same-kept (Array f m) (Single (item.Process k)) b a = cc
  same-kept (Array f m) (Single (item.Struct k)) b a = cc
  same-kept (Single (item.Process k)) Void b a = cc
  same-kept (Single (item.Process k)) (Array g n) b a = cc
  same-kept (Single (item.Process k)) (Single (item.Number n)) b a = cc
  same-kept (Single (item.Process k)) (Single (item.Process j)) b a = same-type (Single (item.Process k)) (Single (item.Process j)) a
  same-kept (Single (item.Process k)) (Single (item.Struct j)) b a = cc
  same-kept (Single (item.Struct k)) Void b a = cc
  same-kept (Single (item.Struct k)) (Array g n) b a = cc
  same-kept (Single (item.Struct k)) (Single (item.Number n)) b a = cc
  same-kept (Single (item.Struct k)) (Single (item.Process j)) b a = cc
  same-kept (Single (item.Struct k)) (Single (item.Struct j)) b a = same-type (Single (item.Struct k)) (Single (item.Struct j)) a

  kept : (t u : DataType) (v : _) (sc : Scope) (l : Left) → is_arithmetic t ≡ false → converted_value t u v sc l ≡ Through v sc l
  kept Void u v sc l b = refl
  kept (Array f m) u v sc l b = refl
  kept (Single (item.Number n)) u v sc l b = cc
  kept (Single (item.Process k)) u v sc l b = refl
  kept (Single (item.Struct k)) u v sc l b = refl

  pub convert-same : (t u : DataType) (cs : List ℤ) (sc : Scope) (l : Left) → is_arithmetic t ≡ false → is_assignable t u ≡ true
      → converted_value t u (unflat (layout_of structures t) cs) sc l ≡ Through (unflat (layout_of structures u) cs) sc l
  convert-same t u cs sc l b a =
      kept t u (unflat (layout_of structures t) cs) sc l b ∙ ap (λ w. Through (unflat (layout_of structures w) cs) sc l) (same-kept t u b a)

  pub same-size : (t u : DataType) → is_arithmetic t ≡ false → is_assignable t u ≡ true → cells (layout_of structures t) ≡ cells (layout_of structures u)
  same-size t u b a = ap (λ w. cells (layout_of structures w)) (same-kept t u b a)

pub ruleset numbers = (to_z-of_z)

pub ruleset numbers_here = (to_z-of_z, int-here, int-size-here, process-here, process-size-here)

pub ruleset conversions = (to_z-of_z, convert-ok, convert-err, convert-size, convert-same, same-size)

pub ruleset cells_of_types = (to_z-of_z, number-cell, process-cell, number-size, process-size, number-cells, called-cells, same-type, flat-unflat)
