-- The form in which the grammar is read has the phrases and the fronts of the productions.
use Rattle.std.proofs.Common.{◌≡◌, ℕ, zero, suc, Bool, true, false, refl, subst}
use Rattle.std.specs.Prelude.{if◌then◌else◌}
use Rattle.cc_lex.specs.declared.token.Mark.TheVariants as mark
use Rattle.cc_lex.specs.declared.token.Word.TheVariants as word
use Rattle.cc_grammar.specs.Ebnf.{Ebnf, tok, seq, alt, many, opt, ref, nest, ◌⨾◌, ◌∣◌, name, key, sign}
use Rattle.cc_grammar.specs.Fronts.{f_before, f_first}
use Rattle.cc_grammar.specs.Grammar.{rule}
use Rattle.cc_grammar.specs.Productions.{production}
use Rattle.cc_grammar.specs.Symbols.{Symbol}
use Rattle.cc_grammar.specs.Symbols as the
use Rattle.cc_grammar.proofs.Under.{Under, keep, via, in_seq, from_alt, to_left, to_right, in_alt, in_many, in_opt, unfold_ref, fold_ref, spread, spread_first, regroup, group, some, skip, stop, first_or_not, last_or_not}

-- a row before what follows it, in one row
abbrev row : Ebnf → Ebnf → Ebnf
row (seq a b) c = seq a (row b c)
row a c = seq a c

-- a choice before more ways, in one choice
abbrev choice : Ebnf → Ebnf → Ebnf
choice (alt a b) c = alt a (choice b c)
choice a c = alt a c

-- a form with another in place of each symbol
abbrev written : (Symbol → Ebnf) → Ebnf → Ebnf
written f (tok k) = tok k
written f (seq a b) = row (written f a) (written f b)
written f (alt a b) = choice (written f a) (written f b)
written f (many a) = many (written f a)
written f (opt a) = opt (written f a)
written f (ref s) = f s
written f (nest s) = nest s

-- Whether a symbol names a part of a production.
abbrev is_part : Symbol → Bool
is_part the.text = false
is_part the.item = false
is_part the.type = false
is_part the.field = false
is_part the.declarator = false
is_part the.constant = false
is_part the.length = false
is_part the.transaction = false
is_part the.transaction_parameters = false
is_part the.transaction_parameter = false
is_part the.parameters = false
is_part the.parameter = false
is_part the.names = false
is_part the.block = false
is_part the.entry = false
is_part the.local = false
is_part the.local_declarator = false
is_part the.statement = false
is_part the.accept = false
is_part the.clauses = false
is_part the.such = false
is_part the.least = false
is_part the.alternative = false
is_part the.choice = false
is_part the.assign = false
is_part the.assign_operator = false
is_part the.conditional = false
is_part the.disjunction = false
is_part the.conjunction = false
is_part the.equality = false
is_part the.order = false
is_part the.sum = false
is_part the.term = false
is_part the.unary = false
is_part the.postfix = false
is_part the.primary = false
is_part the.arguments = false
is_part other = true

-- a symbol, or where it names a part, the part
abbrev inlined : ℕ → Symbol → Ebnf
inlined zero s = ref s
inlined (suc n) s = if is_part s then written (inlined n) (rule s) else ref s

part_as_written : (s : Symbol) → is_part s ≡ true → production s ≡ rule s
part_as_written the.text e = cc
part_as_written the.item e = cc
part_as_written the.type e = cc
part_as_written the.field e = cc
part_as_written the.declarator e = cc
part_as_written the.constant e = cc
part_as_written the.length e = cc
part_as_written the.transaction e = cc
part_as_written the.transaction_parameters e = cc
part_as_written the.transaction_parameter e = cc
part_as_written the.parameters e = cc
part_as_written the.parameter e = cc
part_as_written the.names e = cc
part_as_written the.block e = cc
part_as_written the.entry e = cc
part_as_written the.local e = cc
part_as_written the.local_declarator e = cc
part_as_written the.statement e = cc
part_as_written the.accept e = cc
part_as_written the.clauses e = cc
part_as_written the.such e = cc
part_as_written the.least e = cc
part_as_written the.alternative e = cc
part_as_written the.choice e = cc
part_as_written the.assign e = cc
part_as_written the.assign_operator e = cc
part_as_written the.conditional e = cc
part_as_written the.disjunction e = cc
part_as_written the.conjunction e = cc
part_as_written the.equality e = cc
part_as_written the.order e = cc
part_as_written the.sum e = cc
part_as_written the.term e = cc
part_as_written the.unary e = cc
part_as_written the.postfix e = cc
part_as_written the.primary e = cc
part_as_written the.arguments e = cc
part_as_written other e = refl

-- what stands in place of `type`
abbrev any_type : Ebnf
any_type = production the.type

-- the types but for `void`
abbrev value_type : Ebnf
value_type =
    key word.Char ∣ key word.Int ∣ key word.Long ∣ key word.Struct ⨾ name ∣ key word.Enum ⨾ name ∣ key word.Process ⨾ name

abbrev function : Ebnf
function = name ⨾ sign mark.OpenParenthesis ⨾ ref the.parameters ⨾ sign mark.CloseParenthesis ⨾ ref the.block

abbrev constants : Ebnf
constants =
    sign mark.OpenBrace ⨾ ref the.constant ⨾ many (sign mark.Comma ⨾ ref the.constant) ⨾ sign mark.CloseBrace ⨾ sign mark.Semicolon

abbrev fields : Ebnf
fields = sign mark.OpenBrace ⨾ ref the.field ⨾ many (ref the.field) ⨾ sign mark.CloseBrace ⨾ sign mark.Semicolon

abbrev specification : Ebnf
specification =
    key word.Spec ⨾ name ⨾ sign mark.OpenParenthesis ⨾ ref the.transaction_parameters ⨾ sign mark.CloseParenthesis ⨾
    opt (sign mark.OpenBrace ⨾ many (ref the.transaction) ⨾ sign mark.CloseBrace) ⨾ sign mark.Semicolon

abbrev body : Ebnf
body = key word.Body ⨾ name ⨾ sign mark.OpenParenthesis ⨾ opt (ref the.names) ⨾ sign mark.CloseParenthesis ⨾ ref the.block

abbrev next_parameters : Ebnf
next_parameters = many (sign mark.Comma ⨾ ref the.parameter)

module _ (rules : Symbol → Ebnf) where
  row_up : (a b : Ebnf) → Under rules (seq a b) (row a b)
  row_up (seq a b) c = via rules (regroup rules a b c) (in_seq rules (keep rules a) (row_up b c))
  row_up (tok k) c = keep rules (seq (tok k) c)
  row_up (alt a b) c = keep rules (seq (alt a b) c)
  row_up (many a) c = keep rules (seq (many a) c)
  row_up (opt a) c = keep rules (seq (opt a) c)
  row_up (ref s) c = keep rules (seq (ref s) c)
  row_up (nest s) c = keep rules (seq (nest s) c)

  row_down : (a b : Ebnf) → Under rules (row a b) (seq a b)
  row_down (seq a b) c = via rules (in_seq rules (keep rules a) (row_down b c)) (group rules a b c)
  row_down (tok k) c = keep rules (seq (tok k) c)
  row_down (alt a b) c = keep rules (seq (alt a b) c)
  row_down (many a) c = keep rules (seq (many a) c)
  row_down (opt a) c = keep rules (seq (opt a) c)
  row_down (ref s) c = keep rules (seq (ref s) c)
  row_down (nest s) c = keep rules (seq (nest s) c)

  choice_up : (a b : Ebnf) → Under rules (alt a b) (choice a b)
  choice_up (alt a b) c =
      from_alt rules (from_alt rules (to_left rules) (via rules (via rules (to_left rules) (choice_up b c)) (to_right rules)))
      (via rules (via rules (to_right rules) (choice_up b c)) (to_right rules))
  choice_up (tok k) c = keep rules (alt (tok k) c)
  choice_up (seq a b) c = keep rules (alt (seq a b) c)
  choice_up (many a) c = keep rules (alt (many a) c)
  choice_up (opt a) c = keep rules (alt (opt a) c)
  choice_up (ref s) c = keep rules (alt (ref s) c)
  choice_up (nest s) c = keep rules (alt (nest s) c)

  choice_down : (a b : Ebnf) → Under rules (choice a b) (alt a b)
  choice_down (alt a b) c =
      from_alt rules (via rules (to_left rules) (to_left rules))
      (via rules (choice_down b c) (from_alt rules (via rules (to_right rules) (to_left rules)) (to_right rules)))
  choice_down (tok k) c = keep rules (alt (tok k) c)
  choice_down (seq a b) c = keep rules (alt (seq a b) c)
  choice_down (many a) c = keep rules (alt (many a) c)
  choice_down (opt a) c = keep rules (alt (opt a) c)
  choice_down (ref s) c = keep rules (alt (ref s) c)
  choice_down (nest s) c = keep rules (alt (nest s) c)

  written_above : (f : Symbol → Ebnf) → ((s : Symbol) → Under rules (ref s) (f s)) → (g : Ebnf) → Under rules g (written f g)
  written_above f u (tok k) = keep rules (tok k)
  written_above f u (seq a b) = via rules (in_seq rules (written_above f u a) (written_above f u b)) (row_up (written f a) (written f b))
  written_above f u (alt a b) = via rules (in_alt rules (written_above f u a) (written_above f u b)) (choice_up (written f a) (written f b))
  written_above f u (many a) = in_many rules (written_above f u a)
  written_above f u (opt a) = in_opt rules (written_above f u a)
  written_above f u (ref s) = u s
  written_above f u (nest s) = keep rules (nest s)

  written_below : (f : Symbol → Ebnf) → ((s : Symbol) → Under rules (f s) (ref s)) → (g : Ebnf) → Under rules (written f g) g
  written_below f u (tok k) = keep rules (tok k)
  written_below f u (seq a b) = via rules (row_down (written f a) (written f b)) (in_seq rules (written_below f u a) (written_below f u b))
  written_below f u (alt a b) = via rules (choice_down (written f a) (written f b)) (in_alt rules (written_below f u a) (written_below f u b))
  written_below f u (many a) = in_many rules (written_below f u a)
  written_below f u (opt a) = in_opt rules (written_below f u a)
  written_below f u (ref s) = u s
  written_below f u (nest s) = keep rules (nest s)

-- where `rules` has the parts of productions as they are read
module _ (rules : Symbol → Ebnf) (part : (s : Symbol) → is_part s ≡ true → rules s ≡ rule s) where
  inlined_up : (n : ℕ) (s : Symbol) → Under rules (ref s) (inlined n s)
  inlined_up zero s = keep rules (ref s)
  inlined_up (suc n) s = go (is_part s) refl (inlined_up n)
    where
      go : (b : Bool) → is_part s ≡ b → ((u : Symbol) → Under rules (ref u) (inlined n u)) → Under rules (ref s) (if b then written (inlined n) (rule s) else ref s)
      go false e u = keep rules (ref s)
      go true e u =
          let F : Ebnf → Type 0 = λ g. Under rules (ref s) g in
          via rules (subst F (part s e) (unfold_ref rules s)) (written_above rules (inlined n) u (rule s))

  inlined_down : (n : ℕ) (s : Symbol) → Under rules (inlined n s) (ref s)
  inlined_down zero s = keep rules (ref s)
  inlined_down (suc n) s = go (is_part s) refl (inlined_down n)
    where
      go : (b : Bool) → is_part s ≡ b → ((u : Symbol) → Under rules (inlined n u) (ref u)) → Under rules (if b then written (inlined n) (rule s) else ref s) (ref s)
      go false e u = keep rules (ref s)
      go true e u =
          let F : Ebnf → Type 0 = λ g. Under rules g (ref s) in
          via rules (written_below rules (inlined n) u (rule s)) (subst F (part s e) (fold_ref rules s))

  inlined_above : (g : Ebnf) → Under rules g (written (inlined 8) g)
  inlined_above g = written_above rules (inlined 8) (inlined_up 8) g

  inlined_below : (g : Ebnf) → Under rules (written (inlined 8) g) g
  inlined_below g = written_below rules (inlined 8) (inlined_down 8) g

-- and types and parameters in either form
module _ (rules : Symbol → Ebnf) (part : (s : Symbol) → is_part s ≡ true → rules s ≡ rule s)
    (type_up : Under rules (ref the.type) any_type) (type_down : Under rules any_type (ref the.type))
    (parameter_up : Under rules (ref the.parameter) (seq (ref the.type) name)) (parameter_down : Under rules (seq (ref the.type) name) (ref the.parameter)) where
  written_up : (g : Ebnf) → Under rules g (written (inlined 8) g)
  written_up g = inlined_above rules part g

  written_down : (g : Ebnf) → Under rules (written (inlined 8) g) g
  written_down g = inlined_below rules part g

  same : {g : Ebnf} → Under rules g g
  same {g = g} = keep rules g

  left : {g a b : Ebnf} → Under rules g a → Under rules g (alt a b)
  left u = via rules u (to_left rules)

  right : {g a b : Ebnf} → Under rules g b → Under rules g (alt a b)
  right u = via rules u (to_right rules)

  -- ---- items

  in_type : {g : Ebnf} → Under rules g any_type → Under rules g (opt (ref the.type))
  in_type u = via rules u (via rules type_down (some rules))

  -- a function and its type
  typed : {g : Ebnf} → Under rules g any_type → Under rules (seq g function) (production the.item)
  typed u = right (right (right (right (in_seq rules (in_type u) same))))

  -- a function with a type of two words
  named : (k : Ebnf) → Under rules (seq k name) any_type → Under rules (seq k (seq name function)) (production the.item)
  named k u = via rules (group rules k name function) (typed u)

  item_up : Under rules (rule the.item) (production the.item)
  item_up =
      via rules (written_up (rule the.item))
      (from_alt rules
      (via rules (in_seq rules same (spread rules name fields function))
      (via rules (spread rules (key word.Struct) (name ⨾ fields) (name ⨾ function))
      (from_alt rules (left same) (named (key word.Struct) (right (right (right (right (left same)))))))))
      (from_alt rules
      (via rules (spread rules (key word.Enum) constants (name ⨾ (constants ∣ function)))
      (from_alt rules
      (right (left (in_seq rules same (skip rules))))
      (via rules (in_seq rules same (spread rules name constants function))
      (via rules (spread rules (key word.Enum) (name ⨾ constants) (name ⨾ function))
      (from_alt rules
      (right (left (in_seq rules same (in_seq rules (some rules) same))))
      (named (key word.Enum) (right (right (right (right (right (left same))))))))))))
      (from_alt rules
      (via rules (spread rules (key word.Process) specification (body ∣ name ⨾ function))
      (from_alt rules
      (right (right (left same)))
      (via rules (spread rules (key word.Process) body (name ⨾ function))
      (from_alt rules
      (right (right (right (left same))))
      (named (key word.Process) (right (right (right (right (right (right same)))))))))))
      (from_alt rules
      (typed (from_alt rules (left same) (right (from_alt rules (left same) (right (from_alt rules (left same) (right (left same))))))))
      (right (right (right (right (skip rules)))))))))

  -- the form in which an item is read, without the names of its parts
  abbrev read_item : Ebnf
  read_item = written (inlined 8) (rule the.item)

  -- a function without its type
  before_function : {g : Ebnf} → Under rules g (key word.Void ∣ key word.Char ∣ key word.Int ∣ key word.Long) → Under rules (seq g function) read_item
  before_function u = right (right (right (left (in_seq rules u same))))

  function_down : Under rules (seq any_type function) read_item
  function_down =
      via rules (spread_first rules _ _ function) (from_alt rules (before_function (left same))
      (via rules (spread_first rules _ _ function) (from_alt rules (before_function (right (left same)))
      (via rules (spread_first rules _ _ function) (from_alt rules (before_function (right (right (left same))))
      (via rules (spread_first rules _ _ function) (from_alt rules (before_function (right (right (right same))))
      (via rules (spread_first rules _ _ function) (from_alt rules
      (via rules (regroup rules (key word.Struct) name function) (left (in_seq rules same (in_seq rules same (right same)))))
      (via rules (spread_first rules _ _ function) (from_alt rules
      (via rules (regroup rules (key word.Enum) name function) (right (left (in_seq rules same (right (in_seq rules same (right same)))))))
      (via rules (regroup rules (key word.Process) name function) (right (right (left (in_seq rules same (right (right same))))))))))))))))))

  item_down : Under rules (production the.item) (rule the.item)
  item_down =
      via rules
      (from_alt rules
      (left (in_seq rules same (in_seq rules same (left same))))
      (from_alt rules
      (right (left (in_seq rules same
      (via rules (first_or_not rules name constants (f_first f_before)) (from_alt rules (right (in_seq rules same (left same))) (left same))))))
      (from_alt rules
      (right (right (left (in_seq rules same (left same)))))
      (from_alt rules
      (right (right (left (in_seq rules same (right (left same))))))
      (via rules (first_or_not rules (ref the.type) function (f_first f_before))
      (from_alt rules
      (via rules (in_seq rules type_up same) function_down)
      (right (right (right (right same))))))))))
      (written_down (rule the.item))

  -- ---- parameters of functions

  parameters_up : Under rules (rule the.parameters) (production the.parameters)
  parameters_up =
      via rules (written_up (rule the.parameters))
      (in_opt rules (from_alt rules
      (via rules (last_or_not rules (key word.Void) (name ⨾ next_parameters))
      (from_alt rules (left same) (after_type (left same))))
      (after_type (right same))))
    where
      after_type : {g : Ebnf} → Under rules g any_type → Under rules (seq g (name ⨾ next_parameters)) (key word.Void ∣ ref the.parameter ⨾ next_parameters)
      after_type {g = g} u =
          right (via rules (group rules g name next_parameters)
          (in_seq rules (via rules (in_seq rules (via rules u type_down) same) parameter_down) same))

  parameters_down : Under rules (production the.parameters) (rule the.parameters)
  parameters_down =
      via rules
      (in_opt rules (from_alt rules
      (left (stop rules))
      (via rules (in_seq rules (via rules parameter_up (in_seq rules type_up same)) same)
      (via rules (regroup rules any_type name next_parameters)
      (via rules (spread_first rules (key word.Void) value_type (name ⨾ next_parameters))
      (from_alt rules (left (in_seq rules same (some rules))) (right same)))))))
      (written_down (rule the.parameters))

  -- ---- all symbols

  above : (s : Symbol) → Under rules (rule s) (production s)
  above the.text = written_up (rule the.text)
  above the.item = item_up
  above the.type = written_up (rule the.type)
  above the.field = written_up (rule the.field)
  above the.declarator = written_up (rule the.declarator)
  above the.constant = written_up (rule the.constant)
  above the.length = written_up (rule the.length)
  above the.transaction = written_up (rule the.transaction)
  above the.transaction_parameters = written_up (rule the.transaction_parameters)
  above the.transaction_parameter = written_up (rule the.transaction_parameter)
  above the.parameters = parameters_up
  above the.parameter = written_up (rule the.parameter)
  above the.names = written_up (rule the.names)
  above the.block = written_up (rule the.block)
  above the.entry = written_up (rule the.entry)
  above the.local = written_up (rule the.local)
  above the.local_declarator = written_up (rule the.local_declarator)
  above the.statement = written_up (rule the.statement)
  above the.accept = written_up (rule the.accept)
  above the.clauses = written_up (rule the.clauses)
  above the.such = written_up (rule the.such)
  above the.least = written_up (rule the.least)
  above the.alternative = written_up (rule the.alternative)
  above the.choice = written_up (rule the.choice)
  above the.assign = written_up (rule the.assign)
  above the.assign_operator = written_up (rule the.assign_operator)
  above the.conditional = written_up (rule the.conditional)
  above the.disjunction = written_up (rule the.disjunction)
  above the.conjunction = written_up (rule the.conjunction)
  above the.equality = written_up (rule the.equality)
  above the.order = written_up (rule the.order)
  above the.sum = written_up (rule the.sum)
  above the.term = written_up (rule the.term)
  above the.unary = written_up (rule the.unary)
  above the.postfix = written_up (rule the.postfix)
  above the.primary = written_up (rule the.primary)
  above the.arguments = written_up (rule the.arguments)
  above other = keep rules (rule other)

  below : (s : Symbol) → Under rules (production s) (rule s)
  below the.text = written_down (rule the.text)
  below the.item = item_down
  below the.type = written_down (rule the.type)
  below the.field = written_down (rule the.field)
  below the.declarator = written_down (rule the.declarator)
  below the.constant = written_down (rule the.constant)
  below the.length = written_down (rule the.length)
  below the.transaction = written_down (rule the.transaction)
  below the.transaction_parameters = written_down (rule the.transaction_parameters)
  below the.transaction_parameter = written_down (rule the.transaction_parameter)
  below the.parameters = parameters_down
  below the.parameter = written_down (rule the.parameter)
  below the.names = written_down (rule the.names)
  below the.block = written_down (rule the.block)
  below the.entry = written_down (rule the.entry)
  below the.local = written_down (rule the.local)
  below the.local_declarator = written_down (rule the.local_declarator)
  below the.statement = written_down (rule the.statement)
  below the.accept = written_down (rule the.accept)
  below the.clauses = written_down (rule the.clauses)
  below the.such = written_down (rule the.such)
  below the.least = written_down (rule the.least)
  below the.alternative = written_down (rule the.alternative)
  below the.choice = written_down (rule the.choice)
  below the.assign = written_down (rule the.assign)
  below the.assign_operator = written_down (rule the.assign_operator)
  below the.conditional = written_down (rule the.conditional)
  below the.disjunction = written_down (rule the.disjunction)
  below the.conjunction = written_down (rule the.conjunction)
  below the.equality = written_down (rule the.equality)
  below the.order = written_down (rule the.order)
  below the.sum = written_down (rule the.sum)
  below the.term = written_down (rule the.term)
  below the.unary = written_down (rule the.unary)
  below the.postfix = written_down (rule the.postfix)
  below the.primary = written_down (rule the.primary)
  below the.arguments = written_down (rule the.arguments)
  below other = keep rules (rule other)

pub up : (s : Symbol) → Under production (rule s) (production s)
up =
    above production part_as_written (unfold_ref production the.type) (fold_ref production the.type)
    (unfold_ref production the.parameter) (fold_ref production the.parameter)

as_read : (s : Symbol) → is_part s ≡ true → rule s ≡ rule s
as_read s e = refl

pub down : (s : Symbol) → Under rule (production s) (rule s)
down =
    below rule as_read (via rule (unfold_ref rule the.type) (inlined_above rule as_read (rule the.type)))
    (via rule (inlined_below rule as_read (rule the.type)) (fold_ref rule the.type)) (unfold_ref rule the.parameter) (fold_ref rule the.parameter)
