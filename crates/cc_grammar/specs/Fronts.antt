-- Which tokens are a whole phrase, and which are the front of one, by cases along a grammar. The rule on `else` plays no part
-- here.
use Rattle.std.specs.Prelude.{◌≡◌, ◌==◌, true, List, [], ◌∷◌, ◌++◌}
use Rattle.cc_lex.specs.declared.token.Token.{Token}
use Rattle.cc_grammar.specs.Ebnf.{Ebnf, tok, seq, alt, many, opt, ref, nest}
use Rattle.cc_grammar.specs.Kinds.{Kind, kind}
use Rattle.cc_grammar.specs.Symbols.{Symbol}

-- these tokens are a whole phrase of a form, where `rules` has the form of each symbol
pub data Whole (rules : Symbol → Ebnf) : Ebnf → List Token → Type 0 where
  w_tok : {k : Kind} {t : Token} → (k == kind t) ≡ true → Whole rules (tok k) (t ∷ [])
  w_seq : {a b : Ebnf} {xs ys : List Token} → Whole rules a xs → Whole rules b ys → Whole rules (seq a b) (xs ++ ys)
  w_left : {a b : Ebnf} {xs : List Token} → Whole rules a xs → Whole rules (alt a b) xs
  w_right : {a b : Ebnf} {xs : List Token} → Whole rules b xs → Whole rules (alt a b) xs
  w_end : {a : Ebnf} → Whole rules (many a) []
  w_more : {a : Ebnf} {xs ys : List Token} → Whole rules a xs → Whole rules (many a) ys → Whole rules (many a) (xs ++ ys)
  w_none : {a : Ebnf} → Whole rules (opt a) []
  w_some : {a : Ebnf} {xs : List Token} → Whole rules a xs → Whole rules (opt a) xs
  w_ref : {s : Symbol} {xs : List Token} → Whole rules (rules s) xs → Whole rules (ref s) xs
  w_nest : {s : Symbol} {xs : List Token} → Whole rules (rules s) xs → Whole rules (nest s) xs

-- these tokens are a front of a phrase
pub data Front (rules : Symbol → Ebnf) : Ebnf → List Token → Type 0 where
  -- of a token: none, or the token
  f_before : {k : Kind} → Front rules (tok k) []
  f_tok : {k : Kind} {t : Token} → (k == kind t) ≡ true → Front rules (tok k) (t ∷ [])
  -- of parts in a row: whole phrases of the first parts, and a front of the next one
  f_first : {a b : Ebnf} {xs : List Token} → Front rules a xs → Front rules (seq a b) xs
  f_second : {a b : Ebnf} {xs ys : List Token} → Whole rules a xs → Front rules b ys → Front rules (seq a b) (xs ++ ys)
  -- of a choice: a front of one of its ways
  f_left : {a b : Ebnf} {xs : List Token} → Front rules a xs → Front rules (alt a b) xs
  f_right : {a b : Ebnf} {xs : List Token} → Front rules b xs → Front rules (alt a b) xs
  -- of any number of parts: none, or whole phrases and then a front of one
  f_end : {a : Ebnf} → Front rules (many a) []
  f_last : {a : Ebnf} {xs : List Token} → Front rules a xs → Front rules (many a) xs
  f_more : {a : Ebnf} {xs ys : List Token} → Whole rules a xs → Front rules (many a) ys → Front rules (many a) (xs ++ ys)
  -- of at most one part: none, or a front of it
  f_none : {a : Ebnf} → Front rules (opt a) []
  f_some : {a : Ebnf} {xs : List Token} → Front rules a xs → Front rules (opt a) xs
  f_ref : {s : Symbol} {xs : List Token} → Front rules (rules s) xs → Front rules (ref s) xs
  f_nest : {s : Symbol} {xs : List Token} → Front rules (rules s) xs → Front rules (nest s) xs
