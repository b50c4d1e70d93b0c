-- Tokens in order, with the place of the text's end.
use Rattle.std.specs.Prelude.{List}
use Rattle.cc_base.specs.declared.names.Place.{Place}
use Rattle.cc_lex.specs.declared.token.Token.{Token}

pub record TokenList : Type 0 where
  pub tokens : List Token
  pub end : Place
