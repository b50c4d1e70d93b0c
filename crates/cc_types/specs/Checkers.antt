-- What the checker knows as it goes through a text.
use Rattle.cc_faults.specs.Scopes.{Scope, Text}

pub record Checker : Type 0 where
  pub text : Text
  pub scope : Scope
