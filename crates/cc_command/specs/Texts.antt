-- What a text means: a program, or its first fault. The stages come one after the other: tokens, syntax and nesting, and last
-- what isn't built yet. A stage has a fault only in a text that has none in the stages before.
use Rattle.std.specs.Prelude.{◌≡◌, ℕ, ◌≤◌, List, length, Result}
use Rattle.cc_base.specs.declared.names.Place.{Place}
use Rattle.cc_lex.specs.Spells.{FirstFault, Spells, longest_text, start}
use Rattle.cc_lex.specs.TokenList.{TokenList}
use Rattle.cc_grammar.specs.Sentences.{IsSyntax, IsTooDeep, IsTree}
use Rattle.cc_grammar.specs.declared.tree.Tree.{Tree}
use Rattle.cc_typed.specs.Parts.{Parts}
use Rattle.cc_command.specs.Form.{IsForm}
use Rattle.cc_command.specs.Program.{program_of}
use Rattle.cc_command.specs.declared.text_fault.ReadError.{ReadError}
use Rattle.cc_command.specs.declared.text_fault.ReadError.TheVariants as error
use Rattle.cc_command.specs.declared.text_fault.TextFaultKind.{TextFaultKind}
use Rattle.cc_command.specs.declared.text_fault.TextFaultKind.TheVariants.{Tokens, Syntax, TooDeep, Unbuilt}

-- these tokens spell the text, which is not too long
abbrev pub HasTokens : List ℕ → TokenList → Type 0
HasTokens text list = (length text ≤ longest_text) × Spells text list

-- these tokens spell the text, and are those of the tree
pub record HasTree (text : List ℕ) (list : TokenList) (tree : Tree) : Type 0 where
  pub tokens : HasTokens text list
  pub sentence : IsTree list tree

-- the program of these tokens, where their form is built
pub record IsBuilt (list : TokenList) (program : Parts) : Type 0 where
  pub bytes : List ℕ
  pub form : IsForm list.tokens bytes
  pub same : program ≡ program_of bytes

-- the text means this program
pub record MeansProgram (text : List ℕ) (program : Parts) : Type 0 where
  pub list : TokenList
  pub tree : Tree
  pub read : HasTree text list tree
  pub built : IsBuilt list program

-- the tokens have this fault of syntax or nesting
abbrev pub HasTreeFault : TokenList → Place → TextFaultKind → Type 0
HasTreeFault list place Syntax = (at : ℕ) × IsSyntax list at place
HasTreeFault list place TooDeep = IsTooDeep list place
HasTreeFault list place (Tokens kind) = ⊥
HasTreeFault list place Unbuilt = ⊥

-- the text's first fault is this one
abbrev pub HasFault : List ℕ → Place → TextFaultKind → Type 0
HasFault text place (Tokens kind) = FirstFault text place kind
HasFault text place Syntax = (list : TokenList) × HasTokens text list × HasTreeFault list place Syntax
HasFault text place TooDeep = (list : TokenList) × HasTokens text list × HasTreeFault list place TooDeep
HasFault text place Unbuilt = (list : TokenList) × (tree : Tree) × HasTree text list tree × ((program : Parts) → ¬ IsBuilt list program) × (place ≡ start)

-- the fault for which something was not read, if it was one
abbrev pub IfFault : {T : Type 0} → Result T ReadError → (Place → TextFaultKind → Type 0) → Type 0
IfFault (Result.Ok x) Is = Unit {0}
IfFault (Result.Err (error.Fault fault)) Is = Is fault.place fault.kind
IfFault (Result.Err error.Memory) Is = Unit {0}
