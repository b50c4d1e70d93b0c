-- A text means one program, or has one first fault.
use Rattle.std.proofs.Common.{◌≡◌, inl, inr, ℕ, List, Ok, Err, refl, sym, ◌∙◌, ap, subst}
use Rattle.cc_base.specs.declared.names.Place.{Place}
use Rattle.cc_grammar.proofs.One.{one_answer}
use Rattle.cc_grammar.specs.Sentences.{IsSyntax, IsTooDeep, IsTree}
use Rattle.cc_grammar.specs.declared.fault.ParseError.TheVariants as error
use Rattle.cc_grammar.specs.declared.tree.Tree.{Tree}
use Rattle.cc_lex.proofs.Unique as unique
use Rattle.cc_lex.specs.Spells.{FirstFault}
use Rattle.cc_lex.specs.TokenList.{TokenList}
use Rattle.cc_lex.specs.declared.fault.LexKind.{LexKind}
use Rattle.cc_command.proofs.Forms.{same_bytes}
use Rattle.cc_command.specs.Program.{program_of}
use Rattle.cc_command.specs.Texts.{HasFault, HasTokens, IsBuilt, MeansProgram}
use Rattle.cc_command.specs.declared.text_fault.TextFaultKind.{TextFaultKind}
use Rattle.cc_command.specs.declared.text_fault.TextFaultKind.TheVariants.{Tokens, Syntax, TooDeep, Unbuilt}
use Rattle.cc_typed.specs.Parts.{Parts}

same_tokens : (text : List ℕ) (a b : TokenList) → HasTokens text a → HasTokens text b → a ≡ b
same_tokens text a b x y = unique.one_spelling text a b x.1 y.1

no_tokens_fault : (text : List ℕ) (list : TokenList) (place : Place) (kind : LexKind) → HasTokens text list → FirstFault text place kind → ⊥
no_tokens_fault text list place kind x fault = unique.no_fault text list place kind x.0 x.1 fault

tree_or_syntax : (list : TokenList) (tree : Tree) (at : ℕ) (place : Place) → IsTree list tree → IsSyntax list at place → ⊥
tree_or_syntax list tree at place is syntax_fault = elim (one_answer list (Ok tree) (Err (error.Syntax at place)) is syntax_fault) [
  | inl e ↦ cc
  | inr none ↦ elim none [ inl e ↦ cc | inr e ↦ cc ]
]

tree_or_deep : (list : TokenList) (tree : Tree) (place : Place) → IsTree list tree → IsTooDeep list place → ⊥
tree_or_deep list tree place is deep = elim (one_answer list (Ok tree) (Err (error.TooDeep place)) is deep) [
  | inl e ↦ cc
  | inr none ↦ elim none [ inl e ↦ cc | inr e ↦ cc ]
]

syntax_or_deep : (list : TokenList) (at : ℕ) (p q : Place) → IsSyntax list at p → IsTooDeep list q → ⊥
syntax_or_deep list at p q syntax_fault deep = elim (one_answer list (Err (error.Syntax at p)) (Err (error.TooDeep q)) syntax_fault deep) [
  | inl e ↦ cc
  | inr none ↦ elim none [ inl e ↦ cc | inr e ↦ cc ]
]

one_syntax : (list : TokenList) (at by : ℕ) (p q : Place) → IsSyntax list at p → IsSyntax list by q → p ≡ q
one_syntax list at by p q a b = elim (one_answer list (Err (error.Syntax at p)) (Err (error.Syntax by q)) a b) [
  | inl e ↦ cc
  | inr none ↦ absurd (elim none [ inl e ↦ cc | inr e ↦ cc ])
]

one_deep : (list : TokenList) (p q : Place) → IsTooDeep list p → IsTooDeep list q → p ≡ q
one_deep list p q a b = elim (one_answer list (Err (error.TooDeep p)) (Err (error.TooDeep q)) a b) [
  | inl e ↦ cc
  | inr none ↦ absurd (elim none [ inl e ↦ cc | inr e ↦ cc ])
]

-- ---- with the text's tokens

syntax_of : (text : List ℕ) (list : TokenList) (place : Place) → HasTokens text list → HasFault text place Syntax → (at : ℕ) × IsSyntax list at place
syntax_of text list place x fault = subst (λ (l : TokenList). (at : ℕ) × IsSyntax l at place) (same_tokens text fault.0 list fault.1 x) fault.2

deep_of : (text : List ℕ) (list : TokenList) (place : Place) → HasTokens text list → HasFault text place TooDeep → IsTooDeep list place
deep_of text list place x fault = subst (λ (l : TokenList). IsTooDeep l place) (same_tokens text fault.0 list fault.1 x) fault.2

built_of : (list other : TokenList) (program : Parts) → list ≡ other → IsBuilt list program → IsBuilt other program
built_of list other program same built = subst (λ (l : TokenList). IsBuilt l program) same built

-- ---- the laws

pub one_program : (text : List ℕ) (first second : Parts) → MeansProgram text first → MeansProgram text second → first ≡ second
one_program text first second x y =
    let other = built_of y.list x.list second (same_tokens text y.list x.list y.read.tokens x.read.tokens) y.built in
    x.built.same ∙ ap program_of (same_bytes x.list.tokens x.built.bytes other.bytes x.built.form other.form) ∙ sym other.same

pub no_faulty_program : (text : List ℕ) (program : Parts) (place : Place) (kind : TextFaultKind) → MeansProgram text program → ¬ HasFault text place kind
no_faulty_program text program place (Tokens kind) means fault = no_tokens_fault text means.list place kind means.read.tokens fault
no_faulty_program text program place Syntax means fault =
    let found = syntax_of text means.list place means.read.tokens fault in
    tree_or_syntax means.list means.tree found.0 place means.read.sentence found.1
no_faulty_program text program place TooDeep means fault =
    tree_or_deep means.list means.tree place means.read.sentence (deep_of text means.list place means.read.tokens fault)
no_faulty_program text program place Unbuilt means fault =
    fault.3 program (built_of means.list fault.0 program (same_tokens text means.list fault.0 means.read.tokens fault.2.tokens) means.built)

pub one_fault : (text : List ℕ) (p q : Place) (k l : TextFaultKind) → HasFault text p k → HasFault text q l → (p ≡ q) × (k ≡ l)
one_fault text p q (Tokens k) (Tokens l) a b = (let same = unique.one_fault text p q k l a b in (same.0, ap (λ (kind : LexKind). Tokens kind) same.1))
one_fault text p q (Tokens k) Syntax a b = absurd (no_tokens_fault text b.0 p k b.1 a)
one_fault text p q (Tokens k) TooDeep a b = absurd (no_tokens_fault text b.0 p k b.1 a)
one_fault text p q (Tokens k) Unbuilt a b = absurd (no_tokens_fault text b.0 p k b.2.tokens a)
one_fault text p q Syntax (Tokens l) a b = absurd (no_tokens_fault text a.0 q l a.1 b)
one_fault text p q Syntax Syntax a b = (let other = syntax_of text a.0 q a.1 b in (one_syntax a.0 a.2.0 other.0 p q a.2.1 other.1, refl))
one_fault text p q Syntax TooDeep a b = absurd (syntax_or_deep a.0 a.2.0 p q a.2.1 (deep_of text a.0 q a.1 b))
one_fault text p q Syntax Unbuilt a b = absurd (let found = syntax_of text b.0 p b.2.tokens a in tree_or_syntax b.0 b.1 found.0 p b.2.sentence found.1)
one_fault text p q TooDeep (Tokens l) a b = absurd (no_tokens_fault text a.0 q l a.1 b)
one_fault text p q TooDeep Syntax a b = absurd (let found = syntax_of text a.0 q a.1 b in syntax_or_deep a.0 found.0 q p found.1 a.2)
one_fault text p q TooDeep TooDeep a b = (one_deep a.0 p q a.2 (deep_of text a.0 q a.1 b), refl)
one_fault text p q TooDeep Unbuilt a b = absurd (tree_or_deep b.0 b.1 p b.2.sentence (deep_of text b.0 p b.2.tokens a))
one_fault text p q Unbuilt (Tokens l) a b = absurd (no_tokens_fault text a.0 q l a.2.tokens b)
one_fault text p q Unbuilt Syntax a b = absurd (let found = syntax_of text a.0 q a.2.tokens b in tree_or_syntax a.0 a.1 found.0 q a.2.sentence found.1)
one_fault text p q Unbuilt TooDeep a b = absurd (tree_or_deep a.0 a.1 q a.2.sentence (deep_of text a.0 q a.2.tokens b))
one_fault text p q Unbuilt Unbuilt a b = (a.4 ∙ sym b.4, refl)
