-- What a file holds of which the first bytes were read.
use Rattle.std.proofs.Common.{◌≡◌, ℕ, ◌≤◌, List, [], length, take, take_all, Option, Some, None, refl, sym, ◌∙◌, ap, subst, arith, Result}
use Rattle.std.specs.Prelude.{option_map, unwrap_or}
use Rattle.std.proofs.lemmas.List.{length-take}
use Rattle.std.specs.FinMap as map
use Rattle.cc_base.specs.declared.names.Place.{Place}
use Rattle.cc_lex.specs.Spells.{FirstFault, too_long, at_piece}
use Rattle.cc_lex.specs.declared.fault.LexKind.{LexKind}
use Rattle.cc_command.specs.Outcomes.{FileHasFault, FileMeans, HoldsProgram, HoldsText}
use Rattle.cc_command.specs.Texts.{HasFault, IfFault, MeansProgram}
use Rattle.cc_command.specs.declared.text_fault.ReadError.{ReadError}
use Rattle.cc_command.specs.declared.text_fault.ReadError.TheVariants.{Fault}
use Rattle.cc_command.specs.declared.text_fault.TextFault.{TextFault}
use Rattle.cc_command.specs.declared.text_fault.TextFaultKind.{TextFaultKind}
use Rattle.cc_command.specs.declared.text_fault.TextFaultKind.TheVariants.{Tokens, Syntax, TooDeep, Unbuilt}
use Rattle.cc_typed.specs.Parts.{Parts}
use Rattle.cc_world.specs.Shelf.{Files, IsStartOf}

contents_of : (got : Option (List ℕ)) (text : List ℕ) → option_map (λ c. take 1048577 c) got ≡ Some text → (c : List ℕ) × (got ≡ Some c) × (take 1048577 c ≡ text)
contents_of None text e = cc
contents_of (Some c) text e = (c, refl, ap (λ o. unwrap_or o []) e)

whole : (c text : List ℕ) → take 1048577 c ≡ text → length text ≤ 1048576 → c ≡ text
whole c text e le = sym (take_all 1048577 c (omega (arith, length-take 1048577 c, ap length e))) ∙ e

holds_text : (files : Option Files) (name text : List ℕ) → IsStartOf files name 1048577 text → length text ≤ 1048576 → HoldsText files name text
holds_text None name text is le = tt
holds_text (Some m) name text is le =
    let f = contents_of (map.get m name) text is in
    f.1 ∙ ap (λ (c : List ℕ). Some c) (whole f.0 text f.2 le)

pub file_means : (files : Option Files) (name text : List ℕ) (program : Parts) → IsStartOf files name 1048577 text → MeansProgram text program → FileMeans files name program
file_means files name text program is means =
    record { text = text; held = holds_text files name text is means.read.tokens.0; means = means }

-- a text is too long where its first bytes are
tokens_fault : (c text : List ℕ) (place : Place) (kind : LexKind) → take 1048577 c ≡ text → FirstFault text place kind → FirstFault c place kind
tokens_fault c text place kind e (too_long long) = too_long (omega (arith, long, length-take 1048577 c, ap length e))
tokens_fault c text place kind e (at_piece tokens short r) =
    subst (λ (t : List ℕ). FirstFault t place kind) (sym (whole c text e short)) (at_piece tokens short r)

same_fault : (c text : List ℕ) (place : Place) (kind : TextFaultKind) → take 1048577 c ≡ text → HasFault text place kind → HasFault c place kind
same_fault c text place (Tokens kind) e fault = tokens_fault c text place kind e fault
same_fault c text place Syntax e fault = subst (λ (t : List ℕ). HasFault t place Syntax) (sym (whole c text e fault.1.0)) fault
same_fault c text place TooDeep e fault = subst (λ (t : List ℕ). HasFault t place TooDeep) (sym (whole c text e fault.1.0)) fault
same_fault c text place Unbuilt e fault = subst (λ (t : List ℕ). HasFault t place Unbuilt) (sym (whole c text e fault.2.tokens.0)) fault

pub file_has_fault : (files : Option Files) (name text : List ℕ) (place : Place) (kind : TextFaultKind) → IsStartOf files name 1048577 text → HasFault text place kind → FileHasFault files name place kind
file_has_fault None name text place kind is fault = record { text = text; held = tt; fault = fault }
file_has_fault (Some m) name text place kind is fault =
    let f = contents_of (map.get m name) text is in
    record { text = f.0; held = f.1; fault = same_fault f.0 text place kind f.2 fault }

pub fault_is :
    (Is : Place → TextFaultKind → Type 0) (error : ReadError) (fault : TextFault)
    → error ≡ Fault fault
    → IfFault {T = Unit {0}} (Result.Err error) Is
    → Is fault.place fault.kind
fault_is Is error fault e told = subst (λ (x : ReadError). IfFault {T = Unit {0}} (Result.Err x) Is) e told

-- what follows for the program of a text holds of the file's
pub of_program :
    (files : Option Files) (name : List ℕ) (program : Parts) (Then : Parts → Type 0)
    → FileMeans files name program
    → ((text : List ℕ) → MeansProgram text program → Then program)
    → HoldsProgram files name Then
of_program files name program Then held follows = record { program = program; means = held; follows = follows held.text held.means }
