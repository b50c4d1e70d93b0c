-- What the program of a text of `putchar` statements means.
use Rattle.std.proofs.Common.{◌≡◌, ◌≢◌, ℕ, zero, suc, ◌-◌, ◌≤◌, ◌%◌, ℤ, List, [], ◌∷◌, length, map, refl, sym, ap, ◌∙◌, arith, Option, Some, None}
use Rattle.std.specs.Prelude.{slice_get, All}
use Rattle.std.specs.Option.{option_map_or}
use Rattle.std.proofs.lemmas.List.Elements.{All-head, All-tail}
use Rattle.cc_base.specs.Outcome.{asked_by}
use Rattle.cc_base.specs.declared.request.Grant.{Grant}
use Rattle.cc_base.specs.declared.request.Request.{Request}
use Rattle.cc_base.specs.declared.request.Request.TheVariants.{Print, Done}
use Rattle.cc_command.specs.Printing.{printing, request_after}
use Rattle.cc_command.specs.Program.{program_of, puts}
use Rattle.cc_rules.specs.Alike.{AreAlike}
use Rattle.cc_source.specs.Lists.{exec_all}
use Rattle.cc_source.specs.Meaning.{Caller, Scope, eval, exec}
use Rattle.cc_typed.specs.Parts.{Parts}
use Rattle.cc_typed.specs.declared.tree.ChainStep.TheBlock as E
use denote.Hole.Carrier.{hidden}
use Rattle.cc_source.specs.Programs.{act, call, fit, meaning}

abbrev pub byte_request : Option ℕ → Request
byte_request byte = option_map_or (λ b. Print (b ∷ [])) byte Done

-- the statements ask for the byte whose turn it is
puts-ask :
    (p : Parts) (call : Caller) (bytes : List ℕ) (scope : Scope) (grants : List Grant) (ticks : ℕ)
    → All (λ b. b ≤ 255) bytes
    → asked_by Done (exec_all p call (map puts bytes) scope (record { grants = grants; ticks = ticks })) ≡ byte_request (slice_get bytes (length grants))
unfolding exec eval E.shape-the_row-Expression-2 E.hidden-the_row-Expression-2 hidden
puts-ask p call [] scope grants ticks small = refl
puts-ask p call (b ∷ bytes) scope [] ticks small =
    let le : b ≤ 255 = All-head (λ x. x ≤ 255) b bytes small in
    let same : b % 256 ≡ b = omega (arith, le) in
    ap (λ n. Print (n ∷ [])) same
puts-ask p call (b ∷ bytes) scope (g ∷ grants) ticks small = puts-ask p call bytes scope grants 1000 (All-tail (λ x. x ≤ 255) b bytes small)

act-asks :
    (bytes : List ℕ) (args : List ℤ) (grants : List Grant)
    → All (λ b. b ≤ 255) bytes
    → grants ≢ []
    → act (program_of bytes) 0 args grants ≡ request_after bytes (length grants)
unfolding act
act-asks bytes args [] small some = absurd (some refl)
act-asks bytes args (g ∷ grants) small some =
    let p = program_of bytes in
    let last : length (g ∷ grants) - 1 ≡ length grants = omega arith in
    puts-ask p (call p 1000 0) bytes [] grants 1000 small
    ∙ ap (λ n. byte_request (slice_get bytes n)) (sym last)

no-fit : (bytes : List ℕ) (site : ℕ) (env args : List ℤ) → None ≡ fit (program_of bytes) site env args
unfolding fit
no-fit bytes site env args = refl

same-kind :
    (bytes : List ℕ) (kind : ℕ) (args : List ℤ) (grants : List Grant)
    → All (λ b. b ≤ 255) bytes
    → slice_get (meaning (program_of bytes)).kinds kind ≡ Some (length args)
    → grants ≢ []
    → request_after bytes (length grants) ≡ act (program_of bytes) kind args grants
same-kind bytes zero args grants small exists some = sym (act-asks bytes args grants small some)
same-kind bytes (suc kind) args grants small exists some = absurd cc

-- the program is to the machine what prints the bytes one after the other
pub alike-printing : (bytes : List ℕ) → All (λ b. b ≤ 255) bytes → AreAlike (meaning (program_of bytes)) (printing bytes)
alike-printing bytes small =
    record {
      same_kinds = refl;
      same_shapes = refl;
      same_fit = no-fit bytes;
      same_act = λ kind args grants exists proper. same-kind bytes kind args grants small exists proper.0;
    }
