-- The program of a text of `putchar` statements is typed and straight.
use Rattle.std.proofs.Common.{◌≡◌, ℕ, ◌≤◌, pos, true, ◌&&◌, List, [], ◌∷◌, map, refl, ap, ◌∙◌, arith}
use Rattle.std.proofs.lemmas.Bool.Decides.{nat_tests}
use Rattle.std.specs.List.{list_all}
use Rattle.std.specs.Prelude.{All}
use Rattle.std.proofs.lemmas.List.Elements.{All-head, All-tail}
use Rattle.cc_command.specs.Program.{program_of, puts}
use Rattle.cc_base.specs.Numbers.{fits, is_int}
use Rattle.cc_source.specs.Straight.{is_straight, is_straight_program, is_straight_statement, is_straight_value}
use Rattle.cc_typed.specs.Typed.{Surroundings, is_typed, is_typed_program, is_typed_statement}
use Rattle.cc_typed.specs.Types.{type_of}
use Rattle.cc_typed.specs.declared.tree.ChainStep.TheBlock as E
use denote.Hole.Carrier.{hidden}

fits-byte : (byte : ℕ) → byte ≤ 255 → fits 31 (pos byte) ≡ true
fits-byte byte small = grind (arith, nat_tests)

typed-puts : (s : Surroundings) (byte : ℕ) → byte ≤ 255 → is_typed_statement s (puts byte) ≡ true
unfolding is_typed_statement is_typed type_of E.shape-the_row-Expression-2 E.hidden-the_row-Expression-2 hidden
typed-puts s byte small = ap (λ b. b && true) (fits-byte byte small)

all-typed : (s : Surroundings) (bytes : List ℕ) → All (λ b. b ≤ 255) bytes → list_all (is_typed_statement s) (map puts bytes) ≡ true
all-typed s [] small = refl
all-typed s (byte ∷ bytes) small =
    let first = typed-puts s byte (All-head (λ b. b ≤ 255) byte bytes small) in
    let others = all-typed s bytes (All-tail (λ b. b ≤ 255) byte bytes small) in
    ap (λ b. b && list_all (is_typed_statement s) (map puts bytes)) first ∙ others

pub program-typed : (bytes : List ℕ) → All (λ b. b ≤ 255) bytes → is_typed_program (program_of bytes) ≡ true
program-typed bytes small = rw (all-typed _ bytes small) refl

straight-puts : (byte : ℕ) → is_straight_statement (puts byte) ≡ true
unfolding is_straight_statement is_straight is_int E.shape-the_row-Expression-2 E.hidden-the_row-Expression-2 hidden
straight-puts byte = refl

all-straight : (bytes : List ℕ) → list_all is_straight_statement (map puts bytes) ≡ true
all-straight [] = refl
all-straight (byte ∷ bytes) = ap (λ b. b && list_all is_straight_statement (map puts bytes)) (straight-puts byte) ∙ all-straight bytes

pub program-straight : (bytes : List ℕ) → is_straight_program (program_of bytes) ≡ true
unfolding is_straight_value
program-straight bytes = rw (all-straight bytes) refl
