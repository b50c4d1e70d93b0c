-- The examples, computed.
use Rattle.std.proofs.Common.{◌≡◌, true, [], ◌∷◌, refl}
use Rattle.cc_base.specs.Numbers.{is_int}
use Rattle.cc_typed.specs.Accepts.{sites_in, sites_of_kinds}
use Rattle.cc_typed.specs.Clauses.{all_noted, is_pure}
use Rattle.cc_typed.specs.Typed.{is_typed_program, is_place, is_typed, is_typed_statement}
use Rattle.cc_typed.specs.Types.{type_after, type_of}
use Rattle.cc_typed.specs.declared.tree.ChainStep.TheBlock as E
use Rattle.cc_typed.specs.declared.tree.Choice.TheBlock as T
use Rattle.cc_faults.specs.Depths.{depth_of}
use Rattle.cc_faults.specs.Expressions.{expression, place_of}
use Rattle.cc_faults.specs.Expressions as spec
use Rattle.cc_faults.specs.Judged.{Good, after_each, answer, asked, both, checked, each, each_after, map}
use Rattle.cc_faults.specs.Programs.{program}
use Rattle.cc_faults.specs.Statements.{after, judged}
use Rattle.cc_faults.specs.declared.plain.Choice.TheBlock as S
use Rattle.cc_faults.specs.declared.plain.Phrase.TheBlock as P
use Rattle.cc_sound.specs.Examples.{two_bodies, two_kinds}
use denote.Hole.Carrier.{hidden}

pub two-means : program two_bodies ≡ Good two_kinds
unfolding program answer map checked both asked each each_after after_each judged after expression place_of spec.is_place depth_of spec.count_row type_of type_after is_int all_noted
    P.shape-the_row-Phrase-1 P.hidden-the_row-Phrase-0 P.hidden-the_row-Phrase-1 P.hidden-the_row-Step-2 P.hidden-the_row-Operation-3 P.hidden-the_row-Compared-4 S.hidden-the_row-Statement-0 S.shape-the_row-Statement-1 S.hidden-the_row-Statement-1 S.hidden-the_row-Alternative-2
    E.shape-the_row-Expression-2 E.hidden-the_row-Expression-2 E.hidden-the_row-Compared-5 E.hidden-the_row-Argument-0 E.hidden-the_row-PartStep-1 T.hidden-the_row-Statement-0 hidden
two-means = refl

pub two-sites : sites_of_kinds two_kinds.kinds ≡ 1 ∷ 0 ∷ []
unfolding sites_in T.hidden-the_row-Statement-0 hidden
two-sites = refl

pub two-typed : is_typed_program two_kinds ≡ true
unfolding is_typed is_typed_statement is_place is_pure all_noted type_of type_after sites_in E.hidden-the_row-Expression-2 E.hidden-the_row-Compared-5 E.hidden-the_row-Argument-0 E.hidden-the_row-PartStep-1 T.hidden-the_row-Statement-0 hidden
two-typed = refl
