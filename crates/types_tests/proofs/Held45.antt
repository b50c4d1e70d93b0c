-- more of names, accepts and clauses: each text computed.
use Rattle.std.proofs.Common.{refl}
use Rattle.cc_base.specs.Formats.{conversions, is_format}
use Rattle.cc_base.specs.Numbers.{is_int}
use Rattle.cc_typed.specs.Table.{element_within}
use Rattle.cc_typed.specs.Types.{type_after, type_of}
use Rattle.cc_faults.specs.Depths.{depth_of}
use Rattle.cc_faults.specs.Expressions.{count_row, expression, is_place, place_of}
use Rattle.cc_faults.specs.Judged.{after_each, answer, asked, both, checked, each, each_after, faults, map}
use Rattle.cc_faults.specs.Programs.{program}
use Rattle.cc_faults.specs.Sorted.{first, sorted}
use Rattle.cc_faults.specs.Statements.{after, judged}
use Rattle.cc_faults.specs.declared.plain.Phrase.TheBlock as E
use Rattle.cc_faults.specs.declared.plain.Choice.TheBlock as S
use Rattle.types_tests.specs.Seen.{Hold}
use Rattle.types_tests.specs.Texts45.{rows}
use denote.Hole.Carrier.{hidden}

pub hold : Hold rows
unfolding program sorted first faults answer map checked both asked each each_after after_each judged after expression place_of count_row
    is_place depth_of type_of type_after element_within is_int is_format conversions E.shape-the_row-Phrase-1 E.hidden-the_row-Phrase-0 E.hidden-the_row-Phrase-1
    E.hidden-the_row-Step-2 E.hidden-the_row-Operation-3 E.hidden-the_row-Compared-4 S.hidden-the_row-Statement-0 S.shape-the_row-Statement-1
    S.hidden-the_row-Statement-1 S.hidden-the_row-Alternative-2 hidden
hold = (refl, (refl, (refl, (refl, tt))))
