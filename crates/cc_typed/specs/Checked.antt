-- What the checks of a program's parts look at.
use Rattle.std.specs.Option.{option_copied}
use Rattle.cc_typed.specs.Parts.{Parts}
use Rattle.cc_typed.specs.Typed.{Surroundings}
use Rattle.cc_typed.specs.declared.parts.ProgramParts.{ProgramParts}
use Rattle.cc_typed.specs.declared.typed.Context.{Context}

abbrev pub parts_of : ProgramParts → Parts
parts_of p =
    record { structures = p.structures; kinds = p.kinds; functions = p.functions; transactions = p.transactions; sites = p.sites; formats = p.formats }

abbrev pub around : Context → Surroundings
around c =
    record { parts = parts_of c.parts.now; variables = c.variables.now; kind = c.kind; result = c.result; replies = c.replies; may_break = c.may_break; may_continue = c.may_continue }
