use Rattle.std.proofs.Common.{length, arith}
use Rattle.cc_lex.specs.Spells.{start}
use Rattle.cc_lex.proofs.Exists.{is_read}
use Rattle.cc_lex.proofs.laws.each_text_is_read.Goals as goal

pub returns : goal.returns
returns c = record { read = λ text. is_read (length text) start text (omega arith) }
