use Rattle.std.proofs.Common.{◌≡◌, drop}
use Rattle.cc_lex.specs.Words.{rows, word_in}
use Rattle.cc_lex.proofs.words.word_in.Given as goal

-- the rows so far don't have the bytes
abbrev pub invariant-loop-spelling : goal.invariant-loop-spelling
invariant-loop-spelling l =
    word_in l.bytes (rows (drop l.spelling-index l.table)) ≡ word_in l.bytes (rows l.table)
