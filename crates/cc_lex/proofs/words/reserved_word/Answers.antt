use Rattle.std.proofs.Common.{sym}
use Rattle.cc_lex.proofs.Runs.{reserved_word-short, reserved_word-long}
use Rattle.cc_lex.proofs.words.reserved_word.Goals as goal
use Rattle.cc_lex.proofs.words.reserved_word.Goals.{then-bytes-lt-SHORTEST_WORD-via-then-bytes-lt-SHORTEST_WORD, then-bytes-lt-SHORTEST_WORD-via-else-bytes-lt-SHORTEST_WORD+then-bytes-gt-LONGEST_WORD}

pub returns-then-bytes-lt-SHORTEST_WORD : goal.returns-then-bytes-lt-SHORTEST_WORD
returns-then-bytes-lt-SHORTEST_WORD c =
    record {
      word =
          elim c.then-bytes-lt-SHORTEST_WORD.branch [
            | then-bytes-lt-SHORTEST_WORD-via-then-bytes-lt-SHORTEST_WORD w ↦ sym (reserved_word-short c.args.bytes.now w.if-bytes-lt-SHORTEST_WORD.true)
            | then-bytes-lt-SHORTEST_WORD-via-else-bytes-lt-SHORTEST_WORD+then-bytes-gt-LONGEST_WORD w ↦ sym (reserved_word-long c.args.bytes.now w.if-bytes-gt-LONGEST_WORD.true)
          ];
    }
