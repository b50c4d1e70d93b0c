use Rattle.std.proofs.Common.{◌≡◌, ◌+◌, ◌<◌, length, sym, subst, arith}
use Rattle.std.proofs.lemmas.Bool.Decides.{nat_tests}
use Rattle.cc_trace.specs.Text.{FirstBadLine}
use Rattle.cc_trace.proofs.Texts.{ReadSoFar, empty_of, no_bad, one_bad, one_read, read_all, read_bad, read_more, shorter_after, some_of}
use Rattle.cc_trace.proofs.reading.read_journal.Goals as goal

pub returns-in_default-clause-each_journal : goal.returns-in_default-clause-each_journal
returns-in_default-clause-each_journal c =
    let there : 0 < length c.loop-rest.rest.now = grind (arith, nat_tests) in
    let bad = read_bad c.args.text.now c.loop-rest.journal.items c.loop-rest.rest.now c.loop-rest.invariant (some_of c.loop-rest.rest.now there) (sym c.in_default.ensures) in
    λ events is. no_bad c.args.text.now events _ is bad

pub returns-in_default-clause-bad_line : goal.returns-in_default-clause-bad_line
returns-in_default-clause-bad_line c =
    let there : 0 < length c.loop-rest.rest.now = grind (arith, nat_tests) in
    subst (λ n. FirstBadLine c.args.text.now (n + 1)) (sym c.len.ensures.len)
    (read_bad c.args.text.now c.loop-rest.journal.items c.loop-rest.rest.now c.loop-rest.invariant (some_of c.loop-rest.rest.now there) (sym c.in_default.ensures))

pub returns-in_default-clause-each_bad_line : goal.returns-in_default-clause-each_bad_line
returns-in_default-clause-each_bad_line c =
    let there : 0 < length c.loop-rest.rest.now = grind (arith, nat_tests) in
    let bad = read_bad c.args.text.now c.loop-rest.journal.items c.loop-rest.rest.now c.loop-rest.invariant (some_of c.loop-rest.rest.now there) (sym c.in_default.ensures) in
    λ n is. omega (arith, c.len.ensures.len, one_bad c.args.text.now _ n bad is)

pub loop-rest-smaller : goal.loop-rest-smaller
loop-rest-smaller c = shorter_after c.loop-rest.rest.now c.in-Some.after.now c.in-Some.event (sym c.in-Some.ensures)

pub loop-rest-preserved : goal.loop-rest-preserved
loop-rest-preserved c =
    subst (λ items. ReadSoFar c.args.text.now items c.in-Some.after.now) (sym c.in_ok-push.ensures.ok)
    (read_more c.args.text.now c.loop-rest.journal.items c.loop-rest.rest.now c.in-Some.after.now c.in-Some.event c.loop-rest.invariant (sym c.in-Some.ensures))

pub returns-clause-each_journal : goal.returns-clause-each_journal
returns-clause-each_journal c =
    let none : length c.loop-rest.rest.now ≡ 0 = grind (arith, nat_tests) in
    let done = read_all c.args.text.now c.loop-rest.journal.items (subst (λ rest. ReadSoFar c.args.text.now c.loop-rest.journal.items rest) (empty_of c.loop-rest.rest.now none) c.loop-rest.invariant) in
    λ events is. one_read c.args.text.now c.loop-rest.journal.items events done is

pub returns-clause-each_bad_line : goal.returns-clause-each_bad_line
returns-clause-each_bad_line c =
    let none : length c.loop-rest.rest.now ≡ 0 = grind (arith, nat_tests) in
    let done = read_all c.args.text.now c.loop-rest.journal.items (subst (λ rest. ReadSoFar c.args.text.now c.loop-rest.journal.items rest) (empty_of c.loop-rest.rest.now none) c.loop-rest.invariant) in
    λ n bad. no_bad c.args.text.now c.loop-rest.journal.items n done bad
