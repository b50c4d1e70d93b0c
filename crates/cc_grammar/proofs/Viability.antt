-- A list of tokens is a front of a text exactly where it can be made a sentence.
use Rattle.std.proofs.Common.{List}
use Rattle.cc_lex.specs.declared.token.Token.{Token}
use Rattle.cc_grammar.specs.Ebnf.{Ebnf}
use Rattle.cc_grammar.specs.Fronts.{Whole, w_tok, w_seq, w_left, w_right, w_end, w_more, w_none, w_some, w_ref, w_nest, Front, f_before, f_tok, f_first, f_second, f_left, f_right, f_end, f_last, f_more, f_none, f_some, f_ref, f_nest}
use Rattle.cc_grammar.specs.Grammar.{rule}
use Rattle.cc_grammar.specs.Productions.{production}
use Rattle.cc_grammar.specs.Sentences.{Viable, Begins}
use Rattle.cc_grammar.specs.Symbols.{Symbol}
use Rattle.cc_grammar.specs.Symbols as the
use Rattle.cc_grammar.proofs.Forms.{up, down}
use Rattle.cc_grammar.proofs.Fronts.{front, begun}

pub as_written : {g : Ebnf} {xs : List Token} → Whole rule g xs → Whole production g xs
as_written (w_tok e) = w_tok e
as_written (w_seq p q) = w_seq (as_written p) (as_written q)
as_written (w_left p) = w_left (as_written p)
as_written (w_right p) = w_right (as_written p)
as_written w_end = w_end
as_written (w_more p q) = w_more (as_written p) (as_written q)
as_written w_none = w_none
as_written (w_some p) = w_some (as_written p)
as_written (w_ref {s = s} {xs = xs} p) = w_ref ((up s).whole xs (as_written p))
as_written (w_nest {s = s} {xs = xs} p) = w_nest ((up s).whole xs (as_written p))

pub as_read : {g : Ebnf} {xs : List Token} → Whole production g xs → Whole rule g xs
as_read (w_tok e) = w_tok e
as_read (w_seq p q) = w_seq (as_read p) (as_read q)
as_read (w_left p) = w_left (as_read p)
as_read (w_right p) = w_right (as_read p)
as_read w_end = w_end
as_read (w_more p q) = w_more (as_read p) (as_read q)
as_read w_none = w_none
as_read (w_some p) = w_some (as_read p)
as_read (w_ref {s = s} {xs = xs} p) = w_ref ((down s).whole xs (as_read p))
as_read (w_nest {s = s} {xs = xs} p) = w_nest ((down s).whole xs (as_read p))

pub front_as_written : {g : Ebnf} {xs : List Token} → Front rule g xs → Front production g xs
front_as_written f_before = f_before
front_as_written (f_tok e) = f_tok e
front_as_written (f_first p) = f_first (front_as_written p)
front_as_written (f_second p q) = f_second (as_written p) (front_as_written q)
front_as_written (f_left p) = f_left (front_as_written p)
front_as_written (f_right p) = f_right (front_as_written p)
front_as_written f_end = f_end
front_as_written (f_last p) = f_last (front_as_written p)
front_as_written (f_more p q) = f_more (as_written p) (front_as_written q)
front_as_written f_none = f_none
front_as_written (f_some p) = f_some (front_as_written p)
front_as_written (f_ref {s = s} {xs = xs} p) = f_ref ((up s).front xs (front_as_written p))
front_as_written (f_nest {s = s} {xs = xs} p) = f_nest ((up s).front xs (front_as_written p))

pub front_as_read : {g : Ebnf} {xs : List Token} → Front production g xs → Front rule g xs
front_as_read f_before = f_before
front_as_read (f_tok e) = f_tok e
front_as_read (f_first p) = f_first (front_as_read p)
front_as_read (f_second p q) = f_second (as_read p) (front_as_read q)
front_as_read (f_left p) = f_left (front_as_read p)
front_as_read (f_right p) = f_right (front_as_read p)
front_as_read f_end = f_end
front_as_read (f_last p) = f_last (front_as_read p)
front_as_read (f_more p q) = f_more (as_read p) (front_as_read q)
front_as_read f_none = f_none
front_as_read (f_some p) = f_some (front_as_read p)
front_as_read (f_ref {s = s} {xs = xs} p) = f_ref ((down s).front xs (front_as_read p))
front_as_read (f_nest {s = s} {xs = xs} p) = f_nest ((down s).front xs (front_as_read p))

pub begins_of : (ts : List Token) → Viable ts → Begins ts
begins_of ts v =
    let b = begun 0 the.text ts (front_as_read v) in
    record { tree = b.value; marks = b.marks; sentence = (b.goes, b.phrase); more = b.more; spelled = b.spelled }

pub viable_of : (ts : List Token) → Begins ts → Viable ts
viable_of ts b = front_as_written (front b.sentence.1 ts b.more b.spelled)
