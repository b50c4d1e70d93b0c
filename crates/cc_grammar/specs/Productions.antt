-- The productions of the language, each whole. The named parts of productions, which no production here has, are as in
-- `specs/Grammar.antt`.
use Rattle.cc_lex.specs.declared.token.Mark.TheVariants as mark
use Rattle.cc_lex.specs.declared.token.Word.TheVariants as word
use Rattle.cc_grammar.specs.Ebnf.{Ebnf, ◌⨾◌, ◌∣◌, many, opt, ref, nest, name, number, character, string, key, sign}
use Rattle.cc_grammar.specs.Grammar.{rule}
use Rattle.cc_grammar.specs.Symbols.{Symbol}
use Rattle.cc_grammar.specs.Symbols as the

abbrev pub production : Symbol → Ebnf
-- text = { item }
production the.text = many (ref the.item)
-- item = "struct" NAME "{" field { field } "}" ";" | "enum" [ NAME ] "{" constant { "," constant } "}" ";"
--     | "process" "spec" NAME "(" transaction_parameters ")" [ "{" { transaction } "}" ] ";"
--     | "process" "body" NAME "(" [ names ] ")" block | [ type ] NAME "(" parameters ")" block
production the.item =
    key word.Struct ⨾ name ⨾ sign mark.OpenBrace ⨾ ref the.field ⨾ many (ref the.field) ⨾ sign mark.CloseBrace ⨾ sign mark.Semicolon ∣
    key word.Enum ⨾ opt name ⨾ sign mark.OpenBrace ⨾ ref the.constant ⨾ many (sign mark.Comma ⨾ ref the.constant) ⨾ sign mark.CloseBrace ⨾ sign mark.Semicolon ∣
    key word.Process ⨾ key word.Spec ⨾ name ⨾ sign mark.OpenParenthesis ⨾ ref the.transaction_parameters ⨾ sign mark.CloseParenthesis ⨾ opt (sign mark.OpenBrace ⨾ many (ref the.transaction) ⨾ sign mark.CloseBrace) ⨾ sign mark.Semicolon ∣
    key word.Process ⨾ key word.Body ⨾ name ⨾ sign mark.OpenParenthesis ⨾ opt (ref the.names) ⨾ sign mark.CloseParenthesis ⨾ ref the.block ∣
    opt (ref the.type) ⨾ name ⨾ sign mark.OpenParenthesis ⨾ ref the.parameters ⨾ sign mark.CloseParenthesis ⨾ ref the.block
-- type = "void" | "char" | "int" | "long" | "struct" NAME | "enum" NAME | "process" NAME
production the.type =
    key word.Void ∣ key word.Char ∣ key word.Int ∣ key word.Long ∣ key word.Struct ⨾ name ∣ key word.Enum ⨾ name ∣
    key word.Process ⨾ name
-- field = type declarator { "," declarator } ";"
production the.field =
    ref the.type ⨾ ref the.declarator ⨾ many (sign mark.Comma ⨾ ref the.declarator) ⨾ sign mark.Semicolon
-- declarator = NAME [ "[" length "]" ]
production the.declarator = name ⨾ opt (sign mark.OpenBracket ⨾ ref the.length ⨾ sign mark.CloseBracket)
-- constant = NAME [ "=" [ "-" ] length ]
production the.constant = name ⨾ opt (sign mark.Assign ⨾ opt (sign mark.Minus) ⨾ ref the.length)
-- length = NUMBER | CHARACTER | NAME
production the.length = number ∣ character ∣ name
-- transaction = "trans" ( "async" | type ) NAME "(" transaction_parameters ")" ";"
production the.transaction =
    key word.Trans ⨾ (key word.Async ∣ ref the.type) ⨾ name ⨾ sign mark.OpenParenthesis ⨾ ref the.transaction_parameters ⨾ sign mark.CloseParenthesis ⨾ sign mark.Semicolon
-- transaction_parameters = [ transaction_parameter { "," transaction_parameter } ]
production the.transaction_parameters =
    opt (ref the.transaction_parameter ⨾ many (sign mark.Comma ⨾ ref the.transaction_parameter))
-- transaction_parameter = type [ NAME ]
production the.transaction_parameter = ref the.type ⨾ opt name
-- parameters = [ "void" | parameter { "," parameter } ]
production the.parameters = opt (key word.Void ∣ ref the.parameter ⨾ many (sign mark.Comma ⨾ ref the.parameter))
-- parameter = type NAME
production the.parameter = ref the.type ⨾ name
-- names = NAME { "," NAME }
production the.names = name ⨾ many (sign mark.Comma ⨾ name)
-- block = "{" { entry } "}"
production the.block = sign mark.OpenBrace ⨾ many (ref the.entry) ⨾ sign mark.CloseBrace
-- entry = local | statement
production the.entry = ref the.local ∣ nest the.statement
-- local = type local_declarator { "," local_declarator } ";"
production the.local =
    ref the.type ⨾ ref the.local_declarator ⨾ many (sign mark.Comma ⨾ ref the.local_declarator) ⨾ sign mark.Semicolon
-- local_declarator = NAME [ "[" length "]" | "=" assign ]
production the.local_declarator =
    name ⨾ opt (sign mark.OpenBracket ⨾ ref the.length ⨾ sign mark.CloseBracket ∣ sign mark.Assign ⨾ nest the.assign)
-- statement = ";" | block | assign ";" | "if" "(" assign ")" statement [ "else" statement ]
--     | "while" "(" assign ")" statement | "do" statement "while" "(" assign ")" ";"
--     | "for" "(" [ assign ] ";" [ assign ] ";" [ assign ] ")" statement | "break" ";" | "continue" ";"
--     | "return" [ assign ] ";" | "treturn" [ assign ] ";" | "delay" assign ";" | accept
--     | "select" "{" alternative { "or" alternative } "}"
production the.statement =
    sign mark.Semicolon ∣ ref the.block ∣ nest the.assign ⨾ sign mark.Semicolon ∣
    key word.If ⨾ sign mark.OpenParenthesis ⨾ nest the.assign ⨾ sign mark.CloseParenthesis ⨾ nest the.statement ⨾ opt (key word.Else ⨾ nest the.statement) ∣
    key word.While ⨾ sign mark.OpenParenthesis ⨾ nest the.assign ⨾ sign mark.CloseParenthesis ⨾ nest the.statement ∣
    key word.Do ⨾ nest the.statement ⨾ key word.While ⨾ sign mark.OpenParenthesis ⨾ nest the.assign ⨾ sign mark.CloseParenthesis ⨾ sign mark.Semicolon ∣
    key word.For ⨾ sign mark.OpenParenthesis ⨾ opt (nest the.assign) ⨾ sign mark.Semicolon ⨾ opt (nest the.assign) ⨾ sign mark.Semicolon ⨾ opt (nest the.assign) ⨾ sign mark.CloseParenthesis ⨾ nest the.statement ∣
    key word.Break ⨾ sign mark.Semicolon ∣ key word.Continue ⨾ sign mark.Semicolon ∣
    key word.Return ⨾ opt (nest the.assign) ⨾ sign mark.Semicolon ∣
    key word.Treturn ⨾ opt (nest the.assign) ⨾ sign mark.Semicolon ∣
    key word.Delay ⨾ nest the.assign ⨾ sign mark.Semicolon ∣ ref the.accept ∣
    key word.Select ⨾ sign mark.OpenBrace ⨾ ref the.alternative ⨾ many (key word.Or ⨾ ref the.alternative) ⨾ sign mark.CloseBrace
-- accept = "accept" NAME "(" [ names ] ")" [ clauses ] ( block | ";" )
production the.accept =
    key word.Accept ⨾ name ⨾ sign mark.OpenParenthesis ⨾ opt (ref the.names) ⨾ sign mark.CloseParenthesis ⨾ opt (ref the.clauses) ⨾ (ref the.block ∣ sign mark.Semicolon)
-- clauses = such [ least ] | least [ such ]
production the.clauses = ref the.such ⨾ opt (ref the.least) ∣ ref the.least ⨾ opt (ref the.such)
-- such = "suchthat" "(" assign ")"
production the.such = key word.Suchthat ⨾ sign mark.OpenParenthesis ⨾ nest the.assign ⨾ sign mark.CloseParenthesis
-- least = "by" "(" assign ")"
production the.least = key word.By ⨾ sign mark.OpenParenthesis ⨾ nest the.assign ⨾ sign mark.CloseParenthesis
-- alternative = [ "(" assign ")" ":" ] choice
production the.alternative =
    opt (sign mark.OpenParenthesis ⨾ nest the.assign ⨾ sign mark.CloseParenthesis ⨾ sign mark.Colon) ⨾ ref the.choice
-- choice = accept { entry } | "delay" assign ";" { entry } | "immediate" ";" { entry } | "terminate" ";"
production the.choice =
    ref the.accept ⨾ many (ref the.entry) ∣
    key word.Delay ⨾ nest the.assign ⨾ sign mark.Semicolon ⨾ many (ref the.entry) ∣
    key word.Immediate ⨾ sign mark.Semicolon ⨾ many (ref the.entry) ∣ key word.Terminate ⨾ sign mark.Semicolon
-- assign = "within" disjunction "?" postfix ":" assign | conditional [ assign_operator assign ]
production the.assign =
    key word.Within ⨾ ref the.disjunction ⨾ sign mark.Question ⨾ ref the.postfix ⨾ sign mark.Colon ⨾ nest the.assign ∣
    ref the.conditional ⨾ opt (ref the.assign_operator ⨾ nest the.assign)
-- assign_operator = "=" | "+=" | "-=" | "*=" | "/=" | "%="
production the.assign_operator =
    sign mark.Assign ∣ sign mark.PlusAssign ∣ sign mark.MinusAssign ∣ sign mark.StarAssign ∣ sign mark.SlashAssign ∣
    sign mark.PercentAssign
-- conditional = disjunction [ "?" assign ":" conditional ]
production the.conditional =
    ref the.disjunction ⨾ opt (sign mark.Question ⨾ nest the.assign ⨾ sign mark.Colon ⨾ nest the.conditional)
-- disjunction = conjunction { "||" conjunction }
production the.disjunction = ref the.conjunction ⨾ many (sign mark.Or ⨾ ref the.conjunction)
-- conjunction = equality { "&&" equality }
production the.conjunction = ref the.equality ⨾ many (sign mark.And ⨾ ref the.equality)
-- equality = order { ( "==" | "!=" ) order }
production the.equality = ref the.order ⨾ many ((sign mark.Equal ∣ sign mark.NotEqual) ⨾ ref the.order)
-- order = sum { ( "<" | "<=" | ">" | ">=" ) sum }
production the.order =
    ref the.sum ⨾ many ((sign mark.Less ∣ sign mark.LessEqual ∣ sign mark.Greater ∣ sign mark.GreaterEqual) ⨾ ref the.sum)
-- sum = term { ( "+" | "-" ) term }
production the.sum = ref the.term ⨾ many ((sign mark.Plus ∣ sign mark.Minus) ⨾ ref the.term)
-- term = unary { ( "*" | "/" | "%" ) unary }
production the.term = ref the.unary ⨾ many ((sign mark.Star ∣ sign mark.Slash ∣ sign mark.Percent) ⨾ ref the.unary)
-- unary = ( "-" | "+" | "!" | "++" | "--" ) unary | postfix
production the.unary =
    (sign mark.Minus ∣ sign mark.Plus ∣ sign mark.Not ∣ sign mark.Increment ∣ sign mark.Decrement) ⨾ nest the.unary ∣
    ref the.postfix
-- postfix = primary { "." NAME [ "(" arguments ")" ] | "[" assign "]" } [ "++" | "--" ]
production the.postfix =
    ref the.primary ⨾ many (sign mark.Dot ⨾ name ⨾ opt (sign mark.OpenParenthesis ⨾ ref the.arguments ⨾ sign mark.CloseParenthesis) ∣ sign mark.OpenBracket ⨾ nest the.assign ⨾ sign mark.CloseBracket) ⨾ opt (sign mark.Increment ∣ sign mark.Decrement)
-- primary = NUMBER | CHARACTER | NAME [ "(" arguments ")" ] | "create" NAME "(" arguments ")"
--     | "putchar" "(" assign ")" | "getchar" "(" ")" | "printf" "(" STRING { "," assign } ")" | "(" assign ")"
production the.primary =
    number ∣ character ∣ name ⨾ opt (sign mark.OpenParenthesis ⨾ ref the.arguments ⨾ sign mark.CloseParenthesis) ∣
    key word.Create ⨾ name ⨾ sign mark.OpenParenthesis ⨾ ref the.arguments ⨾ sign mark.CloseParenthesis ∣
    key word.Putchar ⨾ sign mark.OpenParenthesis ⨾ nest the.assign ⨾ sign mark.CloseParenthesis ∣
    key word.Getchar ⨾ sign mark.OpenParenthesis ⨾ sign mark.CloseParenthesis ∣
    key word.Printf ⨾ sign mark.OpenParenthesis ⨾ string ⨾ many (sign mark.Comma ⨾ nest the.assign) ⨾ sign mark.CloseParenthesis ∣
    sign mark.OpenParenthesis ⨾ nest the.assign ⨾ sign mark.CloseParenthesis
-- arguments = [ assign { "," assign } ]
production the.arguments = opt (nest the.assign ⨾ many (sign mark.Comma ⨾ nest the.assign))
production other = rule other
