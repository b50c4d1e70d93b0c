-- The listing of code.
use Rattle.std.specs.Fmt.{decimal, signed_decimal}
use Rattle.std.specs.Prelude.{ℕ, ◌+◌, List, [], ◌∷◌, ◌++◌, codes}
use Rattle.cc_base.specs.declared.numbers.NumberType.{NumberType}
use Rattle.cc_base.specs.declared.numbers.NumberType.TheVariants.{Char, Int, Long}
use Rattle.cc_code.specs.declared.instr.Instr.{Instr}
use Rattle.cc_code.specs.declared.instr.Instr.TheVariants as instr

abbrev pub name : Instr → List ℕ
name (instr.Const v) = codes "Const"
name (instr.Zeros n) = codes "Zeros"
name (instr.Drop n) = codes "Drop"
name instr.Dup = codes "Dup"
name (instr.Field k) = codes "Field"
name (instr.Index l s) = codes "Index"
name (instr.Fetch n) = codes "Fetch"
name (instr.Put n) = codes "Put"
name (instr.Bump t d) = codes "Bump"
name (instr.Zero o n) = codes "Zero"
name (instr.Part p n m) = codes "Part"
name (instr.Pick l s) = codes "Pick"
name (instr.Add t) = codes "Add"
name (instr.Sub t) = codes "Sub"
name (instr.Mul t) = codes "Mul"
name (instr.Div t) = codes "Div"
name (instr.Rem t) = codes "Rem"
name (instr.Neg t) = codes "Neg"
name instr.Lt = codes "Lt"
name instr.Le = codes "Le"
name instr.Gt = codes "Gt"
name instr.Ge = codes "Ge"
name instr.Eq = codes "Eq"
name instr.Ne = codes "Ne"
name instr.Not = codes "Not"
name (instr.Narrow t) = codes "Narrow"
name (instr.Jump a) = codes "Jump"
name (instr.JumpZero a) = codes "JumpZero"
name instr.Tick = codes "Tick"
name (instr.Call f) = codes "Call"
name (instr.Ret n) = codes "Ret"
name (instr.Create k) = codes "Create"
name (instr.Ask t) = codes "Ask"
name (instr.AskWithin t a) = codes "AskWithin"
name (instr.Send t) = codes "Send"
name instr.SelBegin = codes "SelBegin"
name (instr.OfferAccept i s) = codes "OfferAccept"
name (instr.OfferAfter i) = codes "OfferAfter"
name (instr.OfferNow i) = codes "OfferNow"
name (instr.OfferEnd i) = codes "OfferEnd"
name (instr.SelWait j) = codes "SelWait"
name instr.Wait = codes "Wait"
name (instr.Reply n) = codes "Reply"
name instr.PutByte = codes "PutByte"
name instr.GetByte = codes "GetByte"
name (instr.Format k) = codes "Format"
name instr.Yield = codes "Yield"
name instr.End = codes "End"

abbrev pub type_word : NumberType → List ℕ
type_word Char = codes "char"
type_word Int = codes "int"
type_word Long = codes "long"

-- the operands of an instruction, in order
abbrev pub operands : Instr → List (List ℕ)
operands (instr.Const v) = signed_decimal v ∷ []
operands (instr.Zeros n) = decimal n ∷ []
operands (instr.Drop n) = decimal n ∷ []
operands instr.Dup = []
operands (instr.Field k) = decimal k ∷ []
operands (instr.Index l s) = decimal l ∷ decimal s ∷ []
operands (instr.Fetch n) = decimal n ∷ []
operands (instr.Put n) = decimal n ∷ []
operands (instr.Bump t d) = type_word t ∷ signed_decimal d ∷ []
operands (instr.Zero o n) = decimal o ∷ decimal n ∷ []
operands (instr.Part p n m) = decimal p ∷ decimal n ∷ decimal m ∷ []
operands (instr.Pick l s) = decimal l ∷ decimal s ∷ []
operands (instr.Add t) = type_word t ∷ []
operands (instr.Sub t) = type_word t ∷ []
operands (instr.Mul t) = type_word t ∷ []
operands (instr.Div t) = type_word t ∷ []
operands (instr.Rem t) = type_word t ∷ []
operands (instr.Neg t) = type_word t ∷ []
operands instr.Lt = []
operands instr.Le = []
operands instr.Gt = []
operands instr.Ge = []
operands instr.Eq = []
operands instr.Ne = []
operands instr.Not = []
operands (instr.Narrow t) = type_word t ∷ []
operands (instr.Jump a) = decimal a ∷ []
operands (instr.JumpZero a) = decimal a ∷ []
operands instr.Tick = []
operands (instr.Call f) = decimal f ∷ []
operands (instr.Ret n) = decimal n ∷ []
operands (instr.Create k) = decimal k ∷ []
operands (instr.Ask t) = decimal t ∷ []
operands (instr.AskWithin t a) = decimal t ∷ decimal a ∷ []
operands (instr.Send t) = decimal t ∷ []
operands instr.SelBegin = []
operands (instr.OfferAccept i s) = decimal i ∷ decimal s ∷ []
operands (instr.OfferAfter i) = decimal i ∷ []
operands (instr.OfferNow i) = decimal i ∷ []
operands (instr.OfferEnd i) = decimal i ∷ []
operands (instr.SelWait j) = decimal j ∷ []
operands instr.Wait = []
operands (instr.Reply n) = decimal n ∷ []
operands instr.PutByte = []
operands instr.GetByte = []
operands (instr.Format k) = decimal k ∷ []
operands instr.Yield = []
operands instr.End = []

-- words, each after a space
abbrev pub spaced : List (List ℕ) → List ℕ
spaced [] = []
spaced (word ∷ words) = 32 ∷ word ++ spaced words

-- the line of the instruction at an address
abbrev pub line : ℕ → Instr → List ℕ
line at i = decimal at ++ spaced (name i ∷ operands i) ++ 10 ∷ []

-- the lines of instructions, of which the first stands at this address
unfoldable pub lines : ℕ → List Instr → List ℕ
lines at [] = []
lines at (i ∷ instrs) = line at i ++ lines (at + 1) instrs
