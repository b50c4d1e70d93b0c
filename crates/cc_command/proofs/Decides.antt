-- Which answers are left where the shelf tells the text.
use Rattle.std.proofs.Common.{◌≡◌, ◌⊎◌, inl, inr, ℕ, List, Option, Some, None, refl, sym, ◌∙◌, ap, subst, Result, IfOk}
use Rattle.std.specs.Prelude.{IfSome, IsErrOf}
use Rattle.cc_base.specs.declared.names.Place.{Place}
use Rattle.cc_command.proofs.Meanings as meanings
use Rattle.cc_command.specs.Outcomes.{FileHasFault, FileMeans, HoldsProgram, HoldsText, TellsNone, TellsText}
use Rattle.cc_command.specs.Reports.{fault_line}
use Rattle.cc_command.specs.Statuses.{IfText, report_of, status_in, status_of}
use Rattle.cc_command.specs.Texts.{HasFault, MeansProgram}
use Rattle.cc_command.specs.declared.cause.Cause.{Cause}
use Rattle.cc_command.specs.declared.cause.Cause.TheVariants.{Usage, Text, Shelf, Write, Memory}
use Rattle.cc_command.specs.declared.cause.Ending.{Ending}
use Rattle.cc_command.specs.declared.cause.Ending.TheVariants.{Well}
use Rattle.cc_command.specs.declared.text_fault.TextFaultKind.{TextFaultKind}
use Rattle.cc_typed.specs.Parts.{Parts}
use Rattle.cc_world.specs.Shelf.{Files}
use Rattle.cc_world.specs.Told.{Reported}

-- what holds of the file asked for holds of this one
of_file : (asked : Option (List ℕ)) (file : List ℕ) (P : List ℕ → Type 0) → asked ≡ Some file → IfSome asked P → P file
of_file asked file P is p = subst (λ (a : Option (List ℕ)). IfSome a P) is p

-- the text that the shelf tells is the one that the file holds
same_text : (files : Option Files) (file text told : List ℕ) → HoldsText files file text → TellsText files file told → text ≡ told
same_text None file text told held tells = cc
same_text (Some m) file text told held tells =
    let found : Some (Some text) ≡ Some (Some told) = ap (λ (t : Option (List ℕ)). Some t) (sym held) ∙ tells in
    cc

not_absent : (files : Option Files) (file text : List ℕ) → HoldsText files file text → TellsNone files file → ⊥
not_absent None file text held absent = cc
not_absent (Some m) file text held absent =
    let found : Some (Some text) ≡ Some None = ap (λ (t : Option (List ℕ)). Some t) (sym held) ∙ absent in
    cc

meant : (files : Option Files) (file text : List ℕ) (program : Parts) → FileMeans files file program → TellsText files file text → MeansProgram text program
meant files file text program has tells = subst (λ (t : List ℕ). MeansProgram t program) (same_text files file has.text text has.held tells) has.means

faulty : (files : Option Files) (file text : List ℕ) (place : Place) (kind : TextFaultKind) → FileHasFault files file place kind → TellsText files file text → HasFault text place kind
faulty files file text place kind has tells = subst (λ (t : List ℕ). HasFault t place kind) (same_text files file has.text text has.held tells) has.fault

module _ (answer : Result Ending Cause) (asked : Option (List ℕ)) (files : Option Files) (Missed : List ℕ → Type 0) (Risen : Type 0) (Then : Ending → Parts → Type 0) (Cut : Parts → Type 0) (usage : IsErrOf answer Usage → asked ≡ None) (done : IfOk answer (λ ending. IfSome asked (λ file. HoldsProgram files file (Then ending)))) (well : IfOk answer (λ ending. ending ≡ Well)) (fault : IfText answer (λ place kind. IfSome asked (λ file. FileHasFault files file place kind))) (shelf : IsErrOf answer Shelf → IfSome asked Missed) (write : IsErrOf answer Write → IfSome asked (λ file. HoldsProgram files file Cut)) (sink : IsErrOf answer Write → Risen) (file : List ℕ) (is : asked ≡ Some file) where
  runs-at :
      (a : Result Ending Cause)
      → answer ≡ a
      → (text : List ℕ) (program : Parts)
      → TellsText files file text
      → MeansProgram text program
      → ¬ Missed file
      → ¬ Risen
      → (status_of a ≡ 0) ⊎ (status_of a ≡ 9)
  runs-at (Result.Ok ending) e text program tells means kept still =
      inl (ap status_in (subst (λ (r : Result Ending Cause). IfOk r (λ x. x ≡ Well)) e well))
  runs-at (Result.Err Usage) e text program tells means kept still = (let none : asked ≡ None = usage e in absurd cc)
  runs-at (Result.Err (Text found)) e text program tells means kept still =
      let has = of_file asked file (λ f. FileHasFault files f found.place found.kind) is (subst (λ (r : Result Ending Cause). IfText r (λ place kind. IfSome asked (λ f. FileHasFault files f place kind))) e fault) in
      absurd (meanings.no_faulty_program text program found.place found.kind means (faulty files file text found.place found.kind has tells))
  runs-at (Result.Err Shelf) e text program tells means kept still = absurd (kept (of_file asked file Missed is (shelf e)))
  runs-at (Result.Err Write) e text program tells means kept still = absurd (still (sink e))
  runs-at (Result.Err Memory) e text program tells means kept still = inr refl

  pub runs : (text : List ℕ) (program : Parts) → TellsText files file text → MeansProgram text program → ¬ Missed file → ¬ Risen → (status_of answer ≡ 0) ⊎ (status_of answer ≡ 9)
  runs = runs-at answer refl

  held-program : (ending : Ending) → answer ≡ Result.Ok ending → HoldsProgram files file (Then ending)
  held-program ending e =
      of_file asked file (λ f. HoldsProgram files f (Then ending)) is
      (subst (λ (r : Result Ending Cause). IfOk r (λ x. IfSome asked (λ f. HoldsProgram files f (Then x)))) e done)

  held-cut : IsErrOf answer Write → HoldsProgram files file Cut
  held-cut e = of_file asked file (λ f. HoldsProgram files f Cut) is (write e)

  refuses-at :
      (a : Result Ending Cause)
      → answer ≡ a
      → (text : List ℕ)
      → TellsText files file text
      → ((program : Parts) → ¬ MeansProgram text program)
      → ¬ Missed file
      → (status_of a ≡ 2) ⊎ (status_of a ≡ 9)
  refuses-at (Result.Ok ending) e text tells none kept =
      absurd (let h = held-program ending e in none h.program (meant files file text h.program h.means tells))
  refuses-at (Result.Err Usage) e text tells none kept = (let empty : asked ≡ None = usage e in absurd cc)
  refuses-at (Result.Err (Text found)) e text tells none kept = inl refl
  refuses-at (Result.Err Shelf) e text tells none kept = absurd (kept (of_file asked file Missed is (shelf e)))
  refuses-at (Result.Err Write) e text tells none kept =
      absurd (let h = held-cut e in none h.program (meant files file text h.program h.means tells))
  refuses-at (Result.Err Memory) e text tells none kept = inr refl

  pub refuses : (text : List ℕ) → TellsText files file text → ((program : Parts) → ¬ MeansProgram text program) → ¬ Missed file → (status_of answer ≡ 2) ⊎ (status_of answer ≡ 9)
  refuses = refuses-at answer refl

  reports-at :
      (a : Result Ending Cause)
      → answer ≡ a
      → (h0 h1 : Option (List ℕ)) (f0 f1 w0 w1 : ℕ)
      → Reported h0 h1 (report_of a) f0 f1 w0 w1
      → (text : List ℕ) (place : Place) (kind : TextFaultKind)
      → TellsText files file text
      → HasFault text place kind
      → ¬ Missed file
      → (status_of a ≡ 2) × Reported h0 h1 (fault_line place kind) f0 f1 w0 w1 ⊎ (status_of a ≡ 9)
  reports-at (Result.Ok ending) e h0 h1 f0 f1 w0 w1 told text place kind tells has kept =
      absurd (let h = held-program ending e in meanings.no_faulty_program text h.program place kind (meant files file text h.program h.means tells) has)
  reports-at (Result.Err Usage) e h0 h1 f0 f1 w0 w1 told text place kind tells has kept = (let empty : asked ≡ None = usage e in absurd cc)
  reports-at (Result.Err (Text found)) e h0 h1 f0 f1 w0 w1 told text place kind tells has kept =
      let ours = of_file asked file (λ f. FileHasFault files f found.place found.kind) is (subst (λ (r : Result Ending Cause). IfText r (λ p k. IfSome asked (λ f. FileHasFault files f p k))) e fault) in
      let same = meanings.one_fault text found.place place found.kind kind (faulty files file text found.place found.kind ours tells) has in
      inl (refl, subst (λ (p : Place). Reported h0 h1 (fault_line p kind) f0 f1 w0 w1) same.0 (subst (λ (k : TextFaultKind). Reported h0 h1 (fault_line found.place k) f0 f1 w0 w1) same.1 told))
  reports-at (Result.Err Shelf) e h0 h1 f0 f1 w0 w1 told text place kind tells has kept = absurd (kept (of_file asked file Missed is (shelf e)))
  reports-at (Result.Err Write) e h0 h1 f0 f1 w0 w1 told text place kind tells has kept =
      absurd (let h = held-cut e in meanings.no_faulty_program text h.program place kind (meant files file text h.program h.means tells) has)
  reports-at (Result.Err Memory) e h0 h1 f0 f1 w0 w1 told text place kind tells has kept = inr refl

  pub reports :
      (h0 h1 : Option (List ℕ)) (f0 f1 w0 w1 : ℕ)
      → Reported h0 h1 (report_of answer) f0 f1 w0 w1
      → (text : List ℕ) (place : Place) (kind : TextFaultKind)
      → TellsText files file text
      → HasFault text place kind
      → ¬ Missed file
      → (status_of answer ≡ 2) × Reported h0 h1 (fault_line place kind) f0 f1 w0 w1 ⊎ (status_of answer ≡ 9)
  reports = reports-at answer refl

  absent-at : (a : Result Ending Cause) → answer ≡ a → TellsNone files file → (status_of a ≡ 6) ⊎ (status_of a ≡ 9)
  absent-at (Result.Ok ending) e none = absurd (let h = held-program ending e in not_absent files file h.means.text h.means.held none)
  absent-at (Result.Err Usage) e none = (let empty : asked ≡ None = usage e in absurd cc)
  absent-at (Result.Err (Text found)) e none =
      let has = of_file asked file (λ f. FileHasFault files f found.place found.kind) is (subst (λ (r : Result Ending Cause). IfText r (λ place kind. IfSome asked (λ f. FileHasFault files f place kind))) e fault) in
      absurd (not_absent files file has.text has.held none)
  absent-at (Result.Err Shelf) e none = inl refl
  absent-at (Result.Err Write) e none = absurd (let h = held-cut e in not_absent files file h.means.text h.means.held none)
  absent-at (Result.Err Memory) e none = inr refl

  pub absent : TellsNone files file → (status_of answer ≡ 6) ⊎ (status_of answer ≡ 9)
  absent = absent-at answer refl
