-- The least of some numbers, one after the other.
use Rattle.std.proofs.Common.{◌≡◌, ℕ, List, [], ◌∷◌, ◌++◌, refl, sym, ap, ◌∙◌, arith, Option, Some, None}
use Rattle.std.proofs.Common.{◌||◌, append_assoc, append-nil}
use Rattle.std.proofs.lemmas.List.Elements.{filter_map-append}
use Rattle.std.specs.Prelude.{min, is_some}
use Rattle.std.specs.List.{cons_option, filter_map, list_any}
use Rattle.cc_base.specs.declared.alternatives.Alt.{Alt}
use Rattle.cc_plain.specs.Earliest.{earliest, lesser}
use Rattle.cc_rules.specs.Choice.{alternative_deadline, call_deadline}
use Rattle.cc_rules.specs.Ends.{has_deadline, is_timed}
use Rattle.cc_rules.specs.Standing.{deadlines, deadlines_of, least, process_deadlines}
use Rattle.cc_rules.specs.State.{Process, State}
use Rattle.cc_rules.specs.declared.process.ProcessStanding.{ProcessStanding}
use Rattle.cc_rules.specs.declared.process.ProcessStanding.TheVariants.{Running, AtSelect, AtDelay, AtCall, Ended, Faulted}
use Rattle.cc_rules.specs.declared.process.TransactionCall.{TransactionCall}

min-assoc : (a b c : ℕ) → min (min a b) c ≡ min a (min b c)
min-assoc a b c = omega arith

pub lesser-assoc : (a b c : Option ℕ) → lesser (lesser a b) c ≡ lesser a (lesser b c)
lesser-assoc None b c = refl
lesser-assoc (Some n) None c = refl
lesser-assoc (Some n) (Some k) None = refl
lesser-assoc (Some n) (Some k) (Some l) = ap Some (min-assoc n k l)

pub earliest-append : (ns ks : List ℕ) → earliest (ns ++ ks) ≡ lesser (earliest ns) (earliest ks)
earliest-append [] ks = refl
earliest-append (n ∷ ns) ks = ap (lesser (Some n)) (earliest-append ns ks) ∙ sym (lesser-assoc (Some n) (earliest ns) (earliest ks))

cons : (o : Option ℕ) (ns : List ℕ) → earliest (cons_option o ns) ≡ lesser o (earliest ns)
cons None ns = refl
cons (Some n) ns = refl

lesser-none : (o : Option ℕ) → lesser o None ≡ o
lesser-none None = refl
lesser-none (Some n) = refl

-- one more
pub earliest-more : {A : Type 0} (f : A → Option ℕ) (xs : List A) (x : A) → earliest (filter_map f (xs ++ x ∷ [])) ≡ lesser (earliest (filter_map f xs)) (f x)
earliest-more f xs x =
    ap earliest (filter_map-append f xs (x ∷ []))
    ∙ earliest-append (filter_map f xs) (filter_map f (x ∷ []))
    ∙ ap (lesser (earliest (filter_map f xs))) (cons (f x) [] ∙ lesser-none (f x))

processes-append : (qs rs : List Process) → process_deadlines (qs ++ rs) ≡ process_deadlines qs ++ process_deadlines rs
processes-append [] rs = refl
processes-append (q ∷ qs) rs = ap (λ ns. deadlines_of q.standing ++ ns) (processes-append qs rs) ∙ sym (append_assoc (deadlines_of q.standing) (process_deadlines qs) (process_deadlines rs))

pub processes-more : (qs : List Process) (q : Process) → earliest (process_deadlines (qs ++ q ∷ [])) ≡ lesser (earliest (process_deadlines qs)) (earliest (deadlines_of q.standing))
processes-more qs q =
    ap earliest (processes-append qs (q ∷ []))
    ∙ earliest-append (process_deadlines qs) (process_deadlines (q ∷ []))
    ∙ ap (λ ns. lesser (earliest (process_deadlines qs)) (earliest ns)) (append-nil (deadlines_of q.standing))

some-lesser : (a b : Option ℕ) → is_some (lesser a b) ≡ (is_some a || is_some b)
some-lesser None b = refl
some-lesser (Some n) None = refl
some-lesser (Some n) (Some k) = refl

some-filtered : {A : Type 0} (f : A → Option ℕ) (xs : List A) → is_some (earliest (filter_map f xs)) ≡ list_any (λ x. is_some (f x)) xs
some-filtered f [] = refl
some-filtered f (x ∷ xs) = ap is_some (cons (f x) (filter_map f xs)) ∙ some-lesser (f x) (earliest (filter_map f xs)) ∙ ap (λ b. is_some (f x) || b) (some-filtered f xs)

timed-standing : (x : ProcessStanding) → is_some (earliest (deadlines_of x)) ≡ is_timed x
timed-standing Running = refl
timed-standing (AtSelect alts asked) = some-filtered (λ (a : ℕ × Alt). alternative_deadline asked a.1) alts
timed-standing (AtDelay deadline) = refl
timed-standing (AtCall call) = refl
timed-standing Ended = refl
timed-standing (Faulted kind) = refl

timed-processes : (qs : List Process) → is_some (earliest (process_deadlines qs)) ≡ list_any (λ q. is_timed q.standing) qs
timed-processes [] = refl
timed-processes (q ∷ qs) =
    ap is_some (earliest-append (deadlines_of q.standing) (process_deadlines qs))
    ∙ some-lesser (earliest (deadlines_of q.standing)) (earliest (process_deadlines qs))
    ∙ ap (λ b. b || is_some (earliest (process_deadlines qs))) (timed-standing q.standing)
    ∙ ap (λ b. is_timed q.standing || b) (timed-processes qs)

-- a deadline stands exactly where there is a least one
pub deadline-is : (s : State) → is_some (earliest (deadlines s)) ≡ has_deadline s
deadline-is s =
    let f : TransactionCall → Option ℕ = λ call. call_deadline call.waiting in
    ap is_some (earliest-append (process_deadlines s.processes) (filter_map f s.pending))
    ∙ some-lesser (earliest (process_deadlines s.processes)) (earliest (filter_map f s.pending))
    ∙ ap (λ b. b || is_some (earliest (filter_map f s.pending))) (timed-processes s.processes)
    ∙ ap (λ b. list_any (λ q. is_timed q.standing) s.processes || b) (some-filtered f s.pending)

-- the earliest is the least
pub least-is : (ns : List ℕ) (n : ℕ) → earliest ns ≡ Some n → least ns ≡ n
least-is [] n h = cc
least-is (k ∷ []) n h = cc
least-is (k ∷ l ∷ ns) n h = rest (earliest (l ∷ ns)) (λ j e. least-is (l ∷ ns) j e) h refl
  where
    rest : (o : Option ℕ) → ((j : ℕ) → earliest (l ∷ ns) ≡ Some j → least (l ∷ ns) ≡ j) → lesser (Some k) o ≡ Some n → earliest (l ∷ ns) ≡ o → min k (least (l ∷ ns)) ≡ n
    rest None f h e = absurd (some-some (earliest ns) e)
      where
        some-some : (o : Option ℕ) → lesser (Some l) o ≡ None → ⊥
        some-some None h = cc
        some-some (Some j) h = cc
    rest (Some j) f h e = ap (min k) (f j e) ∙ (let g : Some (min k j) ≡ Some n = h in cc)
