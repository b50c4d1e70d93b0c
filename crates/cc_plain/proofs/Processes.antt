-- Loops over the numbers of the processes.
use Rattle.std.proofs.Common.{◌≡◌, ℕ, zero, suc, ◌+◌, ◌<◌, ◌≤◌, Bool, true, false, List, [], ◌∷◌, ◌++◌, map, length, get_or, take, refl, sym, ap, ◌∙◌, arith, Some}
use Rattle.std.specs.Prelude.{slice_get}
use Rattle.std.specs.List.{enumerate_from, list_all, list_any}
use Rattle.std.proofs.lemmas.List.{take_all}
use Rattle.cc_plain.proofs.Loops.{all-here, all-more, any-here, any-more, take-got}
use Rattle.cc_rules.specs.Choice.{every_process, some_process}
use Rattle.cc_rules.specs.State.{Process, State, nobody, process_at}

enumerated-at : (n i : ℕ) (xs : List Process) → i < length xs → slice_get (enumerate_from n xs) i ≡ Some (n + i, get_or xs i nobody)
enumerated-at n i [] lt = absurd (omega arith)
enumerated-at n zero (x ∷ xs) lt = let e : n ≡ n + 0 = omega arith in ap (λ k. Some (k, x)) e
enumerated-at n (suc i) (x ∷ xs) lt =
    let e : suc n + i ≡ n + suc i = omega arith in
    let e' : n + 1 ≡ suc n = omega arith in
    rw e' (enumerated-at (suc n) i xs (omega arith) ∙ ap (λ k. Some (k, get_or xs i nobody)) e)

enumerated-length : (n : ℕ) (xs : List Process) → length (enumerate_from n xs) ≡ length xs
enumerated-length n [] = refl
enumerated-length n (x ∷ xs) = ap suc (enumerated-length (n + 1) xs)

at-zero : (i : ℕ) (xs : List Process) → i < length xs → slice_get (enumerate_from 0 xs) i ≡ Some (i, get_or xs i nobody)
at-zero i xs lt = let e : 0 + i ≡ i = omega arith in enumerated-at 0 i xs lt ∙ ap (λ k. Some (k, get_or xs i nobody)) e

pub some-here : (test : ℕ → Bool) (s : State) (i : ℕ) → i < length s.processes → test i ≡ true → some_process test s ≡ true
some-here test s i lt h = any-here (λ e. test e.0) (enumerate_from 0 s.processes) i (i, get_or s.processes i nobody) (at-zero i s.processes lt) h

pub some-more :
    (test : ℕ → Bool) (s : State) (i : ℕ)
    → i < length s.processes
    → list_any (λ e. test e.0) (take i (enumerate_from 0 s.processes)) ≡ false
    → test i ≡ false
    → list_any (λ e. test e.0) (take (i + 1) (enumerate_from 0 s.processes)) ≡ false
some-more test s i lt none h = any-more (λ e. test e.0) (enumerate_from 0 s.processes) i (i, get_or s.processes i nobody) (at-zero i s.processes lt) none h

pub some-whole :
    (test : ℕ → Bool) (s : State) (i : ℕ)
    → length s.processes ≤ i
    → list_any (λ e. test e.0) (take i (enumerate_from 0 s.processes)) ≡ false
    → some_process test s ≡ false
some-whole test s i le none =
    let l = enumerated-length 0 s.processes in
    ap (list_any (λ e. test e.0)) (sym (take_all i (enumerate_from 0 s.processes) (omega (arith, l, le)))) ∙ none

pub every-here : (test : ℕ → Bool) (s : State) (i : ℕ) → i < length s.processes → test i ≡ false → every_process test s ≡ false
every-here test s i lt h = all-here (λ e. test e.0) (enumerate_from 0 s.processes) i (i, get_or s.processes i nobody) (at-zero i s.processes lt) h

pub every-more :
    (test : ℕ → Bool) (s : State) (i : ℕ)
    → i < length s.processes
    → list_all (λ e. test e.0) (take i (enumerate_from 0 s.processes)) ≡ true
    → test i ≡ true
    → list_all (λ e. test e.0) (take (i + 1) (enumerate_from 0 s.processes)) ≡ true
every-more test s i lt all h = all-more (λ e. test e.0) (enumerate_from 0 s.processes) i (i, get_or s.processes i nobody) (at-zero i s.processes lt) all h

pub every-whole :
    (test : ℕ → Bool) (s : State) (i : ℕ)
    → length s.processes ≤ i
    → list_all (λ e. test e.0) (take i (enumerate_from 0 s.processes)) ≡ true
    → every_process test s ≡ true
every-whole test s i le all =
    let l = enumerated-length 0 s.processes in
    ap (list_all (λ e. test e.0)) (sym (take_all i (enumerate_from 0 s.processes) (omega (arith, l, le)))) ∙ all

map-append : {A B : Type 0} (f : A → B) (xs ys : List A) → map f (xs ++ ys) ≡ map f xs ++ map f ys
map-append f [] ys = refl
map-append f (x ∷ xs) ys = ap (λ zs. f x ∷ zs) (map-append f xs ys)

-- what is made of each process with its number
pub mapped-more :
    (f : ℕ × Process → Process) (s : State) (i : ℕ)
    → i < length s.processes
    → map f (take (i + 1) (enumerate_from 0 s.processes)) ≡ map f (take i (enumerate_from 0 s.processes)) ++ f (i, process_at s.processes i) ∷ []
mapped-more f s i lt =
    ap (map f) (take-got (enumerate_from 0 s.processes) i (i, get_or s.processes i nobody) (at-zero i s.processes lt))
    ∙ map-append f (take i (enumerate_from 0 s.processes)) ((i, get_or s.processes i nobody) ∷ [])

pub mapped-whole : (f : ℕ × Process → Process) (s : State) (i : ℕ) → length s.processes ≤ i → map f (take i (enumerate_from 0 s.processes)) ≡ map f (enumerate_from 0 s.processes)
mapped-whole f s i le = let l = enumerated-length 0 s.processes in ap (map f) (take_all i (enumerate_from 0 s.processes) (omega (arith, l, le)))

-- what stands at an index that is within does not depend on what stands for the others
pub at-is : (xs : List Process) (i : ℕ) (q : Process) → q ≡ get_or xs i q → i < length xs → q ≡ process_at xs i
at-is xs i q e lt = e ∙ default-free xs i q lt
  where
    default-free : (xs : List Process) (i : ℕ) (q : Process) → i < length xs → get_or xs i q ≡ get_or xs i nobody
    default-free [] i q lt = absurd (omega arith)
    default-free (x ∷ xs) zero q lt = refl
    default-free (x ∷ xs) (suc i) q lt = default-free xs i q (omega arith)
