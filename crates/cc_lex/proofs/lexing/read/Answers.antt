use Rattle.std.proofs.Common.{◌≡◌, List, [], ◌++◌, ℕ, length, subst, sym, arith}
use Rattle.std.proofs.lemmas.Bool.{eqb-true}
use Rattle.std.proofs.lemmas.List.{append_assoc, append-nil, nil_from_length}
use Rattle.cc_lex.specs.Spells.{Reads, Spells, Whole, Faulty, whole, at_piece, start}
use Rattle.cc_lex.specs.TokenList.{TokenList}
use Rattle.cc_lex.specs.declared.token.Token.{Token}
use Rattle.cc_lex.proofs.Readings.{reads_fault, reads_gap, reads_token}
use Rattle.cc_lex.proofs.lexing.read.Goals as goal
use Rattle.cc_lex.proofs.lexing.read.Goals.{in-Space, in-Token+in_ok-push-in-Token}

pub returns-in-Fault : goal.returns-in-Fault
returns-in-Fault c =
    let rest = c.loop-rest.rest.now in
    let n = c.in_ok-piece.len in
    let stands = rw c.in-Fault.is at c.in_ok-piece.ensures.stands in
    at_piece (c.loop-rest.tokens.tokens ++ []) c.requires (c.loop-rest.invariant.completes [] c.loop-rest.place (Faulty c.in-Fault.kind) (reads_fault c.loop-rest.place rest n c.in-Fault.kind stands))

pub loop-rest-preserved : goal.loop-rest-preserved
loop-rest-preserved c =
    let rest = c.loop-rest.rest.now in
    let n = c.in_ok-piece.len in
    let kept = c.loop-rest.invariant in
    let stands = c.in_ok-piece.ensures.stands in
    record {
      completes = elim c.match-piece.branch [
        | in-Space w ↦ λ tokens end ending r.
            let behind = rw (c.after-place.ensures.value, c.split_at.ensures.front, c.split_at.ensures.back) at r in
            rw w.tokens-is (kept.completes tokens end ending (reads_gap c.loop-rest.place rest n c.in_ok-piece.piece w.in-Space.is stands tokens end ending behind))
        | in-Token+in_ok-push-in-Token w ↦ λ tokens end ending r.
            let behind = rw (c.after-place.ensures.value, c.split_at.ensures.front, c.split_at.ensures.back) at r in
            let here = rw w.in-Token.is at stands in
            rw (w.tokens-is, w.in_ok-push-in-Token.ensures.ok, append_assoc) (kept.completes _ end ending (reads_token c.loop-rest.place rest n w.in-Token.what here tokens end ending behind))
      ];
      line = omega (arith, c.after-place.ensures.line, kept.line, c.split_at.ensures.front_len, c.split_at.ensures.back_len);
      column = omega (arith, c.after-place.ensures.column, kept.column, c.split_at.ensures.front_len, c.split_at.ensures.back_len);
    }

pub returns : goal.returns
returns c =
    let text = c.args.text.now in
    let place = c.loop-rest.place in
    let empty : c.loop-rest.rest.now ≡ [] = nil_from_length c.loop-rest.rest.now (eqb-true (length c.loop-rest.rest.now) 0 (sym c.loop-rest-test.ensures)) in
    let ended : Reads place c.loop-rest.rest.now [] place Whole = subst (λ (t : List ℕ). Reads place t [] place Whole) (sym empty) whole in
    let read : Reads start text c.loop-rest.tokens.tokens place Whole =
    subst (λ (ts : List Token). Reads start text ts place Whole) (append-nil c.loop-rest.tokens.tokens) (c.loop-rest.invariant.completes [] place Whole ended) in
    (c.requires, subst (λ (list : TokenList). Spells text list) (sym c.set_end.ensures.end) read)
