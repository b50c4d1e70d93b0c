use Rattle.std.proofs.Common.{rules, arith, subst, ap, ◌∙◌, map, string_bytes}
use Rattle.std.proofs.lemmas.Grind.{common_steps}
use Rattle.std.specs.Vec.Iter.{into_iter_items, into_iter_steps}
use Rattle.cc_command.proofs.Arguments.{behind_first}
use Rattle.cc_command.proofs.words.copied_words.Goals as goal

pub loop-word-preserved : goal.loop-word-preserved
loop-word-preserved g = grind (arith, rules, common_steps)

pub returns : goal.returns
returns g =
    let first = g.next-program in
    record {
      words =
          behind_first string_bytes first.result (into_iter_items g.args.args) (into_iter_items first.new.self) (into_iter_items g.loop-word.word-iterator) g.loop-word.words
          first.ensures.items
          (λ none.
          let gone = subst (λ r. into_iter_steps g.args.args r first.new.self) none first.ensures.cases in
          omega (arith, gone.1, first.new.self.rest.ok.0))
          (g.loop-word.invariant ∙ ap (λ it. map string_bytes (into_iter_items it)) g.into_iter-word-iterator.ensures.into_iter_gives)
          (omega (arith, g.in-None.ensures.steps.0, g.loop-word.word-iterator.rest.ok.0));
    }
