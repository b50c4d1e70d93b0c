use Rattle.std.proofs.Common.{◌≡◌, Option, Some, sym, ap, ◌∙◌}
use Rattle.std.specs.Option.{option_map}
use Rattle.cc_queue.specs.Chains.{Link, links, link_of, ends_at}
use Rattle.cc_queue.specs.declared.node.Node.{Node}
use Rattle.cc_queue.proofs.Unlinked.{same_link, unlinked_by}
use Rattle.cc_queue.proofs.chains.unlink.Goals as goal

pub returns-clause-others : goal.returns-clause-others
returns-clause-others c =
    let x : Link = link_of c.args.chain c.in-Some.node.now in
    let at : links c.args.chain c.args.nodes.now c.args.slot ≡ Some x =
    ap (λ (o : Option Node). option_map (link_of c.args.chain) o) (sym c.in-Some.ensures)
    in
    let same : c.requires.node.0 ≡ x = same_link _ _ (sym c.requires.node.1 ∙ at) in
    let lane : c.args.lane ≡ x.lane = sym c.requires.node.2 ∙ ap (λ (z : Link). z.lane) same in
    unlinked_by
    {held = links c.args.chain c.args.nodes.now} {mid = links c.args.chain c.mend_before.new.nodes} {new = links c.args.chain c.mend_after.new.nodes}
    {ends = ends_at c.args.ends.now} {half = ends_at c.mend_before.new.ends} {moved = ends_at c.mend_after.new.ends}
    c.args.slot x c.neighbours-gone.result.before c.neighbours-gone.result.after c.args.lane c.requires.chained at c.neighbours-gone.ensures.before c.neighbours-gone.ensures.after lane
    c.mend_before.ensures.written c.mend_after.ensures.written c.mend_before.ensures.ends c.mend_after.ensures.ends
