use Rattle.cc_queue.specs.Chains.{links, ends_at}
use Rattle.cc_queue.proofs.Slots.{linked_by}
use Rattle.cc_queue.proofs.chains.link.Goals as goal

pub returns-clause-chained : goal.returns-clause-chained
returns-clause-chained c =
    let node = c.requires.node in
    linked_by
    (links c.args.chain c.args.nodes.now) (links c.args.chain c.put_after.new.nodes) (links c.args.chain c.set_before.new.nodes)
    (ends_at c.args.ends.now) (ends_at c.put_last-last.new.ends)
    c.args.slot node.0 c.put_last-last.result c.args.lane c.requires.others node.1 node.2 node.3 node.4 node.5 c.put_last-last.ensures.was
    c.put_after.ensures.written c.set_before.ensures.written c.put_last-last.ensures.ends
