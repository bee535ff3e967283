use Rattle.std.proofs.Common.{◌∙◌}
use Rattle.aig_topo.proofs.Ordering.Waiting.{rows_wait_in_list, rows_wait_no_more}
use Rattle.aig_topo.proofs.least_ready.taking.Search.enter.Goals as goal

pub returns-in-Some-clause-waits : goal.returns-in-Some-clause-waits
returns-in-Some-clause-waits g c =
    let s = c.args.self.now in
    let e = c.in-Some.ensures in
    let p = c.push.ensures in
    rows_wait_in_list g.all s.lists s.ready s.seen s.order c.missing_gate.new.order c.push.new.self c.args.gate
    c.in-Some.other.gate c.in-Some.other.rest e.for_gate p.lists p.needs p.pushed p.others e.missing e.counted
    (λ later has_all. c.requires.1.1.1 later has_all ∙ e.enough later has_all) e.there.1 c.requires.0

pub returns-in-None-clause-waits : goal.returns-in-None-clause-waits
returns-in-None-clause-waits g c =
    let s = c.args.self.now in
    let e = c.in-None.ensures in
    rows_wait_no_more g.all s.lists s.ready s.seen s.order c.missing_gate.new.order c.make_ready.new.ready c.args.gate
    e.for_gate (c.requires.1.1.1 s.order.list (λ h a. a) ∙ e.none) e.idle c.make_ready.ensures.ready
    c.make_ready.ensures.room c.requires.0
