use Rattle.qh_exchange.proofs.Runs.{script_ends}
use Rattle.qh_exchange.proofs.program.run_requests.Goals as goal

pub returns : goal.returns
returns c = λ s as_.
    let x = c.exchange-ended.ensures in
    script_ends (λ v. v.items) s c.args.config.now c.args.requests.now c.args.rounds c.args.bench.now.link c.exchange-ended.new.link c.args.bench.now.service c.exchange-ended.new.service
    c.exchange-ended.result c.conclude.result as_ c.requires.events c.requires.faults c.requires.served
    (record {
      answered = x.answered_once;
      once = x.never_twice;
      greeted = x.greeted_first;
      set = x.greeted_as_set;
      said = x.sent_as_set;
      within = x.within_announced;
      count = x.count;
      empty = x.empty;
      invalid = x.invalid;
      not_valid = x.not_valid;
      answers = x.answers;
      cause = x.cause;
      fault = x.fault;
      timed_out = x.timed_out;
      waited = x.waited;
      fair = x.fair;
      lost = x.lost;
      out_of_rounds = x.out_of_rounds;
    })
    x.plan c.events-events.ensures.scheduled c.requires.maps c.conclude.ensures.answered c.conclude.ensures.failed
