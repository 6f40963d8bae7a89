-- What is promised of the shards of a run doesn't go by the mappings of its trace.
use Rattle.std.proofs.Common.{List, []}
use Rattle.arc_core.specs.declared.event.Event.{Event}
use Rattle.arc_core.specs.declared.served.Restored.{Restored}
use Rattle.arc_table.specs.Ended.{Ended}
use Rattle.trace_text.specs.declared.ends.ShardEnd.{ShardEnd}
use Rattle.trace_text.specs.declared.reply.Reply.{Reply}
use Rattle.trace_text.specs.declared.trace.Trace.{Trace}
use Rattle.vdev_io.specs.declared.pool.Pool.{Ghosts}
use Rattle.trace_run.specs.one_caller.Alone.{LinesAlone, RanAlone}
use Rattle.trace_run.specs.Explaining.{ExplainReads}

pub explain-mapped : (trace : Trace) (restored : List Restored) (replies : List Reply) (ends : List ShardEnd) (histories : List (List Event))
    → ExplainReads (record trace { objects = [] }) restored replies ends histories → ExplainReads trace restored replies ends histories
explain-mapped trace restored replies ends histories e = record {
  shards = e.shards;
  legal = e.legal;
  ends = e.ends;
  at_rest = e.at_rest;
  begins = e.begins;
  every_call = e.every_call;
  ending = e.ending;
}

module _ {C P : Type 0} (pools : Ghosts P) (before after : P) (trace : Trace) (restored : List Restored) (replies : List Reply) where
  lines-mapped : LinesAlone C pools before after (record trace { objects = [] }) restored replies → LinesAlone C pools before after trace restored replies
  lines-mapped l = record { first = l.first; last = l.last; alone = l.alone; none = l.none; opens = l.opens; from = l.from; to = l.to; lines = l.lines }

  pub ran-mapped : (closed : Ended C) → RanAlone pools before after (record trace { objects = [] }) restored replies closed → RanAlone pools before after trace restored replies closed
  ran-mapped closed r = record {
    answers = r.answers;
    made = r.made;
    histories = r.histories;
    found = r.found;
    counted = r.counted;
    explained = explain-mapped trace restored replies _ _ r.explained;
    config = r.config;
    lines = lines-mapped r.lines;
  }
