-- What a run over the shared cache came to is what its report has to say.
use Rattle.std.proofs.lemmas.Option.{slice_get_within}
use Rattle.std.specs.Prelude.{is_some}
use Rattle.std.proofs.Common.{◌≡◌, ℕ, ◌+◌, ◌<◌, ◌≤◌, ◌^◌, false, true, List, [], ◌∷◌, length, Option, Some, None, IfSome, refl, sym, ap, subst, ◌∙◌, arith}
use Rattle.arc_core.specs.declared.event.Event.{Event}
use Rattle.arc_table.specs.Ended.{Ended}
use Rattle.trace_text.specs.Grammar.{IsFormed}
use Rattle.trace_text.specs.declared.op.Op.{Op}
use Rattle.trace_text.specs.declared.op.Op.TheVariants as ops
use Rattle.trace_text.specs.declared.rebuilt.Rebuilt.{Rebuilt}
use Rattle.trace_text.specs.declared.reply.Reply.{Reply}
use Rattle.trace_text.specs.declared.report.Report.{Report}
use Rattle.trace_text.specs.declared.trace.Trace.{Trace}
use Rattle.vdev_io.specs.Calls.{Call, MakesCalls}
use Rattle.vdev_io.specs.declared.device.CacheDev.{Ghosts as DeviceGhosts}
use Rattle.vdev_io.specs.declared.pool.Pool.{Ghosts}
use Rattle.trace_run.specs.declared.ran.Ending.{Ending}
use Rattle.trace_run.specs.declared.ran.Ending.TheVariants.{Fork, Full, Sync, Whole}
use Rattle.trace_run.specs.one_caller.Alone.{RanAlone, ends_in, histories_of}
use Rattle.trace_run.specs.Effects.{calls_of_all}
use Rattle.trace_run.specs.Ends.{ends_of}
use Rattle.dbuf_cells.specs.Turns.{OnHeap}
use Rattle.trace_run.specs.callers.GroupRun.{RanTogether}
use Rattle.trace_run.specs.dbufs.CellEnds.{AreCellsOf}
use Rattle.trace_run.specs.Devices.{IsHandedBack}
use Rattle.trace_run.specs.Lines.{has_further}
use Rattle.trace_run.specs.one_caller.InTurn.{RunsInTurn}
use Rattle.trace_run.specs.one_caller.Sequence.{begins_so}
use Rattle.trace_run.proofs.one_caller.TurnAnswers.{turn-answered}
use Rattle.std.proofs.lemmas.Bool.{false≢true}
use Rattle.trace_run.specs.dbufs.ObjectAnswers.{IsAnsweredBy}
use Rattle.trace_run.specs.dbufs.ObjectLines.{OnObject}
use Rattle.trace_run.specs.dbufs.Objects.{Line}
use Rattle.trace_run.specs.RunWork.{RunWork, only_ended, plain_lines, plain_work}
use Rattle.trace_run.specs.callers.WorkLines.{AreLinesOf}
use Rattle.trace_run.proofs.feeds.UsedLemmas.{plain-answered, used-answered}
use Rattle.trace_run.proofs.theorem.DeviceUsed.{groups-back}
use Rattle.trace_run.proofs.theorem.FirstPlace.{first-place}
use Rattle.trace_run.proofs.theorem.KeptEnds.{plain-kept}
use Rattle.trace_run.proofs.theorem.WorkLemmas.{cells-plain, explain-plain, plain-is, plain-off}
use Rattle.trace_run.specs.Outcome.{HasRun, IsRun}
use Rattle.trace_run.specs.one_caller.Lent.{ReadsAlone, told_lent}
use Rattle.trace_run.specs.one_caller.PlainRun.{images, no_contents, replies_to, report_with}
use Rattle.trace_run.specs.Restores.{found_keys, restored_shard}
use Rattle.trace_run.specs.callers.Together.{BetweenGroups, EndsRun, RunsTogether, StoodThen, StopsAtSync, StopsSo, WorkInGroups, answered_ops, between_groups, groups_done, report_of_closed}
use Rattle.trace_run.proofs.one_caller.PlainReportLemmas.{plain-but}
use Rattle.trace_run.proofs.theorem.ReportLemmas.{report-is}
use Rattle.trace_run.proofs.RunLemmas.{calls-faults, calls-few, calls-reads, failed-all}

-- no reply, no read of the pool
no-calls : (replies : List Reply) → length replies ≡ 0 → calls_of_all replies ≡ []
no-calls [] none = refl
no-calls (reply ∷ rest) none = absurd (omega (arith, none))

-- what is so of both images is so of what follows from it
both-told : (a b : Option (List ℕ)) {F G : List ℕ → List ℕ → Type 0} → ((x y : List ℕ) → F x y → G x y) → IfSome a (λ x. IfSome b (F x)) → IfSome a (λ x. IfSome b (G x))
both-told None b each is = tt
both-told (Some x) None each is = tt
both-told (Some x) (Some y) each is = each x y is

module _ {P D : Type 0} (pools : Ghosts P) (devices : DeviceGhosts D) (before after : P) (lent back : Option D) (trace : Trace) (rebuilt : Option Rebuilt) (replies : List Reply) (closed : Ended OnHeap) where
  -- One caller's run, none of whose lines did anything beside its reply.
  alone-run : (done : has_further trace.ops ≡ false) → IsFormed trace → trace.config.callers ≡ 1 → RanAlone pools before after trace (found_keys rebuilt) replies closed
      → ReadsAlone pools devices before trace (found_keys rebuilt) replies lent back → IsRun pools devices before after lent back trace Whole (plain_work trace.ops replies) closed (report_of_closed Whole rebuilt replies closed)
  alone-run done formed one ran read =
      let report : Report = report_of_closed Whole rebuilt replies closed in
      let few : length (calls_of_all replies) < 2 ^ 32 = omega (arith, calls-few replies, ran.answers.all, formed.few_ops) in
      let ends : ends_in closed ≡ ends_of trace.config _ = ran.explained.ends ∙ ap (λ (hs : List (List Event)). ends_of trace.config hs) ran.histories in
      let plain : report ≡ report_with trace rebuilt replies = report-is trace report ran.histories ends refl refl refl in
      let place = first-place (pools.size before) trace.blocks in
      record {
        answers = ran.answers;
        explained = explain-plain trace (found_keys rebuilt) replies (ends_in closed) (histories_of closed) ran.explained;
        tells = record { histories = refl; ends = refl };
        config = ran.config;
        no_workers = refl;
        reads = λ low. calls-reads pools (calls_of_all replies) before after ran.made (omega (arith, low, few)) ∙ ap (λ (n : ℕ). pools.reads before + n) ran.counted;
        faults = λ low. omega (arith, calls-faults pools (calls_of_all replies) before after ran.made (omega (arith, low, few)), failed-all replies);
        alone = λ _ _. (
          refl,
          record {
            histories = ran.histories;
            found = ran.found;
            calls = calls_of_all replies;
            replied = refl;
            counted = ran.counted;
            made = ran.made;
            device_calls = read.calls;
            asked = read.asks;
            plain = both-told (pools.told before) (told_lent devices lent) (λ image bytes are.
                plain-but trace (replies_to (images image bytes) trace.config.shards trace.blocks (restored_shard trace.config (found_keys rebuilt)) [] no_contents trace.ops (calls_of_all replies) read.calls) report plain are) read.plain;
          },
        );
        place = place.0;
        first = place.1;
        told = λ k. pools.told before;
        told_front = λ k. refl;
        objects = record {
          found = λ k. 0;
          each = λ k n l at his. subst (λ (o : Option OnObject). IsAnsweredBy trace.config (pools.size before) (λ j. pools.told before) closed.cells n (plain_lines trace.ops replies) (λ j. 0) k o l)
              (sym (plain-off trace.config trace.ops replies done k l at)) tt;
          grow = λ j k n e l on_e on less at_e at_l his_e his_l is_e is_l same. absurd (false≢true (ap is_some (sym (plain-off trace.config trace.ops replies done j e at_e) ∙ is_e)));
        };
        in_turn = λ _ further. absurd (false≢true (sym done ∙ further));
        together = λ two. absurd (omega (arith, two, one));
        idle = λ none. (refl, subst (λ (cs : List Call). MakesCalls pools cs before after) (no-calls replies (ran.answers.all ∙ ap length none)) ran.made);
        stopped = tt;
      }

  pub alone-has-run : has_further trace.ops ≡ false → (ending : Ending) → ending ≡ Whole → IsFormed trace → trace.config.callers ≡ 1 → RanAlone pools before after trace (found_keys rebuilt) replies closed
      → ReadsAlone pools devices before trace (found_keys rebuilt) replies lent back → AreCellsOf trace (only_ended trace.config) closed → IsHandedBack devices lent back → HasRun pools devices before after lent back trace ending closed (report_of_closed ending rebuilt replies closed)
  alone-has-run done ending whole formed one ran read cells unfed =
      subst (λ (e : Ending). HasRun pools devices before after lent back trace e closed (report_of_closed e rebuilt replies closed)) (sym whole) record {
        work = plain_work trace.ops replies;
        did = plain-is trace.config trace.ops replies ran.answers.all done;
        run = alone-run done formed one ran read;
        cells = cells-plain trace trace.config refl refl trace.ops replies closed cells;
        kept = plain-kept trace closed cells;
        used = λ two. absurd (omega (arith, two, one));
        unfed = λ _. unfed;
        answered = plain-answered lent trace.ops replies done;
        plain = λ _ _. refl;
        status = refl;
      }

  -- one caller's run with any lines
  pub turn-has-run : (ending : Ending) (work : RunWork) → trace.config.callers ≡ 1 → has_further trace.ops ≡ true → (ran : RanTogether pools devices before after lent back trace ending (found_keys rebuilt) replies work closed)
      → RunsInTurn pools devices before after lent back ran.place trace ending work ran.explained.owner closed.cells (report_of_closed ending rebuilt replies closed)
      → (run : HasRun pools devices before after lent back trace ending closed (report_of_closed ending rebuilt replies closed)) × (run.work ≡ work)
  turn-has-run ending work one further ran runs = (
    record {
      work = work;
      did = ran.did;
      run = record {
        answers = ran.answers;
        explained = ran.explained;
        tells = record { histories = refl; ends = refl };
        config = ran.config;
        no_workers = refl;
        reads = ran.reads;
        faults = ran.faults;
        alone = λ _ done. absurd (false≢true (sym done ∙ further));
        in_turn = λ _ _. runs;
        place = ran.place;
        first = ran.first;
        told = ran.told;
        told_front = ran.told_front;
        objects = ran.objects;
        together = λ two. absurd (omega (arith, two, one));
        idle = λ none. absurd (false≢true (sym (ap has_further none) ∙ further));
        stopped = ran.stopped;
      };
      cells = ran.cells;
      kept = ran.kept;
      used = λ two. absurd (omega (arith, two, one));
      unfed = runs.unfed;
      answered = turn-answered pools devices trace work.lines work.feeds (begins_so trace.config (found_keys rebuilt) (between_groups before 1 ran.place) lent) runs.reached runs.lines;
      plain = λ _ done. absurd (false≢true (sym done ∙ further));
      status = refl;
    },
    refl,
  )

  -- several callers' run
  pub together-has-run : (ending : Ending) (work : RunWork) → 2 ≤ trace.config.callers → RanTogether pools devices before after lent back trace ending (found_keys rebuilt) replies work closed
      → (run : HasRun pools devices before after lent back trace ending closed (report_of_closed ending rebuilt replies closed)) × (run.work ≡ work)
  together-has-run ending work two ran = (
    record {
      work = work;
      did = ran.did;
      run = record {
        answers = ran.answers;
        explained = ran.explained;
        tells = record { histories = refl; ends = refl };
        config = ran.config;
        no_workers = refl;
        reads = ran.reads;
        faults = ran.faults;
        alone = λ one _. absurd (omega (arith, two, one));
        in_turn = λ one _. absurd (omega (arith, two, one));
        place = ran.place;
        first = ran.first;
        told = ran.told;
        told_front = ran.told_front;
        objects = ran.objects;
        together = λ _. told;
        idle = λ none. let whole = all-done none ending refl ran.stopped in (whole, unworked none whole);
        stopped = ran.stopped;
      };
      cells = ran.cells;
      kept = ran.kept;
      used = ran.used;
      unfed = λ none. groups-back devices trace.blocks trace.config.callers (groups_done ending work.lines) work.feeds lent back none (ran.used two);
      answered = used-answered devices trace.blocks trace.config.callers ending work.lines work.feeds lent back (ran.used two);
      plain = λ one _. absurd (omega (arith, two, one));
      status = refl;
    },
    refl,
  )
    where
      told : RunsTogether pools before after ran.place ran.told trace ending work ran.explained.owner closed.cells (report_of_closed ending rebuilt replies closed)
      told = ran.together two rebuilt refl

      -- without a line nothing stops
      no-sync : trace.ops ≡ [] → StopsAtSync trace replies → ⊥
      no-sync none stops = let inside = slice_get_within trace.ops (length replies) (ops.Txg stops.tick) stops.at in absurd (omega (arith, inside, ap length none))

      all-done : trace.ops ≡ [] → (e : Ending) → ending ≡ e → StopsSo pools before after trace replies e → ending ≡ Whole
      all-done none Whole is stops = is
      all-done none Fork is stops = let some_of = stops.1.some in absurd (omega (arith, some_of, ap length none))
      all-done none Sync is stops = absurd (no-sync none stops.1)
      all-done none (Full need left) is stops = absurd (no-sync none stops)

      no-lines : (os : List Op) (rs : List Reply) (ls : List Line) → os ≡ [] → AreLinesOf os rs ls → ls ≡ []
      no-lines [] [] [] none are = refl
      no-lines [] [] (l ∷ ls) none are = absurd are
      no-lines [] (r ∷ rs) ls none are = absurd are
      no-lines (o ∷ os) rs ls none are = cc

      -- and nothing is done with the pool
      unworked : trace.ops ≡ [] → ending ≡ Whole → after ≡ before
      unworked none whole =
          let no_ops : answered_ops trace ending replies ≡ [] = ap (λ (e : Ending). answered_ops trace e replies) whole ∙ none in
          let empty : work.lines ≡ [] = no-lines (answered_ops trace ending replies) replies work.lines no_ops ran.did.lines in
          let groups : WorkInGroups pools trace.config (StoodThen trace closed.cells) ran.told [] [] (between_groups before 1 ran.place) told.reached =
          subst (λ (x : Ending × List Line). WorkInGroups pools trace.config (StoodThen trace closed.cells) ran.told [] (groups_done x.0 x.1) (between_groups before 1 ran.place) told.reached) (λ i. (whole i, empty i)) told.groups in
          let ended : EndsRun pools trace.config (StoodThen trace closed.cells) trace replies work.lines work.stopped Whole told.reached after =
          subst (λ (e : Ending). EndsRun pools trace.config (StoodThen trace closed.cells) trace replies work.lines work.stopped e told.reached after) whole told.ended in
          ended.1 ∙ ap (λ (s : BetweenGroups P). s.pool) groups
