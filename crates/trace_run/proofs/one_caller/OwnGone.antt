-- What the one caller's lines came to, while its party has every number: they led in sequence on from where it stood, and made no event with another party's number.
use Rattle.std.proofs.Common.{◌≡◌, ◌≢◌, ◌==◌, ℕ, zero, suc, ◌<◌, ◌≤◌, Bool, true, false, if◌then◌else◌, List, [], ◌∷◌, ◌++◌, Option, Some, None, Result, Ok, Err, Vec, Global, refl, sym, ap, ◌∙◌, subst, arith, append-nil}
use Rattle.std.specs.Prelude.{IfOk, IfSome, filter}
use Rattle.std.specs.List.{AllByRecursion}
use mathlib.Core.Option.{some, some-ne-none, some-injective}
use lib.ListN.{get_elem?}
use Rattle.blk_ptr.specs.Hash.{shard_of}
use Rattle.blk_ptr.specs.declared.key.Key.{Key}
use Rattle.blk_ptr.specs.declared.memory.NoMemory.{NoMemory}
use Rattle.blk_ptr.specs.declared.ptr.Ptr.{Ptr}
use Rattle.vdev_io.specs.declared.device.CacheDev.{Ghosts as Devices}
use Rattle.vdev_io.specs.declared.pool.Pool.{Ghosts}
use Rattle.arc_core.specs.Config.{IsConfig}
use Rattle.arc_core.specs.PlainShard.{PlainShard}
use Rattle.arc_core.specs.Replay.{replay}
use Rattle.arc_core.specs.declared.config.Config.{Config}
use Rattle.arc_core.specs.declared.event.Event.{Event}
use Rattle.arc_core.specs.declared.event.Event.TheVariants as event
use Rattle.arc_core.specs.Operations.{Act, Moment, actor_of, moments, number_of, own_moments}
use Rattle.arc_table.specs.Geometry.{cell_number, parties_of}
use Rattle.arc_table.specs.Seen.{HasAll, seen_of}
use Rattle.arc_table.specs.Telling.{opening_of}
use Rattle.arc_table.proofs.OwnLemmas.{no-own-moments, own-append}
use Rattle.dbuf_cells.specs.Places.{cell_of}
use Rattle.l2_dev.proofs.ListLaws.{filter_all}
use Rattle.trace_text.specs.declared.op.Op.{Op}
use Rattle.trace_text.specs.declared.reply.Reply.{Reply}
use Rattle.trace_text.specs.declared.reply.Reply.TheVariants as replies
use Rattle.trace_text.specs.declared.trace.Trace.{Trace}
use Rattle.trace_run.specs.Deeds.{HasAct, act_of_event, acts_of_events}
use Rattle.trace_run.specs.KeptReads.{KeptRead}
use Rattle.trace_run.specs.Lines.{is_in_shard, is_of_caller}
use Rattle.trace_run.specs.dbufs.ObjectLines.{OnObject, brought_there, events_of_bringing, events_of_hand, on_object}
use Rattle.trace_run.specs.dbufs.Objects.{Brought, Line, Loaded, Nothing, OwnEvent, Refused, Work, own_event}
use Rattle.trace_run.specs.Openings.{openings_of}
use Rattle.trace_run.specs.one_caller.Access.{access_of, events_of_answered, held_by_access}
use Rattle.trace_run.specs.one_caller.OneCaller.{events_of_op_in as line_events}
use Rattle.trace_run.specs.Reads.{now_of}
use Rattle.trace_run.specs.callers.Callers.{CameTo}
use Rattle.trace_run.specs.callers.WorkLines.{AtWork, DidAll, DidAlone, DidLineBy, DidOps, NotesFor, NotesLine}
use Rattle.trace_run.specs.one_caller.LinesGone.{CameAlone, Gone, IsThere}
use Rattle.trace_run.specs.one_caller.Sequence.{BetweenLines}
use Rattle.trace_run.proofs.DeviceReadLemmas.{none-came}
use Rattle.trace_run.proofs.WorkLemmas.{AreHis, all-asked, by-number, came-with, his-lines, plainly}
use Rattle.trace_run.proofs.callers.CallerActLemmas.{caller-is, own-lines}
use Rattle.trace_run.proofs.one_caller.SequenceLines.{lines-over, lines-without}
use Rattle.trace_run.proofs.one_caller.TellLemmas.{IsMine, all-append, mine-answered, mine-of, mine-refused}

-- ---- whose the events of a line are

-- the number of an event that stands for an act is the act's
act-number : (e : Event) (act : Act) → act_of_event e ≡ act ∷ [] → number_of e ≡ actor_of act
act-number (event.Drop n k) act is = cc
act-number (event.Release n k sole) act is = cc
act-number (event.Insert n k d t) act is = cc
act-number (event.Pass n k owner) act is = cc
act-number (event.Hit n k t) act is = cc
act-number (event.Miss n k t) act is = cc
act-number (event.Arrive n k d from) act is = cc
act-number (event.Fail n k at) act is = cc
act-number (event.Past n k kept) act is = cc
act-number (event.Hand n k to) act is = cc
act-number (event.Pick n k) act is = cc
act-number (event.FeedEnd n) act is = cc
act-number (event.Set n k place) act is = cc
act-number (event.Leave n k why) act is = cc
act-number (event.Clear n k) act is = cc
act-number (event.Restore n k place d) act is = cc
act-number (event.Resize n c) act is = cc

made-numbers : (c : ℕ) (es : List Event) → AllByRecursion HasAct es → AllByRecursion (λ act. actor_of act ≡ c) (acts_of_events es) → AllByRecursion (λ e. number_of e ≡ c) es
made-numbers c [] kinds acts = tt
made-numbers c (e ∷ es) kinds acts =
    let k = kinds.0 in
    let here = subst (λ (l : List Act). AllByRecursion (λ act. actor_of act ≡ c) (l ++ acts_of_events es)) k.1 acts in
    (act-number e k.0 k.1 ∙ here.0, made-numbers c es kinds.1 here.1)

-- the acts of a line's work have the number of its cell
line-acts : (g : Config) (n : ℕ) (own : OwnEvent) (work : Work) (reply : Reply) → NotesLine g n own work reply → AllByRecursion (λ act. actor_of act ≡ cell_number g (cell_of g.cells own.at)) work.acts
line-acts g n own work (replies.Got size shown) notes = notes.acts
line-acts g n own work replies.Done notes = notes.acts
line-acts g n own work (replies.Refused refusal) notes = subst (AllByRecursion (λ act. actor_of act ≡ cell_number g (cell_of g.cells own.at))) (sym notes.1) tt
line-acts g n own work (replies.Read served digest shown) notes = absurd notes
line-acts g n own work (replies.Kept served) notes = absurd notes
line-acts g n own work replies.Dropped notes = absurd notes
line-acts g n own work (replies.Fed report) notes = absurd notes
line-acts g n own work replies.FedNone notes = absurd notes
line-acts g n own work (replies.Synced group blocks bytes) notes = absurd notes
line-acts g n own work (replies.Capped c) notes = absurd notes

notes-acts : (g : Config) (n : ℕ) (own : Option OwnEvent) (work : Work) (reply : Reply) → NotesFor g n own work reply → (c : ℕ) × (parties_of g ≤ c) × AllByRecursion (λ act. actor_of act ≡ c) work.acts
notes-acts g n None work reply notes = (parties_of g, omega arith, subst (λ (w : Work). AllByRecursion (λ act. actor_of act ≡ parties_of g) w.acts) (sym notes) tt)
notes-acts g n (Some own) work reply notes = (cell_number g (cell_of g.cells own.at), omega arith, line-acts g n own work reply notes)

-- ---- events of other numbers

-- none of these is k's
abbrev pub AreOthers : (k : ℕ) → List Event → Type 0
AreOthers k = AllByRecursion (λ e. number_of e ≢ k)

mine-others : (n k : ℕ) → k ≢ n → (es : List Event) → AllByRecursion (IsMine n) es → AreOthers k es
mine-others n k other [] mine = tt
mine-others n k other (e ∷ es) mine = ((λ is. other (sym is ∙ mine.0.0)), mine-others n k other es mine.1)

numbered-others : (c k : ℕ) → k ≢ c → (es : List Event) → AllByRecursion (λ e. number_of e ≡ c) es → AreOthers k es
numbered-others c k other [] all = tt
numbered-others c k other (e ∷ es) all = ((λ is. other (sym is ∙ all.0)), numbered-others c k other es all.1)

chosen-others : (k : ℕ) (test : Bool) (es : List Event) → AreOthers k es → AreOthers k (if test then es else [])
chosen-others k true es all = all
chosen-others k false es all = tt

hand-others : (n k c : ℕ) → k ≢ n → (held : Option Key) → AreOthers k (events_of_hand n c held)
hand-others n k c other None = tt
hand-others n k c other (Some key) = ((λ is. other (sym is)), tt)

bringing-others : (g : Config) (shard : ℕ) (s : PlainShard) (n k t c : ℕ) → k ≢ n → (brought : Brought) → AreOthers k (brought_there g.shards shard brought (events_of_bringing s n t c brought))
bringing-others g shard s n k t c other Nothing = tt
bringing-others g shard s n k t c other (Loaded ptr from) =
    chosen-others k (shard_of g.shards ptr.key == shard) _
    (all-append (λ e. number_of e ≢ k) (events_of_answered n t ptr from (access_of s ptr)) (events_of_hand n c (held_by_access ptr (access_of s ptr))) (mine-others n k other _ (mine-answered n t ptr from (access_of s ptr)))
    (hand-others n k c other (held_by_access ptr (access_of s ptr))))
bringing-others g shard s n k t c other (Refused ptr) = chosen-others k (shard_of g.shards ptr.key == shard) _ (mine-others n k other _ (mine-refused n t ptr (access_of s ptr)))

-- they add no moment of k's
others-still : (k : ℕ) (s : PlainShard) (front more : List Event) → AreOthers k more → own_moments k (moments s (front ++ more)) ≡ own_moments k (moments s front)
others-still k s front more others =
    own-append k s front more ∙ (ap (λ (l : List Moment). own_moments k (moments s front) ++ l) (no-own-moments k (replay s front) more (each more others)) ∙ append-nil (own_moments k (moments s front)))
  where
    each : (es : List Event) → AreOthers k es → (y : ℕ) (e : Event) → get_elem? es y ≡ some e → number_of e ≢ k
    each [] all y e at = absurd (some-ne-none e (sym at))
    each (x ∷ xs) all zero e at = subst (λ (z : Event). number_of z ≢ k) (some-injective x e at) all.0
    each (x ∷ xs) all (suc y) e at = each xs all.1 y e at

module _ {P D : Type 0} (pools : Ghosts P) (devices : Devices D) (g : Config) (blocks : List Ptr) where
  -- ---- lines, one after another

  plain-others : (k shard : ℕ) (s : PlainShard) (kept : List KeptRead) (op : Op) (reply : Reply) (n : ℕ) → k ≢ n → is_of_caller n op ≡ true → AreOthers k (line_events g.shards blocks shard s kept op reply)
  plain-others k shard s kept op reply n other his = chosen-others k (is_in_shard g.shards blocks shard op) _ (mine-others n k other _ (mine-of blocks s kept op reply n (caller-is n op his)))

  line-others : (k shard : ℕ) (o : Option OnObject) (l : Line) (a b : AtWork P D) → on_object l.op ≡ o → k ≢ a.party.number → k < parties_of g → is_of_caller a.party.number l.op ≡ true → DidLineBy pools devices g blocks o l a b → HasAll a.party
      → (own_moments k (moments (opening_of g) (seen_of g shard b.party)) ≡ own_moments k (moments (opening_of g) (seen_of g shard a.party))) × HasAll b.party
  line-others k shard None l a b is other low his d all = (
    ap (λ (es : List Event). own_moments k (moments (opening_of g) es)) (d.1.did.alone all shard)
        ∙ others-still k (opening_of g) (seen_of g shard a.party) _ (plain-others k shard (now_of g shard a.party) a.kept l.op l.reply a.party.number other his),
    d.1.did.all all,
  )
  line-others k shard (Some on) l a b is other low his d all =
      let alone = subst (λ (o : Option OnObject). IfSome o (λ on. DidAlone pools devices g a.outside b.outside a.party b.party on l)) is (d.1.alone all) in
      let acts = notes-acts g a.party.number (own_event l.op) l.work l.reply d.1.fits.notes in
      let numbers : AllByRecursion (λ e. number_of e ≡ acts.0) alone.made = made-numbers acts.0 alone.made alone.kinds (subst (AllByRecursion (λ act. actor_of act ≡ acts.0)) alone.are acts.2) in
      let not_cell : k ≢ acts.0 = λ is. absurd (let high = acts.1 in omega (arith, is, low, high)) in (
        ap (λ (es : List Event). own_moments k (moments (opening_of g) es)) (alone.events shard)
            ∙ others-still k (opening_of g) (seen_of g shard a.party) _
            (all-append (λ e. number_of e ≢ k) _ _ (bringing-others g shard (now_of g shard a.party) a.party.number k on.tick (cell_number g (cell_of g.cells on.at)) other l.work.brought)
            (filter_all (λ e. number_of e ≢ k) _ alone.made (numbered-others acts.0 k not_cell alone.made numbers))),
        alone.all,
      )

  pub lines-others : (k shard n : ℕ) (ls : List Line) (a b : AtWork P D) → a.party.number ≡ n → k ≢ n → k < parties_of g → AreHis pools devices g blocks n ls → DidAll pools devices g blocks ls a b → HasAll a.party
      → own_moments k (moments (opening_of g) (seen_of g shard b.party)) ≡ own_moments k (moments (opening_of g) (seen_of g shard a.party))
  lines-others k shard n [] a b number other low his d all = ap (λ (x : AtWork P D). own_moments k (moments (opening_of g) (seen_of g shard x.party))) d
  lines-others k shard n (l ∷ ls) a b number other low his d all =
      let first = line-others k shard (on_object l.op) l a d.0 refl (λ is. other (is ∙ number)) low (subst (λ (m : ℕ). is_of_caller m l.op ≡ true) (sym number) his.0) d.1 all in
      lines-others k shard n ls d.0 b (by-number pools devices g blocks (on_object l.op) l a d.0 d.1 ∙ number) other low his.1 d.2 first.1 ∙ first.0

  -- ---- over the device that was given, or over one without bytes where none was

  module _ {E : Type 0} (given : Devices E) (valid : IsConfig g) (all : List Op) (a b : AtWork P D) where
    abbrev ops_his : List Op
    ops_his = filter (is_of_caller a.party.number) all

    came-alone : (rs : List Reply) (was now : Option E)
        → (came : CameTo pools given g blocks ops_his rs (plainly pools devices g blocks a) (plainly pools devices g blocks b) was now) → DidAll pools devices g blocks came.lines a b
        → ((trace : Trace) → g ≡ trace.config → blocks ≡ trace.blocks → AllByRecursion (λ (l : Line). is_of_caller 0 l.op ≡ true) came.lines → HasAll a.party → a.party.number ≡ 0 → a.party.own.about.openings ≡ openings_of trace
        → (at : BetweenLines P E) → IsThere g at a.party a.kept a.outside.pool was → Gone pools given trace g came.lines at b.party b.kept b.outside.pool now)
        → CameAlone pools given g blocks ops_his rs (plainly pools devices g blocks a) (plainly pools devices g blocks b) was now
    came-alone rs was now came did goes =
        let his : AreHis pools devices g blocks a.party.number came.lines = his-lines pools devices g blocks a.party.number ops_his rs came.lines (own-lines a.party.number all) came.are in
        record {
          came = came;
          gone = λ has number trace config declared openings at there.
              goes trace config declared (subst (λ (n : ℕ). AllByRecursion (λ (l : Line). is_of_caller n l.op ≡ true) came.lines) number his) has number openings at there;
          others = λ has k other low shard. lines-others k shard a.party.number came.lines a b refl other low his did has;
        }

    pub alone-without : (r : Result (Vec Reply Global) NoMemory) → ((d : D) → devices.size d ≡ 0) → IfOk r (λ v. DidOps pools devices g blocks ops_his v.items a b)
        → IfOk r (λ v. CameAlone pools given g blocks ops_his v.items (plainly pools devices g blocks a) (plainly pools devices g blocks b) None None)
    alone-without (Ok v) empty did =
        let came = came-with pools devices g blocks given valid all a b v.items did None None (none-came devices blocks did.lines a.outside.device b.outside.device (all-asked pools devices g blocks did.lines a b did.did) empty) in
        came-alone v.items None None came.0 came.1
        (λ trace config declared his has number openings at there. lines-without pools devices given trace g blocks empty valid config declared came.0.lines a b came.1 his has number openings at there)
    alone-without (Err why) empty did = tt

  pub alone-over : (valid : IsConfig g) (all : List Op) (a b : AtWork P D) (r : Result (Vec Reply Global) NoMemory) → IfOk r (λ v. DidOps pools devices g blocks (filter (is_of_caller a.party.number) all) v.items a b)
      → IfOk r (λ v. CameAlone pools devices g blocks (filter (is_of_caller a.party.number) all) v.items (plainly pools devices g blocks a) (plainly pools devices g blocks b) (Some a.outside.device) (Some b.outside.device))
  alone-over valid all a b (Ok v) did =
      let came = came-with pools devices g blocks devices valid all a b v.items did (Some a.outside.device) (Some b.outside.device) (all-asked pools devices g blocks did.lines a b did.did) in
      came-alone devices valid all a b v.items (Some a.outside.device) (Some b.outside.device) came.0 came.1
      (λ trace config declared his has number openings at there. lines-over pools devices trace g blocks valid config declared came.0.lines a b came.1 his has number openings at there)
  alone-over valid all a b (Err why) did = tt
