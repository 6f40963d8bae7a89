-- A caller's lines, those on objects among them, each with its work: one after another, and what all of them come to.
use Rattle.std.proofs.Common.{◌≡◌, ℕ, true, List, [], ◌∷◌, ◌++◌, Option, Some, None, Result, Ok, Err, Vec, Global, refl, sym, ap, ◌∙◌, subst, append-nil, append_assoc}
use Rattle.std.specs.Prelude.{IfOk, IfSome, filter, is_some}
use Rattle.std.specs.List.{AllByRecursion}
use Rattle.std.proofs.lemmas.Bool.{false≢true}
use Rattle.blk_ptr.specs.declared.memory.NoMemory.{NoMemory}
use Rattle.blk_ptr.specs.declared.ptr.Ptr.{Ptr}
use Rattle.vdev_io.specs.declared.device.CacheDev.{Ghosts as DeviceGhosts}
use Rattle.vdev_io.specs.declared.pool.Pool.{Ghosts as PoolGhosts}
use Rattle.vdev_io.specs.Calls.{KeepsPool, MakesCalls}
use Rattle.arc_core.specs.Config.{IsConfig}
use Rattle.arc_core.specs.declared.config.Config.{Config}
use Rattle.arc_core.specs.Operations.{Act}
use Rattle.arc_table.specs.declared.about.About.{About}
use Rattle.arc_table.specs.declared.view.Line.{Line as SeenLine}
use Rattle.arc_table.specs.Geometry.{IsCell}
use Rattle.arc_table.specs.Reading.{KeepsDevice, Outside}
use Rattle.dbuf_cells.specs.Places.{cell_of}
use Rattle.dbuf_cells.specs.Turns.{OnHeap, PartyPlace}
use Rattle.dbuf_state.specs.declared.oid.Oid.{Oid}
use Rattle.trace_text.specs.declared.op.Op.{Op}
use Rattle.trace_text.specs.declared.op.Op.TheVariants as ops
use Rattle.trace_text.specs.declared.reply.Reply.{Reply}
use Rattle.trace_run.specs.Acts.{acts_of}
use Rattle.trace_run.specs.callers.CallerLines.{At, DidLine, at}
use Rattle.trace_run.specs.callers.Callers.{CameTo}
use Rattle.trace_run.specs.callers.WorkLines.{AllAsked, AnswersLine, AnswersLines, AreLinesOf, AsksGiven, AtWork, DidAll, DidLineBy, DidOps, DidWith, DidWorkLine, IsWorkOf, LooksLines, acts_of_work, acts_with, at_work, calls_of_lines, effect_with, noted_of_work, size_asked_by}
use Rattle.trace_run.specs.Deeds.{HasToldAll, KeepsCells, Noted, lines_of_cell}
use Rattle.trace_run.specs.Effects.{calls_of}
use Rattle.trace_run.specs.DeviceReads.{AsksFor, LineAsks, size_asked}
use Rattle.trace_run.specs.KeptReads.{KeptRead}
use Rattle.trace_run.specs.Lines.{caller_of, is_of_caller}
use Rattle.trace_run.specs.dbufs.ObjectLines.{DidObjectLine, OnObject, cell_lines, on_object}
use Rattle.trace_run.specs.dbufs.ObjectReplies.{AnswersFrom, LooksFrom}
use Rattle.trace_run.specs.dbufs.Objects.{Line, Work, no_work}
use Rattle.trace_run.specs.one_caller.OneCaller.{kept_after}
use Rattle.trace_run.specs.RunWork.{kept_after_lines}
use Rattle.trace_run.specs.one_caller.OverShards.{AreNamed}
use Rattle.trace_run.proofs.CapLemmas.{his-some}
use Rattle.trace_run.proofs.callers.CallerActLemmas.{his-is, own-lines}
use Rattle.trace_run.proofs.DeviceReadLemmas.{none-came}
use Rattle.trace_run.proofs.LinesLemmas.{line-named}
use Rattle.trace_run.proofs.RunLemmas.{calls-then}
use Rattle.trace_run.proofs.deeds.MakesLemmas.{keeps-none, keeps-then}
use Rattle.trace_run.proofs.deeds.OperatesDone.{cell-there}
use Rattle.trace_run.proofs.deeds.ObjectWork.{object-work}
use Rattle.trace_run.proofs.one_caller.AskingLines.{AloneAsks}

-- ---- whether a line is on an object

module _ {P D : Type 0} (pools : PoolGhosts P) (devices : DeviceGhosts D) (g : Config) (blocks : List Ptr) where
  -- ---- one line

  module _ (p q : PartyPlace) (before now : Outside P D) where
    -- one on no object did nothing beside its reply
    plain-with : (kept then : List KeptRead) (op : Op) (reply : Reply) → on_object op ≡ None → DidLine g pools blocks op reply (at p kept before.pool) (at q then now.pool) → LineAsks devices blocks op reply before.device now.device
        → AloneAsks g devices blocks p before.device now.device op reply → DidWith pools devices g blocks op reply (at_work p kept before) (at_work q then now)
    plain-with kept then op reply plain did asked asks = (
      no_work,
      subst (λ (o : Option OnObject). DidLineBy pools devices g blocks o (record { op = op; reply = reply; work = no_work }) (at_work p kept before) (at_work q then now)) (sym plain) (refl, did, asked, asks),
    )

    pub plain-ok : (kept then : List KeptRead) (op : Op) (r : Result Reply NoMemory) → on_object op ≡ None → IfOk r (λ reply. DidLine g pools blocks op reply (at p kept before.pool) (at q then now.pool)) → IfOk r (λ reply. LineAsks devices blocks op reply before.device now.device)
        → IfOk r (AloneAsks g devices blocks p before.device now.device op) → IfOk r (λ reply. DidWith pools devices g blocks op reply (at_work p kept before) (at_work q then now))
    plain-ok kept then op (Ok reply) plain did asked asks = plain-with kept then op reply plain did asked asks
    plain-ok kept then op (Err why) plain did asked asks = tt

    by-object : (o : Option OnObject) (l : Line) (old new : AtWork P D) → is_some o ≡ true → new.kept ≡ old.kept → DidWorkLine pools devices g blocks old.kept old.outside new.outside old.party new.party l → DidLineBy pools devices g blocks o l old new
    by-object None l old new some same did = absurd (false≢true some)
    by-object (Some on) l old new some same did = (same, did)

    -- one on an object did what its call says
    pub object-ok : (kept : List KeptRead) (op : Op) (r : Result Reply NoMemory) → is_of_caller p.number op ≡ true → is_some (on_object op) ≡ true → KeepsPool pools before.pool now.pool → KeepsDevice devices before.device now.device
        → IfOk r (DidObjectLine pools devices g before now p q op) → IfOk r (λ reply. DidWith pools devices g blocks op reply (at_work p kept before) (at_work q kept now))
    object-ok kept op (Ok reply) his some pool device did =
        let w = object-work pools devices g blocks kept before now p q pool device op reply his did some in
        (w.0, by-object (on_object op) (record { op = op; reply = reply; work = w.0 }) (at_work p kept before) (at_work q kept now) some refl w.1)
    object-ok kept op (Err why) his some pool device did = tt

  -- as a line on no object sees it
  abbrev pub plainly : AtWork P D → At OnHeap P
  plainly x = at x.party x.kept x.outside.pool

  -- the kept reads still hold the entries of their own blocks
  by-named : (o : Option OnObject) (l : Line) (a b : AtWork P D) → DidLineBy pools devices g blocks o l a b → AreNamed blocks a.kept → AreNamed blocks b.kept
  by-named None l a b did named = line-named g pools blocks l.op l.reply (plainly a) (plainly b) named did.1
  by-named (Some on) l a b did named = subst (AreNamed blocks) (sym did.0) named

  pub with-named : (op : Op) (reply : Reply) (a b : AtWork P D) → DidWith pools devices g blocks op reply a b → AreNamed blocks a.kept → AreNamed blocks b.kept
  with-named op reply a b did named = by-named (on_object op) (record { op = op; reply = reply; work = did.0 }) a b did.1 named

  pub by-number : (o : Option OnObject) (l : Line) (a b : AtWork P D) → DidLineBy pools devices g blocks o l a b → b.party.number ≡ a.party.number
  by-number None l a b did = did.1.did.number
  by-number (Some on) l a b did = did.1.number

  pub with-number : (op : Op) (reply : Reply) (a b : AtWork P D) → DidWith pools devices g blocks op reply a b → b.party.number ≡ a.party.number
  with-number op reply a b did = by-number (on_object op) (record { op = op; reply = reply; work = did.0 }) a b did.1

  -- a line on no object is as one always was
  pub with-plain : (op : Op) (reply : Reply) (a b : AtWork P D) → on_object op ≡ None → DidWith pools devices g blocks op reply a b → DidLine g pools blocks op reply (plainly a) (plainly b)
  with-plain op reply a b plain did = (subst (λ (o : Option OnObject). DidLineBy pools devices g blocks o (record { op = op; reply = reply; work = did.0 }) a b) plain did.1).1

  -- and what a party with every number asked the device for
  pub with-asks : (op : Op) (reply : Reply) (a b : AtWork P D) → on_object op ≡ None → DidWith pools devices g blocks op reply a b → AloneAsks g devices blocks a.party a.outside.device b.outside.device op reply
  with-asks op reply a b plain did = (subst (λ (o : Option OnObject). DidLineBy pools devices g blocks o (record { op = op; reply = reply; work = did.0 }) a b) plain did.1).3

  -- ---- one line more

  lines-of-more : (os : List Op) (rs : List Reply) (ls : List Line) (l : Line) → AreLinesOf os rs ls → AreLinesOf (os ++ l.op ∷ []) (rs ++ l.reply ∷ []) (ls ++ l ∷ [])
  lines-of-more [] [] [] l are = (refl, refl, tt)
  lines-of-more [] [] (x ∷ ls) l are = absurd are
  lines-of-more [] (r ∷ rs) ls l are = absurd are
  lines-of-more (o ∷ os) [] ls l are = absurd are
  lines-of-more (o ∷ os) (r ∷ rs) [] l are = absurd are
  lines-of-more (o ∷ os) (r ∷ rs) (x ∷ ls) l are = (are.0, are.1, lines-of-more os rs ls l are.2)

  all-more : (ls : List Line) (l : Line) (a b c : AtWork P D) → DidAll pools devices g blocks ls a b → DidLineBy pools devices g blocks (on_object l.op) l b c → DidAll pools devices g blocks (ls ++ l ∷ []) a c
  all-more [] l a b c did one = (c, subst (λ (x : AtWork P D). DidLineBy pools devices g blocks (on_object l.op) l x c) did one, refl)
  all-more (x ∷ ls) l a b c did one = (did.0, did.1, all-more ls l did.0 b c did.2 one)

  pub ops-none : (a : AtWork P D) → DidOps pools devices g blocks [] [] a a
  ops-none a = record { lines = []; are = tt; did = refl }

  pub ops-more : (os : List Op) (rs : List Reply) (op : Op) (reply : Reply) (a b c : AtWork P D) → DidOps pools devices g blocks os rs a b → DidWith pools devices g blocks op reply b c → DidOps pools devices g blocks (os ++ op ∷ []) (rs ++ reply ∷ []) a c
  ops-more os rs op reply a b c did one =
      let l : Line = record { op = op; reply = reply; work = one.0 } in
      record { lines = did.lines ++ l ∷ []; are = lines-of-more os rs did.lines l did.are; did = all-more did.lines l a b c did.did one.1 }

-- ---- what all lines come to, whatever device was asked

module _ {P D : Type 0} (pools : PoolGhosts P) (devices : DeviceGhosts D) (g : Config) (blocks : List Ptr) where
  -- each line is this caller's, whatever it is on
  abbrev pub AreHis : (n : ℕ) → List Line → Type 0
  AreHis n = AllByRecursion (λ (l : Line). is_of_caller n l.op ≡ true)

  pub his-lines : (n : ℕ) (os : List Op) (rs : List Reply) (ls : List Line) → AllByRecursion (λ op. caller_of op ≡ Some n) os → AreLinesOf os rs ls → AreHis n ls
  his-lines n [] [] [] own are = tt
  his-lines n [] [] (l ∷ ls) own are = absurd are
  his-lines n [] (r ∷ rs) ls own are = absurd are
  his-lines n (o ∷ os) [] ls own are = absurd are
  his-lines n (o ∷ os) (r ∷ rs) [] own are = absurd are
  his-lines n (o ∷ os) (r ∷ rs) (l ∷ ls) own are = (ap (is_of_caller n) are.0 ∙ his-is n n o own.0 refl, his-lines n os rs ls own.1 are.2)

  -- the reads that are kept then
  by-kept : (o : Option OnObject) (l : Line) (a b : AtWork P D) → on_object l.op ≡ o → DidLineBy pools devices g blocks o l a b → b.kept ≡ kept_after blocks l.op l.reply a.kept
  by-kept None l a b is did = did.1.kept
  by-kept (Some on) l a b is did = did.0 ∙ sym (object-keeps l.op l.reply a.kept on is)
    where
      object-keeps : (op : Op) (reply : Reply) (kept : List KeptRead) (on : OnObject) → on_object op ≡ Some on → kept_after blocks op reply kept ≡ kept
      object-keeps (ops.Get n t at w) reply kept on is = refl
      object-keeps (ops.Put n t at size fill) reply kept on is = refl
      object-keeps (ops.Patch n t at from bytes) reply kept on is = refl
      object-keeps (ops.Pin n t at) reply kept on is = refl
      object-keeps (ops.Unpin n at) reply kept on is = refl
      object-keeps (ops.Read n t x window) reply kept on is = refl
      object-keeps (ops.Hold n t x) reply kept on is = cc
      object-keeps (ops.Drop n x) reply kept on is = cc
      object-keeps ops.Feed reply kept on is = refl
      object-keeps (ops.Txg t) reply kept on is = refl
      object-keeps (ops.Cap c) reply kept on is = refl

  -- what is told
  plain-acts : (op : Op) (reply : Reply) (kept : List KeptRead) → on_object op ≡ None → acts_with g blocks kept (record { op = op; reply = reply; work = no_work }) ≡ acts_of blocks kept op reply
  plain-acts (ops.Read n t x window) reply kept is = refl
  plain-acts (ops.Hold n t x) reply kept is = refl
  plain-acts (ops.Drop n x) reply kept is = refl
  plain-acts ops.Feed reply kept is = refl
  plain-acts (ops.Txg t) reply kept is = refl
  plain-acts (ops.Cap c) reply kept is = refl
  plain-acts (ops.Get n t at w) reply kept is = cc
  plain-acts (ops.Put n t at size fill) reply kept is = cc
  plain-acts (ops.Patch n t at from bytes) reply kept is = cc
  plain-acts (ops.Pin n t at) reply kept is = cc
  plain-acts (ops.Unpin n at) reply kept is = cc

  by-told : (o : Option OnObject) (l : Line) (a b : AtWork P D) → on_object l.op ≡ o → DidLineBy pools devices g blocks o l a b → (did : List Act) (had : List Noted) → HasToldAll g did had a.party
      → HasToldAll g (did ++ acts_with g blocks a.kept l) (had ++ l.work.noted) b.party
  by-told None l a b is d did had told =
      subst (λ (w : Work). HasToldAll g (did ++ acts_with g blocks a.kept (record { op = l.op; reply = l.reply; work = w })) (had ++ w.noted) b.party) (sym d.0)
      (subst (λ (x : List Act × List Noted). HasToldAll g (did ++ x.0) x.1 b.party) (λ i. (sym (plain-acts l.op l.reply a.kept is) i, sym (append-nil had) i)) (d.1.did.told did had told))
  by-told (Some on) l a b is d did had told = d.1.told did had told

  pub all-told : (ls : List Line) (a b : AtWork P D) → DidAll pools devices g blocks ls a b → (did : List Act) (had : List Noted) → HasToldAll g did had a.party
      → HasToldAll g (did ++ acts_of_work g blocks a.kept ls) (had ++ noted_of_work ls) b.party
  all-told [] a b d did had told = subst (λ (x : List Act × List Noted × PartyPlace). HasToldAll g x.0 x.1 x.2) (λ i. (sym (append-nil did) i, sym (append-nil had) i, (sym d i).party)) told
  all-told (l ∷ ls) a b d did had told =
      let next = d.0 in
      let rest = all-told ls next b d.2 (did ++ acts_with g blocks a.kept l) (had ++ l.work.noted) (by-told (on_object l.op) l a next refl d.1 did had told) in
      subst (λ (x : List Act × List Noted). HasToldAll g x.0 x.1 b.party)
      (λ i. (
        (append_assoc did (acts_with g blocks a.kept l) (acts_of_work g blocks next.kept ls) ∙ ap (λ (ks : List KeptRead). did ++ (acts_with g blocks a.kept l ++ acts_of_work g blocks ks ls)) (by-kept (on_object l.op) l a next refl d.1)) i,
        append_assoc had l.work.noted (noted_of_work ls) i,
      ))
      rest

  -- what was read of the pool
  pub by-calls : (o : Option OnObject) (l : Line) (a b : AtWork P D) → DidLineBy pools devices g blocks o l a b → MakesCalls pools (calls_of (effect_with l.work.brought l.reply)) a.outside.pool b.outside.pool
  by-calls None l a b d = subst (λ (w : Work). MakesCalls pools (calls_of (effect_with w.brought l.reply)) a.outside.pool b.outside.pool) (sym d.0) d.1.calls
  by-calls (Some on) l a b d = d.1.calls

  pub all-calls : (ls : List Line) (a b : AtWork P D) → DidAll pools devices g blocks ls a b → MakesCalls pools (calls_of_lines ls) a.outside.pool b.outside.pool
  all-calls [] a b d = ap (λ (x : AtWork P D). x.outside.pool) d
  all-calls (l ∷ ls) a b d = calls-then pools (calls_of (effect_with l.work.brought l.reply)) (calls_of_lines ls) a.outside.pool d.0.outside.pool b.outside.pool (by-calls (on_object l.op) l a d.0 d.1) (all-calls ls d.0 b d.2)

  -- what the party keeps and knows
  pub by-keeps : (o : Option OnObject) (n : ℕ) (l : Line) (a b : AtWork P D) → is_of_caller n l.op ≡ true → DidLineBy pools devices g blocks o l a b → KeepsCells g a.party b.party × (b.party.joined ≡ a.party.joined) × KeepsPool pools a.outside.pool b.outside.pool
  by-keeps None n l a b his d = (d.1.did.keeps (his-some n l.op his), d.1.did.joined (his-some n l.op his), d.1.keeps)
  by-keeps (Some on) n l a b his d = (d.1.keeps, d.1.joined, d.1.pool)

  pub all-keeps : (n : ℕ) (ls : List Line) (a b : AtWork P D) → AreHis n ls → DidAll pools devices g blocks ls a b → KeepsCells g a.party b.party × (b.party.joined ≡ a.party.joined)
  all-keeps n [] a b his d = subst (λ (x : AtWork P D). KeepsCells g a.party x.party × (x.party.joined ≡ a.party.joined)) (sym d) (keeps-none g a.party, refl)
  all-keeps n (l ∷ ls) a b his d =
      let one = by-keeps (on_object l.op) n l a d.0 his.0 d.1 in
      let rest = all-keeps n ls d.0 b his.1 d.2 in
      (keeps-then g a.party d.0.party b.party one.0 rest.0, rest.1 ∙ one.1)

  pub all-number : (ls : List Line) (a b : AtWork P D) → DidAll pools devices g blocks ls a b → b.party.number ≡ a.party.number
  all-number [] a b d = ap (λ (x : AtWork P D). x.party.number) d
  all-number (l ∷ ls) a b d = all-number ls d.0 b d.2 ∙ by-number pools devices g blocks (on_object l.op) l a d.0 d.1

  -- an answer by a cell that was found stands while more is seen of it
  still-from : (len : ℕ) (image : Option (List ℕ)) (n : ℕ) (had : List Noted) (at : Oid) (l : Line) (p q r : PartyPlace) → IsCell g (cell_of g.cells at) → KeepsCells g q r
      → AnswersFrom g len image p.own.about.openings q.own.seen n had at l → AnswersFrom g len image p.own.about.openings r.own.seen n had at l
  still-from len image n had at l p q r in_range second f =
      let i = cell_of g.cells at in
      let x = f.front in
      let y = second.fronts i in_range in
      record {
        cell = f.cell;
        sound = f.sound;
        opening = f.opening;
        mine = f.mine;
        front = (x.0 ++ y.0, y.1 ∙ (ap (λ (s : List SeenLine). s ++ y.0) x.1 ∙ append_assoc (cell_lines f.cell ++ lines_of_cell i l.work.noted) x.0 y.0));
        brought = f.brought;
        acts = f.acts;
        answer = f.answer;
        range = f.range;
      }

  module _ (valid : IsConfig g) (place : ℕ) where
    by-answer : (o : Option OnObject) (l : Line) (a b : AtWork P D) → on_object l.op ≡ o → DidLineBy pools devices g blocks o l a b → (did : List Act) (had : List Noted) → HasToldAll g did had a.party
        → AnswersLine g (pools.size a.outside.pool) (pools.told a.outside.pool) place blocks a.party.own.about.openings b.party.own.seen a.party.number had a.kept o l
    by-answer None l a b is d did had told = d.1.answer
    by-answer (Some on) l a b is d did had told = (
      pools.told a.outside.pool,
      refl,
      (subst (λ (o : Option OnObject). IfSome o (λ on. LooksFrom g (pools.size a.outside.pool) (pools.told a.outside.pool) a.party.own.about.openings a.party.own.seen b.party.own.seen a.party.number had on.at l)) is
          (d.1.answers valid did had told)).from,
    )

    pub still-answers : (len : ℕ) (image : Option (List ℕ)) (n : ℕ) (had : List Noted) (o : Option OnObject) (l : Line) (kept : List KeptRead) (p q r : PartyPlace) → KeepsCells g q r
        → AnswersLine g len image place blocks p.own.about.openings q.own.seen n had kept o l → AnswersLine g len image place blocks p.own.about.openings r.own.seen n had kept o l
    still-answers len image n had None l kept p q r keeps answer = answer
    still-answers len image n had (Some on) l kept p q r keeps answer = (answer.0, answer.1, still-from len answer.0 n had on.at l p q r (cell-there g valid on.at) keeps answer.2)

    -- each line has its answer
    pub all-answers : (n : ℕ) (ls : List Line) (a b : AtWork P D) (len : ℕ) (image : Option (List ℕ)) (openings : List (List ℕ)) → pools.size a.outside.pool ≡ len → pools.told a.outside.pool ≡ image → a.party.own.about.openings ≡ openings
        → a.party.number ≡ n → AreHis n ls → DidAll pools devices g blocks ls a b → (did : List Act) (had : List Noted) → HasToldAll g did had a.party
        → AnswersLines g len image place blocks openings b.party.own.seen n had a.kept ls
    all-answers n [] a b len image openings size told opens number his d did had told_all = tt
    all-answers n (l ∷ ls) a b len image openings size told opens number his d did had told_all =
        let next = d.0 in
        let o = on_object l.op in
        let one = by-keeps o n l a next his.0 d.1 in
        let later = (all-keeps n ls next b his.1 d.2).0 in
        let here = still-answers (pools.size a.outside.pool) (pools.told a.outside.pool) a.party.number had o l a.kept a.party next.party b.party later (by-answer o l a next refl d.1 did had told_all) in
        let rest = all-answers n ls next b len image openings (one.2.size ∙ size) (one.2.told ∙ told) (ap (λ (x : About). x.openings) one.0.about ∙ opens) (by-number pools devices g blocks o l a next d.1 ∙ number) his.1 d.2
        (did ++ acts_with g blocks a.kept l) (had ++ l.work.noted) (by-told o l a next refl d.1 did had told_all) in (
          subst (λ (x : ℕ × Option (List ℕ) × List (List ℕ) × ℕ). AnswersLine g x.0 x.1 place blocks x.2 b.party.own.seen x.3 had a.kept o l) (λ i. (size i, told i, opens i, number i)) here,
          subst (λ (ks : List KeptRead). AnswersLines g len image place blocks openings b.party.own.seen n (had ++ l.work.noted) ks ls) (by-kept o l a next refl d.1) rest,
        )

    -- and how each on an object looked at its cell
    by-looks : (o : Option OnObject) (l : Line) (a b : AtWork P D) → on_object l.op ≡ o → DidLineBy pools devices g blocks o l a b → (did : List Act) (had : List Noted) → HasToldAll g did had a.party
        → IfSome o (λ on. LooksFrom g (pools.size a.outside.pool) (pools.told a.outside.pool) a.party.own.about.openings a.party.own.seen b.party.own.seen a.party.number had on.at l)
    by-looks None l a b is d did had told = tt
    by-looks (Some on) l a b is d did had told =
        subst (λ (o : Option OnObject). IfSome o (λ on. LooksFrom g (pools.size a.outside.pool) (pools.told a.outside.pool) a.party.own.about.openings a.party.own.seen b.party.own.seen a.party.number had on.at l)) is
        (d.1.answers valid did had told)

    pub all-looks : (n : ℕ) (ls : List Line) (a b : AtWork P D) (len : ℕ) (image : Option (List ℕ)) (openings : List (List ℕ)) → pools.size a.outside.pool ≡ len → pools.told a.outside.pool ≡ image → a.party.own.about.openings ≡ openings
        → a.party.number ≡ n → AreHis n ls → DidAll pools devices g blocks ls a b → (did : List Act) (had : List Noted) → HasToldAll g did had a.party
        → LooksLines g len image openings a.party.own.seen b.party.own.seen n had ls
    all-looks n [] a b len image openings size told opens number his d did had told_all = (all-keeps n [] a b his d).0.fronts
    all-looks n (l ∷ ls) a b len image openings size told opens number his d did had told_all =
        let next = d.0 in
        let o = on_object l.op in
        let one = by-keeps o n l a next his.0 d.1 in (
          next.party.own.seen,
          one.0.fronts,
          subst (λ (x : ℕ × Option (List ℕ) × List (List ℕ) × ℕ). IfSome o (λ on. LooksFrom g x.0 x.1 x.2 a.party.own.seen next.party.own.seen x.3 had on.at l)) (λ i. (size i, told i, opens i, number i))
              (by-looks o l a next refl d.1 did had told_all),
          all-looks n ls next b len image openings (one.2.size ∙ size) (one.2.told ∙ told) (ap (λ (x : About). x.openings) one.0.about ∙ opens) (by-number pools devices g blocks o l a next d.1 ∙ number)
              his.1 d.2 (did ++ acts_with g blocks a.kept l) (had ++ l.work.noted) (by-told o l a next refl d.1 did had told_all),
        )

  -- the reads that are kept behind all of them
  pub all-kept : (ls : List Line) (a b : AtWork P D) → DidAll pools devices g blocks ls a b → b.kept ≡ kept_after_lines blocks a.kept ls
  all-kept [] a b d = ap (λ (x : AtWork P D). x.kept) d
  all-kept (l ∷ ls) a b d = all-kept ls d.0 b d.2 ∙ ap (λ (ks : List KeptRead). kept_after_lines blocks ks ls) (by-kept (on_object l.op) l a d.0 refl d.1)

  -- each line's work fits it
  plain-fits : (n : ℕ) (op : Op) (reply : Reply) (work : Work) → on_object op ≡ None → work ≡ no_work → IsWorkOf g n (record { op = op; reply = reply; work = work })
  plain-fits n (ops.Read m t x window) reply work is none = record { together = ap (λ (w : Work). w.brought) none; notes = none }
  plain-fits n (ops.Hold m t x) reply work is none = record { together = ap (λ (w : Work). w.brought) none; notes = none }
  plain-fits n (ops.Drop m x) reply work is none = record { together = ap (λ (w : Work). w.brought) none; notes = none }
  plain-fits n ops.Feed reply work is none = record { together = ap (λ (w : Work). w.brought) none; notes = none }
  plain-fits n (ops.Txg t) reply work is none = record { together = ap (λ (w : Work). w.brought) none; notes = none }
  plain-fits n (ops.Cap c) reply work is none = record { together = ap (λ (w : Work). w.brought) none; notes = none }
  plain-fits n (ops.Get m t at w) reply work is none = absurd (false≢true (sym (ap is_some is)))
  plain-fits n (ops.Put m t at size fill) reply work is none = absurd (false≢true (sym (ap is_some is)))
  plain-fits n (ops.Patch m t at from bytes) reply work is none = absurd (false≢true (sym (ap is_some is)))
  plain-fits n (ops.Pin m t at) reply work is none = absurd (false≢true (sym (ap is_some is)))
  plain-fits n (ops.Unpin m at) reply work is none = absurd (false≢true (sym (ap is_some is)))

  by-fits : (o : Option OnObject) (l : Line) (a b : AtWork P D) → on_object l.op ≡ o → DidLineBy pools devices g blocks o l a b → IsWorkOf g a.party.number l
  by-fits None l a b is d = plain-fits a.party.number l.op l.reply l.work is d.0
  by-fits (Some on) l a b is d = d.1.fits

  pub all-fits : (n : ℕ) (ls : List Line) (a b : AtWork P D) → a.party.number ≡ n → DidAll pools devices g blocks ls a b → AllByRecursion (IsWorkOf g n) ls
  all-fits n [] a b number d = tt
  all-fits n (l ∷ ls) a b number d = (
    subst (λ (m : ℕ). IsWorkOf g m l) number (by-fits (on_object l.op) l a d.0 refl d.1),
    all-fits n ls d.0 b (by-number pools devices g blocks (on_object l.op) l a d.0 d.1 ∙ number) d.2,
  )

  -- what they asked the device
  by-asked : (o : Option OnObject) (l : Line) (a b : AtWork P D) → DidLineBy pools devices g blocks o l a b → AsksFor devices (size_asked_by blocks o l) (effect_with l.work.brought l.reply) a.outside.device b.outside.device
  by-asked None l a b d = subst (λ (w : Work). AsksFor devices (size_asked blocks l.op) (effect_with w.brought l.reply) a.outside.device b.outside.device) (sym d.0) d.2
  by-asked (Some on) l a b d = d.1.asked

  pub all-asked : (ls : List Line) (a b : AtWork P D) → DidAll pools devices g blocks ls a b → AllAsked devices blocks ls a.outside.device b.outside.device
  all-asked [] a b d = ap (λ (x : AtWork P D). x.outside.device) d
  all-asked (l ∷ ls) a b d = (d.0.outside.device, by-asked (on_object l.op) l a d.0 d.1, all-asked ls d.0 b d.2)

  -- ---- what a caller's operations came to

  module _ {E : Type 0} (given : DeviceGhosts E) (valid : IsConfig g) (all : List Op) (a b : AtWork P D) where
    abbrev his_ops : List Op
    his_ops = filter (is_of_caller a.party.number) all

    came-to : (rs : List Reply) (did : DidOps pools devices g blocks his_ops rs a b) (was now : Option E) → AsksGiven given blocks did.lines was now
        → CameTo pools given g blocks his_ops rs (plainly pools devices g blocks a) (plainly pools devices g blocks b) was now
    came-to rs did was now asked =
        let his = his-lines a.party.number his_ops rs did.lines (own-lines a.party.number all) did.are in
        let keeps = all-keeps a.party.number did.lines a b his did.did in
        record {
          lines = did.lines;
          are = did.are;
          fits = all-fits a.party.number did.lines a b refl did.did;
          number = all-number did.lines a b did.did;
          joined = keeps.1;
          cells = keeps.0;
          kept = all-kept did.lines a b did.did;
          told = all-told did.lines a b did.did;
          answers = λ acts had told place. all-answers valid place a.party.number did.lines a b (pools.size a.outside.pool) (pools.told a.outside.pool) a.party.own.about.openings refl refl refl refl his did.did acts had told;
          looks = λ acts had told. all-looks valid 0 a.party.number did.lines a b (pools.size a.outside.pool) (pools.told a.outside.pool) a.party.own.about.openings refl refl refl refl his did.did acts had told;
          calls = all-calls did.lines a b did.did;
          asked = asked;
        }

    -- with what its lines did
    pub came-with : (rs : List Reply) (did : DidOps pools devices g blocks his_ops rs a b) (was now : Option E) → AsksGiven given blocks did.lines was now
        → (came : CameTo pools given g blocks his_ops rs (plainly pools devices g blocks a) (plainly pools devices g blocks b) was now) × DidAll pools devices g blocks came.lines a b
    unfolding came-to
    came-with rs did was now asked = (came-to rs did was now asked, did.did)

    -- over a device without bytes, as where none was given
    pub came-without : (r : Result (Vec Reply Global) NoMemory) → ((d : D) → devices.size d ≡ 0) → IfOk r (λ v. DidOps pools devices g blocks his_ops v.items a b)
        → IfOk r (λ v. CameTo pools given g blocks his_ops v.items (plainly pools devices g blocks a) (plainly pools devices g blocks b) None None)
    came-without (Ok v) empty did = came-to v.items did None None (none-came devices blocks did.lines a.outside.device b.outside.device (all-asked did.lines a b did.did) empty)
    came-without (Err why) empty did = tt

  -- over the device that was given
  pub came-over : (valid : IsConfig g) (all : List Op) (a b : AtWork P D) (r : Result (Vec Reply Global) NoMemory) → IfOk r (λ v. DidOps pools devices g blocks (filter (is_of_caller a.party.number) all) v.items a b)
      → IfOk r (λ v. CameTo pools devices g blocks (filter (is_of_caller a.party.number) all) v.items (plainly pools devices g blocks a) (plainly pools devices g blocks b) (Some a.outside.device) (Some b.outside.device))
  came-over valid all a b (Ok v) did = came-to devices valid all a b v.items did (Some a.outside.device) (Some b.outside.device) (all-asked did.lines a b did.did)
  came-over valid all a b (Err why) did = tt
