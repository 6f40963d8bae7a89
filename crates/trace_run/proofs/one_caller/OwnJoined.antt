-- The one caller does its lines while the feeder's party has joined its own: what both are then, and where the lines led.
use Rattle.std.proofs.Common.{◌≡◌, ◌≢◌, ℕ, ◌<◌, List, [], ◌∷◌, map, Option, Some, None, refl, sym, ap, ◌∙◌, subst, inl, inr, arith}
use Rattle.std.specs.Prelude.{IfSome, filter}
use Rattle.std.specs.List.{AllByRecursion}
use Rattle.std.proofs.lemmas.Bool.{cases_lt}
use Rattle.blk_ptr.specs.Hash.{shard_of}
use Rattle.blk_ptr.specs.declared.ptr.Ptr.{Ptr}
use Rattle.vdev_io.specs.declared.device.CacheDev.{Ghosts as Devices}
use Rattle.vdev_io.specs.declared.pool.Pool.{Ghosts}
use Rattle.arc_core.specs.Config.{IsConfig}
use Rattle.arc_core.specs.declared.config.Config.{Config}
use Rattle.arc_core.specs.Operations.{Act, Tell, acts_in, moments, own_moments}
use Rattle.turn_table.specs.declared.standing.Kept.{Kept}
use Rattle.turn_table.specs.Places.{IsLast, SomeHas, parted, rest_of, stayed}
use Rattle.arc_table.specs.declared.about.About.{About}
use Rattle.arc_table.specs.declared.view.Known.{Known}
use Rattle.arc_table.specs.declared.view.Line.{Line as SeenLine}
use Rattle.arc_table.specs.Cache.{Cache, IsPartyOf}
use Rattle.arc_table.specs.Fronts.{front_of}
use Rattle.arc_table.specs.Geometry.{parties_of}
use Rattle.arc_table.specs.Seen.{HasAll, events_in, seen_of, turn_of}
use Rattle.arc_table.specs.Telling.{opening_of}
use Rattle.arc_table.specs.Views.{after_learned}
use Rattle.dbuf_cells.specs.Places.{cell_of}
use Rattle.dbuf_cells.specs.Turns.{OnHeap, PartyPlace, dbuf_meanings}
use Rattle.trace_text.specs.declared.op.Op.{Op}
use Rattle.trace_text.specs.declared.reply.Reply.{Reply}
use Rattle.trace_text.specs.declared.trace.Trace.{Trace}
use Rattle.trace_run.specs.declared.groups.Crew.{Crew}
use Rattle.trace_run.specs.declared.kept_blocks.KeptBlock.{KeptBlock}
use Rattle.trace_run.specs.Deeds.{CellsGrow, HasToldAll, KeepsCells, Noted}
use Rattle.trace_run.specs.Feeds.{IsIdleFeeder}
use Rattle.trace_run.specs.KeptBlocks.{Stands, read_of}
use Rattle.trace_run.specs.Lines.{is_of_caller}
use Rattle.trace_run.specs.Meeting.{HasParted, IsApart, IsLevel, JoinAll, Joins, SeesEntries}
use Rattle.trace_run.specs.dbufs.ObjectLines.{OnObject, cell_lines, on_object}
use Rattle.trace_run.specs.dbufs.ObjectReplies.{LooksFrom}
use Rattle.trace_run.specs.dbufs.Objects.{Line}
use Rattle.trace_run.specs.Openings.{AllKnow, openings_of}
use Rattle.trace_run.specs.Syncing.{lines_of}
use Rattle.trace_run.specs.callers.CallerLines.{at}
use Rattle.trace_run.specs.callers.Callers.{IsAtStart}
use Rattle.trace_run.specs.callers.Together.{BetweenGroups, between_groups}
use Rattle.trace_run.specs.callers.WorkLines.{AnswersLines, AreLinesOf, IsWorkOf, LooksLines}
use Rattle.trace_run.specs.one_caller.InTurn.{AreOwn, DidOwnLines, GoInSequence, IsOfTrace, StandAt}
use Rattle.trace_run.specs.one_caller.LinesGone.{CameAlone, Gone, IsThere}
use Rattle.trace_run.specs.one_caller.Sequence.{BetweenLines}
use Rattle.trace_run.proofs.callers.MeetLemmas.{HaveJoined, joined_of, left_alone, parted-front, parted-then, parted_from, starts-then}
use Rattle.trace_run.proofs.callers.TurnLemmas.{joined, joined-all, joined-stands, left-stands}
use Rattle.trace_run.proofs.deeds.DeedLemmas.{told-still}
use Rattle.trace_run.proofs.deeds.MakesLemmas.{grown-same, keeps-then, later-same}
use Rattle.trace_run.proofs.deeds.OperatesDone.{cell-there}
use Rattle.trace_run.proofs.one_caller.OwnLines.{own-whole}

-- ---- lines looked at cells that go on from what was seen earlier

module _ (g : Config) (valid : IsConfig g) (len : ℕ) (image : Option (List ℕ)) (openings : List (List ℕ)) (s t : List (List SeenLine)) (grow : CellsGrow g s t) (n : ℕ) (had : List Noted) where
  then-grow : (u : List (List SeenLine)) → CellsGrow g t u → CellsGrow g s u
  then-grow u more i in_range = starts-then (front_of i u) (front_of i t) (front_of i s) (more i in_range) (grow i in_range)

  look-since : (u : List (List SeenLine)) (o : Option OnObject) (l : Line) → IfSome o (λ on. LooksFrom g len image openings t u n had on.at l) → IfSome o (λ on. LooksFrom g len image openings s u n had on.at l)
  look-since u None l looks = tt
  look-since u (Some on) l looks = record {
    from = looks.from;
    since = starts-then (cell_lines looks.from.cell) (front_of (cell_of g.cells on.at) t) (front_of (cell_of g.cells on.at) s) looks.since (grow (cell_of g.cells on.at) (cell-there g valid on.at));
  }

  looks-since : (u : List (List SeenLine)) (ls : List Line) → LooksLines g len image openings t u n had ls → LooksLines g len image openings s u n had ls
  looks-since u [] looks = then-grow u looks
  looks-since u (l ∷ ls) looks = (looks.0, then-grow looks.0 looks.1, look-since looks.0 (on_object l.op) l looks.2, looks.3)

-- ---- the feeder joins the caller

module _ (cache : Cache) (one : cache.config.callers ≡ 1) (rows : cache.row.parties ≡ parties_of cache.config) (blocks : List Ptr) (had : List KeptBlock) (p o : PartyPlace) (start : IsAtStart cache blocks 0 had p) (idle : IsIdleFeeder cache o) where
  abbrev g : Config
  g = cache.config

  p-number : p.number ≡ 0
  p-number = start.number

  o-number : o.number ≡ 1
  o-number = idle.number ∙ one

  pub meet-row : IsPartyOf cache p × IsPartyOf cache o
  meet-row = (start.stands.of, idle.stands.of)

  pub meet-free : (p.held ≡ []) × (o.held ≡ [])
  meet-free = (start.stands.free, idle.stands.free)

  apart : AllByRecursion (IsApart cache) (o ∷ [])
  apart = (([], idle.stands, idle.alone), tt)

  -- there are just two numbers
  everyone : (n : ℕ) → n < parties_of g → SomeHas n (p ∷ o ∷ [])
  everyone n below = elim (cases_lt n 1) [
    | inl low ↦ inl (inl (p-number ∙ omega (arith, low)))
    | inr high ↦ inr (inl (inl (o-number ∙ omega (arith, high, below, one))))
  ]

  count : p.parties ≡ parties_of g
  count = start.stands.of.row.1 ∙ rows

  differ : AllByRecursion (λ x. x.number ≢ p.number) (o ∷ [])
  differ = ((λ is. absurd (omega (arith, is, p-number, o-number))), tt)

  module _ (q : PartyPlace) (joins : Joins dbuf_meanings o p q) where
    all-joins : JoinAll dbuf_meanings (o ∷ []) p q
    all-joins = (p, refl, joins)

    have : HaveJoined dbuf_meanings cache p (o ∷ []) q
    have = joined dbuf_meanings cache p had (o ∷ []) start.stands start.alone apart everyone count differ q all-joins

    pub met-stands : Stands cache q had
    met-stands = joined-stands dbuf_meanings cache p had (o ∷ []) start.stands start.alone apart everyone count differ q all-joins

    met-all : HasAll q
    met-all = joined-all dbuf_meanings cache p had (o ∷ []) start.stands start.alone apart everyone count differ q all-joins

    met-number : q.number ≡ 0
    met-number = have.number ∙ p-number

    met-keeps : KeepsCells g p q
    met-keeps = record { about = have.about; fronts = have.self.cells; shards = have.self.starts; older = later-same g p q have.mine }

    met-told : (acts : List Act) (noted : List Noted) → HasToldAll g acts noted p → HasToldAll g acts noted q
    met-told acts noted told = told-still g acts noted p q
        (λ shard. subst (λ (n : ℕ). Tell (acts_in (shard_of g.shards) shard n acts) (own_moments n (moments (opening_of g) (seen_of g shard q)))) (sym have.number)
        (subst (Tell (acts_in (shard_of g.shards) shard p.number acts)) (sym (have.self.own shard)) (told.acts shard)))
        (grown-same g p q have.number have.about have.mine have.self.starts have.self.cells start.stands.seen start.stands.cells) told

    -- ---- behind the lines the feeder parts

    module _ {P D : Type 0} (pools : Ghosts P) (devices : Devices D) (os : List Op) (rs : List Reply) (before after : P) (was now : Option D) (own : AreOwn os) (l : List KeptBlock) (r : PartyPlace) (stands : Stands cache r l)
        (gone : CameAlone pools devices g blocks (filter (is_of_caller q.number) os) rs (at q (map read_of had) before) (at r (map read_of l) after) was now) where
      abbrev lines : List Line
      lines = gone.came.lines

      kept-joined : r.joined ≡ joined_of (o ∷ [])
      kept-joined = gone.came.joined ∙ have.joined

      pub part-last : IsLast 1 r.joined
      part-last = subst (IsLast 1) (sym kept-joined) o-number

      abbrev seen : ℕ → List SeenLine
      seen shard = front_of (turn_of g shard) r.own.seen

      other : o.number ≢ q.number
      other is = absurd (omega (arith, is, o-number, met-number))

      low : o.number < parties_of g
      low = omega (arith, o-number, one)

      feeder-parted : HasParted cache seen o (parted_from r o)
      feeder-parted = parted-then cache q r o have.all.0 stands.of gone.came.cells.shards gone.came.cells.fronts (gone.others met-all o.number other low)

      last-stands : Stands cache (left_alone r) l
      last-stands = left-stands cache l r stands

      last-number : r.number ≡ 0
      last-number = gone.came.number ∙ met-number

      keeps : KeepsCells g p r
      keeps = keeps-then g p q r met-keeps gone.came.cells

      -- where all stood there, the party that both met in did so too
      met-there : (old : Crew OnHeap) → old.feeder ≡ o → old.parties.items ≡ p ∷ [] → old.kept.items ≡ had ∷ [] → (s : BetweenLines P D) → StandAt g s old → s.outside.pool ≡ before → s.device ≡ was → IsThere g s q (map read_of had) before was
      met-there old feeder parties kept s stand pool device =
          let level : AllByRecursion (IsLevel g stand.lines) (o ∷ p ∷ []) = subst (AllByRecursion (IsLevel g stand.lines)) (λ i. feeder i ∷ parties i) stand.level in
          let entries : AllByRecursion (SeesEntries g (λ i. lines_of (s.cells i))) (o ∷ p ∷ []) = subst (AllByRecursion (SeesEntries g (λ i. lines_of (s.cells i)))) (λ i. feeder i ∷ parties i) stand.entries in
          record {
            shards = λ shard. ap events_in (have.level stand.lines level.1.0 (level.0, tt) shard) ∙ stand.events shard;
            cells = have.level_cells (λ i. lines_of (s.cells i)) entries.1.0 (entries.0, tt);
            kept = sym (subst (AllByRecursion (λ (reads : List KeptBlock). map read_of reads ≡ s.kept)) kept stand.kept).0;
            pool = pool;
            device = device;
          }

      -- and behind the lines all stand where these led
      last-stand : (new : Crew OnHeap) → new.feeder ≡ parted_from r o → new.parties.items ≡ left_alone r ∷ [] → new.kept.items ≡ l ∷ [] → (s : BetweenLines P D) → IsThere g s r (map read_of l) after now → StandAt g s new
      last-stand new feeder parties kept s there = record {
        lines = seen;
        events = there.shards;
        level = subst (AllByRecursion (IsLevel g seen)) (sym (λ i. feeder i ∷ parties i)) (feeder-parted.level, ((λ shard. refl), tt));
        entries = subst (AllByRecursion (SeesEntries g (λ i. lines_of (s.cells i)))) (sym (λ i. feeder i ∷ parties i)) (
          (λ i in_range.
              parted-front i o.own.seen r.own.seen (starts-then (front_of i r.own.seen) (front_of i q.own.seen) (front_of i o.own.seen) (gone.came.cells.fronts i in_range) (have.all.0.cells i in_range)) ∙ there.cells i in_range),
          (there.cells, tt),
        );
        kept = subst (AllByRecursion (λ (reads : List KeptBlock). map read_of reads ≡ s.kept)) (sym kept) (sym there.kept, tt);
      }

      own-goes : (old new : Crew OnHeap) → old.feeder ≡ o → old.parties.items ≡ p ∷ [] → old.kept.items ≡ had ∷ [] → new.feeder ≡ parted_from r o → new.parties.items ≡ left_alone r ∷ [] → new.kept.items ≡ l ∷ []
          → (trace : Trace) → IsOfTrace cache trace old → blocks ≡ trace.blocks → (group next : ℕ)
          → GoInSequence pools devices trace lines [] (between_groups before group next) (between_groups after group next) was now old new
      own-goes old new old_feeder old_parties old_kept new_feeder new_parties new_kept trace of declared group next = λ s pool device stand.
          let knows : AllKnow (openings_of trace) (o ∷ p ∷ []) = subst (AllKnow (openings_of trace)) (λ i. old_feeder i ∷ old_parties i) of.knows in
          let h : Gone pools devices trace g lines s r (map read_of l) after now =
          gone.gone met-all met-number trace of.config declared (ap (λ (a : About). a.openings) have.about ∙ knows.1.0) s
          (met-there old old_feeder old_parties old_kept s (subst (λ (c : Config). StandAt c s old) (sym of.config) stand) (ap (λ (b : BetweenGroups P). b.pool) pool) device) in (
            h.next,
            (λ i. record { pool = h.there.pool i; group = (h.group ∙ ap (λ (b : BetweenGroups P). b.group) pool) i; next = (h.next_group ∙ ap (λ (b : BetweenGroups P). b.next) pool) i }),
            h.there.device,
            subst (λ (c : Config). StandAt c h.next new) of.config (last-stand new new_feeder new_parties new_kept h.next h.there),
            h.lines,
          )

      own-came : (old new : Crew OnHeap) → old.feeder ≡ o → old.parties.items ≡ p ∷ [] → old.kept.items ≡ had ∷ [] → new.feeder ≡ parted_from r o → new.parties.items ≡ left_alone r ∷ [] → new.kept.items ≡ l ∷ []
          → DidOwnLines cache pools devices blocks os before after was now old new rs
      own-came old new old_feeder old_parties old_kept new_feeder new_parties new_kept = record {
        lines = lines;
        are = subst (λ (x : List Op). AreLinesOf x rs lines) (ap (λ (n : ℕ). filter (is_of_caller n) os) met-number ∙ own-whole os own) gone.came.are;
        had = had;
        from = p;
        kept = l;
        to = left_alone r;
        old_is = (old_kept, old_parties);
        new_is = (new_kept, new_parties);
        worked = record {
          fits = subst (λ (m : ℕ). AllByRecursion (IsWorkOf g m) lines) met-number gone.came.fits;
          waits = λ acts noted waits.
              let told = gone.came.told acts noted (met-told acts noted waits.told) in
              record { number = last-number; alone = refl; stands = last-stands; told = record { acts = told.acts; cells = told.cells; kinds = told.kinds; entries = told.entries } };
          keeps = gone.came.kept;
          cells = record { about = keeps.about; fronts = keeps.fronts; shards = keeps.shards; older = keeps.older };
          answers = λ acts noted told place.
              subst (λ (x : List (List ℕ) × ℕ). AnswersLines g (pools.size before) (pools.told before) place blocks x.0 r.own.seen x.1 noted (map read_of had) lines) (λ i. ((have.about i).openings, met-number i))
              (gone.came.answers acts noted (met-told acts noted told) place);
          looks = λ acts noted told.
              subst (λ (x : List (List ℕ) × ℕ). LooksLines g (pools.size before) (pools.told before) x.0 p.own.seen r.own.seen x.1 noted lines) (λ i. ((have.about i).openings, met-number i))
              (looks-since g stands.valid (pools.size before) (pools.told before) q.own.about.openings p.own.seen q.own.seen have.self.cells q.number noted r.own.seen lines (gone.came.looks acts noted (met-told acts noted told)));
          calls = gone.came.calls;
        };
        asked = gone.came.asked;
        seen = seen;
        parted = subst (λ (x : PartyPlace × PartyPlace). HasParted cache seen x.0 x.1) (λ i. (sym old_feeder i, sym new_feeder i)) feeder-parted;
        level = λ shard. refl;
        sequence = own-goes old new old_feeder old_parties old_kept new_feeder new_parties new_kept;
      }

      -- so it is with what parting gave
      pub own-did : (old new : Crew OnHeap) → old.feeder ≡ o → old.parties.items ≡ p ∷ [] → old.kept.items ≡ had ∷ [] → (z : PartyPlace) → z ≡ stayed r → new.feeder ≡ parted (λ w. after_learned w r.own) r r.joined → new.parties.items ≡ z ∷ [] → new.kept.items ≡ l ∷ []
          → DidOwnLines cache pools devices blocks os before after was now old new rs
      own-did old new old_feeder old_parties old_kept z stays new_feeder new_parties new_kept =
          own-came old new old_feeder old_parties old_kept (new_feeder ∙ ap (λ (ks : List (Kept (Known OnHeap))). parted (λ w. after_learned w r.own) r ks) kept-joined)
          (new_parties ∙ ap (λ (x : PartyPlace). x ∷ []) (stays ∙ (λ i. record { table = r.table; parties = r.parties; number = r.number; own = r.own; joined = rest_of (kept-joined i); held = r.held }))) new_kept
