-- Several callers behind more lines: how those on objects looked at cells, behind the lines of a group, and behind the line that ends it.
use Rattle.std.proofs.Common.{◌≡◌, ℕ, ◌<◌, List, [], ◌∷◌, ◌++◌, Option, None, length, refl, sym, ap, ◌∙◌, subst, inl, inr, arith, append-nil}
use Rattle.std.proofs.lemmas.Bool.{cases_lt}
use mathlib.Core.Option.{some, some-injective}
use lib.ListN.{get_elem?}
use Rattle.blk_ptr.specs.declared.ptr.Ptr.{Ptr}
use Rattle.vdev_io.specs.declared.pool.Pool.{Ghosts}
use Rattle.arc_core.specs.Config.{IsConfig}
use Rattle.arc_core.specs.declared.config.Config.{Config}
use Rattle.arc_core.specs.declared.event.Event.{Event}
use Rattle.arc_core.specs.declared.served.Restored.{Restored}
use Rattle.arc_table.specs.declared.view.Line.{Line as Seen}
use Rattle.arc_table.specs.Cache.{Cache}
use Rattle.arc_table.specs.Fronts.{StartsWith, front_of}
use Rattle.arc_table.specs.Geometry.{IsCell}
use Rattle.arc_table.specs.TableLaws.{within}
use Rattle.dbuf_cells.specs.Turns.{OnHeap, PartyPlace}
use Rattle.trace_text.specs.declared.op.Op.{Op}
use Rattle.trace_text.specs.declared.reply.Reply.{Reply}
use Rattle.trace_run.specs.declared.groups.Crew.{Crew}
use Rattle.trace_run.specs.declared.ran.Ending.{Ending}
use Rattle.trace_run.specs.declared.ran.Ending.TheVariants.{Fork, Full, Sync, Whole}
use Rattle.trace_run.specs.Deeds.{HasToldAll, Noted, lines_of_cell}
use Rattle.trace_run.specs.Lines.{caller_of}
use Rattle.trace_run.specs.dbufs.Objects.{Line, Work, no_work}
use Rattle.trace_run.specs.MadeLines.{made_of}
use Rattle.trace_run.specs.RunWork.{RunWork, lines_of_caller, lines_of_feeder}
use Rattle.trace_run.specs.callers.Group.{AllWorked}
use Rattle.trace_run.specs.callers.Groups.{ComesAt, HaveCome, lines_with_stop, stopped_line}
use Rattle.trace_run.specs.callers.Looking.{EndsCell, HaveLooked}
use Rattle.trace_run.specs.callers.Together.{groups_begun, groups_done}
use Rattle.trace_run.specs.callers.WorkLines.{LooksLines, acts_of_work, noted_of_work}
use Rattle.trace_run.proofs.callers.EndedLemmas.{JoinedCell, MadeWork, all-at}
use Rattle.trace_run.proofs.callers.FoundLemmas.{look-there}
use Rattle.trace_run.proofs.callers.GroupsLemmas.{parted-at}
use Rattle.trace_run.proofs.callers.LineLists.{AreInside}
use Rattle.trace_run.proofs.callers.LookingLemmas.{Had, LooksOn, ended-looked, more-looked}
use Rattle.trace_run.proofs.callers.ToldLemmas.{told_then}

-- where a sync stopped, that stands behind all lines
pub stop-behind : (ending : Ending) (work : RunWork) → groups_done ending [] ≡ groups_begun [] → lines_with_stop ending work ≡ work.lines ++ stopped_line work ∷ []
stop-behind Whole work begun = let few : 0 ≡ 1 = ap length begun in absurd (omega (arith, few))
stop-behind Fork work begun = let few : 0 ≡ 1 = ap length begun in absurd (omega (arith, few))
stop-behind Sync work begun = refl
stop-behind (Full need left) work begun = refl

module _ {P : Type 0} (pools : Ghosts P) (cache : Cache) (restored : List Restored) (len : ℕ) (image : Option (List ℕ)) (place : ℕ) (blocks : List Ptr) (os : List Op) (rs : List Reply) (w : RunWork) (old new : Crew OnHeap)
    (before : HaveCome cache restored len image place blocks os rs w old) (told : (k : ℕ) → Option (List ℕ)) (looked : HaveLooked cache.config len told w.lines old.parties.items) where
  abbrev g : Config
  g = cache.config

  abbrev valid : IsConfig g
  valid = before.feeder.stands.valid

  -- ---- the lines of a group

  module _ (ms : List Line) (own : AreInside ms) (from : P) (worked : AllWorked cache pools blocks g.callers from (λ n. lines_of_caller n ms) old.kept.items old.parties.items new.kept.items new.parties.items) (size : pools.size from ≡ len)
      (now : Option (List ℕ)) (told_now : pools.told from ≡ now) where
    abbrev OnEach : (n : ℕ) → Type 0
    OnEach n = (more : (k : ℕ) → List Seen) × ((q : PartyPlace) → get_elem? new.parties.items n ≡ some q → LooksOn g valid len told now w.lines ms old.parties.items more n q)

    on-each : (n : ℕ) → n < g.callers → OnEach n
    on-each n below =
        let c : ComesAt cache len image place blocks n (lines_of_caller n w.lines) old = before.each n below in
        let h = worked.each n below in
        let before_it : c.party ≡ h.from = some-injective c.party h.from (sym c.at.party_at ∙ h.before.party_at) in
        let acts = acts_of_work g blocks [] (lines_of_caller n w.lines) in
        let noted = noted_of_work (lines_of_caller n w.lines) in
        let has_told : HasToldAll g acts noted h.from = subst (HasToldAll g acts noted) before_it c.come.waits.told in
        let looks : LooksLines g len now h.from.own.about.openings h.from.own.seen h.to.own.seen n noted (lines_of_caller n ms) =
        subst (λ (x : ℕ × Option (List ℕ)). LooksLines g x.0 x.1 h.from.own.about.openings h.from.own.seen h.to.own.seen n noted (lines_of_caller n ms)) (λ i. ((worked.size n below ∙ size) i, (worked.told n below ∙ told_now) i))
        (h.worked.looks acts noted has_told) in
        let all = look-there g valid len now h.from.own.about.openings n h.from.own.seen h.to.own.seen noted ms looks in (
          all.found,
          λ q party.
              let behind : h.to ≡ q = some-injective h.to q (sym h.after.party_at ∙ party) in
              subst (LooksOn g valid len told now w.lines ms old.parties.items all.found n) behind record { from = h.from; at = h.before.party_at; keeps = h.worked.cells; looks = all.each },
        )

    on-any : (n : ℕ) → OnEach n
    on-any n = elim (cases_lt n g.callers) [
      | inl below ↦ on-each n below
      | inr none ↦ (λ k. [], λ q party. let inside : n < g.callers = subst (λ (k : ℕ). n < k) worked.parties (within new.parties.items n q party) in absurd (omega (arith, none, inside)))
    ]

    pub lines-looked : HaveLooked g len (told_then told (length w.lines) now) (w.lines ++ ms) new.parties.items
    lines-looked = more-looked g valid len told now w.lines ms old.parties.items new.parties.items own on-any looked

  -- ---- what the feeder did behind them, for the line that ends their group

  module _ (l : Line) (nobody : caller_of l.op ≡ None) (more : (shard : ℕ) → List Event) (made : MadeWork cache l.work more old new) (parties : length new.parties.items ≡ g.callers) (goes_on : w.stopped ≡ no_work) where
    had : (n : ℕ) (q : PartyPlace) → get_elem? new.parties.items n ≡ some q → Had g valid len told old.parties.items n q
    had n q party =
        let b = before.each n (subst (λ (k : ℕ). n < k) parties (within new.parties.items n q party)) in
        let x = parted-at cache made.lines n old.parties.items new.parties.items b.party made.parted b.at.party_at in
        subst (Had g valid len told old.parties.items n) (some-injective x.0 q (sym x.1 ∙ party)) (b.party, b.at.party_at, (x.2.same b.reads b.come.waits.stands).keeps)

    level : (n : ℕ) (q : PartyPlace) → get_elem? new.parties.items n ≡ some q → (i : ℕ) → IsCell g i → front_of i q.own.seen ≡ front_of i new.feeder.own.seen
    level n q party i in_range =
        let all = made.met i in_range in
        all-at (λ x. front_of i x.own.seen ≡ all.0) new.parties.items n q all.2.1 party ∙ sym all.2.0

    -- what all had seen of a cell as they joined
    at-join : (i : ℕ) → (all : List Seen) × (IsCell g i → JoinedCell g i l.work old new all)
    at-join i = elim (cases_lt i g.cells) [
      | inl inside ↦ let c = made.joined i inside in (c.0, λ in_range. c.1)
      | inr out ↦ ([], λ in_range. absurd (let i_in : i < g.cells = in_range in omega (arith, out, i_in)))
    ]

    -- what the feeder had made of each cell is what its lines noted
    feeder-made : (i : ℕ) → IsCell g i → made_of i old.feeder ≡ lines_of_cell i (noted_of_work (lines_of_feeder w.lines))
    feeder-made i in_range =
        let noted : List Noted = noted_of_work (lines_of_feeder w.lines) in
        before.feeder.told.entries i in_range ∙ ap (lines_of_cell i) (ap (λ (x : Work). noted ++ x.noted) goes_on ∙ append-nil noted)

    ended : (i : ℕ) → IsCell g i → EndsCell g w.lines l.work i (at-join i).0 (front_of i new.feeder.own.seen)
    ended i in_range =
        let c = (at-join i).1 in_range in
        record {
          is = c.level;
          fed = elim c.fed [
            | inl none ↦ inl none
            | inr took ↦ inr (took.0, took.1, took.2 (noted_of_work (lines_of_feeder w.lines)) feeder-made)
          ];
        }

    pub answered-looked : HaveLooked g len told (w.lines ++ l ∷ []) new.parties.items
    answered-looked =
        ended-looked g valid len told w.lines l old.parties.items new.parties.items new.feeder nobody had level (λ i. (at-join i).0)
        (λ n p party i in_range. all-at (λ o. StartsWith (at-join i).0 (front_of i o.own.seen)) old.parties.items n p ((at-join i).1 in_range).olds party) ended looked
