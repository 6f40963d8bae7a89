-- What the feeder's party is behind a feed: it stands as it did, keeps nothing, and has seen more.
use Rattle.std.proofs.Common.{◌≡◌, ◌≢◌, ◌-◌, ℕ, zero, suc, false, List, [], ◌∷◌, ◌++◌, length, refl, sym, ap, ◌∙◌, subst, inl, inr, arith, length-append}
use mathlib.Core.Option.{some, some-injective, some-ne-none}
use lib.ListN.{get_elem?}
use Rattle.blk_ptr.specs.declared.key.Key.{Key}
use Rattle.blk_ptr.specs.declared.ptr.Ptr.{Ptr}
use Rattle.blk_ptr.specs.Hash.{shard_of}
use Rattle.arc_core.specs.declared.config.Config.{Config}
use Rattle.arc_core.specs.declared.event.Event.{Event}
use Rattle.arc_core.specs.declared.event.Event.TheVariants as event
use Rattle.arc_core.specs.Operations.{is_pass, number_of}
use Rattle.arc_core.specs.PlainShard.{PlainShard}
use Rattle.arc_core.specs.Step.{after}
use Rattle.turn_table.specs.Board.{IsAmong}
use Rattle.turn_table.specs.declared.standing.Kept.{Kept}
use Rattle.turn_table.specs.Moments.{WasFree}
use Rattle.turn_table.specs.Places.{Apart, Place, saw}
use Rattle.arc_table.specs.declared.about.About.{About}
use Rattle.arc_table.specs.declared.item.Item.TheVariants as item
use Rattle.arc_table.specs.declared.view.Known.{Known}
use Rattle.arc_table.specs.declared.view.Ledger.{Ledger}
use Rattle.arc_table.specs.declared.view.Mine.{Mine}
use Rattle.arc_table.specs.Both.{Does}
use Rattle.arc_table.specs.Cache.{Cache}
use Rattle.arc_table.specs.feeder.Picking.{ArePicks, Feeds, nth_shard_turn}
use Rattle.arc_table.specs.Fronts.{StartsWith, front_of, list_at}
use Rattle.arc_table.specs.Geometry.{IsBucket, IsCell, parties_of}
use Rattle.arc_table.specs.Items.{Meanings}
use Rattle.arc_table.specs.pact.Rule.{Pact}
use Rattle.arc_table.specs.Seen.{AreOwn, IsNumberOrCell, MadeBy, turn_of}
use Rattle.arc_table.specs.ShardGiving.{holds_through, mines_of, passes_in, readings_through}
use Rattle.arc_table.specs.TableLaws.{starts_whole}
use Rattle.arc_table.proofs.Afterwards.{does_ledger, stays_party}
use Rattle.arc_table.proofs.feeder.FeedEnds.{feeds_stays}
use Rattle.arc_table.proofs.feeder.FeedMade.{feeds_made, picks_made}
use Rattle.arc_table.proofs.HandHeads.{config_then}
use Rattle.arc_table.proofs.OwnLemmas.{get-either, grows, made-sees}
use Rattle.arc_table.proofs.PassMines.{mines_of_are}
use Rattle.arc_table.proofs.reads.ReadMoments.{own-none, own-single}
use Rattle.arc_table.proofs.Reached.{SameButNotes, loses_same, took_is}
use Rattle.arc_table.proofs.TableLaws.{front_else}
use Rattle.l2_feed.specs.Acts.{Act, Absent, Cleared, DoesAct, DoesActs, Left, Picked, Placed, Refused, Unpicked}
use Rattle.l2_feed.specs.Ready.{IsFeederReady}
use Rattle.trace_run.specs.Deeds.{SameMade}
use Rattle.trace_run.specs.Feeds.{IsSettledFeeder}
use Rattle.trace_run.specs.KeptBlocks.{AllQuiet, Stands, times}
use Rattle.trace_run.specs.Making.{HasSeenItsEvents}
use Rattle.trace_run.proofs.CellsLeft.{LeavesCells, does-leaves, leaves-same, leaves-seen, leaves-then}
use Rattle.trace_run.proofs.deeds.MakesLemmas.{does-long, makes-more, numbers-of, own-same, same-none, same-then}
use Rattle.trace_run.proofs.MoveLemmas.{does-made-own, own-wider}
use Rattle.trace_run.proofs.callers.MeetLemmas.{starts-then}

-- ---- picks

module _ (g : Config) (n turn : ℕ) where
  -- they change no hold and no reading
  picks-hold : (s : PlainShard) (picks : List Event) (hs : List Ptr) → ArePicks g n turn picks → holds_through n s (picks ++ event.FeedEnd n ∷ []) hs ≡ hs
  picks-hold s [] hs are = refl
  picks-hold s (event.Pass a k owner ∷ es) hs are = picks-hold (after s (event.Pass a k owner)) es hs are.1
  picks-hold s (event.Pick a k ∷ es) hs are = picks-hold (after s (event.Pick a k)) es hs are.1
  picks-hold s (_ ∷ es) hs are = absurd are

  picks-read : (picks : List Event) (ks : List Key) → ArePicks g n turn picks → readings_through n (picks ++ event.FeedEnd n ∷ []) ks ≡ ks
  picks-read [] ks are = refl
  picks-read (event.Pass a k owner ∷ es) ks are = picks-read es ks are.1
  picks-read (event.Pick a k ∷ es) ks are = picks-read es ks are.1
  picks-read (_ ∷ es) ks are = absurd are

  pick-first : (e : Event) (es : List Event) → ArePicks g n turn (e ∷ es) → (number_of e ≡ n) × ArePicks g n turn es
  pick-first (event.Pass a k owner) es are = (are.0.0, are.1)
  pick-first (event.Pick a k) es are = (are.0.0, are.1)
  pick-first _ es are = absurd are

  -- each has its number
  picks-number : (picks : List Event) → ArePicks g n turn picks → (z : ℕ) (x : Event) → get_elem? (picks ++ event.FeedEnd n ∷ []) z ≡ some x → number_of x ≡ n
  picks-number [] are zero x at = ap number_of (sym (some-injective (event.FeedEnd n) x at))
  picks-number [] are (suc z) x at = absurd (some-ne-none x (sym at))
  picks-number (e ∷ es) are zero x at = ap number_of (sym (some-injective e x at)) ∙ (pick-first e es are).0
  picks-number (e ∷ es) are (suc z) x at = picks-number es (pick-first e es are).1 z x at

module _ {C : Type 0} (m : Meanings C) (cache : Cache) where
  abbrev g : Config
  g = cache.config

  -- the party stands still, has seen what it had and maybe more, and made nothing more with other numbers than its own
  pub record StandsStill (p q : Place (Known C)) : Type 0 where
    pub stands : Stands cache q []
    pub left : LeavesCells g p q
    pub same : SameMade g p q
    pub starts : (i : ℕ) → StartsWith (front_of (turn_of g i) q.own.seen) (front_of (turn_of g i) p.own.seen)

  pub still-same : (p q : Place (Known C)) → Stands cache p [] → q ≡ p → StandsStill p q
  still-same p q stands is = subst (StandsStill p) (sym is) (record {
    stands = stands;
    left = leaves-same g p p refl;
    same = same-none g p;
    starts = λ i. starts_whole (front_of (turn_of g i) p.own.seen);
  })

  pub still-then : (p q r : Place (Known C)) → StandsStill p q → StandsStill q r → StandsStill p r
  still-then p q r a b = record {
    stands = b.stands;
    left = leaves-then g p q r a.left b.left;
    same = same-then g p q r a.same b.same;
    starts = λ i. starts-then (front_of (turn_of g i) r.own.seen) (front_of (turn_of g i) q.own.seen) (front_of (turn_of g i) p.own.seen) (b.starts i) (a.starts i);
  }

  -- a party that lists the holds, readings and claims that it did, and leaves the cells
  stands-as : (p q : Place (Known C)) → Stands cache p [] → LeavesCells g p q → q.own.ledger.holds ≡ p.own.ledger.holds → q.own.ledger.readings ≡ p.own.ledger.readings → q.own.ledger.claims ≡ p.own.ledger.claims
      → HasSeenItsEvents g q → Stands cache q []
  stands-as p q stands left holds readings claims seen = record {
    valid = stands.valid;
    of = stays_party cache p q left.stays stands.of;
    free = left.stays.held ∙ stands.free;
    cells = leaves-seen g p q left stands.cells;
    idle = readings ∙ stands.idle;
    unclaimed = λ i. ap (list_at i) claims ∙ stands.unclaimed i;
    seen = seen;
    apart = subst (λ (x : ℕ × List (Kept (Known C))). Apart x.0 x.1) (λ i. (sym left.stays.number i, sym left.stays.joined i)) stands.apart;
    joined = subst AllQuiet (sym left.stays.joined) stands.joined;
    owned = tt;
    listed = λ x. ap (times x) holds ∙ stands.listed x;
  }

  -- ---- calls on one key

  module _ (k : Key) (p q : Place (Known C)) (stands : Stands cache p []) where
    does-still : (es : List Event) (own : AreOwn (parties_of g) p.number es) (d : Does m g k es p q) → holds_through p.number d.before.now es p.own.ledger.holds ≡ p.own.ledger.holds
        → readings_through p.number es p.own.ledger.readings ≡ p.own.ledger.readings → StandsStill p q
    does-still es own d holds readings =
        let made = does-made-own m g stands.valid k p q stands.of.config stands.seen es own d in
        let ledger = does_ledger m g stands.valid k es p q stands.of.config d in
        let left = does-leaves m g stands.valid k es p q stands.of.config d in
        record {
          stands = stands-as p q stands left
              (ap (λ (l : Ledger). l.holds) ledger ∙ holds)
              (ap (λ (l : Ledger). l.readings) ledger ∙ readings)
              (ap (λ (l : Ledger). l.claims) ledger)
              (made-sees g (shard_of g.shards k) d.before es p q made stands.seen);
          left = left;
          same = own-same g (shard_of g.shards k) es p q made.same.number (numbers-of (parties_of g) p.number es own)
              (makes-more g (shard_of g.shards k) d.before es p q made (does-long m g stands.valid k p q stands.of.config es d made) stands.seen.own left.fronts) left;
          starts = grows g (shard_of g.shards k) d.before es p q made;
        }

    none-still : Does m g k [] p q → StandsStill p q
    none-still d = does-still [] (own-none p.number) d refl refl

    event-still : (e : Event) → number_of e ≡ p.number → is_pass e ≡ false → (d : Does m g k (e ∷ []) p q) → holds_through p.number d.before.now (e ∷ []) p.own.ledger.holds ≡ p.own.ledger.holds
        → readings_through p.number (e ∷ []) p.own.ledger.readings ≡ p.own.ledger.readings → StandsStill p q
    event-still e number pass d holds readings = does-still (e ∷ []) (own-single p.number e number pass) d holds readings

  -- ---- picks of a shard

  module _ (shard : ℕ) (p q : Place (Known C)) (stands : Stands cache p []) (es : List Event) (f : Feeds m g (nth_shard_turn g shard) es p q) where
    abbrev turn : ℕ
    turn = nth_shard_turn g shard

    abbrev tried : ℕ
    tried = f.tried.own.number

    same-ledger : f.tried.own.ledger ≡ p.own.ledger
    same-ledger = f.tries.ledger ∙ (took_is m turn (item.Shard f.before) p f.reached f.takes).ledger

    abbrev at_try : Place (Known C)
    at_try = saw p f.takes.knew

    free : WasFree (Pact m) at_try turn (item.Shard f.before)
    free = f.takes.free

    knew : SameButNotes p.own f.takes.knew
    knew = loses_same m turn f.takes.owners p at_try f.takes.lost

    tried-number : tried ≡ p.number
    tried-number = f.tries.own_number ∙ ((took_is m turn (item.Shard f.before) p f.reached f.takes).own_number ∙ (sym knew.number ∙ (free.held.attached.views at_try.number at_try.own free.stands.shows.0).number))

    parties : p.parties ≡ parties_of g
    parties = sym free.stands.count ∙ (free.held.attached.parties ∙ ap parties_of (config_then m at_try turn f.before free ∙ (ap (λ (x : About). x.config) knew.about ∙ stands.of.config)))

    no-cell : (i : ℕ) → IsCell g i → i ≢ turn
    no-cell i cell is = let c = cell in omega (arith, c, is)

    no-bucket : (i : ℕ) → IsCell g i → ¬ IsBucket g i
    no-bucket i cell bucket = let c = cell in let b = bucket in omega (arith, c, b)

    abbrev news : List Mine
    news = mines_of turn (length f.before.history) (length f.tried.own.notes - passes_in es) es

    made-mine : q.own.mine ≡ p.own.mine ++ news
    made-mine = ap (λ (x : Place (Known C)). x.own.mine) f.gave ∙ ap (λ (l : List Mine). l ++ news) (f.tries.mine ∙ (took_is m turn (item.Shard f.before) p f.reached f.takes).mine)

    -- as many lines more as events
    long : (more : List Mine) → q.own.mine ≡ p.own.mine ++ more → length more ≡ length es
    long more is =
        omega (arith, ap length is, ap length made-mine, length-append p.own.mine more, length-append p.own.mine news)
        ∙ (mines_of_are turn (length f.before.history) (length f.tried.own.notes - passes_in es) es).long

    left : LeavesCells g p q
    left =
        let t = took_is m turn (item.Shard f.before) p f.reached f.takes in
        record {
          stays = feeds_stays m g turn es p q f;
          fronts = λ i cell.
              ap (λ (x : Place (Known C)). front_of i x.own.seen) f.gave
              ∙ (front_else turn i _ f.tried.own.seen (no-cell i cell)
              ∙ (f.tries.seen i (no-bucket i cell)
              ∙ (ap (front_of i) t.seen ∙ front_else turn i _ p.own.seen (no-cell i cell))));
          mine = λ j a cell at.
              elim (get-either p.own.mine news j a (subst (λ (l : List Mine). get_elem? l j ≡ some a) made-mine at)) [
                | inl old ↦ old
                | inr new ↦ absurd (no-cell a.turn cell ((mines_of_are turn (length f.before.history) (length f.tried.own.notes - passes_in es) es).each new.0 a new.1).0)
              ];
        }

    feeds-still : MadeBy (IsNumberOrCell g) g shard f.before es p q → AreOwn (parties_of g) p.number es → holds_through p.number f.before.now es p.own.ledger.holds ≡ p.own.ledger.holds
        → readings_through p.number es p.own.ledger.readings ≡ p.own.ledger.readings → StandsStill p q
    feeds-still made own holds readings = record {
      stands = stands-as p q stands left
          (ap (λ (x : Place (Known C)). x.own.ledger.holds) f.gave ∙ (ap (λ (l : Ledger). holds_through tried f.before.now es l.holds) same-ledger
          ∙ (ap (λ (n : ℕ). holds_through n f.before.now es p.own.ledger.holds) tried-number ∙ holds)))
          (ap (λ (x : Place (Known C)). x.own.ledger.readings) f.gave ∙ (ap (λ (l : Ledger). readings_through tried es l.readings) same-ledger
          ∙ (ap (λ (n : ℕ). readings_through n es p.own.ledger.readings) tried-number ∙ readings)))
          (ap (λ (x : Place (Known C)). x.own.ledger.claims) f.gave ∙ ap (λ (l : Ledger). l.claims) same-ledger)
          (made-sees g shard f.before es p q made stands.seen);
      left = left;
      same = own-same g shard es p q made.same.number (numbers-of (parties_of g) p.number es own) (makes-more g shard f.before es p q made (long made.news made.mine) stands.seen.own left.fronts) left;
      starts = grows g shard f.before es p q made;
    }

  -- ---- acts

  module _ (p q : Place (Known C)) (stands : Stands cache p []) where
    abbrev n : ℕ
    n = p.number

    act-still : (act : Act) → DoesAct m g act p q → StandsStill p q
    act-still (Picked shard blocks) d =
        let a = d.2 in
        let es : List Event = a.picks ++ event.FeedEnd n ∷ [] in
        let made = picks_made m g shard p q (parties shard p q stands es a.feeds) stands.of.config stands.seen (inl refl) a.picks a.scan a.feeds a.others in
        feeds-still shard p q stands es a.feeds made (λ z x at. let h = made.own z x at in (picks-number g n (nth_shard_turn g shard) a.picks a.scan z x at, h.1, h.2))
        (picks-hold g n (nth_shard_turn g shard) a.feeds.before.now a.picks p.own.ledger.holds a.scan) (picks-read g n (nth_shard_turn g shard) a.picks p.own.ledger.readings a.scan)
    act-still (Unpicked shard) d = feeds-still shard p q stands [] d (feeds_made m g shard [] p q stands.of.config stands.seen d (own-wider g n [] (own-none n))) (own-none n) refl refl
    act-still (Cleared k x) d = event-still k p q stands (event.Clear n k) refl refl d.0 refl refl
    act-still (Absent k x) d = none-still k p q stands d.1.0
    act-still (Refused k x) d = none-still k p q stands d
    act-still (Placed k x) d = event-still k p q stands (event.Set n k x) refl refl d refl refl
    act-still (Left k w) d = event-still k p q stands (event.Leave n k w) refl refl d refl refl

  pub acts-still : (acts : List Act) (p q : Place (Known C)) → Stands cache p [] → DoesActs m g acts p q → StandsStill p q
  acts-still [] p q stands is = still-same p q stands is
  acts-still (act ∷ acts) p q stands did = let one = act-still p did.0 stands act did.1 in still-then p did.0 q one (acts-still acts did.0 q one.stands did.2)

-- ---- the feeder between its lines

-- it may feed
pub settled-ready : {C : Type 0} (cache : Cache) (p : Place (Known C)) → IsSettledFeeder cache p → IsFeederReady cache p
settled-ready cache p feeder = record {
  on = record {
    valid = feeder.stands.valid;
    of = feeder.stands.of;
    feeder = feeder.number;
    look = λ i among. absurd (subst (IsAmong i) feeder.stands.free among);
    seen = feeder.stands.seen;
  };
  settled = feeder.settled;
}
