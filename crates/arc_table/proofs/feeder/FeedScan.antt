-- A feed's scan: what each pick and each pass makes of it, and what is owed at its end.
use Rattle.std.proofs.Common.{◌≡◌, ◌≢◌, ℕ, zero, suc, ◌+◌, ◌-◌, ◌<◌, ◌≤◌, List, [], ◌∷◌, ◌++◌, length, take, drop, true, false, cond, Option, Some, None, refl, sym, ap, ◌∙◌, subst, inl, append-nil, append_assoc, length-append, arith}
use Rattle.std.specs.Prelude.{IsTrue}
use Rattle.std.specs.List.{AllByRecursion}
use Rattle.std.specs.Option.{option_and_then}
use Rattle.std.proofs.lemmas.List.Sums.{sum_by-cons}
use Rattle.std.proofs.lemmas.Option.{none-some}
use mathlib.Core.Option.{some, some-injective, some-ne-none}
use lib.ListN.{get_elem?}
use Rattle.blk_ptr.specs.declared.key.Key.{Key}
use Rattle.blk_ptr.specs.Key.{is_well_formed}
use Rattle.arc_lists.specs.ByKey as by_key
use Rattle.arc_lists.proofs.Tables.{item_at-key}
use Rattle.arc_core.specs.declared.config.Config.{Config}
use Rattle.arc_core.specs.declared.entry.Entry.{Entry}
use Rattle.arc_core.specs.declared.entry.Phase.{Phase}
use Rattle.arc_core.specs.declared.entry.Phase.TheVariants.{Idle, Picking, Writing}
use Rattle.arc_core.specs.declared.entry.Picked.{Picked}
use Rattle.arc_core.specs.declared.event.Event.{Event}
use Rattle.arc_core.specs.declared.event.Event.TheVariants.{FeedEnd, Pass, Pick}
use Rattle.arc_core.specs.Operations.{is_pass}
use Rattle.arc_core.specs.PlainShard.{PlainShard, entry_key, entry_of, numbers}
use Rattle.arc_core.specs.Replay.{replay}
use Rattle.arc_core.specs.ShardLog.{ShardLog, IsUnpicked, MayUnpick, is_scan}
use Rattle.arc_core.specs.Sound.{fits_phase}
use Rattle.arc_core.specs.Step.{after, legal, may_pick}
use Rattle.arc_core.proofs.Stepping.{legal-append, replay-append}
use Rattle.turn_table.specs.Board.{IsAmong}
use Rattle.turn_table.specs.declared.standing.Kept.{Kept}
use Rattle.turn_table.specs.Places.{Apart, IsOther, Place, gave_back}
use Rattle.arc_table.specs.declared.picks.Feed.{Feed}
use Rattle.arc_table.specs.declared.picks.Picked.{Picked as Block}
use Rattle.arc_table.specs.declared.view.Known.{Known}
use Rattle.arc_table.specs.declared.view.Mine.{Mine}
use Rattle.arc_table.specs.declared.view.Note.{Note}
use Rattle.arc_table.specs.Geometry.{bucket_turn, shard_turn}
use Rattle.arc_table.specs.InHand.{made_since}
use Rattle.arc_table.specs.Items.{Meanings}
use Rattle.arc_table.specs.pact.Logged.{is_picking}
use Rattle.arc_table.specs.feeder.Picking.{ArePicks, ArePicksOf, EndsFeed, HasNoted, HasPicked, HasTried, IsBlockOf, IsFeeding, IsPickOf, KeepsFeed}
use Rattle.arc_table.specs.scans.Scanning.{AreOfOthers, notes_of}
use Rattle.arc_table.specs.ShardGiving.{ArePassesNoted, IsActor, IsGivenShard, SameHead, after_shard, passes_in}
use Rattle.arc_table.specs.Views.{note}
use Rattle.arc_table.proofs.OneEvent.{made_is, same_head}
use Rattle.arc_table.proofs.scans.Scans.{others_more, replayed_more, replayed_same}
use Rattle.arc_table.proofs.ShardGives.{entry_sound}

-- ---- picks and passes

pub picks_more : (g : Config) (n i : ℕ) (es : List Event) (e : Event) → ArePicks g n i es → ArePicks g n i (e ∷ []) → ArePicks g n i (es ++ e ∷ [])
picks_more g n i [] e h one = one
picks_more g n i (Pass a k o ∷ es) e h one = (h.0, picks_more g n i es e h.1 one)
picks_more g n i (Pick a k ∷ es) e h one = (h.0, picks_more g n i es e h.1 one)
picks_more g n i (_ ∷ es) e h one = absurd h

pub notes_passed : (g : Config) (n i len : ℕ) (es : List Event) (a : ℕ) (k : Key) (owner : ℕ) → ArePicks g n i es → notes_of g i len (es ++ Pass a k owner ∷ []) ≡ notes_of g i len es ++ note (bucket_turn g k) owner (Some (i, len)) ∷ []
notes_passed g n i len [] a k owner h = refl
notes_passed g n i len (Pass b x o ∷ es) a k owner h = ap (λ (l : List Note). note (bucket_turn g x) o (Some (i, len)) ∷ l) (notes_passed g n i len es a k owner h.1)
notes_passed g n i len (Pick b x ∷ es) a k owner h = notes_passed g n i len es a k owner h.1
notes_passed g n i len (_ ∷ es) a k owner h = absurd h

pub notes_picked : (g : Config) (n i len : ℕ) (es : List Event) (a : ℕ) (k : Key) → ArePicks g n i es → notes_of g i len (es ++ Pick a k ∷ []) ≡ notes_of g i len es
notes_picked g n i len [] a k h = refl
notes_picked g n i len (Pass b x o ∷ es) a k h = ap (λ (l : List Note). note (bucket_turn g x) o (Some (i, len)) ∷ l) (notes_picked g n i len es a k h.1)
notes_picked g n i len (Pick b x ∷ es) a k h = notes_picked g n i len es a k h.1
notes_picked g n i len (_ ∷ es) a k h = absurd h

-- as many notes as passes
notes_count : (g : Config) (n i len b : ℕ) (es : List Event) → ArePicks g n i es → length (notes_of g i len es) ≡ passes_in (es ++ FeedEnd b ∷ [])
notes_count g n i len b [] h = refl
notes_count g n i len b (Pass a k o ∷ es) h =
    let s : passes_in (Pass a k o ∷ (es ++ FeedEnd b ∷ [])) ≡ 1 + passes_in (es ++ FeedEnd b ∷ []) = sum_by-cons (λ x. cond (is_pass x) 1 0) (Pass a k o) (es ++ FeedEnd b ∷ []) in
    let ih = notes_count g n i len b es h.1 in
    let l : length (notes_of g i len (Pass a k o ∷ es)) ≡ suc (length (notes_of g i len es)) = refl in
    omega arith
notes_count g n i len b (Pick a k ∷ es) h =
    let s : passes_in (Pick a k ∷ (es ++ FeedEnd b ∷ [])) ≡ 0 + passes_in (es ++ FeedEnd b ∷ []) = sum_by-cons (λ x. cond (is_pass x) 1 0) (Pick a k) (es ++ FeedEnd b ∷ []) in
    let ih = notes_count g n i len b es h.1 in
    let l : length (notes_of g i len (Pick a k ∷ es)) ≡ length (notes_of g i len es) = refl in
    omega arith
notes_count g n i len b (_ ∷ es) h = absurd h

get_behind : {A : Type 0} (xs : List A) (y : A) (ys : List A) → get_elem? (xs ++ y ∷ ys) (length xs) ≡ some y
get_behind [] y ys = refl
get_behind (x ∷ xs) y ys = get_behind xs y ys

length_more : {A : Type 0} (xs : List A) (y : A) → length (xs ++ y ∷ []) ≡ suc (length xs)
length_more [] y = refl
length_more (x ∷ xs) y = ap suc (length_more xs y)

all_noted : (g : Config) (n i len b : ℕ) (front : List Note) (es : List Event) → ArePicks g n i es → ArePassesNoted g i len (length front) (front ++ notes_of g i len es) (es ++ FeedEnd b ∷ [])
all_noted g n i len b front [] h = tt
all_noted g n i len b front (Pass a k o ∷ es) h =
    let x : Note = note (bucket_turn g k) o (Some (i, len)) in (
      get_behind front x (notes_of g i len es),
      subst (λ (y : ℕ × List Note). ArePassesNoted g i len y.0 y.1 (es ++ FeedEnd b ∷ [])) (λ z. (length_more front x z, append_assoc front (x ∷ []) (notes_of g i len es) z))
          (all_noted g n i len b (front ++ x ∷ []) es h.1),
    )
all_noted g n i len b front (Pick a k ∷ es) h = all_noted g n i len b front es h.1
all_noted g n i len b front (_ ∷ es) h = absurd h

some_key : (x y : Key) → ◌≡◌ {A = Option Key} (Some x) (Some y) → x ≡ y
some_key x y e = cc

no_key : (x : Key) → ◌≡◌ {A = Option Key} None (Some x) → ⊥
no_key x e = cc

-- who makes them
all_actors : (g : Config) (n i : ℕ) (held : List ℕ) (es : List Event) → n ≡ g.callers → ArePicks g n i es → (j : ℕ) (e : Event) → get_elem? (es ++ FeedEnd n ∷ []) j ≡ some e → IsActor g n held i e
all_actors g n i held [] feeds h zero e is = subst (IsActor g n held i) (some-injective (FeedEnd n) e is) record { acts = inl refl; fit = tt; feeder = λ x. feeds; own = λ k x. absurd (no_key k x) }
all_actors g n i held [] feeds h (suc j) e is = absurd (some-ne-none e (sym is))
all_actors g n i held (Pass a k o ∷ es) feeds h zero e is = subst (IsActor g n held i) (some-injective (Pass a k o) e is) record { acts = inl h.0.0; fit = h.0.0; feeder = λ x. absurd (cc); own = λ y x. h.0.1 ∙ ap (shard_turn g) (some_key k y x) }
all_actors g n i held (Pick a k ∷ es) feeds h zero e is = subst (IsActor g n held i) (some-injective (Pick a k) e is) record { acts = inl h.0.0; fit = tt; feeder = λ x. h.0.0 ∙ feeds; own = λ y x. h.0.1 ∙ ap (shard_turn g) (some_key k y x) }
all_actors g n i held (Pass a k o ∷ es) feeds h (suc j) e is = all_actors g n i held es feeds h.1 j e is
all_actors g n i held (Pick a k ∷ es) feeds h (suc j) e is = all_actors g n i held es feeds h.1 j e is
all_actors g n i held (_ ∷ es) feeds h j e is = absurd h

-- ---- one step of the scan

module _ {C : Type 0} (g : Config) (f : Feed C) (r : Place (Known C)) (es : List Event) (has : HasPicked g f r es) where
  -- the key of an entry is the shard's own
  pub own_key : (k : Key) (e : Entry) → entry_of k f.shard.now ≡ Some e → f.turn ≡ shard_turn g k
  own_key k e there = has.may.entries k e (ap (λ (xs : List Entry). by_key.item_at entry_key k xs) (sym has.entries) ∙ there)

  pub number_is : r.number ≡ f.began.value.number
  number_is = has.tried.number

  pub picked_step : (e : Event) (l : ShardLog) (t : Place (Known C)) → ArePicks g f.began.value.number f.turn (e ∷ []) → IsTrue (legal f.shard.now e) → l.now ≡ after f.shard.now e → l.history ≡ f.shard.history ++ e ∷ [] → l.opening ≡ f.shard.opening
      → (after f.shard.now e).entries ≡ f.shard.now.entries → IsTrue (may_pick (after f.shard.now e).phase)
      → HasTried g f.turn f.before.value (notes_of g f.turn (length f.before.value.history) (es ++ e ∷ [])) f.began.value t
      → AreOfOthers f.began.value (e ∷ []) → HasPicked g (record f { shard = l }) t (es ++ e ∷ [])
  picked_step e l t one ok now history opening entries phase tried others = record {
    valid = has.valid;
    may = has.may;
    idle = has.idle;
    tried = tried;
    picks = picks_more g f.began.value.number f.turn es e has.picks one;
    others = others_more f.began.value es e has.others others;
    legal = legal-append f.before.value.now es e has.legal (subst (λ (s : PlainShard). IsTrue (legal s e)) has.now ok);
    now = now ∙ (ap (λ (s : PlainShard). after s e) has.now ∙ sym (replay-append f.before.value.now es (e ∷ [])));
    history = history ∙ (ap (λ (h : List Event). h ++ e ∷ []) has.history ∙ append_assoc f.before.value.history es (e ∷ []));
    opening = opening ∙ has.opening;
    replayed = replayed_more e f.shard l has.replayed ok now history opening;
    entries = ap (λ (s : PlainShard). s.entries) now ∙ (entries ∙ has.entries);
    phase = ap (λ (s : PlainShard). may_pick s.phase) now ∙ phase;
    long = has.long;
  }

  -- only the room of the shard has changed
  pub picked_same : (l : ShardLog) → l.now ≡ f.shard.now → l.history ≡ f.shard.history → l.opening ≡ f.shard.opening → HasPicked g (record f { shard = l }) r es
  picked_same l now history opening = record {
    valid = has.valid;
    may = has.may;
    idle = has.idle;
    tried = has.tried;
    picks = has.picks;
    others = has.others;
    legal = has.legal;
    now = now ∙ has.now;
    history = history ∙ has.history;
    opening = opening ∙ has.opening;
    replayed = replayed_same f.shard l has.replayed now history opening;
    entries = ap (λ (s : PlainShard). s.entries) now ∙ has.entries;
    phase = ap (λ (s : PlainShard). may_pick s.phase) now ∙ has.phase;
    long = has.long;
  }

  -- ---- the end

  notes_before : (es' : List Event) → length r.own.notes ≡ length f.began.value.own.notes + length (notes_of g f.turn (length f.before.value.history) es)
  notes_before es' = ap length has.tried.notes ∙ length-append f.began.value.own.notes (notes_of g f.turn (length f.before.value.history) es)

  module _ (l : ShardLog) where
    pub ended : (n : ℕ) → n ≡ r.number → n ≡ g.callers → IsTrue (legal f.shard.now (FeedEnd n)) → l.now ≡ after f.shard.now (FeedEnd n) → l.history ≡ f.shard.history ++ FeedEnd n ∷ [] → l.opening ≡ f.shard.opening
        → IsGivenShard g r f.turn [] f.before.value (es ++ FeedEnd n ∷ []) l
    ended n number feeds ok now history opening =
        let len = length f.before.value.history in
        let count : passes_in (es ++ FeedEnd n ∷ []) ≡ length (notes_of g f.turn len es) = sym (notes_count g f.began.value.number f.turn len n es has.picks) in
        let all : length r.own.notes ≡ length f.began.value.own.notes + length (notes_of g f.turn len es) = notes_before es in
        let first : length r.own.notes - passes_in (es ++ FeedEnd n ∷ []) ≡ length f.began.value.own.notes = omega arith in
        let began : f.began.value.number ≡ n = sym (number ∙ number_is) in record {
          recorded = has.tried.recorded;
          listed = has.tried.listed;
          history = history ∙ (ap (λ (h : List Event). h ++ FeedEnd n ∷ []) has.history ∙ append_assoc f.before.value.history es (FeedEnd n ∷ []));
          opening = opening ∙ has.opening;
          replayed = replayed_more (FeedEnd n) f.shard l has.replayed ok now history opening;
          passed = ap (λ (s : PlainShard). s.passed) now;
          settled = ap (λ (s : PlainShard). is_picking s.phase) now ∙ not_picking f.shard.now.picked;
          actors = λ j e is. subst (λ (x : ℕ). IsActor g x r.held f.turn e) number (all_actors g n f.turn r.held es feeds (subst (λ (x : ℕ). ArePicks g x f.turn es) began has.picks) j e is);
          own_entries = λ k e there. own_key k e (ap (entry_of k) (sym now) ∙ there);
          in_hand = λ j b is. absurd (none-some b is);
          in_shard = λ k b is. absurd (none-some b is);
          heads_in = λ k b is. absurd (none-some b is);
          heads_out = λ k own is. subst (SameHead (entry_of k f.before.value.now)) (ap (λ (xs : List Entry). by_key.item_at entry_key k xs) (sym has.entries) ∙ ap (entry_of k) (sym now)) (same_head (entry_of k f.before.value.now));
          own_headers = λ j b k h is there. absurd (none-some b is);
          noted = subst (λ (x : ℕ × List Note). ArePassesNoted g f.turn len x.0 x.1 (es ++ FeedEnd n ∷ [])) (λ z. (sym first z, sym has.tried.notes z)) (all_noted g f.began.value.number f.turn len n f.began.value.own.notes es has.picks);
          fresh = λ j y a is note_is. let near = has.may.fresh j y a (ap (λ (xs : List Mine). get_elem? xs j) (sym has.tried.mine) ∙ is) note_is in omega arith;
        }
      where
        not_picking : (ps : List Rattle.arc_core.specs.declared.entry.Picked.Picked) → is_picking (Rattle.arc_core.specs.Changes.writing_phase ps) ≡ false
        not_picking [] = refl
        not_picking (x ∷ xs) = refl

    -- the picks and passes were taken back
    pub unended : l.now ≡ f.before.value.now → l.history ≡ f.before.value.history → l.opening ≡ f.before.value.opening → IsGivenShard g r f.turn [] f.before.value [] l
    unended now history opening =
        let all : length r.own.notes ≡ length f.began.value.own.notes + length (notes_of g f.turn (length f.before.value.history) es) = notes_before es in record {
          recorded = has.tried.recorded;
          listed = has.tried.listed;
          history = history ∙ sym (append-nil f.before.value.history);
          opening = opening;
          replayed = replayed_same f.before.value l has.may.sound.replayed now history opening;
          passed = ap (λ (s : PlainShard). s.passed) now ∙ has.may.sound.passed;
          settled = ap (λ (s : PlainShard). is_picking s.phase) now ∙ has.may.sound.settled;
          actors = λ j e is. absurd (some-ne-none e (sym is));
          own_entries = λ k e there. has.may.entries k e (ap (entry_of k) (sym now) ∙ there);
          in_hand = λ j b is. absurd (none-some b is);
          in_shard = λ k b is. absurd (none-some b is);
          heads_in = λ k b is. absurd (none-some b is);
          heads_out = λ k own is. subst (SameHead (entry_of k f.before.value.now)) (ap (entry_of k) (sym now)) (same_head (entry_of k f.before.value.now));
          own_headers = λ j b k h is there. absurd (none-some b is);
          noted = tt;
          fresh = λ j y a is note_is. let near = has.may.fresh j y a (ap (λ (xs : List Mine). get_elem? xs j) (sym has.tried.mine) ∙ is) note_is in omega arith;
        }

    -- the same of the events made since
    pub ended_since : (es' : List Event) → l.history ≡ f.before.value.history ++ es' → IsGivenShard g r f.turn [] f.before.value es' l → r.own.about.config ≡ g
        → IsGivenShard r.own.about.config r f.turn [] f.before.value (made_since f.before.value l) l
    ended_since es' history given config = subst (λ (x : Config × List Event). IsGivenShard x.0 r f.turn [] f.before.value x.1 l) (λ z. (sym config z, sym (made_is f.before.value l es' history) z)) given

-- a shard's turn is among those that the party holds
pub among_held : {C : Type 0} (g : Config) (f : Feed C) (r : Place (Known C)) (es : List Event) → HasPicked g f r es → IsAmong f.turn r.held
among_held g f r es has = subst (IsAmong f.turn) (sym has.tried.held) has.may.among

pub number_few : {C : Type 0} (g : Config) (f : Feed C) (r : Place (Known C)) (es : List Event) → HasPicked g f r es → r.number < numbers
number_few g f r es has = let a = has.may.number in let b = has.tried.number in let c = has.valid.counts.callers.1 in omega arith

-- the shard that was given back has the events and the picks
pub feed_end_is : {C : Type 0} (m : Meanings C) (g : Config) (f : Feed C) (r s : Place (Known C)) (es : List Event) (l : ShardLog) (n : ℕ) → HasPicked g f r es → n ≡ r.number → IsTrue (legal f.shard.now (FeedEnd n)) → l.now ≡ after f.shard.now (FeedEnd n) → l.history ≡ f.shard.history ++ FeedEnd n ∷ []
    → s ≡ gave_back r f.turn (after_shard m [] f.turn f.before.value (made_since f.before.value l) l r.own) → EndsFeed m f (es ++ FeedEnd r.number ∷ []) f.shard.now.picked r s
feed_end_is {C} m g f r s es l n has number ok now history gave =
    let grown : l.history ≡ f.before.value.history ++ (es ++ FeedEnd n ∷ []) = history ∙ (ap (λ (h : List Event). h ++ FeedEnd n ∷ []) has.history ∙ append_assoc f.before.value.history es (FeedEnd n ∷ [])) in
    subst (λ (x : ℕ). EndsFeed m f (es ++ FeedEnd x ∷ []) f.shard.now.picked r s) number record {
      after = l;
      legal = legal-append f.before.value.now es (FeedEnd n) has.legal (subst (λ (x : PlainShard). IsTrue (legal x (FeedEnd n))) has.now ok);
      now = now ∙ (ap (λ (x : PlainShard). after x (FeedEnd n)) has.now ∙ sym (replay-append f.before.value.now es (FeedEnd n ∷ [])));
      history = grown;
      picked_is = ap (λ (x : PlainShard). x.picked) now;
      gave = gave ∙ ap (λ (x : List Event). gave_back r f.turn (after_shard m [] f.turn f.before.value x l r.own)) (made_is f.before.value l (es ++ FeedEnd n ∷ []) grown);
    }

pub feed_none_is : {C : Type 0} (m : Meanings C) (f : Feed C) (r s : Place (Known C)) (l : ShardLog) → l.now ≡ f.before.value.now → l.history ≡ f.before.value.history → f.before.value.now.picked ≡ []
    → s ≡ gave_back r f.turn (after_shard m [] f.turn f.before.value (made_since f.before.value l) l r.own) → EndsFeed m f [] [] r s
feed_none_is {C} m f r s l now history none gave =
    let grown : l.history ≡ f.before.value.history ++ [] = history ∙ sym (append-nil f.before.value.history) in record {
      after = l;
      legal = refl;
      now = now;
      history = grown;
      picked_is = ap (λ (x : PlainShard). x.picked) now ∙ none;
      gave = gave ∙ ap (λ (x : List Event). gave_back r f.turn (after_shard m [] f.turn f.before.value x l r.own)) (made_is f.before.value l [] grown);
    }

-- ---- what a call of the scan keeps

pub keeps_shard : {C : Type 0} (f : Feed C) (l : ShardLog) → KeepsFeed f (record f { shard = l })
keeps_shard f l = record { turn = refl; before = refl; began = refl; had = refl; len = refl }

pub keeps_then : {C : Type 0} (a b c : Feed C) → KeepsFeed a b → KeepsFeed b c → KeepsFeed a c
keeps_then a b c f h = record { turn = h.turn ∙ f.turn; before = h.before ∙ f.before; began = h.began ∙ f.began; had = h.had ∙ f.had; len = h.len ∙ f.len }

-- ---- the picks and passes taken back

take_front : {A : Type 0} (xs ys : List A) → take (length xs) (xs ++ ys) ≡ xs
take_front [] ys = refl
take_front {A} (x ∷ xs) ys = ap (λ (l : List A). x ∷ l) (take_front xs ys)

drop_front : {A : Type 0} (xs ys : List A) → drop (length xs) (xs ++ ys) ≡ ys
drop_front [] ys = refl
drop_front (x ∷ xs) ys = drop_front xs ys

all_scan : (g : Config) (n i : ℕ) (es : List Event) → ArePicks g n i es → AllByRecursion (λ e. IsTrue (is_scan e)) es
all_scan g n i [] h = tt
all_scan g n i (Pass a k o ∷ es) h = (refl, all_scan g n i es h.1)
all_scan g n i (Pick a k ∷ es) h = (refl, all_scan g n i es h.1)
all_scan g n i (_ ∷ es) h = absurd h

no_picks : (phase : Phase) (picks : List Picked) → fits_phase phase picks ≡ true → phase ≡ Idle → picks ≡ []
no_picks phase [] h e = refl
no_picks Idle (x ∷ xs) h e = absurd (let f : false ≡ true = h in cc)
no_picks Picking (x ∷ xs) h e = absurd (cc)
no_picks Writing (x ∷ xs) h e = absurd (cc)

module _ {C : Type 0} (g : Config) (f : Feed C) (r : Place (Known C)) (es : List Event) (has : HasPicked g f r es) where
  front_is : take f.len f.shard.history ≡ f.before.value.history
  front_is = (λ z. take (has.long z) (has.history z)) ∙ take_front f.before.value.history es

  rest_is : drop f.len f.shard.history ≡ es
  rest_is = (λ z. drop (has.long z) (has.history z)) ∙ drop_front f.before.value.history es

  before_is : replay f.shard.opening (take f.len f.shard.history) ≡ f.before.value.now
  before_is = (λ z. replay (has.opening z) (front_is z)) ∙ has.may.sound.replayed.replayed

  pub may_unpick : MayUnpick f.len f.shard
  may_unpick = record {
    within = let a : length f.shard.history ≡ length f.before.value.history + length es = ap length has.history ∙ length-append f.before.value.history es in let b = has.long in omega arith;
    idle = ap (λ (s : PlainShard). s.phase) before_is ∙ has.idle;
    unpassed = ap (λ (s : PlainShard). s.passed) before_is ∙ has.may.sound.passed;
    scan = subst (AllByRecursion (λ e. IsTrue (is_scan e))) (sym rest_is) (all_scan g f.began.value.number f.turn es has.picks);
  }

  pub unpicked_now : (l : ShardLog) → IsUnpicked f.len f.shard l → l.now ≡ f.before.value.now
  unpicked_now l u = u.now ∙ before_is

  pub unpicked_history : (l : ShardLog) → IsUnpicked f.len f.shard l → l.history ≡ f.before.value.history
  unpicked_history l u = u.history ∙ front_is

  pub idle_picks : f.before.value.now.picked ≡ []
  idle_picks = no_picks f.before.value.now.phase f.before.value.now.picked has.may.sound.replayed.sound.feed has.idle

-- ---- the scan with the blocks

picks_of_more : (g : Config) (i : ℕ) (ps : List Picked) (xs : List Block) (p : Picked) (x : Block) → ArePicksOf g i ps xs → IsPickOf g i p x → ArePicksOf g i (ps ++ p ∷ []) (xs ++ x ∷ [])
picks_of_more g i [] [] p x h one = (one, tt)
picks_of_more g i (q ∷ ps) (y ∷ xs) p x h one = (h.0, picks_of_more g i ps xs p x h.1 one)
picks_of_more g i [] (y ∷ xs) p x h one = absurd h
picks_of_more g i (q ∷ ps) [] p x h one = absurd h

take_within : {A : Type 0} (n : ℕ) (xs ys : List A) → n ≤ length xs → take n (xs ++ ys) ≡ take n xs
take_within zero xs ys h = refl
take_within (suc n) [] ys h = absurd (omega arith)
take_within {A} (suc n) (x ∷ xs) ys h = ap (λ (l : List A). x ∷ l) (take_within n xs ys (omega arith))

module _ {C : Type 0} (g : Config) (f : Feed C) (r : Place (Known C)) (out : List Block) (h : IsFeeding g f r out) where
  pub feeding_same : (l : ShardLog) → l.now ≡ f.shard.now → l.history ≡ f.shard.history → l.opening ≡ f.shard.opening → IsFeeding g (record f { shard = l }) r out
  feeding_same l now history opening = record {
    es = h.es;
    scan = picked_same g f r h.es h.scan l now history opening;
    gained = h.gained;
    had = h.had;
    out_is = h.out_is;
    blocks = subst (λ (s : PlainShard). ArePicksOf g f.turn s.picked h.gained) (sym now) h.blocks;
  }

  pub feeding_tried : (t : Place (Known C)) → ((es : List Event) → HasPicked g f r es → HasPicked g f t es) → IsFeeding g f t out
  feeding_tried t moved = record { es = h.es; scan = moved h.es h.scan; gained = h.gained; had = h.had; out_is = h.out_is; blocks = h.blocks }

  -- a party that is another one now was so when the feed began
  other_began : (owner : ℕ) → IsOther owner r → IsOther owner f.began.value
  other_began owner other =
      let tried = h.scan.tried in
      (subst (λ (n : ℕ). owner < n) tried.parties other.0, subst (λ (n : ℕ). owner ≢ n) tried.number other.1, subst (λ (ks : List (Kept (Known C))). Apart owner ks) tried.joined other.2)

  module _ (k : Key) (n : ℕ) (l : ShardLog) (t : Place (Known C)) (x : Entry) (there : entry_of k f.shard.now ≡ Some x) (number : n ≡ t.number) where
    pub feeding_passed : (owner : ℕ) → IsOther owner r → ((es : List Event) → HasPicked g f r es → HasNoted g f t k owner es) → IsTrue (legal f.shard.now (Pass n k owner)) → l.now ≡ after f.shard.now (Pass n k owner) → l.history ≡ f.shard.history ++ Pass n k owner ∷ [] → l.opening ≡ f.shard.opening
        → IsFeeding g (record f { shard = l }) t out
    feeding_passed owner other noted ok now history opening =
        let at = (noted h.es h.scan).tried in
        let len = length f.before.value.history in record {
          es = h.es ++ Pass n k owner ∷ [];
          scan = picked_step g f r h.es h.scan (Pass n k owner) l t ((number ∙ at.number, own_key g f r h.es h.scan k x there), tt) ok now history opening refl h.scan.phase
              (subst (λ (ns : List Note). HasTried g f.turn f.before.value ns f.began.value t) (sym (notes_passed g f.began.value.number f.turn len h.es n k owner h.scan.picks)) at)
              (other_began owner other, tt);
          gained = h.gained;
          had = h.had;
          out_is = h.out_is;
          blocks = subst (λ (s : PlainShard). ArePicksOf g f.turn s.picked h.gained) (sym now) h.blocks;
        }

    pub feeding_picked : (b : Block) → ((es : List Event) → HasPicked g f r es → HasPicked g f t es) → b.key ≡ k → IsBlockOf k f.shard.now b.block.value → IsTrue (legal f.shard.now (Pick n k)) → l.now ≡ after f.shard.now (Pick n k) → l.history ≡ f.shard.history ++ Pick n k ∷ [] → l.opening ≡ f.shard.opening
        → IsFeeding g (record f { shard = l }) t (out ++ b ∷ [])
    feeding_picked b moved key block ok now history opening =
        let at = (moved h.es h.scan).tried in
        let len = length f.before.value.history in record {
          es = h.es ++ Pick n k ∷ [];
          scan = picked_step g f r h.es h.scan (Pick n k) l t ((number ∙ at.number, own_key g f r h.es h.scan k x there), tt) ok now history opening refl refl
              (subst (λ (ns : List Note). HasTried g f.turn f.before.value ns f.began.value t) (sym (notes_picked g f.began.value.number f.turn len h.es n k h.scan.picks)) at)
              tt;
          gained = h.gained ++ b ∷ [];
          had = let a : length (out ++ b ∷ []) ≡ length out + 1 = length-append out (b ∷ []) in let c = h.had in omega arith;
          out_is = ap (λ (xs : List Block). xs ++ b ∷ []) h.out_is ∙ (append_assoc (take f.had out) h.gained (b ∷ []) ∙ ap (λ (xs : List Block). xs ++ (h.gained ++ b ∷ [])) (sym (take_within f.had out (b ∷ []) h.had)));
          blocks = subst (λ (s : PlainShard). ArePicksOf g f.turn s.picked (h.gained ++ b ∷ [])) (sym now)
              (picks_of_more g f.turn f.shard.now.picked h.gained record { key = k; digest = option_and_then (λ e. e.digest) (entry_of k f.shard.now) } b h.blocks record { key = key; own = own_key g f r h.es h.scan k x there ∙ ap (shard_turn g) (sym key); formed = subst (λ (z : Key). IsTrue (is_well_formed z)) (item_at-key entry_key k f.shard.now.entries x there ∙ sym key) (entry_sound k f.shard.now.entries x h.scan.replayed.sound.tidy.entries there).key; digest = block.digest; size = block.size });
        }

    pub front_same : (b : Block) → take f.had (out ++ b ∷ []) ≡ take f.had out
    front_same b = take_within f.had out (b ∷ []) h.had
