-- A feed's scan begins: what is so of a party that has taken a shard alone.
use Rattle.std.proofs.Common.{◌≡◌, ◌⊎◌, ℕ, ◌<◌, List, [], ◌∷◌, length, true, false, refl, sym, ap, ◌∙◌, subst, inl, inr, append-nil, arith}
use mathlib.Core.Option.{some}
use lib.ListN.{get_elem?}
use Rattle.arc_core.specs.declared.config.Config.{Config}
use Rattle.arc_core.specs.Config.{IsConfig}
use Rattle.arc_core.specs.declared.entry.Phase.{Phase}
use Rattle.arc_core.specs.declared.entry.Phase.TheVariants.{Idle, Picking, Writing}
use Rattle.arc_core.specs.declared.entry.Picked.{Picked}
use Rattle.arc_core.specs.ShardLog.{ShardLog, IsReplayed}
use Rattle.arc_core.specs.Sound.{fits_phase}
use Rattle.arc_core.specs.Step.{may_pick}
use Rattle.turn_table.specs.Board.{IsAmong}
use Rattle.turn_table.specs.Places.{Place, saw}
use Rattle.arc_table.specs.declared.about.About.{About}
use Rattle.arc_table.specs.declared.item.Item.{Item}
use Rattle.arc_table.specs.declared.item.Item.TheVariants as item
use Rattle.arc_table.specs.declared.picks.Feed.{Feed}
use Rattle.arc_table.specs.declared.view.Known.{Known}
use Rattle.arc_table.specs.declared.view.Ledger.{Ledger}
use Rattle.arc_table.specs.declared.view.Mine.{Mine}
use Rattle.arc_table.specs.declared.view.Note.{Note}
use Rattle.arc_table.specs.pact.Attached.{IsShown}
use Rattle.arc_table.specs.Both.{Takes}
use Rattle.arc_table.specs.Fronts.{item_at, list_at}
use Rattle.arc_table.specs.Geometry.{IsBucket, IsCell, IsShard, parties_of, shard_turn}
use Rattle.arc_table.specs.Items.{Meanings, shard_in}
use Rattle.arc_table.specs.pact.Logged.{IsSoundItem, IsSoundLog, is_picking}
use Rattle.arc_table.specs.feeder.Picking.{HasPicked, HasTried, nth_shard_turn}
use Rattle.arc_table.specs.scans.Scanning.{MayScan}
use Rattle.arc_table.specs.pact.Scene.{Scene}
use Rattle.arc_table.specs.TableLaws.{item_here, list_here, within}
use Rattle.arc_table.specs.Views.{under_of}
use Rattle.arc_table.proofs.cell_lemmas.CellGives.{note_within}
use Rattle.arc_table.proofs.HandHeads.{config_then, hand_entries, shard_then}
use Rattle.arc_table.proofs.Reached.{SameButNotes, Took, loses_same, took_is}

idle_is : (phase : Phase) (picks : List Picked) → fits_phase phase picks ≡ true → is_picking phase ≡ false → picks ≡ [] → phase ≡ Idle
idle_is Idle picks h s e = refl
idle_is Picking picks h s e = absurd (cc)
idle_is Writing [] h s e = absurd (let f : false ≡ true = h in cc)
idle_is Writing (x ∷ xs) h s e = absurd (cc)

module _ {C : Type 0} (m : Meanings C) (g : Config) (i : ℕ) (before : ShardLog) (p q : Place (Known C)) (t : Takes m i (item.Shard before) p q) (same : p.own.about.config ≡ g) (valid : IsConfig g) (range : IsShard g i)
    (cells : (j : ℕ) → IsAmong j p.held → IsCell g j) where
  abbrev then_is : Place (Known C)
  then_is = saw p t.knew

  knew : SameButNotes p.own t.knew
  knew = loses_same m i t.owners p (saw p t.knew) t.lost

  took : Took m i (item.Shard before) p q
  took = took_is m i (item.Shard before) p q t

  config : then_is.own.about.config ≡ g
  config = ap (λ (a : About). a.config) knew.about ∙ same

  abbrev scene : Scene C
  scene = t.free.held.scene

  shown : IsShown scene then_is.number then_is.own
  shown = t.free.held.attached.views then_is.number then_is.own t.free.stands.shows.0

  scene_config : scene.about.config ≡ g
  scene_config = config_then m then_is i before t.free ∙ config

  shard_is : scene.now i ≡ item.Shard before
  shard_is = shard_then m then_is i before t.free

  sound : IsSoundLog g before
  sound = subst (λ (c : Config). IsSoundLog c before) scene_config (subst (IsSoundItem m scene.about i) shard_is (t.free.held.logged.sound i))

  -- the number that it knows is its own
  pub own_number : q.own.number ≡ q.number
  own_number = took.own_number ∙ (sym knew.number ∙ (shown.number ∙ sym took.number))

  may : MayScan g i [] before q
  may = record {
    config = ap (λ (a : About). a.config) took.about ∙ same;
    number =
        let a : then_is.number < length t.free.board.views = within t.free.board.views then_is.number then_is.own t.free.stands.shows.0 in
        let b : length t.free.board.views ≡ parties_of scene.about.config = t.free.held.attached.parties in
        let c : parties_of scene.about.config ≡ parties_of g = ap parties_of scene_config in
        let d = took.number in
        omega arith;
    range = range;
    among = subst (IsAmong i) (sym took.held) (inl refl);
    recorded = ap (item_at i) took.records ∙ item_here i (item.Shard before) p.own.records;
    listed = ap (list_at i) took.listed ∙ list_here i [] p.own.listed;
    under = ap under_of took.records;
    sound = sound;
    entries = λ k e is. subst (λ (c : Config). i ≡ shard_turn c k) config (hand_entries m then_is i before t.free k e is);
    others = λ j among bucket. absurd (no_bucket j (subst (IsAmong j) took.held among) bucket);
    held = tt;
    first_known = tt;
    buckets = tt;
    fresh = λ j y a e is. subst (λ (x : List Note). y < length x) (sym (ap (λ (x : Place (Known C)). x.own.notes) t.took ∙ shown.notes))
        (note_within m scene t.free.held.logged t.free.held.passed then_is.number j y a (subst (λ (x : List Mine). get_elem? x j ≡ some a) (ap (λ (x : Place (Known C)). x.own.mine) t.took ∙ shown.mine) e) is);
  }
    where
      no_bucket : (j : ℕ) → (i ≡ j) ⊎ IsAmong j p.held → IsBucket g j → ⊥
      no_bucket j (inl e) bucket = let a = bucket.1 in let b = range.0 in omega arith
      no_bucket j (inr h) bucket = let a = cells j h in let b = bucket.0 in omega arith

  -- what the feeder has picked there is what it lists
  pub picked_there : p.number ≡ g.callers → before.now.picked ≡ list_at i p.own.ledger.picked
  picked_there feeds =
      let as_then : scene.ledger scene.about.config.callers ≡ p.own.ledger = ap scene.ledger (ap (λ (c : Config). c.callers) scene_config ∙ sym feeds) ∙ (sym shown.ledger ∙ knew.ledger) in
      ap (λ (v : Item C). (shard_in g v).picked) (sym shard_is)
      ∙ (ap (λ (c : Config). (shard_in c (scene.now i)).picked) (sym scene_config)
      ∙ (t.free.held.counted.picked i (subst (λ (c : Config). IsShard c i) (sym scene_config) range)
      ∙ ap (λ (l : Ledger). list_at i l.picked) as_then))

  pub begins : (f : Feed C) → f.turn ≡ i → f.shard ≡ before → f.before.value ≡ before → f.began.value ≡ q → f.len ≡ length before.history → before.now.picked ≡ [] → HasPicked g f q []
  begins f turn shard was began len none =
      let idle : before.now.phase ≡ Idle = idle_is before.now.phase before.now.picked sound.replayed.sound.feed sound.settled none in record {
        valid = valid;
        may = subst (λ (x : ℕ × (ShardLog × Place (Known C))). MayScan g x.0 [] x.1.0 x.1.1) (λ z. (sym turn z, (sym was z, sym began z))) may;
        idle = ap (λ (l : ShardLog). l.now.phase) was ∙ idle;
        tried = subst (λ (x : ℕ × (ShardLog × Place (Known C))). HasTried g x.0 x.1.0 [] x.1.1 q) (λ z. (sym turn z, (sym was z, sym began z))) record {
          table = refl;
          parties = refl;
          number = refl;
          joined = refl;
          held = refl;
          own_number = refl;
          about = refl;
          mine = refl;
          ledger = refl;
          recorded = may.recorded;
          under = may.under;
          listed = may.listed;
          records = λ j h. refl;
          lists = λ j h. refl;
          seen = λ j h. refl;
          notes = sym (append-nil q.own.notes);
        };
        picks = tt;
        others = tt;
        legal = refl;
        now = ap (λ (l : ShardLog). l.now) (shard ∙ sym was);
        history = ap (λ (l : ShardLog). l.history) (shard ∙ sym was) ∙ sym (append-nil f.before.value.history);
        opening = ap (λ (l : ShardLog). l.opening) (shard ∙ sym was);
        replayed = subst (λ (l : ShardLog). IsReplayed l) (sym shard) sound.replayed;
        entries = ap (λ (l : ShardLog). l.now.entries) (shard ∙ sym was);
        phase = ap (λ (l : ShardLog). may_pick l.now.phase) shard ∙ ap may_pick idle;
        long = len ∙ ap (λ (l : ShardLog). length l.history) (sym was);
      }

-- the turn of a shard by its number
pub nth_range : (g : Config) (s : ℕ) → s < g.shards → IsShard g (nth_shard_turn g s)
nth_range g s below = (omega arith, omega arith)

pub not_cell : (g : Config) (s : ℕ) (held : List ℕ) → s < g.shards → ((j : ℕ) → IsAmong j held → IsCell g j) → ¬ IsAmong (nth_shard_turn g s) held
not_cell g s held below cells among = let a = cells (nth_shard_turn g s) among in let b = (nth_range g s below).0 in omega arith
