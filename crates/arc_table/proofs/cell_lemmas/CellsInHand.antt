-- What other calls leave of a cell in hand, and what a cell is that was just taken.
use Rattle.std.proofs.Common.{◌≡◌, ◌≢◌, if◌then◌else◌, ℕ, zero, suc, ◌<◌, ◌≤◌, nat_lt, List, [], ◌∷◌, ◌++◌, length, map, Bool, true, Some, refl, sym, ap, ◌∙◌, subst, inl, inr, arith}
use Rattle.std.specs.Prelude.{slice_index_or}
use Rattle.std.proofs.lemmas.Bool.Decides.{nat_tests}
use mathlib.Core.Option.{some, some-injective, some-ne-none}
use lib.ListN.{get_elem?}
use Rattle.blk_ptr.specs.declared.key.Key.{Key}
use Rattle.blk_ptr.specs.declared.ptr.Ptr.{Ptr}
use Rattle.arc_core.specs.Config.{IsConfig}
use Rattle.arc_core.specs.declared.config.Config.{Config}
use Rattle.arc_core.specs.declared.event.Event.{Event}
use Rattle.hash_chain.specs.Chain.{Chain}
use Rattle.turn_table.specs.declared.standing.Kept.{Kept}
use Rattle.turn_table.specs.Board.{IsAmong}
use Rattle.turn_table.specs.Moments.{Loses, WasFree}
use Rattle.turn_table.specs.Places.{AllShow, Place, gave_back, saw, took}
use Rattle.arc_table.specs.declared.about.About.{About}
use Rattle.arc_table.specs.declared.item.Item.{Item}
use Rattle.arc_table.specs.declared.item.Item.TheVariants as item
use Rattle.arc_table.specs.declared.view.Known.{Known}
use Rattle.arc_table.specs.declared.view.Ledger.{Ledger}
use Rattle.arc_table.specs.declared.view.Line.{Line}
use Rattle.arc_table.specs.declared.view.Line.TheVariants as line
use Rattle.arc_table.specs.pact.Attached.{IsShown}
use Rattle.arc_table.specs.Both.{Does}
use Rattle.arc_table.specs.Cells.{IsTakenCell, KeepsCell}
use Rattle.arc_table.specs.scans.Ending.{DoesRoomy}
use Rattle.arc_table.specs.Fronts.{StartsWith, front_of, item_at, list_at, without_item}
use Rattle.arc_table.specs.Geometry.{IsCell, bucket_turn, cell_number, parties_of, shard_turn}
use Rattle.arc_table.specs.Items.{Meanings, claims_in, lines_in}
use Rattle.arc_table.specs.pact.Logged.{IsSoundItem}
use Rattle.arc_table.specs.pact.Rule.{Pact}
use Rattle.arc_table.specs.scans.Scanning.{AllPairs, after_scan, gave_all, won_all}
use Rattle.arc_table.specs.pact.Scene.{Scene}
use Rattle.arc_table.specs.ShardGiving.{after_shard, buckets_in, holds_through, listed_after}
use Rattle.arc_table.specs.scans.Sparing.{turns_in}
use Rattle.arc_table.specs.TableLaws.{item_else, item_here, list_else, list_here, within}
use Rattle.arc_table.proofs.TableLaws.{front_else, front_here, without_else}
use Rattle.arc_table.specs.Views.{after_lost, after_same, after_won}
use Rattle.arc_table.proofs.Afterwards.{does_ledger}
use Rattle.arc_table.proofs.HoldEvents.{listed_now}
use Rattle.arc_table.proofs.Ranges.{bucket_range, shard_range}
use Rattle.arc_table.proofs.Reached.{SameButNotes, cell_recorded, loses_same, reached}
use Rattle.arc_table.proofs.scans.RoomyAfter.{does_roomy_ledger}
use Rattle.arc_table.proofs.scans.RoomyGives.{among_turns, cell_far, gave_listed}
use Rattle.arc_table.proofs.scans.Scans.{won_about, won_listed, won_records}
use Rattle.arc_table.proofs.ShardGives.{listed_at}

below : (x y : ℕ) → x < y → nat_lt x y ≡ true
below x y h = grind (arith, nat_tests)

-- ---- turns that are no cell's

module _ (g : Config) (valid : IsConfig g) (k : Key) (j : ℕ) (in_range : IsCell g j) where
  pub cell-no-shard : j ≢ shard_turn g k
  cell-no-shard = let a = (shard_range g k valid).0 in λ e. omega arith

  pub cell-no-bucket : j ≢ bucket_turn g k
  cell-no-bucket = let a = (bucket_range g k valid).0 in λ e. omega arith

-- ---- events without a scan

module _ {C : Type 0} (m : Meanings C) (g : Config) (valid : IsConfig g) (k : Key) (es : List Event) (p q : Place (Known C)) (same : p.own.about.config ≡ g) (d : Does m g k es p q) (j : ℕ) (in_range : IsCell g j) where
  not-shard : j ≢ shard_turn g k
  not-shard = cell-no-shard g valid k j in_range

  not-bucket : j ≢ bucket_turn g k
  not-bucket = cell-no-bucket g valid k j in_range

  pub cell-recorded : item_at j q.own.records ≡ item_at j p.own.records
  cell-recorded = ap (λ (x : Place (Known C)). item_at j x.own.records) d.makes.gave
      ∙ (without_else (bucket_turn g k) j ((bucket_turn g k, item.Bucket d.makes.given) ∷ without_item (shard_turn g k) d.reached.own.records) not-bucket
      ∙ (item_else (bucket_turn g k) j (item.Bucket d.makes.given) (without_item (shard_turn g k) d.reached.own.records) not-bucket
      ∙ (without_else (shard_turn g k) j d.reached.own.records not-shard
      ∙ (ap (item_at j) (reached m g k d.chain d.before p d.reached d.takes).records
      ∙ (item_else (shard_turn g k) j (item.Shard d.before) ((bucket_turn g k, item.Bucket d.chain) ∷ p.own.records) not-shard
      ∙ item_else (bucket_turn g k) j (item.Bucket d.chain) p.own.records not-bucket)))))

  listed-before : list_at j d.reached.own.listed ≡ list_at j p.own.listed
  listed-before = ap (list_at j) (reached m g k d.chain d.before p d.reached d.takes).listed
      ∙ (list_else (shard_turn g k) j [] ((bucket_turn g k, []) ∷ p.own.listed) not-shard ∙ list_else (bucket_turn g k) j [] p.own.listed not-bucket)

  pub cell-lists : IsAmong j p.held → list_at j q.own.listed ≡ holds_through (cell_number g j) d.before.now es (list_at j p.own.listed)
  cell-lists among = listed_now m g k d.chain d.before p d.reached d.takes same valid es q d.makes j among in_range ∙ ap (holds_through (cell_number g j) d.before.now es) listed-before

  pub cell-front : front_of j q.own.seen ≡ front_of j p.own.seen
  cell-front = ap (λ (x : Place (Known C)). front_of j x.own.seen) d.makes.gave
      ∙ (front_else (shard_turn g k) j (map line.Event d.makes.after.history) d.reached.own.seen not-shard
      ∙ (ap (front_of j) (reached m g k d.chain d.before p d.reached d.takes).seen
      ∙ (front_else (shard_turn g k) j (map line.Event d.before.history) _ not-shard ∙ front_else (bucket_turn g k) j [] p.own.seen not-bucket)))

  pub cell-kept : IsAmong j p.held → KeepsCell g j d.before.now es p q
  cell-kept among = record {
    recorded = cell-recorded;
    listed = cell-lists among;
    seen = cell-front;
    claims = ap (λ (l : Ledger). l.claims) (does_ledger m g valid k es p q same d);
  }

-- ---- events behind a scan

module _ {C : Type 0} where
  gave-records : (vs : List (ℕ × Chain)) (z : Place (Known C)) (j : ℕ) → ((x : ℕ) → IsAmong x (turns_in vs) → j ≢ x) → item_at j (gave_all vs z).own.records ≡ item_at j z.own.records
  gave-records [] z j far = refl
  gave-records (v ∷ vs) z j far = gave-records vs (gave_back z v.0 (after_same v.0 z.own)) j (λ x h. far x (inr h)) ∙ without_else v.0 j z.own.records (far v.0 (inl refl))

  gave-seen : (vs : List (ℕ × Chain)) (z : Place (Known C)) → (gave_all vs z).own.seen ≡ z.own.seen
  gave-seen [] z = refl
  gave-seen (v ∷ vs) z = gave-seen vs (gave_back z v.0 (after_same v.0 z.own))

  past-buckets : (vs : List (ℕ × Chain)) (rest : List (ℕ × Item C)) (j : ℕ) → ((x : ℕ) → IsAmong x (turns_in vs) → j ≢ x) → item_at j (buckets_in vs ++ rest) ≡ item_at j rest
  past-buckets [] rest j far = refl
  past-buckets (v ∷ vs) rest j far = item_else v.0 j (item.Bucket v.1) (buckets_in vs ++ rest) (far v.0 (inl refl)) ∙ past-buckets vs rest j (λ x h. far x (inr h))

module _ {C : Type 0} (m : Meanings C) where
  won-front : (vs : List (ℕ × Chain)) (w : Known C) (j : ℕ) → AllPairs (λ x b. j ≢ x) vs → front_of j (won_all m vs w).seen ≡ front_of j w.seen
  won-front [] w j far = refl
  won-front (v ∷ vs) w j far = won-front vs (after_won m v.0 (item.Bucket v.1) w) j far.1 ∙ front_else v.0 j [] w.seen far.0

module _ {C : Type 0} (m : Meanings C) (g : Config) (valid : IsConfig g) (k : Key) (e : Event) (p r : Place (Known C)) (same : p.own.about.config ≡ g) (d : DoesRoomy m g k e p r) (j : ℕ) (in_range : IsCell g j) where
  abbrev turn : ℕ
  turn = shard_turn g k

  abbrev es : List Event
  es = d.makes.passes ++ e ∷ []

  abbrev given : List (ℕ × Chain)
  given = d.makes.gives.given

  abbrev scanned : Place (Known C)
  scanned = after_scan m g turn (length d.before.history) d.makes.won d.makes.passes d.reached

  abbrev shard-given : Place (Known C)
  shard-given = gave_back scanned turn (after_shard m given turn d.before es d.makes.after scanned.own)

  no-shard : j ≢ turn
  no-shard = cell-no-shard g valid k j in_range

  no-bucket : j ≢ bucket_turn g k
  no-bucket = cell-no-bucket g valid k j in_range

  far-won : AllPairs (λ x b. j ≢ x) d.makes.won
  far-won = cell_far g j d.makes.won in_range d.makes.buckets

  far-given : (x : ℕ) → IsAmong x (turns_in given) → j ≢ x
  far-given x h = apart x (subst (IsAmong x) d.makes.gives.same h)
    where
      apart : (y : ℕ) → IsAmong y (bucket_turn g k ∷ turns_in d.makes.won) → j ≢ y
      apart y (inl is) far = no-bucket (far ∙ sym is)
      apart y (inr among) far = let a = (among_turns g y d.makes.won d.makes.buckets among).0 in let b = in_range in omega arith

  records-before : item_at j d.reached.own.records ≡ item_at j p.own.records
  records-before = ap (item_at j) (reached m g k d.chain d.before p d.reached d.takes).records
      ∙ (item_else turn j (item.Shard d.before) ((bucket_turn g k, item.Bucket d.chain) ∷ p.own.records) no-shard
      ∙ item_else (bucket_turn g k) j (item.Bucket d.chain) p.own.records no-bucket)

  lists-before : list_at j d.reached.own.listed ≡ list_at j p.own.listed
  lists-before = ap (list_at j) (reached m g k d.chain d.before p d.reached d.takes).listed
      ∙ (list_else turn j [] ((bucket_turn g k, []) ∷ p.own.listed) no-shard ∙ list_else (bucket_turn g k) j [] p.own.listed no-bucket)

  roomy-recorded : item_at j r.own.records ≡ item_at j p.own.records
  roomy-recorded = ap (λ (x : Place (Known C)). item_at j x.own.records) d.makes.gives.gave
      ∙ (gave-records given shard-given j far-given
      ∙ (past-buckets given (without_item turn scanned.own.records) j far-given
      ∙ (without_else turn j scanned.own.records no-shard ∙ (won_records m d.makes.won d.reached.own j far-won ∙ records-before))))

  roomy-lists : IsAmong j p.held → list_at j r.own.listed ≡ holds_through (cell_number g j) d.before.now es (list_at j p.own.listed)
  roomy-lists among =
      let t = reached m g k d.chain d.before p d.reached d.takes in
      let config : scanned.own.about.config ≡ g = ap (λ (a : About). a.config) (won_about m d.makes.won d.reached.own ∙ t.about) ∙ same in
      let there = cell_recorded m g k d.chain d.before p d.reached d.takes same valid j among in_range in
      let recorded : item_at j scanned.own.records ≡ Some there.0 = won_records m d.makes.won d.reached.own j far-won ∙ there.1 in
      let hs : List Ptr = list_at j scanned.own.listed in
      ap (λ (y : Place (Known C)). list_at j y.own.listed) d.makes.gives.gave
      ∙ (ap (list_at j) (gave_listed given shard-given)
      ∙ (listed_at scanned.own.about.config d.before.now es j scanned.own.records there.0 scanned.own.listed scanned.own.listed recorded
      ∙ (ap (λ (c : Config). listed_after c d.before.now es j hs) config
      ∙ (ap (λ (b : Bool). if b then holds_through (cell_number g j) d.before.now es hs else hs) (below j g.cells in_range)
      ∙ ap (holds_through (cell_number g j) d.before.now es) (won_listed m d.makes.won d.reached.own j far-won ∙ lists-before)))))

  roomy-front : front_of j r.own.seen ≡ front_of j p.own.seen
  roomy-front = ap (λ (x : Place (Known C)). front_of j x.own.seen) d.makes.gives.gave
      ∙ (ap (front_of j) (gave-seen given shard-given)
      ∙ (front_else turn j (map line.Event d.makes.after.history) scanned.own.seen no-shard
      ∙ (won-front m d.makes.won d.reached.own j far-won
      ∙ (ap (front_of j) (reached m g k d.chain d.before p d.reached d.takes).seen
      ∙ (front_else turn j (map line.Event d.before.history) _ no-shard ∙ front_else (bucket_turn g k) j [] p.own.seen no-bucket)))))

  pub cell-kept-roomy : IsAmong j p.held → KeepsCell g j d.before.now es p r
  cell-kept-roomy among = record {
    recorded = roomy-recorded;
    listed = roomy-lists among;
    seen = roomy-front;
    claims = ap (λ (l : Ledger). l.claims) (does_roomy_ledger m g valid k e p r same d);
  }

-- ---- a cell that was just taken

module _ {C : Type 0} (m : Meanings C) (g : Config) (i : ℕ) (c : C) (owners : List ℕ) (w : Known C) (p : Place (Known C)) (valid : IsConfig g) (same : p.own.about.config ≡ g) (in_range : IsCell g i)
    (lost : Loses (Pact m) (λ _. after_lost) i owners p (saw p w)) (free : WasFree (Pact m) (saw p w) i (item.Cell c)) where
  abbrev at_try : Place (Known C)
  at_try = saw p w

  knew : SameButNotes p.own w
  knew = loses_same m i owners p at_try lost

  abbrev scene : Scene C
  scene = free.held.scene

  shown : IsShown scene at_try.number at_try.own
  shown = free.held.attached.views at_try.number at_try.own free.stands.shows.0

  about-is : w.about ≡ scene.about
  about-is = shown.about

  config-is : scene.about.config ≡ g
  config-is = ap (λ (a : About). a.config) (sym about-is ∙ knew.about) ∙ same

  now-is : scene.now i ≡ item.Cell c
  now-is = (free.held.attached.free i (item.Cell c) free.turn).0

  sound-item : IsSoundItem m scene.about i (item.Cell c)
  sound-item = subst (IsSoundItem m scene.about i) now-is (free.held.logged.sound i)

  parties-are : length free.board.views ≡ parties_of g
  parties-are = free.held.attached.parties ∙ ap parties_of config-is

  claims-of : (n : ℕ) → n < parties_of g → m.claims c n ≡ list_at i (scene.ledger n).claims
  claims-of n few = ap (λ (v : Item C). claims_in m v n) (sym now-is)
      ∙ free.held.counted.claims i n (subst (λ (x : Config). IsCell x i) (sym config-is) in_range) (subst (λ (x : Config). n < parties_of x) (sym config-is) few)

  -- what a party that is known claims
  shown-claims : (n : ℕ) (u : Known C) → get_elem? free.board.views n ≡ some u → m.claims c n ≡ list_at i u.ledger.claims
  shown-claims n u knows = claims-of n (subst (λ (x : ℕ). n < x) parties-are (within free.board.views n u knows))
      ∙ ap (λ (l : Ledger). list_at i l.claims) (sym (free.held.attached.views n u knows).ledger)

  joined-claims : (j : ℕ) (ks : List (Kept (Known C))) (k : Kept (Known C)) → AllShow free.board.views ks → get_elem? ks j ≡ some k → m.claims c k.number ≡ list_at i k.view.ledger.claims
  joined-claims j [] k shows at = absurd (some-ne-none k (sym at))
  joined-claims zero (x ∷ xs) k shows at = subst (λ (y : Kept (Known C)). m.claims c y.number ≡ list_at i y.view.ledger.claims) (some-injective x k at) (shown-claims x.number x.view shows.0)
  joined-claims (suc j) (x ∷ xs) k shows at = joined-claims j xs k shows.1 at

  pub taken-cell : IsTakenCell m g i c p (took p i (after_won m i (item.Cell c) w))
  taken-cell = record {
    sound = sound-item.0;
    opening = sound-item.1 ∙ ap (λ (a : About). slice_index_or a.openings i []) (sym about-is);
    claims = shown-claims p.number w free.stands.shows.0;
    joined = λ j k at. joined-claims j p.joined k free.stands.shows.1 at;
    no_claims = λ n many. ap (λ (v : Item C). claims_in m v n) (sym now-is)
        ∙ free.held.counted.no_claims i n (subst (λ (x : Config). IsCell x i) (sym config-is) in_range) (subst (λ (x : Config). parties_of x ≤ n) (sym config-is) many);
    recorded = item_here i (item.Cell c) w.records;
    listed = list_here i (m.holds c) w.listed;
    seen = front_here i (map line.Entry (m.entries c)) w.seen;
    had = subst (λ (l : List Line). StartsWith l (front_of i p.own.seen)) (ap (lines_in m) now-is)
        (subst (λ (s : List (List Line)). StartsWith (lines_in m (scene.now i)) (front_of i s)) (sym shown.seen ∙ knew.seen) (free.held.logged.seen p.number i));
  }
