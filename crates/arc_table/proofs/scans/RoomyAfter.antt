-- What a party is after a call with a scan: it is a party of the cache still, with the turns that it had. What it lists and what it has made follow the passes and the event.
use Rattle.std.proofs.Common.{◌≡◌, ◌==◌, if◌then◌else◌, ℕ, ◌-◌, List, [], ◌∷◌, ◌++◌, length, map, Bool, true, false, refl, sym, ap, ◌∙◌, subst, eq-eqb}
use Rattle.std.proofs.lemmas.Bool.{eqb-true}
use Rattle.blk_ptr.specs.declared.key.Key.{Key}
use Rattle.arc_core.specs.declared.config.Config.{Config}
use Rattle.arc_core.specs.Config.{IsConfig}
use Rattle.arc_core.specs.declared.event.Event.{Event}
use Rattle.arc_core.specs.declared.event.Event.TheVariants.{Miss, Pass}
use Rattle.hash_chain.specs.Chain.{Chain}
use Rattle.turn_table.specs.Board.{without}
use Rattle.turn_table.specs.Places.{Place, gave_back}
use Rattle.arc_table.specs.declared.about.About.{About}
use Rattle.arc_table.specs.declared.item.Item.TheVariants as item
use Rattle.arc_table.specs.declared.view.Known.{Known}
use Rattle.arc_table.specs.declared.view.Ledger.{Ledger}
use Rattle.arc_table.specs.declared.view.Line.TheVariants as line
use Rattle.arc_table.specs.declared.view.Mine.{Mine}
use Rattle.arc_table.specs.scans.Ending.{DoesRoomy}
use Rattle.arc_table.specs.Fronts.{front_of}
use Rattle.arc_table.specs.Geometry.{bucket_turn, shard_turn}
use Rattle.arc_table.specs.Items.{Meanings}
use Rattle.arc_table.specs.scans.Scanning.{ArePasses, added, after_scan, gave_all, notes_of, won_all}
use Rattle.arc_table.specs.ShardGiving.{after_shard, ledger_through, mines_of, passes_in, readings_through}
use Rattle.arc_table.specs.scans.Sparing.{turns_in}
use Rattle.arc_table.proofs.TableLaws.{front_here}
use Rattle.arc_table.specs.Views.{after_same, after_won}
use Rattle.arc_table.proofs.Afterwards.{Stays}
use Rattle.arc_table.proofs.Reached.{own_number_is, reached}
use Rattle.arc_table.proofs.scans.Scans.{won_about, won_mine}

-- ---- turns taken and given back

-- a list without the first of each of these, one after the other
abbrev without_all : List ℕ → List ℕ → List ℕ
without_all [] ks = ks
without_all (x ∷ xs) ks = without_all xs (without x ks)

-- the order doesn't matter
without_both : (x y : ℕ) (ks : List ℕ) → without x (without y ks) ≡ without y (without x ks)
without_both x y [] = refl
without_both x y (k ∷ ks) = by_tests (k == x) refl (k == y) refl (without_both x y ks)
  where
    head_is : (z : ℕ) (l : List ℕ) (b : Bool) → (k == z) ≡ b → without z (k ∷ l) ≡ (if b then l else k ∷ without z l)
    head_is z l b e = ap (λ (c : Bool). if c then l else k ∷ without z l) e

    same : (a b : ℕ) → (k == a) ≡ true → (k == b) ≡ true → a ≡ b
    same a b e f = sym (eqb-true k a e) ∙ eqb-true k b f

    by_tests : (b : Bool) → (k == x) ≡ b → (c : Bool) → (k == y) ≡ c → without x (without y ks) ≡ without y (without x ks) → without x (without y (k ∷ ks)) ≡ without y (without x (k ∷ ks))
    by_tests true ex true ey ih = let is = same x y ex ey in (λ z. without (is z) (without (sym is z) (k ∷ ks)))
    by_tests true ex false ey ih = ap (without x) (head_is y ks false ey) ∙ (head_is x (without y ks) true ex ∙ ap (without y) (sym (head_is x ks true ex)))
    by_tests false ex true ey ih = ap (without x) (head_is y ks true ey) ∙ (sym (head_is y (without x ks) true ey) ∙ ap (without y) (sym (head_is x ks false ex)))
    by_tests false ex false ey ih = ap (without x) (head_is y ks false ey) ∙ (head_is x (without y ks) false ex
        ∙ (ap (λ (l : List ℕ). k ∷ l) ih ∙ (sym (head_is y (without x ks) false ey) ∙ ap (without y) (sym (head_is x ks false ex)))))

without_last : (xs : List ℕ) (y : ℕ) (ks : List ℕ) → without_all xs (without y ks) ≡ without y (without_all xs ks)
without_last [] y ks = refl
without_last (x ∷ xs) y ks = ap (without_all xs) (without_both x y ks) ∙ without_last xs y (without x ks)

without_head : (x : ℕ) (ks : List ℕ) → without x (x ∷ ks) ≡ ks
without_head x ks = ap (λ (b : Bool). if b then ks else x ∷ without x ks) (eq-eqb x x refl)

-- buckets that were taken and given back leave what was held
given_added : (vs : List (ℕ × Chain)) (held : List ℕ) → without_all (turns_in vs) (added vs held) ≡ held
given_added [] held = refl
given_added (v ∷ vs) held = without_last (turns_in vs) v.0 (added vs (v.0 ∷ held)) ∙ (ap (without v.0) (given_added vs (v.0 ∷ held)) ∙ without_head v.0 held)

-- the shard, its key's bucket and the buckets of a scan
all_given : (won : List (ℕ × Chain)) (i j : ℕ) (held : List ℕ) → without_all (j ∷ turns_in won) (without i (added won (i ∷ (j ∷ held)))) ≡ held
all_given won i j held = without_last (turns_in won) j (without i (added won (i ∷ (j ∷ held))))
    ∙ (ap (without j) (without_last (turns_in won) i (added won (i ∷ (j ∷ held))) ∙ (ap (without i) (given_added won (i ∷ (j ∷ held))) ∙ without_head i (j ∷ held)))
    ∙ without_head j held)

-- ---- what giving buckets back leaves

module _ {C : Type 0} where
  -- but for the turns held and their records it changes nothing
  record GaveAll (vs : List (ℕ × Chain)) (p q : Place (Known C)) : Type 0 where
    pub table : q.table ≡ p.table
    pub parties : q.parties ≡ p.parties
    pub number : q.number ≡ p.number
    pub joined : q.joined ≡ p.joined
    pub held : q.held ≡ without_all (turns_in vs) p.held
    pub about : q.own.about ≡ p.own.about
    pub seen : q.own.seen ≡ p.own.seen
    pub mine : q.own.mine ≡ p.own.mine
    pub ledger : q.own.ledger ≡ p.own.ledger

  gave_leaves : (vs : List (ℕ × Chain)) (p : Place (Known C)) → GaveAll vs p (gave_all vs p)
  gave_leaves [] p = record { table = refl; parties = refl; number = refl; joined = refl; held = refl; about = refl; seen = refl; mine = refl; ledger = refl }
  gave_leaves (v ∷ vs) p = let h = gave_leaves vs (gave_back p v.0 (after_same v.0 p.own)) in
      record { table = h.table; parties = h.parties; number = h.number; joined = h.joined; held = h.held; about = h.about; seen = h.seen; mine = h.mine; ledger = h.ledger }

module _ {C : Type 0} (m : Meanings C) where
  won_ledger : (vs : List (ℕ × Chain)) (w : Known C) → (won_all m vs w).ledger ≡ w.ledger
  won_ledger [] w = refl
  won_ledger (v ∷ vs) w = won_ledger vs (after_won m v.0 (item.Bucket v.1) w)

  won_number : (vs : List (ℕ × Chain)) (w : Known C) → (won_all m vs w).number ≡ w.number
  won_number [] w = refl
  won_number (v ∷ vs) w = won_number vs (after_won m v.0 (item.Bucket v.1) w)

-- ---- the call

module _ {C : Type 0} (m : Meanings C) (g : Config) (valid : IsConfig g) (k : Key) (e : Event) (p r : Place (Known C)) (same : p.own.about.config ≡ g) (d : DoesRoomy m g k e p r) where
  abbrev i : ℕ
  i = shard_turn g k

  -- what was made: the passes, and then the event
  abbrev es : List Event
  es = d.makes.passes ++ e ∷ []

  abbrev scanned : Place (Known C)
  scanned = after_scan m g i (length d.before.history) d.makes.won d.makes.passes d.reached

  abbrev given_shard : Place (Known C)
  given_shard = gave_back scanned i (after_shard m d.makes.gives.given i d.before es d.makes.after scanned.own)

  left : GaveAll d.makes.gives.given given_shard r
  left = subst (GaveAll d.makes.gives.given given_shard) (sym d.makes.gives.gave) (gave_leaves d.makes.gives.given given_shard)

  pub does_roomy_stays : Stays p r
  does_roomy_stays =
      let t = reached m g k d.chain d.before p d.reached d.takes in record {
        table = left.table ∙ t.table;
        parties = left.parties ∙ t.parties;
        number = left.number ∙ t.number;
        joined = left.joined ∙ t.joined;
        held = left.held ∙ ((λ z. without_all (d.makes.gives.same z) (without i (added d.makes.won (t.held z)))) ∙ all_given d.makes.won i (bucket_turn g k) p.held);
        about = left.about ∙ (won_about m d.makes.won d.reached.own ∙ t.about);
      }

  -- its own lines are those that it had, and then the passes and the event, behind the history that it found; the passes have the notes that the scan took
  pub does_roomy_mine : r.own.mine ≡ p.own.mine ++ mines_of i (length d.before.history) (length (d.reached.own.notes ++ notes_of g i (length d.before.history) d.makes.passes) - passes_in es) es
  does_roomy_mine = left.mine ∙ ap (λ (l : List Mine). l ++ mines_of i (length d.before.history) (length scanned.own.notes - passes_in es) es)
      (won_mine m d.makes.won d.reached.own ∙ (reached m g k d.chain d.before p d.reached d.takes).mine)

  -- its holds, readings and picks follow them
  pub does_roomy_ledger : r.own.ledger ≡ ledger_through g.callers p.number i d.before.now es d.makes.after.now p.own.ledger
  does_roomy_ledger =
      let t = reached m g k d.chain d.before p d.reached d.takes in
      let config : scanned.own.about.config ≡ g = ap (λ (a : About). a.config) (won_about m d.makes.won d.reached.own ∙ t.about) ∙ same in
      let number : scanned.own.number ≡ p.number = won_number m d.makes.won d.reached.own ∙ (own_number_is m g k d.chain d.before p d.reached d.takes same valid ∙ t.number) in
      left.ledger ∙ (λ z. ledger_through (config z).callers (number z) i d.before.now es d.makes.after.now ((won_ledger m d.makes.won d.reached.own ∙ t.ledger) z))

  -- it has seen all of the shard's history, the passes and the event included
  pub does_roomy_seen : front_of i r.own.seen ≡ map line.Event (d.before.history ++ es)
  does_roomy_seen = ap (front_of i) left.seen ∙ (front_here i (map line.Event d.makes.after.history) scanned.own.seen ∙ ap (map line.Event) d.makes.history)

-- ---- a miss

readings_then : (g : Config) (n i t : ℕ) (k : Key) (es : List Event) (ks : List Key) → ArePasses g n i es → readings_through n (es ++ Miss n k t ∷ []) ks ≡ k ∷ ks
readings_then g n i t k [] ks h = ap (λ (b : Bool). if b then k ∷ ks else ks) (eq-eqb n n refl)
readings_then g n i t k (Pass a x owner ∷ es) ks h = readings_then g n i t k es ks h.1
readings_then g n i t k (_ ∷ es) ks h = absurd h

module _ {C : Type 0} (m : Meanings C) (g : Config) (valid : IsConfig g) (k : Key) (t : ℕ) (p r : Place (Known C)) (same : p.own.about.config ≡ g) (d : DoesRoomy m g k (Miss p.number k t) p r) where
  -- the party reads the key from then on
  pub missed_readings : r.own.ledger.readings ≡ k ∷ p.own.ledger.readings
  missed_readings =
      let own : ArePasses g p.number (shard_turn g k) d.makes.passes = subst (λ (n : ℕ). ArePasses g n (shard_turn g k) d.makes.passes) (reached m g k d.chain d.before p d.reached d.takes).number d.makes.own in
      ap (λ (l : Ledger). l.readings) (does_roomy_ledger m g valid k (Miss p.number k t) p r same d) ∙ readings_then g p.number (shard_turn g k) t k d.makes.passes p.own.ledger.readings own
