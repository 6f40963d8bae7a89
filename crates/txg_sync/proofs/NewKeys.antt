-- The keys of a sync are new to the cache, where no key that was taken in before reaches past its place.
use Rattle.std.proofs.Common.{◌≡◌, ◌⊎◌, ℕ, ◌+◌, ◌≤◌, ◌<◌, Bool, true, false, not, ◌||◌, IsTrue, List, [], ◌∷◌, ◌++◌, length, map, refl, sym, ap, ◌∙◌, subst, inl, inr, arith}
use mathlib.Core.Logic.{dite}
use mathlib.Core.Option.{some-ne-none}
use native.Mathlib.Decide.{ℕ_discrete}
use Rattle.std.specs.List.{list_any}
use Rattle.std.proofs.lemmas.Bool.{false≢true}
use Rattle.std.proofs.lemmas.List.{append-nil}
use Rattle.blk_ptr.specs.Hash.{shard_of}
use Rattle.blk_ptr.specs.Key.{key_end}
use Rattle.blk_ptr.specs.Order.{key_eq}
use Rattle.blk_ptr.specs.declared.key.Key.{Key}
use Rattle.blk_ptr.proofs.Keys.{key_eq-is}
use Rattle.arc_core.specs.Config.{IsConfig}
use Rattle.arc_core.specs.Places.{takes_in}
use Rattle.arc_core.specs.PlainShard.{PlainShard, is_cell}
use Rattle.arc_core.specs.Replay.{is_legal_history}
use Rattle.arc_core.specs.Step.{after, is_new_here, legal}
use Rattle.arc_core.specs.declared.config.Config.{Config}
use Rattle.arc_core.specs.declared.event.Event.{Event}
use Rattle.arc_core.specs.declared.event.Event.TheVariants.{Pass, Hit, Miss, Arrive, Fail, Drop, Past, Hand, Insert, Release, Pick, FeedEnd, Set, Leave, Clear, Restore, Resize}
use Rattle.arc_core.proofs.Places.{taken-in}
use Rattle.arc_table.specs.Both.{Does}
use Rattle.arc_table.specs.Geometry.{cell_number, parties_of, shard_turn}
use Rattle.arc_table.specs.Seen.{AreOwnBy, IsNumberOrCell, MadeBy, events_in, seen_of}
use Rattle.arc_table.specs.Telling.{Tells, opening_of}
use Rattle.arc_table.specs.declared.front.Front.{Front}
use Rattle.arc_table.specs.declared.about.About.{About}
use Rattle.arc_table.specs.declared.view.Line.TheVariants as line
use Rattle.arc_table.proofs.OpeningLaws.{opening_sound}
use Rattle.arc_table.specs.scans.Ending.{DoesRoomy}
use Rattle.arc_table.specs.scans.Scanning.{ArePasses}
use Rattle.arc_table.proofs.MadeLemmas.{does-made}
use Rattle.arc_table.proofs.OwnLemmas.{made-all, made-sees}
use Rattle.arc_table.proofs.scans.RoomyLemmas.{roomy-made}
use Rattle.dbuf_state.proofs.IndexLemmas.{and-parts}
use Rattle.dbuf_cells.specs.Turns.{PartyPlace, dbuf_meanings}
use Rattle.txg_sync.specs.Items.{SyncItem, at_place, bytes_of_due, items_from, need_of}
use Rattle.txg_sync.specs.Laws.{EndsBelow, EndsInserted, NoneIsThere, SeesAlone}
use Rattle.txg_sync.specs.Turns.{InsertsItem, inserted, there}

-- ---- lists of events

events-are : (es : List Event) → events_in (map line.Event es) ≡ es
events-are [] = refl
events-are (e ∷ es) = ap (λ (l : List Event). e ∷ l) (events-are es)

bool-of : (b : Bool) → (b ≡ true) ⊎ (b ≡ false)
bool-of true = inl refl
bool-of false = inr refl

any-parts : (k : Key) (xs ys : List Event) → list_any (takes_in k) (xs ++ ys) ≡ true → (list_any (takes_in k) xs ≡ true) ⊎ (list_any (takes_in k) ys ≡ true)
any-parts k [] ys h = inr h
any-parts k (x ∷ xs) ys h = elim (bool-of (takes_in k x)) [
  | inl here ↦ inl (ap (λ (b : Bool). b || list_any (takes_in k) xs) here)
  | inr far ↦ elim (any-parts k xs ys (sym (ap (λ (b : Bool). b || list_any (takes_in k) (xs ++ ys)) far) ∙ h)) [
    | inl a ↦ inl (ap (λ (b : Bool). b || list_any (takes_in k) xs) far ∙ a)
    | inr b ↦ inr b
  ]
]

-- passes take nothing in
passes-none : (g : Config) (n turn : ℕ) (k : Key) (es : List Event) → ArePasses g n turn es → list_any (takes_in k) es ≡ true → ⊥
passes-none g n turn k [] are h = false≢true h
passes-none g n turn k (Pass a j owner ∷ es) are h = passes-none g n turn k es are.1 h
passes-none g n turn k (Hit a j t ∷ es) are h = absurd are
passes-none g n turn k (Miss a j t ∷ es) are h = absurd are
passes-none g n turn k (Arrive a j d from ∷ es) are h = absurd are
passes-none g n turn k (Fail a j at ∷ es) are h = absurd are
passes-none g n turn k (Drop a j ∷ es) are h = absurd are
passes-none g n turn k (Past a j kept ∷ es) are h = absurd are
passes-none g n turn k (Hand a j to ∷ es) are h = absurd are
passes-none g n turn k (Insert a j d t ∷ es) are h = absurd are
passes-none g n turn k (Release a j sole ∷ es) are h = absurd are
passes-none g n turn k (Pick a j ∷ es) are h = absurd are
passes-none g n turn k (FeedEnd a ∷ es) are h = absurd are
passes-none g n turn k (Set a j place ∷ es) are h = absurd are
passes-none g n turn k (Leave a j why ∷ es) are h = absurd are
passes-none g n turn k (Clear a j ∷ es) are h = absurd are
passes-none g n turn k (Restore a j place d ∷ es) are h = absurd are
passes-none g n turn k (Resize a c ∷ es) are h = absurd are

-- the last event of a legal history was legal
last-legal : (s : PlainShard) (es : List Event) (e : Event) → IsTrue (is_legal_history s (es ++ e ∷ [])) → (x : PlainShard) × IsTrue (legal x e)
last-legal s [] e h = (s, (and-parts (legal s e) _ h).0)
last-legal s (x ∷ es) e h = last-legal (after s x) es e (and-parts (legal s x) _ h).1

-- ---- one block

no-own : (g : Config) (n parties : ℕ) → AreOwnBy (IsNumberOrCell g) parties n []
no-own g n parties z e at = absurd (some-ne-none e (sym at))

module _ (g : Config) (valid : IsConfig g) (tick : ℕ) (x : SyncItem) (place : ℕ) (p q : PartyPlace) (at_place_is : x.ptr.key.offset ≡ place) (alone : SeesAlone g p) (below : EndsBelow g place p) where
  abbrev k : Key
  k = x.ptr.key

  abbrev e : Event
  e = Insert (cell_number g x.due.cell) k x.ptr.digest tick

  module _ (d : DoesRoomy dbuf_meanings g k e p q) where
    cell : IsTrue (is_cell (cell_number g x.due.cell))
    cell = let l = last-legal d.before.now d.makes.passes e d.makes.legal in (and-parts (is_cell (cell_number g x.due.cell)) _ l.1).0

    made : MadeBy (IsNumberOrCell g) g (shard_of g.shards k) d.before (d.makes.passes ++ e ∷ []) p q
    made = roomy-made dbuf_meanings g valid k e p q alone.config alone.seen (inl refl) (inr (omega arith), refl, cell) d

    pub now-alone : SeesAlone g q
    now-alone = record {
      config = ap (λ (a : About). a.config) made.same.about ∙ alone.config;
      all = made-all g (shard_of g.shards k) d.before (d.makes.passes ++ e ∷ []) p q made alone.all;
      seen = made-sees g (shard_of g.shards k) d.before (d.makes.passes ++ e ∷ []) p q made alone.seen;
    }

    here : seen_of g (shard_of g.shards k) q ≡ seen_of g (shard_of g.shards k) p ++ (d.makes.passes ++ e ∷ [])
    here = ap events_in made.here ∙ (events-are (d.before.history ++ (d.makes.passes ++ e ∷ []))
        ∙ ap (λ (l : List Event). l ++ (d.makes.passes ++ e ∷ [])) (made.found.whole ∙ (ap (λ (l : List Event). seen_of g (shard_of g.shards k) p ++ l) (made.found.alone alone.all) ∙ append-nil (seen_of g (shard_of g.shards k) p))))

    one : (j : Key) → list_any (takes_in j) (e ∷ []) ≡ true → key_end j ≤ place + k.size
    one j h = elim (bool-of (key_eq j k)) [
      | inl same ↦ let is : j ≡ k = key_eq-is j k same in let size = ap key_end is in omega arith
      | inr far ↦ absurd (false≢true (sym (ap (λ (b : Bool). b || false) far) ∙ h))
    ]

    pub now-below : EndsBelow g (place + k.size) q
    now-below shard j h = dite (ℕ_discrete shard (shard_of g.shards k))
        (λ is. elim (any-parts j (seen_of g (shard_of g.shards k) p) (d.makes.passes ++ e ∷ []) (sym (ap (list_any (takes_in j)) (ap (λ (n : ℕ). seen_of g n q) is ∙ here)) ∙ h)) [
          | inl before ↦ let b = below (shard_of g.shards k) j before in omega arith
          | inr now ↦ elim (any-parts j d.makes.passes (e ∷ []) now) [
            | inl pass ↦ absurd (passes-none g d.reached.number (shard_turn g k) j d.makes.passes d.makes.own pass)
            | inr last ↦ one j last
          ]
        ])
        (λ differs. let b = below shard j (sym (ap (list_any (takes_in j)) (ap events_in (made.others shard differs))) ∙ h) in omega arith)

  pub not-there : (front : Front) → Does dbuf_meanings g k [] p q → Tells (λ s. is_new_here k s ≡ false) g k p q front → 0 < k.size → ⊥
  not-there front d tells some =
      let made : MadeBy (IsNumberOrCell g) g (shard_of g.shards k) d.before [] p q = does-made dbuf_meanings g valid k [] p q alone.config alone.seen (no-own g p.number (parties_of g)) d in
      let told : seen_of g (shard_of g.shards k) q ≡ tells.events = ap events_in tells.seen ∙ events-are tells.events in
      let is : tells.events ≡ seen_of g (shard_of g.shards k) p =
      sym told ∙ (ap events_in made.here ∙ (events-are (d.before.history ++ []) ∙ (append-nil d.before.history
      ∙ (made.found.whole ∙ (ap (λ (l : List Event). seen_of g (shard_of g.shards k) p ++ l) (made.found.alone alone.all) ∙ append-nil (seen_of g (shard_of g.shards k) p)))))) in
      let any = taken-in (opening_of g) tells.events k (opening_sound g.c g.mintime g.bounds valid.amounts.c) tells.legal refl (ap not tells.so) in
      let b = below (shard_of g.shards k) k (ap (list_any (takes_in k)) (sym is) ∙ any) in
      omega arith

-- it was inserted, and those behind it are
one-more : (g : Config) → IsConfig g → (tick : ℕ) (x : SyncItem) (place last : ℕ) (xs : List SyncItem) (p r q : PartyPlace) → x.ptr.key.offset ≡ place → 0 < x.ptr.key.size → SeesAlone g p → EndsBelow g place p
    → InsertsItem g tick x p r → (SeesAlone g r → EndsBelow g (place + x.ptr.key.size) r → EndsInserted g tick last xs r q) → EndsInserted g tick last (x ∷ xs) p q
one-more g valid tick x place last xs p r q at some alone below (inserted held d) rest =
    let t = rest (now-alone g valid tick x place p r at alone below d) (now-below g valid tick x place p r at alone below d) in
    record { each = (r, d, t.each); held = (held, t.held); below = t.below; alone = t.alone }
one-more g valid tick x place last xs p r q at some alone below (there loose front d tells) rest = absurd (not-there g valid tick x place p r at alone below front d tells some)

-- ---- all blocks

pub none-there : NoneIsThere
none-there g held group tick next cells [] p q valid alone sized below all = record {
  each = all;
  held = tt;
  below = λ shard k h. let b = subst (EndsBelow g next) (sym all) below shard k h in omega arith;
  alone = subst (SeesAlone g) (sym all) alone;
}
none-there g held group tick next cells (due ∷ dues) p q valid alone sized below all =
    let size = length (bytes_of_due cells due) in
    let sum : (next + size) + need_of cells dues ≡ next + need_of cells (due ∷ dues) = omega arith in
    subst (λ (n : ℕ). EndsInserted g tick n (items_from held group next cells (due ∷ dues)) p q) sum
    (one-more g valid tick (at_place held group next cells due) next ((next + size) + need_of cells dues) (items_from held group (next + size) cells dues) p all.0 q refl sized.0 alone below all.1
    (λ a b. none-there g held group tick (next + size) cells dues all.0 q valid a sized.1 b all.2))
